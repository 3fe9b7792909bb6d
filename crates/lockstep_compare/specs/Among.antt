-- What is kept of some objects and processes that were compared (nothing of the language).
use Rattle.std.specs.Prelude.{◌≡◌, ℕ, ◌<◌, true, false, List, length, Option}
use Rattle.vf_base.specs.Lists.{has}
use Rattle.four_value.specs.Values.{LogicValue}
use Rattle.v_design.specs.Assignments.{value_at}
use Rattle.copy_laws.specs.Differences.{own_of}
use Rattle.lockstep_index.specs.Writes.{OwnWrites}
use Rattle.lockstep_copy.specs.Kept.{kept_by, TellsWrites}
use Rattle.lockstep_copy.specs.declared.own.LockstepCopy.{LockstepCopy}

-- what is kept under each of some numbers is as wanted, and under each other one what was kept
pub record AreKeptAmong {A : Type 0} (R : ℕ → Option A → Type 0) (numbers : List ℕ) (old new : List (ℕ × A)) : Type 0 where
  pub each : (number : ℕ) → has numbers number ≡ true → R number (own_of new number)
  pub others : (number : ℕ) → has numbers number ≡ false → own_of new number ≡ own_of old number

-- an object has a value in both machines, of one width
pub record AreComparable (good faulty : List LogicValue) (object : ℕ) : Type 0 where
  pub good_within : object < length good
  pub faulty_within : object < length faulty
  pub width : length (value_at good object) ≡ length (value_at faulty object)

-- nothing but values changes
pub record KeepsValuesAlone (old new : LockstepCopy) : Type 0 where
  pub fault : new.copy.fault ≡ old.copy.fault
  pub states : new.copy.states ≡ old.copy.states
  pub updates : new.copy.updates ≡ old.copy.updates
  pub lanes : new.lanes ≡ old.lanes

-- of some processes the updates are kept that aren't the good ones, and nothing else changes
pub record AreWritesKeptAmong (good faulty : ℕ → OwnWrites) (numbers : List ℕ) (old new : LockstepCopy) : Type 0 where
  pub fault : new.copy.fault ≡ old.copy.fault
  pub values : new.copy.values ≡ old.copy.values
  pub states : new.copy.states ≡ old.copy.states
  pub each : (process : ℕ) → has numbers process ≡ true → TellsWrites (good process) (faulty process) ((kept_by new).writes process)
  pub others : (process : ℕ) → has numbers process ≡ false → (kept_by new).writes process ≡ (kept_by old).writes process
