-- What is kept of one process.
use Rattle.std.proofs.Common.{◌≡◌, ℕ, zero, suc, ◌<◌, List, [], ◌∷◌, length, map, refl, ap}
use Rattle.std.specs.Prelude.{Option, Some, None}
use Rattle.std.specs.Option.{option_map}
use Rattle.vf_base.specs.Lists.{change_at}
use Rattle.v_design.specs.Plain.{update_of}
use Rattle.v_design.specs.Designs.{FlatDesign}
use Rattle.v_design.specs.States.{State, ProcessState, LaterUpdate, found_or}
use Rattle.v_design.specs.declared.plan.Update.{Update}
use Rattle.copy_laws.specs.Differences.{own_of}
use Rattle.lockstep_index.specs.Writes.{OwnWrites, with_writes}
use Rattle.lockstep_copy.specs.Kept.{kept_by}
use Rattle.lockstep_copy.specs.declared.own.LockstepCopy.{LockstepCopy}
use Rattle.lockstep_exchange.specs.Putting.{KeptFits}

abbrev writes-by : List Update → Option (List LaterUpdate) → Option OwnWrites
writes-by lane found = option_map (λ (later : List LaterUpdate). record { later = later; lane = map update_of lane }) found

pub writes-some : (own : LockstepCopy) (process : ℕ) (later : List LaterUpdate) (lane : List Update) → own_of own.copy.updates process ≡ Some later →
    found_or [] (own_of own.lanes process) ≡ lane → (kept_by own).writes process ≡ Some (record { later = later; lane = map update_of lane })
writes-some own process later lane is lane_is = λ i. writes-by (lane_is i) (is i)

pub writes-none : (own : LockstepCopy) (process : ℕ) → own_of own.copy.updates process ≡ None → (kept_by own).writes process ≡ None
writes-none own process none = ap (writes-by (found_or [] (own_of own.lanes process))) none

-- with none the processes stay
pub change-none : (xs : List ProcessState) (n : ℕ) → change_at xs n (with_writes None) ≡ xs
change-none [] n = refl
change-none (x ∷ xs) zero = refl
change-none (x ∷ xs) (suc n) = ap (λ l. x ∷ l) (change-none xs n)

-- a process of which updates are kept is there
pub writes-there : (design : FlatDesign) (own : LockstepCopy) (state : State) (process : ℕ) (writes : OwnWrites) → KeptFits design state own → (kept_by own).writes process ≡ Some writes →
    process < length state.processes
writes-there design own state process writes fits is = go (own_of own.copy.updates process) refl
  where
    go : (found : Option (List LaterUpdate)) → own_of own.copy.updates process ≡ found → process < length state.processes
    go None e = let none : (kept_by own).writes process ≡ None = writes-none own process e in cc
    go (Some later) e = (fits.updates process later e).there
