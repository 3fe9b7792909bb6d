-- A faulty machine in lockstep with the good one: the states differ in values and in what pending updates write, and in nothing else (IEEE 1364-2001, clause 5; nonblocking updates by clause 9.2.2).
use Rattle.std.specs.Prelude.{◌≡◌, ℕ, List, map, length, Some, None}
use Rattle.v_design.specs.Designs.{FlatDesign, StuckAt, good_machine, faulty_machine}
use Rattle.v_design.specs.States.{State, ProcessState, LaterUpdate, process_at}
use Rattle.v_design.specs.Accesses.{held_accesses}
use Rattle.v_design.specs.Runs.{first_event}
use Rattle.copy_laws.specs.Beside.{AreBeside}
use Rattle.copy_laws.specs.Moves.{Within, IsWithin, MayJump, apart_within}

-- the times at which some updates are due, in their order
abbrev pub due_times : List LaterUpdate → List ℕ
due_times updates = map (λ (later : LaterUpdate). later.time) updates

-- a faulty process differs from the good one in what its updates write alone: it does the same, its pending updates are due at the same times, and as many are in its lane
pub record DiffersInWrites (good own : ProcessState) : Type 0 where
  pub activity : own.activity ≡ good.activity
  pub due : due_times own.later ≡ due_times good.later
  pub lane : length own.lane ≡ length good.lane

-- the good state with these differences is the faulty one, at the same time; no node differs, and each process that does differs in what its updates write alone
pub record AreInLockstep (d : Within) (good faulty : State) : Type 0 where
  pub within : IsWithin d good faulty
  pub time : good.time ≡ faulty.time
  pub nodes : (number : ℕ) → d.nodes number ≡ None
  pub processes : (process : ℕ) (own : ProcessState) → d.processes process ≡ Some own → DiffersInWrites (process_at good process) own

-- The laws

-- two states in which each process does the same, side by side
pub record StandBeside (d : Within) (good faulty : State) : Type 0 where
  pub beside : AreBeside (apart_within d) good faulty
  pub jump : MayJump d good faulty
  -- the first order takes one next event in both
  pub first : first_event faulty ≡ first_event good
  -- each process, kept or not, differs in what its updates write alone
  pub processes : (process : ℕ) → DiffersInWrites (process_at good process) (process_at faulty process)

-- states in lockstep stand side by side
abbrev pub LockstepIsBeside : Type 0
LockstepIsBeside = (d : Within) (good faulty : State) → AreInLockstep d good faulty → StandBeside d good faulty

-- and a phase that begins in them holds the same entries in both
abbrev pub LockstepHolds : Type 0
LockstepHolds =
    (design : FlatDesign) (fault : StuckAt) (d : Within) (good faulty : State) → AreInLockstep d good faulty →
    held_accesses (good_machine design) good ≡ held_accesses (faulty_machine design fault) faulty
