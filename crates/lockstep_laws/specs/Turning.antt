-- Turns of two machines in lockstep (IEEE 1364-2001, clause 5.3).
use Rattle.std.specs.Prelude.{◌≡◌, ℕ, not, ◌++◌, map, filter}
use Rattle.std.specs.Option.{option_map}
use Rattle.v_design.specs.States.{State, ProcessState, LaterUpdate, TurnKind, PostponedTurn, UpdatesTurn, TimeTurn, resumed, awake_at, is_due, is_quiescent, turn_of, turned}
use Rattle.machine_laws.specs.SlotLoop.{IsIdle}
use Rattle.copy_laws.specs.Moves.{Within}
use Rattle.lockstep_laws.specs.Lockstep.{AreInLockstep}

-- a process after a turn at a time
abbrev pub turned_process : ℕ → TurnKind → ProcessState → ProcessState
turned_process now PostponedTurn process = record process { activity = resumed process.activity }
turned_process now UpdatesTurn process = record process {
  later = filter (λ later. not (is_due now later)) process.later;
  lane = process.lane ++ map (λ (later : LaterUpdate). later.update) (filter (is_due now) process.later);
}
turned_process now (TimeTurn time) process = record process { activity = awake_at time process.activity }

-- the differences after a turn at a time: the turn acts on each process that is kept as it stands, and leaves values and nodes
abbrev pub turned_within : ℕ → TurnKind → Within → Within
turned_within now turn d = record d { processes = λ process. option_map (turned_process now turn) (d.processes process) }

-- where no event is possible in the good machine none is in the faulty one, both come to the same turn, and after any turn they are in lockstep again
pub record TurnAlike (d : Within) (good faulty : State) : Type 0 where
  pub idle : IsIdle good → IsIdle faulty
  pub quiescent : is_quiescent faulty ≡ is_quiescent good
  pub turn : turn_of faulty ≡ turn_of good
  pub behind : (turn : TurnKind) → AreInLockstep (turned_within good.time turn d) (turned turn good) (turned turn faulty)

abbrev pub LockstepTurns : Type 0
LockstepTurns = (d : Within) (good faulty : State) → AreInLockstep d good faulty → TurnAlike d good faulty
