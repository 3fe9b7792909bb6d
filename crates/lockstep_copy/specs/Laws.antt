-- What is kept within a slot, over turns and at the slot's end (turns by IEEE 1364-2001, clause 5.3; nonblocking updates by clause 9.2.2).
use Rattle.std.specs.Prelude.{◌≡◌, ℕ, cond, [], List}
use Rattle.v_design.specs.Processes.{Activity}
use Rattle.v_design.specs.States.{ProcessState, TurnKind, UpdatesTurn, is_any}
use Rattle.copy_laws.specs.Differences.{Differences, Ascend}
use Rattle.lockstep_laws.specs.Lockstep.{due_times}
use Rattle.lockstep_laws.specs.Turning.{turned_process}
use Rattle.lockstep_index.specs.Writes.{OwnWrites}
use Rattle.lockstep_slots.specs.Kept.{turned_writes, AreJustKept}
use Rattle.lockstep_copy.specs.Kept.{kept_by}
use Rattle.lockstep_copy.specs.declared.own.LockstepCopy.{LockstepCopy}

-- own updates that are due at the times of the good ones, whose lane is empty: behind a turn they are turned just where the good lane has an update then, whichever turn it is
abbrev pub LanesTellTurns : Type 0
LanesTellTurns =
    (now : ℕ) (turn : TurnKind) (own : OwnWrites) (good : ProcessState) → due_times own.later ≡ due_times good.later → good.lane ≡ [] →
    turned_writes now turn own ≡ cond (is_any (turned_process now turn good).lane) (turned_writes now UpdatesTurn own) own

-- the differences that a copy of values and updates keeps
abbrev pub differences_kept : LockstepCopy → Differences
differences_kept own = record { values = own.copy.values; activities = []; updates = own.copy.updates }

-- they are just what is kept
abbrev pub KeptEnds : Type 0
KeptEnds = (own : LockstepCopy) → Ascend own.copy.values → Ascend own.copy.updates → AreJustKept (kept_by own) (differences_kept own)
