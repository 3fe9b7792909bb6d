-- What is kept of a faulty machine in lockstep: own values, and what some processes have yet to write (nonblocking updates by IEEE 1364-2001, clause 9.2.2).
use Rattle.std.specs.Prelude.{◌≡◌, ℕ, not, List, [], ◌++◌, map, filter, Option, None}
use Rattle.std.specs.Option.{option_map}
use Rattle.four_value.specs.Values.{LogicValue}
use Rattle.v_design.specs.States.{State, LaterUpdate, TurnKind, PostponedTurn, UpdatesTurn, TimeTurn, is_due}
use Rattle.copy_laws.specs.Differences.{Differences, own_of, Ascend}
use Rattle.copy_laws.specs.Moves.{Within}
use Rattle.lockstep_index.specs.Writes.{OwnWrites, within_writes}

-- the objects with own values, and the processes with own updates; each process does what the good one does
pub record LockstepKept : Type 0 where
  pub values : ℕ → Option LogicValue
  pub writes : ℕ → Option OwnWrites

-- these as differences of a good state
abbrev pub kept_within : LockstepKept → State → Within
kept_within kept good = within_writes kept.values kept.writes good

-- own updates after a turn at a time: those that are due go into the lane
abbrev pub turned_writes : ℕ → TurnKind → OwnWrites → OwnWrites
turned_writes now PostponedTurn own = own
turned_writes now UpdatesTurn own = record {
  later = filter (λ later. not (is_due now later)) own.later;
  lane = own.lane ++ map (λ (later : LaterUpdate). later.update) (filter (is_due now) own.later);
}
turned_writes now (TimeTurn time) own = own

abbrev pub turned_kept : ℕ → TurnKind → LockstepKept → LockstepKept
turned_kept now turn kept = record { values = kept.values; writes = λ process. option_map (turned_writes now turn) (kept.writes process) }

-- what differences between two slots keep, where each lane is empty
abbrev pub kept_of : Differences → LockstepKept
kept_of d = record {
  values = own_of d.values;
  writes = λ process. option_map (λ (later : List LaterUpdate). record { later = later; lane = [] }) (own_of d.updates process);
}

-- lists that have just what is kept, each number once
pub record AreJustKept (kept : LockstepKept) (d : Differences) : Type 0 where
  pub values : (object : ℕ) → own_of d.values object ≡ kept.values object
  pub activities : (process : ℕ) → own_of d.activities process ≡ None
  pub updates : (process : ℕ) → own_of d.updates process ≡ option_map (λ (own : OwnWrites). own.later) (kept.writes process)
  pub values_ascend : Ascend d.values
  pub activities_ascend : Ascend d.activities
  pub updates_ascend : Ascend d.updates
