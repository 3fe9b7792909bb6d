-- So far the processes below the next one of which updates are kept have turned.
use Rattle.std.proofs.Common.{◌≡◌, ℕ, length}
use Rattle.std.specs.Prelude.{option_map}
use Rattle.vf_base.specs.Base.{process_number}
use Rattle.copy_laws.specs.Differences.{Ascend}
use Rattle.copy_state.specs.Entries.{first_from}
use Rattle.lockstep_turn.proofs.Writes.{TurnedUpTo, processes_left}
use Rattle.lockstep_turn.proofs.turn.turn_all_writes.Given as goal

abbrev pub invariant-processes : goal.invariant-processes
invariant-processes g l = record {
  up : Ascend l.own.copy.updates;
  from : ℕ;
  next_is : option_map process_number l.next ≡ first_from from l.own.copy.updates;
  so : TurnedUpTo l.now from l.good.lanes l.fn.own l.own;
}

abbrev pub decreases-processes : goal.decreases-processes
decreases-processes g l = processes_left (length g.N.World.design.processes) l.next
