-- So far the processes below the next one of which updates are kept are due alike.
use Rattle.std.proofs.Common.{◌≡◌, ℕ, ◌+◌, ◌<◌, length}
use Rattle.std.specs.Prelude.{option_map}
use Rattle.vf_base.specs.Base.{process_number}
use Rattle.copy_state.specs.Entries.{first_from}
use Rattle.lockstep_due.specs.Due.{IsDueAlike}
use Rattle.lockstep_due.proofs.Entries.{processes_left}
use Rattle.lockstep_due.proofs.due.are_due_alike.Given as goal

abbrev pub invariant-processes : goal.invariant-processes
invariant-processes g l = record {
  from : ℕ;
  next_is : option_map process_number l.next ≡ first_from from l.copy.updates;
  alike : (process : ℕ) → process < from → IsDueAlike g.N.World.design g.N.World.plan (l.window.before + l.slot) l.copy.updates process;
}

abbrev pub decreases-processes : goal.decreases-processes
decreases-processes g l = processes_left (length g.N.World.design.processes) l.next
