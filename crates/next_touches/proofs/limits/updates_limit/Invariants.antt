-- So far no process below the next one of which updates are kept takes a step.
use Rattle.std.proofs.Common.{◌≡◌, ℕ, ◌≤◌, length}
use Rattle.std.specs.Prelude.{option_map}
use Rattle.vf_base.specs.Base.{process_number}
use Rattle.copy_state.specs.Entries.{first_from}
use Rattle.block_skip.specs.Blocks.{StepsLeftAlone}
use Rattle.trace_window.specs.Moments.{window_events}
use Rattle.next_touches.specs.Touches.{AreStepsBy}
use Rattle.next_touches.proofs.Kept.{numbers_left}
use Rattle.next_touches.proofs.limits.updates_limit.Given as goal

abbrev pub invariant-processes : goal.invariant-processes
invariant-processes g l = record {
  low : l.least ≤ l.limit;
  from : ℕ;
  next_is : option_map process_number l.next ≡ first_from from l.copy.updates;
  alone : StepsLeftAlone (window_events g.N.World.design g.N.World.plan l.window.before l.window.through) l.copy.updates from l.first l.least;
  known : AreStepsBy g.N.World.design (window_events g.N.World.design g.N.World.plan l.window.before l.window.through) l.processes.items;
}

abbrev pub decreases-processes : goal.decreases-processes
decreases-processes g l = numbers_left (length g.N.World.design.processes) (option_map process_number l.next)
