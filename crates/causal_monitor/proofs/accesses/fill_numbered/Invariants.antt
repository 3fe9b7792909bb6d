use Rattle.std.proofs.Common.{◌++◌, [], map, length}
use Rattle.v_design.specs.PlainDesigns.{design_of}
use Rattle.causal_monitor.specs.Counted.{Adds, held_at}
use Rattle.causal_monitor.proofs.AddLaws.{accesses_before}
use Rattle.causal_monitor.proofs.accesses.fill_numbered.Given as goal

abbrev pub invariant-events : goal.invariant-events
invariant-events l =
    Adds (length (design_of l.design).objects) (length l.log.log.events) [] l.list.items (map held_at l.log.log.held ++ accesses_before (design_of l.design) l.log.log l.event)
