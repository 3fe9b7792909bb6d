use Rattle.std.proofs.Common.{map, take, length}
use Rattle.vf_base.specs.Lists.{joined}
use Rattle.v_design.specs.Logs.{settles_of, phase_changes}
use Rattle.v_design.specs.PlainDesigns.{design_of}
use Rattle.causal_monitor.specs.Notes.{noted_access}
use Rattle.causal_monitor.specs.Counted.{Adds, numbered_at}
use Rattle.causal_monitor.proofs.accesses.push_all_settled.Given as goal

abbrev pub invariant-accesses : goal.invariant-accesses
invariant-accesses l =
    Adds (length (design_of l.design).objects) (length l.log.log.events) l.initial.list.items l.list.items
    (map (numbered_at l.event) (joined (map (settles_of (design_of l.design) (phase_changes (design_of l.design) l.log.log)) (take l.noted-index (map noted_access l.accesses)))))
