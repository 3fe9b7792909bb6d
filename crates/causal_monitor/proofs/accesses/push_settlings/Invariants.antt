use Rattle.std.proofs.Common.{map, take, length}
use Rattle.vf_base.specs.Base.{object_number}
use Rattle.v_design.specs.PlainDesigns.{design_of}
use Rattle.causal_monitor.specs.Notes.{noted_access}
use Rattle.causal_monitor.specs.Counted.{Adds, numbered_at, settling_of}
use Rattle.causal_monitor.proofs.accesses.push_settlings.Given as goal

abbrev pub invariant-nets : goal.invariant-nets
invariant-nets l =
    Adds (length (design_of l.design).objects) (length l.log.log.events) l.initial.list.items l.list.items
    (map (numbered_at l.event) (map (settling_of (noted_access l.write)) (map object_number (take l.net-index l.nets))))
