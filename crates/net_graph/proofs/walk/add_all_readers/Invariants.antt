use Rattle.std.proofs.Common.{map, take}
use Rattle.vf_base.specs.Base.{object_number}
use Rattle.v_design.specs.PlainDesigns.{design_of}
use Rattle.net_graph.specs.Walks.{AddsReaders}
use Rattle.net_graph.proofs.walk.add_all_readers.Given as goal

abbrev pub invariant-objects : goal.invariant-objects
invariant-objects l = AddsReaders (design_of l.graph.design.now).nodes (map object_number (take l.object-index l.objects)) l.initial.walked l.walked
