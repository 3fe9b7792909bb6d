use Rattle.std.proofs.Common.{◌≡◌, map, take}
use Rattle.std.specs.List.{flat_map}
use Rattle.vf_base.specs.Base.{node_number}
use Rattle.v_design.specs.PlainDesigns.{design_of}
use Rattle.object_set.specs.Ordered.{with_objects}
use Rattle.reach_search.specs.Reach.{outputs_at}
use Rattle.reach_search.proofs.search.insert_successors.Given as goal

abbrev pub invariant-readers : goal.invariant-readers
invariant-readers l =
    l.found
    ≡ record l.initial.found { objects = with_objects l.initial.found.objects (flat_map (outputs_at (design_of l.graph.design.now)) (map node_number (take l.reader-index l.reader-items))) }
