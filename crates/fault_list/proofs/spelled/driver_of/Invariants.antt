use Rattle.std.proofs.Common.{◌≡◌, map, drop}
use Rattle.vf_base.specs.Base.{object_number}
use Rattle.v_design.specs.Designs.{FlatNode}
use Rattle.vf_base.specs.Lists.{has, first_place}
use Rattle.v_design.specs.Plain.{node_of}
use Rattle.fault_list.proofs.Drivers.{shifted}
use Rattle.fault_list.proofs.spelled.driver_of.Given as goal

abbrev pub invariant-nodes : goal.invariant-nodes
invariant-nodes l =
    first_place (λ (node : FlatNode). has node.outputs (object_number l.object)) (map node_of l.nodes)
    ≡ shifted l.number (first_place (λ (node : FlatNode). has node.outputs (object_number l.object)) (map node_of (drop l.number l.nodes)))
