use Rattle.std.proofs.Common.{◌≡◌, map, take}
use Rattle.std.specs.Prelude.{None}
use Rattle.v_design.specs.Plain.{node_of}
use Rattle.v_elab.specs.Flat.{some_inputs_over}
use Rattle.node_order.proofs.order.some_crowded.Given as goal

abbrev pub invariant-nodes : goal.invariant-nodes
invariant-nodes l = some_inputs_over (map node_of (take l.node-index l.nodes)) ≡ None
