use Rattle.std.proofs.Common.{◌≡◌, ◌++◌, List, map, drop, length}
use Rattle.vf_base.specs.Lists.{map_numbered}
use Rattle.v_design.specs.Expressions.{up_from}
use Rattle.v_design.specs.Plain.{node_of}
use Rattle.v_elab.specs.Parts.{Part}
use Rattle.v_elab.specs.Objects.{HeldObject}
use Rattle.v_elab.specs.Flat as plain
use Rattle.elab_parts.specs.BehaviourViews as walked
use Rattle.object_names.specs.OutputViews.{output_lists}
use Rattle.elab_nodes.specs.Bases.{IsBasis}
use Rattle.elab_nodes.proofs.node.walked_nodes.Given as goal

abbrev pub invariant-nodes : goal.invariant-nodes
invariant-nodes l = (parts : List Part) (objects : List HeldObject) → IsBasis parts objects l.basis →
    output_lists l.outputs ≡ map (plain.outputs_of objects) (up_from 0 (length l.nodes)) →
    map node_of l.flats.items ++ map_numbered (plain.flat_node parts objects) l.number (map walked.node_of (drop l.number l.nodes)) ≡ plain.walked_nodes parts objects (map walked.node_of l.nodes)
