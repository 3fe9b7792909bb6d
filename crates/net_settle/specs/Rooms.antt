-- The room in which the nodes of a design are evaluated, and what stands in it (nothing of the language).
use Rattle.std.specs.Prelude.{◌≡◌, ℕ, ◌≤◌, List, length, take, Some, slice_get, vec_len}
use Rattle.std.proofs.Common.{◌∙◌, arith}
use Rattle.four_value.specs.Values.{LogicValue}
use Rattle.v_design.specs.Designs.{FlatNode, FlatDesign}
use Rattle.node_eval.specs.Rooms.{room_size}
use Rattle.net_settle.specs.declared.work.NodeWork.{NodeWork}

-- the values that were put there last
abbrev pub values_put : NodeWork → List LogicValue
values_put work = take work.count work.results.items

-- the room is for a design: for the outputs of each of its nodes, and for its objects
pub record IsMadeFor (design : FlatDesign) (work : NodeWork) : Type 0 where
  pub outputs : (number : ℕ) (node : FlatNode) → slice_get design.nodes number ≡ Some node → length node.outputs ≤ vec_len work.results
  pub objects : room_size work.block ≡ length design.objects

-- one room is as large as another
pub record IsAsLarge (one other : NodeWork) : Type 0 where
  pub outputs : vec_len one.results ≡ vec_len other.results
  pub objects : room_size one.block ≡ room_size other.block

-- what is as large is for the same designs
pub made-alike : (design : FlatDesign) (one other : NodeWork) → IsAsLarge one other → IsMadeFor design other → IsMadeFor design one
made-alike design one other alike made = record {
  outputs = λ number node at. let few : length node.outputs ≤ vec_len other.results = made.outputs number node at in omega (arith, few, alike.outputs);
  objects = alike.objects ∙ made.objects;
}
