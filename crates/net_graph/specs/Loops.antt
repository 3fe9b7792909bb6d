-- Which objects reach themselves through nodes, and the ranks of nodes, in any list of nodes (continuous assignments and gates of IEEE 1364-2001, clause 6 and clause 7).
use Rattle.std.specs.Prelude.{◌≡◌, ℕ, ◌<◌, true, List, [], ◌∷◌, length, Some, slice_get}
use Rattle.vf_base.specs.Lists.{has, AllHold}
use Rattle.v_design.specs.Designs.{FlatNode}
use Rattle.v_design.specs.WellFormed.{rank_within}

-- some node has the one object as an input and the other as an output
pub record IsStep (nodes : List FlatNode) (from to : ℕ) : Type 0 where
  pub number : ℕ
  pub node : FlatNode
  pub is : slice_get nodes number ≡ Some node
  pub reads : has node.inputs from ≡ true
  pub drives : has node.outputs to ≡ true

-- from one object to another through nodes, over some objects between
abbrev pub IsPath : List FlatNode → ℕ → List ℕ → ℕ → Type 0
IsPath nodes from [] to = IsStep nodes from to
IsPath nodes from (next ∷ rest) to = IsStep nodes from next × IsPath nodes next rest to

-- an object reaches itself through nodes
abbrev pub IsLooping : List FlatNode → ℕ → Type 0
IsLooping nodes object = (between : List ℕ) × IsPath nodes object between object

-- the least object that reaches itself
pub record IsLeastLooping (nodes : List FlatNode) (object : ℕ) : Type 0 where
  pub loops : IsLooping nodes object
  pub least : (other : ℕ) → other < object → IsLooping nodes other → ⊥

-- the rank of a node: one more than the greatest rank of a node that drives one of its inputs, and 0 where there is none
abbrev pub rank_in : List FlatNode → FlatNode → ℕ
rank_in nodes node = rank_within (length nodes) nodes node

-- the inputs and outputs of nodes are among so many objects
abbrev pub AreAmong : ℕ → List FlatNode → Type 0
AreAmong objects nodes = AllHold (λ (node : FlatNode). AllHold (λ object. object < objects) node.inputs × AllHold (λ object. object < objects) node.outputs) nodes
