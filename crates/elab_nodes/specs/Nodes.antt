-- A node of a walk, from its outputs (IEEE 1364-2001, clauses 6, 7 and 9).
use Rattle.std.specs.Prelude.{List}
use Rattle.vf_base.specs.Lists.{AllHold}
use Rattle.v_design.specs.Designs.{FlatNode}
use Rattle.v_elab.specs.Parts.{Part}
use Rattle.v_elab.specs.Objects.{HeldObject}
use Rattle.v_elab.specs.Drivers.{WalkedNode}
use Rattle.v_elab.specs.Flat.{NodeOutput, node_kind, node_with}
use Rattle.flat_laws.specs.Sizes.WalkedNodes.{IsSizedKind}
use Rattle.elab_nodes.specs.Bases.{IsBasis}
use Rattle.sized_walks.specs.Texts.{AreSizedFunctions}
use Rattle.elab_nodes.specs.Inputs.{objects_written}
use Rattle.elab_nodes.specs.declared.basis.Basis.{Basis}

-- a node with some outputs
abbrev pub node_by : List Part → List HeldObject → List NodeOutput → WalkedNode → FlatNode
node_by parts objects outputs node = node_with objects node.name (node_kind parts objects outputs node.function) (objects_written outputs)

-- nodes that are sized over the objects of some parts, whatever they write
abbrev pub AreSizedOver : List Part → List HeldObject → List WalkedNode → Type 0
AreSizedOver parts objects nodes = (outputs : List NodeOutput) → AllHold (λ (node : WalkedNode). IsSizedKind (node_kind parts objects outputs node.function)) nodes

-- nodes that are sized over the objects whose names they are made over
pub record HasSizedNodes (basis : Basis) (nodes : List WalkedNode) : Type 0 where
  pub parts : List Part
  pub objects : List HeldObject
  pub basis_is : IsBasis parts objects basis
  pub sized : AreSizedOver parts objects nodes
  pub functions : AreSizedFunctions parts objects nodes
