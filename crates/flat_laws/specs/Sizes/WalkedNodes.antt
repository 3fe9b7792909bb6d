-- The nodes of a walk are sized over the objects of its parts, also where these make no design (IEEE 1364-2001, clause 4.4 for expressions, clauses 6, 7 and 9 for nodes).
use Rattle.std.specs.Prelude.{◌≡◌, ℕ, List, Some, Ok, slice_get}
use Rattle.vf_base.specs.Lists.{AllHold}
use Rattle.v_design.specs.Trees.{Expressions, no_expressions, more_expressions}
use Rattle.v_design.specs.Sized.{IsSized, AreSizedAlone, IsSizedStatement}
use Rattle.v_design.specs.Designs.{FlatNodeKind, AssignNode, GateNode, BlockNode}
use Rattle.v_design.specs.WellFormed.{AreTerminals}
use Rattle.v_tree.specs.Trees.{SourceModule}
use Rattle.v_elab.specs.declared.Mode.{Mode}
use Rattle.v_elab.specs.Parts.{Part}
use Rattle.v_elab.specs.Walk.{walked_from}
use Rattle.v_elab.specs.Drivers.{WalkedNode}
use Rattle.v_elab.specs.Flat.{NodeOutput, node_kind}
use Rattle.graph_order.specs.ListLaws.{AllHold-slice_get}
use Rattle.flat_laws.specs.Made.{nodes_in, objects_in}
use Rattle.flat_laws.specs.Lists.{AllHold-from}
use Rattle.flat_laws.specs.Source.{IsSourceUnit}
use Rattle.flat_laws.specs.Rules.{consistent-hierarchy}
use Rattle.flat_laws.specs.Hierarchy.Visits.{parts-read}
use Rattle.flat_laws.specs.Names.OnceDeclared.{IsNamedUnit}
use Rattle.flat_laws.specs.Names.NamedUnits.{named-walks}
use Rattle.flat_laws.specs.Names.Placed.{scope-at}
use Rattle.flat_laws.specs.Sizes.NodeSizes.{IsSizedInside, AllPlaced, walked-sized}
use Rattle.flat_laws.specs.Drivers.AssignedNodes.{IsSizedValue, values-sized}

-- sizes and signs agree throughout what a node does
abbrev pub IsSizedKind : FlatNodeKind → Type 0
IsSizedKind (AssignNode value places) = IsSized value
IsSizedKind (GateNode kind terminals) = AreSizedAlone terminals
IsSizedKind (BlockNode statement) = IsSizedStatement statement

terminals-alone : (terminals : Expressions) → AreTerminals terminals → AreSizedAlone terminals
terminals-alone no_expressions h = tt
terminals-alone (more_expressions terminal rest) h = (h.0.0, h.0.1, terminals-alone rest h.2)

kind-sized : (kind : FlatNodeKind) → IsSizedInside kind → IsSizedValue kind → IsSizedKind kind
kind-sized (AssignNode value places) inside own = own
kind-sized (GateNode kind terminals) inside own = terminals-alone terminals inside.1
kind-sized (BlockNode statement) inside own = inside

-- so are the nodes of some parts, whatever they write
abbrev pub AreSizedNodes : List Part → Type 0
AreSizedNodes parts = (outputs : List NodeOutput) → AllHold (λ (node : WalkedNode). IsSizedKind (node_kind parts (objects_in parts) outputs node.function)) (nodes_in parts)

-- the nodes of each walk of a text are
pub named-nodes : (modules : List SourceModule) → IsSourceUnit modules → IsNamedUnit modules → (mode : Mode) (top : SourceModule) (k : ℕ) → slice_get modules k ≡ Some top → (parts : List Part) →
    walked_from modules mode top ≡ Ok parts → AreSizedNodes parts
named-nodes modules source named mode top k at parts e outputs =
    let walk = named-walks modules named mode k top parts at e in
    let hierarchy = consistent-hierarchy modules mode top parts e walk in
    let placed : AllPlaced modules mode top parts = λ path scope there. record { at = scope-at modules mode top parts e path scope there; settled = walk.settled path scope there } in
    let inside = walked-sized modules mode top parts hierarchy placed (parts-read modules mode top source k at parts e) outputs in
    let values = values-sized modules mode top parts e hierarchy outputs in
    AllHold-from (λ (node : WalkedNode). IsSizedKind (node_kind parts (objects_in parts) outputs node.function)) (nodes_in parts)
    (λ i node there.
    kind-sized (node_kind parts (objects_in parts) outputs node.function)
    (AllHold-slice_get (λ (n : WalkedNode). IsSizedInside (node_kind parts (objects_in parts) outputs n.function)) (nodes_in parts) i node inside there)
    (AllHold-slice_get (λ (n : WalkedNode). IsSizedValue (node_kind parts (objects_in parts) outputs n.function)) (nodes_in parts) i node values there))
