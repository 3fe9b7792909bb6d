-- Each node of a flat design names what is there, and its inputs are what it reads (IEEE 1364-2001, clause 6.1, clause 7 and clause 9.7.5).
use Rattle.std.proofs.Common.{◌≡◌, ℕ, ◌+◌, List, [], ◌∷◌, Some, Ok, refl, sym, ap, ◌∙◌, subst, inl, inr, ◌⊎◌, arith}
use Rattle.std.specs.Prelude.{IsTrue, slice_get}
use Rattle.vf_base.specs.Lists.{has, AllHold}
use Rattle.v_design.specs.Designs.{FlatNodeKind, AssignNode, GateNode, BlockNode, FlatNode, FlatDesign}
use Rattle.v_design.specs.Reads.{node_reads, named_by_node}
use Rattle.v_design.specs.WellFormed.{have_widths}
use Rattle.v_tree.specs.Trees.{SourceModule}
use Rattle.v_elab.specs.declared.Mode.{Mode}
use Rattle.v_elab.specs.Parts.{WalkedProcess, Part, ProcessPart}
use Rattle.v_elab.specs.Walk.{walked_from}
use Rattle.v_elab.specs.Drivers.{NodeFunction, AssignFunction, GateFunction, BlockFunction, WalkedNode}
use Rattle.v_elab.specs.Statements.{statement_over, block_body}
use Rattle.v_elab.specs.Flat.{meaning_in, outputs_of, node_kind, flat_node}
use Rattle.graph_order.specs.ListLaws.{AllHold-slice_get}
use Rattle.flat_laws.specs.Made.{nodes_in, objects_in, flat_nodes_in, IsMadeOf}
use Rattle.flat_laws.specs.Lists.{AllHold-from}
use Rattle.flat_laws.specs.Numbered.{at-numbered}
use Rattle.flat_laws.specs.Limits.{each-node, design-objects}
use Rattle.flat_laws.specs.Drivers.OneDriver.{objects_of_outputs}
use Rattle.flat_laws.specs.Hierarchy.Given.{IsHierarchy}
use Rattle.flat_laws.specs.Blocks.Named.{IsAssignOrGate, inputs-are}
use Rattle.flat_laws.specs.Hierarchy.Processes.{IsNamed, nodes-named, objects-long}
use Rattle.flat_laws.specs.Hierarchy.Visits.{IsReadPart}
use Rattle.flat_laws.specs.Hierarchy.Behaviours.{block-part}
use Rattle.flat_laws.specs.Blocks.Formed.{IsKnownBlock, block-formed, block-within, block-fits}

abbrev pub IsBlockKind : FlatNodeKind → Type 0
IsBlockKind (AssignNode value places) = ⊥
IsBlockKind (GateNode kind terminals) = ⊥
IsBlockKind (BlockNode statement) = Unit {0}

-- the block of a node of the walk
pub known-block : (modules : List SourceModule) (mode : Mode) (top : SourceModule) (parts : List Part) → AllHold (IsReadPart modules mode top) parts →
    (number : ℕ) (node : WalkedNode) (process : WalkedProcess) →
    slice_get (nodes_in parts) number ≡ Some node → node.function ≡ BlockFunction process → IsKnownBlock modules mode top parts number node process
known-block modules mode top parts read number node process at function =
    let moves = block-part parts number node process at function in
    let text = AllHold-slice_get (IsReadPart modules mode top) parts moves.number (ProcessPart process) read moves.is in
    record { at = at; moves = moves; text = text; form = block-formed process.scope process.body moves.targets (text.form moves.targets moves.targets_is) }

-- what holds of each block that is known holds of each node that is one
pub each-block : (modules : List SourceModule) (mode : Mode) (top : SourceModule) (parts : List Part) (design : FlatDesign) (P : FlatNodeKind → FlatNode → Type 0) → IsMadeOf parts design →
    AllHold (IsReadPart modules mode top) parts →
    ((number : ℕ) (node : WalkedNode) (process : WalkedProcess) → IsKnownBlock modules mode top parts number node process →
    P (BlockNode (statement_over (meaning_in parts (objects_in parts) process) (block_body process.body))) (flat_node parts (objects_in parts) number node)) →
    AllHold (λ (node : FlatNode). IsBlockKind node.kind → P node.kind node) design.nodes
each-block modules mode top parts design P made read each =
    each-node (λ node. IsBlockKind node.kind → P node.kind node) parts design made
    (AllHold-from (λ (node : FlatNode). IsBlockKind node.kind → P node.kind node) (flat_nodes_in parts)
    (λ i node at.
    let r = at-numbered (flat_node parts (objects_in parts)) 0 (nodes_in parts) i node at in
    let same : 0 + i ≡ i = omega arith in
    subst (λ (n : FlatNode). IsBlockKind n.kind → P n.kind n) r.2 (by_function (0 + i) r.0 (ap (slice_get (nodes_in parts)) same ∙ r.1) r.0.function refl)))
  where
    by_function : (number : ℕ) (node : WalkedNode) → slice_get (nodes_in parts) number ≡ Some node → (function : NodeFunction) → node.function ≡ function →
        IsBlockKind (flat_node parts (objects_in parts) number node).kind → P (flat_node parts (objects_in parts) number node).kind (flat_node parts (objects_in parts) number node)
    by_function number node at (AssignFunction value) is which = absurd (subst (λ f. IsBlockKind (node_kind parts (objects_in parts) (outputs_of (objects_in parts) number) f)) is which)
    by_function number node at (GateFunction kind path terminals) is which = absurd (subst (λ f. IsBlockKind (node_kind parts (objects_in parts) (outputs_of (objects_in parts) number) f)) is which)
    by_function number node at (BlockFunction process) is which =
        subst (λ kind. P kind (flat_node parts (objects_in parts) number node)) (sym (ap (node_kind parts (objects_in parts) (outputs_of (objects_in parts) number)) is))
        (each number node process (known-block modules mode top parts read number node process at is))

-- a node of a kind names what is there, and its inputs are what it reads
abbrev NamedAs : FlatDesign → FlatNodeKind → FlatNode → Type 0
NamedAs design kind node = IsTrue (have_widths design (named_by_node kind)) × (node.kind ≡ kind → (object : ℕ) → has node.inputs object ≡ has (node_reads kind node.outputs) object)

blocks-named : (modules : List SourceModule) (mode : Mode) (top : SourceModule) (parts : List Part) (design : FlatDesign) → walked_from modules mode top ≡ Ok parts → IsMadeOf parts design →
    IsHierarchy parts → AllHold (IsReadPart modules mode top) parts →
    AllHold (λ (node : FlatNode). IsBlockKind node.kind → NamedAs design node.kind node) design.nodes
blocks-named modules mode top parts design e made hierarchy read =
    each-block modules mode top parts design (NamedAs design) made read
    (λ number node process block.
    let fits = block-fits modules mode top parts design e made hierarchy number node process block in
    let s = statement_over (meaning_in parts (objects_in parts) process) (block_body process.body) in
    let written = objects_of_outputs (outputs_of (objects_in parts) number) in
    let kind = node_kind parts (objects_in parts) (outputs_of (objects_in parts) number) node.function in (
      fits.0,
      λ is. subst (λ k. (object : ℕ) → has (flat_node parts (objects_in parts) number node).inputs object ≡ has (node_reads k written) object) is
          (inputs-are (objects_in parts) kind written
          (λ o e. objects-long parts design (design-objects parts design made) o (block-within design s written fits.0 o (ap (λ k. has (node_reads k written) o) (sym is) ∙ e)))),
    ))

which-kind : (kind : FlatNodeKind) → IsAssignOrGate kind ⊎ IsBlockKind kind
which-kind (AssignNode value places) = inl tt
which-kind (GateNode kind terminals) = inl tt
which-kind (BlockNode statement) = inr tt

both-named : (design : FlatDesign) (nodes : List FlatNode) → AllHold (λ (node : FlatNode). IsAssignOrGate node.kind → IsNamed design node) nodes →
    AllHold (λ (node : FlatNode). IsBlockKind node.kind → NamedAs design node.kind node) nodes →
    AllHold (IsNamed design) nodes
both-named design [] h k = tt
both-named design (node ∷ nodes) h k = (
  elim (which-kind node.kind) [
    | inl plain ↦ h.0 plain
    | inr block ↦ let r = k.0 block in record { names = r.0; inputs = r.1 refl }
  ],
  both-named design nodes h.1 k.1,
)

-- each node of a hierarchy
pub all-named : (modules : List SourceModule) (mode : Mode) (top : SourceModule) (parts : List Part) (design : FlatDesign) → walked_from modules mode top ≡ Ok parts → IsMadeOf parts design →
    IsHierarchy parts → AllHold (IsReadPart modules mode top) parts →
    AllHold (IsNamed design) design.nodes
all-named modules mode top parts design e made hierarchy read = both-named design design.nodes (nodes-named parts design made hierarchy)
    (blocks-named modules mode top parts design e made hierarchy read)
