-- A walk through a unit whose names are spelled as names are is consistent where its nets, variables and memories are of few bits and its parameters have values, and the gates
-- of its design are sized and write what they may (IEEE 1364-2001, clause 7.1; clause 12.5 for names).
use Rattle.std.proofs.Common.{◌≡◌, ℕ, ◌≤◌, List, length, Some, Ok}
use Rattle.std.specs.Prelude.{slice_get}
use Rattle.vf_base.specs.Lists.{AllHold}
use Rattle.v_design.specs.CombinationalForm.{WritesOutputs}
use Rattle.v_design.specs.Designs.{FlatNodeKind, AssignNode, GateNode, BlockNode, FlatNode, FlatDesign, width_in}
use Rattle.v_design.specs.Sized.{most_bits}
use Rattle.v_design.specs.WellFormed.{IsSizedNode}
use Rattle.v_tree.specs.Trees.{SourceModule}
use Rattle.v_names.specs.Scopes.{range_width}
use Rattle.v_elab.specs.declared.Mode.{Mode}
use Rattle.v_elab.specs.Parts.{Part, SignalPart, MemoryPart, Signal, WalkedMemory}
use Rattle.v_elab.specs.Walk.{walked_from}
use Rattle.graph_order.specs.ListLaws.{AllHold-slice_get}
use Rattle.flat_laws.specs.Drivers.GateOutputs.{AllSettled, IsGate, parts-narrow, gates-one}
use Rattle.flat_laws.specs.Hierarchy.Given.{IsHierarchy}
use Rattle.flat_laws.specs.Lists.{AllHold-from}
use Rattle.flat_laws.specs.Made.{IsMadeOf}
use Rattle.flat_laws.specs.Names.Once.{names-once}
use Rattle.flat_laws.specs.Names.OnceDeclared.{IsNamedUnit}
use Rattle.flat_laws.specs.Rules.{IsConsistent}
use Rattle.flat_laws.specs.Sizes.NodeSizes.{IsSizedInside}

-- the nets, variables and memories of a walk are of few bits, and each parameter has a value
pub record IsBounded (modules : List SourceModule) (mode : Mode) (top : SourceModule) (parts : List Part) : Type 0 where
  pub signals : (i : ℕ) (signal : Signal) → slice_get parts i ≡ Some (SignalPart signal) → range_width signal.range ≤ most_bits
  pub memories : (i : ℕ) (memory : WalkedMemory) → slice_get parts i ≡ Some (MemoryPart memory) → range_width memory.range ≤ most_bits
  pub settled : AllSettled modules mode top

-- such a walk is consistent, since no two of its names are the same
pub bounded-consistent : (modules : List SourceModule) → IsNamedUnit modules → (mode : Mode) (top : SourceModule) → (k : ℕ) → slice_get modules k ≡ Some top → (parts : List Part) →
    walked_from modules mode top ≡ Ok parts → IsBounded modules mode top parts →
    IsConsistent modules mode top parts
bounded-consistent modules unit mode top k at parts e is = record { once = names-once modules unit mode top k at parts e; signals = is.signals; memories = is.memories; settled = is.settled }

gate-sized : (design : FlatDesign) (kind : FlatNodeKind) (outputs : List ℕ) → IsSizedInside kind → (length outputs ≤ 1) × AllHold (λ object. width_in design object ≡ 1) outputs → IsGate kind →
    IsSizedNode design kind outputs × WritesOutputs kind outputs
gate-sized design (AssignNode value places) outputs inside one gate = absurd gate
gate-sized design (GateNode kind terminals) outputs inside one gate = ((inside.0, inside.1, one.1), one.0)
gate-sized design (BlockNode statement) outputs inside one gate = absurd gate

-- the gates of a design that are sized inside are sized, with one output at most
pub gates-sized : (modules : List SourceModule) (mode : Mode) (top : SourceModule) (parts : List Part) → walked_from modules mode top ≡ Ok parts → AllSettled modules mode top →
    (design : FlatDesign) → IsMadeOf parts design → IsHierarchy parts →
    AllHold (λ (node : FlatNode). IsSizedInside node.kind) design.nodes → AllHold (λ (node : FlatNode). IsGate node.kind →
    IsSizedNode design node.kind node.outputs × WritesOutputs node.kind node.outputs) design.nodes
gates-sized modules mode top parts e settled design made hierarchy inside =
    let ones = gates-one parts design made hierarchy (parts-narrow modules mode top settled parts e) in
    AllHold-from (λ (node : FlatNode). IsGate node.kind → IsSizedNode design node.kind node.outputs × WritesOutputs node.kind node.outputs) design.nodes
    (λ i node at gate.
    gate-sized design node.kind node.outputs (AllHold-slice_get (λ (n : FlatNode). IsSizedInside n.kind) design.nodes i node inside at)
    (AllHold-slice_get (λ (n : FlatNode). IsGate n.kind → (length n.outputs ≤ 1) × AllHold (λ object. width_in design object ≡ 1) n.outputs) design.nodes i node ones at gate) gate)
