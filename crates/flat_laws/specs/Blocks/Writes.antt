-- What the processes and blocks of a flat design name and write (IEEE 1364-2001, clause 9.2 and clause 9.7.5).
use Rattle.std.proofs.Common.{◌≡◌, ℕ, ◌≤◌, List, length, Ok}
use Rattle.vf_base.specs.Lists.{AllHold}
use Rattle.v_design.specs.Designs.{FlatNodeKind, AssignNode, GateNode, BlockNode, FlatNode, FlatDesign, width_in}
use Rattle.v_design.specs.CombinationalForm.{WritesOutputs}
use Rattle.v_tree.specs.Trees.{Identifier, SourceUnit}
use Rattle.v_elab.specs.declared.Mode.{Mode}
use Rattle.v_elab.specs.Flat.{flat}
use Rattle.graph_order.specs.ListLaws.{AllHold-slice_get}
use Rattle.flat_laws.specs.Made.{flat-made}
use Rattle.flat_laws.specs.Lists.{AllHold-from}
use Rattle.flat_laws.specs.Source.{IsSourceUnit}
use Rattle.flat_laws.specs.Hierarchy.Levelled.{named-module}
use Rattle.flat_laws.specs.Hierarchy.Processes.{IsNamed}
use Rattle.flat_laws.specs.Hierarchy.Visits.{parts-read}
use Rattle.flat_laws.specs.Drivers.GateOutputs.{IsGate, parts-narrow, gates-one}
use Rattle.flat_laws.specs.Rules.{consistent-hierarchy, WalksAreConsistent}
use Rattle.flat_laws.specs.Blocks.Written.{WritesVariables, processes-written}
use Rattle.flat_laws.specs.Blocks.BlockNodes.{IsBlockKind, all-named}
use Rattle.flat_laws.specs.Blocks.BlockWrites.{blocks-write}

pub record IsWritten (design : FlatDesign) : Type 0 where
  -- what a process names is there with its width, and it writes variables and words alone
  pub processes : AllHold (WritesVariables design) design.processes
  -- what a node names is there with its width, and its inputs are what it reads
  pub named : AllHold (IsNamed design) design.nodes
  -- a gate has one output at most; a block is of combinational form, and writes its outputs and nothing else
  pub outputs : AllHold (λ (node : FlatNode). WritesOutputs node.kind node.outputs) design.nodes

-- the flat design of a unit each of whose walks is consistent
abbrev pub ConsistentDesignsAreWritten : Type 0
ConsistentDesignsAreWritten = (unit : SourceUnit) (top : Identifier) (mode : Mode) (design : FlatDesign) → IsSourceUnit unit.modules → WalksAreConsistent unit.modules mode →
    flat unit top mode ≡ Ok design → IsWritten design

node-written : (design : FlatDesign) (kind : FlatNodeKind) (outputs : List ℕ) → (IsGate kind → (length outputs ≤ 1) × AllHold (λ object. width_in design object ≡ 1) outputs) →
    (IsBlockKind kind → WritesOutputs kind outputs) → WritesOutputs kind outputs
node-written design (AssignNode value places) outputs gate block = tt
node-written design (GateNode kind terminals) outputs gate block = (gate tt).0
node-written design (BlockNode statement) outputs gate block = block tt

pub consistent-written : ConsistentDesignsAreWritten
consistent-written unit top mode design source consistent e =
    let is = flat-made unit top mode design e in
    let parts = is.parts in
    let found = named-module unit.modules is.name is.top is.found in
    let walk = consistent found.0 is.top parts found.1 is.walk in
    let hierarchy = consistent-hierarchy unit.modules mode is.top parts is.walk walk in
    let gates = gates-one parts design is.made hierarchy (parts-narrow unit.modules mode is.top walk.settled parts is.walk) in
    let read = parts-read unit.modules mode is.top source found.0 found.1 parts is.walk in
    let blocks = blocks-write unit.modules mode is.top parts design is.walk is.made hierarchy read in
    record {
      processes = processes-written unit.modules mode is.top parts design is.walk is.made hierarchy read;
      named = all-named unit.modules mode is.top parts design is.walk is.made hierarchy read;
      outputs =
          AllHold-from (λ (node : FlatNode). WritesOutputs node.kind node.outputs) design.nodes
          (λ i node at.
          node-written design node.kind node.outputs (AllHold-slice_get (λ (n : FlatNode). IsGate n.kind → (length n.outputs ≤ 1) × AllHold (λ object. width_in design object ≡ 1) n.outputs)
          design.nodes i node gates at)
          (AllHold-slice_get (λ (n : FlatNode). IsBlockKind n.kind → WritesOutputs n.kind n.outputs) design.nodes i node blocks at));
    }
