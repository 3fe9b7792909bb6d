-- Where names differ and joined ports have one width, a flat design has its sizes: those of its objects and joined names, and throughout each node and process
-- (IEEE 1364-2001, clause 3.3 for objects, clause 4.4 for expressions, clauses 6, 7 and 9 for nodes and processes).
use Rattle.std.proofs.Common.{◌≡◌, ℕ, ◌<◌, ◌^◌, List, Ok, ap, subst, arith}
use Rattle.vf_base.specs.Lists.{AllHold}
use Rattle.v_design.specs.Designs.{FlatNodeKind, AssignNode, GateNode, BlockNode, FlatNode, FlatDesign}
use Rattle.v_design.specs.CombinationalForm.{WritesOutputs}
use Rattle.v_design.specs.Sites.{terminal_count}
use Rattle.v_design.specs.WellFormed.{IsSizedObject, IsSizedName, IsSizedNode}
use Rattle.v_tree.specs.Trees.{Identifier, SourceModule, SourceUnit}
use Rattle.v_elab.specs.declared.Mode.{Mode}
use Rattle.v_elab.specs.Parts.{Part, SignalPart, MemoryPart, AssignPart, GatePart, ProcessPart, InstancePart}
use Rattle.v_elab.specs.Flat.{flat}
use Rattle.graph_order.specs.ListLaws.{AllHold-slice_get}
use Rattle.flat_laws.specs.Made.{nodes_in, flat-made}
use Rattle.flat_laws.specs.Lists.{AllHold-from}
use Rattle.flat_laws.specs.Numbered.{AllHold-each}
use Rattle.flat_laws.specs.Limits.{design-objects}
use Rattle.flat_laws.specs.Sizes.Objects.{objects-sized, names-sized}
use Rattle.flat_laws.specs.Source.{IsSourceUnit}
use Rattle.flat_laws.specs.Hierarchy.Processes.{IsFaultlessPart}
use Rattle.flat_laws.specs.Sizes.Meant.{IsPlacedPart, IsProcessSized, processes-there}
use Rattle.flat_laws.specs.Hierarchy.Visits.{IsReadPart, parts-read}
use Rattle.flat_laws.specs.Names.Placed.{scope-at}
use Rattle.flat_laws.specs.Sizes.NodeSizes.{IsSizedInside, AllPlaced, nodes-sized}
use Rattle.flat_laws.specs.Hierarchy.Levelled.{named-module}
use Rattle.flat_laws.specs.Drivers.GateOutputs.{IsGate}
use Rattle.flat_laws.specs.Rules.{consistent-hierarchy, WalksAreConsistent}
use Rattle.flat_laws.specs.Names.Consistent.{gates-sized}
use Rattle.flat_laws.specs.Drivers.AssignedNodes.{IsAssignSized, assigns-sized}

pub record HasSizes (design : FlatDesign) : Type 0 where
  -- objects and joined names have the bits that their bounds span
  pub objects : AllHold IsSizedObject design.objects
  pub joined : AllHold (IsSizedName design) design.joined
  -- sizes and signs agree throughout each node
  pub nodes : AllHold (λ (node : FlatNode). IsSizedNode design node.kind node.outputs) design.nodes
  -- a gate has no more terminals than can be numbered
  pub terminals : AllHold (λ (node : FlatNode). terminal_count node.kind < 2 ^ 64) design.nodes
  -- processes are sized, and wait for bits of their objects
  pub processes : AllHold (IsProcessSized design) design.processes

node-sized : (design : FlatDesign) (kind : FlatNodeKind) (outputs : List ℕ) → IsSizedInside kind → IsAssignSized design kind outputs →
    (IsGate kind → IsSizedNode design kind outputs × WritesOutputs kind outputs) → IsSizedNode design kind outputs
node-sized design (AssignNode value places) outputs inside assign gate = assign
node-sized design (GateNode kind terminals) outputs inside assign gate = (gate tt).0
node-sized design (BlockNode statement) outputs inside assign gate = inside

node-terminals : (kind : FlatNodeKind) → IsSizedInside kind → terminal_count kind < 2 ^ 64
node-terminals (AssignNode value places) inside = omega arith
node-terminals (GateNode kind terminals) inside = inside.2
node-terminals (BlockNode statement) inside = omega arith

-- the flat design of such a unit is sized
abbrev pub ConsistentDesignsAreSized : Type 0
ConsistentDesignsAreSized = (unit : SourceUnit) (top : Identifier) (mode : Mode) (design : FlatDesign) → IsSourceUnit unit.modules → WalksAreConsistent unit.modules mode →
    flat unit top mode ≡ Ok design → HasSizes design

process-faultless : (modules : List SourceModule) (mode : Mode) (top : SourceModule) (part : Part) → IsReadPart modules mode top part → IsFaultlessPart part
process-faultless modules mode top (ProcessPart process) h = record { selects = h.selects; names = h.names; sizes = h.sizes }
process-faultless modules mode top (GatePart name kind drives path terminals) h = tt
process-faultless modules mode top (AssignPart drives value) h = tt
process-faultless modules mode top (SignalPart signal) h = tt
process-faultless modules mode top (MemoryPart memory) h = tt
process-faultless modules mode top InstancePart h = tt

process-placed : (modules : List SourceModule) (mode : Mode) (top : SourceModule) (parts : List Part) → AllPlaced modules mode top parts → (part : Part) → IsReadPart modules mode top part →
    IsPlacedPart parts part
process-placed modules mode top parts placed (ProcessPart process) h = placed process.path process.scope h.at
process-placed modules mode top parts placed (GatePart name kind drives path terminals) h = tt
process-placed modules mode top parts placed (AssignPart drives value) h = tt
process-placed modules mode top parts placed (SignalPart signal) h = tt
process-placed modules mode top parts placed (MemoryPart memory) h = tt
process-placed modules mode top parts placed InstancePart h = tt

pub consistent-sized : ConsistentDesignsAreSized
consistent-sized unit top mode design source consistent e =
    let is = flat-made unit top mode design e in
    let parts = is.parts in
    let made = is.made in
    let found = named-module unit.modules is.name is.top is.found in
    let walk = consistent found.0 is.top parts found.1 is.walk in
    let hierarchy = consistent-hierarchy unit.modules mode is.top parts is.walk walk in
    let placed : AllPlaced unit.modules mode is.top parts = λ path scope at. record { at = scope-at unit.modules mode is.top parts is.walk path scope at; settled = walk.settled path scope at } in
    let read = parts-read unit.modules mode is.top source found.0 found.1 parts is.walk in
    let objects = design-objects parts design made in
    let inside = nodes-sized unit.modules mode is.top parts design made hierarchy placed read in
    let assigns = assigns-sized unit.modules mode is.top parts design is.walk made hierarchy in
    let gates = gates-sized unit.modules mode is.top parts is.walk walk.settled design made hierarchy inside in
    record {
      objects = subst (AllHold IsSizedObject) objects (objects-sized parts (nodes_in parts) hierarchy);
      joined = subst (AllHold (IsSizedName design)) (ap (λ (d : FlatDesign). d.joined) made.is) (names-sized design parts (nodes_in parts) hierarchy objects);
      nodes =
          AllHold-from (λ (node : FlatNode). IsSizedNode design node.kind node.outputs) design.nodes
          (λ i node at.
          node-sized design node.kind node.outputs (AllHold-slice_get (λ (n : FlatNode). IsSizedInside n.kind) design.nodes i node inside at)
          (AllHold-slice_get (λ (n : FlatNode). IsAssignSized design n.kind n.outputs) design.nodes i node assigns at)
          (AllHold-slice_get (λ (n : FlatNode). IsGate n.kind → IsSizedNode design n.kind n.outputs × WritesOutputs n.kind n.outputs) design.nodes i node gates at));
      terminals = AllHold-each (λ (node : FlatNode). IsSizedInside node.kind) (λ (node : FlatNode). terminal_count node.kind < 2 ^ 64) design.nodes (λ node h. node-terminals node.kind h) inside;
      processes =
          processes-there parts design made hierarchy
          (AllHold-each (IsReadPart unit.modules mode is.top) (IsPlacedPart parts) parts (process-placed unit.modules mode is.top parts placed) read)
          (AllHold-each (IsReadPart unit.modules mode is.top) IsFaultlessPart parts (process-faultless unit.modules mode is.top) read);
    }
