-- Rules that each flat design keeps: its limits, the order of its nodes and what drives its objects, and its levels; and what is asked of a walk for the sizes
-- (IEEE 1364-2001, clauses 6, 7 and 9 for nodes and processes, clause 12 for the hierarchy).
use Rattle.std.proofs.Common.{◌≡◌, ℕ, ◌<◌, ◌≤◌, false, List, [], length, Some, Ok, sym, subst}
use Rattle.std.specs.Prelude.{IsTrue, slice_get}
use Rattle.vf_base.specs.Lists.{has, without_repeats, AllHold}
use Rattle.v_design.specs.Designs.{FlatNode, FlatProcess, FlatDesign}
use Rattle.v_design.specs.Paths.{net_pieces}
use Rattle.v_design.specs.Sized.{levels_of_statement, most_bits}
use Rattle.v_design.specs.WellFormed.{most_parts, most_inputs, most_levels, levels_of_node, AreBelow, AreByRank}
use Rattle.v_tree.specs.Trees.{Identifier, SourceModule, SourceUnit}
use Rattle.v_names.specs.Scopes.{Scope, range_width}
use Rattle.v_elab.specs.declared.Mode.{Mode}
use Rattle.v_elab.specs.Parts.{Part, SignalPart, MemoryPart, Signal, WalkedMemory}
use Rattle.v_elab.specs.Walk.{walked_from}
use Rattle.v_elab.specs.Flat.{flat}
use Rattle.flat_laws.specs.Made.{nodes_in, objects_in, flat_nodes_in, IsMadeOf, flat-made}
use Rattle.flat_laws.specs.Lists.{AllHold-from}
use Rattle.flat_laws.specs.Limits.{design-objects, nodes-permutation, each-node, objects-few, nodes-few, processes-few, node-inputs-few, node-inputs-there, nodes-below, nodes-by_rank}
use Rattle.flat_laws.specs.Drivers.OneDriver.{outputs-once, node-outputs, one-driver, outputs-nets}
use Rattle.flat_laws.specs.Hierarchy.Given.{IsHierarchy, part_name}
use Rattle.flat_laws.specs.Source.{IsSourceUnit}
use Rattle.flat_laws.specs.Hierarchy.Visits.{IsAt}
use Rattle.flat_laws.specs.Sizes.Complete.{IsSettled}
use Rattle.flat_laws.specs.Hierarchy.Levelled.{named-module, parts-levelled, node-levels, process-levels}
use Rattle.graph_order.specs.ListLaws.{AllHold-slice_get}
use Rattle.flat_laws.specs.Drivers.Held.{part-in-signals}
use Rattle.flat_laws.specs.Hierarchy.Signals.{IsSignalPart, parts-signals}

-- Limits, order and drivers

pub record IsOrdered (design : FlatDesign) : Type 0 where
  pub few_objects : length design.objects ≤ most_parts
  pub few_nodes : length design.nodes ≤ most_parts
  pub few_processes : length design.processes ≤ most_parts
  pub few_inputs : AllHold (λ (node : FlatNode). length node.inputs ≤ most_inputs) design.nodes
  pub inputs_there : AllHold (λ (node : FlatNode). AllHold (λ object. object < length design.objects) node.inputs) design.nodes
  -- each node writes net pieces alone, each once, and each has one node at most
  pub outputs_nets : AllHold (λ (node : FlatNode). AllHold (λ object. IsTrue (has (net_pieces design) object)) node.outputs) design.nodes
  pub outputs_once : AllHold (λ (node : FlatNode). without_repeats [] node.outputs ≡ node.outputs) design.nodes
  pub one_driver : (low high : ℕ) (node other : FlatNode) → slice_get design.nodes low ≡ Some node → slice_get design.nodes high ≡ Some other → low < high →
      (object : ℕ) → IsTrue (has node.outputs object) → has other.outputs object ≡ false
  -- the nodes are acyclic and numbered by rank
  pub ranked : AreBelow design.nodes
  pub by_rank : AreByRank design

-- each flat design is within its limits, with its nodes in order
abbrev pub FlatDesignsAreOrdered : Type 0
FlatDesignsAreOrdered = (unit : SourceUnit) (top : Identifier) (mode : Mode) (design : FlatDesign) → flat unit top mode ≡ Ok design → IsOrdered design

made-ordered : (parts : List Part) (design : FlatDesign) → IsMadeOf parts design → IsOrdered design
made-ordered parts design made = record {
  few_objects = objects-few parts design made;
  few_nodes = nodes-few parts design made;
  few_processes = processes-few parts design made;
  few_inputs = node-inputs-few parts design made;
  inputs_there = node-inputs-there parts design made;
  outputs_nets =
      each-node (λ node. AllHold (λ object. IsTrue (has (net_pieces design) object)) node.outputs) parts design made
      (AllHold-from (λ (node : FlatNode). AllHold (λ object. IsTrue (has (net_pieces design) object)) node.outputs) (flat_nodes_in parts)
      (λ i node at.
      subst (AllHold (λ object. IsTrue (has (net_pieces design) object))) (sym (node-outputs parts (objects_in parts) (nodes_in parts) i node at))
      (outputs-nets parts (nodes_in parts) i design (design-objects parts design made))));
  outputs_once =
      each-node (λ node. without_repeats [] node.outputs ≡ node.outputs) parts design made
      (AllHold-from (λ (node : FlatNode). without_repeats [] node.outputs ≡ node.outputs) (flat_nodes_in parts)
      (λ i node at. subst (λ outputs. without_repeats [] outputs ≡ outputs) (sym (node-outputs parts (objects_in parts) (nodes_in parts) i node at)) (outputs-once (objects_in parts) i)));
  one_driver = one-driver parts (objects_in parts) (nodes_in parts) design.nodes (nodes-permutation parts design made);
  ranked = nodes-below parts design made;
  by_rank = nodes-by_rank parts design made;
}

pub flat-ordered : FlatDesignsAreOrdered
flat-ordered unit top mode design e = let is = flat-made unit top mode design e in made-ordered is.parts design is.made

-- Levels

pub record IsLow (design : FlatDesign) : Type 0 where
  pub nodes : AllHold (λ (node : FlatNode). levels_of_node node.kind ≤ most_levels) design.nodes
  pub processes : AllHold (λ (process : FlatProcess). levels_of_statement process.body ≤ most_levels) design.processes

-- the nodes and processes of a unit that is read from a text have few levels
abbrev pub FlatDesignsAreLow : Type 0
FlatDesignsAreLow = (unit : SourceUnit) (top : Identifier) (mode : Mode) (design : FlatDesign) → IsSourceUnit unit.modules → flat unit top mode ≡ Ok design → IsLow design

pub flat-low : FlatDesignsAreLow
flat-low unit top mode design source e =
    let is = flat-made unit top mode design e in
    let found = named-module unit.modules is.name is.top is.found in
    let low = parts-levelled unit.modules source mode is.top found.0 found.1 is.parts is.walk in
    record { nodes = node-levels is.parts design is.made low; processes = process-levels is.parts design is.made low }

-- Walks

-- a walk in which no two nets, variables or memories have one name, none is wider than a vector may be, and each parameter has a value
pub record IsConsistent (modules : List SourceModule) (mode : Mode) (top : SourceModule) (parts : List Part) : Type 0 where
  pub once : (i j : ℕ) (one other : Part) (name : Identifier) → slice_get parts i ≡ Some one → slice_get parts j ≡ Some other → part_name one ≡ Some name → part_name other ≡ Some name → i ≡ j
  pub signals : (i : ℕ) (signal : Signal) → slice_get parts i ≡ Some (SignalPart signal) → range_width signal.range ≤ most_bits
  pub memories : (i : ℕ) (memory : WalkedMemory) → slice_get parts i ≡ Some (MemoryPart memory) → range_width memory.range ≤ most_bits
  pub settled : (path : Identifier) (scope : Scope) → IsAt modules mode top path scope → IsSettled scope

-- the nets, variables and memories of such a walk
pub consistent-hierarchy : (modules : List SourceModule) (mode : Mode) (top : SourceModule) (parts : List Part) → walked_from modules mode top ≡ Ok parts → IsConsistent modules mode top parts →
    IsHierarchy parts
consistent-hierarchy modules mode top parts e is =
    let walked = parts-signals modules mode top parts e in
    record {
      once = is.once;
      memories = is.memories;
      signals = λ i signal at.
          let own = AllHold-slice_get (IsSignalPart parts) parts i (SignalPart signal) walked at in
          record { most = is.signals i signal at; first = own.first; depth = own.depth };
      joins = λ i signal joining at joined.
          let own = AllHold-slice_get (IsSignalPart parts) parts i (SignalPart signal) walked at in
          let r = own.joins joining joined in
          let outer = r.2 in
          let place = part-in-signals parts outer.number outer.signal outer.is in
          record { number = place.0; outer = outer.signal; is = place.1; name = outer.name_is; depth = subst (λ d. d < signal.depth) (sym outer.depth_is) r.1; width = outer.width_is };
    }

-- a unit each of whose walks is so
abbrev pub WalksAreConsistent : List SourceModule → Mode → Type 0
WalksAreConsistent modules mode = (k : ℕ) (top : SourceModule) (parts : List Part) → slice_get modules k ≡ Some top → walked_from modules mode top ≡ Ok parts → IsConsistent modules mode top parts
