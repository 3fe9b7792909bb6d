-- The gates of a design: no two have one name, and each has no more terminals than can be numbered (IEEE 1364-2001, clause 7.1; that a gate without a name has a number is own).
use Rattle.std.proofs.Common.{◌≡◌, ℕ, ◌+◌, ◌≤◌, Bool, true, false, List, [], ◌∷◌, ◌++◌, Option, Some, None, Ok, refl, sym, ap, ◌∙◌, arith}
use Rattle.std.specs.Prelude.{slice_get, sum_by}
use Rattle.std.proofs.lemmas.List.Sorted.{sum_by-IsPermutation}
use Rattle.std.proofs.lemmas.List.Sums.{sum_by-cons, sum_by-append}
use Rattle.vf_base.specs.Lists.{map_numbered, joined}
use Rattle.v_design.specs.Designs.{FlatNodeKind, AssignNode, GateNode, BlockNode, FlatNode, FlatDesign}
use Rattle.v_design.specs.Sites.{terminal_count}
use Rattle.v_tree.specs.Trees.{Identifier, SourceModule, same_name}
use Rattle.v_elab.specs.declared.Mode.{Mode}
use Rattle.v_elab.specs.Parts.{Signal, WalkedProcess, Part, SignalPart, MemoryPart, AssignPart, GatePart, ProcessPart, InstancePart}
use Rattle.v_elab.specs.Walk.{walked_from}
use Rattle.v_elab.specs.Drivers.{signals_of, NodeFunction, AssignFunction, GateFunction, BlockFunction, WalkedNode, Behaviour, IsNode, IsProcess, block_or_process, process_behaviour, part_behaviour}
use Rattle.v_elab.specs.Drivers.{nodes_of}
use Rattle.v_elab.specs.Objects.{HeldObject}
use Rattle.v_elab.specs.Flat.{NodeOutput, node_kind, outputs_of, flat_node}
use Rattle.flat_laws.specs.Hierarchy.Given.{name-same}
use Rattle.flat_laws.specs.Limits.{nodes-permutation}
use Rattle.flat_laws.specs.Lists.{two-counted}
use Rattle.flat_laws.specs.Made.{nodes_in, objects_in, flat_nodes_in, IsMadeOf}
use Rattle.flat_laws.specs.Names.Once.{label, is_named, count_named, labels-few}
use Rattle.flat_laws.specs.Names.OnceDeclared.{IsNamedUnit}
use Rattle.flat_laws.specs.Names.Spelled.{one_if}
use Rattle.source_laws.specs.SitesApart.{AllApart, apart-from}

-- two nodes with terminals have two names
abbrev pub GatesDiffer : FlatNode → FlatNode → Type 0
GatesDiffer one other = 1 ≤ terminal_count one.kind → 1 ≤ terminal_count other.kind → one.name ≡ other.name → ⊥

-- whether a node is a gate of a name
abbrev gate_named : Identifier → Identifier → FlatNodeKind → ℕ
gate_named name own (AssignNode value places) = 0
gate_named name own (GateNode kind terminals) = one_if (same_name own name)
gate_named name own (BlockNode statement) = 0

abbrev function_named : Identifier → Identifier → NodeFunction → ℕ
function_named name own (AssignFunction value) = 0
function_named name own (GateFunction kind path terminals) = one_if (same_name own name)
function_named name own (BlockFunction process) = 0

abbrev walked_named : Identifier → WalkedNode → ℕ
walked_named name node = function_named name node.name node.function

abbrev flat_named : Identifier → FlatNode → ℕ
flat_named name node = gate_named name node.name node.kind

kind-counted : (name own : Identifier) (parts : List Part) (objects : List HeldObject) (outputs : List NodeOutput) (function : NodeFunction) →
    gate_named name own (node_kind parts objects outputs function) ≡ function_named name own function
kind-counted name own parts objects outputs (AssignFunction value) = refl
kind-counted name own parts objects outputs (GateFunction kind path terminals) = refl
kind-counted name own parts objects outputs (BlockFunction process) = refl

nodes-counted : (name : Identifier) (parts : List Part) (objects : List HeldObject) (number : ℕ) (nodes : List WalkedNode) →
    sum_by (flat_named name) (map_numbered (flat_node parts objects) number nodes) ≡ sum_by (walked_named name) nodes
nodes-counted name parts objects number [] = refl
nodes-counted name parts objects number (node ∷ nodes) =
    let first = kind-counted name node.name parts objects (outputs_of objects number) node.function in
    omega (
      arith,
      sum_by-cons (flat_named name) (flat_node parts objects number node) (map_numbered (flat_node parts objects) (number + 1) nodes),
      sum_by-cons (walked_named name) node nodes,
      first,
      nodes-counted name parts objects (number + 1) nodes,
    )

nodes-append : (one other : List Behaviour) → nodes_of (one ++ other) ≡ nodes_of one ++ nodes_of other
nodes-append [] other = refl
nodes-append (IsNode node ∷ one) other = ap (λ l. node ∷ l) (nodes-append one other)
nodes-append (IsProcess process ∷ one) other = nodes-append one other

block-counted : (name : Identifier) (signals : List Signal) (process : WalkedProcess) (test : Bool) (targets : List Identifier) →
    sum_by (walked_named name) (nodes_of (block_or_process signals process test targets ∷ [])) ≡ 0
block-counted name signals process true targets = refl
block-counted name signals process false targets = refl

process-counted : (name : Identifier) (parts : List Part) (number : ℕ) (process : WalkedProcess) (targets : Option (List Identifier)) →
    sum_by (walked_named name) (nodes_of (process_behaviour parts number process targets ∷ [])) ≡ 0
process-counted name parts number process None = refl
process-counted name parts number process (Some targets) = block-counted name (signals_of parts) process _ targets

part-counted : (name : Identifier) (parts : List Part) (number : ℕ) (part : Part) → sum_by (walked_named name) (nodes_of (part_behaviour parts number part)) ≤ is_named name (label part)
part-counted name parts number (SignalPart signal) = omega arith
part-counted name parts number (MemoryPart memory) = omega arith
part-counted name parts number (AssignPart drives value) = omega arith
part-counted name parts number (GatePart own kind drives path terminals) = omega arith
part-counted name parts number (ProcessPart process) = omega (arith, process-counted name parts number process process.targets)
part-counted name parts number InstancePart = omega arith

-- the gates of a name are no more than the parts of the name
behaviours-counted : (name : Identifier) (all : List Part) (number : ℕ) (parts : List Part) →
    sum_by (walked_named name) (nodes_of (joined (map_numbered (part_behaviour all) number parts))) ≤ count_named name parts
behaviours-counted name all number [] = omega arith
behaviours-counted name all number (part ∷ parts) =
    let first = part_behaviour all number part in
    let later = joined (map_numbered (part_behaviour all) (number + 1) parts) in
    let split : sum_by (walked_named name) (nodes_of (first ++ later)) ≡ sum_by (walked_named name) (nodes_of first ++ nodes_of later) = ap (sum_by (walked_named name)) (nodes-append first later) in
    omega (
      arith,
      split,
      sum_by-append (walked_named name) (nodes_of first) (nodes_of later),
      sum_by-cons (λ p. is_named name (label p)) part parts,
      part-counted name all number part,
      behaviours-counted name all (number + 1) parts,
    )

gate-counted : (name own : Identifier) (kind : FlatNodeKind) → 1 ≤ terminal_count kind → own ≡ name → 1 ≤ gate_named name own kind
gate-counted name own (AssignNode value places) some e = absurd (omega (arith, some))
gate-counted name own (GateNode kind terminals) some e = let is : one_if (same_name own name) ≡ 1 = ap (λ n. one_if (same_name own n)) (sym e) ∙ ap one_if (name-same own) in omega (arith, is)
gate-counted name own (BlockNode statement) some e = absurd (omega (arith, some))

-- no two gates of a design have one name
pub gates-apart : (modules : List SourceModule) → IsNamedUnit modules → (mode : Mode) (top : SourceModule) → (k : ℕ) → slice_get modules k ≡ Some top → (parts : List Part) →
    walked_from modules mode top ≡ Ok parts → (design : FlatDesign) → IsMadeOf parts design →
    AllApart GatesDiffer design.nodes
gates-apart modules unit mode top k at parts e design made =
    apart-from GatesDiffer design.nodes
    (λ i j one other at_one at_other less some_one some_other same.
    let name = other.name in
    let moved : sum_by (flat_named name) design.nodes ≡ sum_by (flat_named name) (flat_nodes_in parts) =
    sum_by-IsPermutation (flat_named name) (flat_nodes_in parts) design.nodes (nodes-permutation parts design made) in
    omega (
      arith,
      two-counted (flat_named name) design.nodes i j one other at_one at_other less (gate-counted name one.name one.kind some_one same) (gate-counted name other.name other.kind some_other refl),
      moved,
      nodes-counted name parts (objects_in parts) 0 (nodes_in parts),
      behaviours-counted name parts 0 parts,
      labels-few modules unit mode top k at parts e name,
    ))
