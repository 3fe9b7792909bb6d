-- The names of a flat design are words: its objects and joined names have names of nets, variables and memories, its nodes have those of gates or none
-- (IEEE 1364-2001, clause 2.7 for names, clause 12.4 for those of a hierarchy; that names are printed in lines of words is own).
use Rattle.std.proofs.Common.{◌≡◌, ℕ, ◌+◌, Bool, true, false, List, [], ◌∷◌, map, Option, Some, None, ap, subst}
use Rattle.vf_base.specs.Lists.{AllHold, map_numbered, joined}
use Rattle.v_design.specs.Designs.{FlatObject, NameJoined, FlatNode, FlatDesign}
use Rattle.v_design.specs.WellFormed.{IsOneWord, HasNamesOfOneWord}
use Rattle.v_ports.specs.Pieces.{CutPiece, pieces_of}
use Rattle.v_names.specs.Scopes.{range_width}
use Rattle.v_tree.specs.Trees.{Identifier}
use Rattle.v_elab.specs.Parts.{Signal, WalkedProcess, Part, SignalPart, MemoryPart, AssignPart, GatePart, ProcessPart, InstancePart}
use Rattle.v_elab.specs.Drivers.{signals_of, is_unjoined, WalkedNode, driving_variables, ObjectDrive, object_drives, run_of, Behaviour, IsNode, IsProcess, block_or_process, process_behaviour}
use Rattle.v_elab.specs.Drivers.{part_behaviour, behaviours_of, nodes_of}
use Rattle.v_elab.specs.Objects.{HeldObject, piece_object, pieces_or_variable, signal_objects, word_object, part_objects, objects_of_parts, joined_if, names_joined}
use Rattle.v_elab.specs.Flat.{flat_node}
use Rattle.graph_order.specs.ListLaws.{AllHold-slice_get}
use Rattle.flat_laws.specs.Limits.{design-objects, each-node}
use Rattle.flat_laws.specs.Lists.{AllHold-from}
use Rattle.flat_laws.specs.Made.{nodes_in, objects_in, flat_nodes_in, IsMadeOf}
use Rattle.flat_laws.specs.Numbered.{at-numbered, AllHold-each, AllHold-append, AllHold-flat_map, AllHold-map, AllHold-all}
use Rattle.source_laws.specs.NamedSignals.{IsNamedPart}

abbrev AreNamedParts : List Part → Type 0
AreNamedParts parts = AllHold (λ part. IsNamedPart part) parts

-- Objects

abbrev HoldsWord : HeldObject → Type 0
HoldsWord held = IsOneWord held.object.name

signal-words : (signals : List Signal) (nodes : List WalkedNode) (signal : Signal) → IsOneWord signal.name → (unjoined : Bool) → AllHold HoldsWord (signal_objects signals nodes unjoined signal)
signal-words signals nodes signal word false = tt
signal-words signals nodes signal word true = by_driving (object_drives signals nodes signal.name) (driving_variables signals nodes signal.name)
  where
    by_driving : (drives : List ObjectDrive) (driving : List Signal) → AllHold HoldsWord (pieces_or_variable signal drives driving)
    by_driving drives [] =
        let pieces = pieces_of (range_width signal.range) (map run_of drives) in
        AllHold-map HoldsWord (piece_object signal drives) pieces (AllHold-all (λ (piece : CutPiece). HoldsWord (piece_object signal drives piece)) pieces (λ piece. word))
    by_driving drives (first ∷ rest) = (word, tt)

part-words : (signals : List Signal) (nodes : List WalkedNode) (part : Part) → IsNamedPart part → AllHold HoldsWord (part_objects signals nodes part)
part-words signals nodes (SignalPart signal) is = signal-words signals nodes signal is.word (is_unjoined signal)
part-words signals nodes (MemoryPart memory) is = AllHold-map HoldsWord (word_object memory) _ (AllHold-all (λ address. HoldsWord (word_object memory address)) _ (λ address. is))
part-words signals nodes (AssignPart drives value) is = tt
part-words signals nodes (GatePart name kind drives path terminals) is = tt
part-words signals nodes (ProcessPart process) is = tt
part-words signals nodes InstancePart is = tt

objects-words : (parts : List Part) (nodes : List WalkedNode) → AreNamedParts parts → AllHold HoldsWord (objects_of_parts parts nodes)
objects-words parts nodes named =
    AllHold-flat_map HoldsWord (part_objects (signals_of parts) nodes) parts
    (AllHold-each (λ part. IsNamedPart part) (λ part. AllHold HoldsWord (part_objects (signals_of parts) nodes part)) parts (part-words (signals_of parts) nodes) named)

-- Joined names

signals-words : (parts : List Part) → AreNamedParts parts → AllHold (λ (signal : Signal). IsOneWord signal.name) (signals_of parts)
signals-words [] named = tt
signals-words (SignalPart signal ∷ parts) named = (named.0.word, signals-words parts named.1)
signals-words (MemoryPart memory ∷ parts) named = signals-words parts named.1
signals-words (AssignPart drives value ∷ parts) named = signals-words parts named.1
signals-words (GatePart name kind drives path terminals ∷ parts) named = signals-words parts named.1
signals-words (ProcessPart process ∷ parts) named = signals-words parts named.1
signals-words (InstancePart ∷ parts) named = signals-words parts named.1

joined-word : (signals : List Signal) (objects : List HeldObject) (signal : Signal) → IsOneWord signal.name → (unjoined : Bool) →
    AllHold (λ (name : NameJoined). IsOneWord name.name) (joined_if unjoined signals objects signal)
joined-word signals objects signal word true = tt
joined-word signals objects signal word false = (word, tt)

joined-words : (signals : List Signal) (objects : List HeldObject) → AllHold (λ (signal : Signal). IsOneWord signal.name) signals →
    AllHold (λ (name : NameJoined). IsOneWord name.name) (names_joined signals objects)
joined-words signals objects words =
    let P : NameJoined → Type 0 = λ name. IsOneWord name.name in
    AllHold-flat_map P (λ (s : Signal). joined_if (is_unjoined s) signals objects s) signals
    (AllHold-each (λ (s : Signal). IsOneWord s.name) (λ (s : Signal). AllHold P (joined_if (is_unjoined s) signals objects s)) signals
    (λ s word. joined-word signals objects s word (is_unjoined s)) words)

-- Nodes

abbrev DoesUnderWord : Behaviour → Type 0
DoesUnderWord (IsNode node) = IsOneWord node.name
DoesUnderWord (IsProcess process) = Unit {0}

block-word : (signals : List Signal) (process : WalkedProcess) (test : Bool) (targets : List Identifier) → DoesUnderWord (block_or_process signals process test targets)
block-word signals process true targets = tt
block-word signals process false targets = tt

process-word : (parts : List Part) (number : ℕ) (process : WalkedProcess) (targets : Option (List Identifier)) → DoesUnderWord (process_behaviour parts number process targets)
process-word parts number process None = tt
process-word parts number process (Some targets) = block-word (signals_of parts) process _ targets

behaviour-words : (parts : List Part) (number : ℕ) (part : Part) → IsNamedPart part → AllHold DoesUnderWord (part_behaviour parts number part)
behaviour-words parts number (SignalPart signal) is = tt
behaviour-words parts number (MemoryPart memory) is = tt
behaviour-words parts number (AssignPart drives value) is = (tt, tt)
behaviour-words parts number (GatePart name kind drives path terminals) is = (is, tt)
behaviour-words parts number (ProcessPart process) is = (process-word parts number process process.targets, tt)
behaviour-words parts number InstancePart is = tt

behaviours-words : (parts : List Part) (number : ℕ) (some : List Part) → AreNamedParts some → AllHold DoesUnderWord (joined (map_numbered (part_behaviour parts) number some))
behaviours-words parts number [] named = tt
behaviours-words parts number (part ∷ rest) named =
    AllHold-append DoesUnderWord (part_behaviour parts number part) (joined (map_numbered (part_behaviour parts) (number + 1) rest)) (behaviour-words parts number part named.0)
    (behaviours-words parts (number + 1) rest named.1)

among-nodes : (behaviours : List Behaviour) → AllHold DoesUnderWord behaviours → AllHold (λ (node : WalkedNode). IsOneWord node.name) (nodes_of behaviours)
among-nodes [] h = tt
among-nodes (IsNode node ∷ rest) h = (h.0, among-nodes rest h.1)
among-nodes (IsProcess process ∷ rest) h = among-nodes rest h.1

nodes-words : (parts : List Part) → AreNamedParts parts → AllHold (λ (node : FlatNode). IsOneWord node.name) (flat_nodes_in parts)
nodes-words parts named =
    let walked = among-nodes (behaviours_of parts) (behaviours-words parts 0 parts named) in
    AllHold-from (λ (node : FlatNode). IsOneWord node.name) (flat_nodes_in parts)
    (λ i node at.
    let r = at-numbered (flat_node parts (objects_in parts)) 0 (nodes_in parts) i node at in
    subst (λ (n : FlatNode). IsOneWord n.name) r.2 (AllHold-slice_get (λ (n : WalkedNode). IsOneWord n.name) (nodes_in parts) i r.0 walked r.1))

-- the names of a design of named parts are words
pub design-words : (parts : List Part) (design : FlatDesign) → IsMadeOf parts design → AreNamedParts parts → HasNamesOfOneWord design
design-words parts design made named =
    let P : FlatObject → Type 0 = λ object. IsOneWord object.name in
    record {
      objects = subst (AllHold P) (design-objects parts design made) (AllHold-map P (λ (held : HeldObject). held.object) (objects_in parts) (objects-words parts (nodes_in parts) named));
      joined =
          subst (AllHold (λ (name : NameJoined). IsOneWord name.name)) (ap (λ (d : FlatDesign). d.joined) made.is) (joined-words (signals_of parts) (objects_in parts) (signals-words parts named));
      nodes = each-node (λ node. IsOneWord node.name) parts design made (nodes-words parts named);
    }
