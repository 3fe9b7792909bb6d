-- The bits of the objects of a walk: each has its name and its declared index, and no two are the same (IEEE 1364-2001, clause 3.2 for nets and variables; that a bit has a name is own).
use Rattle.std.proofs.Common.{◌≡◌, ℕ, ◌+◌, ◌<◌, ◌≤◌, ◌^◌, Bool, true, false, List, [], ◌∷◌, ◌++◌, map, Some, refl, sym, ap, ◌∙◌, subst, arith}
use Rattle.std.specs.Prelude.{slice_get}
use Rattle.vf_base.specs.Lists.{AllHold}
use Rattle.v_design.specs.Designs.{FlatObject, FlatDesign}
use Rattle.v_design.specs.Sites.{index_of_bit, index_text}
use Rattle.v_design.specs.declared.logic.ObjectKind.{ObjectKind}
use Rattle.v_design.specs.declared.logic.ObjectKind.TheVariants.{Var, Word, Net}
use Rattle.v_ports.specs.Pieces.{CutPiece, pieces_of}
use Rattle.v_names.specs.Scopes.{range_width}
use Rattle.v_tree.specs.Trees.{Identifier}
use Rattle.v_elab.specs.Parts.{Signal, Part, SignalPart, MemoryPart, AssignPart, GatePart, ProcessPart, InstancePart}
use Rattle.v_elab.specs.Drivers.{signals_of, is_unjoined, WalkedNode, driving_variables, ObjectDrive, object_drives, run_of}
use Rattle.v_elab.specs.Objects.{HeldObject, index_at, variable_object, piece_object, pieces_or_variable, signal_objects, word_object, word_objects, part_objects, objects_of_parts}
use Rattle.graph_order.specs.ListLaws.{AllHold-slice_get}
use Rattle.flat_laws.specs.Numbered.{AllHold-each, AllHold-flat_map, AllHold-map, AllHold-all}
use Rattle.flat_laws.specs.Hierarchy.Given.{part_name}
use Rattle.flat_laws.specs.Drivers.Pieces.{Tile, pieces-tile, pieces-within}
use Rattle.source_laws.specs.SitesApart.{AllApart, Across, across-from, apart-from, apart-at, apart-map, apart-flat_map}
use Rattle.source_laws.specs.Indexes.{index-small, index-apart, variable-index, piece-index}
use Rattle.source_laws.specs.NamedSignals.{IsNamedSignal, IsNamedPart}
use Rattle.source_laws.specs.Spelling.{IsObjectName, object-plain, same-front, same-index}

-- Names of bits

-- a net piece or a variable, no word of a memory
abbrev pub HasBits : ObjectKind → Type 0
HasBits Var = Unit {0}
HasBits Word = ⊥
HasBits Net = Unit {0}

-- the name of a bit of an object
abbrev pub object_bit : FlatObject → ℕ → List ℕ
object_bit object bit = object.name ++ index_text object.ranged (index_of_bit object.high object.low bit)

-- no bit of one object has the name of a bit of another
abbrev pub BitsDiffer : FlatObject → FlatObject → Type 0
BitsDiffer one other = HasBits one.kind → HasBits other.kind → (bit place : ℕ) → bit < one.width → place < other.width → object_bit one bit ≡ object_bit other place → ⊥

-- no two bits of an object have one name
abbrev pub OwnBitsDiffer : FlatObject → Type 0
OwnBitsDiffer object = HasBits object.kind → (bit place : ℕ) → bit < place → place < object.width → object_bit object bit ≡ object_bit object place → ⊥

-- the name of a bit: that of a net or a variable, with an index of few bits where it has a range
pub record IsBitName (text : List ℕ) : Type 0 where
  pub name : List ℕ
  pub ranged : Bool
  pub index : ℕ
  pub named : IsObjectName name
  pub small : index < 2 ^ 64
  pub is : name ++ index_text ranged index ≡ text

abbrev pub BitsAreNamed : FlatObject → Type 0
BitsAreNamed object = HasBits object.kind → (bit : ℕ) → bit < object.width → IsBitName (object_bit object bit)

-- Places of a net or a variable

-- the name of a place, counted from the least significant
abbrev place_name : Signal → ℕ → List ℕ
place_name signal place = signal.name ++ index_text signal.range.ranged (index_at signal.range place)

place-named : (signal : Signal) → IsNamedSignal signal → (place : ℕ) → place < range_width signal.range → IsBitName (place_name signal place)
place-named signal is place within = record {
  name = signal.name;
  ranged = signal.range.ranged;
  index = index_at signal.range place;
  named = is.name;
  small = index-small signal.range is.range place within;
  is = refl;
}

-- two places have two names
places-differ : (signal : Signal) → IsNamedSignal signal → (place other : ℕ) → place < other → other < range_width signal.range → place_name signal place ≡ place_name signal other → ⊥
places-differ signal is place other less within e = by_range signal.range.ranged refl
  where
    by_range : (ranged : Bool) → signal.range.ranged ≡ ranged → ⊥
    by_range true ranged =
        let text : signal.name ++ index_text true (index_at signal.range place) ≡ signal.name ++ index_text true (index_at signal.range other) =
        ap (λ b. signal.name ++ index_text b (index_at signal.range place)) (sym ranged) ∙ e ∙ ap (λ b. signal.name ++ index_text b (index_at signal.range other)) ranged in
        index-apart signal.range place other less within
        (same-index signal.name (index_at signal.range place) (index_at signal.range other) (index-small signal.range is.range place (omega (arith, less, within)))
        (index-small signal.range is.range other within) text)
    by_range false ranged = omega (arith, is.range.single ranged, less, within)

-- places of one name are of nets or variables of one name
places-named : (one other : Signal) → IsNamedSignal one → IsNamedSignal other → (place number : ℕ) → place_name one place ≡ place_name other number → one.name ≡ other.name
places-named one other is is_other place number e =
    same-front one.name other.name one.range.ranged other.range.ranged (index_at one.range place) (index_at other.range number) (object-plain one.name is.name)
    (object-plain other.name is_other.name) e

-- Objects of a net or a variable

-- an object whose bits are places of a net or a variable
record SpansPlaces (signal : Signal) (object : FlatObject) : Type 0 where
  start : ℕ
  within : start + object.width ≤ range_width signal.range
  bits : (bit : ℕ) → bit < object.width → object_bit object bit ≡ place_name signal (start + bit)

variable-spans : (signal driving : Signal) → SpansPlaces signal (variable_object signal driving).object
variable-spans signal driving = record {
  start = 0;
  within = omega arith;
  bits = λ bit within. let same : bit ≡ 0 + bit = omega arith in ap (λ n. signal.name ++ index_text signal.range.ranged n) (variable-index signal.range bit) ∙ ap (place_name signal) same;
}

piece-spans : (signal : Signal) (drives : List ObjectDrive) (piece : CutPiece) → piece.low + piece.width ≤ range_width signal.range → SpansPlaces signal (piece_object signal drives piece).object
piece-spans signal drives piece within = record {
  start = piece.low;
  within = within;
  bits = λ bit low. ap (λ n. signal.name ++ index_text signal.range.ranged n) (piece-index signal.range piece.low piece.width bit within low);
}

-- an object whose places all stand before those of another
spans-apart : (signal : Signal) → IsNamedSignal signal → (one other : FlatObject) (h : SpansPlaces signal one) (k : SpansPlaces signal other) → h.start + one.width ≤ k.start → BitsDiffer one other
spans-apart signal is one other h k before has_one has_other bit place low high e =
    places-differ signal is (h.start + bit) (k.start + place) (omega (arith, before, low)) (omega (arith, k.within, high)) (sym (h.bits bit low) ∙ e ∙ k.bits place high)

spans-own : (signal : Signal) → IsNamedSignal signal → (object : FlatObject) → SpansPlaces signal object → OwnBitsDiffer object
spans-own signal is object h has_bits bit place less high e =
    places-differ signal is (h.start + bit) (h.start + place) (omega (arith, less)) (omega (arith, h.within, high)) (sym (h.bits bit (omega (arith, less, high))) ∙ e ∙ h.bits place high)

spans-named : (signal : Signal) → IsNamedSignal signal → (object : FlatObject) → SpansPlaces signal object → BitsAreNamed object
spans-named signal is object h has_bits bit low = subst IsBitName (sym (h.bits bit low)) (place-named signal is (h.start + bit) (omega (arith, h.within, low)))

-- Objects of a part

abbrev HeldApart : HeldObject → HeldObject → Type 0
HeldApart one other = BitsDiffer one.object other.object

abbrev IsOfPart : Part → HeldObject → Type 0
IsOfPart (SignalPart signal) held = SpansPlaces signal held.object
IsOfPart (MemoryPart memory) held = held.object.kind ≡ Word
IsOfPart _ held = ⊥

signal-of : (signals : List Signal) (nodes : List WalkedNode) (signal : Signal) (unjoined : Bool) →
    AllHold (λ (held : HeldObject). SpansPlaces signal held.object) (signal_objects signals nodes unjoined signal)
signal-of signals nodes signal false = tt
signal-of signals nodes signal true = by_driving (object_drives signals nodes signal.name) (driving_variables signals nodes signal.name)
  where
    by_driving : (drives : List ObjectDrive) (driving : List Signal) → AllHold (λ (held : HeldObject). SpansPlaces signal held.object) (pieces_or_variable signal drives driving)
    by_driving drives [] =
        let pieces = pieces_of (range_width signal.range) (map run_of drives) in
        AllHold-map (λ (held : HeldObject). SpansPlaces signal held.object) (piece_object signal drives) pieces
        (AllHold-each (λ (piece : CutPiece). (1 ≤ piece.width) × (piece.low + piece.width ≤ range_width signal.range))
        (λ (piece : CutPiece). SpansPlaces signal (piece_object signal drives piece).object) pieces
        (λ piece h. piece-spans signal drives piece h.1) (pieces-within (range_width signal.range) (map run_of drives)))
    by_driving drives (first ∷ rest) = (variable-spans signal first, tt)

part-of : (signals : List Signal) (nodes : List WalkedNode) (part : Part) → AllHold (IsOfPart part) (part_objects signals nodes part)
part-of signals nodes (SignalPart signal) = signal-of signals nodes signal (is_unjoined signal)
part-of signals nodes (MemoryPart memory) = AllHold-map (λ (held : HeldObject). held.object.kind ≡ Word) (word_object memory) _
    (AllHold-all (λ address. (word_object memory address).object.kind ≡ Word) _ (λ address. refl))
part-of signals nodes (AssignPart drives value) = tt
part-of signals nodes (GatePart name kind drives path terminals) = tt
part-of signals nodes (ProcessPart process) = tt
part-of signals nodes InstancePart = tt

word-bitless : (kind : ObjectKind) → kind ≡ Word → HasBits kind → ⊥
word-bitless Var e has_bits = absurd (cc)
word-bitless Word e has_bits = has_bits
word-bitless Net e has_bits = absurd (cc)

-- Within a part

-- a piece stands before all later ones
tile-behind : (from to : ℕ) (pieces : List CutPiece) → Tile from to pieces → AllHold (λ (piece : CutPiece). from ≤ piece.low) pieces
tile-behind from to [] h = tt
tile-behind from to (piece ∷ pieces) h =
    let low = h.0 in (
      omega (arith, low),
      AllHold-each (λ (later : CutPiece). from + piece.width ≤ later.low) (λ (later : CutPiece). from ≤ later.low) pieces (λ later k. omega (arith, k))
          (tile-behind (from + piece.width) to pieces h.2),
    )

tile-apart : (from to : ℕ) (pieces : List CutPiece) → Tile from to pieces → AllApart (λ (one other : CutPiece). one.low + one.width ≤ other.low) pieces
tile-apart from to [] h = tt
tile-apart from to (piece ∷ pieces) h =
    let low = h.0 in (
      AllHold-each (λ (later : CutPiece). from + piece.width ≤ later.low) (λ (later : CutPiece). piece.low + piece.width ≤ later.low) pieces (λ later k. omega (arith, k, low))
          (tile-behind (from + piece.width) to pieces h.2),
      tile-apart (from + piece.width) to pieces h.2,
    )

signal-apart : (signals : List Signal) (nodes : List WalkedNode) (signal : Signal) → IsNamedSignal signal → (unjoined : Bool) → AllApart HeldApart (signal_objects signals nodes unjoined signal)
unfolding piece-spans
signal-apart signals nodes signal is false = tt
signal-apart signals nodes signal is true = by_driving (object_drives signals nodes signal.name) (driving_variables signals nodes signal.name)
  where
    by_driving : (drives : List ObjectDrive) (driving : List Signal) → AllApart HeldApart (pieces_or_variable signal drives driving)
    by_driving drives [] =
        let width = range_width signal.range in
        let runs = map run_of drives in
        let pieces = pieces_of width runs in
        let apart = tile-apart 0 width pieces (pieces-tile width runs) in
        let Within : CutPiece → Type 0 = λ piece. (1 ≤ piece.width) × (piece.low + piece.width ≤ width) in
        apart-map HeldApart (piece_object signal drives) pieces
        (apart-from (λ (one other : CutPiece). HeldApart (piece_object signal drives one) (piece_object signal drives other)) pieces
        (λ i j one other at_one at_other less.
        let h = piece-spans signal drives one (AllHold-slice_get Within pieces i one (pieces-within width runs) at_one).1 in
        let k = piece-spans signal drives other (AllHold-slice_get Within pieces j other (pieces-within width runs) at_other).1 in
        spans-apart signal is (piece_object signal drives one).object (piece_object signal drives other).object h k
        (apart-at (λ (p q : CutPiece). p.low + p.width ≤ q.low) pieces apart i j one other at_one at_other less)))
    by_driving drives (first ∷ rest) = (tt, tt)

part-apart : (signals : List Signal) (nodes : List WalkedNode) (part : Part) → IsNamedPart part → AllApart HeldApart (part_objects signals nodes part)
part-apart signals nodes (SignalPart signal) is = signal-apart signals nodes signal is (is_unjoined signal)
part-apart signals nodes (MemoryPart memory) is =
    apart-from HeldApart (word_objects memory)
    (λ i j one other at_one at_other less has_one. absurd (word-bitless one.object.kind (AllHold-slice_get (λ (held : HeldObject). held.object.kind ≡ Word) (word_objects memory) i one
    (part-of signals nodes (MemoryPart memory)) at_one) has_one))
part-apart signals nodes (AssignPart drives value) is = tt
part-apart signals nodes (GatePart name kind drives path terminals) is = tt
part-apart signals nodes (ProcessPart process) is = tt
part-apart signals nodes InstancePart is = tt

-- Across parts

-- objects of parts whose names differ
held-apart : (part next : Part) → IsNamedPart part → IsNamedPart next → ((name : Identifier) → part_name part ≡ Some name → part_name next ≡ Some name → ⊥) → (one other : HeldObject) →
    IsOfPart part one → IsOfPart next other → HeldApart one other
held-apart (SignalPart signal) (SignalPart next) is is_next differ one other h k has_one has_other bit place low high e =
    let same = places-named signal next is is_next (h.start + bit) (k.start + place) (sym (h.bits bit low) ∙ e ∙ k.bits place high) in
    differ next.name (ap Some same) refl
held-apart (SignalPart signal) (MemoryPart memory) is is_next differ one other h k has_one has_other bit place low high e = word-bitless other.object.kind k has_other
held-apart (SignalPart signal) (AssignPart drives value) is is_next differ one other h k has_one has_other bit place low high e = k
held-apart (SignalPart signal) (GatePart name kind drives path terminals) is is_next differ one other h k has_one has_other bit place low high e = k
held-apart (SignalPart signal) (ProcessPart process) is is_next differ one other h k has_one has_other bit place low high e = k
held-apart (SignalPart signal) InstancePart is is_next differ one other h k has_one has_other bit place low high e = k
held-apart (MemoryPart memory) next is is_next differ one other h k has_one has_other bit place low high e = word-bitless one.object.kind h has_one
held-apart (AssignPart drives value) next is is_next differ one other h k has_one has_other bit place low high e = h
held-apart (GatePart name kind drives path terminals) next is is_next differ one other h k has_one has_other bit place low high e = h
held-apart (ProcessPart process) next is is_next differ one other h k has_one has_other bit place low high e = h
held-apart InstancePart next is is_next differ one other h k has_one has_other bit place low high e = h

-- All objects

-- no two nets, variables or memories have one name
abbrev pub NamesOnce : List Part → Type 0
NamesOnce parts = (i j : ℕ) (one other : Part) (name : Identifier) → slice_get parts i ≡ Some one → slice_get parts j ≡ Some other → part_name one ≡ Some name → part_name other ≡ Some name → i ≡ j

objects-apart : (parts : List Part) (nodes : List WalkedNode) → AllHold (λ part. IsNamedPart part) parts → NamesOnce parts → AllApart HeldApart (objects_of_parts parts nodes)
objects-apart parts nodes named once =
    let signals = signals_of parts in
    apart-flat_map HeldApart (part_objects signals nodes) parts (AllHold-each (λ part. IsNamedPart part) (λ part. AllApart HeldApart (part_objects signals nodes part)) parts
    (part-apart signals nodes) named)
    (apart-from (λ part next. Across HeldApart (part_objects signals nodes part) (part_objects signals nodes next)) parts
    (λ i j part next at_part at_next less.
    across-from HeldApart (part_objects signals nodes part) (part_objects signals nodes next)
    (λ m n one other at_one at_other.
    held-apart part next (AllHold-slice_get (λ p. IsNamedPart p) parts i part named at_part) (AllHold-slice_get (λ p. IsNamedPart p) parts j next named at_next)
    (λ name is_part is_next. let same = once i j part next name at_part at_next is_part is_next in omega (arith, same, less)) one other
    (AllHold-slice_get (IsOfPart part) (part_objects signals nodes part) m one (part-of signals nodes part) at_one)
    (AllHold-slice_get (IsOfPart next) (part_objects signals nodes next) n other (part-of signals nodes next) at_other))))

part-own : (part : Part) → IsNamedPart part → (held : HeldObject) → IsOfPart part held → OwnBitsDiffer held.object × BitsAreNamed held.object
part-own (SignalPart signal) is held h = (spans-own signal is held.object h, spans-named signal is held.object h)
part-own (MemoryPart memory) is held h = (λ has_bits. absurd (word-bitless held.object.kind h has_bits), λ has_bits. absurd (word-bitless held.object.kind h has_bits))
part-own (AssignPart drives value) is held h = absurd h
part-own (GatePart name kind drives path terminals) is held h = absurd h
part-own (ProcessPart process) is held h = absurd h
part-own InstancePart is held h = absurd h

objects-own : (parts : List Part) (nodes : List WalkedNode) → AllHold (λ part. IsNamedPart part) parts →
    AllHold (λ (held : HeldObject). OwnBitsDiffer held.object × BitsAreNamed held.object) (objects_of_parts parts nodes)
objects-own parts nodes named =
    let signals = signals_of parts in
    let Own : HeldObject → Type 0 = λ held. OwnBitsDiffer held.object × BitsAreNamed held.object in
    AllHold-flat_map Own (part_objects signals nodes) parts
    (AllHold-each (λ part. IsNamedPart part) (λ part. AllHold Own (part_objects signals nodes part)) parts
    (λ part is. AllHold-each (IsOfPart part) Own (part_objects signals nodes part) (part-own part is) (part-of signals nodes part)) named)

-- the bits of a design's objects
pub record TellsBits (design : FlatDesign) : Type 0 where
  pub apart : AllApart BitsDiffer design.objects
  pub own : AllHold (λ (object : FlatObject). OwnBitsDiffer object × BitsAreNamed object) design.objects

pub parts-tell-bits : (parts : List Part) (nodes : List WalkedNode) (design : FlatDesign) → map (λ (held : HeldObject). held.object) (objects_of_parts parts nodes) ≡ design.objects →
    AllHold (λ part. IsNamedPart part) parts → NamesOnce parts → TellsBits design
parts-tell-bits parts nodes design is named once =
    let objects = objects_of_parts parts nodes in
    let Own : FlatObject → Type 0 = λ object. OwnBitsDiffer object × BitsAreNamed object in
    record {
      apart = subst (AllApart BitsDiffer) is (apart-map BitsDiffer (λ (held : HeldObject). held.object) objects (objects-apart parts nodes named once));
      own = subst (AllHold Own) is (AllHold-map Own (λ (held : HeldObject). held.object) objects (objects-own parts nodes named));
    }
