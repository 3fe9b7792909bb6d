-- The objects of a flat design and its joined names have the bits that their bounds span (IEEE 1364-2001, clause 3.3).
use Rattle.std.proofs.Common.{◌≡◌, ℕ, zero, suc, ◌+◌, ◌-◌, ◌<◌, ◌≤◌, min, Bool, true, false, ◌&&◌, List, [], ◌∷◌, ◌++◌, length, map, Option, Some, None, refl, ap, sym, ◌∙◌, inl, inr, arith}
use Rattle.std.specs.Prelude.{IsTrue, nat_le, slice_get, filter, if◌then◌else◌}
use Rattle.std.specs.List.{list_all}
use Rattle.std.proofs.lemmas.Bool.{eq-eqb}
use Rattle.std.proofs.lemmas.Bool.Decides.{leb_tells}
use Rattle.std.proofs.lemmas.List.{length-replicate}
use Rattle.four_value.specs.Values.{LogicValue}
use Rattle.four_value.specs.declared.logic.Bit.TheVariants.{X, Z}
use Rattle.vf_base.specs.Lists.{map_numbered, joined, AllHold}
use Rattle.v_design.specs.Expressions.{up_from}
use Rattle.v_design.specs.Sized.{span, most_bits}
use Rattle.v_design.specs.Designs.{FlatDesign}
use Rattle.v_design.specs.WellFormed.{width_is, has_width, have_widths, IsSizedObject, IsSizedName}
use Rattle.v_tree.specs.Trees.{Identifier, same_name}
use Rattle.v_names.specs.Scopes.{DeclaredRange, range_width}
use Rattle.v_names.specs.SizedLaws.{and-left, and-right}
use Rattle.v_ports.specs.Pieces.{CutPiece, pieces_of}
use Rattle.v_elab.specs.Parts.{Signal, Part, SignalPart, MemoryPart, AssignPart, GatePart, ProcessPart, InstancePart}
use Rattle.v_elab.specs.Drivers.{signals_of, outermost, is_unjoined, WalkedNode, is_driving, insert_here, insert_by_depth, by_depth, driving_variables, ObjectDrive, object_drives, run_of}
use Rattle.v_elab.specs.Objects.{HeldObject, or_unknown, index_at, piece_object, pieces_or_variable, signal_objects, word_object, part_objects, objects_of_parts, piece_if, pieces_held, joined_if}
use Rattle.v_elab.specs.Objects.{names_joined}
use Rattle.flat_laws.specs.Lists.{same_some, AllHold-from, at-filter}
use Rattle.flat_laws.specs.Numbered.{AllHold-each, AllHold-flat_map, AllHold-map, AllHold-all}
use Rattle.flat_laws.specs.Drivers.Pieces.{pieces-within}
use Rattle.flat_laws.specs.Hierarchy.Given.{equal-name, both-true, IsHierarchy, signal-part, signals-once, outermost-is}
use Rattle.flat_laws.specs.Drivers.Held.{signal-holds, part-in-signals}

-- Bounds of pieces

index-up : (range : DeclaredRange) (place : ℕ) → nat_le range.low range.high ≡ true → index_at range place ≡ range.low + place
index-up range place e = ap (λ b. if b then range.low + place else range.low - place) e

index-down : (range : DeclaredRange) (place : ℕ) → nat_le range.low range.high ≡ false → index_at range place ≡ range.low - place
index-down range place e = ap (λ b. if b then range.low + place else range.low - place) e

span-up : (high low width first : ℕ) → low ≤ high → 1 ≤ width → first + width ≤ span high low → width ≡ span (low + (first + width - 1)) (low + first)
span-up high low width first up some within = omega (arith, up, some, within)

span-down : (high low width first : ℕ) → high < low → 1 ≤ width → first + width ≤ span high low → width ≡ span (low - (first + width - 1)) (low - first)
span-down high low width first down some within = omega (arith, down, some, within)

-- the declared indexes of a piece's bits span them
piece-span : (range : DeclaredRange) (width first : ℕ) → 1 ≤ width → first + width ≤ range_width range → width ≡ span (index_at range (first + width - 1)) (index_at range first)
piece-span range width first some within =
    elim (leb_tells range.low range.high) [
      | inl up ↦
          let high = index-up range (first + width - 1) up.0 in
          let low = index-up range first up.0 in
          let is = span-up range.high range.low width first up.1 some within in
          is ∙ sym (ap (λ h. span h (index_at range first)) high ∙ ap (λ l. span (range.low + (first + width - 1)) l) low)
      | inr down ↦
          let high = index-down range (first + width - 1) down.0 in
          let low = index-down range first down.0 in
          let is = span-down range.high range.low width first down.1 some within in
          is ∙ sym (ap (λ h. span h (index_at range first)) high ∙ ap (λ l. span (range.low - (first + width - 1)) l) low)
    ]

-- Objects

abbrev IsSizedHeld : HeldObject → Type 0
IsSizedHeld held = IsSizedObject held.object

piece-sized : (signal : Signal) (drives : List ObjectDrive) (piece : CutPiece) → range_width signal.range ≤ most_bits → (1 ≤ piece.width) × (piece.low + piece.width ≤ range_width signal.range) →
    IsSizedHeld (piece_object signal drives piece)
piece-sized signal drives piece most within =
    let some = within.0 in
    let below = within.1 in
    (length-replicate piece.width Z, piece-span signal.range piece.width piece.low within.0 within.1, omega (arith, some, below, most))

unknown-length : (width : ℕ) (first : Option LogicValue) → ((value : LogicValue) → first ≡ Some value → length value ≡ width) → length (or_unknown width first) ≡ width
unknown-length width None h = length-replicate width X
unknown-length width (Some value) h = h value refl

-- a variable that drives an object has the object's width
abbrev FirstFits : Signal → Signal → Type 0
FirstFits signal driving = (value : LogicValue) → driving.first ≡ Some value → length value ≡ range_width signal.range

signal-pieces-sized : (signal : Signal) (drives : List ObjectDrive) (driving : List Signal) → range_width signal.range ≤ most_bits → AllHold (FirstFits signal) driving →
    AllHold IsSizedHeld (pieces_or_variable signal drives driving)
signal-pieces-sized signal drives [] most fits =
    AllHold-map IsSizedHeld (piece_object signal drives) (pieces_of (range_width signal.range) (map run_of drives))
    (AllHold-each (λ (piece : CutPiece). (1 ≤ piece.width) × (piece.low + piece.width ≤ range_width signal.range)) (λ (piece : CutPiece). IsSizedHeld (piece_object signal drives piece))
    (pieces_of (range_width signal.range) (map run_of drives))
    (λ piece within. piece-sized signal drives piece most within) (pieces-within (range_width signal.range) (map run_of drives)))
signal-pieces-sized signal drives (driving ∷ rest) most fits = ((unknown-length (range_width signal.range) driving.first fits.0, refl, most), tt)

insert-holds : (P : Signal → Type 0) (test : Bool) (signal other : Signal) (others inserted : List Signal) → P signal → P other → AllHold P others → AllHold P inserted →
    AllHold P (insert_here test signal other others inserted)
insert-holds P true signal other others inserted h k rest more = (h, (k, rest))
insert-holds P false signal other others inserted h k rest more = (k, more)

depth-insert : (P : Signal → Type 0) (signal : Signal) (signals : List Signal) → P signal → AllHold P signals → AllHold P (insert_by_depth signal signals)
depth-insert P signal [] h rest = (h, tt)
depth-insert P signal (other ∷ others) h rest =
    insert-holds P (nat_le signal.depth other.depth) signal other others (insert_by_depth signal others) h rest.0 rest.1 (depth-insert P signal others h rest.1)

-- what holds of each signal holds by depth
depth-holds : (P : Signal → Type 0) (signals : List Signal) → AllHold P signals → AllHold P (by_depth signals)
depth-holds P [] h = tt
depth-holds P (signal ∷ signals) h = depth-insert P signal (by_depth signals) h.0 (depth-holds P signals h.1)

driving-fits : (parts : List Part) (nodes : List WalkedNode) → IsHierarchy parts → (i : ℕ) (signal : Signal) → slice_get (signals_of parts) i ≡ Some signal →
    AllHold (FirstFits signal) (driving_variables (signals_of parts) nodes signal.name)
driving-fits parts nodes hierarchy i signal at =
    depth-holds (FirstFits signal) (filter (λ (s : Signal). is_driving nodes s && same_name (outermost (signals_of parts) s.name) signal.name) (signals_of parts))
    (AllHold-from (FirstFits signal) (filter (λ (s : Signal). is_driving nodes s && same_name (outermost (signals_of parts) s.name) signal.name) (signals_of parts))
    (λ j driving there value first.
    let kept = at-filter (λ (s : Signal). is_driving nodes s && same_name (outermost (signals_of parts) s.name) signal.name) (signals_of parts) j driving there in
    let last = outermost-is parts hierarchy kept.0 driving kept.1 in
    let name : outermost (signals_of parts) driving.name ≡ signal.name =
    equal-name (outermost (signals_of parts) driving.name) signal.name (and-right (is_driving nodes driving) (same_name (outermost (signals_of parts) driving.name) signal.name) kept.2) in
    let one : last.outer ≡ signal = signals-once parts hierarchy last.number i last.outer signal last.is at (sym last.name_is ∙ name) in
    let part = signal-part parts kept.0 driving kept.1 in
    (hierarchy.signals part.0 driving part.1).first value first ∙ sym last.width ∙ ap (λ (s : Signal). range_width s.range) one))

by-joining-sized : (parts : List Part) (nodes : List WalkedNode) → IsHierarchy parts → (unjoined : Bool) (i : ℕ) (signal : Signal) → slice_get (signals_of parts) i ≡ Some signal →
    AllHold IsSizedHeld (signal_objects (signals_of parts) nodes unjoined signal)
by-joining-sized parts nodes hierarchy true i signal at =
    let part = signal-part parts i signal at in
    signal-pieces-sized signal (object_drives (signals_of parts) nodes signal.name) (driving_variables (signals_of parts) nodes signal.name) (hierarchy.signals part.0 signal part.1).most
    (driving-fits parts nodes hierarchy i signal at)
by-joining-sized parts nodes hierarchy false i signal at = tt

part-sized : (parts : List Part) (nodes : List WalkedNode) → IsHierarchy parts → (k : ℕ) (part : Part) → slice_get parts k ≡ Some part →
    AllHold IsSizedHeld (part_objects (signals_of parts) nodes part)
part-sized parts nodes hierarchy k (SignalPart signal) at = let place = part-in-signals parts k signal at in by-joining-sized parts nodes hierarchy (is_unjoined signal) place.0 signal place.1
part-sized parts nodes hierarchy k (MemoryPart memory) at =
    AllHold-map IsSizedHeld (word_object memory) (up_from (min memory.first memory.last) (span memory.first memory.last))
    (AllHold-all (λ address. IsSizedHeld (word_object memory address)) (up_from (min memory.first memory.last) (span memory.first memory.last))
    (λ address. (length-replicate (range_width memory.range) X, refl, hierarchy.memories k memory at)))
part-sized parts nodes hierarchy k (AssignPart drives value) at = tt
part-sized parts nodes hierarchy k (GatePart name kind drives path terminals) at = tt
part-sized parts nodes hierarchy k (ProcessPart process) at = tt
part-sized parts nodes hierarchy k InstancePart at = tt

-- the objects of a hierarchy have the bits that their bounds span, and first contents of their widths
pub objects-sized : (parts : List Part) (nodes : List WalkedNode) → IsHierarchy parts → AllHold IsSizedObject (map (λ (held : HeldObject). held.object) (objects_of_parts parts nodes))
objects-sized parts nodes hierarchy =
    AllHold-map IsSizedObject (λ (held : HeldObject). held.object) (objects_of_parts parts nodes)
    (AllHold-flat_map IsSizedHeld (part_objects (signals_of parts) nodes) parts
    (AllHold-from (λ part. AllHold IsSizedHeld (part_objects (signals_of parts) nodes part)) parts (λ k part at. part-sized parts nodes hierarchy k part at)))

-- What is named is there

pub all-append : {A : Type 0} (test : A → Bool) (xs ys : List A) → list_all test xs ≡ true → list_all test ys ≡ true → list_all test (xs ++ ys) ≡ true
all-append test [] ys h k = k
all-append test (x ∷ xs) ys h k = both-true (test x) (list_all test (xs ++ ys)) (and-left (test x) (list_all test xs) h) (all-append test xs ys (and-right (test x) (list_all test xs) h) k)

piece-there : (design : FlatDesign) (test : Bool) (number : ℕ) (held : HeldObject) → slice_get design.objects number ≡ Some held.object → list_all (has_width design) (piece_if test number held) ≡ true
piece-there design true number held at =
    both-true (width_is held.object.width (slice_get design.objects number)) true (ap (width_is held.object.width) at ∙ eq-eqb held.object.width held.object.width refl) refl
piece-there design false number held at = refl

held-there : (design : FlatDesign) (holder : Identifier) (start : ℕ) (objects : List HeldObject) →
    ((i : ℕ) (held : HeldObject) → slice_get objects i ≡ Some held → slice_get design.objects (start + i) ≡ Some held.object) →
    list_all (has_width design) (joined (map_numbered (λ number (held : HeldObject). piece_if (same_name held.holder holder) number held) start objects)) ≡ true
held-there design holder start [] there = refl
held-there design holder start (held ∷ objects) there =
    let same : start + 0 ≡ start = omega arith in
    all-append (has_width design) (piece_if (same_name held.holder holder) start held) (joined
    (map_numbered (λ number (h : HeldObject). piece_if (same_name h.holder holder) number h) (start + 1) objects))
    (piece-there design (same_name held.holder holder) start held (ap (slice_get design.objects) (sym same) ∙ there 0 held refl))
    (held-there design holder (start + 1) objects (λ i other at. let moved : (start + 1) + i ≡ start + suc i = omega arith in ap (slice_get design.objects) moved ∙ there (suc i) other at))

pub object-at : (objects : List HeldObject) (i : ℕ) (held : HeldObject) → slice_get objects i ≡ Some held → slice_get (map (λ (h : HeldObject). h.object) objects) i ≡ Some held.object
object-at [] i held at = absurd (cc)
object-at (first ∷ objects) zero held at = ap (λ (h : HeldObject). Some h.object) (same_some first held at)
object-at (first ∷ objects) (suc i) held at = object-at objects i held at

-- the pieces of a name are objects of the design with their widths
pub pieces-there : (design : FlatDesign) (objects : List HeldObject) → map (λ (held : HeldObject). held.object) objects ≡ design.objects → (holder : Identifier) →
    IsTrue (have_widths design (pieces_held objects holder))
pieces-there design objects is holder =
    held-there design holder 0 objects
    (λ i held at. let same : 0 + i ≡ i = omega arith in ap (slice_get design.objects) same ∙ ap (λ all. slice_get all i) (sym is) ∙ object-at objects i held at)

-- Joined names

joined-sized : (design : FlatDesign) (parts : List Part) (nodes : List WalkedNode) → IsHierarchy parts → map (λ (held : HeldObject). held.object) (objects_of_parts parts nodes) ≡ design.objects →
    (unjoined : Bool) (i : ℕ) (signal : Signal) →
    slice_get (signals_of parts) i ≡ Some signal → AllHold (IsSizedName design) (joined_if unjoined (signals_of parts) (objects_of_parts parts nodes) signal)
joined-sized design parts nodes hierarchy is true i signal at = tt
joined-sized design parts nodes hierarchy is false i signal at =
    ((pieces-there design (objects_of_parts parts nodes) is (outermost (signals_of parts) signal.name), (signal-holds parts nodes hierarchy i signal at).bits), tt)

-- the joined names of a hierarchy have the bits that their bounds span
pub names-sized : (design : FlatDesign) (parts : List Part) (nodes : List WalkedNode) → IsHierarchy parts → map (λ (held : HeldObject). held.object) (objects_of_parts parts nodes) ≡ design.objects →
    AllHold (IsSizedName design) (names_joined (signals_of parts) (objects_of_parts parts nodes))
names-sized design parts nodes hierarchy is =
    AllHold-flat_map (IsSizedName design) (λ (s : Signal). joined_if (is_unjoined s) (signals_of parts) (objects_of_parts parts nodes) s) (signals_of parts)
    (AllHold-from (λ (s : Signal). AllHold (IsSizedName design) (joined_if (is_unjoined s) (signals_of parts) (objects_of_parts parts nodes) s)) (signals_of parts)
    (λ i signal at. joined-sized design parts nodes hierarchy is (is_unjoined signal) i signal at))
