-- What drives an object has a place in the node's value for each of the object's bits (IEEE 1364-2001, clause 6.1; that a net is cut by its drivers is own).
use Rattle.std.proofs.Common.{◌≡◌, ℕ, zero, suc, ◌+◌, ◌<◌, ◌≤◌, Bool, true, false, List, [], ◌∷◌, length, map, Option, Some, None, refl, sym, ap, ◌∙◌, subst, inl, inr, arith}
use Rattle.std.specs.Prelude.{nat_eq, slice_get, option_and_then}
use Rattle.std.proofs.lemmas.Bool.{cases_Bool, or_cases, eqb-true, eq-eqb}
use Rattle.std.proofs.lemmas.Bool.Decides.{leb_tells}
use Rattle.vf_base.specs.Lists.{has, first_place, earlier_place, AllHold}
use Rattle.v_design.specs.Expressions.{up_from}
use Rattle.v_tree.specs.Trees.{Identifier, same_name}
use Rattle.v_names.specs.Scopes.{range_width}
use Rattle.v_ports.specs.Pieces.{DrivenRun, driver_of_bit, CutPiece, same_driver, grown_or_new, bit_before, pieces_from, pieces_of}
use Rattle.v_elab.specs.Parts.{Signal, Drive, Part, SignalPart, MemoryPart, AssignPart, GatePart, ProcessPart, InstancePart}
use Rattle.v_elab.specs.Drivers.{signals_of, is_unjoined, outermost, WalkedNode, bits_within, ObjectDrive, drive_if, drives_width, node_drives, drives_from, object_drives, driving_variables, run_of}
use Rattle.v_elab.specs.Objects.{PieceDriver, HeldObject, is_bit, value_place, piece_driver, drive_numbered, piece_object, pieces_or_variable, signal_objects, word_object, part_objects}
use Rattle.v_elab.specs.Objects.{objects_of_parts}
use Rattle.flat_laws.specs.Lists.{same_some}
use Rattle.flat_laws.specs.Numbered.{AllHold-append, AllHold-flat_map, AllHold-map, AllHold-all, AllHold-each}
use Rattle.flat_laws.specs.Sizes.Entries.{Ascend}
use Rattle.flat_laws.specs.Drivers.Pieces.{Tile, from-tile, pieces-within}

-- Bits of ascending places

abbrev HasEach : List ℕ → ℕ → ℕ → Type 0
HasEach bits low count = (b : ℕ) → low ≤ b → b < low + count → has bits b ≡ true

true-false : {X : Type 0} (b : Bool) → b ≡ true → b ≡ false → X
true-false true e f = absurd (cc)
true-false false e f = absurd (cc)

-- the bits of ascending places are at least the first
within-ascends : (least : ℕ) (places : List (Option ℕ)) (b : ℕ) → Ascend least places → has (bits_within places) b ≡ true → least ≤ b
within-ascends least [] b up e = absurd (cc)
within-ascends least (None ∷ places) b up e = within-ascends least places b up e
within-ascends least (Some place ∷ places) b up e =
    let above = up.0 in
    elim (or_cases (nat_eq place b) (has (bits_within places) b) e) [
      | inl same ↦ let is = eqb-true place b same in omega (arith, is, above)
      | inr later ↦ let rest = within-ascends (place + 1) places b up.1 later in omega (arith, rest, above)
    ]

-- a bit that isn't the first is one behind it
has-later : (place b : ℕ) (bits : List ℕ) → (place ≡ b → ⊥) → has (place ∷ bits) b ≡ true → has bits b ≡ true
has-later place b bits other e =
    elim (or_cases (nat_eq place b) (has bits b) e) [
      | inl same ↦ absurd (other (eqb-true place b same))
      | inr later ↦ later
    ]

-- so many bits have at least as many places
count-places : (least : ℕ) (places : List (Option ℕ)) (low count : ℕ) → Ascend least places → HasEach (bits_within places) low count → count ≤ length places
count-places least places low zero up each = omega arith
count-places least [] low (suc count) up each = let e = each low (omega arith) (omega arith) in absurd (cc)
count-places least (None ∷ places) low (suc count) up each = let h = count-places least places low (suc count) up each in omega (arith, h)
count-places least (Some place ∷ places) low (suc count) up each =
    elim (cases_Bool (nat_eq place low)) [
      | inl same ↦
          let is = eqb-true place low same in
          let h = count-places (place + 1) places (low + 1) count up.1 (λ b l m. has-later place b (bits_within places) (λ e. omega (arith, e, is, l)) (each b (omega (arith, l)) (omega (arith, m))))
          in
          omega (arith, h)
      | inr other ↦
          let differs : place ≡ low → ⊥ = λ e. true-false (nat_eq place low) (eq-eqb place low e) other in
          let first = within-ascends (place + 1) places low up.1 (has-later place low (bits_within places) differs (each low (omega arith) (omega arith))) in
          let h = count-places (place + 1) places low (suc count) up.1 (λ b l m. has-later place b (bits_within places) (λ e. omega (arith, e, first, l)) (each b l m)) in
          omega (arith, h)
    ]

earlier-none : (found : Option ℕ) (at : ℕ) → earlier_place false found ≡ Some at → (before : ℕ) × (found ≡ Some before) × (at ≡ before + 1)
earlier-none None at e = absurd (cc)
earlier-none (Some before) at e = (before, refl, sym (same_some (before + 1) at e))

-- from the place of the first of some bits on there is a place for each
run-places : (least : ℕ) (places : List (Option ℕ)) (low count at : ℕ) → Ascend least places → 1 ≤ count → HasEach (bits_within places) low count → first_place (is_bit low) places ≡ Some at →
    at + count ≤ length places
run-places least [] low count at up some each e = absurd (cc)
run-places least (None ∷ places) low count at up some each e =
    let later = earlier-none (first_place (is_bit low) places) at e in
    let h = run-places least places low count later.0 up some each later.1 in
    let next = later.2 in
    omega (arith, h, next)
run-places least (Some place ∷ places) low count at up some each e =
    elim (cases_Bool (nat_eq place low)) [
      | inl same ↦
          let here : Some 0 ≡ Some at = ap (λ b. earlier_place b (first_place (is_bit low) places)) (sym same) ∙ e in
          let zero_is : 0 ≡ at = same_some 0 at here in
          let h = count-places least (Some place ∷ places) low count up each in
          omega (arith, zero_is, h)
      | inr other ↦
          let differs : place ≡ low → ⊥ = λ d. true-false (nat_eq place low) (eq-eqb place low d) other in
          let first = within-ascends (place + 1) places low up.1 (has-later place low (bits_within places) differs (each low (omega arith) (omega (arith, some)))) in
          let later = earlier-none (first_place (is_bit low) places) at (ap (λ b. earlier_place b (first_place (is_bit low) places)) (sym other) ∙ e) in
          let h = run-places (place + 1) places low count later.0 up.1 some (λ b l m. has-later place b (bits_within places) (λ d. omega (arith, d, first, l)) (each b l m)) later.1 in
          let next = later.2 in
          omega (arith, h, next)
    ]

-- Pieces and their drivers

-- each bit of a piece has the piece's driver
abbrev IsDrivenAlike : List DrivenRun → CutPiece → Type 0
IsDrivenAlike runs piece = (b : ℕ) → piece.low ≤ b → b < piece.low + piece.width → driver_of_bit 0 runs b ≡ piece.driver

same-is : (one other : Option ℕ) → same_driver one other ≡ true → one ≡ other
same-is None None e = refl
same-is None (Some b) e = absurd (cc)
same-is (Some a) None e = absurd (cc)
same-is (Some a) (Some b) e = ap Some (eqb-true a b e)

one-alike : (runs : List DrivenRun) (bit : ℕ) → IsDrivenAlike runs (record { low = bit; width = 1; driver = driver_of_bit 0 runs bit })
one-alike runs bit b l m = let same : b ≡ bit = omega (arith, l, m) in ap (driver_of_bit 0 runs) same

grown-alike : (runs : List DrivenRun) (bit : ℕ) (next : CutPiece) (pieces : List CutPiece) (same : Bool) → same_driver (driver_of_bit 0 runs bit) next.driver ≡ same → next.low ≡ bit + 1 →
    AllHold (IsDrivenAlike runs) (next ∷ pieces) →
    AllHold (IsDrivenAlike runs) (grown_or_new same bit (driver_of_bit 0 runs bit) next pieces)
grown-alike runs bit next pieces true e low h = (
  λ b l m.
      elim (leb_tells (bit + 1) b) [
        | inl above ↦ let more = above.1 in h.0 b (omega (arith, more, low)) (omega (arith, m, low)) ∙ sym (same-is (driver_of_bit 0 runs bit) next.driver e)
        | inr below ↦ let less = below.1 in let here : b ≡ bit = omega (arith, less, l) in ap (driver_of_bit 0 runs) here
      ],
  h.1,
)
grown-alike runs bit next pieces false e low h = (one-alike runs bit, h)

before-alike : (runs : List DrivenRun) (bit to : ℕ) (pieces : List CutPiece) → Tile (bit + 1) to pieces → AllHold (IsDrivenAlike runs) pieces →
    AllHold (IsDrivenAlike runs) (bit_before bit (driver_of_bit 0 runs bit) pieces)
before-alike runs bit to [] tile h = (one-alike runs bit, tt)
before-alike runs bit to (next ∷ pieces) tile h = grown-alike runs bit next pieces (same_driver (driver_of_bit 0 runs bit) next.driver) refl tile.0 h

from-alike : (runs : List DrivenRun) (start count : ℕ) → AllHold (IsDrivenAlike runs) (pieces_from runs (up_from start count))
from-alike runs start zero = tt
from-alike runs start (suc count) =
    before-alike runs start ((start + 1) + count) (pieces_from runs (up_from (start + 1) count)) (from-tile runs (start + 1) count) (from-alike runs (start + 1) count)

pieces-alike : (width : ℕ) (runs : List DrivenRun) → AllHold (IsDrivenAlike runs) (pieces_of width runs)
pieces-alike width runs = from-alike runs 0 width

-- Drives

-- the driver of a bit has it
run-has : (drives : List ObjectDrive) (number b k : ℕ) → driver_of_bit number (map run_of drives) b ≡ Some k →
    (i : ℕ) × (drive : ObjectDrive) × (k ≡ number + i) × (drive_numbered drives i ≡ Some drive) × (has (bits_within drive.places) b ≡ true)
run-has [] number b k e = absurd (cc)
run-has (drive ∷ drives) number b k e = by (has (bits_within drive.places) b) refl (λ f. run-has drives (number + 1) b k f)
  where
    by : (test : Bool) → has (bits_within drive.places) b ≡ test →
        (driver_of_bit (number + 1) (map run_of drives) b ≡ Some k → (i : ℕ) × (found : ObjectDrive) × (k ≡ number + 1 + i) × (drive_numbered drives i ≡ Some found)
        × (has (bits_within found.places) b ≡ true)) →
        (i : ℕ) × (found : ObjectDrive) × (k ≡ number + i) × (drive_numbered (drive ∷ drives) i ≡ Some found) × (has (bits_within found.places) b ≡ true)
    by true h rest =
        let step : driver_of_bit number (map run_of (drive ∷ drives)) b ≡ Some number = rw h refl in
        let same = same_some number k (sym step ∙ e) in
        (0, drive, omega (arith, same), refl, h)
    by false h rest =
        let step : driver_of_bit number (map run_of (drive ∷ drives)) b ≡ driver_of_bit (number + 1) (map run_of drives) b = rw h refl in
        let r = rest (sym step ∙ e) in
        let place = r.2 in
        (suc r.0, r.1, omega (arith, place), r.3, r.4)

-- a drive of a node: its places are those of the node's drive, and stand in the node's value
pub record IsDriveOf (nodes : List WalkedNode) (number : ℕ) (drive : ObjectDrive) : Type 0 where
  pub index : ℕ
  pub node : WalkedNode
  pub number_is : drive.node ≡ number + index
  pub is : slice_get nodes index ≡ Some node
  pub ascends : AllHold (λ (d : Drive). Ascend 0 d.places) node.drives → Ascend 0 drive.places
  pub within : drive.offset + length drive.places ≤ drives_width node.drives

record IsOwnDrive (number : ℕ) (drives : List Drive) (drive : ObjectDrive) : Type 0 where
  node_is : drive.node ≡ number
  ascends : AllHold (λ (d : Drive). Ascend 0 d.places) drives → Ascend 0 drive.places
  within : drive.offset + length drive.places ≤ drives_width drives

if-own : (test : Bool) (number : ℕ) (drives : List Drive) (drive : ObjectDrive) (rest : List ObjectDrive) → IsOwnDrive number drives drive → AllHold (IsOwnDrive number drives) rest →
    AllHold (IsOwnDrive number drives) (drive_if test drive rest)
if-own true number drives drive rest h k = (h, k)
if-own false number drives drive rest h k = k

node-own : (signals : List Signal) (object : Identifier) (number : ℕ) (drives : List Drive) → AllHold (IsOwnDrive number drives) (node_drives signals object number drives)
node-own signals object number [] = tt
node-own signals object number (drive ∷ rest) =
    if-own (same_name (outermost signals drive.signal) object) number (drive ∷ rest) (record { node = number; offset = drives_width rest; places = drive.places; place = drive.place })
    (node_drives signals object number rest)
    (record { node_is = refl; ascends = λ h. h.0; within = omega arith })
    (AllHold-each (IsOwnDrive number rest) (IsOwnDrive number (drive ∷ rest)) (node_drives signals object number rest)
    (λ d own. let within = own.within in record { node_is = own.node_is; ascends = λ h. own.ascends h.1; within = omega (arith, within) }) (node-own signals object number rest))

drives-own : (signals : List Signal) (object : Identifier) (number : ℕ) (nodes : List WalkedNode) → AllHold (IsDriveOf nodes number) (drives_from signals object number nodes)
drives-own signals object number [] = tt
drives-own signals object number (node ∷ nodes) =
    AllHold-append (IsDriveOf (node ∷ nodes) number) (node_drives signals object number node.drives) (drives_from signals object (number + 1) nodes)
    (AllHold-each (IsOwnDrive number node.drives) (IsDriveOf (node ∷ nodes) number) (node_drives signals object number node.drives)
    (λ d own. let same = own.node_is in record { index = 0; node = node; number_is = omega (arith, same); is = refl; ascends = own.ascends; within = own.within })
    (node-own signals object number node.drives))
    (AllHold-each (IsDriveOf nodes (number + 1)) (IsDriveOf (node ∷ nodes) number) (drives_from signals object (number + 1) nodes)
    (λ d own. let same = own.number_is in record { index = suc own.index; node = own.node; number_is = omega (arith, same); is = own.is; ascends = own.ascends; within = own.within })
    (drives-own signals object (number + 1) nodes))

numbered-holds : (P : ObjectDrive → Type 0) (drives : List ObjectDrive) (i : ℕ) (drive : ObjectDrive) → AllHold P drives → drive_numbered drives i ≡ Some drive → P drive
numbered-holds P [] i drive h e = absurd (cc)
numbered-holds P (first ∷ drives) zero drive h e = subst P (same_some first drive e) h.0
numbered-holds P (first ∷ drives) (suc i) drive h e = numbered-holds P drives i drive h.1 e

-- Objects

-- what drives an object has a place for each of its bits
pub record HasPlaces (nodes : List WalkedNode) (held : HeldObject) (driver : PieceDriver) : Type 0 where
  pub node : WalkedNode
  pub is : slice_get nodes driver.node ≡ Some node
  pub within : AllHold (λ (d : Drive). Ascend 0 d.places) node.drives → driver.place + held.object.width ≤ drives_width node.drives

abbrev pub DriverFits : List WalkedNode → HeldObject → Type 0
DriverFits nodes held = (driver : PieceDriver) → held.driver ≡ Some driver → HasPlaces nodes held driver

then-some : {A B : Type 0} (f : A → Option B) (x : Option A) (y : B) → option_and_then f x ≡ Some y → (a : A) × (x ≡ Some a) × (f a ≡ Some y)
then-some f None y e = absurd (cc)
then-some f (Some a) y e = (a, refl, e)

driver-there : (bit : ℕ) (found : Option ObjectDrive) (driver : PieceDriver) → piece_driver bit found ≡ Some driver →
    (drive : ObjectDrive) × (at : ℕ) × (found ≡ Some drive) × (first_place (is_bit bit) drive.places ≡ Some at) × (driver.node ≡ drive.node) × (driver.place ≡ drive.offset + at)
driver-there bit None driver e = absurd (cc)
driver-there bit (Some drive) driver e =
    let outer = then-some (λ at. Some (record { node = drive.node; place = at })) (value_place bit drive) driver e in
    let inner = then-some (λ at. Some (drive.offset + at)) (first_place (is_bit bit) drive.places) outer.0 outer.1 in
    let is : record { node = drive.node; place = outer.0 } ≡ driver = same_some (record { node = drive.node; place = outer.0 }) driver outer.2 in
    (drive, inner.0, refl, inner.1, ap (λ (d : PieceDriver). d.node) (sym is), ap (λ (d : PieceDriver). d.place) (sym is) ∙ sym (same_some (drive.offset + inner.0) outer.0 inner.2))

piece-fits : (nodes : List WalkedNode) (signal : Signal) (drives : List ObjectDrive) → AllHold (IsDriveOf nodes 0) drives → (piece : CutPiece) → IsDrivenAlike (map run_of drives) piece →
    1 ≤ piece.width → DriverFits nodes (piece_object signal drives piece)
piece-fits nodes signal drives own piece alike some driver e =
    let there = driver-there piece.low (option_and_then (drive_numbered drives) piece.driver) driver e in
    let numbered = then-some (drive_numbered drives) piece.driver there.0 there.2 in
    let drive = there.0 in
    let of = numbered-holds (IsDriveOf nodes 0) drives numbered.0 drive own numbered.2 in
    let each : HasEach (bits_within drive.places) piece.low piece.width = λ b l m.
    (let r = run-has drives 0 b numbered.0 (alike b l m ∙ numbered.1) in
    let place = r.2 in
    let here : r.0 ≡ numbered.0 = omega (arith, place) in
    let same : r.1 ≡ drive = same_some r.1 drive (sym r.3 ∙ ap (drive_numbered drives) here ∙ numbered.2) in
    ap (λ (d : ObjectDrive). has (bits_within d.places) b) (sym same) ∙ r.4) in
    let node_is = there.4 in
    let place_is = there.5 in
    let number = of.number_is in
    let index : driver.node ≡ of.index = omega (arith, node_is, number) in
    record {
      node = of.node;
      is = ap (slice_get nodes) index ∙ of.is;
      within = λ up.
          let run = run-places 0 drive.places piece.low piece.width there.1 (of.ascends up) some each there.3 in
          let within = of.within in
          omega (arith, run, within, place_is);
    }

both-hold : {A : Type 0} (P Q : A → Type 0) (xs : List A) → AllHold P xs → AllHold Q xs → AllHold (λ x. P x × Q x) xs
both-hold P Q [] h k = tt
both-hold P Q (x ∷ xs) h k = ((h.0, k.0), both-hold P Q xs h.1 k.1)

variables-fit : (nodes : List WalkedNode) (signal : Signal) (drives : List ObjectDrive) → AllHold (IsDriveOf nodes 0) drives → (driving : List Signal) →
    AllHold (DriverFits nodes) (pieces_or_variable signal drives driving)
variables-fit nodes signal drives own (first ∷ rest) = (λ driver e. absurd (cc), tt)
variables-fit nodes signal drives own [] =
    let width = range_width signal.range in
    let runs = map run_of drives in
    AllHold-map (DriverFits nodes) (piece_object signal drives) (pieces_of width runs)
    (AllHold-each (λ (piece : CutPiece). IsDrivenAlike runs piece × ((1 ≤ piece.width) × (piece.low + piece.width ≤ width))) (λ piece. DriverFits nodes (piece_object signal drives piece))
    (pieces_of width runs)
    (λ piece h. piece-fits nodes signal drives own piece h.0 h.1.0)
    (both-hold (IsDrivenAlike runs) (λ (piece : CutPiece). (1 ≤ piece.width) × (piece.low + piece.width ≤ width)) (pieces_of width runs) (pieces-alike width runs) (pieces-within width runs)))

signal-fits : (signals : List Signal) (nodes : List WalkedNode) (unjoined : Bool) (signal : Signal) → AllHold (DriverFits nodes) (signal_objects signals nodes unjoined signal)
signal-fits signals nodes true signal = variables-fit nodes signal (object_drives signals nodes signal.name) (drives-own signals signal.name 0 nodes) (driving_variables signals nodes signal.name)
signal-fits signals nodes false signal = tt

part-fits : (signals : List Signal) (nodes : List WalkedNode) (part : Part) → AllHold (DriverFits nodes) (part_objects signals nodes part)
part-fits signals nodes (SignalPart signal) = signal-fits signals nodes (is_unjoined signal) signal
part-fits signals nodes (MemoryPart memory) = AllHold-map (DriverFits nodes) (word_object memory) _
    (AllHold-all (λ address. DriverFits nodes (word_object memory address)) _ (λ address driver e. absurd (cc)))
part-fits signals nodes (AssignPart drives value) = tt
part-fits signals nodes (GatePart name kind drives path terminals) = tt
part-fits signals nodes (ProcessPart process) = tt
part-fits signals nodes InstancePart = tt

-- the drivers of all objects
pub drivers-fit : (parts : List Part) (nodes : List WalkedNode) → AllHold (DriverFits nodes) (objects_of_parts parts nodes)
drivers-fit parts nodes =
    AllHold-flat_map (DriverFits nodes) (part_objects (signals_of parts) nodes) parts (AllHold-all (λ part. AllHold (DriverFits nodes) (part_objects (signals_of parts) nodes part)) parts
    (part-fits (signals_of parts) nodes))
