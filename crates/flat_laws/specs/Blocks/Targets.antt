-- Each target of a block that is a node is held by one object, which the block writes, and it writes no other (IEEE 1364-2001, clause 9.2; that a block is a node is own).
use Rattle.std.proofs.Common.{◌≡◌, ℕ, zero, suc, ◌+◌, ◌-◌, ◌<◌, Bool, true, false, List, [], ◌∷◌, ◌++◌, map, Option, Some, None, refl, sym, ap, ◌∙◌, subst, inl, inr, arith}
use Rattle.std.specs.Prelude.{◌||◌, nat_eq, slice_get, filter, option_and_then}
use Rattle.std.proofs.lemmas.Bool.{or_cases, or_left, or_right, eq-eqb, eqb-true}
use Rattle.std.proofs.lemmas.List.{map-append}
use Rattle.vf_base.specs.Lists.{has, map_numbered, joined}
use Rattle.v_design.specs.Trees.{Piece}
use Rattle.v_design.specs.Sized.{span}
use Rattle.v_design.specs.Expressions.{up_from, piece_objects}
use Rattle.v_tree.specs.Trees.{Identifier, same_name}
use Rattle.v_names.specs.Scopes.{range_width}
use Rattle.v_width.specs.Targets.{whole_places}
use Rattle.v_ports.specs.Pieces.{DrivenRun, SecondDriver, second_driver, CutPiece, pieces_of}
use Rattle.v_elab.specs.Parts.{Signal, Drive, WalkedProcess, Part, SignalPart, MemoryPart, AssignPart, GatePart, ProcessPart, InstancePart}
use Rattle.v_elab.specs.Connections.{most_depth}
use Rattle.v_elab.specs.Drivers.{signals_of, signal_named, joined_into, up_or, outermost_within, outermost, is_unjoined, WalkedNode, signal_width, block_drive, driving_variables, ObjectDrive}
use Rattle.v_elab.specs.Drivers.{drive_if, drives_width, node_drives, drives_from, object_drives, run_of, taken_bits, bits_within, refusal_of, second_variable, signal_two_drivers, first_two_drivers}
use Rattle.v_elab.specs.Drivers.{two_drivers}
use Rattle.v_elab.specs.Objects.{PieceDriver, HeldObject, variable_object, value_place, piece_driver, drive_numbered, piece_object, pieces_or_variable, signal_objects, word_object, part_objects}
use Rattle.v_elab.specs.Objects.{piece_if, pieces_held}
use Rattle.v_elab.specs.Flat.{NodeOutput, output_if, output_of_object, outputs_of}
use Rattle.graph_order.specs.ListLaws.{has-append}
use Rattle.flat_laws.specs.Made.{refusal_or-none, nodes_in, objects_in}
use Rattle.flat_laws.specs.Lists.{same_some, at-append, filter-at}
use Rattle.flat_laws.specs.Drivers.OneDriver.{objects_of_outputs, outputs_from, written-from}
use Rattle.flat_laws.specs.Hierarchy.Given.{equal-name, name-same, IsHierarchy, signal-part, named-at, signal-found, outermost-is}
use Rattle.flat_laws.specs.Drivers.Held.{unjoined-is, part-in-signals}
use Rattle.flat_laws.specs.Blocks.Named.{has-all, at-flat_map}
use Rattle.flat_laws.specs.Hierarchy.Behaviours.{at-map, map-at, IsBlockPart}
use Rattle.flat_laws.specs.Drivers.Variables.{IsOneObject, one-held}
use Rattle.flat_laws.specs.Drivers.Runs.{taken-apart, driver-is, one-piece, bits-whole}

-- Drives of an object

width-some : (high low : ℕ) → (n : ℕ) × (span high low ≡ suc n)
width-some high low = (span high low - 1, omega arith)

node-drive : (signals : List Signal) (object : Identifier) (number m : ℕ) (drives : List Drive) (d : Drive) → slice_get drives m ≡ Some d → same_name (outermost signals d.signal) object ≡ true →
    (j : ℕ) × (found : ObjectDrive) × (slice_get (node_drives signals object number drives) j ≡ Some found) × (found.node ≡ number) × (found.places ≡ d.places)
node-drive signals object number m [] d at same = absurd (cc)
node-drive signals object number zero (first ∷ drives) d at same =
    let found : ObjectDrive = record { node = number; offset = drives_width drives; places = first.places; place = first.place } in
    let is = same_some first d at in
    let kept : same_name (outermost signals first.signal) object ≡ true = ap (λ (e : Drive). same_name (outermost signals e.signal) object) is ∙ same in
    (0, found, ap (λ b. slice_get (drive_if b found (node_drives signals object number drives)) 0) kept, refl, ap (λ (e : Drive). e.places) is)
node-drive signals object number (suc m) (first ∷ drives) d at same = by_test (same_name (outermost signals first.signal) object) (node-drive signals object number m drives d at same)
  where
    found : ObjectDrive
    found = record { node = number; offset = drives_width drives; places = first.places; place = first.place }

    by_test : (test : Bool) → (j : ℕ) × (other : ObjectDrive) × (slice_get (node_drives signals object number drives) j ≡ Some other) × (other.node ≡ number) × (other.places ≡ d.places) →
        (j : ℕ) × (other : ObjectDrive) × (slice_get (drive_if test found (node_drives signals object number drives)) j ≡ Some other) × (other.node ≡ number) × (other.places ≡ d.places)
    by_test true r = (suc r.0, r.1, r.2, r.3, r.4)
    by_test false r = r

front : {A : Type 0} (one two : List A) (i : ℕ) (b : A) → slice_get one i ≡ Some b → slice_get (one ++ two) i ≡ Some b
front [] two i b e = absurd (cc)
front (c ∷ one) two zero b e = e
front (c ∷ one) two (suc i) b e = front one two i b e

back : {A : Type 0} (one two : List A) (i : ℕ) (b : A) → slice_get two i ≡ Some b → (k : ℕ) × (slice_get (one ++ two) k ≡ Some b)
back [] two i b e = (i, e)
back (c ∷ one) two i b e = let r = back one two i b e in (suc r.0, r.1)

-- a drive of a node that is of an object is among the object's
drive-at : (signals : List Signal) (object : Identifier) (start i m : ℕ) (nodes : List WalkedNode) (node : WalkedNode) (d : Drive) → slice_get nodes i ≡ Some node →
    slice_get node.drives m ≡ Some d → same_name (outermost signals d.signal) object ≡ true →
    (j : ℕ) × (found : ObjectDrive) × (slice_get (drives_from signals object start nodes) j ≡ Some found) × (found.node ≡ start + i) × (found.places ≡ d.places)
drive-at signals object start i m [] node d at drive same = absurd (cc)
drive-at signals object start zero m (first ∷ nodes) node d at drive same =
    let r = node-drive signals object start m first.drives d (ap (λ (n : WalkedNode). slice_get n.drives m) (same_some first node at) ∙ drive) same in
    let number : start ≡ start + 0 = omega arith in
    (r.0, r.1, front (node_drives signals object start first.drives) (drives_from signals object (start + 1) nodes) r.0 r.1 r.2, r.3 ∙ number, r.4)
drive-at signals object start (suc i) m (first ∷ nodes) node d at drive same =
    let r = drive-at signals object (start + 1) i m nodes node d at drive same in
    let later = back (node_drives signals object start first.drives) (drives_from signals object (start + 1) nodes) r.0 r.1 r.2 in
    let number : (start + 1) + i ≡ start + suc i = omega arith in
    (later.0, r.1, later.1, r.3 ∙ number, r.4)

-- a drive of a node that is of an object
record IsDriveOf (signals : List Signal) (object : Identifier) (start : ℕ) (nodes : List WalkedNode) (found : ObjectDrive) : Type 0 where
  i : ℕ
  node : WalkedNode
  is : slice_get nodes i ≡ Some node
  m : ℕ
  drive : Drive
  drive_is : slice_get node.drives m ≡ Some drive
  number : found.node ≡ start + i
  same : same_name (outermost signals drive.signal) object ≡ true

-- and each of an object's is of a node
own-drive : (signals : List Signal) (object : Identifier) (number j : ℕ) (drives : List Drive) (found : ObjectDrive) → slice_get (node_drives signals object number drives) j ≡ Some found →
    (m : ℕ) × (d : Drive) × (slice_get drives m ≡ Some d) × (found.node ≡ number) × (same_name (outermost signals d.signal) object ≡ true)
own-drive signals object number j [] found at = absurd (cc)
own-drive signals object number j (first ∷ drives) found at =
    by_test j (same_name (outermost signals first.signal) object) refl at (λ k there. own-drive signals object number k drives found there)
  where
    made : ObjectDrive
    made = record { node = number; offset = drives_width drives; places = first.places; place = first.place }

    by_test : (k : ℕ) (test : Bool) → same_name (outermost signals first.signal) object ≡ test → slice_get (drive_if test made (node_drives signals object number drives)) k ≡ Some found →
        ((k : ℕ) → slice_get (node_drives signals object number drives) k ≡ Some found → (m : ℕ) × (d : Drive) × (slice_get drives m ≡ Some d) × (found.node ≡ number)
        × (same_name (outermost signals d.signal) object ≡ true)) →
        (m : ℕ) × (d : Drive) × (slice_get (first ∷ drives) m ≡ Some d) × (found.node ≡ number) × (same_name (outermost signals d.signal) object ≡ true)
    by_test zero true is there rest = (0, first, refl, ap (λ (o : ObjectDrive). o.node) (sym (same_some made found there)), is)
    by_test (suc k) true is there rest = let r = rest k there in (suc r.0, r.1, r.2, r.3, r.4)
    by_test k false is there rest = let r = rest k there in (suc r.0, r.1, r.2, r.3, r.4)

at-drive : (signals : List Signal) (object : Identifier) (start j : ℕ) (nodes : List WalkedNode) (found : ObjectDrive) → slice_get (drives_from signals object start nodes) j ≡ Some found →
    IsDriveOf signals object start nodes found
at-drive signals object start j [] found at = absurd (cc)
at-drive signals object start j (first ∷ nodes) found at =
    elim (at-append (node_drives signals object start first.drives) (drives_from signals object (start + 1) nodes) j found at) [
      | inl here ↦
          let r = own-drive signals object start j first.drives found here.1 in
          let same : start ≡ start + 0 = omega arith in
          record { i = 0; node = first; is = refl; m = r.0; drive = r.1; drive_is = r.2; number = r.3 ∙ same; same = r.4 }
      | inr later ↦
          let r = at-drive signals object (start + 1) later.0 nodes found later.2 in
          let same : (start + 1) + r.i ≡ start + suc r.i = omega arith in
          record { i = suc r.i; node = r.node; is = r.is; m = r.m; drive = r.drive; drive_is = r.drive_is; number = r.number ∙ same; same = r.same }
    ]

-- No two drivers

refusal-none : (signals : List Signal) (nodes : List WalkedNode) (all : List Signal) (i : ℕ) (signal : Signal) → slice_get all i ≡ Some signal → first_two_drivers signals nodes all ≡ None →
    signal_two_drivers signals nodes signal ≡ None
refusal-none signals nodes [] i signal at e = absurd (cc)
refusal-none signals nodes (first ∷ all) zero signal at e =
    ap (signal_two_drivers signals nodes) (sym (same_some first signal at)) ∙ (refusal_or-none (signal_two_drivers signals nodes first) (first_two_drivers signals nodes all) e).0
refusal-none signals nodes (first ∷ all) (suc i) signal at e = refusal-none signals nodes all i signal at
    (refusal_or-none (signal_two_drivers signals nodes first) (first_two_drivers signals nodes all) e).1

-- no bit of an unjoined net or variable has two drivers
one-each : (signals : List Signal) (nodes : List WalkedNode) → two_drivers signals nodes ≡ None → (i : ℕ) (signal : Signal) → slice_get signals i ≡ Some signal → is_unjoined signal ≡ true →
    second_driver (taken_bits (range_width signal.range) (driving_variables signals nodes signal.name)) (map run_of (object_drives signals nodes signal.name)) ≡ None
one-each signals nodes none i signal at unjoined =
    let kept = filter-at is_unjoined signals i signal at unjoined in
    let mine = refusal-none signals nodes (filter is_unjoined signals) kept.0 signal kept.1 none in
    let driving = driving_variables signals nodes signal.name in
    let runs = map run_of (object_drives signals nodes signal.name) in
    by_found (second_driver (taken_bits (range_width signal.range) driving) runs)
    (refusal_or-none (second_variable driving) (refusal_of (second_driver (taken_bits (range_width signal.range) driving) runs)) mine).1
  where
    by_found : (found : Option SecondDriver) → refusal_of found ≡ None → found ≡ None
    by_found None e = refl
    by_found (Some second) e = absurd (cc)

-- Targets

drive-numbered : (drives : List ObjectDrive) (j : ℕ) (found : ObjectDrive) → slice_get drives j ≡ Some found → drive_numbered drives j ≡ Some found
drive-numbered [] j found at = absurd (cc)
drive-numbered (first ∷ drives) zero found at = at
drive-numbered (first ∷ drives) (suc j) found at = drive-numbered drives j found at

whole-driver : (found : ObjectDrive) (rest : List (Option ℕ)) → found.places ≡ Some 0 ∷ rest → piece_driver 0 (Some found) ≡ Some (record { node = found.node; place = found.offset + 0 })
whole-driver found rest e = ap (λ places. piece_driver 0 (Some (record found { places = places }))) e

-- a target of a block is held by one object, which the block's node writes
pub record IsTargetHeld (parts : List Part) (number : ℕ) (full : Identifier) : Type 0 where
  pub held : HeldObject
  pub one : IsOneObject (objects_in parts) (outermost (signals_of parts) full) held
  pub driver : PieceDriver
  pub driven : held.driver ≡ Some driver
  pub node : driver.node ≡ number

-- an unjoined net or variable that one drive drives whole
whole-held : (parts : List Part) → IsHierarchy parts → (outer : Signal) (k : ℕ) → slice_get parts k ≡ Some (SignalPart outer) → outer.joined ≡ None → (n : ℕ) → range_width outer.range ≡ suc n →
    (j : ℕ) (found : ObjectDrive) →
    slice_get (object_drives (signals_of parts) (nodes_in parts) outer.name) j ≡ Some found → found.places ≡ whole_places (suc n) → (driving : List Signal) →
    driving_variables (signals_of parts) (nodes_in parts) outer.name ≡ driving →
    second_driver (taken_bits (range_width outer.range) driving) (map run_of (object_drives (signals_of parts) (nodes_in parts) outer.name)) ≡ None →
    (held : HeldObject) × IsOneObject (objects_in parts) outer.name held × (held.driver ≡ Some (record { node = found.node; place = found.offset + 0 }))
whole-held parts hierarchy outer k part unjoined n width j found at places driving e none = by_driving driving e none
  where
    signals : List Signal
    signals = signals_of parts

    drives : List ObjectDrive
    drives = object_drives signals (nodes_in parts) outer.name

    runs : List DrivenRun
    runs = map run_of drives

    run-at : slice_get runs j ≡ Some (run_of found)
    run-at = at-map run_of drives j found at

    has-bit : (bit : ℕ) → bit < suc n → has (run_of found).bits bit ≡ true
    has-bit bit less = ap (λ l. has l bit) (ap bits_within places ∙ bits-whole (up_from 0 (suc n))) ∙ has-all 0 (suc n) bit (omega arith) (omega (arith, less))

    by_driving : (some : List Signal) → driving_variables signals (nodes_in parts) outer.name ≡ some → second_driver (taken_bits (range_width outer.range) some) runs ≡ None →
        (held : HeldObject) × IsOneObject (objects_in parts) outer.name held × (held.driver ≡ Some (record { node = found.node; place = found.offset + 0 }))
    by_driving (first ∷ rest) is clear =
        let wide : has (up_from 0 (range_width outer.range)) 0 ≡ true = has-all 0 (range_width outer.range) 0 (omega arith) (omega (arith, width)) in
        let wrong : true ≡ false = sym wide ∙ taken-apart (up_from 0 (range_width outer.range)) runs j (run_of found) 0 clear run-at (has-bit 0 (omega arith)) in
        absurd (cc)
    by_driving [] is clear =
        let same : 0 + j ≡ j = omega arith in
        let piece : CutPiece = record { low = 0; width = suc n; driver = Some j } in
        let pieces : pieces_of (range_width outer.range) runs ≡ piece ∷ [] =
        ap (λ w. pieces_of w runs) width ∙ one-piece runs (Some j) 0 n (λ bit low high. driver-is [] 0 runs j (run_of found) bit clear run-at (has-bit bit (omega (arith, high))) ∙ ap Some same) in
        let held = piece_object outer drives piece in
        let made : part_objects signals (nodes_in parts) (SignalPart outer) ≡ held ∷ [] =
        ap (λ b. signal_objects signals (nodes_in parts) b outer) (unjoined-is outer unjoined) ∙ ap (pieces_or_variable outer drives) is ∙ ap (map (piece_object outer drives)) pieces in (
          held,
          one-held parts (nodes_in parts) hierarchy k (SignalPart outer) outer.name held part refl refl made,
          ap (piece_driver 0) (drive-numbered drives j found at) ∙ whole-driver found (map Some (up_from 1 n)) places,
        )

pub target-held : (parts : List Part) → IsHierarchy parts → two_drivers (signals_of parts) (nodes_in parts) ≡ None → (number : ℕ) (node : WalkedNode) (process : WalkedProcess) →
    slice_get (nodes_in parts) number ≡ Some node →
    (moves : IsBlockPart parts node process) (m : ℕ) (name : Identifier) → slice_get moves.targets m ≡ Some name → (i : ℕ) (signal : Signal) → slice_get (signals_of parts) i ≡ Some signal →
    signal.name ≡ process.path ++ name →
    IsTargetHeld parts number (process.path ++ name)
target-held parts hierarchy two number node process at moves m name target i signal there is =
    let signals = signals_of parts in
    let nodes = nodes_in parts in
    let last = outermost-is parts hierarchy i signal there in
    let outer = last.outer in
    let outermost_is : outermost signals (process.path ++ name) ≡ outer.name = ap (outermost signals) (sym is) ∙ last.name_is in
    let d = block_drive signals process name in
    let drive : slice_get node.drives m ≡ Some d = ap (λ l. slice_get l m) moves.drives ∙ at-map (block_drive signals process) moves.targets m name target in
    let same : same_name (outermost signals (process.path ++ name)) outer.name ≡ true = ap (λ n. same_name n outer.name) outermost_is ∙ name-same outer.name in
    let found = drive-at signals outer.name 0 number m nodes node d at drive same in
    let wide = width-some outer.range.high outer.range.low in
    let named : signal_named signals (process.path ++ name) ≡ Some signal = ap (signal_named signals) (sym is) ∙ signal-found parts hierarchy i signal there in
    let places : found.1.places ≡ whole_places (suc wide.0) = found.4 ∙ ap (λ s. whole_places (signal_width s)) named ∙ ap whole_places (sym last.width ∙ wide.1) in
    let part = signal-part parts last.number outer last.is in
    let none = one-each signals nodes two last.number outer last.is (unjoined-is outer last.unjoined) in
    let r = whole-held parts hierarchy outer part.0 part.1 last.unjoined wide.0 wide.1 found.0 found.1 found.2 places (driving_variables signals nodes outer.name) refl none in
    let number_is : 0 + number ≡ number = omega arith in
    record {
      held = r.0;
      one = subst (λ n. IsOneObject (objects_in parts) n r.0) (sym outermost_is) r.1;
      driver = record { node = found.1.node; place = found.1.offset + 0 };
      driven = r.2;
      node = found.3 ∙ number_is;
    }

-- Outputs

-- an object whose driver is a node is one of the node's outputs
output-from : (number start k : ℕ) (objects : List HeldObject) (held : HeldObject) (driver : PieceDriver) → slice_get objects k ≡ Some held → held.driver ≡ Some driver → driver.node ≡ number →
    has (objects_of_outputs (outputs_from number start objects)) (start + k) ≡ true
output-from number start k [] held driver at is node = absurd (cc)
output-from number start zero (first ∷ objects) held driver at is node =
    let o = start + 0 in
    let mine = output_of_object number start first.driver in
    let rest = outputs_from number (start + 1) objects in
    let driven : first.driver ≡ Some driver = ap (λ (h : HeldObject). h.driver) (same_some first held at) ∙ is in
    let here : has (objects_of_outputs mine) o ≡ true =
    ap (λ d. has (objects_of_outputs (output_of_object number start d)) o) driven
    ∙ ap (λ b. has (objects_of_outputs (output_if b (record { object = start; place = driver.place }))) o) (eq-eqb driver.node number node)
    ∙ or_left (nat_eq start o) false (eq-eqb start o (omega arith)) in
    ap (λ l. has l o) (map-append (λ (p : NodeOutput). p.object) mine rest) ∙ has-append (objects_of_outputs mine) (objects_of_outputs rest) o
    ∙ or_left (has (objects_of_outputs mine) o) (has (objects_of_outputs rest) o) here
output-from number start (suc k) (first ∷ objects) held driver at is node =
    let o = start + suc k in
    let mine = output_of_object number start first.driver in
    let rest = outputs_from number (start + 1) objects in
    let same : (start + 1) + k ≡ o = omega arith in
    let later : has (objects_of_outputs rest) o ≡ true = ap (has (objects_of_outputs rest)) (sym same) ∙ output-from number (start + 1) k objects held driver at is node in
    ap (λ l. has l o) (map-append (λ (p : NodeOutput). p.object) mine rest) ∙ has-append (objects_of_outputs mine) (objects_of_outputs rest) o
    ∙ or_right (has (objects_of_outputs mine) o) (has (objects_of_outputs rest) o) later

-- the object of a target is an output
pub target-output : (parts : List Part) (number : ℕ) (full : Identifier) → (t : IsTargetHeld parts number full) → has (objects_of_outputs (outputs_of (objects_in parts) number)) t.one.number ≡ true
target-output parts number full t =
    let same : 0 + t.one.number ≡ t.one.number = omega arith in
    ap (has (objects_of_outputs (outputs_of (objects_in parts) number))) (sym same) ∙ output-from number 0 t.one.number (objects_in parts) t.held t.driver t.one.is t.driven t.node

and_then-some : {A B : Type 0} (f : A → Option B) (x : Option A) (y : B) → option_and_then f x ≡ Some y → (a : A) × (x ≡ Some a) × (f a ≡ Some y)
and_then-some f None y e = absurd (cc)
and_then-some f (Some a) y e = (a, refl, e)

driver-some : (bit : ℕ) (found : Option ObjectDrive) (driver : PieceDriver) → piece_driver bit found ≡ Some driver → (d : ObjectDrive) × (found ≡ Some d) × (driver.node ≡ d.node)
driver-some bit None driver e = absurd (cc)
driver-some bit (Some d) driver e =
    let r = and_then-some (λ at. Some (record { node = d.node; place = at })) (value_place bit d) driver e in
    (d, refl, ap (λ (p : PieceDriver). p.node) (sym (same_some (record { node = d.node; place = r.0 }) driver r.2)))

numbered-drive : (drives : List ObjectDrive) (number : ℕ) (d : ObjectDrive) → drive_numbered drives number ≡ Some d → (j : ℕ) × (slice_get drives j ≡ Some d)
numbered-drive [] number d e = absurd (cc)
numbered-drive (first ∷ drives) zero d e = (0, e)
numbered-drive (first ∷ drives) (suc number) d e = let r = numbered-drive drives number d e in (suc r.0, r.1)

-- a net piece that a node drives, with the drive
record IsDrivenPiece (signals : List Signal) (nodes : List WalkedNode) (part : Part) (held : HeldObject) (driver : PieceDriver) : Type 0 where
  outer : Signal
  part_is : part ≡ SignalPart outer
  holder : held.holder ≡ outer.name
  j : ℕ
  found : ObjectDrive
  found_is : slice_get (object_drives signals nodes outer.name) j ≡ Some found
  node : driver.node ≡ found.node

only-one : {A : Type 0} (x y : A) (m : ℕ) → slice_get (x ∷ []) m ≡ Some y → x ≡ y
only-one x y zero at = same_some x y at
only-one x y (suc m) at = absurd (cc)

driven-piece : (signals : List Signal) (nodes : List WalkedNode) (part : Part) (m : ℕ) (held : HeldObject) (driver : PieceDriver) → slice_get (part_objects signals nodes part) m ≡ Some held →
    held.driver ≡ Some driver →
    IsDrivenPiece signals nodes part held driver
driven-piece signals nodes (SignalPart outer) m held driver at is = by_joining (is_unjoined outer) at
  where
    drives : List ObjectDrive
    drives = object_drives signals nodes outer.name

    by_driving : (driving : List Signal) → slice_get (pieces_or_variable outer drives driving) m ≡ Some held → IsDrivenPiece signals nodes (SignalPart outer) held driver
    by_driving [] there =
        let r = map-at (piece_object outer drives) (pieces_of (range_width outer.range) (map run_of drives)) m held there in
        let d = driver-some r.0.low (option_and_then (drive_numbered drives) r.0.driver) driver (ap (λ (h : HeldObject). h.driver) r.2 ∙ is) in
        let number = and_then-some (drive_numbered drives) r.0.driver d.0 d.1 in
        let at_drive = numbered-drive drives number.0 d.0 number.2 in
        record { outer = outer; part_is = refl; holder = ap (λ (h : HeldObject). h.holder) (sym r.2); j = at_drive.0; found = d.0; found_is = at_drive.1; node = d.2 }
    by_driving (first ∷ rest) there =
        let none : None ≡ Some driver = ap (λ (h : HeldObject). h.driver) (only-one (variable_object outer first) held m there) ∙ is in absurd (cc)

    by_joining : (unjoined : Bool) → slice_get (signal_objects signals nodes unjoined outer) m ≡ Some held → IsDrivenPiece signals nodes (SignalPart outer) held driver
    by_joining true there = by_driving (driving_variables signals nodes outer.name) there
    by_joining false there = absurd (cc)
driven-piece signals nodes (MemoryPart memory) m held driver at is =
    let r = map-at (word_object memory) _ m held at in let none : None ≡ Some driver = ap (λ (h : HeldObject). h.driver) r.2 ∙ is in absurd (cc)
driven-piece signals nodes (AssignPart drives value) m held driver at is = absurd (cc)
driven-piece signals nodes (GatePart name kind drives path terminals) m held driver at is = absurd (cc)
driven-piece signals nodes (ProcessPart process) m held driver at is = absurd (cc)
driven-piece signals nodes InstancePart m held driver at is = absurd (cc)

-- an output of a block is an object that holds one of its targets
pub record IsOutputOf (parts : List Part) (process : WalkedProcess) (targets : List Identifier) (o : ℕ) : Type 0 where
  pub m : ℕ
  pub name : Identifier
  pub target : slice_get targets m ≡ Some name
  pub held : HeldObject
  pub is : slice_get (objects_in parts) o ≡ Some held
  pub holder : held.holder ≡ outermost (signals_of parts) (process.path ++ name)
  pub number : ℕ
  pub signal : Signal
  pub signal_is : slice_get (signals_of parts) number ≡ Some signal
  pub name_is : signal.name ≡ process.path ++ name

unfound : (levels : ℕ) (signals : List Signal) (name : Identifier) → signal_named signals name ≡ None → outermost_within levels signals name ≡ name
unfound zero signals name e = refl
unfound (suc levels) signals name e = ap (λ s. up_or (outermost_within levels signals) name (joined_into s)) e

-- a name that is at last joined into a net or variable is one
found-signal : (parts : List Part) → IsHierarchy parts → (k : ℕ) (outer : Signal) → slice_get parts k ≡ Some (SignalPart outer) → (name : Identifier) → outermost (signals_of parts) name ≡ outer.name →
    (i : ℕ) × (signal : Signal) × (slice_get (signals_of parts) i ≡ Some signal) × (signal.name ≡ name)
found-signal parts hierarchy k outer part name e = by_found (signal_named (signals_of parts) name) refl
  where
    by_found : (found : Option Signal) → signal_named (signals_of parts) name ≡ found → (i : ℕ) × (signal : Signal) × (slice_get (signals_of parts) i ≡ Some signal) × (signal.name ≡ name)
    by_found (Some signal) is = let r = named-at (signals_of parts) name signal is in (r.0, signal, r.1, r.2)
    by_found None is =
        let place = part-in-signals parts k outer part in
        let same : name ≡ outer.name = sym (unfound most_depth (signals_of parts) name is) ∙ e in
        let both : None ≡ Some outer = sym is ∙ ap (signal_named (signals_of parts)) same ∙ signal-found parts hierarchy place.0 outer place.1 in
        absurd (cc)

pub output-of : (parts : List Part) → IsHierarchy parts → (number : ℕ) (node : WalkedNode) (process : WalkedProcess) → slice_get (nodes_in parts) number ≡ Some node →
    (moves : IsBlockPart parts node process) (o : ℕ) →
    has (objects_of_outputs (outputs_of (objects_in parts) number)) o ≡ true → IsOutputOf parts process moves.targets o
output-of parts hierarchy number node process at moves o e =
    let signals = signals_of parts in
    let nodes = nodes_in parts in
    let w = written-from number 0 o (objects_in parts) e in
    let place_is = w.object_is in
    let place : w.place ≡ o = omega (arith, place_is) in
    let r = at-flat_map (part_objects signals nodes) parts w.place w.held w.is in
    let piece = driven-piece signals nodes r.1 r.2 w.held w.by.driver r.4 w.by.is in
    let drive = at-drive signals piece.outer.name 0 piece.j nodes piece.found piece.found_is in
    let one = drive.number in
    let two = piece.node in
    let three = w.by.node in
    let i : drive.i ≡ number = omega (arith, one, two, three) in
    let same : drive.node ≡ node = same_some drive.node node (sym drive.is ∙ ap (slice_get nodes) i ∙ at) in
    let target = map-at (block_drive signals process) moves.targets drive.m drive.drive
    (ap (λ l. slice_get l drive.m) (sym moves.drives) ∙ ap (λ (n : WalkedNode). slice_get n.drives drive.m) (sym same) ∙ drive.drive_is) in
    let signal_is : process.path ++ target.0 ≡ drive.drive.signal = ap (λ (d : Drive). d.signal) target.2 in
    let outermost_is : outermost signals (process.path ++ target.0) ≡ piece.outer.name = ap (outermost signals) signal_is
    ∙ equal-name (outermost signals drive.drive.signal) piece.outer.name drive.same in
    let found = found-signal parts hierarchy r.0 piece.outer (r.3 ∙ ap Some piece.part_is) (process.path ++ target.0) outermost_is in
    record {
      m = drive.m;
      name = target.0;
      target = target.1;
      held = w.held;
      is = ap (slice_get (objects_in parts)) (sym place) ∙ w.is;
      holder = piece.holder ∙ sym outermost_is;
      number = found.0;
      signal = found.1;
      signal_is = found.2;
      name_is = found.3;
    }

-- The pieces that hold a name

held-piece : (objects : List HeldObject) (holder : Identifier) (start i : ℕ) (held : HeldObject) → slice_get objects i ≡ Some held → held.holder ≡ holder →
    has (piece_objects (joined (map_numbered (λ number (h : HeldObject). piece_if (same_name h.holder holder) number h) start objects))) (start + i) ≡ true
held-piece [] holder start i held at holds = absurd (cc)
held-piece (first ∷ objects) holder start zero held at holds =
    let o = start + 0 in
    let rest = joined (map_numbered (λ number (h : HeldObject). piece_if (same_name h.holder holder) number h) (start + 1) objects) in
    let passes : same_name first.holder holder ≡ true = ap (λ (h : HeldObject). same_name h.holder holder) (same_some first held at) ∙ ap (λ n. same_name n holder) holds ∙ name-same holder in
    ap (λ b. has (piece_objects (piece_if b start first ++ rest)) o) passes ∙ or_left (nat_eq start o) (has (piece_objects rest) o) (eq-eqb start o (omega arith))
held-piece (first ∷ objects) holder start (suc i) held at holds =
    let o = start + suc i in
    let mine = piece_if (same_name first.holder holder) start first in
    let rest = joined (map_numbered (λ number (h : HeldObject). piece_if (same_name h.holder holder) number h) (start + 1) objects) in
    let same : (start + 1) + i ≡ o = omega arith in
    let later : has (piece_objects rest) o ≡ true = ap (has (piece_objects rest)) (sym same) ∙ held-piece objects holder (start + 1) i held at holds in
    ap (λ l. has l o) (map-append (λ (p : Piece). p.object) mine rest) ∙ has-append (piece_objects mine) (piece_objects rest) o
    ∙ or_right (has (piece_objects mine) o) (has (piece_objects rest) o) later

-- of a name that one object holds there is no other
pub only-object : (objects : List HeldObject) (holder : Identifier) (held : HeldObject) → (one : IsOneObject objects holder held) → (o : ℕ) (other : HeldObject) → slice_get objects o ≡ Some other →
    other.holder ≡ holder → one.number ≡ o
only-object objects holder held one o other at holds =
    let here : has (piece_objects (pieces_held objects holder)) (0 + o) ≡ true = held-piece objects holder 0 o other at holds in
    let place : 0 + o ≡ o = omega arith in
    let there : (nat_eq one.number o || false) ≡ true = ap (λ l. has (piece_objects l) o) (sym one.pieces) ∙ ap (has (piece_objects (pieces_held objects holder))) (sym place) ∙ here in
    elim (or_cases (nat_eq one.number o) false there) [
      | inl same ↦ eqb-true one.number o same
      | inr none ↦ absurd (cc)
    ]
