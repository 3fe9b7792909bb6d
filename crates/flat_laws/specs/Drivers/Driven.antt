-- The objects that a node writes have at most as many bits together as the node drives (IEEE 1364-2001, clause 6.1; that a net is cut by its drivers is own).
use Rattle.std.proofs.Common.{◌≡◌, ℕ, zero, suc, ◌+◌, ◌<◌, ◌≤◌, min, Bool, true, false, ◌||◌, List, [], ◌∷◌, length, map, Option, Some, None, refl, sym, ap, ◌∙◌, inl, inr, arith}
use Rattle.std.specs.Prelude.{nat_eq, slice_get, flat_map, sum_by, option_and_then}
use Rattle.std.proofs.lemmas.Bool.{cases_eq, eq-eqb, ne_eqb, eqb-true}
use Rattle.std.proofs.lemmas.List.Sums.{sum_by-cons, sum_by-append}
use Rattle.vf_base.specs.Lists.{has}
use Rattle.v_design.specs.Expressions.{up_from}
use Rattle.v_design.specs.Sized.{span}
use Rattle.v_tree.specs.Trees.{Identifier, same_name}
use Rattle.v_names.specs.Scopes.{range_width}
use Rattle.v_ports.specs.Pieces.{DrivenRun, driver_of_bit, CutPiece, same_driver, grown_or_new, bit_before, pieces_from, pieces_of}
use Rattle.v_elab.specs.Parts.{Signal, WalkedMemory, Drive, Part, SignalPart, MemoryPart, AssignPart, GatePart, ProcessPart, InstancePart}
use Rattle.v_elab.specs.Drivers.{signals_of, outermost, is_unjoined, bits_within, WalkedNode, driving_variables, ObjectDrive, drive_if, drives_width, node_drives, drives_from, object_drives, run_of}
use Rattle.v_elab.specs.Objects.{PieceDriver, HeldObject, value_place, piece_driver, drive_numbered, piece_object, pieces_or_variable, signal_objects, word_object, part_objects}
use Rattle.graph_order.specs.ListLaws.{sum_by-none}
use Rattle.flat_laws.specs.Hierarchy.Given.{equal-name, part_name}
use Rattle.flat_laws.specs.Names.Spelled.{one_if, one_if-most}
use Rattle.flat_laws.specs.Names.OnceDeclared.{number_if}

-- Sums

sums-least : {A : Type 0} (f g : A → ℕ) (xs : List A) → ((x : A) → f x ≤ g x) → sum_by f xs ≤ sum_by g xs
sums-least f g [] each = omega arith
sums-least f g (x ∷ xs) each = omega (arith, each x, sum_by-cons f x xs, sum_by-cons g x xs, sums-least f g xs each)

sums-two : {A : Type 0} (f g : A → ℕ) (xs : List A) → sum_by (λ x. f x + g x) xs ≡ sum_by f xs + sum_by g xs
sums-two f g [] = refl
sums-two f g (x ∷ xs) = omega (arith, sum_by-cons (λ y. f y + g y) x xs, sum_by-cons f x xs, sum_by-cons g x xs, sums-two f g xs)

sum-zero : {A : Type 0} (f : A → ℕ) (xs : List A) → ((x : A) → f x ≡ 0) → sum_by f xs ≡ 0
sum-zero f xs none = sum_by-none f xs (λ i x at. none x)

number-zero : (test : Bool) → number_if test 0 ≡ 0
number-zero true = refl
number-zero false = refl

-- Pieces by their drivers

abbrev drive_weight : ℕ → ℕ → Option ObjectDrive → ℕ
drive_weight n width None = 0
drive_weight n width (Some drive) = number_if (nat_eq drive.node n) width

abbrev pub driver_weight : ℕ → ℕ → Option PieceDriver → ℕ
driver_weight n width None = 0
driver_weight n width (Some driver) = number_if (nat_eq driver.node n) width

-- the bits of an object, where a node of a number writes it
abbrev pub held_weight : ℕ → HeldObject → ℕ
held_weight n held = driver_weight n held.object.width held.driver

placed-weight : (n width : ℕ) (drive : ObjectDrive) (value : Option ℕ) → driver_weight n width (option_and_then (λ at. Some (record { node = drive.node; place = at })) value) ≤ number_if
    (nat_eq drive.node n) width
placed-weight n width drive None = omega arith
placed-weight n width drive (Some at) = omega arith

driver-weight : (n width bit : ℕ) (drive : Option ObjectDrive) → driver_weight n width (piece_driver bit drive) ≤ drive_weight n width drive
driver-weight n width bit None = omega arith
driver-weight n width bit (Some drive) = placed-weight n width drive (value_place bit drive)

drive-more : (n width : ℕ) (drive : Option ObjectDrive) → drive_weight n (width + 1) drive ≡ drive_weight n 1 drive + drive_weight n width drive
drive-more n width None = refl
drive-more n width (Some drive) = by_test (nat_eq drive.node n)
  where
    by_test : (test : Bool) → number_if test (width + 1) ≡ number_if test 1 + number_if test width
    by_test true = omega arith
    by_test false = refl

abbrev cut_weight : (Option ℕ → Option ObjectDrive) → ℕ → CutPiece → ℕ
cut_weight find n piece = drive_weight n piece.width (find piece.driver)

driver-same : (one other : Option ℕ) → same_driver one other ≡ true → one ≡ other
driver-same None None e = refl
driver-same None (Some other) e = absurd (cc)
driver-same (Some one) None e = absurd (cc)
driver-same (Some one) (Some other) e = ap Some (eqb-true one other e)

grown-weight : (find : Option ℕ → Option ObjectDrive) (n : ℕ) (same : Bool) (bit : ℕ) (driver : Option ℕ) (next : CutPiece) (pieces : List CutPiece) → (same ≡ true → driver ≡ next.driver) →
    sum_by (cut_weight find n) (grown_or_new same bit driver next pieces) ≡ drive_weight n 1 (find driver) + sum_by (cut_weight find n) (next ∷ pieces)
grown-weight find n true bit driver next pieces is =
    let moved : drive_weight n next.width (find driver) ≡ drive_weight n next.width (find next.driver) = ap (λ d. drive_weight n next.width (find d)) (is refl) in
    omega (
      arith,
      drive-more n next.width (find driver),
      moved,
      sum_by-cons (cut_weight find n) (record { low = bit; width = next.width + 1; driver = driver }) pieces,
      sum_by-cons (cut_weight find n) next pieces,
    )
grown-weight find n false bit driver next pieces is = sum_by-cons (cut_weight find n) (record { low = bit; width = 1; driver = driver }) (next ∷ pieces)

before-weight : (find : Option ℕ → Option ObjectDrive) (n bit : ℕ) (driver : Option ℕ) (pieces : List CutPiece) →
    sum_by (cut_weight find n) (bit_before bit driver pieces) ≡ drive_weight n 1 (find driver) + sum_by (cut_weight find n) pieces
before-weight find n bit driver [] = sum_by-cons (cut_weight find n) (record { low = bit; width = 1; driver = driver }) []
before-weight find n bit driver (next ∷ pieces) = grown-weight find n (same_driver driver next.driver) bit driver next pieces (driver-same driver next.driver)

-- the pieces weigh what their bits weigh
bits-weight : (find : Option ℕ → Option ObjectDrive) (n : ℕ) (runs : List DrivenRun) (bits : List ℕ) →
    sum_by (cut_weight find n) (pieces_from runs bits) ≡ sum_by (λ bit. drive_weight n 1 (find (driver_of_bit 0 runs bit))) bits
bits-weight find n runs [] = refl
bits-weight find n runs (bit ∷ bits) =
    omega (
      arith,
      before-weight find n bit (driver_of_bit 0 runs bit) (pieces_from runs bits),
      bits-weight find n runs bits,
      sum_by-cons (λ b. drive_weight n 1 (find (driver_of_bit 0 runs b))) bit bits,
    )

-- Bits by their drives

abbrev drive_has : ℕ → ℕ → ObjectDrive → ℕ
drive_has n bit drive = number_if (nat_eq drive.node n) (one_if (has (bits_within drive.places) bit))

bit-driven : (n bit number : ℕ) (all drives : List ObjectDrive) → ((i : ℕ) → drive_numbered all (number + i) ≡ drive_numbered drives i) →
    drive_weight n 1 (option_and_then (drive_numbered all) (driver_of_bit number (map run_of drives) bit)) ≤ sum_by (drive_has n bit) drives
bit-driven n bit number all [] at = omega arith
bit-driven n bit number all (drive ∷ rest) at =
    by_test (has (bits_within drive.places) bit) refl
    (bit-driven n bit (number + 1) all rest (λ i. let moved : number + suc i ≡ (number + 1) + i = omega arith in ap (drive_numbered all) (sym moved) ∙ at (suc i)))
  where
    by_test : (test : Bool) → has (bits_within drive.places) bit ≡ test → drive_weight n 1 (option_and_then (drive_numbered all) (driver_of_bit (number + 1) (map run_of rest) bit)) ≤ sum_by
        (drive_has n bit) rest →
        drive_weight n 1 (option_and_then (drive_numbered all) (driver_of_bit number (run_of drive ∷ map run_of rest) bit)) ≤ sum_by (drive_has n bit) (drive ∷ rest)
    by_test true e later =
        let is : driver_of_bit number (run_of drive ∷ map run_of rest) bit ≡ Some number = rw e refl in
        let same : number + 0 ≡ number = omega arith in
        let found : drive_numbered all number ≡ Some drive = ap (drive_numbered all) (sym same) ∙ at 0 in
        let left : drive_weight n 1 (option_and_then (drive_numbered all) (driver_of_bit number (run_of drive ∷ map run_of rest) bit)) ≡ number_if (nat_eq drive.node n) 1 =
        ap (λ d. drive_weight n 1 (option_and_then (drive_numbered all) d)) is ∙ ap (drive_weight n 1) found in
        let here : drive_has n bit drive ≡ number_if (nat_eq drive.node n) 1 = ap (λ b. number_if (nat_eq drive.node n) (one_if b)) e in
        omega (arith, left, here, sum_by-cons (drive_has n bit) drive rest)
    by_test false e later =
        let is : driver_of_bit number (run_of drive ∷ map run_of rest) bit ≡ driver_of_bit (number + 1) (map run_of rest) bit = rw e refl in
        let left = ap (λ d. drive_weight n 1 (option_and_then (drive_numbered all) d)) is in
        omega (arith, left, later, sum_by-cons (drive_has n bit) drive rest)

-- one number stands at most once among those upwards
number-once : (x start count : ℕ) → (sum_by (λ b. one_if (nat_eq x b)) (up_from start count) ≤ 1) × (x < start → sum_by (λ b. one_if (nat_eq x b)) (up_from start count) ≡ 0)
number-once x start zero = (omega arith, λ less. refl)
number-once x start (suc count) =
    let f : ℕ → ℕ = λ b. one_if (nat_eq x b) in
    let rest = number-once x (start + 1) count in
    let cons = sum_by-cons f start (up_from (start + 1) count) in (
      elim (cases_eq x start) [
        | inl same ↦ omega (arith, cons, one_if-most (nat_eq x start), rest.1 (omega (arith, same)))
        | inr apart ↦ omega (arith, cons, ap one_if (ne_eqb x start apart), rest.0)
      ],
      λ less. omega (arith, cons, ap one_if (ne_eqb x start (λ e. omega (arith, e, less))), rest.1 (omega (arith, less))),
    )

or-most : (a b : Bool) → one_if (a || b) ≤ one_if a + one_if b
or-most true b = omega arith
or-most false b = omega arith

bits-most : (bits : List ℕ) (start count : ℕ) → sum_by (λ b. one_if (has bits b)) (up_from start count) ≤ length bits
bits-most [] start count = omega (arith, sum-zero (λ b. one_if (has [] b)) (up_from start count) (λ b. refl))
bits-most (x ∷ bits) start count =
    let f : ℕ → ℕ = λ b. one_if (nat_eq x b) in
    let g : ℕ → ℕ = λ b. one_if (has bits b) in
    omega (
      arith,
      sums-least (λ b. one_if (has (x ∷ bits) b)) (λ b. f b + g b) (up_from start count) (λ b. or-most (nat_eq x b) (has bits b)),
      sums-two f g (up_from start count),
      (number-once x start count).0,
      bits-most bits start count,
    )

within-length : (places : List (Option ℕ)) → length (bits_within places) ≤ length places
within-length [] = omega arith
within-length (None ∷ places) = omega (arith, within-length places)
within-length (Some bit ∷ places) = omega (arith, within-length places)

-- the places of the drives of a node of a number
abbrev drives_weight : ℕ → List ObjectDrive → ℕ
drives_weight n drives = sum_by (λ (drive : ObjectDrive). number_if (nat_eq drive.node n) (length drive.places)) drives

drives-most : (n start count : ℕ) (drives : List ObjectDrive) → sum_by (λ bit. sum_by (drive_has n bit) drives) (up_from start count) ≤ drives_weight n drives
drives-most n start count [] = omega (arith, sum-zero (λ bit. sum_by (drive_has n bit) []) (up_from start count) (λ b. refl))
drives-most n start count (drive ∷ rest) =
    let f : ℕ → ℕ = λ bit. drive_has n bit drive in
    let g : ℕ → ℕ = λ bit. sum_by (drive_has n bit) rest in
    omega (
      arith,
      sums-least (λ bit. sum_by (drive_has n bit) (drive ∷ rest)) (λ b. f b + g b) (up_from start count) (λ b. omega (arith, sum_by-cons (drive_has n b) drive rest)),
      sums-two f g (up_from start count),
      by_test (nat_eq drive.node n),
      drives-most n start count rest,
      sum_by-cons (λ (d : ObjectDrive). number_if (nat_eq d.node n) (length d.places)) drive rest,
    )
  where
    by_test : (test : Bool) → sum_by (λ bit. number_if test (one_if (has (bits_within drive.places) bit))) (up_from start count) ≤ number_if test (length drive.places)
    by_test true = omega (arith, bits-most (bits_within drive.places) start count, within-length drive.places)
    by_test false = omega (arith, sum-zero (λ bit. number_if false (one_if (has (bits_within drive.places) bit))) (up_from start count) (λ b. refl))

-- Objects of a signal

made-weight : (n : ℕ) (signal : Signal) (drives : List ObjectDrive) (pieces : List CutPiece) →
    sum_by (held_weight n) (map (piece_object signal drives) pieces) ≤ sum_by (cut_weight (option_and_then (drive_numbered drives)) n) pieces
made-weight n signal drives [] = omega arith
made-weight n signal drives (piece ∷ pieces) =
    let find = option_and_then (drive_numbered drives) in
    omega (
      arith,
      driver-weight n piece.width piece.low (find piece.driver),
      made-weight n signal drives pieces,
      sum_by-cons (held_weight n) (piece_object signal drives piece) (map (piece_object signal drives) pieces),
      sum_by-cons (cut_weight find n) piece pieces,
    )

pieces-weight : (n : ℕ) (signal : Signal) (drives : List ObjectDrive) (driving : List Signal) → sum_by (held_weight n) (pieces_or_variable signal drives driving) ≤ drives_weight n drives
pieces-weight n signal drives [] =
    let find = option_and_then (drive_numbered drives) in
    let width = range_width signal.range in
    omega (
      arith,
      made-weight n signal drives (pieces_of width (map run_of drives)),
      bits-weight find n (map run_of drives) (up_from 0 width),
      sums-least (λ bit. drive_weight n 1 (find (driver_of_bit 0 (map run_of drives) bit))) (λ bit. sum_by (drive_has n bit) drives) (up_from 0 width)
          (λ bit. bit-driven n bit 0 drives drives (λ i. let same : 0 + i ≡ i = omega arith in ap (drive_numbered drives) same)),
      drives-most n 0 width drives,
    )
pieces-weight n signal drives (first ∷ rest) = omega arith

-- Parts

-- a number of a net or a variable, 0 of anything else
abbrev of_signal : (Identifier → ℕ) → Part → ℕ
of_signal f (SignalPart signal) = f signal.name
of_signal f _ = 0

signal-weight : (signals : List Signal) (nodes : List WalkedNode) (n : ℕ) (unjoined : Bool) (signal : Signal) →
    sum_by (held_weight n) (signal_objects signals nodes unjoined signal) ≤ drives_weight n (drives_from signals signal.name 0 nodes)
signal-weight signals nodes n true signal = pieces-weight n signal (object_drives signals nodes signal.name) (driving_variables signals nodes signal.name)
signal-weight signals nodes n false signal = omega arith

words-weight : (n : ℕ) (memory : WalkedMemory) (addresses : List ℕ) → sum_by (held_weight n) (map (word_object memory) addresses) ≡ 0
words-weight n memory [] = refl
words-weight n memory (address ∷ addresses) = omega (arith, sum_by-cons (held_weight n) (word_object memory address) (map (word_object memory) addresses), words-weight n memory addresses)

part-weight : (signals : List Signal) (nodes : List WalkedNode) (n : ℕ) (part : Part) → sum_by (held_weight n) (part_objects signals nodes part) ≤ of_signal
    (λ name. drives_weight n (drives_from signals name 0 nodes)) part
part-weight signals nodes n (SignalPart signal) = signal-weight signals nodes n (is_unjoined signal) signal
part-weight signals nodes n (MemoryPart memory) = omega (arith, words-weight n memory (up_from (min memory.first memory.last) (span memory.first memory.last)))
part-weight signals nodes n (AssignPart drives value) = omega arith
part-weight signals nodes n (GatePart name kind drives path terminals) = omega arith
part-weight signals nodes n (ProcessPart process) = omega arith
part-weight signals nodes n InstancePart = omega arith

objects-weight : (signals : List Signal) (nodes : List WalkedNode) (n : ℕ) (parts : List Part) →
    sum_by (held_weight n) (flat_map (part_objects signals nodes) parts) ≤ sum_by (of_signal (λ name. drives_weight n (drives_from signals name 0 nodes))) parts
objects-weight signals nodes n [] = omega arith
objects-weight signals nodes n (part ∷ parts) =
    omega (
      arith,
      sum_by-append (held_weight n) (part_objects signals nodes part) (flat_map (part_objects signals nodes) parts),
      part-weight signals nodes n part,
      objects-weight signals nodes n parts,
      sum_by-cons (of_signal (λ name. drives_weight n (drives_from signals name 0 nodes))) part parts,
    )

-- Signals of a drive

of-signal-most : (f g h : Identifier → ℕ) → ((name : Identifier) → f name ≤ g name + h name) → (part : Part) → of_signal f part ≤ of_signal g part + of_signal h part
of-signal-most f g h each (SignalPart signal) = each signal.name
of-signal-most f g h each (MemoryPart memory) = omega arith
of-signal-most f g h each (AssignPart drives value) = omega arith
of-signal-most f g h each (GatePart name kind drives path terminals) = omega arith
of-signal-most f g h each (ProcessPart process) = omega arith
of-signal-most f g h each InstancePart = omega arith

signals-split : (f g h : Identifier → ℕ) → ((name : Identifier) → f name ≤ g name + h name) → (parts : List Part) → sum_by (of_signal f) parts ≤ sum_by (of_signal g) parts + sum_by (of_signal h) parts
signals-split f g h each parts = omega (arith, sums-least (of_signal f) (λ part. of_signal g part + of_signal h part) parts (of-signal-most f g h each), sums-two (of_signal g) (of_signal h) parts)

of-signal-none : (f : Identifier → ℕ) → ((name : Identifier) → f name ≡ 0) → (part : Part) → of_signal f part ≡ 0
of-signal-none f none (SignalPart signal) = none signal.name
of-signal-none f none (MemoryPart memory) = refl
of-signal-none f none (AssignPart drives value) = refl
of-signal-none f none (GatePart name kind drives path terminals) = refl
of-signal-none f none (ProcessPart process) = refl
of-signal-none f none InstancePart = refl

-- no two parts have one name
abbrev pub NamesOnce : List Part → Type 0
NamesOnce parts = (i j : ℕ) (one other : Part) (name : Identifier) → slice_get parts i ≡ Some one → slice_get parts j ≡ Some other → part_name one ≡ Some name → part_name other ≡ Some name → i ≡ j

later-once : (part : Part) (parts : List Part) → NamesOnce (part ∷ parts) → NamesOnce parts
later-once part parts once = λ i j one other name at_one at_other is_one is_other. let same = once (suc i) (suc j) one other name at_one at_other is_one is_other in omega (arith, same)

number-named : (test : Bool) (count : ℕ) → (test ≡ true → ⊥) → number_if test count ≡ 0
number-named true count never = absurd (never refl)
number-named false count never = refl

-- one name weighs at most what it is given
name-most : (own : Identifier) (count : ℕ) (parts : List Part) → NamesOnce parts → sum_by (of_signal (λ name. number_if (same_name own name) count)) parts ≤ count
name-most own count [] once = omega arith
name-most own count (part ∷ parts) once = by_part part (λ o. o) once (name-most own count parts (later-once part parts once))
  where
    f : Part → ℕ
    f = of_signal (λ name. number_if (same_name own name) count)

    none-later : (signal : Signal) → NamesOnce (SignalPart signal ∷ parts) → same_name own signal.name ≡ true → (i : ℕ) (other : Part) → slice_get parts i ≡ Some other → f other ≡ 0
    none-later signal own_once same i (SignalPart other) at =
        number-named (same_name own other.name) count
        (λ e. let names : other.name ≡ signal.name = sym (equal-name own other.name e) ∙ equal-name own signal.name same in
        let place = own_once 0 (suc i) (SignalPart signal) (SignalPart other) signal.name refl at refl (ap Some names) in omega (arith, place))
    none-later signal own_once same i (MemoryPart memory) at = refl
    none-later signal own_once same i (AssignPart drives value) at = refl
    none-later signal own_once same i (GatePart name kind drives path terminals) at = refl
    none-later signal own_once same i (ProcessPart process) at = refl
    none-later signal own_once same i InstancePart at = refl

    by_name : (signal : Signal) → NamesOnce (SignalPart signal ∷ parts) → sum_by f parts ≤ count → (test : Bool) → same_name own signal.name ≡ test → number_if test count + sum_by f parts ≤ count
    by_name signal own_once rest true same = omega (arith, sum_by-none f parts (none-later signal own_once same))
    by_name signal own_once rest false same = omega (arith, rest)

    by_part : (first : Part) → (NamesOnce (first ∷ parts) → NamesOnce (first ∷ parts)) → NamesOnce (first ∷ parts) → sum_by f parts ≤ count → sum_by f (first ∷ parts) ≤ count
    by_part (SignalPart signal) keep own_once rest = omega (arith, sum_by-cons f (SignalPart signal) parts, by_name signal own_once rest (same_name own signal.name) refl)
    by_part (MemoryPart memory) keep own_once rest = omega (arith, sum_by-cons f (MemoryPart memory) parts, rest)
    by_part (AssignPart drives value) keep own_once rest = omega (arith, sum_by-cons f (AssignPart drives value) parts, rest)
    by_part (GatePart name kind drives path terminals) keep own_once rest = omega (arith, sum_by-cons f (GatePart name kind drives path terminals) parts, rest)
    by_part (ProcessPart process) keep own_once rest = omega (arith, sum_by-cons f (ProcessPart process) parts, rest)
    by_part InstancePart keep own_once rest = omega (arith, sum_by-cons f InstancePart parts, rest)

-- Drives of a node

node-split : (n number : ℕ) (signals : List Signal) (drive : Drive) (rest : List Drive) (name : Identifier) →
    drives_weight n (node_drives signals name number (drive ∷ rest)) ≤ number_if (nat_eq number n)
    (number_if (same_name (outermost signals drive.signal) name) (length drive.places)) + drives_weight n (node_drives signals name number rest)
node-split n number signals drive rest name = by_test (same_name (outermost signals drive.signal) name)
  where
    own : ObjectDrive
    own = record { node = number; offset = drives_width rest; places = drive.places; place = drive.place }

    by_test : (test : Bool) → drives_weight n (drive_if test own (node_drives signals name number rest)) ≤ number_if (nat_eq number n) (number_if test (length drive.places)) + drives_weight n
        (node_drives signals name number rest)
    by_test true = omega (arith, sum_by-cons (λ (d : ObjectDrive). number_if (nat_eq d.node n) (length d.places)) own (node_drives signals name number rest))
    by_test false = omega arith

node-most : (n number : ℕ) (signals : List Signal) (drives : List Drive) (parts : List Part) → NamesOnce parts →
    sum_by (of_signal (λ name. drives_weight n (node_drives signals name number drives))) parts ≤ number_if (nat_eq number n) (drives_width drives)
node-most n number signals [] parts once = omega (
  arith,
  sum-zero (of_signal (λ name. drives_weight n (node_drives signals name number []))) parts
      (of-signal-none (λ name. drives_weight n (node_drives signals name number [])) (λ name. refl)),
  number-zero (nat_eq number n),
)
node-most n number signals (drive ∷ rest) parts once =
    let own = outermost signals drive.signal in
    omega (
      arith,
      signals-split (λ name. drives_weight n (node_drives signals name number (drive ∷ rest))) (λ name. number_if (nat_eq number n) (number_if (same_name own name) (length drive.places)))
          (λ name. drives_weight n (node_drives signals name number rest))
          (node-split n number signals drive rest) parts,
      node-most n number signals rest parts once,
      by_test (nat_eq number n),
      sum_of (nat_eq number n) (length drive.places) (drives_width rest),
    )
  where
    sum_of : (test : Bool) (a b : ℕ) → number_if test (a + b) ≡ number_if test a + number_if test b
    sum_of true a b = refl
    sum_of false a b = refl

    by_test : (test : Bool) → sum_by (of_signal (λ name. number_if test (number_if (same_name (outermost signals drive.signal) name) (length drive.places)))) parts ≤ number_if test
        (length drive.places)
    by_test true = name-most (outermost signals drive.signal) (length drive.places) parts once
    by_test false =
        omega (
          arith,
          sum-zero (of_signal (λ name. number_if false (number_if (same_name (outermost signals drive.signal) name) (length drive.places)))) parts
              (of-signal-none (λ name. number_if false (number_if (same_name (outermost signals drive.signal) name) (length drive.places))) (λ name. refl)),
        )

-- what the node of a number drives, among the nodes from a number on
abbrev nodes_width : ℕ → ℕ → List WalkedNode → ℕ
nodes_width n start [] = 0
nodes_width n start (node ∷ nodes) = number_if (nat_eq start n) (drives_width node.drives) + nodes_width n (start + 1) nodes

nodes-most : (n start : ℕ) (signals : List Signal) (nodes : List WalkedNode) (parts : List Part) → NamesOnce parts →
    sum_by (of_signal (λ name. drives_weight n (drives_from signals name start nodes))) parts ≤ nodes_width n start nodes
nodes-most n start signals [] parts once = omega (
  arith,
  sum-zero (of_signal (λ name. drives_weight n (drives_from signals name start []))) parts
      (of-signal-none (λ name. drives_weight n (drives_from signals name start [])) (λ name. refl)),
)
nodes-most n start signals (node ∷ nodes) parts once =
    omega (
      arith,
      signals-split (λ name. drives_weight n (drives_from signals name start (node ∷ nodes))) (λ name. drives_weight n (node_drives signals name start node.drives))
          (λ name. drives_weight n (drives_from signals name (start + 1) nodes))
          (λ name. omega (
            arith,
            sum_by-append (λ (d : ObjectDrive). number_if (nat_eq d.node n) (length d.places)) (node_drives signals name start node.drives)
                (drives_from signals name (start + 1) nodes),
          )) parts,
      node-most n start signals node.drives parts once,
      nodes-most n (start + 1) signals nodes parts once,
    )

nodes-past : (n start : ℕ) (nodes : List WalkedNode) → n < start → nodes_width n start nodes ≡ 0
nodes-past n start [] less = refl
nodes-past n start (node ∷ nodes) less =
    let first : number_if (nat_eq start n) (drives_width node.drives) ≡ 0 = ap (λ b. number_if b (drives_width node.drives)) (ne_eqb start n (λ e. omega (arith, e, less))) in
    omega (arith, first, nodes-past n (start + 1) nodes (omega (arith, less)))

node-alone : (n start most : ℕ) (nodes : List WalkedNode) → ((i : ℕ) (node : WalkedNode) → slice_get nodes i ≡ Some node → start + i ≡ n → drives_width node.drives ≤ most) →
    nodes_width n start nodes ≤ most
node-alone n start most [] each = omega arith
node-alone n start most (node ∷ nodes) each =
    elim (cases_eq start n) [
      | inl same ↦
          let first : number_if (nat_eq start n) (drives_width node.drives) ≡ drives_width node.drives = ap (λ b. number_if b (drives_width node.drives)) (eq-eqb start n same) in
          omega (arith, first, each 0 node refl (omega (arith, same)), nodes-past n (start + 1) nodes (omega (arith, same)))
      | inr apart ↦
          let first : number_if (nat_eq start n) (drives_width node.drives) ≡ 0 = ap (λ b. number_if b (drives_width node.drives)) (ne_eqb start n apart) in
          omega (arith, first, node-alone n (start + 1) most nodes (λ i other at is. each (suc i) other at (omega (arith, is))))
    ]

-- the objects that a node writes have at most the bits that it drives
pub node-writes : (parts : List Part) (nodes : List WalkedNode) (n most : ℕ) → NamesOnce parts → ((node : WalkedNode) → slice_get nodes n ≡ Some node → drives_width node.drives ≤ most) →
    sum_by (held_weight n) (flat_map (part_objects (signals_of parts) nodes) parts) ≤ most
node-writes parts nodes n most once each =
    omega (
      arith,
      objects-weight (signals_of parts) nodes n parts,
      nodes-most n 0 (signals_of parts) nodes parts once,
      node-alone n 0 most nodes (λ i node at is. each node (let same : i ≡ n = omega (arith, is) in ap (slice_get nodes) (sym same) ∙ at)),
    )
