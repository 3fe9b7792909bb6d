-- The runs of bits that selects drive: what a net's pieces see of them are the bits within the net (IEEE 1364-2001, clause 6.1).
use Rattle.std.proofs.Common.{◌≡◌, ℕ, zero, suc, ◌+◌, ◌-◌, ◌<◌, ◌≤◌, min, Bool, true, false, ◌||◌, List, [], ◌∷◌, ◌++◌, map, Option, Some, None, Ok, refl, sym, ap, ap₂, ◌∙◌, subst, inl, inr, ◌⊎◌}
use Rattle.std.proofs.Common.{arith}
use Rattle.std.specs.Prelude.{nat_eq, nat_lt, filter, replicate, slice_get}
use Rattle.std.proofs.lemmas.Bool.{cases_Bool, cond-true, cond-false, eqb-true, ltb-true, ltb-false, eq-eqb, eqb-false}
use Rattle.vf_base.specs.Base.{SourcePlace}
use Rattle.vf_base.specs.Lists.{has, AllHold, first_place, earlier_place}
use Rattle.graph_order.specs.ListLaws.{has-append}
use Rattle.v_design.specs.Expressions.{up_from}
use Rattle.v_ports.specs.Pieces.{DrivenRun, lesser_if, least_among, SecondDriver, second_if, second_driver, CutPiece, driver_of_bit, same_driver, grown_or_new, bit_before, pieces_from, pieces_of}
use Rattle.v_ports.specs.Pieces.{DriveOfRun, run_of_drive, cut_pieces, unless_second}
use Rattle.v_elab.specs.Drivers.{bits_within, ObjectDrive}
use Rattle.v_elab.specs.Objects.{is_bit, drive_numbered}

-- The bits of a select

-- the places of the bits of a select with constant indexes: some outside below, a run, and some outside above
abbrev pub run_places : (below low width above : ℕ) → List (Option ℕ)
run_places below low width above = replicate below None ++ (map Some (up_from low width) ++ replicate above None)

none-within : (count : ℕ) → bits_within (replicate count None) ≡ []
none-within zero = refl
none-within (suc count) = none-within count

run-within : (low width : ℕ) (rest : List (Option ℕ)) → bits_within (map Some (up_from low width) ++ rest) ≡ up_from low width ++ bits_within rest
run-within low zero rest = refl
run-within low (suc width) rest = ap (λ l. low ∷ l) (run-within (low + 1) width rest)

none-first : (count : ℕ) (rest : List (Option ℕ)) → bits_within (replicate count None ++ rest) ≡ bits_within rest
none-first zero rest = refl
none-first (suc count) rest = none-first count rest

nothing-behind : {A : Type 0} (l : List A) → l ++ [] ≡ l
nothing-behind [] = refl
nothing-behind (x ∷ l) = ap (λ m. x ∷ m) (nothing-behind l)

-- what a select drives is its run
pub run-bits : (below low width above : ℕ) → bits_within (run_places below low width above) ≡ up_from low width
run-bits below low width above =
    none-first below (map Some (up_from low width) ++ replicate above None) ∙ (run-within low width (replicate above None)
    ∙ (ap (λ l. up_from low width ++ l) (none-within above) ∙ nothing-behind (up_from low width)))

-- Bits within a width

abbrev pub within : ℕ → List ℕ → List ℕ
within width bits = filter (λ bit. nat_lt bit width) bits

-- the run that is left of a run
abbrev pub clipped : ℕ → DriveOfRun → DriveOfRun
clipped width drive = record { low = min drive.low width; width = min drive.width (width - drive.low); place = drive.place }

up-within : (low count width : ℕ) → within width (up_from low count) ≡ up_from (min low width) (min count (width - low))
up-within low zero width = let none : 0 ≡ min 0 (width - low) = omega arith in ap (up_from (min low width)) none
up-within low (suc count) width =
    elim (cases_Bool (nat_lt low width)) [
      | inl less ↦
          let low_is : min low width ≡ low = omega (arith, ltb-true low width less) in
          let next_is : min (low + 1) width ≡ low + 1 = omega (arith, ltb-true low width less) in
          let many : min (suc count) (width - low) ≡ suc (min count (width - (low + 1))) = omega (arith, ltb-true low width less) in
          cond-true (nat_lt low width) (low ∷ within width (up_from (low + 1) count)) (within width (up_from (low + 1) count)) less
          ∙ (ap (λ l. low ∷ l) (up-within (low + 1) count width ∙ ap (λ n. up_from n (min count (width - (low + 1)))) next_is)
          ∙ ap₂ up_from (sym low_is) (sym many))
      | inr more ↦
          let none : min (suc count) (width - low) ≡ 0 = omega (arith, ltb-false low width more) in
          let still : min count (width - (low + 1)) ≡ 0 = omega (arith, ltb-false low width more) in
          cond-false (nat_lt low width) (low ∷ within width (up_from (low + 1) count)) (within width (up_from (low + 1) count)) more
          ∙ (up-within (low + 1) count width ∙ (ap (up_from (min (low + 1) width)) still ∙ ap (up_from (min low width)) (sym none)))
    ]

-- a run's bits within a width are those of the clipped run
pub clipped-bits : (width : ℕ) (drive : DriveOfRun) → (run_of_drive (clipped width drive)).bits ≡ within width (run_of_drive drive).bits
clipped-bits width drive = sym (up-within drive.low drive.width width)

-- a clipped run ends within the width
pub clipped-ends : (width : ℕ) (drive : DriveOfRun) → (clipped width drive).low + (clipped width drive).width ≤ width
clipped-ends width drive = omega arith

-- Drivers of bits

has-within : (width bit : ℕ) (bits : List ℕ) → bit < width → has (within width bits) bit ≡ has bits bit
has-within width bit [] less = refl
has-within width bit (b ∷ bits) less =
    elim (cases_Bool (nat_lt b width)) [
      | inl there ↦ ap (λ l. has l bit) (cond-true (nat_lt b width) (b ∷ within width bits) (within width bits) there) ∙ ap (λ t. nat_eq b bit || t) (has-within width bit bits less)
      | inr past ↦
          ap (λ l. has l bit) (cond-false (nat_lt b width) (b ∷ within width bits) (within width bits) past) ∙ (has-within width bit bits less ∙ other (nat_eq b bit) refl (ltb-false b width past))
    ]
  where
    other : (same : Bool) → nat_eq b bit ≡ same → width ≤ b → has bits bit ≡ (same || has bits bit)
    other true e past = absurd (omega (arith, eqb-true b bit e, past, less))
    other false e past = refl

driver-agrees : (number bit : ℕ) (one other : DrivenRun) (runs others : List DrivenRun) → has one.bits bit ≡ has other.bits bit →
    driver_of_bit (number + 1) runs bit ≡ driver_of_bit (number + 1) others bit →
    driver_of_bit number (one ∷ runs) bit ≡ driver_of_bit number (other ∷ others) bit
driver-agrees number bit one other runs others same rest = by_has (has other.bits bit) same refl
  where
    by_has : (test : Bool) → has one.bits bit ≡ test → has other.bits bit ≡ test → driver_of_bit number (one ∷ runs) bit ≡ driver_of_bit number (other ∷ others) bit
    by_has true e d = rw (e, d) refl
    by_has false e d = rw (e, d) rest

driver-clipped : (width number bit : ℕ) (drives : List DriveOfRun) → bit < width → driver_of_bit number (map run_of_drive (map (clipped width) drives)) bit ≡ driver_of_bit number
    (map run_of_drive drives) bit
driver-clipped width number bit [] less = refl
driver-clipped width number bit (drive ∷ drives) less =
    let same : has (run_of_drive (clipped width drive)).bits bit ≡ has (run_of_drive drive).bits bit = ap (λ l. has l bit) (clipped-bits width drive)
    ∙ has-within width bit (run_of_drive drive).bits less in
    driver-agrees number bit (run_of_drive (clipped width drive)) (run_of_drive drive) (map run_of_drive (map (clipped width) drives)) (map run_of_drive drives) same
    (driver-clipped width (number + 1) bit drives less)

pieces-clipped : (width : ℕ) (drives : List DriveOfRun) (bits : List ℕ) → AllHold (λ bit. bit < width) bits →
    pieces_from (map run_of_drive (map (clipped width) drives)) bits ≡ pieces_from (map run_of_drive drives) bits
pieces-clipped width drives [] low = refl
pieces-clipped width drives (bit ∷ bits) low = ap₂ (λ d rest. bit_before bit d rest) (driver-clipped width 0 bit drives low.0) (pieces-clipped width drives bits low.1)

up-low : (start count width : ℕ) → start + count ≤ width → AllHold (λ bit. bit < width) (up_from start count)
up-low start zero width few = tt
up-low start (suc count) width few = (omega arith, up-low (start + 1) count width (omega arith))

-- a net is cut alike by what is left of the runs
pub cut-clipped : (width : ℕ) (drives : List DriveOfRun) → pieces_of width (map run_of_drive (map (clipped width) drives)) ≡ pieces_of width (map run_of_drive drives)
cut-clipped width drives = pieces-clipped width drives (up_from 0 width) (up-low 0 width width (omega arith))

-- Second drivers

-- each number of a list is one of another list
abbrev AreAmong : List ℕ → List ℕ → Type 0
AreAmong few all = (n : ℕ) → has few n ≡ true → has all n ≡ true

within-among : (width : ℕ) (bits : List ℕ) → AreAmong (within width bits) bits
within-among width [] n h = h
within-among width (b ∷ bits) n h =
    elim (cases_Bool (nat_lt b width)) [
      | inl there ↦ kept (nat_eq b n) (sym (ap (λ l. has l n) (cond-true (nat_lt b width) (b ∷ within width bits) (within width bits) there)) ∙ h) (within-among width bits n)
      | inr past ↦ later (nat_eq b n) (within-among width bits n (sym (ap (λ l. has l n) (cond-false (nat_lt b width) (b ∷ within width bits) (within width bits) past)) ∙ h))
    ]
  where
    kept : (same : Bool) → (same || has (within width bits) n) ≡ true → (has (within width bits) n ≡ true → has bits n ≡ true) → (same || has bits n) ≡ true
    kept true e rest = refl
    kept false e rest = rest e

    later : (same : Bool) → has bits n ≡ true → (same || has bits n) ≡ true
    later true e = refl
    later false e = e

among-append : (few more all others : List ℕ) → AreAmong few all → AreAmong more others → AreAmong (few ++ more) (all ++ others)
among-append few more all others one other n h = of_both (has few n) refl (sym (has-append few more n) ∙ h)
  where
    of_both : (first : Bool) → has few n ≡ first → (has few n || has more n) ≡ true → has (all ++ others) n ≡ true
    of_both true e d = has-append all others n ∙ ap (λ t. t || has others n) (one n e)
    of_both false e d =
        let later : has others n ≡ true = other n (sym (ap (λ t. t || has more n) e) ∙ d) in
        has-append all others n ∙ (ap (λ t. has all n || t) later ∙ or-true (has all n))
      where
        or-true : (t : Bool) → (t || true) ≡ true
        or-true true = refl
        or-true false = refl

-- no bit of some is among others
none-among : (others : List ℕ) (bits : List ℕ) → least_among others bits ≡ None → (n : ℕ) → has bits n ≡ true → has others n ≡ true → ⊥
none-among others [] none n h d = absurd (cc)
none-among others (b ∷ bits) none n h d = by_test (has others b) refl none (λ x later. none-among others bits x n later d)
  where
    first_or_later : (same : Bool) → nat_eq b n ≡ same → (same || has bits n) ≡ true → (nat_eq b n ≡ true) ⊎ (has bits n ≡ true)
    first_or_later true e x = inl e
    first_or_later false e x = inr x

    never : (rest : Option ℕ) → lesser_if true b rest ≡ None → ⊥
    never None e = absurd (cc)
    never (Some other) e = absurd (cc)

    by_test : (here : Bool) → has others b ≡ here → lesser_if here b (least_among others bits) ≡ None → (least_among others bits ≡ None → has bits n ≡ true → ⊥) → ⊥
    by_test true e x rest = never (least_among others bits) x
    by_test false e x rest =
        elim (first_or_later (nat_eq b n) refl h) [
          | inl same ↦ let none_here : has others n ≡ false = ap (has others) (sym (eqb-true b n same)) ∙ e in absurd (cc)
          | inr later ↦ rest x later
        ]

least-none : (others : List ℕ) (bits : List ℕ) → ((n : ℕ) → has bits n ≡ true → has others n ≡ true → ⊥) → least_among others bits ≡ None
least-none others [] never = refl
least-none others (b ∷ bits) never = by_test (has others b) refl (least-none others bits (λ n h d. never n (later (nat_eq b n) n h) d))
  where
    later : (same : Bool) (n : ℕ) → has bits n ≡ true → (same || has bits n) ≡ true
    later true n h = refl
    later false n h = h

    by_test : (here : Bool) → has others b ≡ here → least_among others bits ≡ None → lesser_if here b (least_among others bits) ≡ None
    by_test true e none = absurd (never b (ap (λ t. t || has bits b) (eq-eqb b b refl)) e)
    by_test false e none = none

second-clipped : (width : ℕ) (taken all : List ℕ) (drives : List DriveOfRun) → AreAmong taken all → second_driver all (map run_of_drive drives) ≡ None →
    second_driver taken (map run_of_drive (map (clipped width) drives)) ≡ None
second-clipped width taken all [] few none = refl
second-clipped width taken all (drive ∷ drives) few none =
    let parts = second_if-none drive.place (least_among all (run_of_drive drive).bits) (second_driver (all ++ (run_of_drive drive).bits) (map run_of_drive drives)) none in
    let own = (run_of_drive (clipped width drive)).bits in
    let among : AreAmong own (run_of_drive drive).bits = λ n h. within-among width (run_of_drive drive).bits n (sym (ap (λ l. has l n) (clipped-bits width drive)) ∙ h) in
    let here : least_among taken own ≡ None = least-none taken own (λ n h d. none-among all (run_of_drive drive).bits parts.0 n (among n h) (few n d)) in
    let later : second_driver (taken ++ own) (map run_of_drive (map (clipped width) drives)) ≡ None =
    second-clipped width (taken ++ own) (all ++ (run_of_drive drive).bits) drives (among-append taken own all (run_of_drive drive).bits few among) parts.1 in
    ap (λ o. second_if drive.place o (second_driver (taken ++ own) (map run_of_drive (map (clipped width) drives)))) here ∙ later
  where
    second_if-none : (place : SourcePlace) (bit : Option ℕ) (rest : Option SecondDriver) → second_if place bit rest ≡ None → (bit ≡ None) × (rest ≡ None)
    second_if-none place None rest e = (refl, e)
    second_if-none place (Some bit) rest e = absurd (cc)

-- where no bit of the whole runs has two drivers, the net is cut by what is left of them
pub pieces-are : (width : ℕ) (drives : List DriveOfRun) → second_driver [] (map run_of_drive drives) ≡ None →
    cut_pieces width (map (clipped width) drives) ≡ Ok (pieces_of width (map run_of_drive drives))
pieces-are width drives none =
    ap (λ s. unless_second s (pieces_of width (map run_of_drive (map (clipped width) drives)))) (second-clipped width [] [] drives (λ n h. h) none)
    ∙ ap Ok (cut-clipped width drives)

-- Bits in a drive's value

some-place : (bit low width : ℕ) (rest : List (Option ℕ)) → low ≤ bit → bit < low + width → first_place (is_bit bit) (map Some (up_from low width) ++ rest) ≡ Some (bit - low)
some-place bit low zero rest above below = absurd (omega arith)
some-place bit low (suc width) rest above below =
    elim (cases_Bool (nat_eq low bit)) [
      | inl same ↦
          let none : 0 ≡ bit - low = omega (arith, eqb-true low bit same) in
          ap (λ t. earlier_place t (first_place (is_bit bit) (map Some (up_from (low + 1) width) ++ rest))) same ∙ ap Some none
      | inr other ↦
          let less : low + 1 ≤ bit = omega (arith, eqb-false low bit other) in
          let next : (bit - (low + 1)) + 1 ≡ bit - low = omega arith in
          ap (λ t. earlier_place t (first_place (is_bit bit) (map Some (up_from (low + 1) width) ++ rest))) other
          ∙ (ap (earlier_place false) (some-place bit (low + 1) width rest less (omega arith)) ∙ ap Some next)
    ]

-- a bit of the run stands behind those that are outside below
pub bit-place : (bit below low width above : ℕ) → low ≤ bit → bit < low + width → first_place (is_bit bit) (run_places below low width above) ≡ Some (below + (bit - low))
bit-place bit zero low width above from to = some-place bit low width (replicate above None) from to ∙ ap Some (omega arith)
bit-place bit (suc below) low width above from to =
    let next : (below + (bit - low)) + 1 ≡ suc below + (bit - low) = omega arith in
    ap (earlier_place false) (bit-place bit below low width above from to) ∙ ap Some next

none-outside : (bit count : ℕ) → first_place (is_bit bit) (replicate count None) ≡ None
none-outside bit zero = refl
none-outside bit (suc count) = ap (earlier_place false) (none-outside bit count)

none-in-run : (bit low width above : ℕ) → (bit < low) ⊎ (low + width ≤ bit) → first_place (is_bit bit) (map Some (up_from low width) ++ replicate above None) ≡ None
none-in-run bit low zero above apart = none-outside bit above
none-in-run bit low (suc width) above apart = by_test (nat_eq low bit) refl (none-in-run bit (low + 1) width above (still apart))
  where
    still : (bit < low) ⊎ (low + suc width ≤ bit) → (bit < low + 1) ⊎ ((low + 1) + width ≤ bit)
    still (inl h) = inl (omega arith)
    still (inr h) = inr (omega arith)

    differ : (bit < low) ⊎ (low + suc width ≤ bit) → low ≡ bit → ⊥
    differ (inl h) e = omega arith
    differ (inr h) e = omega arith

    by_test : (same : Bool) → nat_eq low bit ≡ same → first_place (is_bit bit) (map Some (up_from (low + 1) width) ++ replicate above None) ≡ None →
        earlier_place same (first_place (is_bit bit) (map Some (up_from (low + 1) width) ++ replicate above None)) ≡ None
    by_test true e none = absurd (differ apart (eqb-true low bit e))
    by_test false e none = ap (earlier_place false) none

-- a bit that isn't of the run has no place
pub no-place : (bit below low width above : ℕ) → (bit < low) ⊎ (low + width ≤ bit) → first_place (is_bit bit) (run_places below low width above) ≡ None
no-place bit zero low width above apart = none-in-run bit low width above apart
no-place bit (suc below) low width above apart = ap (earlier_place false) (no-place bit below low width above apart)

-- Pieces of a net

abbrev StartsAt : ℕ → List CutPiece → Type 0
StartsAt start [] = Unit {0}
StartsAt start (piece ∷ pieces) = piece.low ≡ start

-- a piece has a bit at least and ends by a bit
abbrev pub EndsBy : ℕ → CutPiece → Type 0
EndsBy end piece = (1 ≤ piece.width) × (piece.low + piece.width ≤ end)

-- a bit in front of pieces that start behind it
before-pieces : (bit end : ℕ) (driver : Option ℕ) (pieces : List CutPiece) → bit < end → StartsAt (bit + 1) pieces → AllHold (EndsBy end) pieces →
    StartsAt bit (bit_before bit driver pieces) × AllHold (EndsBy end) (bit_before bit driver pieces)
before-pieces bit end driver [] less starts ends = (refl, ((omega arith, omega arith), tt))
before-pieces bit end driver (next ∷ pieces) less starts ends = by_test (same_driver driver next.driver)
  where
    by_test : (same : Bool) → StartsAt bit (grown_or_new same bit driver next pieces) × AllHold (EndsBy end) (grown_or_new same bit driver next pieces)
    by_test true = let whole = ends.0.1 in (refl, ((omega arith, omega (arith, starts, whole)), ends.1))
    by_test false = (refl, ((omega arith, omega arith), ends))

pieces-end : (runs : List DrivenRun) (start count : ℕ) → StartsAt start (pieces_from runs (up_from start count)) × AllHold (EndsBy (start + count)) (pieces_from runs (up_from start count))
pieces-end runs start zero = (tt, tt)
pieces-end runs start (suc count) =
    let later = pieces-end runs (start + 1) count in
    let end_is : (start + 1) + count ≡ start + suc count = omega arith in
    before-pieces start (start + suc count) (driver_of_bit 0 runs start) (pieces_from runs (up_from (start + 1) count)) (omega arith) later.0
    (subst (λ end. AllHold (EndsBy end) (pieces_from runs (up_from (start + 1) count))) end_is later.1)

-- the pieces of a net have a bit at least, and end within it
pub pieces-within : (width : ℕ) (runs : List DrivenRun) → AllHold (EndsBy width) (pieces_of width runs)
pieces-within width runs = let end_is : 0 + width ≡ width = omega arith in subst (λ end. AllHold (EndsBy end) (pieces_of width runs)) end_is (pieces-end runs 0 width).1

-- a drive by its number
pub numbered-at : (drives : List ObjectDrive) (number : ℕ) → drive_numbered drives number ≡ slice_get drives number
numbered-at [] number = refl
numbered-at (drive ∷ drives) zero = refl
numbered-at (drive ∷ drives) (suc number) = numbered-at drives number
