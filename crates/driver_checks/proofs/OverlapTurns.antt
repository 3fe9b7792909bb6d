-- Runs of bits that are taken, and drives that overlap them, one more at a time.
use Rattle.std.proofs.Common.{◌≡◌, ℕ, zero, suc, ◌+◌, ◌<◌, ◌≤◌, Bool, true, false, List, [], ◌∷◌, ◌++◌, length, get_or, take, drop, map, flat_map, Option, Some, None, refl, sym, ap, ap₂, ◌∙◌}
use Rattle.std.proofs.Common.{append-nil, arith, drop-cons}
use Rattle.std.specs.Prelude.{nat_le}
use Rattle.std.proofs.lemmas.List.{take_more}
use Rattle.std.proofs.lemmas.Grind.{flat_map-append}
use Rattle.vf_base.specs.Base.{source_place}
use Rattle.v_design.specs.Expressions.{up_from}
use Rattle.v_ports.specs.Pieces.{DrivenRun, SecondDriver, second_if, least_among, second_driver}
use Rattle.v_elab.specs.Parts as plain
use Rattle.v_elab.specs.Drivers.{run_of, taken_bits, insert_by_depth, insert_here, by_depth}
use Rattle.elab_parts.specs.PartViews.{places_of}
use Rattle.elab_parts.specs.BitLaws.{bits-driven}
use Rattle.elab_parts.specs.declared.bits.DrivenBits.{DrivenBits}
use Rattle.elab_wires.specs.DriveViews.{object_drive_of}
use Rattle.elab_wires.specs.declared.object_drive.ObjectDrive.{ObjectDrive}
use Rattle.driver_checks.specs.Overlaps.{bits_of, lesser, among-either}

-- one run more
pub taken-turn : (xs : List DrivenBits) (i : ℕ) (x : DrivenBits) (bits : List ℕ) (least shared next : Option ℕ) → i < length xs → x ≡ get_or xs i x →
    least ≡ least_among (flat_map bits_of (take i xs)) bits →
    shared ≡ least_among (bits_of x) bits → next ≡ lesser least shared → next ≡ least_among (flat_map bits_of (take (i + 1) xs)) bits
taken-turn xs i x bits least shared next low is had with_x n =
    n ∙ ap₂ lesser had with_x ∙ sym (among-either (flat_map bits_of (take i xs)) (bits_of x) bits)
    ∙ ap (λ others. least_among others bits)
    (sym (ap (flat_map bits_of) (take_more xs i x low ∙ ap (λ y. take i xs ++ y ∷ []) (sym is)) ∙ flat_map-append bits_of (take i xs) (x ∷ [])
    ∙ ap (λ l. flat_map bits_of (take i xs) ++ l) (append-nil (bits_of x))))

-- The drives that are left

abbrev pub runs_of : List ObjectDrive → List DrivenRun
runs_of drives = map run_of (map object_drive_of drives)

run-is : (d : ObjectDrive) → run_of (object_drive_of d) ≡ record { bits = bits_of d.bits; place = source_place d.place }
run-is d = ap (λ bits. record { bits = bits; place = source_place d.place }) (bits-driven d.bits)

left-here : (xs : List ObjectDrive) (i : ℕ) (x : ObjectDrive) → i < length xs → x ≡ get_or xs i x →
    runs_of (drop i xs) ≡ record { bits = bits_of x.bits; place = source_place x.place } ∷ runs_of (drop (i + 1) xs)
left-here xs i x low is =
    ap runs_of (drop-cons xs i x low ∙ ap₂ (λ y k. y ∷ drop k xs) (sym is) (let e : suc i ≡ i + 1 = omega arith in e)) ∙ ap (λ r. r ∷ runs_of (drop (i + 1) xs)) (run-is x)

-- a drive that overlaps what is taken
pub overlap-here : (taken : List ℕ) (xs : List ObjectDrive) (i : ℕ) (x : ObjectDrive) (bit : ℕ) (second : Option SecondDriver) → i < length xs → x ≡ get_or xs i x →
    second_driver taken (runs_of (drop i xs)) ≡ second →
    Some bit ≡ least_among taken (bits_of x.bits) → Some (record { place = source_place x.place; bit = bit }) ≡ second
overlap-here taken xs i x bit second low is had found =
    let rest = second_driver (taken ++ bits_of x.bits) (runs_of (drop (i + 1) xs)) in
    ap (λ b. second_if (source_place x.place) b rest) found ∙ sym (ap (second_driver taken) (left-here xs i x low is)) ∙ had

-- a drive that overlaps nothing
pub none-here : (taken more : List ℕ) (xs : List ObjectDrive) (i : ℕ) (x : ObjectDrive) (second : Option SecondDriver) → i < length xs → x ≡ get_or xs i x →
    second_driver taken (runs_of (drop i xs)) ≡ second →
    None ≡ least_among taken (bits_of x.bits) → more ≡ taken ++ bits_of x.bits → second_driver more (runs_of (drop (i + 1) xs)) ≡ second
none-here taken more xs i x second low is had none now =
    let rest = second_driver (taken ++ bits_of x.bits) (runs_of (drop (i + 1) xs)) in
    ap (λ bits. second_driver bits (runs_of (drop (i + 1) xs))) now
    ∙ ap (λ b. second_if (source_place x.place) b rest) none ∙ sym (ap (second_driver taken) (left-here xs i x low is)) ∙ had

past : {A : Type 0} (xs : List A) (i : ℕ) → length xs ≤ i → drop i xs ≡ []
past [] zero e = refl
past [] (suc i) e = refl
past (x ∷ xs) zero e = absurd (omega arith)
past (x ∷ xs) (suc i) e = past xs i (omega arith)

pub none-left : (taken : List ℕ) (xs : List ObjectDrive) (i : ℕ) (second : Option SecondDriver) → length xs ≤ i → second_driver taken (runs_of (drop i xs)) ≡ second → None ≡ second
none-left taken xs i second high had = sym (ap (λ ds. second_driver taken (runs_of ds)) (past xs i high)) ∙ had

-- where a variable drives, all bits are taken
all-taken : (width : ℕ) (variables : List plain.Signal) → (length variables ≡ 0 → ⊥) → taken_bits width (by_depth variables) ≡ up_from 0 width
all-taken width [] some = absurd (some refl)
all-taken width (s ∷ variables) some = by_others (by_depth variables)
  where
    by_test : (test : Bool) (other : plain.Signal) (others inserted : List plain.Signal) → taken_bits width (insert_here test s other others inserted) ≡ up_from 0 width
    by_test true other others inserted = refl
    by_test false other others inserted = refl

    by_others : (others : List plain.Signal) → taken_bits width (insert_by_depth s others) ≡ up_from 0 width
    by_others [] = refl
    by_others (other ∷ others) = by_test (nat_le s.depth other.depth) other others (insert_by_depth s others)

pub whole-taken : (width all : ℕ) (variables : List plain.Signal) (bits : List ℕ) → (length variables ≡ 0 → ⊥) → bits ≡ up_from 0 all ++ [] → all ≡ width → bits ≡ taken_bits width (by_depth variables)
whole-taken width all variables bits some pushed is = pushed ∙ append-nil (up_from 0 all) ∙ ap (up_from 0) is ∙ sym (all-taken width variables some)

-- the bits of one run alone
pub one-alone : (none taken : List DrivenBits) (b : DrivenBits) → none ≡ [] → taken ≡ none ++ b ∷ [] → flat_map bits_of taken ≡ bits_of b ++ []
one-alone none taken b empty pushed = ap (flat_map bits_of) (pushed ∙ ap (λ l. l ++ b ∷ []) empty)
