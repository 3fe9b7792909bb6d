-- A net that one driver drives whole is one piece, where no bit has two drivers (IEEE 1364-2001, clause 6.1; that a net has one driver for each bit is own).
use Rattle.std.proofs.Common.{◌≡◌, ℕ, zero, suc, ◌+◌, ◌<◌, ◌≤◌, Bool, true, false, List, [], ◌∷◌, ◌++◌, map, Option, Some, None, refl, sym, ap, ◌∙◌, inl, inr, arith}
use Rattle.std.specs.Prelude.{nat_eq, slice_get}
use Rattle.std.proofs.lemmas.Bool.{cases_Bool, or_cases, or_left, or_right, eq-eqb, eqb-true}
use Rattle.vf_base.specs.Base.{SourcePlace}
use Rattle.vf_base.specs.Lists.{has}
use Rattle.v_design.specs.Expressions.{up_from}
use Rattle.v_ports.specs.Pieces.{DrivenRun, lesser_if, least_among, SecondDriver, second_if, second_driver, driver_of_bit, same_driver, grown_or_new, bit_before, pieces_from}
use Rattle.v_elab.specs.Drivers.{bits_within}
use Rattle.graph_order.specs.ListLaws.{has-append}
use Rattle.flat_laws.specs.Lists.{same_some}

-- One driver of a bit

lesser-none : (test : Bool) (bit : ℕ) (rest : Option ℕ) → lesser_if test bit rest ≡ None → (test ≡ false) × (rest ≡ None)
lesser-none true bit None e = absurd (cc)
lesser-none true bit (Some other) e = absurd (cc)
lesser-none false bit rest e = (refl, e)

-- bits of which none is taken
least-none : (taken bits : List ℕ) (bit : ℕ) → least_among taken bits ≡ None → has bits bit ≡ true → has taken bit ≡ false
least-none taken [] bit e there = absurd (cc)
least-none taken (first ∷ bits) bit e there =
    let none = lesser-none (has taken first) first (least_among taken bits) e in
    elim (or_cases (nat_eq first bit) (has bits bit) there) [
      | inl here ↦ ap (has taken) (sym (eqb-true first bit here)) ∙ none.0
      | inr later ↦ least-none taken bits bit none.1 later
    ]

second-none : (place : SourcePlace) (found : Option ℕ) (other : Option SecondDriver) → second_if place found other ≡ None → (found ≡ None) × (other ≡ None)
second-none place None other e = (refl, e)
second-none place (Some bit) other e = absurd (cc)

-- a bit that is taken is none of a driver's
pub taken-apart : (taken : List ℕ) (runs : List DrivenRun) (j : ℕ) (run : DrivenRun) (bit : ℕ) → second_driver taken runs ≡ None → slice_get runs j ≡ Some run → has run.bits bit ≡ true →
    has taken bit ≡ false
taken-apart taken [] j run bit e at there = absurd (cc)
taken-apart taken (first ∷ runs) zero run bit e at there =
    let none = second-none first.place (least_among taken first.bits) (second_driver (taken ++ first.bits) runs) e in
    least-none taken first.bits bit none.0 (ap (λ (r : DrivenRun). has r.bits bit) (same_some first run at) ∙ there)
taken-apart taken (first ∷ runs) (suc j) run bit e at there =
    let none = second-none first.place (least_among taken first.bits) (second_driver (taken ++ first.bits) runs) e in
    let both = taken-apart (taken ++ first.bits) runs j run bit none.1 at there in
    elim (cases_Bool (has taken bit)) [
      | inl there_too ↦ let wrong : true ≡ false = sym (or_left (has taken bit) (has first.bits bit) there_too) ∙ sym (has-append taken first.bits bit) ∙ both in absurd (cc)
      | inr none_too ↦ none_too
    ]

-- the driver of a bit is the one that has it
pub driver-is : (taken : List ℕ) (number : ℕ) (runs : List DrivenRun) (j : ℕ) (run : DrivenRun) (bit : ℕ) → second_driver taken runs ≡ None → slice_get runs j ≡ Some run → has run.bits bit ≡ true →
    driver_of_bit number runs bit ≡ Some (number + j)
driver-is taken number [] j run bit e at there = absurd (cc)
driver-is taken number (first ∷ runs) zero run bit e at there =
    let same : number + 0 ≡ number = omega arith in
    let has_it : has first.bits bit ≡ true = ap (λ (r : DrivenRun). has r.bits bit) (same_some first run at) ∙ there in
    rw has_it (ap Some (sym same))
driver-is taken number (first ∷ runs) (suc j) run bit e at there =
    let none = second-none first.place (least_among taken first.bits) (second_driver (taken ++ first.bits) runs) e in
    let both : has (taken ++ first.bits) bit ≡ false = taken-apart (taken ++ first.bits) runs j run bit none.1 at there in
    let apart : has first.bits bit ≡ false =
    elim (cases_Bool (has first.bits bit)) [
      | inl there_too ↦ let wrong : true ≡ false = sym (or_right (has taken bit) (has first.bits bit) there_too) ∙ sym (has-append taken first.bits bit) ∙ both in absurd (cc)
      | inr none_too ↦ none_too
    ] in
    let same : number + suc j ≡ (number + 1) + j = omega arith in
    rw apart (driver-is (taken ++ first.bits) (number + 1) runs j run bit none.1 at there ∙ ap Some (sym same))

-- One piece

same-self : (driver : Option ℕ) → same_driver driver driver ≡ true
same-self None = refl
same-self (Some n) = eq-eqb n n refl

-- bits with one driver are one piece
pub one-piece : (runs : List DrivenRun) (driver : Option ℕ) (start count : ℕ) → ((bit : ℕ) → start ≤ bit → bit < start + suc count → driver_of_bit 0 runs bit ≡ driver) →
    pieces_from runs (up_from start (suc count)) ≡ record { low = start; width = suc count; driver = driver } ∷ []
one-piece runs driver start zero each = ap (λ d. record { low = start; width = 1; driver = d } ∷ []) (each start (omega arith) (omega arith))
one-piece runs driver start (suc count) each =
    let rest = one-piece runs driver (start + 1) count (λ bit low high. each bit (omega (arith, low)) (omega (arith, high))) in
    let here = each start (omega arith) (omega arith) in
    let width : suc count + 1 ≡ suc (suc count) = omega arith in
    ap (bit_before start (driver_of_bit 0 runs start)) rest ∙ ap (λ d. bit_before start d (record { low = start + 1; width = suc count; driver = driver } ∷ [])) here
    ∙ ap (λ b. grown_or_new b start driver (record { low = start + 1; width = suc count; driver = driver }) []) (same-self driver)
    ∙ ap (λ w. record { low = start; width = w; driver = driver } ∷ []) width

pub bits-whole : (bits : List ℕ) → bits_within (map Some bits) ≡ bits
bits-whole [] = refl
bits-whole (bit ∷ bits) = ap (λ l. bit ∷ l) (bits-whole bits)
