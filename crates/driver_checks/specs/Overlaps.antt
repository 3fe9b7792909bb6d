-- Runs of bits that overlap (IEEE 1364-2001, clause 6.1).
use Rattle.std.proofs.Common.{◌≡◌, ℕ, zero, suc, ◌+◌, ◌<◌, ◌≤◌, min, max, Bool, true, false, ◌||◌, List, [], ◌∷◌, ◌++◌, Option, Some, None, refl, sym, ap, ap₂, ◌∙◌, arith, inl, inr, ◌⊎◌}
use Rattle.std.specs.Prelude.{nat_eq, nat_le, nat_lt}
use Rattle.std.proofs.lemmas.Bool.{cases_Bool, eqb-true, eqb-false, leb-true, leb-false, ltb-true, ltb-false}
use Rattle.vf_base.specs.Base.{source_place}
use Rattle.vf_base.specs.Lists.{has}
use Rattle.v_design.specs.Expressions.{up_from}
use Rattle.graph_order.specs.ListLaws.{has-append}
use Rattle.v_ports.specs.Pieces.{SecondDriver, lesser_if, least_among}
use Rattle.elab_parts.specs.declared.bits.DrivenBits.{DrivenBits}
use Rattle.driver_checks.specs.declared.overlap.Overlap.{Overlap}

-- the bits of a run
abbrev pub bits_of : DrivenBits → List ℕ
bits_of b = up_from b.low b.width

abbrev pub second_of : Overlap → SecondDriver
second_of o = record { place = source_place o.place; bit = o.bit }

-- the lesser of two bits that may be there
abbrev pub lesser : Option ℕ → Option ℕ → Option ℕ
lesser (Some bit) (Some other) = Some (min bit other)
lesser (Some bit) None = Some bit
lesser None other = other

-- The least bit among two lists

lesser-either : (a b : Bool) (bit : ℕ) (one other : Option ℕ) → lesser_if (a || b) bit (lesser one other) ≡ lesser (lesser_if a bit one) (lesser_if b bit other)
lesser-either false false bit one other = refl
lesser-either true true bit None None = ap Some (let e : bit ≡ min bit bit = omega arith in e)
lesser-either true true bit (Some x) None = ap Some (let e : min bit x ≡ min (min bit x) bit = omega arith in e)
lesser-either true true bit None (Some y) = ap Some (let e : min bit y ≡ min bit (min bit y) = omega arith in e)
lesser-either true true bit (Some x) (Some y) = ap Some (let e : min bit (min x y) ≡ min (min bit x) (min bit y) = omega arith in e)
lesser-either true false bit None None = refl
lesser-either true false bit (Some x) None = refl
lesser-either true false bit None (Some y) = refl
lesser-either true false bit (Some x) (Some y) = ap Some (let e : min bit (min x y) ≡ min (min bit x) y = omega arith in e)
lesser-either false true bit None None = refl
lesser-either false true bit (Some x) None = ap Some (let e : min bit x ≡ min x bit = omega arith in e)
lesser-either false true bit None (Some y) = refl
lesser-either false true bit (Some x) (Some y) = ap Some (let e : min bit (min x y) ≡ min x (min bit y) = omega arith in e)

pub among-either : (some others bits : List ℕ) → least_among (some ++ others) bits ≡ lesser (least_among some bits) (least_among others bits)
among-either some others [] = refl
among-either some others (bit ∷ bits) =
    ap₂ (λ (t : Bool) (rest : Option ℕ). lesser_if t bit rest) (has-append some others bit) (among-either some others bits)
    ∙ lesser-either (has some bit) (has others bit) bit (least_among some bits) (least_among others bits)

pub among-none : (bits : List ℕ) → least_among [] bits ≡ None
among-none [] = refl
among-none (bit ∷ bits) = among-none bits

-- Two runs

has-in : (start count n : ℕ) → start ≤ n → n < start + count → has (up_from start count) n ≡ true
has-in start zero n from to = absurd (omega arith)
has-in start (suc count) n from to = by_test (nat_eq start n) refl (has-in (start + 1) count n)
  where
    by_test : (same : Bool) → nat_eq start n ≡ same → (start + 1 ≤ n → n < (start + 1) + count → has (up_from (start + 1) count) n ≡ true) → (same || has (up_from (start + 1) count) n) ≡ true
    by_test true e rest = refl
    by_test false e rest = rest (omega (arith, eqb-false start n e)) (omega arith)

has-out : (start count n : ℕ) → (n < start) ⊎ (start + count ≤ n) → has (up_from start count) n ≡ false
has-out start zero n apart = refl
has-out start (suc count) n apart = by_test (nat_eq start n) refl (has-out (start + 1) count n (still apart))
  where
    still : (n < start) ⊎ (start + suc count ≤ n) → (n < start + 1) ⊎ ((start + 1) + count ≤ n)
    still (inl h) = inl (omega arith)
    still (inr h) = inr (omega arith)

    differ : (n < start) ⊎ (start + suc count ≤ n) → start ≡ n → ⊥
    differ (inl h) e = omega arith
    differ (inr h) e = omega arith

    by_test : (same : Bool) → nat_eq start n ≡ same → has (up_from (start + 1) count) n ≡ false → (same || has (up_from (start + 1) count) n) ≡ false
    by_test true e rest = absurd (differ apart (eqb-true start n e))
    by_test false e rest = rest

-- a bit below all others is the least
least-first : (bit : ℕ) (rest : Option ℕ) → ((other : ℕ) → rest ≡ Some other → bit ≤ other) → lesser_if true bit rest ≡ Some bit
least-first bit None below = refl
least-first bit (Some other) below = let low = below other refl in ap Some (let e : min bit other ≡ bit = omega arith in e)

-- the least bit of some that ascend from one on isn't below it
among-above : (others : List ℕ) (start count other : ℕ) → least_among others (up_from start count) ≡ Some other → start ≤ other
among-above others start zero other e = absurd (cc)
among-above others start (suc count) other e = by_test (has others start) e (among-above others (start + 1) count)
  where
    lesser-above : (rest : Option ℕ) → ((n : ℕ) → rest ≡ Some n → start + 1 ≤ n) → lesser_if true start rest ≡ Some other → start ≤ other
    lesser-above None above d = let same : start ≡ other = cc in omega arith
    lesser-above (Some n) above d = let same : min start n ≡ other = cc in let high = above n refl in omega arith

    by_test : (here : Bool) → lesser_if here start (least_among others (up_from (start + 1) count)) ≡ Some other →
        ((n : ℕ) → least_among others (up_from (start + 1) count) ≡ Some n → start + 1 ≤ n) → start ≤ other
    by_test true d rest = lesser-above (least_among others (up_from (start + 1) count)) rest d
    by_test false d rest = let high = rest other d in omega arith

order : (x y : ℕ) → (x ≤ y) ⊎ (y < x)
order x y = elim (cases_Bool (nat_le x y)) [ inl e ↦ inl (leb-true x y e) | inr e ↦ inr (leb-false x y e) ]

pub runs-share : (a n b m : ℕ) → max a b < min (a + n) (b + m) → least_among (up_from a n) (up_from b m) ≡ Some (max a b)
runs-share a n b zero share = absurd (omega arith)
runs-share a n b (suc m) share = by_order (order a b) (runs-share a n (b + 1) m)
  where
    by_order : (a ≤ b) ⊎ (b < a) → (max a (b + 1) < min (a + n) ((b + 1) + m) → least_among (up_from a n) (up_from (b + 1) m) ≡ Some (max a (b + 1))) →
        lesser_if (has (up_from a n) b) b (least_among (up_from a n) (up_from (b + 1) m)) ≡ Some (max a b)
    by_order (inl above) rest =
        ap (λ t. lesser_if t b (least_among (up_from a n) (up_from (b + 1) m))) (has-in a n b above (omega arith))
        ∙ least-first b (least_among (up_from a n) (up_from (b + 1) m)) (λ other e. let high = among-above (up_from a n) (b + 1) m other e in omega arith)
        ∙ ap Some (let e : b ≡ max a b = omega arith in e)
    by_order (inr below) rest =
        ap (λ t. lesser_if t b (least_among (up_from a n) (up_from (b + 1) m))) (has-out a n b (inl below))
        ∙ rest (omega arith)
        ∙ ap Some (let e : max a (b + 1) ≡ max a b = omega arith in e)

pub runs-apart : (a n b m : ℕ) → min (a + n) (b + m) ≤ max a b → least_among (up_from a n) (up_from b m) ≡ None
runs-apart a n b zero apart = refl
runs-apart a n b (suc m) apart =
    ap (λ t. lesser_if t b (least_among (up_from a n) (up_from (b + 1) m))) (has-out a n b (outside (order a b)))
    ∙ runs-apart a n (b + 1) m (omega arith)
  where
    outside : (a ≤ b) ⊎ (b < a) → (b < a) ⊎ (a + n ≤ b)
    outside (inl above) = inr (omega arith)
    outside (inr below) = inl below
