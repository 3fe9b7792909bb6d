-- Widths together, up to those that are too wide (IEEE 1364-2001, clause 4.4).
use Rattle.std.proofs.Common.{◌≡◌, ℕ, zero, suc, ◌+◌, ◌*◌, min, ◌<◌, ◌≤◌, ◌⊎◌, inl, inr, cond, Bool, true, false, ◌&&◌, Option, Some, None, option_map, nat_le, refl, sym, ap, ◌∙◌, arith}
use Rattle.std.proofs.lemmas.Bool.{lt-leb}
use Rattle.std.proofs.lemmas.Bool.Decides.{leb_tells}
use Rattle.v_design.specs.Sized.{most_bits}
use Rattle.v_names.specs.OwnSizes.{size_within}
use Rattle.v_names.specs.Readings.{Size, width_with}
use Rattle.expr_sizes.specs.PartReadings.{capped, total_with, total_before}

pub total-start : (width : Option ℕ) → option_map capped width ≡ total_before (Some 0) width
total-start None = refl
total-start (Some m) = ap (λ n. Some (capped n)) (let e : m ≡ 0 + m = omega arith in e)

pub total-step : (total : Option ℕ) (size : Option Size) (rest : Option ℕ) → total_before total (width_with size rest) ≡ total_before (total_with total size) rest
total-step None size rest = refl
total-step (Some t) None rest = refl
total-step (Some t) (Some z) None = refl
total-step (Some t) (Some z) (Some r) = ap (λ n. Some n) (let e : min (t + (z.width + r)) 129 ≡ min (min (t + z.width) 129 + r) 129 = omega arith in e)

pub total-end : (total : Option ℕ) → total_before total (Some 0) ≡ option_map capped total
total-end None = refl
total-end (Some t) = ap (λ n. Some (capped n)) (let e : t + 0 ≡ t = omega arith in e)

-- Widths that are the same up to what is too wide

pub same-capped : (a b : ℕ) → capped a ≡ capped b → (a ≡ b) ⊎ ((129 ≤ a) × (129 ≤ b))
same-capped a b e = by (leb_tells a 128) (leb_tells b 128)
  where
    by : ((nat_le a 128 ≡ true) × (a ≤ 128)) ⊎ ((nat_le a 128 ≡ false) × (128 < a)) → ((nat_le b 128 ≡ true) × (b ≤ 128)) ⊎ ((nat_le b 128 ≡ false) × (128 < b)) → (a ≡ b) ⊎ ((129 ≤ a) × (129 ≤ b))
    by (inl x) (inl y) = let h = x.1 in let k = y.1 in inl (omega arith)
    by (inl x) (inr y) = let h = x.1 in let k = y.1 in inl (omega arith)
    by (inr x) (inl y) = let h = x.1 in let k = y.1 in inl (omega arith)
    by (inr x) (inr y) = let h = x.1 in let k = y.1 in inr (omega arith, omega arith)

none-if : (test : Bool) (size : Size) → cond (test && false) (Some size) None ≡ None
none-if true size = refl
none-if false size = refl

wide : (a : ℕ) (signed : Bool) → most_bits < a → size_within a signed ≡ None
wide a signed h = ap (λ b. cond (nat_le 1 a && b) (Some (record { width = a; signed = signed })) None) (lt-leb a most_bits h) ∙ none-if (nat_le 1 a) (record { width = a; signed = signed })

pub capped-within : (a b : ℕ) (signed : Bool) → capped a ≡ capped b → size_within a signed ≡ size_within b signed
capped-within a b signed e = by (same-capped a b e)
  where
    by : (a ≡ b) ⊎ ((129 ≤ a) × (129 ≤ b)) → size_within a signed ≡ size_within b signed
    by (inl same) = ap (λ n. size_within n signed) same
    by (inr both) = let h = both.0 in let k = both.1 in wide a signed (omega arith) ∙ sym (wide b signed (omega arith))

times-wide : (count a b : ℕ) (signed : Bool) → 129 ≤ a → 129 ≤ b → size_within (count * a) signed ≡ size_within (count * b) signed
times-wide zero a b signed h k = ap (λ n. size_within n signed) (let e : 0 * a ≡ 0 * b = omega arith in e)
times-wide (suc count) a b signed h k =
    let x : suc count * a ≡ a + count * a = omega arith in
    let y : suc count * b ≡ b + count * b = omega arith in
    wide (suc count * a) signed (omega (arith, h, x)) ∙ sym (wide (suc count * b) signed (omega (arith, k, y)))

pub times-within : (count a b : ℕ) (signed : Bool) → capped a ≡ capped b → size_within (count * a) signed ≡ size_within (count * b) signed
times-within count a b signed e = by (same-capped a b e)
  where
    by : (a ≡ b) ⊎ ((129 ≤ a) × (129 ≤ b)) → size_within (count * a) signed ≡ size_within (count * b) signed
    by (inl same) = ap (λ n. size_within (count * n) signed) same
    by (inr both) = times-wide count a b signed both.0 both.1

pub no-width : (parts : Option ℕ) → option_map capped parts ≡ None → parts ≡ None
no-width None e = refl
no-width (Some width) e = cc

pub some-width : (parts : Option ℕ) (total : ℕ) → option_map capped parts ≡ Some (capped total) → (width : ℕ) × ((parts ≡ Some width) × (capped width ≡ capped total))
some-width None total e = absurd (let x : ⊥ = cc in x)
some-width (Some width) total e = (width, (refl, (let x : capped width ≡ capped total = cc in x)))
