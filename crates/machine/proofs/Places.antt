-- What stands at the first place that passes a test (nothing of the language).
use Rattle.std.proofs.Common.{◌≡◌, ℕ, suc, ◌+◌, ◌<◌, List, [], ◌∷◌, length, Bool, true, false, refl, ap, subst, ◌∙◌, arith}
use Rattle.std.specs.Prelude.{Option, Some, None, slice_get}
use Rattle.vf_base.specs.Lists.{first_place, earlier_place}
use Rattle.v_design.specs.States.{found_or}

-- what stands at the first place that passes a test passes it, and is there
pub placed : {A : Type 0} (test : A → Bool) (default : A) (xs : List A) (n : ℕ) → first_place test xs ≡ Some n → (test (found_or default (slice_get xs n)) ≡ true) × (n < length xs)
placed test default [] n e = cc
placed test default (x ∷ xs) n e = go (test x) (first_place test xs) refl refl e (λ m f. placed test default xs m f)
  where
    some-is : (x y : ℕ) → Some x ≡ Some y → x ≡ y
    some-is x y h = ap (found_or x) h

    go : (b : Bool) (o : Option ℕ) → test x ≡ b → first_place test xs ≡ o → earlier_place b o ≡ Some n →
        ((m : ℕ) → first_place test xs ≡ Some m → (test (found_or default (slice_get xs m)) ≡ true) × (m < length xs)) → (test (found_or default (slice_get (x ∷ xs) n)) ≡ true) × (n < length (x ∷ xs))
    go true o t f h rest =
        let z : 0 ≡ n = some-is 0 n h in
        (subst (λ k. test (found_or default (slice_get (x ∷ xs) k)) ≡ true) z t, omega (arith, z))
    go false None t f h rest = cc
    go false (Some m) t f h rest =
        let z : suc m ≡ n = (let one : suc m ≡ m + 1 = omega arith in one ∙ some-is (m + 1) n h) in
        (subst (λ k. test (found_or default (slice_get (x ∷ xs) k)) ≡ true) z (rest m f).0, omega (arith, z, (rest m f).1))
