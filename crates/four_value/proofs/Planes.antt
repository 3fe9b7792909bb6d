-- The plane of a list, from the planes of its parts.
use Rattle.std.proofs.Common.{◌≡◌, ℕ, zero, suc, ◌+◌, ◌-◌, ◌*◌, ◌/◌, ◌%◌, ◌^◌, ◌<◌, ◌≤◌, Bool, true, false, not, ◌&&◌, ◌||◌, List, [], ◌∷◌, ◌++◌, map, length, take, drop, replicate, refl, ap, sym}
use Rattle.std.proofs.Common.{◌∙◌, arith}
use Rattle.std.specs.Int.Bits.{bit_and, bit_or, bit_xor}
use Rattle.std.proofs.lemmas.Nat.{pow_pos, mod-pow-add, shr-shr}
use Rattle.std.proofs.Math.Pow.{pow_mono}
use Rattle.four_value.specs.Planes.{one_if, plane_of}
use Rattle.four_value.proofs.Words.{either_one, and_step, or_step, xor_step, and_inverse_step}

pub plane_of-lt : {A : Type 0} (test : A → Bool) (xs : List A) → plane_of test xs < 2 ^ length xs
plane_of-lt test [] = omega arith
plane_of-lt test (x ∷ xs) =
    let rest : plane_of test xs < 2 ^ length xs = plane_of-lt test xs in
    elim (test x) as (λ b. one_if b + 2 * plane_of test xs < 2 ^ suc (length xs)) [ true ↦ omega arith | false ↦ omega arith ]

pub plane_of-and : {A : Type 0} (f g : A → Bool) (xs : List A) → bit_and (plane_of f xs) (plane_of g xs) ≡ plane_of (λ x. f x && g x) xs
plane_of-and f g [] = refl
plane_of-and f g (x ∷ xs) = and_step (f x) (g x) (plane_of f xs) (plane_of g xs) ∙ ap (λ n. one_if (f x && g x) + 2 * n) (plane_of-and f g xs)

pub plane_of-or : {A : Type 0} (f g : A → Bool) (xs : List A) → bit_or (plane_of f xs) (plane_of g xs) ≡ plane_of (λ x. f x || g x) xs
plane_of-or f g [] = refl
plane_of-or f g (x ∷ xs) = or_step (f x) (g x) (plane_of f xs) (plane_of g xs) ∙ ap (λ n. one_if (f x || g x) + 2 * n) (plane_of-or f g xs)

pub plane_of-xor : {A : Type 0} (f g : A → Bool) (xs : List A) → bit_xor (plane_of f xs) (plane_of g xs) ≡ plane_of (λ x. either_one (f x) (g x)) xs
plane_of-xor f g [] = refl
plane_of-xor f g (x ∷ xs) =
    xor_step (f x) (g x) (plane_of f xs) (plane_of g xs) ∙ ap (λ n. one_if (either_one (f x) (g x)) + 2 * n) (plane_of-xor f g xs)

-- with the inverse at a width of k digits
pub plane_of-and_inverse : {A : Type 0} (f g : A → Bool) (xs : List A) (k : ℕ) → length xs ≤ k →
    bit_and (plane_of f xs) (2 ^ k - 1 - plane_of g xs) ≡ plane_of (λ x. f x && not (g x)) xs
plane_of-and_inverse f g [] k h = refl
plane_of-and_inverse f g (x ∷ xs) zero h = absurd (omega (arith, h))
plane_of-and_inverse f g (x ∷ xs) (suc k) h =
    let within : length xs ≤ k = omega (arith, h) in
    let below : plane_of g xs < 2 ^ k = omega (arith, plane_of-lt g xs, pow_mono within) in
    and_inverse_step (f x) (g x) (plane_of f xs) (plane_of g xs) k below
    ∙ ap (λ n. one_if (f x && not (g x)) + 2 * n) (plane_of-and_inverse f g xs k within)

-- two tests with equal answers
pub plane_of-same : {A : Type 0} (f g : A → Bool) → ((x : A) → f x ≡ g x) → (xs : List A) → plane_of f xs ≡ plane_of g xs
plane_of-same f g h [] = refl
plane_of-same f g h (x ∷ xs) = rw (h x, plane_of-same f g h xs)

pub plane_of-map : {A B : Type 0} (test : B → Bool) (f : A → B) (xs : List A) → plane_of test (map f xs) ≡ plane_of (λ x. test (f x)) xs
plane_of-map test f [] = refl
plane_of-map test f (x ∷ xs) = ap (λ n. one_if (test (f x)) + 2 * n) (plane_of-map test f xs)

pub plane_of-append : {A : Type 0} (test : A → Bool) (xs ys : List A) → plane_of test (xs ++ ys) ≡ plane_of test xs + 2 ^ length xs * plane_of test ys
plane_of-append test [] ys = omega arith
plane_of-append test (x ∷ xs) ys =
    let rest : plane_of test (xs ++ ys) ≡ plane_of test xs + 2 ^ length xs * plane_of test ys = plane_of-append test xs ys in
    let power : 2 ^ suc (length xs) ≡ 2 * 2 ^ length xs = omega arith in
    let product : 2 ^ suc (length xs) * plane_of test ys ≡ 2 * (2 ^ length xs * plane_of test ys) = ap (λ n. n * plane_of test ys) power ∙ omega arith in
    let whole : one_if (test x) + 2 * plane_of test (xs ++ ys) ≡ (one_if (test x) + 2 * plane_of test xs) + 2 ^ suc (length xs) * plane_of test ys = omega (arith, rest, product) in
    whole

-- the other digits of a number whose lowest digit is b
pub halved : (b : Bool) (m : ℕ) → (one_if b + 2 * m) / 2 ≡ m
halved true m = omega arith
halved false m = omega arith

pub lowest : (b : Bool) (m : ℕ) → (one_if b + 2 * m) % 2 ≡ one_if b
lowest true m = omega arith
lowest false m = omega arith

pub plane_of-drop : {A : Type 0} (test : A → Bool) (n : ℕ) (xs : List A) → plane_of test (drop n xs) ≡ plane_of test xs / 2 ^ n
plane_of-drop test zero xs = omega arith
plane_of-drop test (suc n) [] = omega (arith, pow_pos (suc n))
plane_of-drop test (suc n) (x ∷ xs) =
    let halves : (one_if (test x) + 2 * plane_of test xs) / 2 ≡ plane_of test xs = halved (test x) (plane_of test xs) in
    plane_of-drop test n xs ∙ ap (λ m. m / 2 ^ n) (sym halves) ∙ shr-shr (one_if (test x) + 2 * plane_of test xs) 1 n ∙ ap (λ m. (one_if (test x) + 2 * plane_of test xs) / 2 ^ m) (omega arith)

-- the low digits of a number whose lowest digit is b
pub low_digits : (b : Bool) (m n : ℕ) → (one_if b + 2 * m) % 2 ^ suc n ≡ one_if b + 2 * (m % 2 ^ n)
low_digits b m n =
    let whole : one_if b + 2 * m ≡ one_if b + 2 * m = refl in
    let by_one : (one_if b + 2 * m) % 2 ^ (n + 1) ≡ ((one_if b + 2 * m) / 2 % 2 ^ n) * 2 + (one_if b + 2 * m) % 2 = mod-pow-add (one_if b + 2 * m) n 1 in
    let halves : (one_if b + 2 * m) / 2 % 2 ^ n ≡ m % 2 ^ n = ap (λ k. k % 2 ^ n) (halved b m) in
    let same : (one_if b + 2 * m) % 2 ^ suc n ≡ (one_if b + 2 * m) % 2 ^ (n + 1) = ap (λ k. (one_if b + 2 * m) % 2 ^ k) (omega arith) in
    same ∙ by_one ∙ omega (arith, halves, lowest b m)

pub plane_of-take : {A : Type 0} (test : A → Bool) (n : ℕ) (xs : List A) → plane_of test (take n xs) ≡ plane_of test xs % 2 ^ n
plane_of-take test zero xs = omega arith
plane_of-take test (suc n) [] = omega (arith, pow_pos (suc n))
plane_of-take test (suc n) (x ∷ xs) = ap (λ k. one_if (test x) + 2 * k) (plane_of-take test n xs) ∙ sym (low_digits (test x) (plane_of test xs) n)

pub plane_of-replicate : {A : Type 0} (test : A → Bool) (n : ℕ) (x : A) → plane_of test (replicate n x) ≡ one_if (test x) * (2 ^ n - 1)
plane_of-replicate test zero x = omega arith
plane_of-replicate test (suc n) x =
    let rest : plane_of test (replicate n x) ≡ one_if (test x) * (2 ^ n - 1) = plane_of-replicate test n x in
    let P : Bool → Type 0 = λ b. plane_of test (replicate n x) ≡ one_if b * (2 ^ n - 1) → one_if b + 2 * plane_of test (replicate n x) ≡ one_if b * (2 ^ suc n - 1) in
    (elim (test x) as P [ true ↦ λ h. omega (arith, h, pow_pos n) | false ↦ λ h. omega (arith, h) ]) rest

-- a test that all pass
pub plane_of-all : {A : Type 0} (xs : List A) → plane_of (λ x. true) xs ≡ 2 ^ length xs - 1
plane_of-all [] = refl
plane_of-all (x ∷ xs) =
    let rest : plane_of (λ x. true) xs ≡ 2 ^ length xs - 1 = plane_of-all xs in
    let whole : 1 + 2 * plane_of (λ x. true) xs ≡ 2 ^ suc (length xs) - 1 = omega (arith, rest, pow_pos (length xs)) in
    whole
