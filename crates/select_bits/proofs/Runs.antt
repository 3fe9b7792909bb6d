-- The places of a part's bits: outside the range, then a run of places upwards, then outside again (IEEE 1364-2001, clause 4.2.1).
use Rattle.std.proofs.Common.{◌≡◌, ℕ, zero, suc, ◌+◌, ◌-◌, ◌<◌, ◌≤◌, min, List, ◌∷◌, ◌++◌, map, replicate, Option, Some, None, refl, sym, ap, ◌∙◌, arith}
use Rattle.std.proofs.lemmas.Bool.{le-leb, lt-leb}
use Rattle.std.proofs.lemmas.List.{map-append}
use Rattle.v_design.specs.Expressions.{up_from, down_from, place_of}

-- Where an index stands in a range whose indexes rise

less-rising : (high low index : ℕ) → low ≤ high → index < low → place_of high low index ≡ None
less-rising high low index range out =
    let h = le-leb low high range in
    let o = lt-leb low index out in
    grind (arith, h, o)

in-rising : (high low index : ℕ) → low ≤ index → index ≤ high → place_of high low index ≡ Some (index - low)
in-rising high low index above below =
    let h = le-leb low high (omega arith) in
    let a = le-leb low index above in
    let b = le-leb index high below in
    grind (arith, h, a, b)

more-rising : (high low index : ℕ) → low ≤ high → high < index → place_of high low index ≡ None
more-rising high low index range out =
    let h = le-leb low high range in
    let a = le-leb low index (omega arith) in
    let o = lt-leb index high out in
    grind (arith, h, a, o)

-- and in one whose indexes fall

more-falling : (high low index : ℕ) → high < low → low < index → place_of high low index ≡ None
more-falling high low index range out =
    let h = lt-leb low high range in
    let a = le-leb high index (omega arith) in
    let o = lt-leb index low out in
    grind (arith, h, a, o)

in-falling : (high low index : ℕ) → high < low → high ≤ index → index ≤ low → place_of high low index ≡ Some (low - index)
in-falling high low index range above below =
    let h = lt-leb low high range in
    let a = le-leb high index above in
    let b = le-leb index low below in
    grind (arith, h, a, b)

less-falling : (high low index : ℕ) → high < low → index < high → place_of high low index ≡ None
less-falling high low index range out =
    let h = lt-leb low high range in
    let o = lt-leb high index out in
    grind (arith, h, o)

-- Runs of indexes upwards

below-up : (high low count index : ℕ) → low ≤ high → (1 ≤ count → index + count ≤ low) → map (place_of high low) (up_from index count) ≡ replicate count None
below-up high low zero index range out = refl
below-up high low (suc n) index range out =
    let o = out (omega arith) in
    ap (λ p. p ∷ map (place_of high low) (up_from (index + 1) n)) (less-rising high low index range (omega (arith, o)))
    ∙ ap (λ l. None ∷ l) (below-up high low n (index + 1) range (λ some. omega (arith, o)))

within-up : (high low count index place : ℕ) → (1 ≤ count → index ≡ low + place) → (1 ≤ count → index + count ≤ high + 1)
    → map (place_of high low) (up_from index count) ≡ map Some (up_from place count)
within-up high low zero index place at fits = refl
within-up high low (suc n) index place at fits =
    let a = at (omega arith) in
    let f = fits (omega arith) in
    let here : index - low ≡ place = omega (arith, a) in
    ap (λ p. p ∷ map (place_of high low) (up_from (index + 1) n)) (in-rising high low index (omega (arith, a)) (omega (arith, f)) ∙ ap Some here)
    ∙ ap (λ l. Some place ∷ l) (within-up high low n (index + 1) (place + 1) (λ some. omega (arith, a)) (λ some. omega (arith, f)))

above-up : (high low count index : ℕ) → low ≤ high → (1 ≤ count → high < index) → map (place_of high low) (up_from index count) ≡ replicate count None
above-up high low zero index range out = refl
above-up high low (suc n) index range out =
    let o = out (omega arith) in
    ap (λ p. p ∷ map (place_of high low) (up_from (index + 1) n)) (more-rising high low index range o)
    ∙ ap (λ l. None ∷ l) (above-up high low n (index + 1) range (λ some. omega (arith, o)))

-- and downwards

below-down : (high low count index : ℕ) → high < low → (1 ≤ count → low + count ≤ index) → map (place_of high low) (down_from index count) ≡ replicate count None
below-down high low zero index range out = refl
below-down high low (suc n) index range out =
    let o = out (omega arith) in
    ap (λ p. p ∷ map (place_of high low) (down_from (index - 1) n)) (more-falling high low index range (omega (arith, o)))
    ∙ ap (λ l. None ∷ l) (below-down high low n (index - 1) range (λ some. omega (arith, o)))

within-down : (high low count index place : ℕ) → high < low → (1 ≤ count → place + index ≡ low) → (1 ≤ count → high + count ≤ index + 1)
    → map (place_of high low) (down_from index count) ≡ map Some (up_from place count)
within-down high low zero index place range at fits = refl
within-down high low (suc n) index place range at fits =
    let a = at (omega arith) in
    let f = fits (omega arith) in
    let here : low - index ≡ place = omega (arith, a) in
    ap (λ p. p ∷ map (place_of high low) (down_from (index - 1) n)) (in-falling high low index range (omega (arith, f)) (omega (arith, a)) ∙ ap Some here)
    ∙ ap (λ l. Some place ∷ l) (within-down high low n (index - 1) (place + 1) range (λ some. omega (arith, a, f, some)) (λ some. omega (arith, f, some)))

above-down : (high low count index : ℕ) → high < low → (1 ≤ count → index < high) → map (place_of high low) (down_from index count) ≡ replicate count None
above-down high low zero index range out = refl
above-down high low (suc n) index range out =
    let o = out (omega arith) in
    ap (λ p. p ∷ map (place_of high low) (down_from (index - 1) n)) (less-falling high low index range o)
    ∙ ap (λ l. None ∷ l) (above-down high low n (index - 1) range (λ some. omega (arith, o)))

-- Three runs

up-split : (start a b : ℕ) → up_from start (a + b) ≡ up_from start a ++ up_from (start + a) b
up-split start zero b =
    let none : zero + b ≡ b = omega arith in
    let at : start ≡ start + zero = omega arith in
    ap (up_from start) none ∙ ap (λ s. up_from s b) at
up-split start (suc a) b =
    let more : suc a + b ≡ suc (a + b) = omega arith in
    let at : start + 1 + a ≡ start + suc a = omega arith in
    ap (up_from start) more ∙ ap (λ l. start ∷ l) (up-split (start + 1) a b ∙ ap (λ s. up_from (start + 1) a ++ up_from s b) at)

down-split : (start a b : ℕ) → down_from start (a + b) ≡ down_from start a ++ down_from (start - a) b
down-split start zero b =
    let none : zero + b ≡ b = omega arith in
    let at : start ≡ start - zero = omega arith in
    ap (down_from start) none ∙ ap (λ s. down_from s b) at
down-split start (suc a) b =
    let more : suc a + b ≡ suc (a + b) = omega arith in
    let at : start - 1 - a ≡ start - suc a = omega arith in
    ap (down_from start) more ∙ ap (λ l. start ∷ l) (down-split (start - 1) a b ∙ ap (λ s. down_from (start - 1) a ++ down_from s b) at)

three : (f : ℕ → Option ℕ) (whole below within above : List ℕ) (xs ys zs : List (Option ℕ)) → whole ≡ below ++ (within ++ above) → map f below ≡ xs → map f within ≡ ys → map f above ≡ zs
    → xs ++ (ys ++ zs) ≡ map f whole
three f whole below within above xs ys zs e x y z =
    sym (ap (map f) e ∙ map-append f below (within ++ above) ∙ ap (λ l. map f below ++ l) (map-append f within above) ∙ ap (λ l. l ++ (map f within ++ map f above)) x
    ∙ ap (λ l. xs ++ (l ++ map f above)) y ∙ ap (λ l. xs ++ (ys ++ l)) z)

-- the places of a part of a range whose indexes rise
pub rising-run : (high low from to count below above width place : ℕ) → low ≤ high → to ≤ from → count ≡ from - to + 1
    → below ≡ min (low - to) count → above ≡ min (from - high) count → width ≡ count - below - above → place ≡ min (to - low) (high - low)
    → replicate below None ++ (map Some (up_from place width) ++ replicate above None) ≡ map (place_of high low) (up_from to (from - to + 1))
rising-run high low from to count below above width place range part c b a w p =
    let total : from - to + 1 ≡ below + (width + above) = omega arith in
    three (place_of high low) (up_from to (from - to + 1)) (up_from to below) (up_from (to + below) width) (up_from (to + below + width) above) (replicate below None) (map Some (up_from place width))
    (replicate above None)
    (ap (up_from to) total ∙ up-split to below (width + above) ∙ ap (λ l. up_from to below ++ l) (up-split (to + below) width above))
    (below-up high low below to range (λ some. omega arith))
    (within-up high low width (to + below) place (λ some. omega arith) (λ some. omega arith))
    (above-up high low above (to + below + width) range (λ some. omega arith))

-- and of one whose indexes fall
pub falling-run : (high low from to count below above width place : ℕ) → high < low → from ≤ to → count ≡ to - from + 1
    → below ≡ min (to - low) count → above ≡ min (high - from) count → width ≡ count - below - above → place ≡ min (low - to) (low - high)
    → replicate below None ++ (map Some (up_from place width) ++ replicate above None) ≡ map (place_of high low) (down_from to (to - from + 1))
falling-run high low from to count below above width place range part c b a w p =
    let total : to - from + 1 ≡ below + (width + above) = omega arith in
    three (place_of high low) (down_from to (to - from + 1)) (down_from to below) (down_from (to - below) width) (down_from (to - below - width) above) (replicate below None)
    (map Some (up_from place width)) (replicate above None)
    (ap (down_from to) total ∙ down-split to below (width + above) ∙ ap (λ l. down_from to below ++ l) (down-split (to - below) width above))
    (below-down high low below to range (λ some. omega arith))
    (within-down high low width (to - below) place range (λ some. omega arith) (λ some. omega arith))
    (above-down high low above (to - below - width) range (λ some. omega arith))
