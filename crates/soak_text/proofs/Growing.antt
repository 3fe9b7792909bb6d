-- Lists that grow at their end, as the loops make them (nothing of the language).
use Rattle.std.proofs.Common.{◌≡◌, ℕ, zero, suc, ◌+◌, ◌-◌, ◌≤◌, List, [], ◌∷◌, ◌++◌, drop, ap, sym, ◌∙◌, arith}
use Rattle.std.specs.List.{flat_map, range_with_len}
use Rattle.std.proofs.lemmas.List.{flat_map_more, map-id}
use Rattle.std.proofs.lemmas.List.FromFn.{map-range_with_len_more}

range-more : (start count next : ℕ) → start + count ≡ next → range_with_len start (count + 1) ≡ range_with_len start count ++ next ∷ []
range-more start count next is =
    sym (map-id (range_with_len start (count + 1))) ∙ (map-range_with_len_more (λ (n : ℕ). n) start count next is ∙ ap (λ l. l ++ next ∷ []) (map-id (range_with_len start count)))

-- the lines of one more number
pub lines-more : (line : ℕ → List ℕ) (first number : ℕ) (base out more : List ℕ) → first ≤ number → out ≡ base ++ flat_map line (range_with_len first (number - first)) → more ≡ out ++ line number →
    more ≡ base ++ flat_map line (range_with_len first (number + 1 - first))
lines-more line first number base out more low had added =
    let longer : number + 1 - first ≡ number - first + 1 = omega (arith, low) in
    let next : first + (number - first) ≡ number = omega (arith, low) in
    let grown : range_with_len first (number + 1 - first) ≡ range_with_len first (number - first) ++ number ∷ [] = ap (range_with_len first) longer ∙ range-more first (number - first) number next in
    added ∙ (ap (λ l. l ++ line number) had ∙ (flat_map_more line base (range_with_len first (number - first)) number ∙ ap (λ l. base ++ flat_map line l) (sym grown)))

-- a range without its first numbers
pub drop-range_with_len : (count start len : ℕ) → drop count (range_with_len start len) ≡ range_with_len (start + count) (len - count)
drop-range_with_len zero start len =
    let same : start ≡ start + 0 = omega arith in
    let whole : len ≡ len - 0 = omega arith in
    ap (λ a. range_with_len a len) same ∙ ap (range_with_len (start + 0)) whole
drop-range_with_len (suc count) start zero = let none : 0 ≡ 0 - suc count = omega arith in ap (range_with_len (start + suc count)) none
drop-range_with_len (suc count) start (suc len) =
    let first : start + 1 + count ≡ start + suc count = omega arith in
    let rest : len - count ≡ suc len - suc count = omega arith in
    drop-range_with_len count (start + 1) len ∙ (ap (λ a. range_with_len a (len - count)) first ∙ ap (range_with_len (start + suc count)) rest)
