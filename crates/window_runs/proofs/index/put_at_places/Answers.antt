use Rattle.std.proofs.Common.{◌≡◌, ℕ, zero, suc, ◌+◌, ◌<◌, List, [], ◌∷◌, ◌++◌, take, drop, set, get_or, length, ap, ◌∙◌, arith}
use Rattle.vf_base.specs.Lists.{map_numbered}
use Rattle.window_index.specs.declared.occurrence.Occurrence.{Occurrence}
use Rattle.window_runs.specs.Placed.{placed}
use Rattle.window_runs.proofs.index.put_at_places.Goals as goal

-- the first so many occurrences put at their places, which are counted from one on
abbrev placed_to : ℕ → ℕ → List Occurrence → List Occurrence
placed_to first i xs = map_numbered placed first (take i xs) ++ drop i xs

-- and one more
placed-more : (first i : ℕ) (xs : List Occurrence) (d : Occurrence) → i < length xs → set (placed_to first i xs) i (placed (first + i) (get_or (placed_to first i xs) i d)) ≡ placed_to first (suc i) xs
placed-more first i [] d low = absurd (omega arith)
placed-more first zero (x ∷ xs) d low = let e : first + 0 ≡ first = omega arith in ap (λ n. placed n x ∷ xs) e
placed-more first (suc i) (x ∷ xs) d low =
    (let e : first + suc i ≡ first + 1 + i = omega arith in
    ap (λ n. placed first x ∷ set (placed_to (first + 1) i xs) i (placed n (get_or (placed_to (first + 1) i xs) i d))) e)
    ∙ ap (λ l. placed first x ∷ l) (placed-more (first + 1) i xs d (omega arith))

placed-next : (i : ℕ) (xs items : List Occurrence) (x : Occurrence) → items ≡ placed_to 0 i xs → i < length xs → x ≡ get_or items i x → set items i (placed i x) ≡ placed_to 0 (i + 1) xs
placed-next i xs items x are low read =
    (λ k. set (are k) i (placed i ((read ∙ ap (λ l. get_or l i x) are) k)))
    ∙ (let e : i ≡ 0 + i = omega arith in ap (λ n. set (placed_to 0 i xs) i (placed n (get_or (placed_to 0 i xs) i x))) e) ∙ placed-more 0 i xs x low
    ∙ (let e : suc i ≡ i + 1 = omega arith in ap (λ n. placed_to 0 n xs) e)

pub occurrences-preserved : goal.occurrences-preserved
occurrences-preserved c =
    placed-next c.occurrences.place c.args.occurrences.now.items c.occurrences.occurrences.items c.index_mut-occurrence.result.now c.occurrences.invariant
    (omega (arith, c.occurrences-test.true, c.len-place-end.ensures)) c.index_mut-occurrence.ensures.value
