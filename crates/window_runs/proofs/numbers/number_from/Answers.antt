use Rattle.std.proofs.Common.{◌≡◌, ℕ, zero, suc, ◌+◌, ◌<◌, List, [], ◌∷◌, ◌++◌, map, take, drop, set, get_or, length, refl, ap, ◌∙◌, arith}
use Rattle.process_code.specs.declared.state.RunEnd.{RunEnd}
use Rattle.window_runs.specs.RunsByProcess.{numbered_from}
use Rattle.window_runs.proofs.numbers.number_from.Goals as goal

-- the first so many elements changed
abbrev changed_to : (RunEnd → RunEnd) → ℕ → List RunEnd → List RunEnd
changed_to f i xs = map f (take i xs) ++ drop i xs

-- and one more
changed-more : (f : RunEnd → RunEnd) (i : ℕ) (xs : List RunEnd) (d : RunEnd) → i < length xs → set (changed_to f i xs) i (f (get_or (changed_to f i xs) i d)) ≡ changed_to f (suc i) xs
changed-more f i [] d low = absurd (omega arith)
changed-more f zero (x ∷ xs) d low = refl
changed-more f (suc i) (x ∷ xs) d low = ap (λ l. f x ∷ l) (changed-more f i xs d (omega arith))

changed-next : (f : RunEnd → RunEnd) (i : ℕ) (xs items : List RunEnd) (x : RunEnd) → items ≡ changed_to f i xs → i < length xs → x ≡ get_or items i x → set items i (f x) ≡ changed_to f (i + 1) xs
changed-next f i xs items x are low read =
    (λ k. set (are k) i (f ((read ∙ ap (λ l. get_or l i x) are) k))) ∙ changed-more f i xs x low ∙ (let e : suc i ≡ i + 1 = omega arith in ap (λ n. changed_to f n xs) e)

pub runs-preserved : goal.runs-preserved
runs-preserved c =
    changed-next (numbered_from c.args.phases) c.runs.place c.args.runs.now.items c.runs.runs.items c.index_mut-run.result.now c.runs.invariant
    (omega (arith, c.runs-test.true, c.len-place-end.ensures)) c.index_mut-run.ensures.value
