-- What is drawn from a state, by the seed and the number of draws before it (nothing of the language).
use Rattle.std.proofs.Common.{◌≡◌, ℕ, suc, ◌+◌, ◌*◌, ◌/◌, ◌%◌, List, [], ◌∷◌, ◌++◌, map, refl, ap, sym, ◌∙◌, arith}
use Rattle.std.specs.List.{range_with_len}
use Rattle.std.proofs.lemmas.List.FromFn.{map-range_with_len_more}
use Rattle.soak_text.specs.declared.draws.Kind.{Kind}
use Rattle.soak_text.specs.declared.draws.Stage.{Stage}
use Rattle.soak_text.specs.Soak.{state, draw, kind_of, stage_of}

-- the next state
pub state-next : (before after seed taken next : ℕ) → before ≡ state seed taken → next ≡ suc taken → after ≡ state before 1 → after ≡ state seed next
state-next before after seed taken next had is new = new ∙ (ap (λ s. state s 1) had ∙ ap (state seed) (sym is))

-- the next draw
pub draw-next : (before drawn seed taken next : ℕ) → before ≡ state seed taken → next ≡ suc taken → drawn ≡ draw before 1 → drawn ≡ draw seed next
draw-next before drawn seed taken next had is new = new ∙ ap (λ s. s / 65536) (state-next before (state before 1) seed taken next had is refl)

abbrev made : ℕ → Kind → ℕ → ℕ → ℕ → Stage
made number kind left right first = record { number = number; kind = kind; left = left; right = right; first = first }

-- a stage by its four draws
pub stage-drawn : (seed size number : ℕ) (kind : Kind) (one two three four : ℕ) → one ≡ draw seed (4 * number + 1) → kind ≡ kind_of one → two ≡ draw seed (4 * number + 2) →
    three ≡ draw seed (4 * number + 3) →
    four ≡ draw seed (4 * number + 4) → made number kind (two % size) (three % size) (four % 2) ≡ stage_of seed size number
stage-drawn seed size number kind one two three four first is second third fourth =
    let k : Kind = kind_of (draw seed (4 * number + 1)) in
    let l : ℕ = draw seed (4 * number + 2) % size in
    let r : ℕ = draw seed (4 * number + 3) % size in
    ap (λ x. made number x (two % size) (three % size) (four % 2)) (is ∙ ap kind_of first)
    ∙ (ap (λ x. made number k (x % size) (three % size) (four % 2)) second ∙ (ap (λ x. made number k l (x % size) (four % 2)) third ∙ ap (λ x. made number k l r (x % 2)) fourth))

-- one more stage
pub stages-more : (seed size count : ℕ) (stage : Stage) (stages more : List Stage) → stages ≡ map (stage_of seed size) (range_with_len 0 count) → stage ≡ stage_of seed size count →
    more ≡ stages ++ stage ∷ [] →
    more ≡ map (stage_of seed size) (range_with_len 0 (count + 1))
stages-more seed size count stage stages more had is added =
    let next : 0 + count ≡ count = omega arith in
    added ∙ (ap (λ l. l ++ stage ∷ []) had ∙ (ap (λ s. map (stage_of seed size) (range_with_len 0 count) ++ s ∷ []) is ∙ sym (map-range_with_len_more (stage_of seed size) 0 count count next)))
