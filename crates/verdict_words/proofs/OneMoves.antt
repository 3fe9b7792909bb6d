-- Of two calls that settle one fault one moves its word.
use Rattle.std.proofs.Common.{◌≡◌, ◌≢◌, ℕ, ◌+◌, ◌==◌, cond, Bool, List, [], ◌++◌, slice_index, Contains, sym, refl, ap, ◌∙◌, subst, ⊎_elim, arith, eq-eqb}
use Rattle.std.proofs.lemmas.List.Elements.{Contains-push, Contains-append_left, All-contains}
use Rattle.verdict_words.specs.declared.view.View.{View}
use Rattle.verdict_words.specs.declared.view.Mark.{Mark}
use Rattle.verdict_words.specs.declared.rule.Sizes.{Sizes}
use Rattle.verdict_words.specs.declared.board.steps.Settled.{Settled}
use Rattle.verdict_words.specs.declared.board.steps.Settled.TheVariants.{Moved as DidMove, Was}
use Rattle.vf_base.specs.Base.{fault_number}
use Rattle.verdict_words.specs.Views.{mark, joined}
use Rattle.verdict_words.specs.Rule.{marks, Closing}
use Rattle.verdict_words.specs.Settled.{Told, OneMoved}
use Rattle.verdict_words.proofs.Parts.{marks_push, marks-append}

-- a list that was empty has the fault once after a push
one_here : (f : ℕ) (ms : List Mark) → ms ≡ [] → marks f ms + cond (f == f) 1 0 ≡ 1
one_here f ms nil = let a : marks f ms ≡ 0 = ap (marks f) nil in let b : cond {A = ℕ} (f == f) 1 0 ≡ 1 = ap (λ (b : Bool). cond {A = ℕ} b 1 0) (eq-eqb f f refl) in omega arith

-- neither both answers are Moved, nor both are Was
pub one_moved : (codes : List ℕ) (sizes : Sizes) (words : List ℕ) (f c : ℕ) (v w v' w' : View) (first second : Settled) → v.moved ≡ [] → w.moved ≡ [] → Told f c v first v' → Told f c w second w'
    → Closing codes sizes words (joined v' w') → OneMoved c first second
one_moved codes sizes words f c v w v' w' DidMove (Was d) nil nil' t t' k = t'.0
one_moved codes sizes words f c v w v' w' (Was d) DidMove nil nil' t t' k = t.0
one_moved codes sizes words f c v w v' w' DidMove DidMove nil nil' t t' k =
    let here = marks-append f v'.moved w'.moved in
    let is : marks f v'.moved ≡ 1 = ap (λ (u : View). marks f u.moved) t ∙ (marks_push f f c v.moved ∙ one_here f v.moved nil) in
    let is' : marks f w'.moved ≡ 1 = ap (λ (u : View). marks f u.moved) t' ∙ (marks_push f f c w.moved ∙ one_here f w.moved nil') in
    ⊎_elim (λ h. (let z = h.1 in omega arith)) (λ h. (let z = h.2 in omega arith)) (k.moved f)
one_moved codes sizes words f c v w v' w' (Was d) (Was e) nil nil' t t' k =
    let here = marks-append f v'.moved w'.moved in
    let is : marks f v'.moved ≡ 0 = ap (λ (u : View). marks f u.moved) t.1 ∙ ap (marks f) nil in
    let is' : marks f w'.moved ≡ 0 = ap (λ (u : View). marks f u.moved) t'.1 ∙ ap (marks f) nil' in
    let known : Contains v'.seen (mark f c) = subst (λ (u : View). Contains u.seen (mark f c)) (sym t.1) (Contains-push v.seen (mark f c)) in
    let word = All-contains (λ (m : Mark). (slice_index words (fault_number m.fault) ≡ m.code) × (m.code ≢ 0)) (v'.seen ++ w'.seen) (mark f c) k.seen
    (Contains-append_left v'.seen w'.seen (mark f c) known) in
    ⊎_elim (λ h. absurd (word.1 (sym word.0 ∙ h.0))) (λ h. (let z = h.2 in omega arith)) (k.moved f)
