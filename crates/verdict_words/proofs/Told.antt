-- What a board's steps told, by the number that was found.
use Rattle.std.proofs.Common.{◌≡◌, ◌≢◌, ℕ, Bool, List, cond, sym, ap, subst, ◌∙◌, eq-eqb, ne_eqb}
use Rattle.v_design.specs.Designs.{FlatDesign, TestPlan}
use Rattle.atomic_table.specs.Table.{Step}
use Rattle.verdict_words.specs.declared.board.steps.Settled.{Settled}
use Rattle.verdict_words.specs.declared.board.steps.Settled.TheVariants.{Moved, Was}
use Rattle.verdict_words.specs.Codes.{code_of, codes_of, IsCode}
use Rattle.verdict_words.specs.CodeLaws.{code_of-IsCode}
use Rattle.verdict_words.specs.Views.{with_moved, with_seen}
use Rattle.verdict_words.specs.Plays.{Holder, Settles, Looks}
use Rattle.verdict_words.specs.Settled.{Told}

-- `settle` found the word at 0
pub told_moved : (codes : List ℕ) (fault code : ℕ) (st : Step (Unit {0})) (before after : Holder) (found : ℕ) (answer : Settled) →
    Settles codes fault code st before found after → found ≡ 0 → answer ≡ Moved → Told fault code before.0 answer after.0
told_moved codes fault code st before after found answer told zero is =
    subst (λ (s : Settled). Told fault code before.0 s after.0) (sym is)
    (told.view ∙ ap (λ (b : Bool). cond b (with_moved fault code before.0) (with_seen fault found before.0)) (eq-eqb found 0 zero))

-- `settle` found the word moved
pub told_was : (codes : List ℕ) (fault code : ℕ) (st : Step (Unit {0})) (before after : Holder) (found : ℕ) (answer : Settled) →
    Settles codes fault code st before found after → found ≢ 0 → code ≡ code_of codes fault → answer ≡ Was found → Told fault code before.0 answer after.0
told_was codes fault code st before after found answer told moved graded is =
    let same : found ≡ code = told.was.graded moved ∙ sym graded in
    subst (λ (s : Settled). Told fault code before.0 s after.0) (sym is)
    (same, told.view ∙ (ap (λ (b : Bool). cond b (with_moved fault code before.0) (with_seen fault found before.0)) (ne_eqb found 0 moved) ∙ ap (λ (c : ℕ). with_seen fault c before.0) same))

-- `look` found the word moved
pub told_code : (design : FlatDesign) (plan : TestPlan) (fault : ℕ) (st : Step (Unit {0})) (before after : Holder) (found : ℕ) →
    Looks (codes_of design plan) fault st before found after → found ≢ 0 → IsCode design plan fault found × (after.0 ≡ with_seen fault found before.0)
told_code design plan fault st before after found told moved = (
  code_of-IsCode design plan fault found (told.was.graded moved) moved,
  told.view ∙ ap (λ (b : Bool). cond b before.0 (with_seen fault found before.0)) (ne_eqb found 0 moved),
)
