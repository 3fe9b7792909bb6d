-- The list has an element.
use Rattle.std.proofs.Common.{◌≡◌, ◌∙◌, List, [], ◌∷◌, length, not, nat_eq, refl, ap, arith}
use Rattle.std.proofs.lemmas.Bool.{ne_eqb}
use Rattle.v_design.specs.States.{is_any}
use Rattle.block_events.proofs.runner.Runner.is_in_run.Goals as goal

any-length : {A : Type 0} (xs : List A) → not (nat_eq (length xs) 0) ≡ is_any xs
any-length [] = refl
any-length (x ∷ xs) = ap not (ne_eqb (length (x ∷ xs)) 0 (λ e. absurd (omega (arith, e))))

pub returns : goal.returns
returns c = ap not c.is_empty.ensures ∙ any-length c.as_slice.result.now ∙ ap is_any c.as_slice.ensures.value
