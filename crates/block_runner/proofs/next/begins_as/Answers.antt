-- Where the good machine's run begins, as its first step tells.
use Rattle.std.proofs.Common.{◌≡◌, ◌∙◌, ℕ, Bool, true, false, List, [], ◌∷◌, get_or, length, refl, sym, ap, subst}
use Rattle.std.specs.Bool.{◌==◌}
use Rattle.std.proofs.lemmas.Bool.{eqb-true}
use Rattle.std.specs.Prelude.{Some, slice_get}
use Rattle.vf_base.specs.Base.{process_number}
use Rattle.process_code.specs.declared.state.StepTaken.{StepTaken}
use Rattle.block_events.specs.Runners.{machine_of, state_of}
use Rattle.block_runner.proofs.Begins.{starts-as, starts-none, starts-other}
use Rattle.block_runner.proofs.next.begins_as.Goals as goal

none-in : (steps : List StepTaken) → length steps ≡ 0 → steps ≡ []
none-in [] e = refl
none-in (step ∷ steps) e = cc

no-steps-in : (steps : List StepTaken) → (length steps == 0) ≡ true → steps ≡ []
no-steps-in steps e = none-in steps (eqb-true (length steps) 0 e)

-- the first of some steps
first-in : (steps : List StepTaken) (other : StepTaken) → (length steps == 0) ≡ false → slice_get steps 0 ≡ Some (get_or steps 0 other)
first-in [] other e = cc
first-in (step ∷ steps) other e = refl

pub returns-then-is_empty-clause-yes : goal.returns-then-is_empty-clause-yes
returns-then-is_empty-clause-yes c = λ holds. absurd (let clash : true ≡ false = sym holds in cc)

pub returns-then-is_empty-clause-no : goal.returns-then-is_empty-clause-no
returns-then-is_empty-clause-no c = λ fails good run tells in_run none.
    let runner = c.args.runner.now in
    starts-none c.known_steps_go_on.ensures (machine_of runner) (state_of runner) (process_number c.args.process) c.args.found.now good run tells in_run none
    (sym c.as_slice-steps.ensures ∙ no-steps-in c.as_slice-steps.result.now (sym c.is_empty.ensures ∙ c.if-is_empty.true))

pub returns-clause-yes : goal.returns-clause-yes
returns-clause-yes c = λ holds good run tells in_run none.
    let runner = c.args.runner.now in
    let one = get_or c.as_slice-steps.result.now 0 c.index-steps-0.result in
    let first = subst (λ (l : List StepTaken). slice_get l 0 ≡ Some one) c.as_slice-steps.ensures
    (first-in c.as_slice-steps.result.now c.index-steps-0.result (sym c.is_empty.ensures ∙ c.if-is_empty.false)) in
    starts-as c.known_steps_go_on.ensures (machine_of runner) (state_of runner) (process_number c.args.process) c.args.found.now good run tells in_run none one first c.requires.rules
    c.stands_at.result c.stands_at.ensures.activity c.stands_at.ensures.equal holds

pub returns-clause-no : goal.returns-clause-no
returns-clause-no c = λ fails good run tells in_run none.
    let runner = c.args.runner.now in
    let one = get_or c.as_slice-steps.result.now 0 c.index-steps-0.result in
    let first = subst (λ (l : List StepTaken). slice_get l 0 ≡ Some one) c.as_slice-steps.ensures
    (first-in c.as_slice-steps.result.now c.index-steps-0.result (sym c.is_empty.ensures ∙ c.if-is_empty.false)) in
    starts-other c.known_steps_go_on.ensures (machine_of runner) (state_of runner) (process_number c.args.process) c.args.found.now good run tells in_run none one first c.requires.rules
    c.stands_at.result c.stands_at.ensures.activity c.stands_at.ensures.equal fails
