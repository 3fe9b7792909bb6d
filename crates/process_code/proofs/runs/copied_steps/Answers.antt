use Rattle.std.proofs.Common.{List, sym, subst}
use Rattle.std.specs.List.{AllZip}
use Rattle.std.proofs.lemmas.List.{take_all}
use Rattle.process_code.specs.RunEnds.{IsSameStep}
use Rattle.process_code.specs.declared.state.StepTaken.{StepTaken}
use Rattle.process_code.proofs.StepsCopied.{same-more}
use Rattle.process_code.proofs.runs.copied_steps.Goals as goal

pub steps-preserved : goal.steps-preserved
steps-preserved c =
    same-more c.args.steps.now c.steps.copies.items c.push.new.self.items c.steps.step-index c.step-item.result c.in_ok-copy.copy c.steps-test.true c.step-item.is c.in_ok-push.ensures.items
    c.in_ok-copy.ensures c.steps.invariant

pub returns : goal.returns
returns c =
    subst (AllZip IsSameStep c.args.steps.now) (sym c.from_vec.ensures)
    (subst (λ (l : List StepTaken). AllZip IsSameStep l c.steps.copies.items) (take_all c.steps.step-index c.args.steps.now c.steps-test.false) c.steps.invariant)
