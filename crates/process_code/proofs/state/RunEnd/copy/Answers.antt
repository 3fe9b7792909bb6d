use Rattle.std.proofs.Common.{List, map, subst, ◌∙◌}
use Rattle.std.specs.List.{AllZip}
use Rattle.v_design.specs.Plain.{due_of, update_of}
use Rattle.process_code.specs.Codes.{rests_in_code}
use Rattle.process_code.specs.Points.{activity_at}
use Rattle.process_code.specs.RunEnds.{IsSameStep}
use Rattle.process_code.specs.declared.state.StepTaken.{StepTaken}
use Rattle.process_code.proofs.StepsCopied.{told-same, stand-same}
use Rattle.process_code.proofs.state.RunEnd.copy.Goals as goal

pub returns-clause-stands : goal.returns-clause-stands
returns-clause-stands c = λ code h.
    let same = subst (λ (l : List StepTaken). AllZip IsSameStep l c.in_ok-steps.steps) c.as_slice-3.ensures c.in_ok-steps.ensures in
    (c.in_ok-state.ensures.state code h.0, stand-same code c.args.self.now.steps c.in_ok-steps.steps same h.1)

pub returns-clause-told : goal.returns-clause-told
returns-clause-told c = λ code.
    let same = subst (λ (l : List StepTaken). AllZip IsSameStep l c.in_ok-steps.steps) c.as_slice-3.ensures c.in_ok-steps.ensures in
    λ i. record {
      activity = activity_at (rests_in_code code) (c.in_ok-state.ensures.point i);
      later = map due_of ((c.in_ok-later.ensures ∙ c.as_slice.ensures) i);
      writes = map update_of ((c.in_ok-writes.ensures ∙ c.as_slice-2.ensures) i);
      steps = told-same code c.args.self.now.steps c.in_ok-steps.steps same i;
    }
