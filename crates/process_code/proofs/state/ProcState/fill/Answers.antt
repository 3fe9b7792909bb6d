use Rattle.std.proofs.Common.{◌≡◌, map, sym, ap, ◌∙◌}
use Rattle.v_design.specs.Plain.{expression_of, target_of}
use Rattle.v_design.specs.Assignments.{read_assignment}
use Rattle.process_code.proofs.state.ProcState.fill.Goals as goal

pub returns-in-Ok-clause-has : goal.returns-in-Ok-clause-has
returns-in-Ok-clause-has c =
    (_, ap (read_assignment c.args.place.line (map target_of c.args.targets.now) (expression_of c.args.value.now)) (sym c.deref.ensures.value) ∙ c.in-Ok.ensures.has)
