use Rattle.std.proofs.Common.{◌≡◌, length, map, subst, sym}
use Rattle.v_design.specs.Plain.{expression_of, statement_of, target_of}
use Rattle.v_design.specs.Reads.{named_in, named_in_targets, named_by}
use Rattle.expr_eval.specs.WidthLaws.{AllHold-left, AllHold-right}
use Rattle.process_operands.specs.BoundsLaws.{AreBelow}
use Rattle.process_code.specs.Positions.{advance_part}
use Rattle.process_code.specs.StatesOf.{IsGoodPart}
use Rattle.process_code.proofs.stepping.step_advance.Goals as goal

pub assign-requires-clause-there : goal.assign-requires-clause-there
assign-requires-clause-there g c =
    let limit = length (g.V.Values.values c.args.values.now) in
    let there = (subst (λ s. IsGoodPart limit (advance_part (statement_of s))) c.in-For.is c.requires.good).1 in
    let targets = named_in_targets (map target_of c.in-For.next_targets.items) in (
      AllHold-right _ targets (named_in (expression_of c.in-For.value)) there,
      subst (λ l. AreBelow limit (named_in_targets (map target_of l))) (sym c.deref.ensures.value) (AllHold-left _ targets (named_in (expression_of c.in-For.value)) there),
    )
