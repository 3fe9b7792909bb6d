use Rattle.std.proofs.Common.{◌≡◌, ◌≤◌, ◌+◌, ◌++◌, length, map, subst, sym, ap, ◌∙◌, arith}
use Rattle.std.specs.Prelude.{vec_capacity}
use Rattle.v_design.specs.Plain.{expression_of, statement_of, target_of}
use Rattle.v_design.specs.PlainLemmas.{items_of, statement_of-Case}
use Rattle.v_design.specs.Trees.{Statement}
use Rattle.v_design.specs.Reads.{named_in, named_in_targets, named_by, named_by_items}
use Rattle.v_design.specs.Sized.{IsSizedStatement, AreSizedItems}
use Rattle.v_design.specs.Expressions.{width_of, sign_of}
use Rattle.v_design.specs.Processes.{read_case}
use Rattle.expr_eval.specs.WidthLaws.{AllHold-left, AllHold-right}
use Rattle.process_operands.specs.Bounds.{reads_most, reads_most_items}
use Rattle.process_operands.specs.BoundsLaws.{AreBelow}
use Rattle.process_code.specs.Points.{point_of, said_by}
use Rattle.process_code.specs.Acts.{Acts, Chooses, ActsBy}
use Rattle.process_code.specs.StatesOf.{most_operands}
use Rattle.process_code.proofs.stepping.step_statement.Goals as goal

pub choose-requires-clause-labels : goal.choose-requires-clause-labels
choose-requires-clause-labels g c =
    let same = ap statement_of c.in-Case.is ∙ statement_of-Case c.in-Case.place c.in-Case.kind c.in-Case.value c.in-Case.items c.in-Case.default in
    subst (λ l. AreSizedItems (width_of (expression_of c.in-Case.value)) (sign_of (expression_of c.in-Case.value)) (items_of l)) (sym c.deref.ensures.value)
    (subst IsSizedStatement same c.requires.sized).2

pub choose-requires-clause-there : goal.choose-requires-clause-there
choose-requires-clause-there g c =
    let limit = length (g.V.Values.values c.args.values.now) in
    let same = ap statement_of c.in-Case.is ∙ statement_of-Case c.in-Case.place c.in-Case.kind c.in-Case.value c.in-Case.items c.in-Case.default in
    let there = subst (λ s. AreBelow limit (named_by s)) same c.requires.there in
    let rest = AllHold-right _ (named_in (expression_of c.in-Case.value)) (named_by_items (items_of c.in-Case.items.items) ++ named_by (statement_of c.in-Case.default.value)) there in (
      AllHold-left _ (named_in (expression_of c.in-Case.value)) (named_by_items (items_of c.in-Case.items.items) ++ named_by (statement_of c.in-Case.default.value)) there,
      subst (λ l. AreBelow limit (named_by_items (items_of l))) (sym c.deref.ensures.value)
          (AllHold-left _ (named_by_items (items_of c.in-Case.items.items)) (named_by (statement_of c.in-Case.default.value)) rest),
    )

pub choose-requires-clause-space : goal.choose-requires-clause-space
choose-requires-clause-space g c =
    let same = ap statement_of c.in-Case.is ∙ statement_of-Case c.in-Case.place c.in-Case.kind c.in-Case.value c.in-Case.items c.in-Case.default in
    let most : most_operands (statement_of c.args.statement.now) ≡ reads_most (expression_of c.in-Case.value) + reads_most_items (items_of c.in-Case.items.items) = ap most_operands same in
    omega (arith, most, ap (λ l. reads_most_items (items_of l)) c.deref.ensures.value, c.requires.space.0)

pub returns-in-Case-clause-acts : goal.returns-in-Case-clause-acts
returns-in-Case-clause-acts g c =
    let values = g.V.Values.values c.args.values.now in
    let same = ap statement_of c.in-Case.is ∙ statement_of-Case c.in-Case.place c.in-Case.kind c.in-Case.value c.in-Case.items c.in-Case.default in
    let default = statement_of c.in-Case.default.value in
    let ways = c.args.ways.now in
    let old = point_of c.args.state.now in
    subst (λ s. ActsBy c.args.now values s ways c.args.next old (point_of c.choose.new.self) (said_by c.choose.result)) (sym same)
    (subst (λ l. Acts values (read_case c.in-Case.kind (expression_of c.in-Case.value) (items_of l) default old.operands) (Chooses (items_of l) default ways.items.items ways.other old) old
    (point_of c.choose.new.self) (said_by c.choose.result))
    c.deref.ensures.value (c.choose.ensures.acts default))

pub assign-requires-clause-there : goal.assign-requires-clause-there
assign-requires-clause-there g c =
    let limit = length (g.V.Values.values c.args.values.now) in
    let there = subst (λ s. AreBelow limit (named_by (statement_of s))) c.in-For.is c.requires.there in
    let targets = named_in_targets (map target_of c.in-For.first_targets.items) in (
      AllHold-left _ (named_in (expression_of c.in-For.first)) _ (AllHold-right _ targets _ there),
      subst (λ l. AreBelow limit (named_in_targets (map target_of l))) (sym c.deref-in-For.ensures.value) (AllHold-left _ targets _ there),
    )

pub branch-state-requires-in-While-clause-there : goal.branch-state-requires-in-While-clause-there
branch-state-requires-in-While-clause-there g c =
    let limit = length (g.V.Values.values c.args.values.now) in
    AllHold-left _ (named_in (expression_of c.in-While.condition)) _ (subst (λ s. AreBelow limit (named_by (statement_of s))) c.in-While.is c.requires.there)

pub count-requires-clause-there : goal.count-requires-clause-there
count-requires-clause-there g c =
    let limit = length (g.V.Values.values c.args.values.now) in
    AllHold-left _ (named_in (expression_of c.in-Repeat.count)) _ (subst (λ s. AreBelow limit (named_by (statement_of s))) c.in-Repeat.is c.requires.there)

pub wait_until-requires-clause-there : goal.wait_until-requires-clause-there
wait_until-requires-clause-there g c =
    let limit = length (g.V.Values.values c.args.values.now) in
    AllHold-left _ (named_in (expression_of c.in-Wait.condition)) _ (subst (λ s. AreBelow limit (named_by (statement_of s))) c.in-Wait.is c.requires.there)

pub assign-requires-in-Blocking-clause-there : goal.assign-requires-in-Blocking-clause-there
assign-requires-in-Blocking-clause-there g c =
    let limit = length (g.V.Values.values c.args.values.now) in
    let there = subst (λ s. AreBelow limit (named_by (statement_of s))) c.in-Blocking.is c.requires.there in
    let targets = named_in_targets (map target_of c.in-Blocking.targets.items) in (
      AllHold-right _ targets (named_in (expression_of c.in-Blocking.value)) there,
      subst (λ l. AreBelow limit (named_in_targets (map target_of l))) (sym c.deref-in-Blocking.ensures.value) (AllHold-left _ targets (named_in (expression_of c.in-Blocking.value)) there),
    )

pub append-requires-clause-there : goal.append-requires-clause-there
append-requires-clause-there g c =
    let limit = length (g.V.Values.values c.args.values.now) in
    let there = subst (λ s. AreBelow limit (named_by (statement_of s))) c.in-Nonblocking.is c.requires.there in
    let targets = named_in_targets (map target_of c.in-Nonblocking.targets.items) in (
      AllHold-right _ targets (named_in (expression_of c.in-Nonblocking.value)) there,
      subst (λ l. AreBelow limit (named_in_targets (map target_of l))) (sym c.deref-in-Nonblocking.ensures.value) (AllHold-left _ targets (named_in (expression_of c.in-Nonblocking.value)) there),
    )
