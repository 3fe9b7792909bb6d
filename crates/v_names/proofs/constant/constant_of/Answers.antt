use Rattle.std.proofs.Common.{ap, subst, ◌∙◌}
use Rattle.v_tree.specs.Views.{expression_of}
use Rattle.v_names.specs.Terms.{term_value, IsRead}
use Rattle.v_names.proofs.ConstantReads.{constant-none, constant-known}
use Rattle.v_names.proofs.constant.constant_of.Goals as goal

pub returns-in-None : goal.returns-in-None
returns-in-None c =
    constant-none c.args.scope.now c.args.width (expression_of c.args.expr.now) (subst (IsRead c.args.scope.now (expression_of c.args.expr.now)) c.in-None.is c.in_ok-known.ensures)

pub returns-in-Some : goal.returns-in-Some
returns-in-Some c =
    constant-known c.args.scope.now c.args.width (expression_of c.args.expr.now) c.in-Some.known c.value_of.result
    (subst (IsRead c.args.scope.now (expression_of c.args.expr.now)) c.in-Some.is c.in_ok-known.ensures)
    (c.value_of.ensures ∙ ap (λ n. term_value c.in-Some.known.term n c.in-Some.known.size.signed) c.max.ensures)
