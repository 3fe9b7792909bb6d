use Rattle.std.proofs.Common.{sym, subst, ◌∙◌}
use Rattle.v_tree.specs.Views.{expression_of}
use Rattle.v_names.specs.Terms.{IsRead}
use Rattle.v_names.proofs.KnownLaws.{number-known, number-unknown}
use Rattle.v_names.proofs.constant.number_of_constant.Goals as goal

pub returns-in-None : goal.returns-in-None
returns-in-None c =
    sym (number-unknown c.args.scope.now (expression_of c.args.expr.now) (subst (IsRead c.args.scope.now (expression_of c.args.expr.now)) c.in-None.is c.in_ok-known.ensures))

pub returns-in-Some : goal.returns-in-Some
returns-in-Some c =
    c.natural.ensures
    ∙ sym (number-known c.args.scope.now (expression_of c.args.expr.now) c.in-Some.known (subst (IsRead c.args.scope.now (expression_of c.args.expr.now)) c.in-Some.is c.in_ok-known.ensures))
