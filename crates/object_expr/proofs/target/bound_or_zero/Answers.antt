use Rattle.std.proofs.Common.{◌≡◌, Some, sym, ◌∙◌, arith}
use Rattle.v_tree.specs.Views.{expression_of}
use Rattle.v_names.specs.Readings.{number_of_constant}
use Rattle.object_expr.proofs.target.bound_or_zero.Goals as goal

pub overflow_cast-kept : goal.overflow_cast-kept
overflow_cast-kept c =
    let is : number_of_constant c.args.scope.now (expression_of c.args.bound.now) ≡ Some c.in-Some.number = sym c.in_ok-number_of_constant.ensures ∙ c.in-Some.is in
    let few = c.requires c.in-Some.number is in
    omega (arith, few)
