use Rattle.std.proofs.Common.{◌∙◌}
use Rattle.v_tree.specs.Trees.{named_in}
use Rattle.v_tree.specs.Views.{expression_of}
use Rattle.v_names.proofs.AskedLaws.{parameters-pass}
use Rattle.v_names.proofs.constant_place.are_parameters.Goals as goal

pub returns : goal.returns
returns c = c.all_pass.ensures ∙ parameters-pass c.args.scope.now (named_in (expression_of c.args.expr.now))
