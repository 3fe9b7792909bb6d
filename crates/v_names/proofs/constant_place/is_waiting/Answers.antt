use Rattle.std.proofs.Common.{not, ap, ◌∙◌}
use Rattle.v_tree.specs.Trees.{named_in}
use Rattle.v_tree.specs.Views.{expression_of}
use Rattle.v_names.proofs.AskedLaws.{waiting-pass}
use Rattle.v_names.proofs.constant_place.is_waiting.Goals as goal

pub returns : goal.returns
returns c = ap not c.all_pass.ensures ∙ waiting-pass c.args.scope.now (named_in (expression_of c.args.expr.now))
