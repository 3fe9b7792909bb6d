use Rattle.std.proofs.Common.{◌≡◌, ◌++◌, Option, Some, None, sym, ap, ap₂, ◌∙◌}
use Rattle.v_tree.specs.Trees.{Identifier}
use Rattle.v_tree.specs.declared.item.Direction.{Direction}
use Rattle.v_tree.specs.declared.item.Direction.TheVariants.{Output}
use Rattle.v_tree.specs.Views.{expression_of}
use Rattle.v_elab.specs.Connections.{joined_name, port_direction, actual_parts}
use Rattle.elab_parts.specs.PartViews.{parts_of}
use Rattle.elab_connections.proofs.OutputLaws.{none-named, actual-output}
use Rattle.elab_connections.proofs.assigned.push_actual.Goals as goal

pub returns-in_ok-push_output-in-Some-Output : goal.returns-in_ok-push_output-in-Some-Output
returns-in_ok-push_output-in-Some-Output c child are narrow takes p paths =
    let e = expression_of c.args.expr.now in
    let none : joined_name child c.args.port.now e ≡ None = sym (c.joined_name.ensures child are) ∙ none-named c.joined_name.result (sym c.is_some.ensures ∙ c.if-is_some.false) in
    let output : port_direction child.inner c.args.port.now ≡ Some Output = sym (c.direction.ensures child.inner are.formals_are) ∙ c.in-Some-Output.is ∙ ap Some c.in-Some-Output.field-0-is in
    c.in_ok-push_output-in-Some-Output.ensures child are (actual-output child.outer_scope e _ _ none output takes) p paths
    ∙ ap₂ (λ (joined : Option Identifier) (direction : Option Direction). parts_of c.args.parts.now.items ++ actual_parts child p c.args.port.now e joined direction) (sym none) (sym output)
