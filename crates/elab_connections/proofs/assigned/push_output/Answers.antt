use Rattle.std.proofs.Common.{◌≡◌, [], ◌∷◌, ◌++◌, Option, Some, option_map, sym, ap, subst, ◌∙◌}
use Rattle.std.proofs.lemmas.List.{map_push}
use Rattle.v_tree.specs.Trees.{SourceTarget}
use Rattle.v_tree.specs.Views.{expression_of, target_of}
use Rattle.v_width.specs.Targets as targets
use Rattle.v_elab.specs.Parts.{Part}
use Rattle.v_elab.specs.Connections.{output_parts}
use Rattle.elab_parts.specs.PartViews.{part_of, parts_of}
use Rattle.elab_connections.specs.OutputRuns.{OutputTakesRuns}
use Rattle.elab_connections.proofs.assigned.push_output.Goals as goal

pub returns-in_ok-push-in-Some : goal.returns-in_ok-push-in-Some
returns-in_ok-push-in-Some c child are takes p paths =
    let old = parts_of c.args.parts.now.items in
    let spelled : Some (target_of c.in-Some.target) ≡ targets.target_of (expression_of c.args.expr.now) = ap (option_map target_of) (sym c.in-Some.is) ∙ c.in_ok-target_of.ensures in
    ap parts_of c.in_ok-push-in-Some.ensures.items ∙ map_push part_of c.args.parts.now.items c.in_ok-output_part-in-Some.field-0
    ∙ ap (λ (part : Part). old ++ part ∷ []) (c.in_ok-output_part-in-Some.ensures child are (subst (OutputTakesRuns child.outer_scope) (sym spelled) takes) p paths)
    ∙ ap (λ (t : Option SourceTarget). old ++ output_parts child p c.args.port.now (expression_of c.args.expr.now) t) spelled
