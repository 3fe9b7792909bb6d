use Rattle.std.proofs.Common.{List, [], ◌∷◌, ◌++◌, map, refl, ap, ◌∙◌}
use Rattle.std.proofs.lemmas.List.{map_push}
use Rattle.v_tree.specs.Views.{select_of}
use Rattle.v_tree.specs.declared.expression.Select.{Select}
use Rattle.v_elab.specs.Parts.{Drive}
use Rattle.name_checks.specs.Rows.{list-more}
use Rattle.elab_parts.specs.PartViews as views
use Rattle.select_bits.specs.Runs.{TakesRun}
use Rattle.elab_items.specs.Drives.{drive_of_select, drives_of_selects}
use Rattle.elab_items.proofs.Rows.{list-done, holds-of}
use Rattle.elab_items.proofs.drives.drives_of_selects.Goals as goal

pub selects-preserved : goal.selects-preserved
selects-preserved c takes =
    list-more (λ (s : Select). drive_of_select c.args.path.now c.args.scope.now (select_of s) ∷ [])
    (λ (xs : List Select). drives_of_selects c.args.path.now c.args.scope.now (map select_of xs)) c.args.selects.now c.selects.select-index c.select-item.result
    (views.drives_of c.selects.drives.items) (views.drives_of c.push.new.self.items) _ (λ y ys. refl) c.selects-test.true c.select-item.is
    (ap views.drives_of c.in_ok-push.ensures.items ∙ map_push views.drive_of c.selects.drives.items c.in_ok-drive.drive
    ∙ ap (λ (d : Drive). views.drives_of c.selects.drives.items ++ d ∷ []) (c.in_ok-drive.ensures
    (holds-of (TakesRun c.args.scope.now) select_of c.args.selects.now c.selects.select-index c.select-item.result takes c.selects-test.true c.select-item.is)))
    (c.selects.invariant takes)

pub returns : goal.returns
returns c takes =
    ap views.drives_of c.from_vec.ensures
    ∙ list-done (λ (xs : List Select). drives_of_selects c.args.path.now c.args.scope.now (map select_of xs)) c.args.selects.now c.selects.select-index (views.drives_of c.selects.drives.items) _ refl
    c.selects-test.false (c.selects.invariant takes)
