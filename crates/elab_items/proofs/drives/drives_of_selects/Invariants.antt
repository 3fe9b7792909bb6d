use Rattle.std.proofs.Common.{◌≡◌, ◌++◌, map, drop}
use Rattle.v_tree.specs.Views.{select_of}
use Rattle.elab_parts.specs.PartViews as views
use Rattle.select_bits.specs.Runs.{TakeRuns}
use Rattle.elab_items.specs.Drives.{drives_of_selects}
use Rattle.elab_items.proofs.drives.drives_of_selects.Given as goal

abbrev pub invariant-selects : goal.invariant-selects
invariant-selects l = TakeRuns l.scope (map select_of l.selects) →
    views.drives_of l.drives.items ++ drives_of_selects l.path l.scope (map select_of (drop l.select-index l.selects)) ≡ drives_of_selects l.path l.scope (map select_of l.selects)
