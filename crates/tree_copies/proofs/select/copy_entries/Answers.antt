use Rattle.std.proofs.Common.{map, ap, ◌∙◌}
use Rattle.v_tree.specs.Views.{entry_of}
use Rattle.tree_copies.specs.Turns.{one-more}
use Rattle.tree_copies.proofs.select.copy_entries.Goals as goal

pub entries-preserved : goal.entries-preserved
entries-preserved c =
    ap (map entry_of) c.in_ok-push.ensures.items
    ∙ one-more entry_of c.args.entries.now c.entries.copies.items c.entries.entry-index c.entry-item.result c.in_ok-copy.copy c.entries-test.true c.entry-item.is c.in_ok-copy.ensures
    c.entries.invariant
