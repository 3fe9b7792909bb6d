use Rattle.std.proofs.Common.{◌≡◌, map, take}
use Rattle.v_tree.specs.Views.{entry_of}
use Rattle.tree_copies.proofs.select.copy_entries.Given as goal

abbrev pub invariant-entries : goal.invariant-entries
invariant-entries l = map entry_of l.copies.items ≡ map entry_of (take l.entry-index l.entries)
