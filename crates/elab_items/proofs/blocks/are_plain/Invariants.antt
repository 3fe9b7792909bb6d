use Rattle.std.proofs.Common.{◌≡◌, map, drop}
use Rattle.std.specs.List.{list_all}
use Rattle.v_tree.specs.Views.{entry_of}
use Rattle.v_elab.specs.Blocks.{is_plain_entry}
use Rattle.elab_items.proofs.blocks.are_plain.Given as goal

abbrev pub invariant-entries : goal.invariant-entries
invariant-entries l = list_all is_plain_entry (map entry_of (drop l.entry-index l.entries)) ≡ list_all is_plain_entry (map entry_of l.entries)
