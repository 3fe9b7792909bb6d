use Rattle.std.proofs.Common.{◌≡◌, drop}
use Rattle.v_tree.specs.Views.{case_items_of}
use Rattle.v_comb.specs.Flags.{has_default}
use Rattle.v_comb.proofs.assigned.has_default_item.Given as goal

abbrev pub invariant-items : goal.invariant-items
invariant-items l = has_default (case_items_of (drop l.item-index l.items)) ≡ has_default (case_items_of l.items)
