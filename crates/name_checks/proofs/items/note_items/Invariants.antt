use Rattle.std.proofs.Common.{◌≡◌, drop, map, flat_map}
use Rattle.v_names.specs.Names.{item_name_faults}
use Rattle.v_tree.specs.Views.{item_of}
use Rattle.name_checks.specs.Noted.{noted}
use Rattle.name_checks.proofs.items.note_items.Given as goal

abbrev pub invariant-items : goal.invariant-items
invariant-items l = noted l.first (flat_map (item_name_faults l.scope) (map item_of (drop l.item-index l.items))) ≡ noted l.initial.first (flat_map (item_name_faults l.scope) (map item_of l.items))
