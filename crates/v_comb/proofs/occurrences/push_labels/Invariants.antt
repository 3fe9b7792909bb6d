use Rattle.std.proofs.Common.{◌≡◌, ◌++◌, flat_map, take}
use Rattle.v_comb.specs.Occurrences.{listed, label_names_of_item}
use Rattle.v_comb.proofs.occurrences.push_labels.Given as goal

abbrev pub invariant-items : goal.invariant-items
invariant-items l = listed l.names.items ≡ listed l.initial.names.items ++ flat_map label_names_of_item (take l.item-index l.items)
