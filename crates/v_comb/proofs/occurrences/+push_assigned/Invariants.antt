use Rattle.std.proofs.Common.{◌≡◌, ◌++◌, flat_map, take}
use Rattle.v_comb.specs.Occurrences.{listed, assigned_names_of, assigned_names_of_item}
use Rattle.v_comb.proofs.occurrences.+push_assigned.Given as goal

abbrev pub invariant-push_all_assigned-statements : goal.invariant-push_all_assigned-statements
invariant-push_all_assigned-statements l = listed l.names.items ≡ listed l.initial.names.items ++ flat_map assigned_names_of (take l.stmt-index l.statements)

abbrev pub invariant-push_items_assigned-items : goal.invariant-push_items_assigned-items
invariant-push_items_assigned-items l = listed l.names.items ≡ listed l.initial.names.items ++ flat_map assigned_names_of_item (take l.item-index l.items)
