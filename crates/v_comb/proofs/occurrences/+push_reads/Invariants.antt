use Rattle.std.proofs.Common.{◌≡◌, ◌++◌, flat_map, take}
use Rattle.v_comb.specs.Occurrences.{listed, names_read_of, names_read_of_item}
use Rattle.v_comb.proofs.occurrences.+push_reads.Given as goal

abbrev pub invariant-push_all_reads-statements : goal.invariant-push_all_reads-statements
invariant-push_all_reads-statements l = listed l.names.items ≡ listed l.initial.names.items ++ flat_map names_read_of (take l.stmt-index l.statements)

abbrev pub invariant-push_items_reads-items : goal.invariant-push_items_reads-items
invariant-push_items_reads-items l = listed l.names.items ≡ listed l.initial.names.items ++ flat_map names_read_of_item (take l.item-index l.items)
