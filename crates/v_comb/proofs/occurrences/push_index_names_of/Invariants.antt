use Rattle.std.proofs.Common.{◌≡◌, ◌++◌, flat_map, take}
use Rattle.v_comb.specs.Occurrences.{listed, index_names_of_select}
use Rattle.v_comb.proofs.occurrences.push_index_names_of.Given as goal

abbrev pub invariant-selects : goal.invariant-selects
invariant-selects l = listed l.names.items ≡ listed l.initial.names.items ++ flat_map index_names_of_select (take l.select-index l.selects)
