use Rattle.std.proofs.Common.{◌≡◌, ◌++◌, flat_map, take}
use Rattle.v_comb.specs.Occurrences.{listed, select_name}
use Rattle.v_comb.proofs.occurrences.push_select_names.Given as goal

abbrev pub invariant-selects : goal.invariant-selects
invariant-selects l = listed l.names.items ≡ listed l.initial.names.items ++ flat_map select_name (take l.select-index l.selects)
