use Rattle.std.proofs.Common.{◌≡◌, ◌++◌, flat_map, take}
use Rattle.v_comb.specs.Occurrences.{listed, part_names_of}
use Rattle.v_comb.proofs.assigned.push_part_names_of.Given as goal

abbrev pub invariant-selects : goal.invariant-selects
invariant-selects l = listed l.names.items ≡ listed l.initial.names.items ++ flat_map part_names_of (take l.select-index l.selects)
