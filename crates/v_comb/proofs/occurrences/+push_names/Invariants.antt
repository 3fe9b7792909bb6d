use Rattle.std.proofs.Common.{◌≡◌, ◌++◌, flat_map, take}
use Rattle.v_comb.specs.Occurrences.{listed, names_of_expr}
use Rattle.v_comb.proofs.occurrences.+push_names.Given as goal

abbrev pub invariant-push_part_names-parts : goal.invariant-push_part_names-parts
invariant-push_part_names-parts l = listed l.names.items ≡ listed l.initial.names.items ++ flat_map names_of_expr (take l.part-index l.parts)
