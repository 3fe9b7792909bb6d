use Rattle.std.proofs.Common.{◌≡◌, drop, map}
use Rattle.std.specs.List.{list_all}
use Rattle.v_tree.specs.Trees.{has_name}
use Rattle.v_comb.proofs.name_table.NameTable.are_among.Given as goal

abbrev pub invariant-names : goal.invariant-names
invariant-names l = list_all (has_name l.other) (map (λ name. name.now) (drop l.name-index l.name-items)) ≡ list_all (has_name l.other) (map (λ name. name.now) l.name-items)
