use Rattle.std.proofs.Common.{◌≡◌, take, map}
use Rattle.v_comb.proofs.name_table.NameTable.texts.Given as goal

abbrev pub invariant-loop-name : goal.invariant-loop-name
invariant-loop-name l = l.texts.items ≡ map (λ name. name.now) (take l.name-index l.name-items)
