use Rattle.std.proofs.Common.{◌≡◌, take}
use Rattle.v_tree.specs.Trees.{Identifier, has_name}
use Rattle.v_comb.proofs.form.table_of.Given as goal

abbrev pub invariant-texts : goal.invariant-texts
invariant-texts l = (name : Identifier) → has_name l.table name ≡ has_name (take l.text-index l.texts) name
