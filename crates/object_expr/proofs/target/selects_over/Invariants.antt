use Rattle.std.proofs.Common.{◌≡◌, map, take}
use Rattle.v_design.specs.Plain.{target_of}
use Rattle.v_tree.specs.Views.{select_of}
use Rattle.v_elab.specs.Statements.{Meaning}
use Rattle.object_expr.specs.Meanings.{IsMeaning, select_over}
use Rattle.object_expr.proofs.target.selects_over.Given as goal

abbrev pub invariant-selects : goal.invariant-selects
invariant-selects l = (meaning : Meaning) → IsMeaning meaning l.scope l.names → map target_of l.flats.items ≡ map (select_over meaning) (map select_of (take l.select-index l.selects))
