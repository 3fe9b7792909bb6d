use Rattle.std.proofs.Common.{map, drop}
use Rattle.v_tree.specs.Views.{module_of}
use Rattle.elab_walk.proofs.Named.{AreEarlier}
use Rattle.elab_walk.proofs.modules.second_module.Given as goal

abbrev pub invariant-modules : goal.invariant-modules
invariant-modules l = AreEarlier l.earlier (map module_of (drop l.module-index l.unit.modules)) (map module_of l.unit.modules)
