use Rattle.std.proofs.Common.{◌≡◌, option_map, map, drop}
use Rattle.v_tree.specs.Trees.{Identifier}
use Rattle.v_tree.specs.Views.{module_of}
use Rattle.v_elab.specs.Walk.{module_named}
use Rattle.module_scope.specs.Kept.{kept}
use Rattle.elab_walk.specs.ModuleViews.{module_seen}
use Rattle.elab_walk.proofs.modules.Modules.new.Given as goal

abbrev pub invariant-modules : goal.invariant-modules
invariant-modules l = (name : Identifier) → option_map module_seen (kept l.by_name name) ≡ module_named (map module_of (drop l.place l.modules)) name
