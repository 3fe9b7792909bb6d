-- The modules of a text by their names.
use Rattle.std.specs.Prelude.{◌≡◌, List, option_map}
use Rattle.std.specs.Borrow.{Bor}
use Rattle.v_tree.specs.Trees.{Identifier, SourceModule}
use Rattle.v_tree.specs.Views.{module_of}
use Rattle.v_tree.specs.declared.item.Module.{Module}
use Rattle.v_elab.specs.Walk.{module_named}
use Rattle.module_scope.specs.Kept.{kept}
use Rattle.elab_walk.specs.declared.modules.Modules.{Modules}

abbrev pub module_seen : Bor Module → SourceModule
module_seen m = module_of m.now

-- the first module of each name is found
pub record AreModules (all : List SourceModule) (modules : Modules) : Type 0 where
  pub named_are : (name : Identifier) → option_map module_seen (kept modules.by_name name) ≡ module_named all name
