-- Instances of the code whose items are walked.
use Rattle.std.specs.Prelude.{◌≡◌, option_map}
use Rattle.v_tree.specs.Trees.{Identifier, has_name}
use Rattle.v_names.specs.Scopes.{Scope, looked_up, is_parameter}
use Rattle.v_names.specs.Names.{names_declared, of_name}
use Rattle.v_elab.specs.Blocks.{parameter_names}
use Rattle.v_elab.specs.Walk as plain
use Rattle.v_elab.specs.Walk.{joining_of}
use Rattle.module_scope.specs.Kept.{kept}
use Rattle.module_scope.specs.Declarations.{declaration_seen, listed}
use Rattle.elab_items.specs.Joins.{joining_seen}
use Rattle.elab_items.specs.declared.here.Here.{Here}

-- whether the parameters of a scope are found by their names
abbrev pub FindsParameters : Scope → Type 0
FindsParameters scope = (name : Identifier) → has_name (parameter_names scope) name ≡ is_parameter (looked_up scope name)

pub record IsHere (h : plain.Here) (here : Here) : Type 0 where
  pub mode_is : here.mode ≡ h.mode
  pub path_is : here.path.value ≡ h.instance.path
  pub depth_is : here.depth ≡ h.instance.depth
  pub scope_is : here.scope.value ≡ h.scope
  pub joins_are : (name : Identifier) → option_map joining_seen (kept here.joins name) ≡ joining_of h.instance.joins name
  pub declared_are : (name : Identifier) → of_name name (names_declared h.instance.inner) ≡ listed (option_map declaration_seen (kept here.declared name))
  pub parameters_are : FindsParameters h.scope
