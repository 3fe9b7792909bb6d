-- What the code's scope and names say of the meaning of a process's names (IEEE 1364-2001, clause 12.4 for names).
use Rattle.std.specs.Prelude.{◌≡◌}
use Rattle.v_design.specs.Trees.{Target}
use Rattle.v_tree.specs.Trees.{SourceSelect}
use Rattle.v_names.specs.Scopes.{Scope}
use Rattle.v_elab.specs.Statements.{Meaning, target_by_index}
use Rattle.object_names.specs.declared.instance.InstanceNames.{InstanceNames}
use Rattle.object_names.specs.Instances.{HoldNames}

-- the entries and the objects of the names of an instance
pub record IsMeaning (meaning : Meaning) (scope : Scope) (names : InstanceNames) : Type 0 where
  pub scope_is : meaning.scope ≡ scope
  pub names_are : HoldNames meaning.holders names

-- a select of a target over objects
abbrev pub select_over : Meaning → SourceSelect → Target
select_over meaning select = target_by_index meaning select.name select.index
