-- The module of an instance, as the code keeps it.
use Rattle.std.specs.Prelude.{◌≡◌, ℕ, Option, Some, None}
use Rattle.v_names.specs.Scopes.{ScopeEntry, NetEntry, RegEntry, range_width}
use Rattle.v_elab.specs.Connections as plain
use Rattle.instance_checks.specs.declared.actuals.Child.{Child}
use Rattle.instance_checks.specs.Offered.{AreFormals}

pub record IsChild (c : plain.Child) (child : Child) : Type 0 where
  pub formals_are : AreFormals c.inner child.formals.now
  pub inner_is : child.inner.now ≡ c.inner_scope
  pub outer_is : child.outer.now ≡ c.outer_scope

-- the width of a net or a variable; none of anything else
abbrev pub vector_width : Option ScopeEntry → Option ℕ
vector_width (Some (NetEntry range signed)) = Some (range_width range)
vector_width (Some (RegEntry range signed)) = Some (range_width range)
vector_width _ = None
