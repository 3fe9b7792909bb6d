-- When a fault is answered in place of a scope.
use Rattle.std.specs.Prelude.{◌≡◌, Result, Err}
use Rattle.v_names.specs.Faults.{Fault}
use Rattle.v_names.specs.FaultViews.{fault_of}
use Rattle.v_names.specs.Scopes.{Scope}
use Rattle.module_scope.specs.declared.module_scope.NameFault.{NameFault}
use Rattle.module_scope.specs.declared.module_scope.NameFault.TheVariants.{Found, NoMemory}

-- the fault that is wanted; want of memory may come at any time
abbrev pub IsNameFault : Result Scope Fault → NameFault → Type 0
IsNameFault wanted (Found found) = wanted ≡ Err (fault_of found)
IsNameFault wanted NoMemory = Unit {0}
