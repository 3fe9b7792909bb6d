-- Faults of names as faults of the walk.
use Rattle.module_scope.specs.declared.module_scope.NameFault.{NameFault}
use Rattle.module_scope.specs.declared.module_scope.NameFault.TheVariants as wrong
use Rattle.elab_walk.specs.declared.fault.WalkFault.{WalkFault}
use Rattle.elab_walk.specs.declared.fault.WalkFault.TheVariants as faults

abbrev pub of_name_fault : NameFault → WalkFault
of_name_fault (wrong.Found found) = faults.Found found
of_name_fault wrong.NoMemory = faults.NoMemory
