-- What a declared name means where an instance gives it a value or none.
use Rattle.std.proofs.Common.{◌≡◌, Bool, true, false, ◌||◌, List, Option, Some, None, refl}
use Rattle.v_tree.specs.Trees.{Identifier, SourceExpression}
use Rattle.v_names.specs.Scopes.{SignedValue, DeclaredRange, ScopeEntry, WaitingParameter, GateEntry, InstanceEntry, Scope}
use Rattle.v_names.specs.Names.{Declared, DeclaredParameter, DeclaredPort, DeclaredNet, DeclaredReg, DeclaredMemory, DeclaredGate, DeclaredInstance, GivenParameter, given_of, parameter_of, range_of}
use Rattle.v_names.specs.Readings.{constant_of}
use Rattle.v_names.specs.Constants.{some_waiting}
use Rattle.v_names.specs.Names.{Bounds, bound_number, bounds_wait, declared_bounds, parameter_entry, waiting_or, context_width, vector_entry, memory_entry, meaning_of}
use Rattle.module_scope.specs.Ranges.{unless_waiting, range_once_known}

abbrev pub meaning_with : Scope → Option SignedValue → Declared → ScopeEntry
meaning_with scope given (DeclaredParameter is_local signed bounds value) = parameter_of scope signed bounds value given
meaning_with scope given (DeclaredPort direction is_reg signed bounds first) = vector_entry is_reg (range_of scope bounds) signed
meaning_with scope given (DeclaredNet signed bounds) = vector_entry false (range_of scope bounds) signed
meaning_with scope given (DeclaredReg signed bounds first) = vector_entry true (range_of scope bounds) signed
meaning_with scope given (DeclaredMemory signed bounds addresses) = memory_entry (range_of scope bounds) (bound_number scope addresses.high) (bound_number scope addresses.low) signed
meaning_with scope given DeclaredGate = GateEntry
meaning_with scope given DeclaredInstance = InstanceEntry

-- what a parameter means by its range, which isn't there while it waits
abbrev pub parameter_by : Scope → Bool → Option DeclaredRange → SourceExpression → Option SignedValue → ScopeEntry
parameter_by scope signed None value given = WaitingParameter
parameter_by scope signed (Some range) value (Some c) = parameter_entry signed range (Some c)
parameter_by scope signed (Some range) value None = waiting_or (some_waiting scope value) (parameter_entry signed range (constant_of scope (context_width range) value))

-- what a declared name means by its range
abbrev pub meaning_by : Scope → Option SignedValue → Declared → Bool → DeclaredRange → ScopeEntry
meaning_by scope given (DeclaredParameter is_local signed bounds value) waits range = parameter_by scope signed (unless_waiting waits range) value given
meaning_by scope given (DeclaredPort direction is_reg signed bounds first) waits range = vector_entry is_reg range signed
meaning_by scope given (DeclaredNet signed bounds) waits range = vector_entry false range signed
meaning_by scope given (DeclaredReg signed bounds first) waits range = vector_entry true range signed
meaning_by scope given (DeclaredMemory signed bounds addresses) waits range = memory_entry range (bound_number scope addresses.high) (bound_number scope addresses.low) signed
meaning_by scope given DeclaredGate waits range = GateEntry
meaning_by scope given DeclaredInstance waits range = InstanceEntry

given-by : (scope : Scope) (signed waits : Bool) (range : DeclaredRange) (value : SourceExpression) (c : SignedValue) →
    parameter_by scope signed (unless_waiting waits range) value (Some c) ≡ waiting_or waits (parameter_entry signed range (Some c))
given-by scope signed true range value c = refl
given-by scope signed false range value c = refl

own-by : (scope : Scope) (signed waits : Bool) (range : DeclaredRange) (value : SourceExpression) →
    parameter_by scope signed (unless_waiting waits range) value None ≡ waiting_or (waits || some_waiting scope value) (parameter_entry signed range (constant_of scope (context_width range) value))
own-by scope signed true range value = refl
own-by scope signed false range value = refl

pub parameter-by : (scope : Scope) (signed : Bool) (bounds : Bounds) (value : SourceExpression) (given : Option SignedValue) →
    parameter_by scope signed (range_once_known scope bounds) value given ≡ parameter_of scope signed bounds value given
parameter-by scope signed bounds value (Some c) = given-by scope signed (bounds_wait scope bounds) (range_of scope bounds) value c
parameter-by scope signed bounds value None = own-by scope signed (bounds_wait scope bounds) (range_of scope bounds) value

pub meaning-by : (scope : Scope) (given : Option SignedValue) (d : Declared) →
    meaning_by scope given d (bounds_wait scope (declared_bounds d)) (range_of scope (declared_bounds d)) ≡ meaning_with scope given d
meaning-by scope given (DeclaredParameter is_local signed bounds value) = parameter-by scope signed bounds value given
meaning-by scope given (DeclaredPort direction is_reg signed bounds first) = refl
meaning-by scope given (DeclaredNet signed bounds) = refl
meaning-by scope given (DeclaredReg signed bounds first) = refl
meaning-by scope given (DeclaredMemory signed bounds addresses) = refl
meaning-by scope given DeclaredGate = refl
meaning-by scope given DeclaredInstance = refl

pub meaning-is : (scope : Scope) (given : List GivenParameter) (name : Identifier) (d : Declared) → meaning_of scope given name d ≡ meaning_with scope (given_of given name) d
meaning-is scope given name (DeclaredParameter is_local signed bounds value) = refl
meaning-is scope given name (DeclaredPort direction is_reg signed bounds first) = refl
meaning-is scope given name (DeclaredNet signed bounds) = refl
meaning-is scope given name (DeclaredReg signed bounds first) = refl
meaning-is scope given name (DeclaredMemory signed bounds addresses) = refl
meaning-is scope given name DeclaredGate = refl
meaning-is scope given name DeclaredInstance = refl
