-- Whole nets that are assigned where they are declared.
use Rattle.std.proofs.Common.{◌≡◌, ℕ, Bool, true, false, not, ◌&&◌, List, [], ◌∷◌, ◌++◌, Option, Some, None, nat_le, refl, sym, ap₂, subst, ◌∙◌}
use Rattle.vf_base.specs.Base.{SourcePlace}
use Rattle.v_design.specs.Sized.{most_bits}
use Rattle.v_tree.specs.Trees.{Identifier}
use Rattle.v_names.specs.Faults.{Fault, BadWidth, fault_if}
use Rattle.v_names.specs.Scopes.{ScopeEntry, ParameterEntry, RefusedParameter, WaitingParameter, NetEntry, RegEntry, MemoryEntry, GateEntry, InstanceEntry, Scope, looked_up, range_width}
use Rattle.v_names.specs.SizedTrees.{SizedExpression}
use Rattle.v_names.specs.Readings.{Size, Reading, sized_if, name_reading}
use Rattle.v_width.specs.Targets.{ByNode, may_write, written_reading, target_reading}
use Rattle.v_width.specs.Summaries.{AreFaults}
use Rattle.v_width.specs.declared.faults.Faults.{Faults}
use Rattle.item_checks.specs.Wholes.{whole_target, whole_net_faults}

sized-here : (fits : Bool) (place : SourcePlace) (size : Size) (tree : ℕ → Bool → SizedExpression) → (sized_if fits place size true [] tree).here ++ [] ≡ fault_if (not fits) place BadWidth
sized-here true place size tree = refl
sized-here false place size tree = refl

sized-inside : (fits : Bool) (place : SourcePlace) (size : Size) (tree : ℕ → Bool → SizedExpression) → (sized_if fits place size true [] tree).inside ++ [] ≡ []
sized-inside true place size tree = refl
sized-inside false place size tree = refl

abbrev whole_reading : Option ScopeEntry → SourcePlace → Identifier → Reading
whole_reading entry place name = written_reading (may_write ByNode entry) place (name_reading entry place name)

here-is : (entry : Option ScopeEntry) (place : SourcePlace) (name : Identifier) → (whole_reading entry place name).here ++ [] ≡ whole_net_faults entry place
here-is None place name = refl
here-is (Some (ParameterEntry value signed)) place name = refl
here-is (Some RefusedParameter) place name = refl
here-is (Some WaitingParameter) place name = refl
here-is (Some (NetEntry range signed)) place name = sized-here (nat_le 1 (range_width range) && nat_le (range_width range) most_bits) place _ _
here-is (Some (RegEntry range signed)) place name = refl
here-is (Some (MemoryEntry range first last signed)) place name = refl
here-is (Some GateEntry) place name = refl
here-is (Some InstanceEntry) place name = refl

inside-is : (entry : Option ScopeEntry) (place : SourcePlace) (name : Identifier) → (whole_reading entry place name).inside ++ [] ≡ []
inside-is None place name = refl
inside-is (Some (ParameterEntry value signed)) place name = sized-inside _ place _ _
inside-is (Some RefusedParameter) place name = refl
inside-is (Some WaitingParameter) place name = refl
inside-is (Some (NetEntry range signed)) place name = sized-inside (nat_le 1 (range_width range) && nat_le (range_width range) most_bits) place _ _
inside-is (Some (RegEntry range signed)) place name = sized-inside _ place _ _
inside-is (Some (MemoryEntry range first last signed)) place name = refl
inside-is (Some GateEntry) place name = refl
inside-is (Some InstanceEntry) place name = refl

-- what is wrong with a whole net, as with a target
pub whole-are : (scope : Scope) (name : Identifier) (place : SourcePlace) (faults : Faults) → AreFaults (whole_net_faults (looked_up scope name) place) [] faults
    → AreFaults (target_reading ByNode scope (whole_target name place)).here (target_reading ByNode scope (whole_target name place)).inside faults
whole-are scope name place faults are =
    let here : whole_net_faults (looked_up scope name) place ≡ (target_reading ByNode scope (whole_target name place)).here = sym (here-is (looked_up scope name) place name) in
    let inside : [] ≡ (target_reading ByNode scope (whole_target name place)).inside = sym (inside-is (looked_up scope name) place name) in
    subst (λ (lists : List Fault × List Fault). AreFaults lists.0 lists.1 faults) (ap₂ (λ (x y : List Fault). (x, y)) here inside) are
