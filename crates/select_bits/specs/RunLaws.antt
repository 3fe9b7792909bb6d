-- A select of which nothing is wrong takes a run of its signal's bits (IEEE 1364-2001, clause 4.2.1).
use Rattle.std.proofs.Common.{◌≡◌, ℕ, ◌≤◌, Bool, true, false, ◌&&◌, List, [], ◌∷◌, ◌++◌, Option, Some, None, nat_le, refl}
use Rattle.std.proofs.lemmas.Bool.{leb-true}
use Rattle.vf_base.specs.Base.{SourcePlace}
use Rattle.v_design.specs.Sized.{most_bits, span}
use Rattle.v_tree.specs.Trees.{Identifier, SourceIndex, NoIndex, IndexAt, IndexRange}
use Rattle.v_names.specs.Faults.{Fault}
use Rattle.v_names.specs.Scopes.{DeclaredRange, ScopeEntry, ParameterEntry, RefusedParameter, WaitingParameter, NetEntry, RegEntry, MemoryEntry, GateEntry, InstanceEntry, Scope, looked_up}
use Rattle.v_names.specs.SizedTrees.{SizedExpression}
use Rattle.v_names.specs.SizedLaws.{and-right}
use Rattle.v_names.specs.Readings.{Size, sized_if, runs_alike, part_if, part_reading, ranged_reading, alone_faults, reading_of, select_reading, number_of_constant}
use Rattle.v_names.specs.Constants.{known_faults}
use Rattle.v_width.specs.Targets.{range_of_entry}
use Rattle.select_bits.specs.Runs.{BoundsTakeRun, IndexTakesRun}

passes : (test : Bool) (place : SourcePlace) (size : Size) (complete : Bool) (inside : List Fault) (tree : ℕ → Bool → SizedExpression) →
    (sized_if test place size complete inside tree).here ≡ [] → test ≡ true
passes true place size complete inside tree e = refl
passes false place size complete inside tree e = absurd (cc)

part-takes : (alike : Bool) (place : SourcePlace) (name : Identifier) (inside : List Fault) (from to : ℕ) → (part_if alike place name inside from to).here ≡ [] →
    (alike ≡ true) × (span from to ≤ most_bits)
part-takes true place name inside from to e =
    let fits = passes (nat_le 1 (span from to) && nat_le (span from to) most_bits) place _ true inside _ e in
    (refl, leb-true (span from to) most_bits (and-right (nat_le 1 (span from to)) (nat_le (span from to) most_bits) fits))
part-takes false place name inside from to e = absurd (cc)

range-takes : (ranged : Bool) (range : DeclaredRange) (place : SourcePlace) (name : Identifier) (inside : List Fault) (from to : Option ℕ) →
    (part_reading ranged range place name inside from to).here ≡ [] → BoundsTakeRun range from to
range-takes true range place name inside None to e = tt
range-takes true range place name inside (Some from) None e = tt
range-takes true range place name inside (Some from) (Some to) e = part-takes (runs_alike range from to) place name inside from to e
range-takes false range place name inside from to e = absurd (cc)

bounds-take : (entry : Option ScopeEntry) (place : SourcePlace) (name : Identifier) (inside : List Fault) (from to : Option ℕ) → known_faults entry place ≡ [] →
    (ranged_reading entry place name inside from to).here ≡ [] → BoundsTakeRun (range_of_entry entry) from to
bounds-take None place name inside from to known e = absurd (cc)
bounds-take (Some (NetEntry range signed)) place name inside from to known e = range-takes range.ranged range place name inside from to e
bounds-take (Some (RegEntry range signed)) place name inside from to known e = range-takes range.ranged range place name inside from to e
bounds-take (Some (MemoryEntry range first last signed)) place name inside from to known e = absurd (cc)
bounds-take (Some (ParameterEntry value signed)) place name inside from to known e = absurd (cc)
bounds-take (Some RefusedParameter) place name inside from to known e = absurd (cc)
bounds-take (Some WaitingParameter) place name inside from to known e = absurd (cc)
bounds-take (Some GateEntry) place name inside from to known e = absurd (cc)
bounds-take (Some InstanceEntry) place name inside from to known e = absurd (cc)

-- a declared name with an index that fits it
pub select-takes : (scope : Scope) (place : SourcePlace) (name : Identifier) (index : SourceIndex) → known_faults (looked_up scope name) place ≡ [] →
    (select_reading scope place name index).here ≡ [] → IndexTakesRun scope (range_of_entry (looked_up scope name)) index
select-takes scope place name NoIndex known e = tt
select-takes scope place name (IndexAt index) known e = tt
select-takes scope place name (IndexRange from to) known e =
    bounds-take (looked_up scope name) place name (alone_faults (reading_of scope from) ++ alone_faults (reading_of scope to)) (number_of_constant scope from) (number_of_constant scope to) known e
