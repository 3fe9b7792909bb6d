-- The output terminal of a gate of which nothing is wrong names one bit (IEEE 1364-2001, clause 7.1; clause 4.2.1 for selects).
use Rattle.std.proofs.Common.{◌≡◌, ℕ, zero, suc, ◌+◌, ◌-◌, ◌≤◌, Bool, true, false, not, List, [], ◌∷◌, ◌++◌, length, map, Option, Some, None, refl, sym, ap, ◌∙◌, inl, inr, arith}
use Rattle.std.specs.Prelude.{nat_eq, flat_map, if◌then◌else◌}
use Rattle.std.proofs.lemmas.Bool.{eqb-true}
use Rattle.std.proofs.lemmas.Bool.Decides.{leb_tells}
use Rattle.std.proofs.lemmas.List.{length-map}
use Rattle.vf_base.specs.Base.{SourcePlace}
use Rattle.v_design.specs.Sized.{span}
use Rattle.v_design.specs.Expressions.{up_from, down_from, place_of, part_indexes, part_places}
use Rattle.v_tree.specs.Trees.{Identifier, SourceExpression, SourceIndex, NoIndex, IndexAt, IndexRange, SourceSelect, SourceTarget, OneSelect, JoinedSelects, place_of_target}
use Rattle.v_names.specs.Faults.{BadConnection, Fault}
use Rattle.v_names.specs.Scopes.{DeclaredRange, ScopeEntry, ParameterEntry, RefusedParameter, WaitingParameter, NetEntry, RegEntry, MemoryEntry, GateEntry, InstanceEntry, Scope, looked_up}
use Rattle.v_names.specs.Scopes.{range_width}
use Rattle.v_names.specs.SizedTrees.{SizedExpression}
use Rattle.v_names.specs.Readings.{Size, Reading, alone_faults, sized_if, bit_reading, runs_alike, part_if, part_between, part_reading, name_reading, indexed_reading, ranged_reading, reading_of}
use Rattle.v_names.specs.Readings.{number_of_constant}
use Rattle.v_names.specs.Constants.{IndexOrCount, BoundUpTo, most_bound, value_faults, known_faults, constant_name_faults, constant_faults, fixed_select_faults}
use Rattle.v_names.specs.Names.{names, fixed_target_faults}
use Rattle.v_width.specs.Targets.{ByNode, may_write, written_reading, target_select_reading, TargetReading, width_of_size, sum_of_widths, selects_reading, within_most, target_alone_faults}
use Rattle.v_width.specs.Targets.{range_of_entry, whole_places, places_between, places_of_select}
use Rattle.v_elab.specs.ItemFaults.{is_not_one, output_faults}
use Rattle.v_elab.specs.Drivers.{drives_width}
use Rattle.v_elab.specs.Connections.{drives_of}
use Rattle.v_elab.specs.Parts.{Drive}
use Rattle.flat_laws.specs.Sizes.Complete.{append-none, group-none, fault_if-none, IsSettled, bound_up_to, full-alone, constant-number, constant-names, expression-full}
use Rattle.flat_laws.specs.Sizes.Statements.{within-few}

-- How many places a select has

length-up : (start count : ℕ) → length (up_from start count) ≡ count
length-up start zero = refl
length-up start (suc count) = ap suc (length-up (start + 1) count)

length-down : (start count : ℕ) → length (down_from start count) ≡ count
length-down start zero = refl
length-down start (suc count) = ap suc (length-down (start - 1) count)

whole-length : (width : ℕ) → length (whole_places width) ≡ width
whole-length width = length-map (up_from 0 width) Some ∙ length-up 0 width

-- a part-select has as many places as its bounds span
part-length : (high low from to : ℕ) → length (part_places high low from to) ≡ span from to
part-length high low from to =
    length-map (part_indexes from to) (place_of high low)
    ∙ elim (leb_tells to from) [
      | inl down ↦
          let is = ap length (ap (λ b. if b then up_from to (from - to + 1) else down_from to (to - from + 1)) down.0) in
          let long = length-up to (from - to + 1) in
          let below = down.1 in
          is ∙ long ∙ omega (arith, below)
      | inr up ↦
          let is = ap length (ap (λ b. if b then up_from to (from - to + 1) else down_from to (to - from + 1)) up.0) in
          let long = length-down to (to - from + 1) in
          let above = up.1 in
          is ∙ long ∙ omega (arith, above)
    ]

-- a reading of which nothing is wrong has a width, that a number is within
abbrev Fits : ℕ → Reading → Type 0
Fits count reading = reading.here ≡ [] → reading.inside ≡ [] → (width : ℕ) × (width_of_size reading.size ≡ Some width) × (count ≤ width)

sized-fits : (test : Bool) (place : SourcePlace) (size : Size) (complete : Bool) (inside : List Fault) (tree : ℕ → Bool → SizedExpression) (count : ℕ) → count ≤ size.width →
    Fits count (sized_if test place size complete inside tree)
sized-fits true place size complete inside tree count within = λ h i. (size.width, refl, within)
sized-fits false place size complete inside tree count within = λ h i. absurd (cc)

bit-fits : (ranged : Bool) (place : SourcePlace) (name : Identifier) (index : Reading) → Fits 1 (bit_reading ranged place name index)
bit-fits true place name index = λ h i. (1, refl, omega arith)
bit-fits false place name index = λ h i. absurd (cc)

part-fits : (test : Bool) (range : DeclaredRange) (place : SourcePlace) (name : Identifier) (inside : List Fault) (from to : ℕ) →
    Fits (length (part_places range.high range.low from to)) (part_if test place name inside from to)
part-fits true range place name inside from to = sized-fits _ place _ true inside _ (length (part_places range.high range.low from to)) (omega (arith, part-length range.high range.low from to))
part-fits false range place name inside from to = λ h i. absurd (cc)

between-fits : (range : DeclaredRange) (place : SourcePlace) (name : Identifier) (inside : List Fault) (from to : Option ℕ) → (inside ≡ [] → ((n : ℕ) × (from ≡ Some n)) × ((n : ℕ) × (to ≡ Some n))) →
    Fits (length (places_between range from to)) (part_between range place name inside from to)
between-fits range place name inside None to numbers = λ h i. let n = (numbers i).0.1 in absurd (cc)
between-fits range place name inside (Some from) None numbers = λ h i. let n = (numbers i).1.1 in absurd (cc)
between-fits range place name inside (Some from) (Some to) numbers = part-fits (runs_alike range from to) range place name inside from to

ranged-fits : (ranged : Bool) (range : DeclaredRange) (place : SourcePlace) (name : Identifier) (inside : List Fault) (from to : Option ℕ) →
    (inside ≡ [] → ((n : ℕ) × (from ≡ Some n)) × ((n : ℕ) × (to ≡ Some n))) →
    Fits (length (places_between range from to)) (part_reading ranged range place name inside from to)
ranged-fits true range place name inside from to numbers = between-fits range place name inside from to numbers
ranged-fits false range place name inside from to numbers = λ h i. absurd (cc)

name-fits : (entry : Option ScopeEntry) (place : SourcePlace) (name : Identifier) → known_faults entry place ≡ [] →
    Fits (length (whole_places (range_width (range_of_entry entry)))) (written_reading (may_write ByNode entry) place (name_reading entry place name))
name-fits None place name known = λ h i. absurd (cc)
name-fits (Some (NetEntry range signed)) place name known = sized-fits _ place _ true [] _ (length (whole_places (range_width range))) (omega (arith, whole-length (range_width range)))
name-fits (Some (RegEntry range signed)) place name known = λ h i. absurd (cc)
name-fits (Some (MemoryEntry range first last signed)) place name known = λ h i. absurd (cc)
name-fits (Some (ParameterEntry value signed)) place name known = λ h i. absurd (cc)
name-fits (Some RefusedParameter) place name known = λ h i. absurd (cc)
name-fits (Some WaitingParameter) place name known = λ h i. absurd (cc)
name-fits (Some GateEntry) place name known = λ h i. absurd (cc)
name-fits (Some InstanceEntry) place name known = λ h i. absurd (cc)

index-fits : (entry : Option ScopeEntry) (place : SourcePlace) (name : Identifier) (index : Reading) → known_faults entry place ≡ [] →
    Fits 1 (written_reading (may_write ByNode entry) place (indexed_reading entry place name index))
index-fits None place name index known = λ h i. absurd (cc)
index-fits (Some (NetEntry range signed)) place name index known = bit-fits range.ranged place name index
index-fits (Some (RegEntry range signed)) place name index known = λ h i. absurd (cc)
index-fits (Some (MemoryEntry range first last signed)) place name index known = λ h i. absurd (cc)
index-fits (Some (ParameterEntry value signed)) place name index known = λ h i. absurd (cc)
index-fits (Some RefusedParameter) place name index known = λ h i. absurd (cc)
index-fits (Some WaitingParameter) place name index known = λ h i. absurd (cc)
index-fits (Some GateEntry) place name index known = λ h i. absurd (cc)
index-fits (Some InstanceEntry) place name index known = λ h i. absurd (cc)

range-fits : (entry : Option ScopeEntry) (place : SourcePlace) (name : Identifier) (inside : List Fault) (from to : Option ℕ) → known_faults entry place ≡ [] →
    (inside ≡ [] → ((n : ℕ) × (from ≡ Some n)) × ((n : ℕ) × (to ≡ Some n))) →
    Fits (length (places_between (range_of_entry entry) from to)) (written_reading (may_write ByNode entry) place (ranged_reading entry place name inside from to))
range-fits None place name inside from to known numbers = λ h i. absurd (cc)
range-fits (Some (NetEntry range signed)) place name inside from to known numbers = ranged-fits range.ranged range place name inside from to numbers
range-fits (Some (RegEntry range signed)) place name inside from to known numbers = λ h i. absurd (cc)
range-fits (Some (MemoryEntry range first last signed)) place name inside from to known numbers = λ h i. absurd (cc)
range-fits (Some (ParameterEntry value signed)) place name inside from to known numbers = λ h i. absurd (cc)
range-fits (Some RefusedParameter) place name inside from to known numbers = λ h i. absurd (cc)
range-fits (Some WaitingParameter) place name inside from to known numbers = λ h i. absurd (cc)
range-fits (Some GateEntry) place name inside from to known numbers = λ h i. absurd (cc)
range-fits (Some InstanceEntry) place name inside from to known numbers = λ h i. absurd (cc)

-- a bound of which nothing is wrong has a number
bound-number : (scope : Scope) → IsSettled scope → (e : SourceExpression) → constant_faults scope (BoundUpTo most_bound) e ≡ [] → alone_faults (reading_of scope e) ≡ [] →
    (n : ℕ) × (number_of_constant scope e ≡ Some n)
bound-number scope settled e faults alone =
    let split = append-none (constant_name_faults scope e) (value_faults scope (BoundUpTo most_bound) e) faults in
    constant-number scope settled (BoundUpTo most_bound) (bound_up_to most_bound) e faults alone
    (full-alone (reading_of scope e) (expression-full scope settled e (constant-names scope e split.0)) alone)

-- a select of a net has at most as many places as it is wide
select-fits : (scope : Scope) → IsSettled scope → (place : SourcePlace) (name : Identifier) (index : SourceIndex) →
    fixed_select_faults scope (record { place = place; name = name; index = index }) ≡ [] →
    Fits (length (places_of_select scope (record { place = place; name = name; index = index }))) (target_select_reading ByNode scope (record { place = place; name = name; index = index }))
select-fits scope settled place name NoIndex faults = name-fits (looked_up scope name) place name (append-none (known_faults (looked_up scope name) place) [] faults).0
select-fits scope settled place name (IndexAt index) faults = index-fits (looked_up scope name) place name (reading_of scope index)
    (append-none (known_faults (looked_up scope name) place) (constant_faults scope IndexOrCount index) faults).0
select-fits scope settled place name (IndexRange from to) faults =
    let none = append-none (known_faults (looked_up scope name) place) (constant_faults scope (BoundUpTo most_bound) from ++ constant_faults scope (BoundUpTo most_bound) to) faults in
    let bounds = append-none (constant_faults scope (BoundUpTo most_bound) from) (constant_faults scope (BoundUpTo most_bound) to) none.1 in
    range-fits (looked_up scope name) place name (alone_faults (reading_of scope from) ++ alone_faults (reading_of scope to)) (number_of_constant scope from) (number_of_constant scope to) none.0
    (λ i.
    let alone = append-none (alone_faults (reading_of scope from)) (alone_faults (reading_of scope to)) i in
    (bound-number scope settled from bounds.0 alone.0, bound-number scope settled to bounds.1 alone.1))

-- Targets

abbrev selects_drives : Identifier → Scope → List SourceSelect → List Drive
selects_drives path scope selects = map (λ (s : SourceSelect). record { signal = path ++ s.name; places = places_of_select scope s; place = s.place }) selects

selects-narrow : (path : Identifier) (scope : Scope) → IsSettled scope → (selects : List SourceSelect) → flat_map (fixed_select_faults scope) selects ≡ [] →
    (selects_reading ByNode scope selects).here ≡ [] → (selects_reading ByNode scope selects).inside ≡ [] →
    (width : ℕ) × ((selects_reading ByNode scope selects).width ≡ Some width) × (drives_width (selects_drives path scope selects) ≤ width)
selects-narrow path scope settled [] names h i = (0, refl, omega arith)
selects-narrow path scope settled (s ∷ rest) names h i =
    let first = target_select_reading ByNode scope s in
    let later = selects_reading ByNode scope rest in
    let none = append-none (fixed_select_faults scope s) (flat_map (fixed_select_faults scope) rest) names in
    let here = append-none first.here later.here h in
    let inside = append-none first.inside later.inside i in
    let one = select-fits scope settled s.place s.name s.index none.0 here.0 inside.0 in
    let more = selects-narrow path scope settled rest none.1 here.1 inside.1 in
    (one.0 + more.0, ap (λ w. sum_of_widths w later.width) one.1 ∙ ap (sum_of_widths (Some one.0)) more.1, omega (arith, one.2, more.2))

within-none : (place : SourcePlace) (reading : TargetReading) → (within_most place reading).here ≡ [] → (within_most place reading).inside ≡ [] → (reading.here ≡ []) × (reading.inside ≡ [])
within-none place reading e d = by_width reading.width refl
  where
    by_width : (width : Option ℕ) → reading.width ≡ width → (reading.here ≡ []) × (reading.inside ≡ [])
    by_width None is =
        let all : within_most place reading ≡ record reading { width = None } = ap (λ w. within_most place (record reading { width = w })) is in
        (sym (ap (λ (r : TargetReading). r.here) all) ∙ e, sym (ap (λ (r : TargetReading). r.inside) all) ∙ d)
    by_width (Some total) is = let few = within-few place reading total is e in (few.2, sym few.3 ∙ d)

is-one : (width : ℕ) → is_not_one (Some width) ≡ false → width ≡ 1
is-one width e = eqb-true width 1 (is_true (nat_eq width 1) e)
  where
    is_true : (b : Bool) → not b ≡ false → b ≡ true
    is_true true d = refl
    is_true false d = absurd (cc)

-- the output of a gate drives one bit at most
pub output-narrow : (path : Identifier) (scope : Scope) → IsSettled scope → (target : SourceTarget) → fixed_target_faults scope target ≡ [] → output_faults scope target ≡ [] →
    drives_width (drives_of path scope target) ≤ 1
output-narrow path scope settled (OneSelect select) names faults =
    let reading = selects_reading ByNode scope (select ∷ []) in
    let none = append-none (target_alone_faults reading) _ faults in
    let group = group-none reading.here reading.inside none.0 in
    let fit = selects-narrow path scope settled (select ∷ []) names group.0 group.1 in
    let test = fault_if-none (is_not_one reading.width) (place_of_target (OneSelect select)) BadConnection none.1 in
    let one = is-one fit.0 (ap is_not_one (sym fit.1) ∙ test) in
    omega (arith, one, fit.2)
output-narrow path scope settled (JoinedSelects place selects) names faults =
    let inner = selects_reading ByNode scope selects in
    let reading = within_most place inner in
    let none = append-none (target_alone_faults reading) _ faults in
    let group = group-none reading.here reading.inside none.0 in
    let own = within-none place inner group.0 group.1 in
    let fit = selects-narrow path scope settled selects names own.0 own.1 in
    let whole = within-few place inner fit.0 fit.1 group.0 in
    let test = fault_if-none (is_not_one reading.width) (place_of_target (JoinedSelects place selects)) BadConnection none.1 in
    let one = is-one fit.0 (ap is_not_one (sym whole.1) ∙ test) in
    omega (arith, one, fit.2)
