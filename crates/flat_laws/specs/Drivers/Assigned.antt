-- What the assignments of a walk are read from: each value has a bit for each place of its drives, and their places ascend (IEEE 1364-2001, clause 6.1 for assignments, clause 12.3 for ports).
use Rattle.std.proofs.Common.{◌≡◌, ℕ, zero, suc, ◌+◌, ◌≤◌, max, Bool, true, false, ◌&&◌, List, [], ◌∷◌, ◌++◌, length, map, nat_le, Option, Some, None, refl, sym, ap, ap₂, ◌∙◌, arith}
use Rattle.std.specs.Prelude.{flat_map}
use Rattle.std.proofs.lemmas.List.{length-map}
use Rattle.vf_base.specs.Base.{SourcePlace}
use Rattle.vf_base.specs.Lists.{AllHold}
use Rattle.v_design.specs.Sized.{span, most_bits}
use Rattle.v_design.specs.Expressions.{up_from, place_of, place_of_number, part_indexes}
use Rattle.v_tree.specs.Trees.{Identifier, SourceIndex, NoIndex, IndexAt, IndexRange, SourceSelect, SourceTarget, OneSelect, JoinedSelects, selects_of}
use Rattle.v_names.specs.Faults.{Fault}
use Rattle.v_names.specs.Scopes.{DeclaredRange, ScopeEntry, ParameterEntry, RefusedParameter, WaitingParameter, NetEntry, RegEntry, MemoryEntry, GateEntry, InstanceEntry, Scope, looked_up}
use Rattle.v_names.specs.Scopes.{range_width}
use Rattle.v_names.specs.Readings.{Size, Reading, alone_faults, name_reading, bit_reading, indexed_reading, runs_alike, part_if, part_reading, ranged_reading, reading_of, select_reading}
use Rattle.v_names.specs.Readings.{number_of_constant, number_or}
use Rattle.v_names.specs.Constants.{IndexOrCount, value_faults, known_faults, constant_name_faults, index_faults, fixed_index_faults, fixed_select_faults}
use Rattle.v_width.specs.Targets.{ByNode, may_write, written_reading, target_select_reading, TargetReading, width_of_size, sum_of_widths, selects_reading, within_most, target_reading}
use Rattle.v_width.specs.Targets.{target_width_in, range_of_entry, whole_places, places_between, places_of_select}
use Rattle.v_elab.specs.Parts.{Drive}
use Rattle.v_elab.specs.Drivers.{drives_width}
use Rattle.v_elab.specs.Connections.{drives_of}
use Rattle.flat_laws.specs.Sizes.Complete.{append-none, IsSettled, constant-names, select-full}
use Rattle.flat_laws.specs.Sizes.Sized.{sized_if-holds, within-room, part-long}
use Rattle.flat_laws.specs.Sizes.Statements.{within-few}
use Rattle.flat_laws.specs.Sizes.Entries.{Ascend, one-ascends, whole-ascends, between-ascends}

-- Selects

pub whole-long : (count start : ℕ) → length (map Some (up_from start count)) ≡ count
whole-long zero start = refl
whole-long (suc count) start = ap suc (whole-long count (start + 1))

-- a select that a node writes: its size has a bit for each of its places
record SelectHolds (places : List (Option ℕ)) (size : Option Size) : Type 0 where
  z : Size
  size_is : size ≡ Some z
  covers : length places ≤ z.width
  few : z.width ≤ most_bits

whole-holds : (entry : Option ScopeEntry) (place : SourcePlace) (name : Identifier) → may_write ByNode entry ≡ true → known_faults entry place ≡ [] → (name_reading entry place name).complete ≡ true →
    SelectHolds (whole_places (range_width (range_of_entry entry))) (name_reading entry place name).size
whole-holds (Some (NetEntry range signed)) place name writes known c =
    let h = sized_if-holds (nat_le 1 (range_width range) && nat_le (range_width range) most_bits) place (record { width = range_width range; signed = signed }) true [] _ c in
    let room = within-room (range_width range) h.passes in
    let long = whole-long (range_width range) 0 in
    record { z = record { width = range_width range; signed = signed }; size_is = h.size_is; covers = omega (arith, long); few = room.1 }
whole-holds None place name writes known c = absurd (cc)
whole-holds (Some (RegEntry range signed)) place name writes known c = absurd (cc)
whole-holds (Some (MemoryEntry range first last signed)) place name writes known c = absurd (cc)
whole-holds (Some (ParameterEntry value signed)) place name writes known c = absurd (cc)
whole-holds (Some RefusedParameter) place name writes known c = absurd (cc)
whole-holds (Some WaitingParameter) place name writes known c = absurd (cc)
whole-holds (Some GateEntry) place name writes known c = absurd (cc)
whole-holds (Some InstanceEntry) place name writes known c = absurd (cc)

bit-holds : (ranged : Bool) (place : SourcePlace) (name : Identifier) (index : Reading) (at : Option ℕ) → (bit_reading ranged place name index).complete ≡ true →
    SelectHolds (at ∷ []) (bit_reading ranged place name index).size
bit-holds true place name index at c = record { z = record { width = 1; signed = false }; size_is = refl; covers = omega arith; few = omega arith }
bit-holds false place name index at c = absurd (cc)

index-holds : (entry : Option ScopeEntry) (place : SourcePlace) (name : Identifier) (index : Reading) (at : Option ℕ) → may_write ByNode entry ≡ true → known_faults entry place ≡ [] →
    (indexed_reading entry place name index).complete ≡ true →
    SelectHolds (at ∷ []) (indexed_reading entry place name index).size
index-holds (Some (NetEntry range signed)) place name index at writes known c = bit-holds range.ranged place name index at c
index-holds None place name index at writes known c = absurd (cc)
index-holds (Some (RegEntry range signed)) place name index at writes known c = absurd (cc)
index-holds (Some (MemoryEntry range first last signed)) place name index at writes known c = absurd (cc)
index-holds (Some (ParameterEntry value signed)) place name index at writes known c = absurd (cc)
index-holds (Some RefusedParameter) place name index at writes known c = absurd (cc)
index-holds (Some WaitingParameter) place name index at writes known c = absurd (cc)
index-holds (Some GateEntry) place name index at writes known c = absurd (cc)
index-holds (Some InstanceEntry) place name index at writes known c = absurd (cc)

alike-holds : (range : DeclaredRange) (place : SourcePlace) (name : Identifier) (inside : List Fault) (from to : ℕ) (alike : Bool) → (part_if alike place name inside from to).complete ≡ true →
    SelectHolds (places_between range (Some from) (Some to)) (part_if alike place name inside from to).size
alike-holds range place name inside from to true c =
    let h = sized_if-holds (nat_le 1 (span from to) && nat_le (span from to) most_bits) place (record { width = span from to; signed = false }) true inside _ c in
    let room = within-room (span from to) h.passes in
    let long : length (places_between range (Some from) (Some to)) ≡ span from to = length-map (part_indexes from to) (place_of range.high range.low) ∙ part-long from to in
    record { z = record { width = span from to; signed = false }; size_is = h.size_is; covers = omega (arith, long); few = room.1 }
alike-holds range place name inside from to false c = absurd (cc)

part-holds : (ranged : Bool) (range : DeclaredRange) (place : SourcePlace) (name : Identifier) (inside : List Fault) (from to : Option ℕ) →
    (part_reading ranged range place name inside from to).complete ≡ true →
    SelectHolds (places_between range from to) (part_reading ranged range place name inside from to).size
part-holds false range place name inside from to c = absurd (cc)
part-holds true range place name inside None to c = absurd (cc)
part-holds true range place name inside (Some from) None c = absurd (cc)
part-holds true range place name inside (Some from) (Some to) c = alike-holds range place name inside from to (runs_alike range from to) c

range-holds : (entry : Option ScopeEntry) (place : SourcePlace) (name : Identifier) (inside : List Fault) (from to : Option ℕ) → may_write ByNode entry ≡ true → known_faults entry place ≡ [] →
    (ranged_reading entry place name inside from to).complete ≡ true →
    SelectHolds (places_between (range_of_entry entry) from to) (ranged_reading entry place name inside from to).size
range-holds (Some (NetEntry range signed)) place name inside from to writes known c = part-holds range.ranged range place name inside from to c
range-holds None place name inside from to writes known c = absurd (cc)
range-holds (Some (RegEntry range signed)) place name inside from to writes known c = absurd (cc)
range-holds (Some (MemoryEntry range first last signed)) place name inside from to writes known c = absurd (cc)
range-holds (Some (ParameterEntry value signed)) place name inside from to writes known c = absurd (cc)
range-holds (Some RefusedParameter) place name inside from to writes known c = absurd (cc)
range-holds (Some WaitingParameter) place name inside from to writes known c = absurd (cc)
range-holds (Some GateEntry) place name inside from to writes known c = absurd (cc)
range-holds (Some InstanceEntry) place name inside from to writes known c = absurd (cc)

-- such a select, with places that ascend
abbrev Holds : Scope → SourceSelect → Option Size → Type 0
Holds scope select size = SelectHolds (places_of_select scope select) size × Ascend 0 (places_of_select scope select)

select-holds : (scope : Scope) (place : SourcePlace) (name : Identifier) (index : SourceIndex) → may_write ByNode (looked_up scope name) ≡ true → known_faults (looked_up scope name) place ≡ [] →
    (select_reading scope place name index).here ≡ [] →
    (select_reading scope place name index).complete ≡ true → Holds scope (record { place = place; name = name; index = index }) (select_reading scope place name index).size
select-holds scope place name NoIndex writes known h c = (whole-holds (looked_up scope name) place name writes known c, whole-ascends (range_width (range_of_entry (looked_up scope name))))
select-holds scope place name (IndexAt index) writes known h c =
    let range = range_of_entry (looked_up scope name) in
    let at = place_of_number range.high range.low (number_of_constant scope index) in
    (index-holds (looked_up scope name) place name (reading_of scope index) at writes known c, one-ascends at)
select-holds scope place name (IndexRange from to) writes known h c =
    let inside = alone_faults (reading_of scope from) ++ alone_faults (reading_of scope to) in
    let first = number_of_constant scope from in
    let last = number_of_constant scope to in
    (range-holds (looked_up scope name) place name inside first last writes known c, between-ascends (looked_up scope name) place name inside first last h c)

-- nothing is wrong with the names of a fixed index
fixed-index : (scope : Scope) (index : SourceIndex) → fixed_index_faults scope index ≡ [] → index_faults scope index ≡ []
fixed-index scope NoIndex e = refl
fixed-index scope (IndexAt index) e = constant-names scope index (append-none (constant_name_faults scope index) (value_faults scope IndexOrCount index) e).0
fixed-index scope (IndexRange from to) e = e

written-holds : (scope : Scope) → IsSettled scope → (select : SourceSelect) (writes : Bool) → may_write ByNode (looked_up scope select.name) ≡ writes → fixed_select_faults scope select ≡ [] →
    (written_reading writes select.place (select_reading scope select.place select.name select.index)).here ≡ [] →
    (written_reading writes select.place (select_reading scope select.place select.name select.index)).inside ≡ [] →
    Holds scope select (written_reading writes select.place (select_reading scope select.place select.name select.index)).size
written-holds scope settled select true e names h i =
    let none = append-none (known_faults (looked_up scope select.name) select.place) (fixed_index_faults scope select.index) names in
    let all : known_faults (looked_up scope select.name) select.place ++ index_faults scope select.index ≡ [] = ap (λ l. l ++ index_faults scope select.index) none.0
    ∙ fixed-index scope select.index none.1 in
    select-holds scope select.place select.name select.index e none.0 h (select-full scope settled select.place select.name select.index all h i)
written-holds scope settled select false e names h i = absurd (cc)

-- Targets

abbrev drive_of : Identifier → Scope → SourceSelect → Drive
drive_of path scope select = record { signal = path ++ select.name; places = places_of_select scope select; place = select.place }

record SelectsHold (drives : List Drive) (width : Option ℕ) : Type 0 where
  total : ℕ
  width_is : width ≡ Some total
  covers : drives_width drives ≤ total
  ascends : AllHold (λ (d : Drive). Ascend 0 d.places) drives

selects-hold : (path : Identifier) (scope : Scope) → IsSettled scope → (selects : List SourceSelect) → flat_map (fixed_select_faults scope) selects ≡ [] →
    (selects_reading ByNode scope selects).here ≡ [] →
    (selects_reading ByNode scope selects).inside ≡ [] → SelectsHold (map (drive_of path scope) selects) (selects_reading ByNode scope selects).width
selects-hold path scope settled [] names h i = record { total = 0; width_is = refl; covers = omega arith; ascends = tt }
selects-hold path scope settled (select ∷ selects) names h i =
    let none = append-none (fixed_select_faults scope select) (flat_map (fixed_select_faults scope) selects) names in
    let here = append-none (target_select_reading ByNode scope select).here (selects_reading ByNode scope selects).here h in
    let inside = append-none (target_select_reading ByNode scope select).inside (selects_reading ByNode scope selects).inside i in
    let first = written-holds scope settled select (may_write ByNode (looked_up scope select.name)) refl none.0 here.0 inside.0 in
    let rest = selects-hold path scope settled selects none.1 here.1 inside.1 in
    let one = first.0.covers in
    let others = rest.covers in
    record {
      total = first.0.z.width + rest.total;
      width_is = ap₂ (λ z w. sum_of_widths (width_of_size z) w) first.0.size_is rest.width_is;
      covers = omega (arith, one, others);
      ascends = (first.1, rest.ascends);
    }

-- a target of a node: its width is that of a vector at most, and has a bit for each place of its drives; a name that isn't declared counts as one bit
pub record TargetHolds (path : Identifier) (scope : Scope) (target : SourceTarget) : Type 0 where
  pub few : target_width_in ByNode scope target ≤ most_bits
  pub covers : drives_width (drives_of path scope target) ≤ max (target_width_in ByNode scope target) 1
  pub ascends : AllHold (λ (d : Drive). Ascend 0 d.places) (drives_of path scope target)

-- nothing is wrong inside braces where nothing is wrong with them
within-width : (place : SourcePlace) (reading : TargetReading) → (within_most place reading).here ≡ [] → (reading.here ≡ []) × ((within_most place reading).inside ≡ reading.inside)
within-width place reading e = by_width reading.width refl
  where
    by_width : (width : Option ℕ) → reading.width ≡ width → (reading.here ≡ []) × ((within_most place reading).inside ≡ reading.inside)
    by_width None is =
        let all : within_most place reading ≡ record reading { width = None } = ap (λ w. within_most place (record reading { width = w })) is in
        (sym (ap (λ (r : TargetReading). r.here) all) ∙ e, ap (λ (r : TargetReading). r.inside) all)
    by_width (Some total) is = let few = within-few place reading total is e in (few.2, few.3)

pub target-holds : (path : Identifier) (scope : Scope) → IsSettled scope → (target : SourceTarget) → flat_map (fixed_select_faults scope) (selects_of target) ≡ [] →
    (target_reading ByNode scope target).here ≡ [] →
    (target_reading ByNode scope target).inside ≡ [] → TargetHolds path scope target
target-holds path scope settled (OneSelect select) names h i =
    let all = selects-hold path scope settled (select ∷ []) names h i in
    let none = append-none (fixed_select_faults scope select) [] names in
    let here = append-none (target_select_reading ByNode scope select).here [] h in
    let inside = append-none (target_select_reading ByNode scope select).inside [] i in
    let first = written-holds scope settled select (may_write ByNode (looked_up scope select.name)) refl none.0 here.0 inside.0 in
    let own : target_width_in ByNode scope (OneSelect select) ≡ first.0.z.width + 0 = ap (λ z. number_or 0 (sum_of_widths (width_of_size z) (Some 0))) first.0.size_is in
    let width : target_width_in ByNode scope (OneSelect select) ≡ all.total = ap (number_or 0) all.width_is in
    let few = first.0.few in
    let covers = all.covers in
    record { few = omega (arith, own, few); covers = omega (arith, covers, width); ascends = all.ascends }
target-holds path scope settled (JoinedSelects place selects) names h i =
    let reading = selects_reading ByNode scope selects in
    let readable = within-width place reading h in
    let all = selects-hold path scope settled selects names readable.0 (sym readable.1 ∙ i) in
    let room = within-few place reading all.total all.width_is h in
    let width : target_width_in ByNode scope (JoinedSelects place selects) ≡ all.total = ap (number_or 0) room.1 in
    let few = room.0 in
    let covers = all.covers in
    record { few = omega (arith, width, few); covers = omega (arith, covers, width); ascends = all.ascends }
