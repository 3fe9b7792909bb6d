-- An entry of an event control of which nothing is wrong takes no more bits than a vector may have (IEEE 1364-2001, clause 9.7.2; clause 4.2.1 for selects).
use Rattle.std.proofs.Common.{◌≡◌, ℕ, zero, suc, ◌+◌, ◌-◌, ◌<◌, ◌≤◌, Bool, true, false, ◌&&◌, List, [], ◌∷◌, length, map, Option, Some, None, nat_le, refl, sym, ◌∙◌, inl, inr, arith}
use Rattle.std.specs.Prelude.{◌||◌, flat_map, if◌then◌else◌}
use Rattle.std.proofs.lemmas.Bool.{cases_Bool, leb-true}
use Rattle.std.proofs.lemmas.List.{length-map}
use Rattle.vf_base.specs.Lists.{AllHold}
use Rattle.v_design.specs.Expressions.{up_from, place_of, place_of_number, part_indexes}
use Rattle.v_design.specs.Sized.{most_bits, span}
use Rattle.v_tree.specs.Trees.{Identifier, SourceIndex, NoIndex, IndexAt, IndexRange, SourceSelect, SourceEntry, SourceWaits, OnAnyRead, OnEntries}
use Rattle.v_names.specs.Faults.{WrongKind, fault_at}
use Rattle.v_names.specs.Scopes.{DeclaredRange, ScopeEntry, ParameterEntry, RefusedParameter, WaitingParameter, NetEntry, RegEntry, MemoryEntry, GateEntry, InstanceEntry, Scope, looked_up}
use Rattle.v_names.specs.Scopes.{range_width}
use Rattle.v_names.specs.Scopes.{is_parameter, is_memory}
use Rattle.v_names.specs.Readings.{alone_faults, select_reading, number_of_constant}
use Rattle.v_names.specs.Constants.{known_faults, fixed_index_faults, fixed_select_faults}
use Rattle.v_names.specs.Names.{entry_faults}
use Rattle.v_names.specs.SizedLaws.{and-left, and-right}
use Rattle.v_width.specs.Targets.{range_of_entry, whole_places, places_between, places_by_index}
use Rattle.v_elab.specs.ItemFaults.{entry_select_faults, waits_faults}
use Rattle.flat_laws.specs.Sizes.Complete.{append-none, group-none}
use Rattle.flat_laws.specs.Sizes.Sized.{FitsVector, part-long}
use Rattle.select_bits.specs.Runs.{BoundsTakeRun, IndexTakesRun}
use Rattle.select_bits.specs.RunLaws.{select-takes}
use Rattle.object_statements.specs.Texts.{IsVectorPlace, AreFewPlaces, AreNarrowEntries, AreNarrowWaits}

-- Places

place-by-tests : (high low index : ℕ) → span high low ≤ most_bits → (down inside within : Bool) → nat_le low high ≡ down → (nat_le low index && nat_le index high) ≡ inside →
    (nat_le high index && nat_le index low) ≡ within →
    IsVectorPlace (if down then (if inside then Some (index - low) else None) else (if within then Some (low - index) else None))
place-by-tests high low index few true true within d i w =
    let least = leb-true low index (and-left (nat_le low index) (nat_le index high) i) in
    let most = leb-true index high (and-right (nat_le low index) (nat_le index high) i) in
    let within : index - low < most_bits = omega (arith, few, least, most) in
    within
place-by-tests high low index few true false within d i w = tt
place-by-tests high low index few false inside true d i w =
    let least = leb-true high index (and-left (nat_le high index) (nat_le index low) w) in
    let most = leb-true index low (and-right (nat_le high index) (nat_le index low) w) in
    let within : low - index < most_bits = omega (arith, few, least, most) in
    within
place-by-tests high low index few false inside false d i w = tt

place-within : (high low index : ℕ) → span high low ≤ most_bits → IsVectorPlace (place_of high low index)
place-within high low index few = place-by-tests high low index few (nat_le low high) (nat_le low index && nat_le index high) (nat_le high index && nat_le index low) refl refl refl

places-within : (high low : ℕ) → span high low ≤ most_bits → (indexes : List ℕ) → AllHold IsVectorPlace (map (place_of high low) indexes)
places-within high low few [] = tt
places-within high low few (index ∷ indexes) = (place-within high low index few, places-within high low few indexes)

whole-within : (count start : ℕ) → start + count ≤ most_bits → AllHold IsVectorPlace (map Some (up_from start count))
whole-within zero start few = tt
whole-within (suc n) start few = (omega (arith, few), whole-within n (start + 1) (omega (arith, few)))

up-length : (count start : ℕ) → length (up_from start count) ≡ count
up-length zero start = refl
up-length (suc n) start = let rest = up-length n (start + 1) in omega (arith, rest)

whole-few : (width : ℕ) → width ≤ most_bits → AreFewPlaces (whole_places width)
whole-few width few = let long = length-map (up_from 0 width) Some ∙ up-length width 0 in (omega (arith, long, few), whole-within width 0 (omega (arith, few)))

one-few : (high low : ℕ) → span high low ≤ most_bits → (index : Option ℕ) → AreFewPlaces (place_of_number high low index ∷ [])
one-few high low few None = (omega arith, (tt, tt))
one-few high low few (Some index) = (omega arith, (place-within high low index few, tt))

-- Selects

between-few : (range : DeclaredRange) → range_width range ≤ most_bits → (from to : Option ℕ) → BoundsTakeRun range from to → AreFewPlaces (places_between range from to)
between-few range few None to takes = (omega arith, tt)
between-few range few (Some from) None takes = (omega arith, tt)
between-few range few (Some from) (Some to) takes =
    let long = length-map (part_indexes from to) (place_of range.high range.low) ∙ part-long from to in
    let short = takes.1 in
    (omega (arith, long, short), places-within range.high range.low few (part_indexes from to))

range-few : (entry : Option ScopeEntry) → FitsVector entry → range_width (range_of_entry entry) ≤ most_bits
range-few None fits = omega arith
range-few (Some (NetEntry range signed)) fits = fits
range-few (Some (RegEntry range signed)) fits = fits
range-few (Some (MemoryEntry range first last signed)) fits = omega arith
range-few (Some (ParameterEntry value signed)) fits = omega arith
range-few (Some RefusedParameter) fits = omega arith
range-few (Some WaitingParameter) fits = omega arith
range-few (Some GateEntry) fits = omega arith
range-few (Some InstanceEntry) fits = omega arith

index-few : (scope : Scope) (entry : Option ScopeEntry) (index : SourceIndex) → FitsVector entry → IndexTakesRun scope (range_of_entry entry) index →
    AreFewPlaces (places_by_index scope (range_of_entry entry) index)
index-few scope entry NoIndex fits takes = whole-few (range_width (range_of_entry entry)) (range-few entry fits)
index-few scope entry (IndexAt index) fits takes =
    let range = range_of_entry entry in one-few range.high range.low (range-few entry fits) (number_of_constant scope index)
index-few scope entry (IndexRange from to) fits takes = between-few (range_of_entry entry) (range-few entry fits) (number_of_constant scope from) (number_of_constant scope to) takes

kind-wrong : (scope : Scope) (select : SourceSelect) → (is_parameter (looked_up scope select.name) || is_memory (looked_up scope select.name)) ≡ true →
    entry_select_faults scope select ≡ fault_at select.place WrongKind ∷ []
kind-wrong scope select e = rw e

kind-right : (scope : Scope) (select : SourceSelect) → (is_parameter (looked_up scope select.name) || is_memory (looked_up scope select.name)) ≡ false →
    entry_select_faults scope select ≡ alone_faults (select_reading scope select.place select.name select.index)
kind-right scope select e = rw e

-- nothing is wrong with the select of an entry
select-clean : (scope : Scope) (select : SourceSelect) → entry_select_faults scope select ≡ [] → alone_faults (select_reading scope select.place select.name select.index) ≡ []
select-clean scope select e =
    elim (cases_Bool (is_parameter (looked_up scope select.name) || is_memory (looked_up scope select.name))) [
      | inl wrong ↦ let fault : fault_at select.place WrongKind ∷ [] ≡ [] = sym (kind-wrong scope select wrong) ∙ e in absurd (cc)
      | inr right ↦ sym (kind-right scope select right) ∙ e
    ]

-- Entries

entries-narrow : (scope : Scope) → ((name : Identifier) → FitsVector (looked_up scope name)) → (entries : List SourceEntry) →
    flat_map (λ (e : SourceEntry). fixed_select_faults scope e.select) entries ≡ [] → flat_map (λ (e : SourceEntry). entry_select_faults scope e.select) entries ≡ [] → AreNarrowEntries scope entries
entries-narrow scope fits [] names wrong = tt
entries-narrow scope fits (entry ∷ rest) names wrong =
    let select = entry.select in
    let n = append-none (fixed_select_faults scope select) (flat_map (λ (e : SourceEntry). fixed_select_faults scope e.select) rest) names in
    let w = append-none (entry_select_faults scope select) (flat_map (λ (e : SourceEntry). entry_select_faults scope e.select) rest) wrong in
    let known = (append-none (known_faults (looked_up scope select.name) select.place) (fixed_index_faults scope select.index) n.0).0 in
    let reading = select_reading scope select.place select.name select.index in
    let takes = select-takes scope select.place select.name select.index known (group-none reading.here reading.inside (select-clean scope select w.0)).0 in
    ((takes, index-few scope (looked_up scope select.name) select.index (fits select.name) takes), entries-narrow scope fits rest n.1 w.1)

-- what an event control waits for of which nothing is wrong
pub waits-narrow : (scope : Scope) → ((name : Identifier) → FitsVector (looked_up scope name)) → (waits : SourceWaits) → entry_faults scope waits ≡ [] → waits_faults scope waits ≡ [] →
    AreNarrowWaits scope waits
waits-narrow scope fits OnAnyRead names wrong = tt
waits-narrow scope fits (OnEntries entries) names wrong = entries-narrow scope fits entries names wrong
