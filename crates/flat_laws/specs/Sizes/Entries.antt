-- The entries of a wait stand on bits of their objects, one at least (IEEE 1364-2001, clause 9.7.2 for events; clause 9.7.5 for `@*`).
use Rattle.std.proofs.Common.{◌≡◌, ℕ, zero, suc, ◌+◌, ◌-◌, ◌<◌, ◌≤◌, ◌⊎◌, Bool, true, false, ◌&&◌, List, [], ◌∷◌, map, Option, Some, None, nat_le, refl, sym, ap, ◌∙◌, subst, inl, inr, arith}
use Rattle.std.specs.Prelude.{nat_eq, nat_lt, slice_get, get_or, if◌then◌else◌}
use Rattle.std.specs.List.{list_all}
use Rattle.std.proofs.lemmas.Bool.{cases_Bool, or_cases, eqb-true, ltb-true, ltb-false, leb-true}
use Rattle.std.proofs.lemmas.Bool.Decides.{leb_tells}
use Rattle.vf_base.specs.Base.{SourcePlace}
use Rattle.four_value.specs.declared.logic.Edge.{Edge}
use Rattle.four_value.specs.declared.logic.Edge.TheVariants.{Any, Pos, Neg}
use Rattle.vf_base.specs.Lists.{AllHold}
use Rattle.v_design.specs.Trees.{Piece, Entry}
use Rattle.v_design.specs.Expressions.{up_from, down_from, place_of, part_indexes, part_places}
use Rattle.v_design.specs.Sized.{most_bits, IsSizedEntry}
use Rattle.v_design.specs.Designs.{FlatObject, FlatDesign, width_in}
use Rattle.v_design.specs.WellFormed.{width_is, has_width, IsSizedObject, IsEntryOf}
use Rattle.v_tree.specs.Trees.{Identifier}
use Rattle.v_names.specs.Faults.{Fault}
use Rattle.v_names.specs.Scopes.{DeclaredRange, ScopeEntry, ParameterEntry, RefusedParameter, WaitingParameter, NetEntry, RegEntry, MemoryEntry, GateEntry, InstanceEntry}
use Rattle.v_names.specs.Readings.{runs_alike, part_if, part_reading, ranged_reading}
use Rattle.v_width.specs.Targets.{whole_places, places_between, range_of_entry}
use Rattle.v_elab.specs.Statements.{run_within, entry_on, entries_on, places_by_edge}
use Rattle.graph_order.specs.ListLaws.{AllHold-slice_get}
use Rattle.v_names.specs.SizedLaws.{and-left, and-right}
use Rattle.flat_laws.specs.Numbered.{AllHold-append}

-- Ascending places

-- each place is higher than those before it
abbrev pub Ascend : ℕ → List (Option ℕ) → Type 0
Ascend least [] = Unit {0}
Ascend least (None ∷ places) = Ascend least places
Ascend least (Some place ∷ places) = (least ≤ place) × Ascend (place + 1) places

ascend-lower : (low high : ℕ) (places : List (Option ℕ)) → low ≤ high → Ascend high places → Ascend low places
ascend-lower low high [] h up = tt
ascend-lower low high (None ∷ places) h up = ascend-lower low high places h up
ascend-lower low high (Some place ∷ places) h up = let above = up.0 in (omega (arith, h, above), up.1)

whole-ascend : (start count : ℕ) → Ascend start (map Some (up_from start count))
whole-ascend start zero = tt
whole-ascend start (suc count) = (omega arith, whole-ascend (start + 1) count)

pub one-ascends : (place : Option ℕ) → Ascend 0 (place ∷ [])
one-ascends None = tt
one-ascends (Some place) = (omega arith, tt)

-- a place by bounds that descend
place-down : (high low index : ℕ) → low ≤ high → (place_of high low index ≡ None) ⊎ ((low ≤ index) × (place_of high low index ≡ Some (index - low)))
place-down high low index down =
    elim (leb_tells low high) [
      | inl holds ↦
          elim (cases_Bool (nat_le low index && nat_le index high)) [
            | inl inside ↦ inr (
              leb-true low index (and-left (nat_le low index) (nat_le index high) inside),
              by_tests (nat_le low high) (nat_le low index && nat_le index high) true true holds.0 inside,
            )
            | inr outside ↦ inl (by_tests (nat_le low high) (nat_le low index && nat_le index high) true false holds.0 outside)
          ]
      | inr fails ↦ let less = fails.1 in absurd (omega (arith, less, down))
    ]
  where
    by_tests : (a b c d : Bool) → a ≡ c → b ≡ d →
        (if a then (if b then Some (index - low) else None) else (if nat_le high index && nat_le index low then Some (low - index) else None))
        ≡ (if c then (if d then Some (index - low) else None) else (if nat_le high index && nat_le index low then Some (low - index) else None))
    by_tests a b c d e h =
        ap (λ t. if t then (if b then Some (index - low) else None) else (if nat_le high index && nat_le index low then Some (low - index) else None)) e
        ∙ ap (λ t. if c then (if t then Some (index - low) else None) else (if nat_le high index && nat_le index low then Some (low - index) else None)) h

-- and by bounds that ascend
place-up : (high low index : ℕ) → high < low → (place_of high low index ≡ None) ⊎ ((index ≤ low) × (place_of high low index ≡ Some (low - index)))
place-up high low index up =
    elim (leb_tells low high) [
      | inl holds ↦ let less = holds.1 in absurd (omega (arith, less, up))
      | inr fails ↦
          elim (cases_Bool (nat_le high index && nat_le index low)) [
            | inl inside ↦ inr (
              leb-true index low (and-right (nat_le high index) (nat_le index low) inside),
              by_tests (nat_le low high) (nat_le high index && nat_le index low) false true fails.0 inside,
            )
            | inr outside ↦ inl (by_tests (nat_le low high) (nat_le high index && nat_le index low) false false fails.0 outside)
          ]
    ]
  where
    by_tests : (a b c d : Bool) → a ≡ c → b ≡ d →
        (if a then (if nat_le low index && nat_le index high then Some (index - low) else None) else (if b then Some (low - index) else None))
        ≡ (if c then (if nat_le low index && nat_le index high then Some (index - low) else None) else (if d then Some (low - index) else None))
    by_tests a b c d e h =
        ap (λ t. if t then (if nat_le low index && nat_le index high then Some (index - low) else None) else (if b then Some (low - index) else None)) e
        ∙ ap (λ t. if c then (if nat_le low index && nat_le index high then Some (index - low) else None) else (if t then Some (low - index) else None)) h

down-ascend : (high low : ℕ) → low ≤ high → (count index least : ℕ) → least ≤ index - low → Ascend least (map (place_of high low) (up_from index count))
down-ascend high low down zero index least h = tt
down-ascend high low down (suc count) index least h =
    elim (place-down high low index down) [
      | inl none ↦ subst (λ p. Ascend least (p ∷ map (place_of high low) (up_from (index + 1) count))) (sym none) (down-ascend high low down count (index + 1) least (omega (arith, h)))
      | inr some ↦
          let above = some.0 in
          subst (λ p. Ascend least (p ∷ map (place_of high low) (up_from (index + 1) count))) (sym some.1) (h, down-ascend high low down count (index + 1) (index - low + 1) (omega (arith, above)))
    ]

up-ascend : (high low : ℕ) → high < low → (count index least : ℕ) → least ≤ low - index → count ≤ index + 1 → Ascend least (map (place_of high low) (down_from index count))
up-ascend high low up zero index least h short = tt
up-ascend high low up (suc zero) index least h short =
    elim (place-up high low index up) [
      | inl none ↦ subst (λ p. Ascend least (p ∷ [])) (sym none) tt
      | inr some ↦ subst (λ p. Ascend least (p ∷ [])) (sym some.1) (h, tt)
    ]
up-ascend high low up (suc (suc count)) index least h short =
    elim (place-up high low index up) [
      | inl none ↦ subst (λ p. Ascend least (p ∷ map (place_of high low) (down_from (index - 1) (suc count)))) (sym none)
          (up-ascend high low up (suc count) (index - 1) least (omega (arith, h)) (omega (arith, short)))
      | inr some ↦
          let below = some.0 in
          subst (λ p. Ascend least (p ∷ map (place_of high low) (down_from (index - 1) (suc count)))) (sym some.1)
          (h, up-ascend high low up (suc count) (index - 1) (low - index + 1) (omega (arith, below, short)) (omega (arith, short)))
    ]

-- bounds of a part that run as its declaration does
alike-down : (range : DeclaredRange) (from to : ℕ) → runs_alike range from to ≡ true → range.low ≤ range.high → to ≤ from
alike-down range from to e down =
    elim (or_cases (nat_eq from to) (if nat_lt range.high range.low then nat_lt from to else nat_lt to from) e) [
      | inl same ↦ let is = eqb-true from to same in omega (arith, is)
      | inr runs ↦
          elim (cases_Bool (nat_lt range.high range.low)) [
            | inl up ↦ let less = ltb-true range.high range.low up in absurd (omega (arith, less, down))
            | inr other ↦ let less = ltb-true to from (ap (λ b. if b then nat_lt from to else nat_lt to from) (sym other) ∙ runs) in omega (arith, less)
          ]
    ]

alike-up : (range : DeclaredRange) (from to : ℕ) → runs_alike range from to ≡ true → range.high < range.low → from ≤ to
alike-up range from to e up =
    elim (or_cases (nat_eq from to) (if nat_lt range.high range.low then nat_lt from to else nat_lt to from) e) [
      | inl same ↦ let is = eqb-true from to same in omega (arith, is)
      | inr runs ↦
          elim (cases_Bool (nat_lt range.high range.low)) [
            | inl holds ↦ let less = ltb-true from to (ap (λ b. if b then nat_lt from to else nat_lt to from) (sym holds) ∙ runs) in omega (arith, less)
            | inr other ↦ let more = ltb-false range.high range.low other in absurd (omega (arith, more, up))
          ]
    ]

indexes-up : (from to : ℕ) → to ≤ from → part_indexes from to ≡ up_from to (from - to + 1)
indexes-up from to h =
    elim (leb_tells to from) [
      | inl holds ↦ ap (λ b. if b then up_from to (from - to + 1) else down_from to (to - from + 1)) holds.0
      | inr fails ↦ let less = fails.1 in absurd (omega (arith, less, h))
    ]

indexes-down : (from to : ℕ) → from < to → part_indexes from to ≡ down_from to (to - from + 1)
indexes-down from to h =
    elim (leb_tells to from) [
      | inl holds ↦ let less = holds.1 in absurd (omega (arith, less, h))
      | inr fails ↦ ap (λ b. if b then up_from to (from - to + 1) else down_from to (to - from + 1)) fails.0
    ]

-- the places of such a part ascend
part-ascends : (range : DeclaredRange) (from to : ℕ) → runs_alike range from to ≡ true → Ascend 0 (part_places range.high range.low from to)
part-ascends range from to alike =
    elim (leb_tells range.low range.high) [
      | inl down ↦
          let order = alike-down range from to alike down.1 in
          subst (λ indexes. Ascend 0 (map (place_of range.high range.low) indexes)) (sym (indexes-up from to order)) (down-ascend range.high range.low down.1 (from - to + 1) to 0 (omega arith))
      | inr up ↦
          elim (leb_tells to from) [
            | inl same ↦
                let order = alike-up range from to alike up.1 in
                let least = same.1 in
                let one : from - to + 1 ≡ 1 = omega (arith, order, least) in
                subst (λ indexes. Ascend 0 (map (place_of range.high range.low) indexes)) (sym (indexes-up from to least ∙ ap (up_from to) one)) (one-ascends (place_of range.high range.low to))
            | inr less ↦
                let below = less.1 in
                subst (λ indexes. Ascend 0 (map (place_of range.high range.low) indexes)) (sym (indexes-down from to below))
                (up-ascend range.high range.low up.1 (to - from + 1) to 0 (omega arith) (omega arith))
          ]
    ]

-- Runs of bits

-- the bits that were found so far
abbrev Found : ℕ → ℕ → ℕ → Option Entry → Type 0
Found low high next None = Unit {0}
Found low high next (Some entry) = (1 ≤ entry.width) × (low + entry.low + entry.width ≤ next) × (low + entry.low + entry.width ≤ high)

abbrev IsRun : ℕ → ℕ → Option Entry → Type 0
IsRun low high None = Unit {0}
IsRun low high (Some entry) = (1 ≤ entry.width) × (low + entry.low + entry.width ≤ high)

run-found : (low high next : ℕ) (found : Option Entry) → Found low high next found → IsRun low high found
run-found low high next None h = tt
run-found low high next (Some entry) h = (h.0, h.2)

found-later : (low high next later : ℕ) (found : Option Entry) → next ≤ later → Found low high next found → Found low high later found
found-later low high next later None h f = tt
found-later low high next later (Some entry) h f = let all = f.1 in (f.0, omega (arith, h, all), f.2)

first-run : (low high place : ℕ) (places : List (Option ℕ)) → (nat_le low place && nat_lt place high) ≡ true →
    run_within low high (Some place ∷ places) None ≡ run_within low high places (Some (record { object = 0; low = place - low; width = 1; edge = Any }))
first-run low high place places e = rw e

more-run : (low high place : ℕ) (places : List (Option ℕ)) (entry : Entry) → (nat_le low place && nat_lt place high) ≡ true →
    run_within low high (Some place ∷ places) (Some entry) ≡ run_within low high places (Some (record { object = 0; low = entry.low; width = entry.width + 1; edge = Any }))
more-run low high place places entry e = rw e

other-run : (low high place : ℕ) (places : List (Option ℕ)) (found : Option Entry) → (nat_le low place && nat_lt place high) ≡ false →
    run_within low high (Some place ∷ places) found ≡ run_within low high places found
other-run low high place places found e = rw e

-- the bits of a piece that are among ascending places stand in the piece
run-within : (low high next : ℕ) (places : List (Option ℕ)) (found : Option Entry) → Ascend next places → Found low high next found → IsRun low high (run_within low high places found)
run-within low high next [] found up h = run-found low high next found h
run-within low high next (None ∷ places) found up h = run-within low high next places found up h
run-within low high next (Some place ∷ places) None up h =
    elim (cases_Bool (nat_le low place && nat_lt place high)) [
      | inl inside ↦
          let least = leb-true low place (and-left (nat_le low place) (nat_lt place high) inside) in
          let most = ltb-true place high (and-right (nat_le low place) (nat_lt place high) inside) in
          subst (IsRun low high) (sym (first-run low high place places inside))
          (run-within low high (place + 1) places (Some (record { object = 0; low = place - low; width = 1; edge = Any })) up.1 (omega arith, omega (arith, least), omega (arith, least, most)))
      | inr outside ↦ subst (IsRun low high) (sym (other-run low high place places None outside)) (run-within low high (place + 1) places None up.1 tt)
    ]
run-within low high next (Some place ∷ places) (Some entry) up h =
    let above = up.0 in
    let before = h.1 in
    elim (cases_Bool (nat_le low place && nat_lt place high)) [
      | inl inside ↦
          let most = ltb-true place high (and-right (nat_le low place) (nat_lt place high) inside) in
          subst (IsRun low high) (sym (more-run low high place places entry inside))
          (run-within low high (place + 1) places (Some (record { object = 0; low = entry.low; width = entry.width + 1; edge = Any })) up.1
          (omega arith, omega (arith, above, before), omega (arith, above, before, most)))
      | inr outside ↦
          subst (IsRun low high) (sym (other-run low high place places (Some entry) outside))
          (run-within low high (place + 1) places (Some entry) up.1 (found-later low high next (place + 1) (Some entry) (omega (arith, above)) h))
    ]

-- Entries

-- an entry has bits, and they are bits of its object
pub record IsEntryThere (design : FlatDesign) (entry : Entry) : Type 0 where
  pub sized : IsSizedEntry entry
  pub there : IsEntryOf design entry

-- the width of an object that is there
pub record IsWidth (design : FlatDesign) (piece : Piece) : Type 0 where
  pub width : width_in design piece.object ≡ piece.width
  pub few : piece.width ≤ most_bits
  pub some : 1 ≤ piece.width

width-at : (objects : List FlatObject) (i : ℕ) (object : FlatObject) → slice_get objects i ≡ Some object → get_or (map (λ (o : FlatObject). o.width) objects) i 0 ≡ object.width
width-at [] i object at = absurd (cc)
width-at (first ∷ objects) zero object at = let same : first ≡ object = cc in ap (λ (o : FlatObject). o.width) same
width-at (first ∷ objects) (suc i) object at = width-at objects i object at

pub piece-width : (design : FlatDesign) (piece : Piece) → AllHold IsSizedObject design.objects → has_width design piece ≡ true → IsWidth design piece
piece-width design piece sized h = by_object (slice_get design.objects piece.object) refl h
  where
    by_object : (found : Option FlatObject) → slice_get design.objects piece.object ≡ found → width_is piece.width found ≡ true → IsWidth design piece
    by_object None is e = absurd (cc)
    by_object (Some object) is e =
        let own : object.width ≡ piece.width = eqb-true object.width piece.width e in
        let bits = AllHold-slice_get IsSizedObject design.objects piece.object object sized is in
        let few = bits.2 in
        let spans = bits.1 in
        record { width = width-at design.objects piece.object object is ∙ own; few = omega (arith, own, few); some = omega (arith, own, spans) }

entry-there : (design : FlatDesign) (piece : Piece) (edge : Edge) (offset : ℕ) (found : Option Entry) → IsWidth design piece → IsRun offset (offset + piece.width) found →
    AllHold (IsEntryThere design) (entry_on piece edge found)
entry-there design piece edge offset None is h = tt
entry-there design piece edge offset (Some entry) is h =
    let some = h.0 in
    let within = h.1 in
    let width = is.width in
    let few = is.few in
    (record { sized = (omega arith, h.0, omega (arith, within, few)); there = omega (arith, width, within) }, tt)

-- the entries on ascending places of some pieces
pub entries-there : (design : FlatDesign) → AllHold IsSizedObject design.objects → (edge : Edge) (places : List (Option ℕ)) → Ascend 0 places → (offset : ℕ) (pieces : List Piece) →
    list_all (has_width design) pieces ≡ true →
    AllHold (IsEntryThere design) (entries_on edge places offset pieces)
entries-there design sized edge places up offset [] h = tt
entries-there design sized edge places up offset (piece ∷ pieces) h =
    AllHold-append (IsEntryThere design) (entry_on piece edge (run_within offset (offset + piece.width) places None)) (entries_on edge places (offset + piece.width) pieces)
    (entry-there design piece edge offset (run_within offset (offset + piece.width) places None)
    (piece-width design piece sized (and-left (has_width design piece) (list_all (has_width design) pieces) h))
    (run-within offset (offset + piece.width) 0 places None up tt))
    (entries-there design sized edge places up (offset + piece.width) pieces (and-right (has_width design piece) (list_all (has_width design) pieces) h))

-- with an edge an entry is on the least place alone
pub edge-ascends : (edge : Edge) (places : List (Option ℕ)) → Ascend 0 places → Ascend 0 (places_by_edge edge places)
edge-ascends Any places up = up
edge-ascends Pos [] up = tt
edge-ascends Pos (place ∷ places) up = one-ascends place
edge-ascends Neg [] up = tt
edge-ascends Neg (place ∷ places) up = one-ascends place

pub whole-ascends : (width : ℕ) → Ascend 0 (whole_places width)
whole-ascends width = whole-ascend 0 width

-- the places of a part of which nothing is wrong
pub between-ascends : (entry : Option ScopeEntry) (place : SourcePlace) (name : Identifier) (inside : List Fault) (from to : Option ℕ) → (ranged_reading entry place name inside from to).here ≡ [] →
    (ranged_reading entry place name inside from to).complete ≡ true →
    Ascend 0 (places_between (range_of_entry entry) from to)
between-ascends entry place name inside None to h c = tt
between-ascends entry place name inside (Some from) None h c = tt
between-ascends entry place name inside (Some from) (Some to) h c = part-ascends (range_of_entry entry) from to (alike entry h c)
  where
    by_alike : (test : Bool) → (part_if test place name inside from to).here ≡ [] → test ≡ true
    by_alike true e = refl
    by_alike false e = absurd (cc)

    by_ranged : (ranged : Bool) (range : DeclaredRange) → (part_reading ranged range place name inside (Some from) (Some to)).here ≡ [] → runs_alike range from to ≡ true
    by_ranged true range e = by_alike (runs_alike range from to) e
    by_ranged false range e = absurd (cc)

    alike : (found : Option ScopeEntry) → (ranged_reading found place name inside (Some from) (Some to)).here ≡ [] → (ranged_reading found place name inside (Some from) (Some to)).complete ≡ true →
        runs_alike (range_of_entry found) from to ≡ true
    alike None e d = absurd (cc)
    alike (Some (NetEntry range signed)) e d = by_ranged range.ranged range e
    alike (Some (RegEntry range signed)) e d = by_ranged range.ranged range e
    alike (Some (MemoryEntry range first last signed)) e d = absurd (cc)
    alike (Some (ParameterEntry value signed)) e d = absurd (cc)
    alike (Some RefusedParameter) e d = absurd (cc)
    alike (Some WaitingParameter) e d = absurd (cc)
    alike (Some GateEntry) e d = absurd (cc)
    alike (Some InstanceEntry) e d = absurd (cc)
