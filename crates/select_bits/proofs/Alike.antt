-- Parts whose bounds run as those of a declaration do (IEEE 1364-2001, clause 4.2.1).
use Rattle.std.proofs.Common.{◌≡◌, ℕ, ◌+◌, ◌-◌, ◌<◌, ◌≤◌, Bool, true, false, List, [], ◌∷◌, map, nat_le, sym, ap, ◌∙◌, inl, inr, arith}
use Rattle.std.specs.Prelude.{nat_eq, nat_lt, if◌then◌else◌}
use Rattle.std.proofs.lemmas.Bool.{cases_Bool, or_cases, eqb-true, ltb-true, ltb-false}
use Rattle.std.proofs.lemmas.Bool.Decides.{leb_tells}
use Rattle.v_design.specs.Expressions.{up_from, down_from, place_of, part_indexes, part_places}
use Rattle.v_names.specs.Scopes.{DeclaredRange}
use Rattle.v_names.specs.Readings.{runs_alike}

alike-rising : (range : DeclaredRange) (from to : ℕ) → runs_alike range from to ≡ true → range.low ≤ range.high → to ≤ from
alike-rising range from to e down =
    elim (or_cases (nat_eq from to) (if nat_lt range.high range.low then nat_lt from to else nat_lt to from) e) [
      | inl same ↦ let is = eqb-true from to same in omega (arith, is)
      | inr runs ↦
          elim (cases_Bool (nat_lt range.high range.low)) [
            | inl up ↦ let less = ltb-true range.high range.low up in absurd (omega (arith, less, down))
            | inr other ↦ let less = ltb-true to from (ap (λ b. if b then nat_lt from to else nat_lt to from) (sym other) ∙ runs) in omega (arith, less)
          ]
    ]

alike-falling : (range : DeclaredRange) (from to : ℕ) → runs_alike range from to ≡ true → range.high < range.low → from ≤ to
alike-falling range from to e up =
    elim (or_cases (nat_eq from to) (if nat_lt range.high range.low then nat_lt from to else nat_lt to from) e) [
      | inl same ↦ let is = eqb-true from to same in omega (arith, is)
      | inr runs ↦
          elim (cases_Bool (nat_lt range.high range.low)) [
            | inl holds ↦ let less = ltb-true from to (ap (λ b. if b then nat_lt from to else nat_lt to from) (sym holds) ∙ runs) in omega (arith, less)
            | inr other ↦ let more = ltb-false range.high range.low other in absurd (omega (arith, more, up))
          ]
    ]

indexes-up : (from to : ℕ) → to ≤ from → part_indexes from to ≡ up_from to (from - to + 1)
indexes-up from to h =
    elim (leb_tells to from) [
      | inl holds ↦ ap (λ b. if b then up_from to (from - to + 1) else down_from to (to - from + 1)) holds.0
      | inr fails ↦ let less = fails.1 in absurd (omega (arith, less, h))
    ]

indexes-down : (from to : ℕ) → from ≤ to → part_indexes from to ≡ down_from to (to - from + 1)
indexes-down from to h =
    elim (leb_tells to from) [
      | inl holds ↦
          let least = holds.1 in
          let up : from - to + 1 ≡ 1 = omega (arith, least, h) in
          let down : 1 ≡ to - from + 1 = omega (arith, least, h) in
          ap (λ b. if b then up_from to (from - to + 1) else down_from to (to - from + 1)) holds.0 ∙ ap (up_from to) up ∙ ap (down_from to) down
      | inr fails ↦ ap (λ b. if b then up_from to (from - to + 1) else down_from to (to - from + 1)) fails.0
    ]

-- a part of a range whose indexes rise
pub rising-order : (range : DeclaredRange) (from to : ℕ) → runs_alike range from to ≡ true → range.low ≤ range.high →
    (to ≤ from) × (map (place_of range.high range.low) (up_from to (from - to + 1)) ≡ part_places range.high range.low from to)
rising-order range from to alike down =
    let order = alike-rising range from to alike down in
    (order, ap (λ (indexes : List ℕ). map (place_of range.high range.low) indexes) (sym (indexes-up from to order)))

-- and of one whose indexes fall
pub falling-order : (range : DeclaredRange) (from to : ℕ) → runs_alike range from to ≡ true → range.high < range.low →
    (from ≤ to) × (map (place_of range.high range.low) (down_from to (to - from + 1)) ≡ part_places range.high range.low from to)
falling-order range from to alike up =
    let order = alike-falling range from to alike up in
    (order, ap (λ (indexes : List ℕ). map (place_of range.high range.low) indexes) (sym (indexes-down from to order)))
