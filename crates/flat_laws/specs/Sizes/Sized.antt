-- Statements of which nothing is wrong are sized over the objects that hold their names (IEEE 1364-2001, clause 4.4 for sizes, clause 9.2 for assignments, clause 9.5 for cases).
use Rattle.std.proofs.Common.{◌≡◌, ℕ, zero, suc, ◌+◌, ◌-◌, ◌≤◌, Bool, true, false, ◌&&◌, List, [], ◌∷◌, ◌++◌, length, map, Option, Some, None, nat_le, refl, sym, ap, ap₂, ◌∙◌, inl, inr, arith}
use Rattle.std.specs.Prelude.{flat_map}
use Rattle.std.proofs.lemmas.Bool.{leb-true}
use Rattle.std.proofs.lemmas.Bool.Decides.{leb_tells}
use Rattle.std.proofs.lemmas.List.Sums.{sum_by-cons}
use Rattle.vf_base.specs.Base.{SourcePlace}
use Rattle.vf_base.specs.Lists.{AllHold}
use Rattle.v_design.specs.Trees.{Target}
use Rattle.v_design.specs.Expressions.{up_from, down_from}
use Rattle.v_design.specs.Assignments.{part_width, target_width, targets_width}
use Rattle.v_design.specs.Sized.{span, most_bits, pieces_width, HasItsBits, IsSizedAlone, IsSizedVariable, IsSizedTarget, IsSizedEntry}
use Rattle.v_tree.specs.Trees.{Identifier, SourceExpression, SourceIndex, NoIndex, IndexAt, IndexRange, SourceSelect, SourceWaits, SourceStatement}
use Rattle.v_names.specs.Faults.{Fault}
use Rattle.v_names.specs.Scopes.{DeclaredRange, ScopeEntry, ParameterEntry, RefusedParameter, WaitingParameter, NetEntry, RegEntry, MemoryEntry, GateEntry, InstanceEntry, looked_up, range_width}
use Rattle.v_names.specs.Scopes.{is_memory}
use Rattle.v_names.specs.SizedTrees.{SizedExpression}
use Rattle.v_names.specs.Readings.{Size, alone_faults, sized_if, name_reading, bit_reading, indexed_reading, runs_alike, part_if, part_reading, ranged_reading, reading_of, select_reading}
use Rattle.v_names.specs.Readings.{number_of_constant, number_or}
use Rattle.v_names.specs.Constants.{known_faults, name_faults, index_faults, select_faults}
use Rattle.v_names.specs.Names.{entry_faults}
use Rattle.v_names.specs.SizedLaws.{IsHeld, HasSize, and-left, and-right, alone-sized, reading-sound}
use Rattle.v_width.specs.Targets.{ByProcess, may_write, written_reading, target_select_reading, width_of_size, sum_of_widths, selects_reading}
use Rattle.v_elab.specs.ItemFaults.{size_faults, waits_faults}
use Rattle.v_elab.specs.Statements.{Meaning, alone_expression, variable_of, indexed_target, target_by_index, wait_entries}
use Rattle.flat_laws.specs.Drivers.Held.{held-all}
use Rattle.flat_laws.specs.Sizes.Complete.{append-none, IsSettled, expression-complete, select-full}

-- What the names of a statement mean

-- what is declared is at most as wide as a vector may be
abbrev pub FitsVector : Option ScopeEntry → Type 0
FitsVector (Some (NetEntry range signed)) = range_width range ≤ most_bits
FitsVector (Some (RegEntry range signed)) = range_width range ≤ most_bits
FitsVector (Some (MemoryEntry range first last signed)) = range_width range ≤ most_bits
FitsVector _ = Unit {0}

-- the names of a scope are held by objects, and its parameters have values
pub record IsMeant (meaning : Meaning) : Type 0 where
  pub held : (name : Identifier) → IsHeld meaning.holders name (looked_up meaning.scope name)
  pub settled : IsSettled meaning.scope
  pub fits : (name : Identifier) → FitsVector (looked_up meaning.scope name)
  -- the entries of waits have bits
  pub entries : (waits : SourceWaits) (body : SourceStatement) → entry_faults meaning.scope waits ≡ [] → waits_faults meaning.scope waits ≡ [] → AllHold IsSizedEntry (wait_entries meaning waits body)

-- Expressions

pub complete-size : (meaning : Meaning) → IsMeant meaning → (e : SourceExpression) → (reading_of meaning.scope e).complete ≡ true → HasSize meaning.holders (reading_of meaning.scope e)
complete-size meaning meant e complete = reading-sound meaning.holders meaning.scope e (held-all meaning.holders meaning.scope meant.held e) complete

pub complete-alone : (meaning : Meaning) → IsMeant meaning → (e : SourceExpression) → (reading_of meaning.scope e).complete ≡ true → IsSizedAlone (alone_expression meaning e)
complete-alone meaning meant e complete =
    let s = alone-sized meaning.holders (reading_of meaning.scope e) (complete-size meaning meant e complete) in (s.width_is ∙ sym s.own_is, s.sized)

-- an expression of which nothing is wrong is sized alone
pub alone-sound : (meaning : Meaning) → IsMeant meaning → (e : SourceExpression) → name_faults meaning.scope e ≡ [] → size_faults meaning.scope e ≡ [] → IsSizedAlone (alone_expression meaning e)
alone-sound meaning meant e names sizes = complete-alone meaning meant e (expression-complete meaning.scope meant.settled e names sizes)

-- Targets

up-long : (n start : ℕ) → length (up_from start n) ≡ n
up-long zero start = refl
up-long (suc n) start = ap suc (up-long n (start + 1))

down-long : (n start : ℕ) → length (down_from start n) ≡ n
down-long zero start = refl
down-long (suc n) start = ap suc (down-long n (start - 1))

pub part-long : (from to : ℕ) → part_width from to ≡ span from to
part-long from to =
    elim (leb_tells to from) [
      | inl low ↦ let e = low.0 in let h = low.1 in let k : from - to + 1 ≡ span from to = omega (arith, h) in rw e (up-long (from - to + 1) to ∙ k)
      | inr high ↦ let e = high.0 in let h = high.1 in let k : to - from + 1 ≡ span from to = omega (arith, h) in rw e (down-long (to - from + 1) to ∙ k)
    ]

-- a select that may be written, with the width that it has
record TargetFits (target : Target) (size : Option Size) : Type 0 where
  z : Size
  size_is : size ≡ Some z
  width : target_width target ≡ z.width
  some : 1 ≤ z.width
  few : z.width ≤ most_bits
  sized : IsSizedTarget target

-- a size that is looked at holds
pub record SizeHolds (test complete : Bool) (size : Size) (found : Option Size) : Type 0 where
  pub passes : test ≡ true
  pub whole : complete ≡ true
  pub size_is : found ≡ Some size

pub sized_if-holds : (test : Bool) (place : SourcePlace) (size : Size) (complete : Bool) (inside : List Fault) (tree : ℕ → Bool → SizedExpression) →
    (sized_if test place size complete inside tree).complete ≡ true →
    SizeHolds test complete size (sized_if test place size complete inside tree).size
sized_if-holds true place size complete inside tree c = record { passes = refl; whole = c; size_is = refl }
sized_if-holds false place size complete inside tree c = absurd (cc)

pub within-room : (width : ℕ) → (nat_le 1 width && nat_le width most_bits) ≡ true → (1 ≤ width) × (width ≤ most_bits)
within-room width e = (leb-true 1 width (and-left (nat_le 1 width) (nat_le width most_bits) e), leb-true width most_bits (and-right (nat_le 1 width) (nat_le width most_bits) e))

variable-sized : (meaning : Meaning) (name : Identifier) (range : DeclaredRange) → HasItsBits (meaning.holders.vector name)
    × (pieces_width (meaning.holders.vector name).pieces ≡ range_width range) → range_width range ≤ most_bits →
    IsSizedVariable (variable_of (meaning.holders.vector name))
variable-sized meaning name range held fits = let e = held.1 in (held.0, omega (arith, e, fits))

whole-fits : (meaning : Meaning) (name : Identifier) (place : SourcePlace) (entry : Option ScopeEntry) → IsHeld meaning.holders name entry → FitsVector entry → may_write ByProcess entry ≡ true →
    known_faults entry place ≡ [] →
    (name_reading entry place name).complete ≡ true → TargetFits (target_by_index meaning name NoIndex) (name_reading entry place name).size
whole-fits meaning name place (Some (RegEntry range signed)) held fits writes known c =
    let h = sized_if-holds (nat_le 1 (range_width range) && nat_le (range_width range) most_bits) place (record { width = range_width range; signed = signed }) true [] _ c in
    let room = within-room (range_width range) h.passes in
    record { z = record { width = range_width range; signed = signed }; size_is = h.size_is; width = held.1; some = room.0; few = room.1; sized = variable-sized meaning name range held fits }
whole-fits meaning name place None held fits writes known c = absurd (cc)
whole-fits meaning name place (Some (NetEntry range signed)) held fits writes known c = absurd (cc)
whole-fits meaning name place (Some (MemoryEntry range first last signed)) held fits writes known c = absurd (cc)
whole-fits meaning name place (Some (ParameterEntry value signed)) held fits writes known c = absurd (cc)
whole-fits meaning name place (Some RefusedParameter) held fits writes known c = absurd (cc)
whole-fits meaning name place (Some WaitingParameter) held fits writes known c = absurd (cc)
whole-fits meaning name place (Some GateEntry) held fits writes known c = absurd (cc)
whole-fits meaning name place (Some InstanceEntry) held fits writes known c = absurd (cc)

bit-fits : (meaning : Meaning) (name : Identifier) (place : SourcePlace) (range : DeclaredRange) (index : SourceExpression) (ranged : Bool) →
    IsSizedVariable (variable_of (meaning.holders.vector name)) →
    ((reading_of meaning.scope index).complete ≡ true → IsSizedAlone (alone_expression meaning index)) → (bit_reading ranged place name (reading_of meaning.scope index)).complete ≡ true →
    TargetFits (indexed_target false meaning name index) (bit_reading ranged place name (reading_of meaning.scope index)).size
bit-fits meaning name place range index true variable alone c = record {
  z = record { width = 1; signed = false };
  size_is = refl;
  width = refl;
  some = omega arith;
  few = omega arith;
  sized = (variable, alone c);
}
bit-fits meaning name place range index false variable alone c = absurd (cc)

index-fits : (meaning : Meaning) (name : Identifier) (place : SourcePlace) (index : SourceExpression) (entry : Option ScopeEntry) → IsHeld meaning.holders name entry → FitsVector entry →
    may_write ByProcess entry ≡ true → known_faults entry place ≡ [] →
    ((reading_of meaning.scope index).complete ≡ true → IsSizedAlone (alone_expression meaning index)) → (indexed_reading entry place name (reading_of meaning.scope index)).complete ≡ true →
    TargetFits (indexed_target (is_memory entry) meaning name index) (indexed_reading entry place name (reading_of meaning.scope index)).size
index-fits meaning name place index (Some (RegEntry range signed)) held fits writes known alone c =
    bit-fits meaning name place range index range.ranged (variable-sized meaning name range held fits) alone c
index-fits meaning name place index (Some (MemoryEntry range first last signed)) held fits writes known alone c =
    let reading = reading_of meaning.scope index in
    let h = sized_if-holds (nat_le 1 (range_width range) && nat_le (range_width range) most_bits) place (record { width = range_width range; signed = signed }) reading.complete
    (alone_faults reading) _ c in
    let room = within-room (range_width range) h.passes in
    let e = held.1 in
    let some = room.0 in
    record {
      z = record { width = range_width range; signed = signed };
      size_is = h.size_is;
      width = held.1;
      some = room.0;
      few = room.1;
      sized = ((omega arith, omega (arith, e, some), omega (arith, e, fits)), held.0, alone h.whole);
    }
index-fits meaning name place index None held fits writes known alone c = absurd (cc)
index-fits meaning name place index (Some (NetEntry range signed)) held fits writes known alone c = absurd (cc)
index-fits meaning name place index (Some (ParameterEntry value signed)) held fits writes known alone c = absurd (cc)
index-fits meaning name place index (Some RefusedParameter) held fits writes known alone c = absurd (cc)
index-fits meaning name place index (Some WaitingParameter) held fits writes known alone c = absurd (cc)
index-fits meaning name place index (Some GateEntry) held fits writes known alone c = absurd (cc)
index-fits meaning name place index (Some InstanceEntry) held fits writes known alone c = absurd (cc)

alike-fits : (meaning : Meaning) (name : Identifier) (place : SourcePlace) (inside : List Fault) (from to : ℕ) (alike : Bool) → IsSizedVariable (variable_of (meaning.holders.vector name)) →
    (part_if alike place name inside from to).complete ≡ true →
    (z : Size) × ((part_if alike place name inside from to).size ≡ Some z) × (part_width from to ≡ z.width) × (1 ≤ z.width) × (z.width ≤ most_bits)
alike-fits meaning name place inside from to true variable c =
    let h = sized_if-holds (nat_le 1 (span from to) && nat_le (span from to) most_bits) place (record { width = span from to; signed = false }) true inside _ c in
    let room = within-room (span from to) h.passes in
    (record { width = span from to; signed = false }, h.size_is, part-long from to, room.0, room.1)
alike-fits meaning name place inside from to false variable c = absurd (cc)

between-fits : (meaning : Meaning) (name : Identifier) (place : SourcePlace) (range : DeclaredRange) (inside : List Fault) (ranged : Bool) (from to : Option ℕ) →
    IsSizedVariable (variable_of (meaning.holders.vector name)) →
    (part_reading ranged range place name inside from to).complete ≡ true →
    (z : Size) × ((part_reading ranged range place name inside from to).size ≡ Some z) × (part_width (number_or 0 from) (number_or 0 to) ≡ z.width) × (1 ≤ z.width) × (z.width ≤ most_bits)
between-fits meaning name place range inside false from to variable c = absurd (cc)
between-fits meaning name place range inside true None to variable c = absurd (cc)
between-fits meaning name place range inside true (Some from) None variable c = absurd (cc)
between-fits meaning name place range inside true (Some from) (Some to) variable c = alike-fits meaning name place inside from to (runs_alike range from to) variable c

range-fits : (meaning : Meaning) (name : Identifier) (place : SourcePlace) (from to : SourceExpression) (inside : List Fault) (entry : Option ScopeEntry) → IsHeld meaning.holders name entry →
    FitsVector entry → may_write ByProcess entry ≡ true →
    known_faults entry place ≡ [] → (ranged_reading entry place name inside (number_of_constant meaning.scope from) (number_of_constant meaning.scope to)).complete ≡ true →
    TargetFits (target_by_index meaning name (IndexRange from to)) (ranged_reading entry place name inside (number_of_constant meaning.scope from) (number_of_constant meaning.scope to)).size
range-fits meaning name place from to inside (Some (RegEntry range signed)) held fits writes known c =
    let variable = variable-sized meaning name range held fits in
    let r = between-fits meaning name place range inside range.ranged (number_of_constant meaning.scope from) (number_of_constant meaning.scope to) variable c in
    record { z = r.0; size_is = r.1; width = r.2; some = r.3; few = r.4; sized = variable }
range-fits meaning name place from to inside None held fits writes known c = absurd (cc)
range-fits meaning name place from to inside (Some (NetEntry range signed)) held fits writes known c = absurd (cc)
range-fits meaning name place from to inside (Some (MemoryEntry range first last signed)) held fits writes known c = absurd (cc)
range-fits meaning name place from to inside (Some (ParameterEntry value signed)) held fits writes known c = absurd (cc)
range-fits meaning name place from to inside (Some RefusedParameter) held fits writes known c = absurd (cc)
range-fits meaning name place from to inside (Some WaitingParameter) held fits writes known c = absurd (cc)
range-fits meaning name place from to inside (Some GateEntry) held fits writes known c = absurd (cc)
range-fits meaning name place from to inside (Some InstanceEntry) held fits writes known c = absurd (cc)

select-fits : (meaning : Meaning) → IsMeant meaning → (place : SourcePlace) (name : Identifier) (index : SourceIndex) → may_write ByProcess (looked_up meaning.scope name) ≡ true →
    known_faults (looked_up meaning.scope name) place ++ index_faults meaning.scope index ≡ [] → (select_reading meaning.scope place name index).complete ≡ true →
    TargetFits (target_by_index meaning name index) (select_reading meaning.scope place name index).size
select-fits meaning meant place name NoIndex writes names c =
    whole-fits meaning name place (looked_up meaning.scope name) (meant.held name) (meant.fits name) writes (append-none (known_faults (looked_up meaning.scope name) place) [] names).0 c
select-fits meaning meant place name (IndexAt index) writes names c =
    index-fits meaning name place index (looked_up meaning.scope name) (meant.held name) (meant.fits name) writes
    (append-none (known_faults (looked_up meaning.scope name) place) (name_faults meaning.scope index) names).0
    (λ complete. complete-alone meaning meant index complete) c
select-fits meaning meant place name (IndexRange from to) writes names c =
    range-fits meaning name place from to (alone_faults (reading_of meaning.scope from) ++ alone_faults (reading_of meaning.scope to)) (looked_up meaning.scope name) (meant.held name)
    (meant.fits name) writes
    (append-none (known_faults (looked_up meaning.scope name) place) (index_faults meaning.scope (IndexRange from to)) names).0 c

written-fits : (meaning : Meaning) → IsMeant meaning → (select : SourceSelect) (writes : Bool) → may_write ByProcess (looked_up meaning.scope select.name) ≡ writes →
    select_faults meaning.scope select ≡ [] →
    (written_reading writes select.place (select_reading meaning.scope select.place select.name select.index)).here ≡ [] →
    (written_reading writes select.place (select_reading meaning.scope select.place select.name select.index)).inside ≡ [] →
    TargetFits (target_by_index meaning select.name select.index) (written_reading writes select.place (select_reading meaning.scope select.place select.name select.index)).size
written-fits meaning meant select true e names h i =
    select-fits meaning meant select.place select.name select.index e names (select-full meaning.scope meant.settled select.place select.name select.index names h i)
written-fits meaning meant select false e names h i = absurd (cc)

-- several selects, with the width that they have together
pub record TargetsFit (targets : List Target) (width : Option ℕ) : Type 0 where
  pub total : ℕ
  pub width_is : width ≡ Some total
  pub targets_is : targets_width targets ≡ total
  pub sized : AllHold IsSizedTarget targets

pub selects-fit : (meaning : Meaning) → IsMeant meaning → (selects : List SourceSelect) → flat_map (select_faults meaning.scope) selects ≡ [] →
    (selects_reading ByProcess meaning.scope selects).here ≡ [] →
    (selects_reading ByProcess meaning.scope selects).inside ≡ [] → TargetsFit (map (λ (s : SourceSelect). target_by_index meaning s.name s.index) selects)
    (selects_reading ByProcess meaning.scope selects).width
selects-fit meaning meant [] names h i = record { total = 0; width_is = refl; targets_is = refl; sized = tt }
selects-fit meaning meant (select ∷ selects) names h i =
    let none = append-none (select_faults meaning.scope select) (flat_map (select_faults meaning.scope) selects) names in
    let here = append-none (target_select_reading ByProcess meaning.scope select).here (selects_reading ByProcess meaning.scope selects).here h in
    let inside = append-none (target_select_reading ByProcess meaning.scope select).inside (selects_reading ByProcess meaning.scope selects).inside i in
    let first = written-fits meaning meant select (may_write ByProcess (looked_up meaning.scope select.name)) refl none.0 here.0 inside.0 in
    let rest = selects-fit meaning meant selects none.1 here.1 inside.1 in
    let target = target_by_index meaning select.name select.index in
    let others = map (λ (s : SourceSelect). target_by_index meaning s.name s.index) selects in
    let sum : targets_width (target ∷ others) ≡ target_width target + targets_width others = sum_by-cons target_width target others in
    let one = first.width in
    let later = rest.targets_is in
    record {
      total = first.z.width + rest.total;
      width_is = ap₂ (λ z w. sum_of_widths (width_of_size z) w) first.size_is rest.width_is;
      targets_is = omega (arith, sum, one, later);
      sized = (first.sized, rest.sized);
    }

-- a target has at least one bit
pub some-bits : (meaning : Meaning) → IsMeant meaning → (select : SourceSelect) (selects : List SourceSelect) → flat_map (select_faults meaning.scope) (select ∷ selects) ≡ [] →
    (selects_reading ByProcess meaning.scope (select ∷ selects)).here ≡ [] →
    (selects_reading ByProcess meaning.scope (select ∷ selects)).inside ≡ [] → 1 ≤ targets_width (map (λ (s : SourceSelect). target_by_index meaning s.name s.index) (select ∷ selects))
some-bits meaning meant select selects names h i =
    let none = append-none (select_faults meaning.scope select) (flat_map (select_faults meaning.scope) selects) names in
    let here = append-none (target_select_reading ByProcess meaning.scope select).here (selects_reading ByProcess meaning.scope selects).here h in
    let inside = append-none (target_select_reading ByProcess meaning.scope select).inside (selects_reading ByProcess meaning.scope selects).inside i in
    let first = written-fits meaning meant select (may_write ByProcess (looked_up meaning.scope select.name)) refl none.0 here.0 inside.0 in
    let target = target_by_index meaning select.name select.index in
    let others = map (λ (s : SourceSelect). target_by_index meaning s.name s.index) selects in
    let sum : targets_width (target ∷ others) ≡ target_width target + targets_width others = sum_by-cons target_width target others in
    let one = first.width in
    let some = first.some in
    omega (arith, sum, one, some)

-- one select is at most as wide as a vector may be
pub one-few : (meaning : Meaning) → IsMeant meaning → (select : SourceSelect) → flat_map (select_faults meaning.scope) (select ∷ []) ≡ [] →
    (selects_reading ByProcess meaning.scope (select ∷ [])).here ≡ [] →
    (selects_reading ByProcess meaning.scope (select ∷ [])).inside ≡ [] → targets_width (target_by_index meaning select.name select.index ∷ []) ≤ most_bits
one-few meaning meant select names h i =
    let none = append-none (select_faults meaning.scope select) [] names in
    let here = append-none (target_select_reading ByProcess meaning.scope select).here [] h in
    let inside = append-none (target_select_reading ByProcess meaning.scope select).inside [] i in
    let first = written-fits meaning meant select (may_write ByProcess (looked_up meaning.scope select.name)) refl none.0 here.0 inside.0 in
    let sum : targets_width (target_by_index meaning select.name select.index ∷ []) ≡ target_width (target_by_index meaning select.name select.index) + targets_width [] =
    sum_by-cons target_width (target_by_index meaning select.name select.index) [] in
    let nothing : targets_width [] ≡ 0 = refl in
    let one = first.width in
    let few = first.few in
    omega (arith, sum, nothing, one, few)
