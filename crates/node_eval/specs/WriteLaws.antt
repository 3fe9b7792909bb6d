-- What a blocking assignment writes within a block (IEEE 1364-2001, clause 9.2.1).
use Rattle.std.proofs.Common.{◌≡◌, ℕ, zero, suc, ◌+◌, ◌-◌, ◌<◌, ◌≤◌, min, true, false, List, [], ◌∷◌, length, get_or, map, drop, refl, ap, inl, inr, arith, Option, Some, None}
use Rattle.std.specs.Prelude.{nat_eq, nat_le, slice_get, if◌then◌else◌}
use Rattle.std.proofs.lemmas.Bool.{or_left, or_right, or_cases, eq-eqb, eqb-true}
use Rattle.std.proofs.lemmas.List.{drop_more}
use Rattle.std.proofs.lemmas.List.Sums.{sum_by-cons}
use Rattle.four_value.specs.Values.{LogicValue, part_of}
use Rattle.vf_base.specs.Lists.{has, AllHold}
use Rattle.v_design.specs.Trees.{Memory, Target, WholeTarget, BitTarget, PartTarget, WordTarget}
use Rattle.v_design.specs.Plain.{target_of}
use Rattle.v_design.specs.declared.tree.FlatTarget.{FlatTarget}
use Rattle.v_design.specs.Expressions.{place_of_number, part_places, word_at}
use Rattle.v_design.specs.Assignments.{ValueUpdate, target_width, targets_width, part_update, bit_update, word_update, target_update, target_updates, index_value}
use Rattle.v_design.specs.Reads.{target_objects, targets_objects, named_in_target, named_in_targets}
use Rattle.v_design.specs.Sized.{IsSizedTarget, levels_of_target, levels_of_targets}
use Rattle.expr_eval.specs.Operands.{AreThere}
use Rattle.expr_eval.specs.WidthLaws.{AllHold-left, AllHold-right}
use Rattle.process_operands.specs.ChoiceLaws.{target_width-some}
use Rattle.node_eval.specs.Overlaid.{IsNone}
use Rattle.node_eval.specs.RunLaws.{has-left, has-right}

-- One target more

pub updates-from : (line : ℕ) (targets : List FlatTarget) (i : ℕ) (d : FlatTarget) (values : List LogicValue) (bits : LogicValue) → i < length targets →
    target_updates line (map target_of (drop i targets)) (map (index_value values) (map target_of (drop i targets))) bits
    ≡ target_update line (target_of (get_or targets i d)) (index_value values (target_of (get_or targets i d)))
    (part_of bits (targets_width (map target_of (drop (i + 1) targets))) (target_width (target_of (get_or targets i d))))
    ∷ target_updates line (map target_of (drop (i + 1) targets)) (map (index_value values) (map target_of (drop (i + 1) targets))) bits
updates-from line targets i d values bits low =
    ap (λ l. target_updates line (map target_of l) (map (index_value values) (map target_of l)) bits) (drop_more targets i d low)

pub target-there : (values : List LogicValue) (targets : List FlatTarget) (i : ℕ) (d : FlatTarget) → i < length targets → AreThere values (named_in_targets (map target_of targets)) →
    AreThere values (named_in_target (target_of (get_or targets i d)))
target-there values [] i d low h = absurd (omega arith)
target-there values (target ∷ targets) zero d low h = AllHold-left _ (named_in_target (target_of target)) (named_in_targets (map target_of targets)) h
target-there values (target ∷ targets) (suc i) d low h =
    target-there values targets i d (omega arith) (AllHold-right _ (named_in_target (target_of target)) (named_in_targets (map target_of targets)) h)

pub target-levels : (targets : List FlatTarget) (i : ℕ) (d : FlatTarget) → i < length targets → levels_of_target (target_of (get_or targets i d)) ≤ levels_of_targets (map target_of targets)
target-levels [] i d low = absurd (omega arith)
target-levels (target ∷ targets) zero d low = omega arith
target-levels (target ∷ targets) (suc i) d low = let rest = target-levels targets i d (omega arith) in omega arith

-- as each target has a bit, there are no more targets than bits
pub few-targets : (targets : List FlatTarget) → AllHold IsSizedTarget (map target_of targets) → length targets ≤ targets_width (map target_of targets)
few-targets [] sized = omega arith
few-targets (target ∷ targets) sized =
    omega (arith, few-targets targets sized.1, target_width-some (target_of target) sized.0, sum_by-cons target_width (target_of target) (map target_of targets))

-- Objects of updates

-- what an update writes is among some objects
abbrev pub IsAmong : List ℕ → Option ValueUpdate → Type 0
IsAmong objects None = Unit {0}
IsAmong objects (Some update) = has objects update.object ≡ true

here : (object : ℕ) (rest : List ℕ) → has (object ∷ rest) object ≡ true
here object rest = or_left (nat_eq object object) (has rest object) (eq-eqb object object refl)

bit-among : (objects : List ℕ) (line object : ℕ) (place : Option ℕ) (value : LogicValue) → has objects object ≡ true → IsAmong objects (bit_update line object place value)
bit-among objects line object None value h = tt
bit-among objects line object (Some place) value h = h

part-among : (objects : List ℕ) (line object : ℕ) (places : List (Option ℕ)) (value : LogicValue) → has objects object ≡ true → IsAmong objects (part_update line object places value)
part-among objects line object [] value h = tt
part-among objects line object (None ∷ places) [] h = tt
part-among objects line object (None ∷ places) (b ∷ value) h = part-among objects line object places value h
part-among objects line object (Some place ∷ places) value h = h

found-has : (words : List ℕ) (k object : ℕ) → slice_get words k ≡ Some object → has words object ≡ true
found-has [] k object e = cc
found-has (word ∷ words) zero object e = let same : word ≡ object = cc in or_left (nat_eq word object) (has words object) (eq-eqb word object same)
found-has (word ∷ words) (suc k) object e = or_right (nat_eq word object) (has words object) (found-has words k object e)

word-has : (memory : Memory) (index : Option ℕ) (object : ℕ) → word_at memory index ≡ Some object → has memory.words object ≡ true
word-has memory None object e = cc
word-has memory (Some address) object e =
    elim (nat_le (min memory.first memory.last) address) as (λ b. (if b then slice_get memory.words (address - min memory.first memory.last) else None) ≡ Some object →
    has memory.words object ≡ true) [
      | true ↦ λ h. found-has memory.words (address - min memory.first memory.last) object h
      | false ↦ λ h. absurd (cc)
    ] e

word-among : (objects : List ℕ) (line : ℕ) (found : Option ℕ) (value : LogicValue) → ((object : ℕ) → found ≡ Some object → has objects object ≡ true) → IsAmong objects (word_update line found value)
word-among objects line None value h = tt
word-among objects line (Some object) value h = h object refl

target-among : (objects : List ℕ) (line : ℕ) (target : Target) (index : Option ℕ) (value : LogicValue) → ((object : ℕ) → has (target_objects target) object ≡ true → has objects object ≡ true) →
    IsAmong objects (target_update line target index value)
target-among objects line (WholeTarget variable) index value h = h variable.object (here variable.object [])
target-among objects line (BitTarget variable at) index value h = bit-among objects line variable.object (place_of_number variable.high variable.low index) value
    (h variable.object (here variable.object []))
target-among objects line (PartTarget variable from to) index value h = part-among objects line variable.object (part_places variable.high variable.low from to) value
    (h variable.object (here variable.object []))
target-among objects line (WordTarget memory at) index value h = word-among objects line (word_at memory index) value (λ object e. h object (word-has memory index object e))

-- an assignment writes its targets' objects
pub targets-among : (objects : List ℕ) (line : ℕ) (targets : List Target) (indexes : List (Option ℕ)) (value : LogicValue) →
    ((object : ℕ) → has (targets_objects targets) object ≡ true → has objects object ≡ true) →
    AllHold (IsAmong objects) (target_updates line targets indexes value)
targets-among objects line [] indexes value h = tt
targets-among objects line (target ∷ targets) [] value h = tt
targets-among objects line (target ∷ targets) (index ∷ indexes) value h = (
  target-among objects line target index (part_of value (targets_width targets) (target_width target)) (λ object e. h object (has-left (target_objects target) (targets_objects targets) object e)),
  targets-among objects line targets indexes value (λ object e. h object (has-right (target_objects target) (targets_objects targets) object e)),
)

-- an object that is among some isn't none of them
pub none-has : (objects : List ℕ) (object : ℕ) → IsNone objects object → has objects object ≡ true → ⊥
none-has [] object none h = absurd (cc)
none-has (x ∷ objects) object none h =
    elim (or_cases (nat_eq x object) (has objects object) h) [
      | inl same ↦ none 0 (omega arith) (eqb-true x object same)
      | inr later ↦ none-has objects object (λ k low e. none (suc k) (omega arith) e) later
    ]
