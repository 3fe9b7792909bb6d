-- Watched bits of both machines (bits by IEEE 1364-2001, clause 3.1).
use Rattle.std.proofs.Common.{◌≡◌, ℕ, ◌<◌, true, false, List, length, refl, sym, ap, ◌∙◌}
use Rattle.std.specs.Prelude.{None}
use Rattle.four_value.specs.Bits.{same_bit}
use Rattle.four_value.specs.Values.{LogicValue, bit_at}
use Rattle.four_value.specs.declared.logic.Bit.{Bit}
use Rattle.four_value.specs.declared.logic.Bit.TheVariants.{Zero, One, X, Z}
use Rattle.vf_base.specs.Base.{WatchedBit}
use Rattle.v_design.specs.Assignments.{value_at}
use Rattle.v_design.specs.Grades.{is_hard, is_possible}
use Rattle.v_design.specs.States.{found_or}
use Rattle.copy_laws.specs.Differences.{own_of}
use Rattle.copy_overlay.specs.Faulty.{faulty_values}
use Rattle.copy_overlay.specs.FaultyLaws.{value-faulty}
use Rattle.slot_strobes.specs.Strobes.{bit_in}

same-not-hard : (bit : Bit) → is_hard bit bit ≡ false
same-not-hard Zero = refl
same-not-hard One = refl
same-not-hard X = refl
same-not-hard Z = refl

same-not-possible : (bit : Bit) → is_possible bit bit ≡ false
same-not-possible Zero = refl
same-not-possible One = refl
same-not-possible X = refl
same-not-possible Z = refl

same-bit-is : (bit : Bit) → same_bit bit bit ≡ true
same-bit-is Zero = refl
same-bit-is One = refl
same-bit-is X = refl
same-bit-is Z = refl

module _ (good : List LogicValue) (own : List (ℕ × LogicValue)) (watched : WatchedBit) (within : watched.object < length good) where
  -- of an object of which no value is kept
  module _ (none : own_of own watched.object ≡ None) where
    alike : bit_in (faulty_values good own) watched ≡ bit_in good watched
    alike = ap (λ (value : LogicValue). bit_at value watched.bit) (value-faulty good own watched.object within ∙ ap (found_or (value_at good watched.object)) none)

    pub alike-not-hard : false ≡ is_hard (bit_in good watched) (bit_in (faulty_values good own) watched)
    alike-not-hard = sym (ap (is_hard (bit_in good watched)) alike ∙ same-not-hard (bit_in good watched))

    pub alike-not-possible : false ≡ is_possible (bit_in good watched) (bit_in (faulty_values good own) watched)
    alike-not-possible = sym (ap (is_possible (bit_in good watched)) alike ∙ same-not-possible (bit_in good watched))

    pub alike-same : true ≡ same_bit (bit_in (faulty_values good own) watched) (bit_in good watched)
    alike-same = sym (ap (λ (bit : Bit). same_bit bit (bit_in good watched)) alike ∙ same-bit-is (bit_in good watched))

  -- and of any
  pub own-bit : (value : LogicValue) (bit : Bit) → bit ≡ bit_at (found_or value (own_of own watched.object)) watched.bit → value ≡ value_at good watched.object →
      bit ≡ bit_in (faulty_values good own) watched
  own-bit value bit is same =
      is
      ∙ ap (λ (v : LogicValue). bit_at (found_or v (own_of own watched.object)) watched.bit) same
      ∙ ap (λ (v : LogicValue). bit_at v watched.bit) (sym (value-faulty good own watched.object within))
