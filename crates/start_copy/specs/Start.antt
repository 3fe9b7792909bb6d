-- What a copy keeps at the start of a run, and that both machines stand in lockstep there (IEEE 1364-2001, clause 5; settled nets by clauses 6 and 7).
use Rattle.std.specs.Prelude.{◌≡◌, ◌≢◌, ℕ, List, [], length, Some}
use Rattle.four_value.specs.Values.{LogicValue}
use Rattle.v_design.specs.Assignments.{value_at}
use Rattle.v_design.specs.Designs.{FlatDesign, StuckAt, good_machine, faulty_machine}
use Rattle.v_design.specs.States.{start, found_or}
use Rattle.copy_laws.specs.Differences.{Differences, own_of, Ascend, StandsFor, KeepsNothingEqual}
use Rattle.copy_laws.specs.Rest.{SameLanes}
use Rattle.copy_state.specs.Kept.{CopyKept, nothing_kept}
use Rattle.lockstep_laws.specs.Lockstep.{AreInLockstep}
use Rattle.lockstep_laws.specs.Slots.{MayGoInLockstep, KeepsNothingSame}
use Rattle.lockstep_slots.specs.Kept.{kept_of, kept_within}

-- a copy has come to keep of each object what the faulty machine holds otherwise than the good one at the start, and of processes what it kept
pub record KeepsStart (design : FlatDesign) (fault : StuckAt) (old new : CopyKept) : Type 0 where
  pub rest : new ≡ record old { values = new.values }
  pub value_count : length (start (faulty_machine design fault)).values ≡ length (start (good_machine design)).values
  pub values : (object : ℕ) → value_at (start (faulty_machine design fault)).values object ≡ found_or (value_at (start (good_machine design)).values object) (own_of new.values object)
  pub differ : (object : ℕ) (own : LogicValue) → own_of new.values object ≡ Some own → own ≢ value_at (start (good_machine design)).values object
  pub ascend : Ascend new.values

-- differences in values alone
abbrev pub value_differences : List (ℕ × LogicValue) → Differences
value_differences values = record { values = values; activities = []; updates = [] }

-- at the start the good machine's state with these differences is the faulty machine's, both stand in lockstep, and nothing that is kept is the good machine's
pub record StandsAtStart (design : FlatDesign) (fault : StuckAt) (d : Differences) : Type 0 where
  pub stands : StandsFor d (start (good_machine design)) (start (faulty_machine design fault))
  pub lanes : SameLanes (start (good_machine design)) (start (faulty_machine design fault))
  pub nothing_equal : KeepsNothingEqual d (start (good_machine design))
  pub may : MayGoInLockstep d (start (good_machine design))
  pub lockstep : AreInLockstep (kept_within (kept_of d) (start (good_machine design))) (start (good_machine design)) (start (faulty_machine design fault))
  pub nothing_same : KeepsNothingSame (kept_within (kept_of d) (start (good_machine design))) (start (good_machine design))

abbrev pub StartsInLockstep : Type 0
StartsInLockstep =
    (design : FlatDesign) (fault : StuckAt) (number : ℕ) (new : CopyKept) → KeepsStart design fault (nothing_kept number) new →
    (new ≡ record (nothing_kept number) { values = new.values }) × StandsAtStart design fault (value_differences new.values)
