-- What is kept behind two blocks is what both machines differ in.
use Rattle.std.proofs.Common.{◌≡◌, ◌≢◌, ℕ, List, length, Bool, true, false, refl, sym, ap, subst, ◌∙◌}
use Rattle.std.specs.Prelude.{Option, Some, None}
use Rattle.std.specs.Option.{option_map}
use Rattle.four_value.specs.Values.{LogicValue}
use Rattle.v_design.specs.Designs.{FlatDesign, StuckAt, good_machine, faulty_machine}
use Rattle.v_design.specs.Assignments.{value_at}
use Rattle.v_design.specs.States.{State, ProcessState, Event, process_at, found_or}
use Rattle.v_design.specs.Runs.{happened}
use Rattle.copy_laws.specs.Moves.{Parts, ChangesOnly}
use Rattle.lockstep_laws.specs.Blocks.{with_all_nodes}
use Rattle.lockstep_laws.specs.Slots.{KeepsNothingSame}
use Rattle.lockstep_index.specs.Writes.{OwnWrites, with_writes}
use Rattle.lockstep_copy.specs.lockstep_slots.Kept.{LockstepKept, kept_within}
use Rattle.lockstep_copy.specs.lockstep_slots.Standing.{BlocksDiffer}
use Rattle.lockstep_copy.specs.Kept.{TellsWrites}
use Rattle.lockstep_compare.specs.Compared.{writes_in, IsKeptBehind, ComparisonsTell}

-- One process

-- one that does the same is the good one with what is kept of its updates
with-kept : (good own : ProcessState) (found : Option OwnWrites) → own.activity ≡ good.activity → writes_in own ≡ found_or (writes_in good) found → own ≡ with_writes found good
with-kept good own None does same = λ i. record { activity = does i; later = (ap (λ (w : OwnWrites). w.later) same) i; lane = (ap (λ (w : OwnWrites). w.lane) same) i }
with-kept good own (Some kept) does same = λ i. record { activity = does i; later = (ap (λ (w : OwnWrites). w.later) same) i; lane = (ap (λ (w : OwnWrites). w.lane) same) i }

-- what is kept isn't the good one
kept-differs : (good own : ProcessState) (found : Option OwnWrites) → ((kept : OwnWrites) → found ≡ Some kept → kept ≢ writes_in good) →
    option_map (λ (w : OwnWrites). with_writes (Some w) good) found ≡ Some own → own ≢ good
kept-differs good own None differs e = cc
kept-differs good own (Some kept) differs e = λ same. differs kept refl (ap writes_in (let is : with_writes (Some kept) good ≡ own = cc in is ∙ same))

-- The law

module _ (design : FlatDesign) (fault : StuckAt) (parts : Parts) (good faulty : State) (ones others : List Event) (old new : LockstepKept)
    (good_changes : ChangesOnly (with_all_nodes parts) good (happened (good_machine design) good ones))
    (own_changes : ChangesOnly (with_all_nodes parts) faulty (happened (faulty_machine design fault) faulty others)) (nothing : KeepsNothingSame (kept_within old good) good)
    (kept : IsKeptBehind parts (happened (good_machine design) good ones) (happened (faulty_machine design fault) faulty others) old new) where
  value-other : (object : ℕ) (own : LogicValue) (b : Bool) → parts.objects object ≡ b → new.values object ≡ Some own → own ≢ value_at (happened (good_machine design) good ones).values object
  value-other object own true inside is = (kept.values object inside).differs own is
  value-other object own false outside is = λ same.
      nothing.values object own (sym (kept.values_stay object outside) ∙ is) (same ∙ good_changes.values object outside)

  process-other : (process : ℕ) (own : ProcessState) (b : Bool) → parts.processes process ≡ b →
      option_map (λ (w : OwnWrites). with_writes (Some w) (process_at (happened (good_machine design) good ones) process)) (new.writes process) ≡ Some own →
      own ≢ process_at (happened (good_machine design) good ones) process
  process-other process own true inside is =
      kept-differs (process_at (happened (good_machine design) good ones) process) own (new.writes process) (kept.writes process inside).difference.differs is
  process-other process own false outside is = λ same.
      nothing.processes process own
      ((λ i. option_map (λ (w : OwnWrites). with_writes (Some w) (sym (good_changes.processes process outside) i)) (sym (kept.writes_stay process outside) i)) ∙ is)
      (same ∙ good_changes.processes process outside)

  compared : BlocksDiffer design fault parts good faulty ones others old new
  compared = record {
    good_changes = good_changes;
    own_changes = own_changes;
    compared = record {
      values_stay = kept.values_stay;
      writes_stay = kept.writes_stay;
      values = λ object inside. (kept.values object inside).tells;
      processes = λ process inside.
          with-kept (process_at (happened (good_machine design) good ones) process) (process_at (happened (faulty_machine design fault) faulty others) process) (new.writes process)
          (kept.activities process inside) (kept.writes process inside).difference.tells;
      due = λ process own inside is. (kept.writes process inside).due own is;
      lanes = λ process own inside is. (kept.writes process inside).lane own is;
      nothing_same = record {
        values = λ object own is. value-other object own (parts.objects object) refl is;
        processes = λ process own is. process-other process own (parts.processes process) refl is;
      };
    };
  }

pub comparisons_tell : ComparisonsTell
comparisons_tell = compared
