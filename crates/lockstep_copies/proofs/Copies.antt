-- A copy from slot to slot.
use Rattle.std.proofs.Common.{◌≡◌, ℕ, suc, ◌<◌, ◌≤◌, refl, sym, ap, subst, ◌∙◌, arith}
use Rattle.std.specs.Prelude.{Option, Some, None, slice_get}
use Rattle.v_design.specs.Designs.{FlatDesign, StuckAt, TestPlan, good_machine, faulty_machine}
use Rattle.v_design.specs.States.{State, ProcessState, TimeTurn, turn_of, time_turn}
use Rattle.v_design.specs.Runs.{FirstSlot, first_run, slot_end, next_slot_at, next_slot}
use Rattle.v_design.specs.Grades.{Fine, slot_outcome, first_stop}
use Rattle.machine_laws.specs.SlotLoop.{Moment, slot_from}
use Rattle.copy_laws.specs.Differences.{Differences, StandsFor, KeepsNothingEqual}
use Rattle.copy_laws.specs.Moves.{Within}
use Rattle.copy_laws.specs.Rest.{within_of}
use Rattle.copy_laws.specs.Windows.{good_slots, state_at}
use Rattle.grade_laws.specs.Ahead.{StopsAfter}
use Rattle.grade_laws.specs.Grading.{faulty_stop}
use Rattle.beside_laws.specs.Stands.{HasRun}
use Rattle.lockstep_laws.specs.Lockstep.{AreInLockstep}
use Rattle.lockstep_laws.specs.Slots.{MayGoInLockstep, AreListed, KeepsNothingSame}
use Rattle.lockstep_slots.specs.Kept.{LockstepKept, kept_within, kept_of, AreJustKept}
use Rattle.quiet_slots.specs.SlotMoves.{through-get}
use Rattle.lockstep_slots.specs.Places.{IsFineSlot}
use Rattle.lockstep_slots.specs.Standing.{EndInLockstep}
use Rattle.lockstep_copies.specs.Copies.{IsCopyInLockstep, own_begins, BeginNextInLockstep, CopiesGoInLockstep}
use Rattle.lockstep_slots.proofs.Kept.{process-turned, begins-within, just-listed}
use Rattle.lockstep_copies.proofs.Between.{CopyLaws, StandBetween, BothNext, through-is, stand-between, good-too, both-next}

-- Up to the next slot

stays : CopyLaws → (design : FlatDesign) (plan : TestPlan) (fault : StuckAt) (number time later : ℕ) (d : Differences) → IsCopyInLockstep design plan fault number time d → time ≤ later →
    ((next : FirstSlot) → slice_get (good_slots design plan) (suc number) ≡ Some next → later < next.begins.time) → IsCopyInLockstep design plan fault number later d
stays laws design plan fault number time later d c low before = record {
  rules = c.rules;
  last = c.last;
  stands = c.stands;
  fine = c.fine;
  since = since;
  before = before;
  own_on = own.1;
  copy = record {
    stands = subst (λ (s : State). StandsFor d s (state_at (faulty_machine design fault) plan.end later)) (sym good_same)
        (subst (λ (s : State). StandsFor d (state_at (good_machine design) plan.end time) s) (sym own.0) c.copy.stands);
    nothing_equal = subst (KeepsNothingEqual d) (sym good_same) c.copy.nothing_equal;
  };
  may = subst (MayGoInLockstep d) (sym good_same) c.may;
}
  where
    since : c.last.begins.time ≤ later
    since = let here : c.last.begins.time ≤ time = c.since in omega (arith, here, low)

    good_same : state_at (good_machine design) plan.end later ≡ state_at (good_machine design) plan.end time
    good_same =
        laws.good.stands design plan number later c.last c.rules c.stands c.fine since before ∙ sym (laws.good.stands design plan number time c.last c.rules c.stands c.fine c.since c.before)

    own : (state_at (faulty_machine design fault) plan.end later ≡ state_at (faulty_machine design fault) plan.end time) × StopsAfter later
        (first_stop (faulty_machine design fault) (first_run (faulty_machine design fault) plan.end))
    own =
        laws.runs.stands (faulty_machine design fault) plan.end later
        (next_slot_at plan.end (state_at (faulty_machine design fault) plan.end time) (turn_of (state_at (faulty_machine design fault) plan.end time)))
        (state_at (faulty_machine design fault) plan.end time)
        (laws.runs.passes (faulty_machine design fault) plan.end (Some time)
        (next_slot_at plan.end (state_at (faulty_machine design fault) plan.end time) (turn_of (state_at (faulty_machine design fault) plan.end time)))
        (state_at (faulty_machine design fault) plan.end time) later (stand-between laws design plan fault number time d c).own_run low
        (λ begins e. before (slot_from (good_machine design) (time_turn begins.time (state_at (good_machine design) plan.end time))) (good-too laws design plan fault number time d c begins e)))

over : CopyLaws → (design : FlatDesign) (plan : TestPlan) (fault : StuckAt) (number time : ℕ) (d : Differences) → IsCopyInLockstep design plan fault number time d →
    slice_get (good_slots design plan) (suc number) ≡ None → faulty_stop design plan fault ≡ None
over laws design plan fault number time d c none =
    go (next_slot_at plan.end (state_at (faulty_machine design fault) plan.end time) (turn_of (state_at (faulty_machine design fault) plan.end time))) refl
  where
    go : (next : Option State) → next_slot_at plan.end (state_at (faulty_machine design fault) plan.end time) (turn_of (state_at (faulty_machine design fault) plan.end time)) ≡ next →
        first_stop (faulty_machine design fault) (first_run (faulty_machine design fault) plan.end) ≡ None
    go None e =
        laws.runs.over (faulty_machine design fault) plan.end (Some time) (state_at (faulty_machine design fault) plan.end time)
        (subst (λ (next : Option State). HasRun (faulty_machine design fault) plan.end (Some time) next (state_at (faulty_machine design fault) plan.end time)) e
        (stand-between laws design plan fault number time d c).own_run)
    go (Some begins) e =
        absurd
        (let no : None ≡ Some (slot_from (good_machine design) (time_turn begins.time (state_at (good_machine design) plan.end time))) = sym none
        ∙ good-too laws design plan fault number time d c begins e in cc)

-- The next slot

begins : CopyLaws → (design : FlatDesign) (plan : TestPlan) (fault : StuckAt) (number time : ℕ) (d : Differences) (slot : FirstSlot) → IsCopyInLockstep design plan fault number time d →
    slice_get (good_slots design plan) (suc number) ≡ Some slot → BeginNextInLockstep design plan fault time d slot
begins laws design plan fault number time d slot c there = record {
  good_begins = next.good_begins;
  own_turns = next.own_begins;
  own_next = subst (λ (found : Option State). HasRun (faulty_machine design fault) plan.end (Some time) found (state_at (faulty_machine design fault) plan.end time)) next.own_begins s.own_run;
  stands = λ phase later marks fine parts.
      laws.goes.begins design fault slot (own_begins design plan fault time slot) phase later marks (kept_of d) (fine_slot fine) (s.own_rests.begins slot.begins.time) lockstep
      nothing_same parts;
}
  where
    s : StandBetween design plan fault number time d c.last
    s = stand-between laws design plan fault number time d c

    next : BothNext design plan fault time slot
    next = both-next laws design plan fault number time d c slot there

    here : slice_get (first_run (good_machine design) plan.end) (suc number) ≡ Some slot
    here = through-get (good_machine design) (first_run (good_machine design) plan.end) (suc number) slot there

    fine_slot : slot_outcome (good_machine design) slot ≡ Fine → IsFineSlot (good_machine design) slot
    fine_slot fine = record {
      rules = c.rules;
      is = laws.slots.moves (good_machine design) plan.end (suc number) slot c.rules here;
      asked = laws.slots.begins (good_machine design) plan.end (suc number) slot c.rules here;
      fine = fine;
    }

    within_is : within_of d (time_turn slot.begins.time (state_at (good_machine design) plan.end time))
        ≡ kept_within (kept_of d) (time_turn slot.begins.time (state_at (good_machine design) plan.end time))
    within_is =
        begins-within d (time_turn slot.begins.time (state_at (good_machine design) plan.end time)) c.may.activities
        (λ process. ap (λ (p : ProcessState). p.lane) (process-turned (TimeTurn slot.begins.time) (state_at (good_machine design) plan.end time) process) ∙ s.lanes process)

    lockstep : AreInLockstep (kept_within (kept_of d) slot.begins) slot.begins (own_begins design plan fault time slot)
    lockstep =
        subst (λ (x : State). AreInLockstep (kept_within (kept_of d) x) x (own_begins design plan fault time slot)) (sym next.good_begins)
        (subst (λ (w : Within). AreInLockstep w (time_turn slot.begins.time (state_at (good_machine design) plan.end time)) (own_begins design plan fault time slot)) within_is
        (s.lockstep slot.begins.time))

    nothing_same : KeepsNothingSame (kept_within (kept_of d) slot.begins) slot.begins
    nothing_same =
        subst (λ (x : State). KeepsNothingSame (kept_within (kept_of d) x) x) (sym next.good_begins)
        (subst (λ (w : Within). KeepsNothingSame w (time_turn slot.begins.time (state_at (good_machine design) plan.end time))) within_is
        (laws.same.begins d (state_at (good_machine design) plan.end time) slot.begins.time c.may c.copy.nothing_equal))

-- Behind it

ends : CopyLaws → (design : FlatDesign) (plan : TestPlan) (fault : StuckAt) (number time : ℕ) (d new : Differences) (slot : FirstSlot) (own : Moment) (kept : LockstepKept) →
    IsCopyInLockstep design plan fault number time d → slice_get (good_slots design plan) (suc number) ≡ Some slot → slot_outcome (good_machine design) slot ≡ Fine →
    EndInLockstep design fault slot (own_begins design plan fault time slot) own kept → AreJustKept kept new → IsCopyInLockstep design plan fault (suc number) slot.begins.time new
ends laws design plan fault number time d new slot own kept c there fine e listed = record {
  rules = c.rules;
  last = slot;
  stands = there;
  fine = fine;
  since = omega arith;
  before = before;
  own_on = own_there.1;
  copy = record {
    stands = subst (λ (s : State). StandsFor new s (state_at (faulty_machine design fault) plan.end slot.begins.time)) (sym good_there)
        (subst (λ (s : State). StandsFor new (slot_end (good_machine design) slot) s) (sym e.own_end ∙ sym own_there.0) stops.0);
    nothing_equal = subst (KeepsNothingEqual new) (sym good_there) lists.1;
  };
  may = subst (MayGoInLockstep new) (sym good_there) stops.1;
}
  where
    before : (next : FirstSlot) → slice_get (good_slots design plan) (suc (suc number)) ≡ Some next → slot.begins.time < next.begins.time
    before next behind = (laws.good.fine design plan (suc number) slot next c.rules there behind).1

    good_there : state_at (good_machine design) plan.end slot.begins.time ≡ slot_end (good_machine design) slot
    good_there =
        laws.good.stands design plan (suc number) slot.begins.time slot c.rules there fine (omega arith) before ∙ through-is design plan (suc number) slot there

    own_there : (state_at (faulty_machine design fault) plan.end slot.begins.time
        ≡ slot_end (faulty_machine design fault) (slot_from (faulty_machine design fault) (own_begins design plan fault time slot)))
        × StopsAfter slot.begins.time (first_stop (faulty_machine design fault) (first_run (faulty_machine design fault) plan.end))
    own_there =
        laws.runs.stands (faulty_machine design fault) plan.end slot.begins.time
        (next_slot (faulty_machine design fault) plan.end (slot_from (faulty_machine design fault) (own_begins design plan fault time slot)))
        (slot_end (faulty_machine design fault) (slot_from (faulty_machine design fault) (own_begins design plan fault time slot)))
        (laws.runs.fine (faulty_machine design fault) plan.end (Some time) (own_begins design plan fault time slot) (state_at (faulty_machine design fault) plan.end time)
        (begins laws design plan fault number time d slot c there).own_next e.fine)

    lists : AreListed (kept_within kept (slot_end (good_machine design) slot)) new (slot_end (good_machine design) slot) × KeepsNothingEqual new (slot_end (good_machine design) slot)
    lists =
        laws.same.ends (kept_within kept (slot_end (good_machine design) slot)) new (slot_end (good_machine design) slot) own.state e.lockstep e.idle e.nothing_same
        (just-listed kept new (slot_end (good_machine design) slot) listed)

    stops : StandsFor new (slot_end (good_machine design) slot) own.state × MayGoInLockstep new (slot_end (good_machine design) slot)
    stops = laws.stops (kept_within kept (slot_end (good_machine design) slot)) new (slot_end (good_machine design) slot) own.state e.lockstep lists.0

pub copies_go_in_lockstep : CopyLaws → CopiesGoInLockstep
copies_go_in_lockstep laws = record { stays = stays laws; over = over laws; begins = begins laws; ends = ends laws }
