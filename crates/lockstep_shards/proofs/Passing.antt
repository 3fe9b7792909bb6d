-- A copy is passed over slots of the good machine that leave it alone (slots by IEEE 1364-2001, clause 5).
use Rattle.std.proofs.Common.{◌≡◌, ℕ, suc, ◌<◌, ◌≤◌, List, [], length, sym, ap, ◌∙◌, arith}
use Rattle.std.specs.Prelude.{Some, None, slice_get}
use Rattle.v_design.specs.Designs.{FlatDesign, StuckAt, TestPlan, good_machine, faulty_machine}
use Rattle.v_design.specs.Grades.{Fine, slot_outcome}
use Rattle.v_design.specs.Runs.{FirstSlot}
use Rattle.v_design.specs.States.{LaterUpdate, State}
use Rattle.copy_laws.specs.Differences.{Differences, own_of}
use Rattle.copy_laws.specs.Windows.{good_slots, state_at}
use Rattle.grade_laws.specs.Ahead.{StopsAfter}
use Rattle.grade_laws.specs.Grading.{good_stop, faulty_stop}
use Rattle.lockstep_copies.specs.Copies.{IsCopyInLockstep}
use Rattle.quiet_index.specs.PassOver.{CanPassOver, SlotsLeaveAlone}
use Rattle.quiet_slots.specs.Quiet.{GoesWithGood, HaveOneTime}
use Rattle.lockstep_shards.specs.Shards.{HasPassedOver}
use Rattle.lockstep_shards.proofs.Keeping.{none-found}
use Rattle.lockstep_shards.proofs.Laws.{ShardLaws, slot-there, stops-earlier}

module _ (laws : ShardLaws) (design : FlatDesign) (plan : TestPlan) (fault : StuckAt) (number time end : ℕ) (d : Differences) (slot : FirstSlot)
    (c : IsCopyInLockstep design plan fault number time d) (updates : d.updates ≡ []) (own_time : (state_at (faulty_machine design fault) plan.end time).time ≡ c.last.begins.time)
    (behind : number < end) (alone : SlotsLeaveAlone design plan fault d (suc number) (suc end)) (low : time ≤ slot.begins.time)
    (stands : slice_get (good_slots design plan) end ≡ Some slot) (more : suc end < length (good_slots design plan)) where
  abbrev until : ℕ
  until = slot.begins.time

  next : FirstSlot
  next = (slot-there (good_slots design plan) (suc end) more).0

  next_there : slice_get (good_slots design plan) (suc end) ≡ Some next
  unfolding next
  next_there = (slot-there (good_slots design plan) (suc end) more).1

  fine : slot_outcome (good_machine design) slot ≡ Fine
  fine = (laws.good.fine design plan end slot next c.rules stands next_there).0

  good_on : StopsAfter until (good_stop design plan)
  good_on = (laws.good.fine design plan end slot next c.rules stands next_there).2

  next-later : (other : FirstSlot) → slice_get (good_slots design plan) (suc end) ≡ Some other → until < other.begins.time
  next-later other there = (laws.good.fine design plan end slot other c.rules stands there).1

  can-pass : CanPassOver design plan fault d number (suc end) time until
  can-pass = record {
    rules = c.rules;
    slot = c.last;
    stands = c.stands;
    behind = c.since;
    alone = alone;
    before = next-later;
    low = low;
    by_end = laws.good.within design plan end slot c.rules stands;
    copy = c.copy;
    activities = none-found d.activities c.may.activities;
    updates = updates;
    good_on = good_on;
    own_on = c.own_on;
  }

  over : GoesWithGood design plan fault d time until
  over = laws.over design plan fault d number (suc end) time until can-pass

  good-time : (state_at (good_machine design) plan.end time).time ≡ c.last.begins.time
  good-time =
      ap (λ (s : State). s.time) (laws.good.stands design plan number time c.last c.rules c.stands c.fine c.since c.before) ∙ laws.times design plan number c.last c.rules c.stands

  good-there : (state_at (good_machine design) plan.end until).time ≡ until
  good-there =
      ap (λ (s : State). s.time) (laws.good.stands design plan end until slot c.rules stands fine (omega arith) next-later) ∙ laws.times design plan end slot c.rules stands

  one-time : HaveOneTime design plan fault until
  one-time = over.same_time until low (omega arith) (own_time ∙ sym good-time)

  pub passes : HasPassedOver design plan fault d time end slot
  passes = record {
    lockstep = record {
      rules = c.rules;
      last = slot;
      stands = stands;
      fine = fine;
      since = omega arith;
      before = next-later;
      own_on = over.goes_on;
      copy = over.copy until low (omega arith);
      may = record {
        activities = c.may.activities;
        updates = λ process own found.
            (let none : own_of d.updates process ≡ None = ap (λ (l : List (ℕ × List LaterUpdate)). own_of l process) updates in
            let no : None ≡ Some own = sym none ∙ found in
            cc);
      };
    };
    strobes = λ strobe since by. record {
      good_on = stops-earlier strobe until (good_stop design plan) by good_on;
      own_on = stops-earlier strobe until (faulty_stop design plan fault) by over.goes_on;
      copy = over.copy strobe since by;
    };
    on_time = one-time ∙ good-there;
  }
