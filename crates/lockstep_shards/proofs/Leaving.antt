-- A fault of a shard behind a slot through which it went in lockstep, or by which its grading ended (strobes by the plan; slots by IEEE 1364-2001, clause 5).
use Rattle.std.proofs.Common.{◌≡◌, ℕ, suc, ◌<◌, ◌≤◌, true, length, take, drop, refl, sym, ap, subst, ◌∙◌, arith}
use Rattle.std.specs.Prelude.{◌≢◌, Option, Some, None, is_some, option_map, slice_get}
use Rattle.vf_base.specs.declared.finding.End.{End}
use Rattle.v_design.specs.Designs.{FlatDesign, StuckAt, TestPlan, faulty_machine}
use Rattle.v_design.specs.Grades.{Fine, Hyper, Race, SlotOutcome, Stop, slot_outcome}
use Rattle.v_design.specs.Plain.{grade_of}
use Rattle.v_design.specs.Runs.{FirstSlot, next_slot, slot_end}
use Rattle.v_design.specs.States.{State}
use Rattle.v_design.specs.WellFormed.{KeepsRules}
use Rattle.machine_laws.specs.SlotLoop.{slot_from}
use Rattle.copy_laws.specs.Differences.{Differences}
use Rattle.copy_laws.specs.Windows.{IsBesideAt, good_slots, state_at, time_at}
use Rattle.copy_state.specs.Kept.{AreStatesOf}
use Rattle.copy_between.specs.Beside.{KeepsWithin}
use Rattle.grade_laws.specs.Ahead.{StopsAfter}
use Rattle.grade_laws.specs.Grading.{faulty_stop}
use Rattle.lockstep_copies.specs.Copies.{IsCopyInLockstep, own_begins}
use Rattle.beside_laws.specs.GoodRuns.{IsOpenAt}
use Rattle.fault_strobes.specs.Full.{IsFull}
use Rattle.fault_strobes.specs.Said.{plan_by}
use Rattle.fault_strobes.specs.Strobes.{EndsWith, StrobesGoOn}
use Rattle.beside_laws.specs.Stands.{HasRun}
use Rattle.quiet_slots.specs.SlotTimes.{slot-time}
use Rattle.copy_pass.specs.window_strobes.Passed.{HasPassed}
use Rattle.copy_pass.specs.copy_window.Copies.{differences_in}
use Rattle.copy_pass.specs.copy_window.ShardFaults.{GoesOnAt, IsShardFault, beside_by, kept_by, said_by}
use Rattle.copy_pass.specs.copy_window.declared.fault.ShardFault.{ShardFault}
use Rattle.lockstep_shards.proofs.Keeping.{lockstep-keeps, lockstep-no-states}
use Rattle.lockstep_shards.proofs.Laws.{ShardLaws, open-at, some-is}

-- Its copy is kept

module _ (laws : ShardLaws) (design : FlatDesign) (plan : TestPlan) (fault : StuckAt) (number time count : ℕ) (now : Option ℕ) (own : ShardFault)
    (c : IsCopyInLockstep design plan fault number time (differences_in design own.copy)) (listed : slice_get plan.faults own.copy.fault ≡ Some fault) (none : own.end ≡ None)
    (more : suc number < length (good_slots design plan)) (time_is : time_at design plan (suc number) ≡ Some time) (has : HasPassed design plan (suc number) count)
    (goes : StrobesGoOn design plan fault now (take count plan.strobes) (drop count plan.strobes) (said_by own))
    (own_time : (state_at (faulty_machine design fault) plan.end time).time ≡ own.time) where
  open_now : IsOpenAt design plan (suc number) time
  open_now = open-at laws.good design plan c.rules number more time time_is

  goes-there : StrobesGoOn design plan fault (Some time) (take count plan.strobes) (drop count plan.strobes) (said_by own)
  goes-there =
      laws.grading.passes design plan fault now (take count plan.strobes) (drop count plan.strobes) (said_by own) time goes (has.later time time_is more) open_now.goes_on c.own_on

  beside : IsBesideAt design (plan_by (kept_by own) plan) (suc number) (beside_by design fault own)
  beside =
      subst (λ (end : Option End). IsBesideAt design (plan_by (kept_by own) plan) (suc number) (record { fault = fault; differences = differences_in design own.copy; found = option_map grade_of end })) (sym none)
      (laws.faults.goes_on design plan fault (suc number) time (take count plan.strobes) (drop count plan.strobes) (said_by own) (differences_in design own.copy) open_now goes-there c.copy)

  goes-on : GoesOnAt design plan (suc number) count fault time own
  goes-on = record {
    runs_on = open_now;
    between = laws.stand (faulty_machine design fault) plan.end time c.rules (let early : time < plan.end = open_now.early in omega (arith, early)) c.own_on;
    time_is = own_time;
    states = λ codes are. subst (AreStatesOf codes) (sym (lockstep-no-states laws design plan fault number time own.copy c)) tt;
    so_far = goes-there.so_far;
  }

  pub leaves : IsShardFault design plan (suc number) count own
  leaves = record {
    fault = fault;
    listed = listed;
    beside = beside;
    full = λ end some. (let no : Some end ≡ None = sym some ∙ none in cc);
    within = lockstep-keeps laws design plan fault number time own.copy c;
    goes_on = λ other e further none_now. subst (λ t. GoesOnAt design plan (suc number) count fault t own) (some-is time other (sym time_is ∙ e)) goes-on;
  }

-- Its grading ended

pub found : ShardLaws → (design : FlatDesign) (plan : TestPlan) (fault : StuckAt) (number time count ended : ℕ) (end : End) (own : ShardFault) → KeepsRules design →
    EndsWith design plan fault ended (grade_of end) (said_by own) → ended ≤ time → slice_get plan.faults own.copy.fault ≡ Some fault → own.end ≡ Some end →
    KeepsWithin (length design.objects) (length design.processes) own.copy → suc number < length (good_slots design plan) → time_at design plan (suc number) ≡ Some time →
    IsShardFault design plan (suc number) count own
found laws design plan fault number time count ended end own rules ends low listed is within more time_is = record {
  fault = fault;
  listed = listed;
  beside = subst (λ (o : Option End). IsBesideAt design (plan_by (kept_by own) plan) (suc number) (record { fault = fault; differences = differences_in design own.copy; found = option_map grade_of o })) (sym is)
      (laws.faults.ends design plan fault (kept_by own) (suc number) time ended (grade_of end) (differences_in design own.copy) (open-at laws.good design plan rules number more time time_is) ends.ends low);
  full = λ other e. subst (λ (o : End). IsFull design plan fault (grade_of o) (said_by own)) (some-is end other (sym is ∙ e)) ends.full;
  within = within;
  goes_on = λ other e further none. (let no : Some end ≡ None = sym is ∙ none in cc);
}

some-end : (end : Option End) → is_some end ≡ true → (found : End) × (end ≡ Some found)
some-end None some = cc
some-end (Some found) some = (found, refl)

pub stays : ShardLaws → (design : FlatDesign) (plan : TestPlan) (gone later passed count : ℕ) (own : ShardFault) → KeepsRules design → IsShardFault design plan gone passed own →
    is_some own.end ≡ true → gone ≤ later → IsShardFault design plan later count own
stays laws design plan gone later passed count own rules stands ended low =
    let there = some-end own.end ended in
    record {
      fault = stands.fault;
      listed = stands.listed;
      beside = laws.stay.stays design (plan_by (kept_by own) plan) gone later (beside_by design stands.fault own) (grade_of there.0) rules low stands.beside
          (ap (λ (end : Option End). option_map grade_of end) there.1);
      full = stands.full;
      within = stands.within;
      goes_on = λ other e further none. (let no : Some there.0 ≡ None = sym there.1 ∙ none in cc);
    }

-- The faulty machine's time

module _ (laws : ShardLaws) (design : FlatDesign) (plan : TestPlan) (fault : StuckAt) (number time : ℕ) (d new : Differences) (slot : FirstSlot)
    (c : IsCopyInLockstep design plan fault number time d) (there : slice_get (good_slots design plan) (suc number) ≡ Some slot)
    (after : IsCopyInLockstep design plan fault (suc number) slot.begins.time new) where
  abbrev begins : State
  begins = own_begins design plan fault time slot

  run : HasRun (faulty_machine design fault) plan.end (Some time) (Some begins) (state_at (faulty_machine design fault) plan.end time)
  run = (laws.copies.begins design plan fault number time d slot c there).own_next

  never : slot_outcome (faulty_machine design fault) (slot_from (faulty_machine design fault) begins) ≢ Fine → ⊥
  never other =
      let stop : faulty_stop design plan fault
      ≡ Some (record { time = slot.begins.time; outcome = slot_outcome (faulty_machine design fault) (slot_from (faulty_machine design fault) begins) }) =
      laws.goes.stops (faulty_machine design fault) plan.end (Some time) begins (state_at (faulty_machine design fault) plan.end time) run other in
      let later : slot.begins.time < slot.begins.time = subst (λ (stop : Option Stop). StopsAfter slot.begins.time stop) stop after.own_on in
      omega (arith, later)

  fine : slot_outcome (faulty_machine design fault) (slot_from (faulty_machine design fault) begins) ≡ Fine
  fine = go (slot_outcome (faulty_machine design fault) (slot_from (faulty_machine design fault) begins)) refl
    where
      go : (outcome : SlotOutcome) → slot_outcome (faulty_machine design fault) (slot_from (faulty_machine design fault) begins) ≡ outcome →
          slot_outcome (faulty_machine design fault) (slot_from (faulty_machine design fault) begins) ≡ Fine
      go Fine e = e
      go (Race pair) e = absurd (never (λ f. (let no : Race pair ≡ Fine = sym e ∙ f in cc)))
      go Hyper e = absurd (never (λ f. (let no : Hyper ≡ Fine = sym e ∙ f in cc)))

  pub on-time : (state_at (faulty_machine design fault) plan.end slot.begins.time).time ≡ slot.begins.time
  on-time =
      ap (λ (s : State). s.time)
      (laws.goes.stands (faulty_machine design fault) plan.end slot.begins.time (next_slot (faulty_machine design fault) plan.end (slot_from (faulty_machine design fault) begins))
      (slot_end (faulty_machine design fault) (slot_from (faulty_machine design fault) begins))
      (laws.goes.fine (faulty_machine design fault) plan.end (Some time) begins (state_at (faulty_machine design fault) plan.end time) run fine)).0
      ∙ slot-time laws.event_times (faulty_machine design fault) begins
