-- A fault is passed over slots of a window (strobes by the plan; slots by IEEE 1364-2001, clause 5).
use Rattle.std.proofs.Common.{◌≡◌, ℕ, suc, ◌+◌, ◌-◌, ◌<◌, ◌≤◌, List, length, take, drop, sym, ap, subst, ◌∙◌, arith, []}
use Rattle.std.specs.Prelude.{Some, None, slice_get}
use Rattle.std.proofs.Math.Seq.{take-add}
use Rattle.vf_base.specs.Base.{WatchedBit}
use Rattle.vf_base.specs.Lists.{AllHold}
use Rattle.v_design.specs.Designs.{FlatDesign, StuckAt, TestPlan, faulty_machine}
use Rattle.v_design.specs.Runs.{FirstSlot}
use Rattle.v_design.specs.States.{LaterUpdate}
use Rattle.v_design.specs.WellFormed.{IsPlan, KeepsRules}
use Rattle.copy_laws.specs.Differences.{Differences, own_of}
use Rattle.copy_laws.specs.Windows.{good_slots, state_at, time_at}
use Rattle.copy_state.specs.Kept.{differences_of}
use Rattle.process_code.specs.declared.code.Code.{Code}
use Rattle.quiet_index.specs.PassOver.{SlotsLeaveAlone}
use Rattle.beside_laws.specs.GoodRuns.{GoodRunGoesOn}
use Rattle.fault_strobes.specs.Said.{Said}
use Rattle.fault_strobes.specs.Strobes.{StrobesGoOn}
use Rattle.lockstep_due.specs.lockstep_copies.Copies.{IsCopyInLockstep}
use Rattle.lockstep_due.specs.window_strobes.Passed.{HasPassed}
use Rattle.lockstep_due.specs.copy_window.Copies.{differences_in}
use Rattle.lockstep_due.specs.copy_window.ShardFaults.{said_by}
use Rattle.lockstep_due.specs.copy_window.declared.fault.ShardFault.{ShardFault}
use Rattle.lockstep_due.specs.lockstep_shards.Shards.{HasPassedOver, ShardsGoInLockstep, StandsAtStrobe}
use Rattle.lockstep_due.proofs.lockstep_shards.Entering.{own-time}
use Rattle.lockstep_due.proofs.lockstep_shards.Laws.{last, last-there, time-there}
use Rattle.copy_lockstep.specs.Faults.{IsOpenAtSlot}
use Rattle.lockstep_due.specs.slot_strobes.Counts.{AllBetween, CountsBy}
use Rattle.lockstep_due.specs.slot_strobes.Strobes.{IsGradingBehind}
use Rattle.lockstep_due.proofs.slot_strobes.Lists.{at-drop, at-take, drop-between, holds-from}
use Rattle.lockstep_due.proofs.slot_strobes.Counted.{passed-behind}
use Rattle.copy_lockstep.proofs.Within.{by-codes}

-- strobes that see nothing of a copy
seen-none : (law : ShardsGoInLockstep) (design : FlatDesign) (plan : TestPlan) → KeepsRules design → IsPlan plan → (fault : StuckAt) (d : Differences) (first end : ℕ) (said : Said) →
    first ≤ end → AllHold (λ (w : WatchedBit). own_of d.values w.object ≡ None) plan.watched → AllBetween plan.strobes first end (StandsAtStrobe design plan fault d) →
    IsGradingBehind design plan fault first said → IsGradingBehind design plan fault end said
seen-none law design plan rules of_plan fault d first end said order none stands grading =
    let all : first + (end - first) ≡ end = omega (arith, order) in
    let behind =
    law.unseen design plan fault grading.now (take first plan.strobes) (take (end - first) (drop first plan.strobes)) (drop end plan.strobes) d said rules of_plan none
    (holds-from (StandsAtStrobe design plan fault d) plan.strobes first (end - first) (λ place strobe low before here. stands place strobe low (omega (arith, before, order)) here))
    (subst (λ (l : List ℕ). StrobesGoOn design plan fault grading.now (take first plan.strobes) l said) (drop-between plan.strobes first end order) grading.goes) in
    record {
      now = behind.0;
      goes = subst (λ (l : List ℕ). StrobesGoOn design plan fault behind.0 l (drop end plan.strobes) said)
          (sym (take-add first (end - first) plan.strobes) ∙ ap (λ n. take n plan.strobes) all) behind.1;
    }

module _ (law : ShardsGoInLockstep) (good : GoodRunGoesOn) (design : FlatDesign) (plan : TestPlan) (rules : KeepsRules design) (of_plan : IsPlan plan) (fault : StuckAt) (gone passed : ℕ)
    (own : ShardFault) (at : IsOpenAtSlot design plan fault gone passed own) (codes : List Code) (end : ℕ) (further : gone < end) (more : end < length (good_slots design plan))
    (states : own.copy.states ≡ []) (updates : own.copy.updates ≡ []) (alone : SlotsLeaveAlone design plan fault (differences_of codes own.copy) gone end)
    (one_time : (slot : FirstSlot) → slice_get (good_slots design plan) (gone - 1) ≡ Some slot → own.time ≡ slot.begins.time)
    (none : AllHold (λ (w : WatchedBit). own_of own.copy.values w.object ≡ None) plan.watched) where
  abbrev d : Differences
  d = differences_in design own.copy

  abbrev number : ℕ
  number = end - 1

  end_is : end ≡ suc number
  end_is = omega (arith, further)

  beyond : suc number < length (good_slots design plan)
  beyond = omega (arith, end_is, more)

  abbrev slot : FirstSlot
  slot = last good design plan rules number beyond

  slot-there : slice_get (good_slots design plan) (end - 1) ≡ Some slot
  slot-there = last-there good design plan rules number beyond

  c : IsCopyInLockstep design plan fault at.number at.time d
  c =
      law.enters design plan fault at.number at.time passed own rules at.behind states
      (λ process kept found.
      (let no : own_of own.copy.updates process ≡ None = ap (λ (l : List (ℕ × List LaterUpdate)). own_of l process) updates in let never : None ≡ Some kept = sym no ∙ found in cc))

  over : HasPassedOver design plan fault d at.time number slot
  over =
      law.passes design plan fault at.number at.time number d slot c updates
      (own-time design plan fault at.number at.time passed own at.behind
      ∙ one_time c.last (ap (slice_get (good_slots design plan)) (let e : gone - 1 ≡ at.number = omega (arith, at.gone_is) in e) ∙ c.stands))
      (omega (arith, at.gone_is, further, end_is))
      (subst (λ n. SlotsLeaveAlone design plan fault d n (suc number)) at.gone_is
      (subst (SlotsLeaveAlone design plan fault d gone) end_is (subst (λ (e : Differences). SlotsLeaveAlone design plan fault e gone end) (by-codes design own.copy states codes) alone)))
      (good.times design plan (suc at.number) (suc number) at.time slot.begins.time rules (omega (arith, at.gone_is, further, end_is)) at.behind.time_is
      (time-there good design plan rules number beyond))
      slot-there beyond

  module _ (time : ℕ) (times : (one : FirstSlot) → slice_get (good_slots design plan) (end - 1) ≡ Some one → time ≡ one.begins.time) (count : ℕ)
      (counts : CountsBy plan.strobes passed count time) where
    time_is : time ≡ slot.begins.time
    time_is = times slot slot-there

    since : at.time ≤ slot.begins.time
    since =
        good.times design plan (suc at.number) (suc number) at.time slot.begins.time rules (omega (arith, at.gone_is, further, end_is)) at.behind.time_is
        (time-there good design plan rules number beyond)

    there : time_at design plan (suc number) ≡ Some time
    there = time-there good design plan rules number beyond ∙ ap (λ t. Some t) (sym time_is)

    has : HasPassed design plan (suc number) count
    has =
        passed-behind design plan number time passed count there
        (λ place strobe low here.
        (let by : strobe ≤ at.time =
        at-take (λ s. s ≤ at.time) plan.strobes passed place strobe (at.behind.has_passed.early at.time at.behind.time_is at.behind.more) low here in
        omega (arith, by, since, time_is))) counts

    grading : IsGradingBehind design plan fault count (said_by own)
    grading =
        seen-none law design plan rules of_plan fault d passed count (said_by own) counts.since none
        (λ place strobe low before here.
        (let after : at.time < strobe =
        at-drop (λ s. at.time < s) plan.strobes passed place strobe (at.behind.has_passed.later at.time at.behind.time_is at.behind.more) low here in
        let by : strobe ≤ time = counts.by place strobe low before here in
        over.strobes strobe (omega (arith, after)) (omega (arith, by, time_is))))
        (record { now = Some at.time; goes = law.grading design plan fault at.number at.time passed own rules at.behind })

    pub passes-over : IsOpenAtSlot design plan fault end count (record own { time = time })
    passes-over = record {
      number = number;
      time = time;
      gone_is = end_is;
      behind = record {
        stands = law.leaves design plan fault number time count grading.now (record own { time = time })
            (subst (λ t. IsCopyInLockstep design plan fault number t d) (sym time_is) over.lockstep) at.behind.listed at.behind.none beyond there has grading.goes
            (subst (λ t. (state_at (faulty_machine design fault) plan.end t).time ≡ t) (sym time_is) over.on_time);
        listed = at.behind.listed;
        none = at.behind.none;
        more = beyond;
        time_is = there;
        has_passed = has;
      };
    }

-- of slots that leave a copy alone the first ones do
pub fewer-left : (design : FlatDesign) (plan : TestPlan) (fault : StuckAt) (d : Differences) (first end fewer : ℕ) → fewer ≤ end → SlotsLeaveAlone design plan fault d first end →
    SlotsLeaveAlone design plan fault d first fewer
fewer-left design plan fault d first end fewer low all number slot here since before = all number slot here since (omega (arith, before, low))
