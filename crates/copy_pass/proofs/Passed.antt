-- A fault over a window that touches nothing of its copy (slots by IEEE 1364-2001, clause 5).
use Rattle.std.proofs.Common.{◌≡◌, ℕ, suc, ◌+◌, ◌-◌, ◌<◌, ◌≤◌, List, [], ◌∷◌, ◌++◌, length, map, take, drop, refl, sym, ap, subst, ◌∙◌, arith}
use Rattle.std.specs.Prelude.{Option, Some, None, option_map, slice_get}
use Rattle.std.proofs.Math.Seq.{take-add}
use Rattle.std.proofs.lemmas.List.{append_cancel_right, drop-drop, take-append-drop}
use Rattle.std.proofs.lemmas.Option.{slice_get_within}
use Rattle.vf_base.specs.Base.{ReportedPair, WatchedBit}
use Rattle.vf_base.specs.Lists.{AllHold}
use Rattle.vf_base.specs.declared.finding.End.{End}
use Rattle.vf_base.specs.declared.finding.Side.TheVariants.{Good}
use Rattle.v_design.specs.Designs.{FlatDesign, StuckAt, TestPlan, good_machine, faulty_machine}
use Rattle.v_design.specs.Grades.{FaultGrade, Judged, Race, Raced, Sample, Stop}
use Rattle.v_design.specs.Plain.{grade_of}
use Rattle.v_design.specs.Runs.{FirstSlot}
use Rattle.v_design.specs.WellFormed.{IsPlan, KeepsRules}
use Rattle.kept_samples.specs.Plain.{sample_of}
use Rattle.between_slots.specs.Between.{state_through}
use Rattle.between_slots.specs.Updates.{SlotsTakeNoTime}
use Rattle.copy_laws.specs.Differences.{Differences, own_of}
use Rattle.copy_laws.specs.Windows.{IsBesideAt, IsCopyAt, IsOpen, IsRaced, IsThrough, WindowEnd, good_slots, time_at}
use Rattle.copy_state.specs.Entries.{each_by}
use Rattle.copy_state.specs.Kept.{AreStatesOf}
use Rattle.grade_laws.specs.Ahead.{StopsAfter}
use Rattle.grade_laws.specs.Decisions.{NotBefore}
use Rattle.grade_laws.specs.Grading.{good_seen, faulty_seen, good_stop, faulty_stop, times}
use Rattle.beside_laws.specs.GoodRuns.{GoodRunGoesOn, IsAllAt, IsOpenAt}
use Rattle.fault_strobes.specs.Full.{IsFull}
use Rattle.fault_strobes.specs.Said.{IsSaid, keeps, plan_by, verdict_said}
use Rattle.fault_strobes.specs.Strobes.{StrobesGoOn, StrobedFaultsGoOn, StrobedGradingsEnd, StrobedGradingsGoOn}
use Rattle.fault_strobes.proofs.Faults.{copy-back, time-same}
use Rattle.beside_laws.specs.Shards.{FaultsGoOn, found_fault}
use Rattle.beside_laws.specs.Stands.{IsSince, RunsStand}
use Rattle.quiet_slots.specs.Quiet.{GoesWithGood, HaveOneTime}
use Rattle.quiet_slots.specs.Strobes.{StrobesSeeCopies}
use Rattle.quiet_index.specs.PassOver.{CanPassOver, CopiesPassOver, SlotsLeaveAlone}
use Rattle.run_stands.specs.Standing.{StatesStandBetween}
use Rattle.copy_window.specs.window_strobes.Leading.{EndsSo, IsLed}
use Rattle.copy_window.specs.window_strobes.Neighbours.{IsBetween, time-between}
use Rattle.copy_window.specs.window_strobes.Passed.{HasPassed}
use Rattle.copy_window.specs.window_strobes.Seen.{AreSeen, AreSeenIf}
use Rattle.copy_window.specs.window_strobes.Strobes.{passed_behind}
use Rattle.copy_window.specs.window_strobes.declared.strobes.WindowStrobes.{WindowStrobes}
use Rattle.copy_window.specs.Copies.{done_in, differences_in}
use Rattle.copy_window.specs.Passing.{CanResume, EndsBehind}
use Rattle.copy_window.specs.ShardFaults.{GoesOnAt, IsShardFault, beside_by, kept_by, said_by}
use Rattle.copy_window.specs.declared.fault.ShardFault.{ShardFault}
use Rattle.copy_pass.specs.Alone.{IsAlone, values_alone}
use Rattle.copy_pass.proofs.Slots.{IsLast, good-time, just-before, last-slot}
use Rattle.copy_pass.proofs.Strobes.{GoesOnBehind, alike-strobes}

some-is : {A : Type 0} (one other : A) → Some one ≡ Some other → one ≡ other
some-is one other e = cc

-- all come by the end, and all after it: there are none
none-left : (end : ℕ) (strobes : List ℕ) → AllHold (λ strobe. strobe ≤ end) strobes → AllHold (λ strobe. end < strobe) strobes → strobes ≡ []
none-left end [] all after = refl
none-left end (strobe ∷ strobes) all after = (let low : strobe ≤ end = all.0 in let high : end < strobe = after.0 in absurd (omega (arith, low, high)))

-- those after a time come no earlier than the next one
since-next : (time : ℕ) (strobes : List ℕ) → AllHold (λ strobe. time < strobe) strobes → AllHold (λ strobe. suc time ≤ strobe) strobes
since-next time [] all = tt
since-next time (strobe ∷ strobes) all = (let high : time < strobe = all.0 in omega (arith, high), since-next time strobes all.1)

not-before-next : (time : ℕ) (stop : Option Stop) → StopsAfter time stop → NotBefore (suc time) stop
not-before-next time None after = tt
not-before-next time (Some stop) after = omega (arith, after)

all-right : (P : ℕ → Type 0) (xs ys : List ℕ) → AllHold P (xs ++ ys) → AllHold P ys
all-right P [] ys all = all
all-right P (x ∷ xs) ys all = all-right P xs ys all.1

all-left : (P : ℕ → Type 0) (xs ys : List ℕ) → AllHold P (xs ++ ys) → AllHold P xs
all-left P [] ys all = tt
all-left P (x ∷ xs) ys all = (all.0, all-left P xs ys all.1)

all-times : (until : ℕ) (samples : List Sample) → AllHold (λ (sample : Sample). sample.time ≤ until) samples → AllHold (λ strobe. strobe ≤ until) (times samples)
all-times until [] all = tt
all-times until (sample ∷ samples) all = (all.0, all-times until samples all.1)

-- what comes before the strobes from a number on are so many strobes
passed-take : (strobes passed : List ℕ) (count : ℕ) → strobes ≡ passed ++ drop count strobes → passed ≡ take count strobes
passed-take strobes passed count e = append_cancel_right passed (take count strobes) (drop count strobes) (sym e ∙ sym (take-append-drop count strobes))

-- all laws on which this stands
pub record PassLaws : Type 0 where
  pub grading : StrobedGradingsGoOn
  pub faults : StrobedFaultsGoOn
  pub stay : FaultsGoOn
  pub good : GoodRunGoesOn
  pub over : CopiesPassOver
  pub see : StrobesSeeCopies
  pub stand : StatesStandBetween
  pub times : SlotsTakeNoTime
  pub ends : StrobedGradingsEnd
  pub runs : RunsStand

-- a fault behind so many slots of which nothing was found, and the time of the last of them
module _ (laws : PassLaws) (design : FlatDesign) (plan : TestPlan) (rules : KeepsRules design) (of_plan : IsPlan plan) (fault : StuckAt) (before through : ℕ) (strobes : WindowStrobes)
    (own : ShardFault) (of : CanResume design plan before through strobes fault own) (more : before < length (good_slots design plan)) (now : ℕ) (now_is : time_at design plan before ≡ Some now) where
  fault_is : of.stands.fault ≡ fault
  fault_is = some-is of.stands.fault fault (sym of.stands.listed ∙ of.listed)

  pub goes-on : GoesOnAt design plan before strobes.passed fault now own
  goes-on = subst (λ (f : StuckAt). GoesOnAt design plan before strobes.passed f now own) fault_is (of.stands.goes_on now now_is more of.none)

  beside : IsBesideAt design (plan_by (kept_by own) plan) before (beside_by design fault own)
  beside = subst (λ (f : StuckAt). IsBesideAt design (plan_by (kept_by own) plan) before (beside_by design f own)) fault_is of.stands.beside

  none-found : option_map grade_of own.end ≡ None
  none-found = ap (λ (end : Option End). option_map grade_of end) of.none

  pub copy-now : IsCopyAt design plan fault now (differences_in design own.copy)
  copy-now =
      copy-back design plan fault (kept_by own) now (differences_in design own.copy) (beside.copy now (time-same design plan (kept_by own) before ∙ now_is) none-found)

  grading : StrobesGoOn design plan fault (Some now) (take strobes.passed plan.strobes) (drop strobes.passed plan.strobes) (said_by own)
  grading =
      laws.grading.again design plan fault now (take strobes.passed plan.strobes) (drop strobes.passed plan.strobes) (said_by own)
      (laws.stay.is_open design (plan_by (kept_by own) plan) before now (beside_by design fault own) beside none-found (time-same design plan (kept_by own) before ∙ now_is)) (sym (take-append-drop strobes.passed plan.strobes))
      (of.are.has_passed.early now now_is more) (of.are.has_passed.later now now_is more) goes-on.so_far

  -- up to a time its slots leave the copy alone, and the strobes up to there don't see that
  module _ (until : ℕ) (since : now ≤ until) (good_on : StopsAfter until (good_stop design plan)) (by_end : until ≤ plan.end) (ends : ℕ)
      (next_later : (next : FirstSlot) → slice_get (good_slots design plan) ends ≡ Some next → until < next.begins.time) (alone : IsAlone design plan fault before ends own.copy)
      (unseen : AllHold (λ (w : WatchedBit). own_of own.copy.values w.object ≡ None) plan.watched) (same : own.time ≡ now) (middle later : List ℕ)
      (next_are : drop strobes.passed plan.strobes ≡ middle ++ later) (by_then : AllHold (λ strobe. strobe ≤ until) middle) (after : AllHold (λ strobe. until < strobe) later) where
    abbrev d : Differences
    d = values_alone own.copy

    d_is : differences_in design own.copy ≡ d
    d_is =
        λ i. record {
          values = own.copy.values;
          activities = each_by (done_in design) (alone.states i);
          updates = alone.updates i;
        }

    last : IsLast design plan before now
    last = last-slot design plan before now now_is more

    can-pass : CanPassOver design plan fault d last.last ends now until
    can-pass = record {
      rules = rules;
      slot = last.slot;
      stands = last.stands;
      behind = (let at : last.slot.begins.time ≡ now = last.time_is in omega (arith, at));
      alone = subst (λ n. SlotsLeaveAlone design plan fault d n ends) last.number_is alone.alone;
      before = next_later;
      low = since;
      by_end = by_end;
      copy = subst (IsCopyAt design plan fault now) d_is copy-now;
      activities = refl;
      updates = refl;
      good_on = good_on;
      own_on = grading.faulty;
    }

    over : GoesWithGood design plan fault d now until
    over = laws.over design plan fault d last.last ends now until can-pass

    abbrev passed : List ℕ
    passed = take strobes.passed plan.strobes ++ middle

    behind : GoesOnBehind design plan fault passed later (said_by own)
    behind =
        alike-strobes laws.grading design plan of_plan fault (said_by own) now until good_on over.goes_on
        (λ time after by. (laws.see design plan fault d time rules (over.copy time after by)).same unseen) middle (Some now) (take strobes.passed plan.strobes) later
        (subst (λ (l : List ℕ). StrobesGoOn design plan fault (Some now) (take strobes.passed plan.strobes) l (said_by own)) next_are grading)
        (all-left (λ strobe. now < strobe) middle later (subst (AllHold (λ strobe. now < strobe)) next_are (of.are.has_passed.later now now_is more))) by_then

    goes : StrobesGoOn design plan fault (Some until) passed later (said_by own)
    goes = laws.grading.passes design plan fault behind.now passed later (said_by own) until behind.goes after good_on over.goes_on

    abbrev new : ShardFault
    new = record own { time = until; end = None }

    -- slots come behind so many
    module _ (reached count : ℕ) (passed_is : passed ≡ take count plan.strobes) (runs_on : IsOpenAt design plan reached until) where
      stands : IsBesideAt design (plan_by (kept_by own) plan) reached (beside_by design fault new)
      stands =
          laws.faults.goes_on design plan fault reached until passed later (said_by own) (differences_in design own.copy) runs_on goes
          (subst (IsCopyAt design plan fault until) (sym d_is) (over.copy until since (omega arith)))

      one-time : HaveOneTime design plan fault now
      one-time = goes-on.time_is ∙ same ∙ sym (good-time design plan rules before now goes-on.runs_on laws.times)

      goes-on-behind : GoesOnAt design plan reached count fault until new
      goes-on-behind = record {
        runs_on = runs_on;
        between = laws.stand (faulty_machine design fault) plan.end until rules by_end over.goes_on;
        time_is = over.same_time until since (omega arith) one-time ∙ good-time design plan rules reached until runs_on laws.times;
        states = λ codes are. subst (AreStatesOf codes) (sym alone.states) tt;
        so_far = subst (λ (l : List ℕ). IsSaid (good_seen design plan) (faulty_seen design plan fault) l (said_by own)) passed_is goes.so_far;
      }

      pub stays-open : IsShardFault design plan reached count new
      stays-open = record {
        fault = fault;
        listed = of.listed;
        beside = stands;
        full = λ end e. cc;
        within = of.stands.within;
        goes_on = λ time e further none. subst (λ t. GoesOnAt design plan reached count fault t new) (some-is until time (sym runs_on.time_is ∙ e)) goes-on-behind;
      }

  -- So many slots of a window

  module _ (slots : ℕ) (some : 0 < slots) (b : IsBetween design plan (before + slots)) (alone : IsAlone design plan fault before (before + slots) own.copy)
      (unseen : AllHold (λ (w : WatchedBit). own_of own.copy.values w.object ≡ None) plan.watched) (same : own.time ≡ now) where
    abbrev then : ℕ
    then = b.last.begins.time

    then_is : time_at design plan (before + slots) ≡ Some then
    then_is = time-between design plan (before + slots) b

    next-after : (next : FirstSlot) → slice_get (good_slots design plan) (before + slots) ≡ Some next → then < next.begins.time
    next-after next here = (laws.good.fine design plan b.number b.last next rules b.here (subst (λ n. slice_get (good_slots design plan) n ≡ Some next) b.at_is here)).1

    stops-later : StopsAfter then (good_stop design plan)
    stops-later = (laws.good.fine design plan b.number b.last b.next rules b.here b.there).2

    more-there : before + slots < length (good_slots design plan)
    more-there = (let low = slice_get_within (good_slots design plan) (suc b.number) b.next b.there in omega (arith, low, b.at_is))

    within-end : then ≤ plan.end
    within-end = laws.good.within design plan b.number b.last rules b.here

    open-there : IsOpenAt design plan (before + slots) then
    open-there = record {
      time_is = then_is;
      early = (let after : then < b.next.begins.time = (laws.good.fine design plan b.number b.last b.next rules b.here b.there).1 in
          let by : b.next.begins.time ≤ plan.end = laws.good.within design plan (suc b.number) b.next rules b.there in
          omega (arith, after, by));
      more = more-there;
      goes_on = stops-later;
      state_is =
          laws.good.stands design plan b.number then b.last rules b.here (laws.good.fine design plan b.number b.last b.next rules b.here b.there).0 (omega arith)
          (λ next here. (laws.good.fine design plan b.number b.last next rules b.here here).1)
          ∙ ap (state_through design plan) (sym b.at_is);
    }

    since-there : now ≤ then
    since-there = laws.good.times design plan before (before + slots) now then rules (omega arith) now_is then_is

    by-count : (count : ℕ) → HasPassed design plan (before + slots) (strobes.passed + count) →
        IsShardFault design plan (before + slots) (strobes.passed + count) (record own { time = then; end = None })
    by-count count has =
        stays-open then since-there stops-later within-end (before + slots) next-after alone unseen same (take count (drop strobes.passed plan.strobes))
        (drop count (drop strobes.passed plan.strobes)) (sym (take-append-drop count (drop strobes.passed plan.strobes)))
        (all-right (λ strobe. strobe ≤ then) (take strobes.passed plan.strobes) (take count (drop strobes.passed plan.strobes))
        (subst (AllHold (λ strobe. strobe ≤ then)) (take-add strobes.passed count plan.strobes) (has.early then then_is more-there)))
        (subst (AllHold (λ strobe. then < strobe)) (sym (drop-drop count strobes.passed plan.strobes)) (has.later then then_is more-there)) (before + slots) (strobes.passed + count)
        (sym (take-add strobes.passed count plan.strobes)) open-there

    -- behind them the fault stands, with whatever count of strobes passed there
    pub passes-slots : (time : ℕ) → time ≡ then → (passed : ℕ) → strobes.passed ≤ passed → HasPassed design plan (before + slots) passed →
        IsShardFault design plan (before + slots) passed (record own { time = time })
    passes-slots time time_is passed low has =
        let all : passed ≡ strobes.passed + (passed - strobes.passed) = omega (arith, low) in
        subst (λ t. IsShardFault design plan (before + slots) passed (record own { time = t })) (sym time_is)
        (subst (λ (end : Option End). IsShardFault design plan (before + slots) passed (record own { time = then; end = end })) (sym of.none)
        (subst (λ n. IsShardFault design plan (before + slots) n (record own { time = then; end = None })) (sym all)
        (by-count (passed - strobes.passed) (subst (HasPassed design plan (before + slots)) all has))))

  -- A whole window

  -- it leads to a time, up to which its slots leave the copy alone, and the strobes don't see that
  module _ (until : ℕ) (until_is : strobes.until ≡ Some until) (ends : ℕ) (next_later : (next : FirstSlot) → slice_get (good_slots design plan) ends ≡ Some next → until < next.begins.time)
      (alone : IsAlone design plan fault before ends own.copy) (unseen : AllHold (λ (w : WatchedBit). own_of own.copy.values w.object ≡ None) plan.watched) (same : own.time ≡ now) where
    led : IsLed design plan before through until
    led = of.are.leads.led until until_is

    since : now ≤ until
    since = (let P : Option ℕ → Type 0 = λ o. IsSince o until in subst P now_is led.since)

    seen : AreSeen design plan until (drop strobes.passed plan.strobes) strobes.samples.items
    seen = subst (λ (o : Option ℕ). AreSeenIf design plan o (drop strobes.passed plan.strobes) strobes.samples.items) until_is of.are.seen

    abbrev samples : List Sample
    samples = map sample_of strobes.samples.items

    abbrev passed-all : List ℕ
    passed-all = take strobes.passed plan.strobes ++ times samples

    abbrev later-all : List ℕ
    later-all = drop (length strobes.samples.items) (drop strobes.passed plan.strobes)

    by-then : AllHold (λ strobe. strobe ≤ until) (times samples)
    by-then = all-times until samples seen.by_then

    goes-all : StrobesGoOn design plan fault (Some until) passed-all later-all (said_by own)
    goes-all = goes until since led.goes_on led.within ends next_later alone unseen same (times samples) later-all seen.next_are by-then seen.after

    own-on : StopsAfter until (faulty_stop design plan fault)
    own-on = (over until since led.goes_on led.within ends next_later alone unseen same (times samples) later-all seen.next_are by-then seen.after).goes_on

    passed_is : passed-all ≡ take (passed_behind strobes) plan.strobes
    passed_is =
        passed-take plan.strobes passed-all (passed_behind strobes)
        (goes-all.strobes ∙ ap (λ (l : List ℕ). passed-all ++ l) (drop-drop (length strobes.samples.items) strobes.passed plan.strobes))

    -- The good first run is over

    abbrev Found : FaultGrade → Type 0
    Found found = IsBesideAt design (plan_by (kept_by own) plan) through (found_fault fault (differences_in design own.copy) found) × IsFull design plan fault found (said_by own)

    some-end : (one other : End) → Some one ≡ Some other → one ≡ other
    some-end one other e = cc

    ended : (end : End) (found : FaultGrade) → grade_of end ≡ found → Found found → IsShardFault design plan through (passed_behind strobes) (record own { time = until; end = Some end })
    ended end found is stands = record {
      fault = fault;
      listed = of.listed;
      beside = (subst Found (sym is) stands).0;
      full = λ other e. subst (λ (o : End). IsFull design plan fault (grade_of o) (said_by own)) (some-end end other e) (subst Found (sym is) stands).1;
      within = of.stands.within;
      goes_on = λ time e further none. cc;
    }

    -- by the verdict of the strobes
    by-strobes : IsAllAt design plan through → good_stop design plan ≡ None → until ≡ plan.end → Found (Judged (verdict_said (said_by own)))
    by-strobes all stop at_end =
        let none : later-all ≡ [] =
        none-left plan.end later-all (all-right (λ strobe. strobe ≤ plan.end) passed-all later-all (subst (AllHold (λ strobe. strobe ≤ plan.end)) goes-all.strobes of_plan.in_time))
        (subst (λ t. AllHold (λ strobe. t < strobe) later-all) at_end seen.after) in
        let never : faulty_stop design plan fault ≡ None =
        laws.runs.never (faulty_machine design fault) plan.end rules (subst (λ t. StopsAfter t (faulty_stop design plan fault)) at_end own-on) in
        let e =
        laws.ends.verdict design plan fault (Some until) passed-all (said_by own) rules of_plan
        (subst (λ (l : List ℕ). StrobesGoOn design plan fault (Some until) passed-all l (said_by own)) none goes-all) stop never in
        (laws.faults.ends_all design plan fault (kept_by own) through plan.end (Judged (verdict_said (said_by own))) (differences_in design own.copy) rules of_plan all e.ends, e.full)

    -- by the good machine's race
    by-race : (pair : ReportedPair) → IsAllAt design plan through → good_stop design plan ≡ Some (record { time = pair.time; outcome = Race pair }) → pair.time ≡ suc until →
        Found (Raced Good pair)
    by-race pair all stop at =
        let e =
        laws.ends.good design plan fault (Some until) passed-all later-all (said_by own) (record { time = pair.time; outcome = Race pair }) (Raced Good pair) goes-all stop
        (subst (λ t. AllHold (λ strobe. t ≤ strobe) later-all) (sym at) (since-next until later-all seen.after))
        (subst (λ t. NotBefore t (faulty_stop design plan fault)) (sym at) (not-before-next until (faulty_stop design plan fault) own-on)) refl in
        (laws.faults.ends_all design plan fault (kept_by own) through pair.time (Raced Good pair) (differences_in design own.copy) rules of_plan all e.ends, e.full)

    -- so it stands behind the window, however that ends
    pub passes : (ending : WindowEnd) (end : Option End) → EndsSo design plan through ending (Some until) → EndsBehind ending (said_by own) end →
        IsShardFault design plan through (passed_behind strobes) (record own { time = until; end = end })
    passes IsOpen end so behind =
        subst (λ (e : Option End). IsShardFault design plan through (passed_behind strobes) (record own { time = until; end = e })) (sym behind)
        (stays-open until since led.goes_on led.within ends next_later alone unseen same (times samples) later-all seen.next_are by-then seen.after through (passed_behind strobes) passed_is
        (subst (IsOpenAt design plan through) (sym (some-is until so.0 so.1)) so.2))
    passes IsThrough end so behind =
        subst (λ (e : Option End). IsShardFault design plan through (passed_behind strobes) (record own { time = until; end = e })) (sym behind.1)
        (ended behind.0 (Judged (verdict_said (said_by own))) behind.2 (by-strobes so.0 so.1 (some-is until plan.end so.2)))
    passes (IsRaced pair) end so behind =
        subst (λ (e : Option End). IsShardFault design plan through (passed_behind strobes) (record own { time = until; end = e })) (sym behind.1)
        (ended behind.0 (Raced Good pair) behind.2 (by-race pair so.0 so.1 (just-before pair.time until so.2)))
