-- The faulty machine from slot to slot of the good one, as long as nothing touches what differs.
use Rattle.std.proofs.Common.{◌≡◌, ℕ, zero, suc, ◌+◌, ◌<◌, ◌≤◌, true, refl, sym, ap, subst, ◌∙◌, inl, inr, arith}
use Rattle.std.specs.Prelude.{Option, Some, None, slice_get}
use Rattle.std.proofs.lemmas.Bool.{cases_lt}
use Rattle.vf_base.specs.Lists.{AllHold}
use Rattle.v_design.specs.Designs.{FlatDesign, StuckAt, TestPlan, good_machine, faulty_machine}
use Rattle.v_design.specs.States.{State, TimeTurn, process_at, next_time_of, time_turn_at, turn_of, time_turn}
use Rattle.v_design.specs.Runs.{FirstSlot, first_run, slot_end}
use Rattle.v_design.specs.Grades.{Fine, slot_outcome, Stop, first_stop}
use Rattle.v_design.specs.WellFormed.{KeepsRules}
use Rattle.order_laws.specs.FirstRuns.{FirstRunsGoOn}
use Rattle.machine_laws.specs.SlotLoop.{slot_from}
use Rattle.copy_laws.specs.Beside.{Keeps}
use Rattle.copy_laws.specs.Differences.{Differences, apart_of, StandsFor, KeepsNothingEqual}
use Rattle.copy_laws.specs.Moves.{IsWithin}
use Rattle.copy_laws.specs.OwnRuns.{EventsTakeNoTime}
use Rattle.copy_laws.specs.Rest.{within_of, DifferencesAreWithin, WithinAreDifferences}
use Rattle.copy_laws.specs.Turns.{ComesAfter}
use Rattle.copy_laws.specs.Windows.{IsCopyAt, good_slots, state_at}
use Rattle.grade_laws.specs.Ahead.{StopsAfter}
use Rattle.grade_laws.specs.Grading.{good_stop}
use Rattle.beside_laws.specs.Stands.{RunsGoOn, RunsStand}
use Rattle.trace_window.specs.Moments.{slot_seen}
use Rattle.quiet_slots.specs.FirstSlots.{RestsAfterSlot, FirstSlotsStand}
use Rattle.quiet_slots.specs.Quiet.{IsFreeBeside, SleepsInBoth, HaveOneTime, GoesWithGood, QuietSlotsPass}
use Rattle.quiet_slots.specs.SlotTimes.{slot-time}
use Rattle.quiet_slots.proofs.Between.{GoOnTo, goes-on-to, jump-there, next-late, stands-so, nothing-equal}
use Rattle.quiet_slots.proofs.Lockstep.{WalkLaws, Kept}
use Rattle.quiet_slots.proofs.Rests.{none-turns, turn-next}
use Rattle.quiet_slots.proofs.Slots.{PassesSlot, slot-passes}
use Rattle.quiet_slots.proofs.Stands.{Stand, stand-rests, stand-slot, stand-more, stand-later, stand-fine, stand-here, stand-passes, stand-again, next-later, turned-later, quiet-ready}
use Rattle.quiet_slots.proofs.Stands.{quiet-lane, empty-lane, through-stop}

-- all laws on which this stands
pub record PassLaws : Type 0 where
  pub walk : WalkLaws
  pub slots : FirstSlotsStand
  pub follow : FirstRunsGoOn
  pub runs : RunsGoOn
  pub stand : RunsStand
  pub begins : DifferencesAreWithin
  pub ends : WithinAreDifferences
  pub times : EventsTakeNoTime

-- What holds all the time

record Passing (design : FlatDesign) (plan : TestPlan) (fault : StuckAt) (d : Differences) (from until : ℕ) (good0 faulty0 : State) : Type 0 where
  rules : KeepsRules design
  kept : Kept design d until good0 faulty0
  differ : KeepsNothingEqual d good0
  good_on : StopsAfter until (good_stop design plan)
  by_end : until ≤ plan.end
  free : (number : ℕ) (slot : FirstSlot) → slice_get (good_slots design plan) number ≡ Some slot → from < slot.begins.time → slot.begins.time ≤ until →
      AllHold (IsFreeBeside design fault d faulty0) (slot_seen (good_machine design) slot)

-- both machines stand behind a slot at a time
record BothStand (design : FlatDesign) (plan : TestPlan) (fault : StuckAt) (d : Differences) (good0 : State) (time : ℕ) (good faulty : State) : Type 0 where
  good_stands : Stand (good_machine design) plan.end time good
  own_stands : Stand (faulty_machine design fault) plan.end time faulty
  within : IsWithin (within_of d good0) good faulty
  keeps : Keeps (apart_of d) good good0

copy-here : PassLaws → (design : FlatDesign) (plan : TestPlan) (fault : StuckAt) (d : Differences) (good0 : State) → KeepsNothingEqual d good0 → (now : ℕ) (good faulty : State) →
    BothStand design plan fault d good0 now good faulty → (time : ℕ) → state_at (good_machine design) plan.end time ≡ good → state_at (faulty_machine design fault) plan.end time ≡ faulty →
    IsCopyAt design plan fault time d
copy-here laws design plan fault d good0 differ now good faulty both time good_is own_is = record {
  stands = subst (λ s. StandsFor d s (state_at (faulty_machine design fault) plan.end time)) (sym good_is)
      (subst (StandsFor d good) (sym own_is) (stands-so laws.ends d good0 good faulty both.within both.keeps));
  nothing_equal = subst (KeepsNothingEqual d) (sym good_is) (nothing-equal d good0 good both.keeps differ);
}

good-rests : PassLaws → (design : FlatDesign) (plan : TestPlan) → KeepsRules design → (now : ℕ) (good : State) → Stand (good_machine design) plan.end now good → RestsAfterSlot (good_machine design) good
good-rests laws design plan rules now good s = stand-rests laws.slots (good_machine design) rules plan.end now good s

own-rests : PassLaws → (design : FlatDesign) (plan : TestPlan) (fault : StuckAt) → KeepsRules design → (now : ℕ) (faulty : State) → Stand (faulty_machine design fault) plan.end now faulty →
    RestsAfterSlot (faulty_machine design fault) faulty
own-rests laws design plan fault rules now faulty s = stand-rests laws.slots (faulty_machine design fault) rules plan.end now faulty s

-- where both machines stand in the same states at two times
one-time : (design : FlatDesign) (plan : TestPlan) (fault : StuckAt) (good faulty : State) (now time : ℕ) → state_at (good_machine design) plan.end now ≡ good →
    state_at (faulty_machine design fault) plan.end now ≡ faulty → state_at (good_machine design) plan.end time ≡ good → state_at (faulty_machine design fault) plan.end time ≡ faulty →
    HaveOneTime design plan fault now → HaveOneTime design plan fault time
one-time design plan fault good faulty now time good_now own_now good_then own_then one =
    ap (λ (s : State). s.time) (own_then ∙ sym own_now) ∙ one ∙ ap (λ (s : State). s.time) (good_now ∙ sym good_then)

-- No slot comes by then

late-goes : PassLaws → (design : FlatDesign) (plan : TestPlan) (fault : StuckAt) (d : Differences) (from until : ℕ) (good0 faulty0 : State) →
    Passing design plan fault d from until good0 faulty0 → (now : ℕ) (good faulty : State) → BothStand design plan fault d good0 now good faulty → now ≤ until →
    ComesAfter until (next_time_of good.processes) → GoesWithGood design plan fault d now until
late-goes laws design plan fault d from until good0 faulty0 pass now good faulty both low late = record {
  goes_on = (own-passes until low (omega arith)).1;
  copy = λ time since by. copy-here laws design plan fault d good0 pass.differ now good faulty both time (good-passes time since by).0 (own-passes time since by).0;
  same_time = λ time since by.
      one-time design plan fault good faulty now time (good-passes now (omega arith) low).0 (own-passes now (omega arith) low).0 (good-passes time since by).0 (own-passes time since by).0;
}
  where
    lower : (time : ℕ) (next : Option ℕ) → time ≤ until → ComesAfter until next → ComesAfter time next
    lower time None by l = tt
    lower time (Some next) by l = omega (arith, by, l)

    good-passes : (time : ℕ) → now ≤ time → time ≤ until →
        (state_at (good_machine design) plan.end time ≡ good) × StopsAfter time (first_stop (good_machine design) (first_run (good_machine design) plan.end))
    good-passes time since by =
        stand-passes laws.runs (good_machine design) plan.end now good both.good_stands time since
        (next-later plan.end good time (none-turns good (good-rests laws design plan pass.rules now good both.good_stands).no_turn) (lower time (next_time_of good.processes) by late))

    own-passes : (time : ℕ) → now ≤ time → time ≤ until →
        (state_at (faulty_machine design fault) plan.end time ≡ faulty) × StopsAfter time (first_stop (faulty_machine design fault) (first_run (faulty_machine design fault) plan.end))
    own-passes time since by =
        stand-passes laws.runs (faulty_machine design fault) plan.end now faulty both.own_stands time since
        (next-later plan.end faulty time (none-turns faulty (own-rests laws design plan fault pass.rules now faulty both.own_stands).no_turn)
        (lower time (next_time_of faulty.processes) by (next-late design d until good0 faulty0 pass.kept good faulty both.within late)))

-- A slot comes by then

-- both machines stand behind the next slot
record BothNext (design : FlatDesign) (plan : TestPlan) (fault : StuckAt) (d : Differences) (good0 good faulty : State) (now time : ℕ) : Type 0 where
  later : now < time
  good_turn : turn_of good ≡ Some (TimeTurn time)
  own_turn : turn_of faulty ≡ Some (TimeTurn time)
  both : BothStand design plan fault d good0 time (slot_end (good_machine design) (slot_from (good_machine design) (time_turn time good)))
      (slot_end (faulty_machine design fault) (slot_from (faulty_machine design fault) (time_turn time faulty)))

both-next : PassLaws → (design : FlatDesign) (plan : TestPlan) (fault : StuckAt) (d : Differences) (from until : ℕ) (good0 faulty0 : State) →
    Passing design plan fault d from until good0 faulty0 → (now : ℕ) (good faulty : State) → BothStand design plan fault d good0 now good faulty → from ≤ now → (time : ℕ) →
    next_time_of good.processes ≡ Some time → time ≤ until → BothNext design plan fault d good0 good faulty now time
both-next laws design plan fault d from until good0 faulty0 pass now good faulty both since time e by = record {
  later = later;
  good_turn = good_turn;
  own_turn = on.turn;
  both = record {
    good_stands = good_next;
    own_stands = stand-more laws.runs laws.slots (faulty_machine design fault) pass.rules plan.end now faulty both.own_stands time on.turn within slot.fine;
    within = slot.within;
    keeps = slot.keeps;
  };
}
  where
    good_rest : RestsAfterSlot (good_machine design) good
    good_rest = good-rests laws design plan pass.rules now good both.good_stands

    own_rest : RestsAfterSlot (faulty_machine design fault) faulty
    own_rest = own-rests laws design plan fault pass.rules now faulty both.own_stands

    within : time ≤ plan.end
    within = let end : until ≤ plan.end = pass.by_end in omega (arith, by, end)

    good_turn : turn_of good ≡ Some (TimeTurn time)
    good_turn = turn-next good (none-turns good good_rest.no_turn) ∙ ap time_turn_at e

    later : now < time
    later = stand-later laws.runs (good_machine design) plan.end now good both.good_stands time good_turn within

    on : GoOnTo design d good0 good faulty time
    on = goes-on-to laws.walk.turns design d until good0 faulty0 pass.kept good faulty (none-turns good good_rest.no_turn) (none-turns faulty own_rest.no_turn) both.within both.keeps time good_turn by

    fine : slot_outcome (good_machine design) (slot_from (good_machine design) (time_turn time good)) ≡ Fine
    fine = stand-fine laws.runs (good_machine design) plan.end now good both.good_stands time until good_turn within by pass.good_on

    good_next : Stand (good_machine design) plan.end time (slot_end (good_machine design) (slot_from (good_machine design) (time_turn time good)))
    good_next = stand-more laws.runs laws.slots (good_machine design) pass.rules plan.end now good both.good_stands time good_turn within fine

    free : AllHold (IsFreeBeside design fault d faulty0) (slot_seen (good_machine design) (slot_from (good_machine design) (time_turn time good)))
    free = pass.free (suc both.good_stands.number) (slot_from (good_machine design) (time_turn time good))
        (through-stop (good_machine design) until (first_run (good_machine design) plan.end) (laws.follow.rise (good_machine design) plan.end pass.rules) pass.good_on
        (suc both.good_stands.number) (slot_from (good_machine design) (time_turn time good))
        (stand-slot laws.slots (good_machine design) pass.rules plan.end now good both.good_stands time good_turn within) by)
        (let l : now < time = later in omega (arith, l, since)) by

    slot : PassesSlot design fault d good0 (time_turn time good) (time_turn time faulty)
    slot = slot-passes laws.walk design fault pass.rules d until good0 faulty0 pass.kept (time_turn time good) (time_turn time faulty) (good_rest.begins time)
        (own_rest.begins time) on.within (jump-there design d until good0 faulty0 pass.kept good faulty time on.within on.keeps) on.keeps by fine
        (good-rests laws design plan pass.rules time (slot_end (good_machine design) (slot_from (good_machine design) (time_turn time good))) good_next) free

next-goes : PassLaws → (design : FlatDesign) (plan : TestPlan) (fault : StuckAt) (d : Differences) (good0 : State) → KeepsNothingEqual d good0 → (until now : ℕ) (good faulty : State) →
    BothStand design plan fault d good0 now good faulty → (time : ℕ) → BothNext design plan fault d good0 good faulty now time → GoesWithGood design plan fault d time until →
    GoesWithGood design plan fault d now until
next-goes laws design plan fault d good0 differ until now good faulty both time next after = record {
  goes_on = after.goes_on;
  copy = λ u since by. elim (cases_lt u time) [
    | inl before ↦ copy-here laws design plan fault d good0 differ now good faulty both u (good-passes u since before).0 (own-passes u since before).0
    | inr then ↦ after.copy u then by
  ];
  same_time = λ u since by one. elim (cases_lt u time) [
    | inl before ↦ one-time design plan fault good faulty now u (good-passes now (omega arith) next.later).0 (own-passes now (omega arith) next.later).0 (good-passes u since before).0
        (own-passes u since before).0 one
    | inr then ↦ after.same_time u then by at-next
  ];
}
  where
    good-passes : (u : ℕ) → now ≤ u → u < time →
        (state_at (good_machine design) plan.end u ≡ good) × StopsAfter u (first_stop (good_machine design) (first_run (good_machine design) plan.end))
    good-passes u since before =
        stand-passes laws.runs (good_machine design) plan.end now good both.good_stands u since (turned-later plan.end good u time next.good_turn before)

    own-passes : (u : ℕ) → now ≤ u → u < time →
        (state_at (faulty_machine design fault) plan.end u ≡ faulty) × StopsAfter u (first_stop (faulty_machine design fault) (first_run (faulty_machine design fault) plan.end))
    own-passes u since before =
        stand-passes laws.runs (faulty_machine design fault) plan.end now faulty both.own_stands u since (turned-later plan.end faulty u time next.own_turn before)

    own-time : (state_at (faulty_machine design fault) plan.end time).time ≡ time
    own-time =
        ap (λ (s : State). s.time) (stand-here laws.runs (faulty_machine design fault) plan.end time _ next.both.own_stands)
        ∙ slot-time laws.times (faulty_machine design fault) (time_turn time faulty)

    good-time : (state_at (good_machine design) plan.end time).time ≡ time
    good-time =
        ap (λ (s : State). s.time) (stand-here laws.runs (good_machine design) plan.end time _ next.both.good_stands)
        ∙ slot-time laws.times (good_machine design) (time_turn time good)

    -- behind the slot both machines are at its time
    at-next : HaveOneTime design plan fault time
    at-next = own-time ∙ sym good-time

-- All slots

goes-step : PassLaws → (design : FlatDesign) (plan : TestPlan) (fault : StuckAt) (d : Differences) (from until : ℕ) (good0 faulty0 : State) →
    Passing design plan fault d from until good0 faulty0 → (now : ℕ) (good faulty : State) → BothStand design plan fault d good0 now good faulty → from ≤ now → now ≤ until →
    ((time : ℕ) → BothNext design plan fault d good0 good faulty now time → time ≤ until → GoesWithGood design plan fault d time until) → GoesWithGood design plan fault d now until
goes-step laws design plan fault d from until good0 faulty0 pass now good faulty both since by rest = go (next_time_of good.processes) refl
  where
    late : (next : Option ℕ) → next_time_of good.processes ≡ next → ComesAfter until next → GoesWithGood design plan fault d now until
    late next e l = late-goes laws design plan fault d from until good0 faulty0 pass now good faulty both by (subst (ComesAfter until) (sym e) l)

    go : (next : Option ℕ) → next_time_of good.processes ≡ next → GoesWithGood design plan fault d now until
    go None e = late None e tt
    go (Some time) e = elim (cases_lt until time) [
      | inl after ↦ late (Some time) e after
      | inr then ↦
          let next = both-next laws design plan fault d from until good0 faulty0 pass now good faulty both since time e then in
          next-goes laws design plan fault d good0 pass.differ until now good faulty both time next (rest time next then)
    ]

goes-from : PassLaws → (design : FlatDesign) (plan : TestPlan) (fault : StuckAt) (d : Differences) (from until : ℕ) (good0 faulty0 : State) →
    Passing design plan fault d from until good0 faulty0 → (fuel now : ℕ) (good faulty : State) → BothStand design plan fault d good0 now good faulty → from ≤ now → now ≤ until →
    until ≤ now + fuel → GoesWithGood design plan fault d now until
goes-from laws design plan fault d from until good0 faulty0 pass zero now good faulty both since by enough =
    goes-step laws design plan fault d from until good0 faulty0 pass now good faulty both since by
    (λ time next then. absurd (let later : now < time = next.later in omega (arith, enough, then, later)))
goes-from laws design plan fault d from until good0 faulty0 pass (suc fuel) now good faulty both since by enough =
    goes-step laws design plan fault d from until good0 faulty0 pass now good faulty both since by
    (λ time next then. let later : now < time = next.later in
    goes-from laws design plan fault d from until good0 faulty0 pass fuel time (slot_end (good_machine design) (slot_from (good_machine design) (time_turn time good)))
    (slot_end (faulty_machine design fault) (slot_from (faulty_machine design fault) (time_turn time faulty))) next.both (omega (arith, since, later)) then (omega (arith, enough, later)))

-- The law

-- what is kept of two states at rest
kept-at : DifferencesAreWithin → (design : FlatDesign) (fault : StuckAt) (d : Differences) (until : ℕ) (good faulty : State) → RestsAfterSlot (good_machine design) good →
    RestsAfterSlot (faulty_machine design fault) faulty → StandsFor d good faulty →
    ((process : ℕ) → (apart_of d).processes process ≡ true → SleepsInBoth design until process (process_at good process) (process_at faulty process)) → Kept design d until good faulty
kept-at law design fault d until good faulty good_rest own_rest stands sleep = record {
  within = law d good faulty stands (λ p. empty-lane faulty own_rest.quiescent p ∙ sym (empty-lane good good_rest.quiescent p));
  good_sleeps = λ p h. record {
    not_ready = quiet-ready good good_rest.quiescent p;
    not_postponed = (none-turns good good_rest.no_turn).not_postponed p;
    no_lane = quiet-lane good good_rest.quiescent p;
    past = (sleep p h).good_sleeps;
  };
  own_sleeps = λ p h. record {
    not_ready = quiet-ready faulty own_rest.quiescent p;
    not_postponed = (none-turns faulty own_rest.no_turn).not_postponed p;
    no_lane = quiet-lane faulty own_rest.quiescent p;
    past = (sleep p h).own_sleeps;
  };
  held = λ p h. (sleep p h).same_waits;
}

pub quiet_slots_pass : PassLaws → QuietSlotsPass
quiet_slots_pass laws design plan fault d from until rules copy good_on own_on low by_end quiet =
    let good_stand : Stand (good_machine design) plan.end from (state_at (good_machine design) plan.end from) =
    stand-again laws.stand (good_machine design) rules plan.end from (stops-earlier from until (good_stop design plan) low good_on) in
    let own_stand : Stand (faulty_machine design fault) plan.end from (state_at (faulty_machine design fault) plan.end from) =
    stand-again laws.stand (faulty_machine design fault) rules plan.end from own_on in
    let kept : Kept design d until (state_at (good_machine design) plan.end from) (state_at (faulty_machine design fault) plan.end from) =
    kept-at laws.begins design fault d until (state_at (good_machine design) plan.end from) (state_at (faulty_machine design fault) plan.end from)
    (good-rests laws design plan rules from (state_at (good_machine design) plan.end from) good_stand)
    (own-rests laws design plan fault rules from (state_at (faulty_machine design fault) plan.end from) own_stand) copy.stands quiet.sleep in
    goes-from laws design plan fault d from until (state_at (good_machine design) plan.end from) (state_at (faulty_machine design fault) plan.end from)
    (record { rules = rules; kept = kept; differ = copy.nothing_equal; good_on = good_on; by_end = by_end; free = quiet.free }) until from
    (state_at (good_machine design) plan.end from) (state_at (faulty_machine design fault) plan.end from)
    (record { good_stands = good_stand; own_stands = own_stand; within = kept.within; keeps = record { values = λ object h. refl; processes = λ p h. refl } }) (omega arith) low (omega arith)
  where
    stops-earlier : (from until : ℕ) (stop : Option Stop) → from ≤ until → StopsAfter until stop → StopsAfter from stop
    stops-earlier from until None low h = tt
    stops-earlier from until (Some stop) low h = let late : until < stop.time = h in let f : from < stop.time = omega (arith, low, late) in f
