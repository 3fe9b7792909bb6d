-- What a trace keeps as slots are pushed and windows are closed.
use Rattle.std.proofs.Common.{◌≡◌, ℕ, ◌+◌, ◌-◌, ◌<◌, ◌≤◌, ◌^◌, Bool, true, false, ◌||◌, List, [], ◌++◌, map, length, refl, sym, ap, subst, ◌∙◌, arith}
use Rattle.std.specs.Prelude.{nat_le}
use Rattle.std.proofs.lemmas.Bool.{leb-false}
use Rattle.std.proofs.lemmas.List.{length_push}
use Rattle.std.proofs.lemmas.Option.{slice_get_within}
use Rattle.vf_base.specs.declared.limits.TheConstants.{WINDOW_SLOTS, WINDOW_STEPS}
use Rattle.four_value.specs.Values.{LogicValue}
use Rattle.v_design.specs.Designs.{FlatDesign, TestPlan, good_machine}
use Rattle.v_design.specs.WellFormed.{KeepsRules}
use Rattle.v_design.specs.Runs.{counted_steps}
use Rattle.process_code.specs.declared.code.Code.{Code}
use Rattle.process_code.specs.declared.state.RunEnd.{RunEnd}
use Rattle.causal_monitor.specs.declared.slot.SlotLog.{SlotLog}
use Rattle.copy_laws.specs.Windows.{WindowEnd, IsWindow, good_slots, window_steps}
use Rattle.between_slots.specs.Between.{window_phases}
use Rattle.trace_window.specs.declared.sizes.Sizes.{Sizes}
use Rattle.trace_window.specs.Gathered.{BeginsAt}
use Rattle.trace_window.specs.Listed.{log_accesses}
use Rattle.trace_window.specs.Moments.{window_events, values_through}
use Rattle.trace_window.specs.TouchLaws.{listed-length}
use Rattle.window_runs.specs.RunLaws.{EndsJoin}
use Rattle.window_runs.specs.RunsByProcess.{numbered_from}
use Rattle.good_trace.specs.declared.between.BetweenSlots.{BetweenSlots}
use Rattle.good_trace.specs.declared.pushed.PushedSlots.{PushedSlots}
use Rattle.good_trace.specs.Beginnings.{AreTimes, AreBeginnings}
use Rattle.good_trace.specs.Counted.{steps_logged}
use Rattle.good_trace.specs.Events.{sizes_of, AreGathered}
use Rattle.good_trace.specs.Pushes.{HasNoSlot, PushesSlot}
use Rattle.good_trace.specs.RunsKept.{AreRunsKept, KeepsTrace}
use Rattle.good_trace.specs.Slots.{IsSlotAt, is_full, first_turn}
use Rattle.good_trace.specs.Traces.{TraceKept, IsTrace}
use Rattle.good_trace.proofs.Counting.{steps-are, few-steps}
use Rattle.good_trace.proofs.Gathering.{AreTimes-none, AreTimes-more, AreGathered-none, AreGathered-more, AreBeginnings-none, AreBeginnings-more, begins-behind}
use Rattle.good_trace.proofs.RunsKeeping.{AreRunsKept-more}
use Rattle.good_trace.proofs.Steps.{window_steps-more, window_steps-none}

or-parts : (a b : Bool) → (a || b) ≡ false → (a ≡ false) × (b ≡ false)
or-parts true b e = cc
or-parts false b e = (refl, e)

-- a window that isn't full has few slots and steps
pub room-left : (slots steps : ℕ) → is_full slots steps ≡ false → (slots < 64) × (steps < 200000)
room-left slots steps e =
    let parts = or-parts (nat_le WINDOW_SLOTS slots) (nat_le WINDOW_STEPS steps) e in (leb-false WINDOW_SLOTS slots parts.0, leb-false WINDOW_STEPS steps parts.1)

-- the steps of a slot of the good first run
pub steps_logged-at : (codes : List Code) (design : FlatDesign) (plan : TestPlan) (number : ℕ) (log : SlotLog) (runs : List RunEnd) → IsSlotAt codes design plan number log runs →
    steps_logged log ≤ 100000
steps_logged-at codes design plan number log runs is =
    let same = steps-are (good_machine design) (first_turn number) is.slot log is.logged in let few = few-steps is.slot is.few_steps in omega (arith, same, few)

-- a trace of no slots
pub IsTrace-none : (design : FlatDesign) (plan : TestPlan) (number : ℕ) (values : List LogicValue) (slots : PushedSlots) → KeepsRules design → values ≡ values_through design plan number →
    length values ≡ length design.objects → length (good_slots design plan) < 2 ^ 63 → HasNoSlot slots.table → BeginsAt 0 slots.list → IsTrace design plan number number 0 values slots
IsTrace-none design plan number values slots rules are count fits none empty = record {
  rules = rules;
  values_are = are;
  values_count = count;
  run_fits = fits;
  times_are = AreTimes-none design plan number slots.table.times.items none.times;
  accesses = [];
  events_are = AreGathered-none design plan number slots.list empty;
  beginnings_are = AreBeginnings-none design plan number slots.table.beginnings.items none.beginnings;
  counted = sym (window_steps-none design plan number);
  few_slots = let long = ap (λ (l : List ℕ). length l) none.times in omega (arith, long);
  few_steps = omega arith;
}

-- one slot more
pub IsTrace-more : (codes : List Code) (design : FlatDesign) (plan : TestPlan) (pushed closed steps phases : ℕ) (values : List LogicValue) (old new : PushedSlots) (log : SlotLog)
    (runs others : List RunEnd) → IsTrace design plan pushed closed steps values old → IsSlotAt codes design plan pushed log runs →
    is_full (pushed - closed) (window_steps design plan closed pushed) ≡ false → phases ≡ length (window_phases design plan closed (pushed + 1)) →
    PushesSlot (sizes_of design) log others phases old new → IsTrace design plan (pushed + 1) closed (steps + steps_logged log) values new
IsTrace-more codes design plan pushed closed steps phases values old new log runs others had next room count more = record {
  rules = had.rules;
  values_are = had.values_are;
  values_count = had.values_count;
  run_fits = had.run_fits;
  times_are = subst (AreTimes design plan closed (pushed + 1)) (sym more.times)
      (AreTimes-more design plan closed pushed old.table.times.items log.time had.times_are (record { slot = next.slot; stands = next.stands; is = next.log_time; few_steps = next.few_steps }));
  accesses = had.accesses ++ log_accesses log;
  events_are = gathered;
  beginnings_are = subst (AreBeginnings design plan closed (pushed + 1) (had.accesses ++ log_accesses log)) (sym more.beginnings)
      (AreBeginnings-more design plan closed pushed had.accesses (log_accesses log) old.table.beginnings.items
      (record { moment = new.list.moment; changes = length new.list.changes.items; phases = phases }) low
      (listed-length (good_machine design) (window_events design plan closed pushed) had.accesses had.events_are.listed) had.beginnings_are
      (begins-behind design plan closed (pushed + 1) phases (had.accesses ++ log_accesses log) new.list gathered count));
  counted = (λ i. had.counted i + same i) ∙ sym (window_steps-more design plan closed pushed next.slot next.stands low);
  few_slots = let grown = ap (λ (l : List ℕ). length l) more.times in let long = length_push old.table.times.items log.time in omega (arith, had.times_are.held, grown, long, room_left.0);
  few_steps = small steps (window_steps design plan closed pushed) (steps_logged log) had.counted room_left.1 few;
}
  where
    low : closed ≤ pushed
    low = omega (arith, had.times_are.held)

    gathered : AreGathered design plan closed (pushed + 1) (had.accesses ++ log_accesses log) new.list
    gathered = AreGathered-more design plan closed pushed had.accesses next.slot log old.list new.list low next.stands next.logged had.events_are more.gathers

    room_left : (pushed - closed < 64) × (window_steps design plan closed pushed < 200000)
    room_left = room-left (pushed - closed) (window_steps design plan closed pushed) room

    same : steps_logged log ≡ counted_steps next.slot.moves
    same = steps-are (good_machine design) (first_turn pushed) next.slot log next.logged

    few : steps_logged log ≤ 100000
    few = steps_logged-at codes design plan pushed log runs next

    small : (a b c : ℕ) → a ≡ b → b < 200000 → c ≤ 100000 → a + c ≤ 300000
    small a b c e h k = omega arith

-- what is pushed can be counted
pub push-fits : (codes : List Code) (design : FlatDesign) (plan : TestPlan) (pushed closed steps : ℕ) (values : List LogicValue) (slots : PushedSlots) (log : SlotLog) (runs : List RunEnd) →
    IsTrace design plan pushed closed steps values slots →
    IsSlotAt codes design plan pushed log runs → (pushed + 1 < 2 ^ 64) × (steps + steps_logged log < 2 ^ 32)
push-fits codes design plan pushed closed steps values slots log runs had next =
    let low : pushed < length (good_slots design plan) = slice_get_within (good_slots design plan) pushed next.slot next.stands in
    let few = steps_logged-at codes design plan pushed log runs next in (omega (arith, low, had.run_fits), omega (arith, few, had.few_steps))

-- the slot that comes next, by what contracts see of a trace
pub next-is : (codes : List Code) (design : FlatDesign) (plan : TestPlan) (pushed closed : ℕ) (kept : TraceKept) (log : SlotLog) (runs : List RunEnd) →
    record { codes = codes; pushed = pushed; closed = closed } ≡ kept →
    IsSlotAt kept.codes design plan kept.pushed log runs → IsSlotAt codes design plan pushed log runs
next-is codes design plan pushed closed kept log runs view is = subst (λ (k : TraceKept). IsSlotAt k.codes design plan k.pushed log runs) (sym view) is

pub room-is : (codes : List Code) (design : FlatDesign) (plan : TestPlan) (pushed closed : ℕ) (kept : TraceKept) → record { codes = codes; pushed = pushed; closed = closed } ≡ kept →
    is_full (kept.pushed - kept.closed) (window_steps design plan kept.closed kept.pushed) ≡ false → is_full (pushed - closed) (window_steps design plan closed pushed) ≡ false
room-is codes design plan pushed closed kept view is = subst (λ (k : TraceKept). is_full (k.pushed - k.closed) (window_steps design plan k.closed k.pushed) ≡ false) (sym view) is

pub window-is : (codes : List Code) (design : FlatDesign) (plan : TestPlan) (pushed closed : ℕ) (kept : TraceKept) (ending : WindowEnd) →
    record { codes = codes; pushed = pushed; closed = closed } ≡ kept →
    IsWindow design plan kept.closed kept.pushed ending → IsWindow design plan closed pushed ending
window-is codes design plan pushed closed kept ending view is = subst (λ (k : TraceKept). IsWindow design plan k.closed k.pushed ending) (sym view) is

-- what a trace keeps once a slot is pushed, whose runs' ends are numbered on
pub push-keeps : EndsJoin → (codes : List Code) (design : FlatDesign) (plan : TestPlan) (pushed closed steps count before phases : ℕ) (between : BetweenSlots) (old new : PushedSlots)
    (sizes : Sizes) (kept : TraceKept) (log : SlotLog) (runs others : List RunEnd) → KeepsTrace codes design plan pushed closed steps before between old →
    record { codes = codes; pushed = pushed; closed = closed } ≡ kept → IsSlotAt kept.codes design plan kept.pushed log runs →
    is_full (kept.pushed - kept.closed) (window_steps design plan kept.closed kept.pushed) ≡ false → count ≡ steps_logged log → phases ≡ before + length log.phases →
    others ≡ map (numbered_from before) runs → sizes ≡ sizes_of design → PushesSlot sizes log others phases old new →
    KeepsTrace codes design plan (pushed + 1) closed (steps + count) phases between new
push-keeps join codes design plan pushed closed steps count before phases between old new sizes kept log runs others had view next room is counted numbered sized more = record {
  slots_kept = subst (λ n. IsTrace design plan (pushed + 1) closed (steps + n) between.values.items new) (sym is)
      (IsTrace-more codes design plan pushed closed steps phases between.values.items old new log runs others had.slots_kept here (room-is codes design plan pushed closed kept view room)
      grown.phase_count (subst (λ s. PushesSlot s log others phases old new) sized more));
  runs_kept = grown;
  updates_kept = had.updates_kept;
}
  where
    here : IsSlotAt codes design plan pushed log runs
    here = next-is codes design plan pushed closed kept log runs view next

    grown : AreRunsKept codes design plan (pushed + 1) closed phases between.states.items new.table.runs.items
    grown =
        AreRunsKept-more join codes design plan pushed closed before phases between.states.items old.table.runs.items runs new.table.runs.items log had.runs_kept
        (next-is codes design plan pushed closed kept log runs view next) (omega (arith, had.slots_kept.times_are.held)) counted
        (more.runs_are ∙ ap (λ l. old.table.runs.items ++ l) numbered)

-- whether the window is full then
pub full-is : (design : FlatDesign) (plan : TestPlan) (pushed closed steps : ℕ) (values : List LogicValue) (slots : PushedSlots) (count : ℕ) →
    IsTrace design plan pushed closed steps values slots → count ≡ length slots.table.times.items →
    is_full count steps ≡ is_full (pushed - closed) (window_steps design plan closed pushed)
full-is design plan pushed closed steps values slots count had is =
    let e : count ≡ pushed - closed = omega (arith, had.times_are.held, is) in λ i. is_full (e i) (had.counted i)
