-- The times of a run grow by less than 2^32 a turn.
use Rattle.std.proofs.Common.{◌≡◌, ℕ, zero, suc, ◌+◌, ◌*◌, ◌<◌, ◌≤◌, List, [], ◌∷◌, Bool, true, false, ◌||◌, refl, sym, ap, subst, ◌∙◌, arith}
use Rattle.std.specs.Prelude.{Option, Some, None, slice_get, nat_le, nat_lt, if◌then◌else◌}
use Rattle.std.proofs.lemmas.Bool.{leb-false}
use Rattle.vf_base.specs.Lists.{AllHold}
use Rattle.four_value.specs.Values.{LogicValue}
use Rattle.v_design.specs.Trees.{Null}
use Rattle.v_design.specs.Sized.{IsSizedStatement}
use Rattle.v_design.specs.Designs.{FlatNode, FlatProcess, Machine}
use Rattle.v_design.specs.Assignments.{ValueUpdate, value_at}
use Rattle.v_design.specs.Processes.{Activity, Ready, Waiting, Asleep, Postponed, Done, Action, ReadsObject, WritesObject, AppendsUpdate, TouchesNothing, ProcessStep}
use Rattle.v_design.specs.States.{State, ProcessState, LaterUpdate, Event, Step, LaneStep, Evaluation, NetUpdate, TurnKind, PostponedTurn, UpdatesTurn, TimeTurn, start, after, turned, turn_of}
use Rattle.v_design.specs.States.{found_or, idle_process, process_at, source_at, some_entry, entry_matches, ready_if, woken, woken_process, with_value, with_values, with_process}
use Rattle.v_design.specs.States.{written_if, value_written, write_of, first_update, after_lane_step, after_step, step_of, appended, evaluated, nets_updated, resumed, awake_at, is_due}
use Rattle.v_design.specs.States.{some_in, is_postponed, least_of, wake_time, due_time, next_time_of, time_turn_at, turn_by}
use Rattle.v_design.specs.Runs.{happened}
use Rattle.v_design.specs.WellFormed.{IsProcessOf, KeepsRules}
use Rattle.order_laws.specs.Settling.{settling}
use Rattle.cert_laws.specs.Replays.{RunLine, SlotAt, PhaseNumber, StepsOf, UpdatesOf, Replay, stepped_on, step_on, steps_on, may_end, turned_on, phase_on, slot_on, begun, next_line}
use Rattle.replay_laws.specs.Times.{WakesWithin, IsWithin, TimesWithin, TimesGrow}
use Rattle.replay_laws.proofs.Words.{some-eq, only-some, then-some, allowed-some, hold-append, hold-map, hold-each, hold-filter, hold-change, hold-found}
use Rattle.replay_laws.proofs.Steps.{ActionWithin, StepWithin, body-delays, activity-within, next-within}

-- all processes of a state
abbrev AllWithin : ℕ → ℕ → State → Type 0
AllWithin now latest state = AllHold (IsWithin now latest) state.processes

-- Later times

later-wakes : (now latest more : ℕ) (activity : Activity) → latest ≤ more → WakesWithin now latest activity → WakesWithin now more activity
later-wakes now latest more (Ready tasks operands) low h = h
later-wakes now latest more (Waiting place entries tasks) low h = h
later-wakes now latest more (Asleep time tasks) low h = (h.0, (let within : time ≤ latest = h.1 in omega (arith, within, low)), h.2)
later-wakes now latest more (Postponed tasks) low h = h
later-wakes now latest more Done low h = tt

later-due : (latest more : ℕ) (later : List LaterUpdate) → latest ≤ more → AllHold (λ (l : LaterUpdate). l.time ≤ latest) later → AllHold (λ (l : LaterUpdate). l.time ≤ more) later
later-due latest more later low h = hold-each (λ (l : LaterUpdate). l.time ≤ latest) (λ (l : LaterUpdate). l.time ≤ more) later (λ l within. omega (arith, within, low)) h

later-all : (now latest more : ℕ) (processes : List ProcessState) → latest ≤ more → AllHold (IsWithin now latest) processes → AllHold (IsWithin now more) processes
later-all now latest more processes low h =
    hold-each (IsWithin now latest) (IsWithin now more) processes
    (λ p w. record { wakes = later-wakes now latest more p.activity low w.wakes; due = later-due latest more p.later low w.due }) h

-- Events

woken-within : (now latest object : ℕ) (old new : LogicValue) (activity : Activity) → WakesWithin now latest activity → WakesWithin now latest (woken object old new activity)
woken-within now latest object old new (Ready tasks operands) h = h
woken-within now latest object old new (Waiting place entries tasks) h = go (some_entry (entry_matches object old new) entries)
  where
    go : (b : Bool) → WakesWithin now latest (ready_if b (Waiting place entries tasks) tasks)
    go true = h
    go false = h
woken-within now latest object old new (Asleep time tasks) h = h
woken-within now latest object old new (Postponed tasks) h = h
woken-within now latest object old new Done h = tt

value-within : (now latest : ℕ) (machine : Machine) (object : ℕ) (new : LogicValue) (state : State) → AllWithin now latest state → AllWithin now latest (with_value machine object new state)
value-within now latest machine object new state h =
    hold-map (IsWithin now latest) (IsWithin now latest) (woken_process object (value_at state.values object) new) state.processes
    (λ p w. record { wakes = woken-within now latest object (value_at state.values object) new p.activity w.wakes; due = w.due }) h

written-within : (now latest : ℕ) (machine : Machine) (write : Option ValueUpdate) (state : State) → AllWithin now latest state → AllWithin now latest (written_if machine write state)
written-within now latest machine None state h = h
written-within now latest machine (Some update) state h = value-within now latest machine update.object (value_written machine state update) state h

values-within : (now latest : ℕ) (machine : Machine) (objects : List ℕ) (values : List LogicValue) (state : State) → AllWithin now latest state →
    AllWithin now latest (with_values machine objects values state)
values-within now latest machine [] values state h = h
values-within now latest machine (object ∷ objects) [] state h = h
values-within now latest machine (object ∷ objects) (value ∷ values) state h =
    values-within now latest machine objects values (with_value machine object value state) (value-within now latest machine object value state h)

evaluated-within : (now latest : ℕ) (machine : Machine) (number : ℕ) (node : Option FlatNode) (state : State) → AllWithin now latest state →
    AllWithin now latest (evaluated machine number node state)
evaluated-within now latest machine number None state h = h
evaluated-within now latest machine number (Some node) state h = h

nets-within : (now latest : ℕ) (machine : Machine) (number : ℕ) (node : Option FlatNode) (pending : Option (List LogicValue)) (state : State) → AllWithin now latest state →
    AllWithin now latest (nets_updated machine number node pending state)
nets-within now latest machine number None pending state h = h
nets-within now latest machine number (Some node) None state h = h
nets-within now latest machine number (Some node) (Some values) state h = values-within now latest machine node.outputs values _ h

appended-within : (now latest : ℕ) (action : Action) → now + 4294967296 ≤ latest → ActionWithin action → AllHold (λ (l : LaterUpdate). l.time ≤ latest) (appended now action)
appended-within now latest (ReadsObject object) low d = tt
appended-within now latest (WritesObject update) low d = tt
appended-within now latest (AppendsUpdate delay update) low d = (omega (arith, low, d), tt)
appended-within now latest TouchesNothing low d = tt

idle-within : (now latest : ℕ) → IsWithin now latest idle_process
idle-within now latest = record { wakes = tt; due = tt }

-- the body of each process has its sizes
source-sized : (machine : Machine) (number : ℕ) → KeepsRules machine.design → IsSizedStatement (source_at machine number).body
source-sized machine number rules =
    hold-found (λ (p : FlatProcess). IsSizedStatement p.body) (record { always = false; body = Null; place = record { line = 0; column = 0 } }) machine.design.processes number tt
    (hold-each (IsProcessOf machine.design) (λ (p : FlatProcess). IsSizedStatement p.body) machine.design.processes (λ p h. h.sized) rules.processes)

step-of : (machine : Machine) (state : State) (number latest : ℕ) → KeepsRules machine.design → state.time + 4294967296 ≤ latest → AllWithin state.time latest state →
    StepWithin state.time latest (step_of machine state number)
step-of machine state number latest rules low h =
    activity-within machine state number latest (process_at state number).activity low (source-sized machine number rules)
    (hold-found (IsWithin state.time latest) idle_process state.processes number (idle-within state.time latest) h).wakes

all-after : (machine : Machine) (state : State) (event : Event) (latest : ℕ) → KeepsRules machine.design → state.time + 4294967296 ≤ latest → AllWithin state.time latest state →
    AllWithin state.time latest (after machine state event)
all-after machine state (Step number) latest rules low h =
    let s = step-of machine state number latest rules low h in
    let step : ProcessStep = step_of machine state number in
    written-within state.time latest machine (write_of step.action) (with_process number (after_step state step) state)
    (hold-change (IsWithin state.time latest) state.processes number (after_step state step)
    (λ p w. record {
      wakes = next-within state.time latest state.values step.action step.next s.0;
      due = hold-append (λ (l : LaterUpdate). l.time ≤ latest) p.later (appended state.time step.action) w.due (appended-within state.time latest step.action low s.1);
    }) h)
all-after machine state (LaneStep number) latest rules low h =
    written-within state.time latest machine (first_update (process_at state number).lane) (with_process number after_lane_step state)
    (hold-change (IsWithin state.time latest) state.processes number after_lane_step (λ p w. record { wakes = w.wakes; due = w.due }) h)
all-after machine state (Evaluation number) latest rules low h = evaluated-within state.time latest machine number (slice_get machine.design.nodes number) state h
all-after machine state (NetUpdate number) latest rules low h = nets-within state.time latest machine number (slice_get machine.design.nodes number) _ state h

-- time stands still
time-written : (machine : Machine) (write : Option ValueUpdate) (s : State) → (written_if machine write s).time ≡ s.time
time-written machine None s = refl
time-written machine (Some u) s = refl

time-values : (machine : Machine) (objects : List ℕ) (values : List LogicValue) (s : State) → (with_values machine objects values s).time ≡ s.time
time-values machine [] values s = refl
time-values machine (object ∷ objects) [] s = refl
time-values machine (object ∷ objects) (value ∷ values) s = time-values machine objects values (with_value machine object value s)

time-nets : (machine : Machine) (number : ℕ) (node : Option FlatNode) (pending : Option (List LogicValue)) (s : State) → (nets_updated machine number node pending s).time ≡ s.time
time-nets machine number None pending s = refl
time-nets machine number (Some node) None s = refl
time-nets machine number (Some node) (Some values) s = time-values machine node.outputs values _

time-evaluated : (machine : Machine) (number : ℕ) (node : Option FlatNode) (s : State) → (evaluated machine number node s).time ≡ s.time
time-evaluated machine number None s = refl
time-evaluated machine number (Some node) s = refl

time-after : (machine : Machine) (s : State) (event : Event) → (after machine s event).time ≡ s.time
time-after machine s (Step p) = time-written machine (write_of (step_of machine s p).action) (with_process p _ s)
time-after machine s (LaneStep p) = time-written machine (first_update (process_at s p).lane) (with_process p _ s)
time-after machine s (Evaluation n) = time-evaluated machine n (slice_get machine.design.nodes n) s
time-after machine s (NetUpdate n) = time-nets machine n (slice_get machine.design.nodes n) _ s

pub time-happened : (machine : Machine) (s : State) (events : List Event) → (happened machine s events).time ≡ s.time
time-happened machine s [] = refl
time-happened machine s (event ∷ events) = time-happened machine (after machine s event) events ∙ time-after machine s event

times-after : (machine : Machine) (turns : ℕ) (state : State) (event : Event) → KeepsRules machine.design → TimesWithin turns state → TimesWithin turns (after machine state event)
times-after machine turns state event rules t =
    let same = time-after machine state event in
    let latest : ℕ = (turns + 1) * 4294967296 in
    let now = t.now in
    record {
      now = subst (λ n. n ≤ turns * 4294967296) (sym same) now;
      processes = subst (λ n. AllHold (IsWithin n latest) (after machine state event).processes) (sym same)
          (all-after machine state event latest rules (omega (arith, now)) t.processes);
    }

pub times-happened : (machine : Machine) (turns : ℕ) (state : State) (events : List Event) → KeepsRules machine.design → TimesWithin turns state → TimesWithin turns (happened machine state events)
times-happened machine turns state [] rules t = t
times-happened machine turns state (event ∷ events) rules t = times-happened machine turns (after machine state event) events rules (times-after machine turns state event rules t)

-- Turns

-- a time that may be there is later than now, and a time at the latest
abbrev Between : ℕ → ℕ → Option ℕ → Type 0
Between now latest None = Unit {0}
Between now latest (Some time) = (now < time) × (time ≤ latest)

least-between : (now latest : ℕ) (one other : Option ℕ) → Between now latest one → Between now latest other → Between now latest (least_of one other)
least-between now latest None other h k = k
least-between now latest (Some time) None h k = h
least-between now latest (Some time) (Some other) h k =
    let a : now < time = h.0 in
    let b : time ≤ latest = h.1 in
    let c : now < other = k.0 in
    (omega (arith, a, c), omega (arith, b))

wake-between : (now latest : ℕ) (activity : Activity) → WakesWithin now latest activity → Between now latest (wake_time activity)
wake-between now latest (Ready tasks operands) h = tt
wake-between now latest (Waiting place entries tasks) h = tt
wake-between now latest (Asleep time tasks) h = (h.0, h.1)
wake-between now latest (Postponed tasks) h = tt
wake-between now latest Done h = tt

either-false : (b c : Bool) → (b || c) ≡ false → (b ≡ false) × (c ≡ false)
either-false true c e = cc
either-false false c e = (refl, e)

due-between : (now latest : ℕ) (later : List LaterUpdate) → some_in (is_due now) later ≡ false → AllHold (λ (l : LaterUpdate). l.time ≤ latest) later → Between now latest (due_time later)
due-between now latest [] e h = tt
due-between now latest (l ∷ later) e h =
    let p = either-false (is_due now l) (some_in (is_due now) later) e in
    least-between now latest (Some l.time) (due_time later) (leb-false l.time now p.0, h.0) (due-between now latest later p.1 h.1)

next-between : (now latest : ℕ) (processes : List ProcessState) → some_in (λ (p : ProcessState). some_in (is_due now) p.later) processes ≡ false → AllHold (IsWithin now latest) processes →
    Between now latest (next_time_of processes)
next-between now latest [] e h = tt
next-between now latest (p ∷ processes) e h =
    let q = either-false (some_in (is_due now) p.later) (some_in (λ (p : ProcessState). some_in (is_due now) p.later) processes) e in
    least-between now latest (least_of (wake_time p.activity) (due_time p.later)) (next_time_of processes)
    (least-between now latest (wake_time p.activity) (due_time p.later) (wake-between now latest p.activity h.0.wakes) (due-between now latest p.later q.0 h.0.due))
    (next-between now latest processes q.1 h.1)

abbrev time-of : TurnKind → Option ℕ
time-of PostponedTurn = None
time-of UpdatesTurn = None
time-of (TimeTurn time) = Some time

turn-time : (found : Option ℕ) (later : ℕ) → time_turn_at found ≡ Some (TimeTurn later) → found ≡ Some later
turn-time None later e = cc
turn-time (Some time) later e = ap (λ (o : Option TurnKind). time-of (found_or PostponedTurn o)) e

turn-between : (now latest later : ℕ) (postponed due : Bool) (next : Option ℕ) → turn_by postponed due next ≡ Some (TimeTurn later) → (due ≡ false → Between now latest next) →
    (now < later) × (later ≤ latest)
turn-between now latest later true due next e h = cc
turn-between now latest later false true next e h = cc
turn-between now latest later false false next e h = subst (Between now latest) (turn-time next later e) (h refl)

pub rises : (turns later : ℕ) (state : State) → turn_of state ≡ Some (TimeTurn later) → TimesWithin turns state → (state.time < later) × (later ≤ (turns + 1) * 4294967296)
rises turns later state e t =
    turn-between state.time ((turns + 1) * 4294967296) later (some_in (λ (p : ProcessState). is_postponed p.activity) state.processes)
    (some_in (λ (p : ProcessState). some_in (is_due state.time) p.later) state.processes) (next_time_of state.processes) e
    (λ d. next-between state.time ((turns + 1) * 4294967296) state.processes d t.processes)

resumed-within : (now latest : ℕ) (activity : Activity) → WakesWithin now latest activity → WakesWithin now latest (resumed activity)
resumed-within now latest (Ready tasks operands) h = h
resumed-within now latest (Waiting place entries tasks) h = h
resumed-within now latest (Asleep time tasks) h = h
resumed-within now latest (Postponed tasks) h = h
resumed-within now latest Done h = tt

awake-within : (before now latest : ℕ) (activity : Activity) → WakesWithin before latest activity → WakesWithin now latest (awake_at now activity)
awake-within before now latest (Ready tasks operands) h = h
awake-within before now latest (Waiting place entries tasks) h = h
awake-within before now latest (Asleep time tasks) h = go (nat_le time now) refl
  where
    go : (b : Bool) → nat_le time now ≡ b → WakesWithin now latest (if b then Ready tasks [] else Asleep time tasks)
    go true e = h.2
    go false e = (leb-false time now e, h.1, h.2)
awake-within before now latest (Postponed tasks) h = h
awake-within before now latest Done h = tt

more-times : (turns more : ℕ) (state : State) → turns ≤ more → TimesWithin turns state → TimesWithin more state
more-times turns more state low t =
    let now = t.now in
    record {
      now = omega (arith, now, low);
      processes = later-all state.time ((turns + 1) * 4294967296) ((more + 1) * 4294967296) state.processes (omega (arith, low)) t.processes;
    }

pub times-turned : (turns : ℕ) (state : State) (turn : TurnKind) → turn_of state ≡ Some turn → TimesWithin turns state → TimesWithin (turns + 1) (turned turn state)
times-turned turns state PostponedTurn e t =
    let more = more-times turns (turns + 1) state (omega arith) t in
    let latest : ℕ = (turns + 1 + 1) * 4294967296 in
    record {
      now = more.now;
      processes = hold-map (IsWithin state.time latest) (IsWithin state.time latest) (λ (p : ProcessState). record p { activity = resumed p.activity }) state.processes
          (λ p w. record { wakes = resumed-within state.time latest p.activity w.wakes; due = w.due }) more.processes;
    }
times-turned turns state UpdatesTurn e t =
    let more = more-times turns (turns + 1) state (omega arith) t in
    let latest : ℕ = (turns + 1 + 1) * 4294967296 in
    record {
      now = more.now;
      processes = hold-map (IsWithin state.time latest) (IsWithin state.time latest) _ state.processes
          (λ p w. record { wakes = w.wakes; due = hold-filter (λ (l : LaterUpdate). l.time ≤ latest) _ p.later w.due }) more.processes;
    }
times-turned turns state (TimeTurn time) e t =
    let more = more-times turns (turns + 1) state (omega arith) t in
    let latest : ℕ = (turns + 1 + 1) * 4294967296 in
    let r = rises turns time state e t in
    record {
      now = r.1;
      processes = hold-map (IsWithin state.time latest) (IsWithin time latest) (λ (p : ProcessState). record p { activity = awake_at time p.activity }) state.processes
          (λ p w. record { wakes = awake-within state.time time latest p.activity w.wakes; due = w.due }) more.processes;
    }

-- The start

pub times-start : (machine : Machine) → KeepsRules machine.design → TimesWithin 0 (start machine)
times-start machine rules = record {
  now = omega arith;
  processes = hold-map (IsProcessOf machine.design) (IsWithin 0 ((0 + 1) * 4294967296)) _ machine.design.processes
      (λ p h. record { wakes = body-delays p.body h.sized; due = tt }) rules.processes;
}

-- Replays

pub times-step : (machine : Machine) (turns : ℕ) (event : Event) (replay next : Replay) → KeepsRules machine.design → step_on machine event replay ≡ Some next → TimesWithin turns replay.now →
    TimesWithin turns next.now
times-step machine turns event replay next rules e t =
    let o = only-some _ (stepped_on machine event replay) next e in
    subst (λ (r : Replay). TimesWithin turns r.now) o.1 (times-happened machine turns replay.now (event ∷ settling machine (after machine replay.now event)) rules t)

times-steps : (machine : Machine) (turns count : ℕ) (event : Event) (replay next : Replay) → KeepsRules machine.design → steps_on count machine event replay ≡ Some next →
    TimesWithin turns replay.now → TimesWithin turns next.now
times-steps machine turns zero event replay next rules e t = subst (λ (r : Replay). TimesWithin turns r.now) (some-eq replay next e) t
times-steps machine turns (suc count) event replay next rules e t =
    let s = then-some (step_on machine event replay) (λ r. steps_on count machine event r) next e in
    times-steps machine turns count event s.0 next rules s.2 (times-step machine turns event replay s.0 rules s.1 t)

times-phase : (turns number : ℕ) (replay next : Replay) (found : Option TurnKind) → turn_of replay.now ≡ found → phase_on found number replay ≡ Some next → TimesWithin turns replay.now →
    TimesWithin (turns + 1) next.now
times-phase turns number replay next None f e t = cc
times-phase turns number replay next (Some PostponedTurn) f e t =
    subst (λ (r : Replay). TimesWithin (turns + 1) r.now) (only-some _ (turned_on PostponedTurn number replay.steps replay) next e).1 (times-turned turns replay.now PostponedTurn f t)
times-phase turns number replay next (Some UpdatesTurn) f e t =
    subst (λ (r : Replay). TimesWithin (turns + 1) r.now) (only-some _ (turned_on UpdatesTurn number replay.steps replay) next e).1 (times-turned turns replay.now UpdatesTurn f t)
times-phase turns number replay next (Some (TimeTurn later)) f e t = cc

times-slot : (turns bound time : ℕ) (replay next : Replay) (found : Option TurnKind) → turn_of replay.now ≡ found → slot_on bound found time replay ≡ Some next → TimesWithin turns replay.now →
    TimesWithin (turns + 1) next.now
times-slot turns bound time replay next None f e t = cc
times-slot turns bound time replay next (Some PostponedTurn) f e t = cc
times-slot turns bound time replay next (Some UpdatesTurn) f e t = cc
times-slot turns bound time replay next (Some (TimeTurn later)) f e t =
    subst (λ (r : Replay). TimesWithin (turns + 1) r.now) (only-some _ (turned_on (TimeTurn later) 1 0 replay) next e).1 (times-turned turns replay.now (TimeTurn later) f t)

times-line : (race : Bool) (machine : Machine) (bound turns : ℕ) (line : RunLine) (replay next : Replay) → KeepsRules machine.design →
    next_line race machine bound line replay ≡ Some next → TimesWithin turns replay.now → TimesWithin (turns + 1) next.now
times-line race machine bound turns (SlotAt time) replay next rules e t =
    times-slot turns bound time replay next (turn_of replay.now) refl (allowed-some (may_end race machine replay) _ next e).1 t
times-line race machine bound turns (PhaseNumber number) replay next rules e t =
    times-phase turns number replay next (turn_of replay.now) refl (allowed-some (may_end race machine replay) _ next e).1 t
times-line race machine bound turns (StepsOf process count) replay next rules e t =
    more-times turns (turns + 1) next.now (omega arith) (times-steps machine turns count (Step process) replay next rules (allowed-some (nat_lt 0 count) _ next e).1 t)
times-line race machine bound turns (UpdatesOf process count) replay next rules e t =
    more-times turns (turns + 1) next.now (omega arith) (times-steps machine turns count (LaneStep process) replay next rules (allowed-some (nat_lt 0 count) _ next e).1 t)

pub times-begun : (machine : Machine) → KeepsRules machine.design → TimesWithin 0 (begun machine).now
times-begun machine rules = times-happened machine 0 (start machine) (settling machine (start machine)) rules (times-start machine rules)

-- The law

pub times_grow : TimesGrow
times_grow = record {
  starts = times-start;
  happens = times-after;
  turns_on = times-turned;
  more = more-times;
  rises = rises;
  begins = times-begun;
  line = times-line;
}
