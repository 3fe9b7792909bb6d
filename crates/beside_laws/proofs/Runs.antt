-- A first run goes on slot by slot (slots by IEEE 1364-2001, clause 5).
use Rattle.std.proofs.Common.{◌≡◌, ◌≢◌, ℕ, ◌<◌, ◌≤◌, List, [], ◌∷◌, Bool, true, false, refl, sym, ap, subst, ◌∙◌, arith}
use Rattle.std.specs.Prelude.{Option, Some, None}
use Rattle.std.proofs.lemmas.Bool.{le-leb, lt-leb}
use Rattle.vf_base.specs.Lists.{AllHold}
use Rattle.v_design.specs.Designs.{Machine}
use Rattle.v_design.specs.States.{State}
use Rattle.v_design.specs.Runs.{FirstSlot, first_run, next_slot, slot_end}
use Rattle.v_design.specs.Grades.{SlotOutcome, Fine, Race, Hyper, slot_outcome, Stop, first_stop}
use Rattle.order_laws.specs.FirstRuns.{Follow, Rise, FirstRunsGoOn}
use Rattle.machine_laws.specs.SlotLoop.{slot_from}
use Rattle.copy_laws.specs.Windows.{state_by, state_at}
use Rattle.grade_laws.specs.Ahead.{StopsAfter}
use Rattle.beside_laws.specs.Stands.{IsAfter, IsSince, HasRun, RunsGoOn}

-- The state at a time

-- the state after a slot that begins by then, and before one that doesn't
abbrev pub states_by : Machine → ℕ → State → FirstSlot → List FirstSlot → Bool → State
states_by machine time last slot slots begun = elim begun [ true ↦ state_by machine (slot_end machine slot) slots time | false ↦ last ]

pub state-begun : (machine : Machine) (time : ℕ) (last : State) (slot : FirstSlot) (slots : List FirstSlot) → slot.begins.time ≤ time →
    state_by machine last (slot ∷ slots) time ≡ state_by machine (slot_end machine slot) slots time
state-begun machine time last slot slots h = ap (states_by machine time last slot slots) (le-leb slot.begins.time time h)

pub state-later : (machine : Machine) (time : ℕ) (last : State) (slot : FirstSlot) (slots : List FirstSlot) → time < slot.begins.time → state_by machine last (slot ∷ slots) time ≡ last
state-later machine time last slot slots h = ap (states_by machine time last slot slots) (lt-leb slot.begins.time time h)

-- The first stop

-- the first stop of a slot with an outcome, and of those after it
abbrev pub stop_by : Machine → FirstSlot → List FirstSlot → SlotOutcome → Option Stop
stop_by machine slot slots outcome = elim outcome [
  | Fine ↦ first_stop machine slots
  | Race pair ↦ Some (record { time = slot.begins.time; outcome = Race pair })
  | Hyper ↦ Some (record { time = slot.begins.time; outcome = Hyper })
]

pub stops-later : (machine : Machine) (time : ℕ) (slots : List FirstSlot) → AllHold (λ (slot : FirstSlot). time < slot.begins.time) slots → StopsAfter time (first_stop machine slots)
stops-later machine time [] h = tt
stops-later machine time (slot ∷ slots) h = go (slot_outcome machine slot) (stops-later machine time slots h.1)
  where
    go : (outcome : SlotOutcome) → StopsAfter time (first_stop machine slots) → StopsAfter time (stop_by machine slot slots outcome)
    go Fine rest = rest
    go (Race pair) rest = h.0
    go Hyper rest = h.0

stop-here : (machine : Machine) (slot : FirstSlot) (slots : List FirstSlot) (outcome : SlotOutcome) → outcome ≢ Fine →
    stop_by machine slot slots outcome ≡ Some (record { time = slot.begins.time; outcome = outcome })
stop-here machine slot slots Fine other = absurd (other refl)
stop-here machine slot slots (Race pair) other = refl
stop-here machine slot slots Hyper other = refl

-- Slots that are ahead

all-any : (slots : List FirstSlot) → AllHold (λ (slot : FirstSlot). IsAfter None slot.begins.time) slots
all-any [] = tt
all-any (slot ∷ slots) = (tt, all-any slots)

pub all-after : (low time : ℕ) (slots : List FirstSlot) → low ≤ time → AllHold (λ (slot : FirstSlot). time < slot.begins.time) slots → AllHold (λ (slot : FirstSlot). low < slot.begins.time) slots
all-after low time [] h a = tt
all-after low time (slot ∷ slots) h a = (let x : time < slot.begins.time = a.0 in omega (arith, h, x), all-after low time slots h a.1)

-- the slot that is next, and those after it
record Next (machine : Machine) (end : ℕ) (now : Option ℕ) (begins state : State) : Type 0 where
  rest : List FirstSlot
  follow : Follow machine end (next_slot machine end (slot_from machine begins)) rest
  after : AllHold (λ (slot : FirstSlot). begins.time < slot.begins.time) rest
  rise : Rise rest
  since : IsAfter now begins.time
  stops : first_stop machine (first_run machine end) ≡ first_stop machine (slot_from machine begins ∷ rest)
  states : (time : ℕ) → IsSince now time → state_at machine end time ≡ state_by machine state (slot_from machine begins ∷ rest) time

next-slot : (machine : Machine) (end : ℕ) (now : Option ℕ) (begins state : State) → HasRun machine end now (Some begins) state → Next machine end now begins state
next-slot machine end now begins state run = go run.ahead run.follow run.rise run.later run.stops run.states
  where
    go : (slots : List FirstSlot) → Follow machine end (Some begins) slots → Rise slots → AllHold (λ (slot : FirstSlot). IsAfter now slot.begins.time) slots →
        first_stop machine (first_run machine end) ≡ first_stop machine slots →
        ((time : ℕ) → IsSince now time → state_at machine end time ≡ state_by machine state slots time) → Next machine end now begins state
    go [] f r l s v = absurd f
    go (slot ∷ rest) f r l s v = record {
      rest = rest;
      follow = subst (λ (x : FirstSlot). Follow machine end (next_slot machine end x) rest) f.0 f.1;
      after = subst (λ (x : FirstSlot). AllHold (λ (y : FirstSlot). x.begins.time < y.begins.time) rest) f.0 r.0;
      rise = r.1;
      since = subst (λ (x : FirstSlot). IsAfter now x.begins.time) f.0 l.0;
      stops = s ∙ ap (λ (x : FirstSlot). first_stop machine (x ∷ rest)) f.0;
      states = λ time h. v time h ∙ ap (λ (x : FirstSlot). state_by machine state (x ∷ rest) time) f.0;
    }

since-after : (now : Option ℕ) (begins time : ℕ) → IsAfter now begins → begins ≤ time → IsSince now time
since-after None begins time a h = tt
since-after (Some now) begins time a h = omega (arith, a, h)

run-fine : (machine : Machine) (end : ℕ) (now : Option ℕ) (begins state : State) → HasRun machine end now (Some begins) state → slot_outcome machine (slot_from machine begins) ≡ Fine →
    HasRun machine end (Some begins.time) (next_slot machine end (slot_from machine begins)) (slot_end machine (slot_from machine begins))
run-fine machine end now begins state run fine =
    let n = next-slot machine end now begins state run in
    record {
      ahead = n.rest;
      follow = n.follow;
      rise = n.rise;
      later = n.after;
      stops = n.stops ∙ ap (stop_by machine (slot_from machine begins) n.rest) fine;
      states = λ time h. n.states time (since-after now begins.time time n.since h) ∙ state-begun machine time state (slot_from machine begins) n.rest h;
    }

run-stops : (machine : Machine) (end : ℕ) (now : Option ℕ) (begins state : State) → HasRun machine end now (Some begins) state → slot_outcome machine (slot_from machine begins) ≢ Fine →
    first_stop machine (first_run machine end) ≡ Some (record { time = begins.time; outcome = slot_outcome machine (slot_from machine begins) })
run-stops machine end now begins state run other =
    let n = next-slot machine end now begins state run in
    n.stops ∙ stop-here machine (slot_from machine begins) n.rest (slot_outcome machine (slot_from machine begins)) other

-- Times that pass

nothing-left : (machine : Machine) (end : ℕ) (slots : List FirstSlot) → Follow machine end None slots → slots ≡ []
nothing-left machine end [] f = refl
nothing-left machine end (slot ∷ slots) f = absurd f

later-all : (machine : Machine) (end time : ℕ) (next : Option State) (slots : List FirstSlot) → Follow machine end next slots → Rise slots →
    ((begins : State) → next ≡ Some begins → time < begins.time) → AllHold (λ (slot : FirstSlot). time < slot.begins.time) slots
later-all machine end time next [] f r h = tt
later-all machine end time None (slot ∷ slots) f r h = absurd f
later-all machine end time (Some begins) (slot ∷ slots) f r h =
    let first : time < slot.begins.time = subst (λ (x : FirstSlot). time < x.begins.time) (sym f.0) (h begins refl) in
    (first, all-after time slot.begins.time slots (omega (arith, first)) r.0)

since-since : (now : Option ℕ) (time later : ℕ) → IsSince now time → time ≤ later → IsSince now later
since-since None time later a h = tt
since-since (Some now) time later a h = omega (arith, a, h)

run-passes : (machine : Machine) (end : ℕ) (now : Option ℕ) (next : Option State) (state : State) (time : ℕ) → HasRun machine end now next state → IsSince now time →
    ((begins : State) → next ≡ Some begins → time < begins.time) → HasRun machine end (Some time) next state
run-passes machine end now next state time run since h = record {
  ahead = run.ahead;
  follow = run.follow;
  rise = run.rise;
  later = later-all machine end time next run.ahead run.follow run.rise h;
  stops = run.stops;
  states = λ later k. run.states later (since-since now time later since k);
}

stays-before : (machine : Machine) (time : ℕ) (state : State) (slots : List FirstSlot) → AllHold (λ (slot : FirstSlot). time < slot.begins.time) slots → state_by machine state slots time ≡ state
stays-before machine time state [] h = refl
stays-before machine time state (slot ∷ slots) h = state-later machine time state slot slots h.0

run-stands : (machine : Machine) (end time : ℕ) (next : Option State) (state : State) → HasRun machine end (Some time) next state →
    (state_at machine end time ≡ state) × StopsAfter time (first_stop machine (first_run machine end))
run-stands machine end time next state run = (
  run.states time (omega arith) ∙ stays-before machine time state run.ahead run.later,
  subst (StopsAfter time) (sym run.stops) (stops-later machine time run.ahead run.later),
)

-- The laws

pub runs_go_on : FirstRunsGoOn → RunsGoOn
runs_go_on law = record {
  begins = λ machine end rules. record {
    ahead = first_run machine end;
    follow = law.follow machine end rules;
    rise = law.rise machine end rules;
    later = all-any (first_run machine end);
    stops = refl;
    states = λ time h. refl;
  };
  later = λ machine end now begins state run. (next-slot machine end now begins state run).since;
  fine = run-fine;
  stops = run-stops;
  passes = run-passes;
  stands = run-stands;
  over = λ machine end now state run. run.stops ∙ ap (first_stop machine) (nothing-left machine end run.ahead run.follow);
}
