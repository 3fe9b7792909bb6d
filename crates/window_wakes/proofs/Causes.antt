-- The wakes of a phase are what the causes of its steps tell (causes by IEEE 1364-2001, clause 5; waits by clause 9.7).
use Rattle.std.proofs.Common.{◌≡◌, ℕ, zero, suc, ◌+◌, ◌-◌, ◌<◌, ◌≤◌, Bool, true, false, ◌&&◌, ◌||◌, List, [], ◌∷◌, ◌++◌, length, take, map, refl, sym, ap, subst, ◌∙◌, inl, inr, arith, length-append, append_assoc}
use Rattle.std.specs.Prelude.{Option, Some, None, nat_eq, slice_get}
use Rattle.std.specs.List.{list_any}
use Rattle.std.proofs.lemmas.Bool.{eq-eqb, eqb-true, cases_lt}
use Rattle.std.proofs.lemmas.List.Folds.{list_any-append}
use Rattle.std.proofs.lemmas.Option.{slice_get_within}
use Rattle.v_design.specs.Designs.{Machine}
use Rattle.v_design.specs.Accesses.{is_waiting}
use Rattle.v_design.specs.Processes.{Activity, Ready, Waiting, Asleep, Postponed, Done}
use Rattle.v_design.specs.States.{State, Event, Step, LaneStep, Evaluation, NetUpdate, after, process_at, found_or, is_ready}
use Rattle.v_design.specs.Runs.{first_event, happened}
use Rattle.v_design.specs.Logs.{LoggedEvent, LoggedPhase, cause_at}
use Rattle.v_design.specs.PhaseLogs.{NotedEvent, is_step_of, logged, noted_from, noted_events, note_of, log_of}
use Rattle.machine_laws.specs.SlotLoop.{IsIdle}
use Rattle.copy_laws.specs.Beside.{AreFirst}
use Rattle.copy_laws.specs.QuietPhases.{ends_its_wait}
use Rattle.trace_window.specs.Moments.{Seen, seen_from}
use Rattle.boundary_laws.specs.Wakes.{EndsWaitAt, IsCauseOfStep, CausesTellWakes}
use Rattle.phase_blocks.proofs.Taken.{takes-step, ready-first, ready-none}
use Rattle.phase_blocks.proofs.Lists.{true-false}
use Rattle.window_wakes.specs.Wakes.{WakeTold, is_told, has_wake, woken_at}
use Rattle.window_wakes.specs.Gathered.{causes_of, steps_at, wake_unless, wake_by, wakes_by, phase_wakes}

-- Told of some events, the first of which has a moment

-- the wakes are just those that the events make
pub record TellsWakes (machine : Machine) (first : ℕ) (seen : List Seen) (wakes : List WakeTold) : Type 0 where
  pub forth : (moment process : ℕ) → has_wake wakes moment process ≡ true → (number : ℕ) × (moment ≡ first + number) × (woken_at machine seen process number ≡ true)
  pub back : (number process : ℕ) → woken_at machine seen process number ≡ true → has_wake wakes (first + number) process ≡ true

pub wakes-append : (xs ys : List WakeTold) (moment process : ℕ) → has_wake (xs ++ ys) moment process ≡ (has_wake xs moment process || has_wake ys moment process)
wakes-append xs ys moment process = list_any-append (is_told moment process) xs ys

or-cases : (a b : Bool) → (a || b) ≡ true → (P : Type 0) → (a ≡ true → P) → (b ≡ true → P) → P
or-cases true b e P f g = f refl
or-cases false b e P f g = g e

or-right : (a b : Bool) → b ≡ true → (a || b) ≡ true
or-right true b e = refl
or-right false b e = e

in-front : (xs ys : List Seen) (n : ℕ) → n < length xs → slice_get (xs ++ ys) n ≡ slice_get xs n
in-front [] ys n low = absurd (omega (arith, low))
in-front (x ∷ xs) ys zero low = refl
in-front (x ∷ xs) ys (suc n) low = in-front xs ys n (omega (arith, low))

behind-front : (xs ys : List Seen) (n : ℕ) → slice_get (xs ++ ys) (length xs + n) ≡ slice_get ys n
behind-front [] ys n = let e : 0 + n ≡ n = omega arith in ap (λ k. slice_get ys k) e
behind-front (x ∷ xs) ys n = (let e : length (x ∷ xs) + n ≡ suc (length xs + n) = omega arith in ap (λ k. slice_get (x ∷ (xs ++ ys)) k) e) ∙ behind-front xs ys n

abbrev by-seen : Machine → ℕ → Option Seen → Bool
by-seen machine process found = elim found as (λ _. Bool) [ None ↦ false | Some event ↦ ends_its_wait machine event.before event.event process ]

-- an event that ends a wait is there
woken-inside : (machine : Machine) (seen : List Seen) (process number : ℕ) → woken_at machine seen process number ≡ true → number < length seen
woken-inside machine [] process number e = cc
woken-inside machine (s ∷ seen) process zero e = let l : length (s ∷ seen) ≡ suc (length seen) = refl in omega (arith, l)
woken-inside machine (s ∷ seen) process (suc number) e =
    let l : length (s ∷ seen) ≡ suc (length seen) = refl in let r : number < length seen = woken-inside machine seen process number e in omega (arith, l, r)

-- more events behind
pub tells-append : (machine : Machine) (first : ℕ) (xs ys : List Seen) (ws vs : List WakeTold) → TellsWakes machine first xs ws → TellsWakes machine (first + length xs) ys vs →
    TellsWakes machine first (xs ++ ys) (ws ++ vs)
tells-append machine first xs ys ws vs one two = record {
  forth = λ moment process e.
      or-cases (has_wake ws moment process) (has_wake vs moment process) (sym (wakes-append ws vs moment process) ∙ e) _
      (λ f.
      let found = one.forth moment process f in
      let low : found.0 < length xs = woken-inside machine xs process found.0 found.2 in
      (found.0, found.1, ap (by-seen machine process) (in-front xs ys found.0 low) ∙ found.2))
      (λ f.
      let found = two.forth moment process f in
      let at : moment ≡ first + length xs + found.0 = found.1 in
      (length xs + found.0, (let e2 : moment ≡ first + (length xs + found.0) = omega (arith, at) in e2), ap (by-seen machine process) (behind-front xs ys found.0) ∙ found.2));
  back = λ number process e. elim (cases_lt number (length xs)) [
    | inl low ↦
        wakes-append ws vs (first + number) process
        ∙ ap (λ b. b || has_wake vs (first + number) process) (one.back number process (sym (ap (by-seen machine process) (in-front xs ys number low)) ∙ e))
    | inr high ↦
        let more : ℕ = number - length xs in
        let at : length xs + more ≡ number = omega (arith, high) in
        let there : woken_at machine ys process more ≡ true =
        sym (ap (by-seen machine process) (behind-front xs ys more)) ∙ ap (λ n. by-seen machine process (slice_get (xs ++ ys) n)) at ∙ e in
        let moment : first + length xs + more ≡ first + number = omega (arith, at) in
        wakes-append ws vs (first + number) process
        ∙ or-right (has_wake ws (first + number) process) (has_wake vs (first + number) process) (ap (λ n. has_wake vs n process) (sym moment) ∙ two.back more process there)
  ];
}

-- The causes of a phase

-- a step with its cause among some
record StepWithCause (events : List Event) (causes : List (Option ℕ)) (process number : ℕ) : Type 0 where
  place : ℕ
  step : slice_get events place ≡ Some (Step process)
  cause : slice_get causes place ≡ Some (Some number)

later-step : (event : Event) (events : List Event) (cause : Option ℕ) (causes : List (Option ℕ)) (process number : ℕ) → StepWithCause events causes process number →
    StepWithCause (event ∷ events) (cause ∷ causes) process number
later-step event events cause causes process number at = record { place = suc at.place; step = at.step; cause = at.cause }

one-told : (b : Bool) (m p moment process : ℕ) → has_wake (wake_unless b m p) moment process ≡ true → (b ≡ false) × (m ≡ moment) × (p ≡ process)
one-told true m p moment process e = cc
one-told false m p moment process e = (refl, eqb-true m moment (left (nat_eq m moment) (nat_eq p process) e), eqb-true p process (right (nat_eq m moment) (nat_eq p process) e))
  where
    left : (a b : Bool) → ((a && b) || false) ≡ true → a ≡ true
    left true b f = refl
    left false b f = cc

    right : (a b : Bool) → ((a && b) || false) ≡ true → b ≡ true
    right true true f = refl
    right true false f = cc
    right false b f = cc

-- what is told of a wake: a step has its cause in an event that is none of the process
record IsByCause (first : ℕ) (all events : List Event) (causes : List (Option ℕ)) (moment process : ℕ) : Type 0 where
  number : ℕ
  at : moment ≡ first + number
  other : steps_at all process number ≡ false
  with_cause : StepWithCause events causes process number

by-forth : (first : ℕ) (all events : List Event) (causes : List (Option ℕ)) (moment process : ℕ) → has_wake (wakes_by first all events causes) moment process ≡ true →
    IsByCause first all events causes moment process
by-forth first all [] causes moment process e = cc
by-forth first all (event ∷ events) [] moment process e = cc
by-forth first all (event ∷ events) (cause ∷ causes) moment process e =
    or-cases (has_wake (wake_by first all event cause) moment process) (has_wake (wakes_by first all events causes) moment process)
    (sym (wakes-append (wake_by first all event cause) (wakes_by first all events causes) moment process) ∙ e) (IsByCause first all (event ∷ events) (cause ∷ causes) moment process) (own event cause refl refl)
    (λ f.
    let rest = by-forth first all events causes moment process f in
    record { number = rest.number; at = rest.at; other = rest.other; with_cause = later-step event events cause causes process rest.number rest.with_cause })
  where
    own : (x : Event) (c : Option ℕ) → x ≡ event → c ≡ cause → has_wake (wake_by first all event cause) moment process ≡ true → IsByCause first all (event ∷ events) (cause ∷ causes) moment process
    own (Step q) None is cs f = let z : has_wake (wake_by first all (Step q) None) moment process ≡ true = (λ i. has_wake (wake_by first all (is i) (cs i)) moment process) ∙ f in cc
    own (Step q) (Some n) is cs f =
        let told = one-told (steps_at all q n) (first + n) q moment process ((λ i. has_wake (wake_by first all (is i) (cs i)) moment process) ∙ f) in
        record {
          number = n;
          at = sym told.1;
          other = ap (λ p. steps_at all p n) (sym told.2) ∙ told.0;
          with_cause = record { place = 0; step = ap Some (sym is ∙ ap Step told.2); cause = ap Some (sym cs) };
        }
    own (LaneStep q) c is cs f = let z : has_wake (wake_by first all (LaneStep q) cause) moment process ≡ true = (λ i. has_wake (wake_by first all (is i) cause) moment process) ∙ f in cc
    own (Evaluation n) c is cs f = let z : has_wake (wake_by first all (Evaluation n) cause) moment process ≡ true = (λ i. has_wake (wake_by first all (is i) cause) moment process) ∙ f in cc
    own (NetUpdate n) c is cs f = let z : has_wake (wake_by first all (NetUpdate n) cause) moment process ≡ true = (λ i. has_wake (wake_by first all (is i) cause) moment process) ∙ f in cc

some-event : (a b : Event) → Some a ≡ Some b → a ≡ b
some-event a b e = cc

some-cause : (a b : Option ℕ) → Some a ≡ Some b → a ≡ b
some-cause a b e = cc

by-back : (first : ℕ) (all events : List Event) (causes : List (Option ℕ)) (process number place : ℕ) → slice_get events place ≡ Some (Step process) → slice_get causes place ≡ Some (Some number) →
    steps_at all process number ≡ false → has_wake (wakes_by first all events causes) (first + number) process ≡ true
by-back first all [] causes process number place step cause other = cc
by-back first all (event ∷ events) [] process number place step cause other = cc
by-back first all (event ∷ events) (c ∷ causes) process number zero step cause other =
    let is : event ≡ Step process = some-event event (Step process) step in
    let cs : c ≡ Some number = some-cause c (Some number) cause in
    wakes-append (wake_by first all event c) (wakes_by first all events causes) (first + number) process
    ∙ ap (λ b. b || has_wake (wakes_by first all events causes) (first + number) process)
    ((λ i. has_wake (wake_by first all (is i) (cs i)) (first + number) process) ∙ ap (λ b. has_wake (wake_unless b (first + number) process) (first + number) process) other
    ∙ ap (λ b. (b && nat_eq process process) || false) (eq-eqb (first + number) (first + number) refl) ∙ ap (λ b. b || false) (eq-eqb process process refl))
by-back first all (event ∷ events) (c ∷ causes) process number (suc place) step cause other =
    wakes-append (wake_by first all event c) (wakes_by first all events causes) (first + number) process
    ∙ or-right (has_wake (wake_by first all event c) (first + number) process) (has_wake (wakes_by first all events causes) (first + number) process)
    (by-back first all events causes process number place step cause other)

-- The events of a phase

seen-at : (machine : Machine) (state : State) (events : List Event) (number : ℕ) (event : Event) → slice_get events number ≡ Some event →
    slice_get (seen_from machine state events) number ≡ Some (record { before = happened machine state (take number events); event = event })
seen-at machine state [] number event e = cc
seen-at machine state (first ∷ events) zero event e = ap (λ (x : Event). Some (record { before = state; event = x })) (some-event first event e)
seen-at machine state (first ∷ events) (suc number) event e = seen-at machine (after machine state first) events number event e

seen-event : (machine : Machine) (state : State) (events : List Event) (number process : ℕ) → woken_at machine (seen_from machine state events) process number ≡ true →
    EndsWaitAt machine state events number process
seen-event machine state events number process e = go (slice_get events number) refl
  where
    go : (found : Option Event) → slice_get events number ≡ found → EndsWaitAt machine state events number process
    go None is = absurd (past machine state events number is e)
      where
        past : (m : Machine) (s : State) (l : List Event) (n : ℕ) → slice_get l n ≡ None → woken_at m (seen_from m s l) process n ≡ true → ⊥
        past m s [] n f g = cc
        past m s (x ∷ l) zero f g = cc
        past m s (x ∷ l) (suc n) f g = past m (after m s x) l n f g
    go (Some event) is = record {
      event = event;
      there = is;
      ends = ap (by-seen machine process) (sym (seen-at machine state events number event is)) ∙ e;
    }

-- the event that the first order takes
first-at : (machine : Machine) (state : State) (events : List Event) (number : ℕ) (event : Event) → AreFirst machine state events → slice_get events number ≡ Some event →
    first_event (happened machine state (take number events)) ≡ Some event
first-at machine state [] number event f e = cc
first-at machine state (first ∷ events) zero event f e = f.0 ∙ e
first-at machine state (first ∷ events) (suc number) event f e = first-at machine (after machine state first) events number event f.1 e

waits-not-ready : (activity : Activity) → is_waiting activity ≡ true → is_ready activity ≡ true → ⊥
waits-not-ready (Ready tasks operands) w r = cc
waits-not-ready (Waiting place entries tasks) w r = cc
waits-not-ready (Asleep time tasks) w r = cc
waits-not-ready (Postponed tasks) w r = cc
waits-not-ready Done w r = cc

and-left : (a b : Bool) → (a && b) ≡ true → a ≡ true
and-left true b e = refl
and-left false b e = cc

-- an event that ends the wait of a process is no step of it
not-own : (machine : Machine) (begins : State) (events : List Event) (number process : ℕ) → AreFirst machine begins events → (at : EndsWaitAt machine begins events number process) →
    steps_at events process number ≡ false
not-own machine begins events number process first at =
    ap (λ found. elim found as (λ _. Bool) [ None ↦ true | Some event ↦ is_step_of process event ]) at.there ∙ go at.event refl
  where
    waits : is_waiting (process_at (happened machine begins (take number events)) process).activity ≡ true
    waits =
        and-left (is_waiting (process_at (happened machine begins (take number events)) process).activity)
        (is_ready (process_at (after machine (happened machine begins (take number events)) at.event) process).activity) at.ends

    ready : (q : ℕ) → Step q ≡ at.event → is_ready (process_at (happened machine begins (take number events)) q).activity ≡ true
    ready q is =
        ready-first (happened machine begins (take number events)) q
        (takes-step (happened machine begins (take number events)) q (first-at machine begins events number at.event first at.there ∙ ap Some (sym is))).2

    go : (event : Event) → event ≡ at.event → is_step_of process at.event ≡ false
    go (Step q) is = own (nat_eq process q) refl
      where
        own : (b : Bool) → nat_eq process q ≡ b → is_step_of process at.event ≡ false
        own false e = ap (is_step_of process) (sym is) ∙ e
        own true e =
            absurd (waits-not-ready (process_at (happened machine begins (take number events)) process).activity waits
            (ap (λ n. is_ready (process_at (happened machine begins (take number events)) n).activity) (eqb-true process q e) ∙ ready q is))
    go (LaneStep q) is = ap (is_step_of process) (sym is)
    go (Evaluation n) is = ap (is_step_of process) (sym is)
    go (NetUpdate n) is = ap (is_step_of process) (sym is)

found-cause : (causes : List (Option ℕ)) (place number : ℕ) → found_or None (slice_get causes place) ≡ Some number → slice_get causes place ≡ Some (Some number)
found-cause [] place number e = cc
found-cause (c ∷ causes) zero number e = ap Some e
found-cause (c ∷ causes) (suc place) number e = found-cause causes place number e

-- so the causes of a phase tell its wakes
pub phase-tells : CausesTellWakes → (machine : Machine) (begins : State) (events : List Event) (first : ℕ) → AreFirst machine begins events → IsIdle (happened machine begins events) →
    TellsWakes machine first (seen_from machine begins events) (phase_wakes first events (log_of machine begins events))
phase-tells law machine begins events first order idle = record {
  forth = λ moment process e.
      let told = by-forth first events events (causes_of (log_of machine begins events)) moment process e in
      let cause : IsCauseOfStep machine begins events told.number told.with_cause.place process =
      record { step = told.with_cause.step; cause = ap (found_or None) told.with_cause.cause } in
      let event = there events process told.number told.other in
      let ends = law.ends machine begins events told.number told.with_cause.place process event.0 cause event.1 event.2 in
      (told.number, told.at, ap (by-seen machine process) (seen-at machine begins events told.number ends.event ends.there) ∙ ends.ends);
  back = λ number process e.
      let ends = seen-event machine begins events number process e in
      let rests : is_ready (process_at (happened machine begins events) process).activity ≡ false =
      ready-none (happened machine begins events) process idle.2 in
      let later = law.steps machine begins events number process rests ends in
      by-back first events events (causes_of (log_of machine begins events)) process number later.0 later.1.step
      (found-cause (causes_of (log_of machine begins events)) later.0 number later.1.cause) (not-own machine begins events number process order ends);
}
  where
    there : (all : List Event) (process number : ℕ) → steps_at all process number ≡ false → (event : Event) × (slice_get all number ≡ Some event) × (is_step_of process event ≡ false)
    there all process number e = go (slice_get all number) refl e
      where
        go : (found : Option Event) → slice_get all number ≡ found → elim found as (λ _. Bool) [ None ↦ true | Some event ↦ is_step_of process event ] ≡ false →
            (event : Event) × (slice_get all number ≡ Some event) × (is_step_of process event ≡ false)
        go None is f = cc
        go (Some event) is f = (event, is, f)
