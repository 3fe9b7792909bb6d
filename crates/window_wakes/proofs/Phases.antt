-- The wakes of phases, gathered event by event and phase by phase (nothing of the language).
use Rattle.std.proofs.Common.{◌≡◌, ℕ, zero, suc, ◌+◌, ◌<◌, ◌≤◌, Bool, true, false, List, [], ◌∷◌, ◌++◌, map, length, get_or, take, refl, sym, ap, subst, ◌∙◌, arith, append-nil, append_assoc}
use Rattle.std.specs.Prelude.{Option, Some, None, slice_get, sum_by}
use Rattle.std.specs.List.{AllZip}
use Rattle.std.proofs.lemmas.List.{take_more, take_all, length-map, get_or-map, map-append}
use Rattle.std.proofs.lemmas.List.Sums.{sum_by-cons, sum_by-append}
use Rattle.v_design.specs.Logs.{LoggedEvent}
use Rattle.v_design.specs.PhaseLogs.{is_step_of}
use Rattle.v_design.specs.States.{Event, Step, LaneStep, Evaluation, NetUpdate, found_or}
use Rattle.causal_monitor.specs.Phases.{PhaseOfSlot}
use Rattle.causal_monitor.specs.declared.slot.Actor.{Actor}
use Rattle.causal_monitor.specs.declared.slot.Actor.TheVariants as actors_are
use Rattle.slot_record.specs.Records.{event_of}
use Rattle.trace_window.specs.Listed.{HasActors}
use Rattle.window_wakes.specs.Wakes.{WakeTold}
use Rattle.window_wakes.specs.Gathered.{causes_of, steps_at, wake_unless, wake_by, wakes_by, phase_wakes, all_wakes}

-- The wake of a cause

pub cause-none : (first : ℕ) (all : List Event) (process : ℕ) (cause : Option ℕ) (old : List WakeTold) → cause ≡ None → old ≡ old ++ wake_by first all (Step process) cause
cause-none first all process cause old none = sym (ap (λ c. old ++ wake_by first all (Step process) c) none ∙ append-nil old)

-- whether the event of a number is a step of a process
pub steps-at : (actors : List Actor) (process number : ℕ) (d : Actor) → number < length actors → steps_at (map event_of actors) process number ≡ is_step_of process (event_of (get_or actors number d))
steps-at [] process number d low = absurd (omega (arith, low))
steps-at (x ∷ actors) process zero d low = refl
steps-at (x ∷ actors) process (suc number) d low = steps-at actors process number d (omega (arith, low))

pub cause-own : (first : ℕ) (all : List Event) (process number : ℕ) (cause : Option ℕ) (old : List WakeTold) → cause ≡ Some number → steps_at all process number ≡ true →
    old ≡ old ++ wake_by first all (Step process) cause
cause-own first all process number cause old is own =
    sym (ap (λ c. old ++ wake_by first all (Step process) c) is ∙ ap (λ b. old ++ wake_unless b (first + number) process) own ∙ append-nil old)

pub cause-other : (first : ℕ) (all : List Event) (process number moment : ℕ) (cause : Option ℕ) (old : List WakeTold) → cause ≡ Some number → steps_at all process number ≡ false →
    moment ≡ first + number → old ++ record { moment = moment; process = process } ∷ [] ≡ old ++ wake_by first all (Step process) cause
cause-other first all process number moment cause old is other at =
    ap (λ m. old ++ record { moment = m; process = process } ∷ []) at
    ∙ sym (ap (λ c. old ++ wake_by first all (Step process) c) is ∙ ap (λ b. old ++ wake_unless b (first + number) process) other)

-- Event by event

pub not-step : (first : ℕ) (all : List Event) (actor : Actor) (cause : Option ℕ) (old : List WakeTold) → ((event : Event) (process : ℕ) → event_of actor ≡ event → event ≡ Step process → ⊥) →
    old ≡ old ++ wake_by first all (event_of actor) cause
not-step first all actor cause old none = go (event_of actor) refl
  where
    go : (event : Event) → event_of actor ≡ event → old ≡ old ++ wake_by first all (event_of actor) cause
    go (Step q) is = absurd (none (Step q) q is refl)
    go (LaneStep q) is = sym (ap (λ e. old ++ wake_by first all e cause) is ∙ append-nil old)
    go (Evaluation n) is = sym (ap (λ e. old ++ wake_by first all e cause) is ∙ append-nil old)
    go (NetUpdate n) is = sym (ap (λ e. old ++ wake_by first all e cause) is ∙ append-nil old)

wakes_by-push : (first : ℕ) (all events : List Event) (causes : List (Option ℕ)) (event : Event) (cause : Option ℕ) → length events ≡ length causes →
    wakes_by first all (events ++ event ∷ []) (causes ++ cause ∷ []) ≡ wakes_by first all events causes ++ wake_by first all event cause
wakes_by-push first all [] [] event cause same = append-nil (wake_by first all event cause)
wakes_by-push first all [] (c ∷ causes) event cause same = absurd (let e : 0 ≡ length (c ∷ causes) = same in let f : length (c ∷ causes) ≡ suc (length causes) = refl in omega (arith, e, f))
wakes_by-push first all (x ∷ events) [] event cause same = absurd (let e : length (x ∷ events) ≡ 0 = same in let f : length (x ∷ events) ≡ suc (length events) = refl in omega (arith, e, f))
wakes_by-push first all (x ∷ events) (c ∷ causes) event cause same =
    ap (λ l. wake_by first all x c ++ l)
    (wakes_by-push first all events causes event cause
    (let e : length (x ∷ events) ≡ length (c ∷ causes) = same in let f : length (x ∷ events) ≡ suc (length events) = refl in let g : length (c ∷ causes) ≡ suc (length causes) = refl in omega (arith, e, f, g)))
    ∙ sym (append_assoc (wake_by first all x c) (wakes_by first all events causes) (wake_by first all event cause))

get-found : (causes : List (Option ℕ)) (n : ℕ) → get_or causes n None ≡ found_or None (slice_get causes n)
get-found [] n = refl
get-found (c ∷ causes) zero = refl
get-found (c ∷ causes) (suc n) = get-found causes n

length-taken : {A : Type 0} (xs : List A) (n : ℕ) → n ≤ length xs → length (take n xs) ≡ n
length-taken xs zero low = refl
length-taken [] (suc n) low = absurd (omega (arith, low))
length-taken (x ∷ xs) (suc n) low = ap suc (length-taken xs n (omega (arith, low)))

pub events-none : (first : ℕ) (all : List Event) (causes : List (Option ℕ)) (old : List WakeTold) → old ≡ old ++ wakes_by first all (take 0 all) (take 0 causes)
events-none first all causes old = sym (append-nil old)

-- one event more
pub events-more : (first : ℕ) (actors : List Actor) (causes : List (Option ℕ)) (n : ℕ) (d : Actor) (cause : Option ℕ) (old between new : List WakeTold) → n < length actors →
    length actors ≡ length causes → between ≡ old ++ wakes_by first (map event_of actors) (take n (map event_of actors)) (take n causes) → cause ≡ found_or None (slice_get causes n) →
    new ≡ between ++ wake_by first (map event_of actors) (event_of (get_or actors n d)) cause →
    new ≡ old ++ wakes_by first (map event_of actors) (take (n + 1) (map event_of actors)) (take (n + 1) causes)
events-more first actors causes n d cause old between new low same had cause_is grown =
    grown ∙ ap (λ c. between ++ wake_by first all (event_of (get_or actors n d)) c) cause_is
    ∙ ap (λ l. l ++ wake_by first all (event_of (get_or actors n d)) (found_or None (slice_get causes n))) had
    ∙ append_assoc old (wakes_by first all (take n all) (take n causes)) (wake_by first all (event_of (get_or actors n d)) (found_or None (slice_get causes n)))
    ∙ ap (λ l. old ++ l)
    (sym (wakes_by-push first all (take n all) (take n causes) (event_of (get_or actors n d)) (found_or None (slice_get causes n)) longs)
    ∙ sym (λ i. wakes_by first all (events i) (owns i)))
  where
    all : List Event
    all = map event_of actors

    count : length all ≡ length actors
    count = length-map actors event_of

    longs : length (take n all) ≡ length (take n causes)
    longs = length-taken all n (omega (arith, count, low)) ∙ sym (length-taken causes n (omega (arith, same, low)))

    events : take (n + 1) all ≡ take n all ++ event_of (get_or actors n d) ∷ []
    events =
        take_more all n (event_of (get_or actors n d)) (omega (arith, count, low))
        ∙ ap (λ e. take n all ++ e ∷ []) (get_or-map event_of actors n d (event_of (get_or actors n d)) low)

    owns : take (n + 1) causes ≡ take n causes ++ found_or None (slice_get causes n) ∷ []
    owns = take_more causes n None (omega (arith, same, low)) ∙ ap (λ c. take n causes ++ c ∷ []) (get-found causes n)

-- all events
pub events-all : (first : ℕ) (actors : List Actor) (causes : List (Option ℕ)) (n : ℕ) (old new : List WakeTold) → length actors ≤ n → length actors ≡ length causes →
    new ≡ old ++ wakes_by first (map event_of actors) (take n (map event_of actors)) (take n causes) → new ≡ old ++ wakes_by first (map event_of actors) (map event_of actors) causes
events-all first actors causes n old new past same had =
    had ∙ (λ i. old ++ wakes_by first (map event_of actors) (take-past n (map event_of actors) (omega (arith, count, past)) i) (take-past n causes (omega (arith, same, past)) i))
  where
    count : length (map event_of actors) ≡ length actors
    count = length-map actors event_of

    take-past : {A : Type 0} (k : ℕ) (xs : List A) → length xs ≤ k → take k xs ≡ xs
    take-past zero [] low = refl
    take-past (suc k) [] low = refl
    take-past zero (x ∷ xs) low = absurd (omega (arith, low))
    take-past (suc k) (x ∷ xs) low = ap (λ l. x ∷ l) (take-past k xs (omega (arith, low)))

-- the cause of an event of a phase
pub causes-long : (phase : PhaseOfSlot) → length (causes_of phase.log) ≡ length phase.log.events
causes-long phase = length-map phase.log.events (λ (event : LoggedEvent). event.cause)

-- Phase by phase

all_wakes-push : (first : ℕ) (lists : List (List Event)) (logs : List PhaseOfSlot) (events : List Event) (phase : PhaseOfSlot) → length lists ≡ length logs →
    all_wakes first (lists ++ events ∷ []) (logs ++ phase ∷ []) ≡ all_wakes first lists logs ++ phase_wakes (first + sum_by length lists) events phase.log
all_wakes-push first [] [] events phase same =
    append-nil (phase_wakes first events phase.log) ∙ (let z : first ≡ first + 0 = omega arith in ap (λ n. phase_wakes n events phase.log) z)
all_wakes-push first [] (l ∷ logs) events phase same = absurd (let e : 0 ≡ length (l ∷ logs) = same in let f : length (l ∷ logs) ≡ suc (length logs) = refl in omega (arith, e, f))
all_wakes-push first (x ∷ lists) [] events phase same = absurd (let e : length (x ∷ lists) ≡ 0 = same in let f : length (x ∷ lists) ≡ suc (length lists) = refl in omega (arith, e, f))
all_wakes-push first (x ∷ lists) (l ∷ logs) events phase same =
    ap (λ w. phase_wakes first x l.log ++ w)
    (all_wakes-push (first + length x) lists logs events phase
    (let e : length (x ∷ lists) ≡ length (l ∷ logs) = same in let f : length (x ∷ lists) ≡ suc (length lists) = refl in let g : length (l ∷ logs) ≡ suc (length logs) = refl in omega (arith, e, f, g)))
    ∙ sym (append_assoc (phase_wakes first x l.log) (all_wakes (first + length x) lists logs) (phase_wakes (first + length x + sum_by length lists) events phase.log))
    ∙ (let s : sum_by length (x ∷ lists) ≡ length x + sum_by length lists = sum_by-cons length x lists in
    let z : first + length x + sum_by length lists ≡ first + sum_by length (x ∷ lists) = omega (arith, s) in
    ap (λ n. all_wakes first (x ∷ lists) (l ∷ logs) ++ phase_wakes n events phase.log) z)

-- so many phases of a slot are gathered
pub record AreGathered (first moment count : ℕ) (actors : List (List Actor)) (logs : List PhaseOfSlot) (old new : List WakeTold) : Type 0 where
  pub wakes : new ≡ old ++ all_wakes first (take count (map (λ (own : List Actor). map event_of own) actors)) (take count logs)
  pub behind : moment ≡ first + sum_by length (take count (map (λ (own : List Actor). map event_of own) actors))

pub gathered-none : (first : ℕ) (actors : List (List Actor)) (logs : List PhaseOfSlot) (old : List WakeTold) → AreGathered first first 0 actors logs old old
gathered-none first actors logs old = record { wakes = sym (append-nil old); behind = omega arith }

abbrev own_events : List Actor → List Event
own_events own = map event_of own

pub gathered-more : (first moment count behind : ℕ) (actors : List (List Actor)) (logs : List PhaseOfSlot) (own : List Actor) (phase : PhaseOfSlot) (old between new : List WakeTold) →
    count < length logs → length actors ≡ length logs → own ≡ get_or actors count own → phase ≡ get_or logs count phase → AreGathered first moment count actors logs old between →
    new ≡ between ++ phase_wakes moment (map event_of own) phase.log → behind ≡ moment + length own → AreGathered first behind (count + 1) actors logs old new
gathered-more first moment count behind actors logs own phase old between new low same own_is phase_is had grown long = record {
  wakes =
      grown ∙ (λ i. had.wakes i ++ phase_wakes (had.behind i) (own_events own) phase.log)
      ∙ append_assoc old (all_wakes first (take count lists) (take count logs)) (phase_wakes (first + sum_by length (take count lists)) (own_events own) phase.log)
      ∙ ap (λ l. old ++ l)
      (sym (all_wakes-push first (take count lists) (take count logs) (own_events own) phase longs) ∙ sym (λ i. all_wakes first (lists-more i) (logs-more i)));
  behind =
      let at : moment ≡ first + sum_by length (take count lists) = had.behind in
      let sum : sum_by length (take count lists ++ own_events own ∷ []) ≡ sum_by length (take count lists) + sum_by length (own_events own ∷ []) = sum_by-append length (take count lists) (own_events own ∷ []) in
      let one : sum_by length (own_events own ∷ []) ≡ length (own_events own) + 0 = sum_by-cons length (own_events own) [] in
      let own_long : length (own_events own) ≡ length own = length-map own event_of in
      let more : sum_by length (take (count + 1) lists) ≡ sum_by length (take count lists ++ own_events own ∷ []) = ap (sum_by length) lists-more in
      omega (arith, long, at, sum, one, own_long, more);
}
  where
    lists : List (List Event)
    lists = map (λ (one : List Actor). map event_of one) actors

    lists_long : length lists ≡ length actors
    lists_long = length-map actors (λ (one : List Actor). map event_of one)

    longs : length (take count lists) ≡ length (take count logs)
    longs = length-taken lists count (omega (arith, lists_long, same, low)) ∙ sym (length-taken logs count (omega (arith, low)))

    lists-more : take (count + 1) lists ≡ take count lists ++ own_events own ∷ []
    lists-more =
        take_more lists count (own_events own) (omega (arith, lists_long, same, low))
        ∙ ap (λ e. take count lists ++ e ∷ []) (get_or-map (λ (one : List Actor). map event_of one) actors count own (own_events own) (omega (arith, same, low)) ∙ ap own_events (sym own_is))

    logs-more : take (count + 1) logs ≡ take count logs ++ phase ∷ []
    logs-more = take_more logs count phase low ∙ ap (λ p. take count logs ++ p ∷ []) (sym phase_is)

pub gathered-all : (first moment count : ℕ) (actors : List (List Actor)) (logs : List PhaseOfSlot) (old new : List WakeTold) → length logs ≤ count → length actors ≡ length logs →
    AreGathered first moment count actors logs old new →
    (new ≡ old ++ all_wakes first (map (λ (own : List Actor). map event_of own) actors) logs)
    × (moment ≡ first + sum_by length (map (λ (own : List Actor). map event_of own) actors))
gathered-all first moment count actors logs old new past same had = (
  had.wakes ∙ (λ i. old ++ all_wakes first (whole i) (take-past count logs past i)),
  had.behind ∙ ap (λ l. first + sum_by length l) whole,
)
  where
    take-past : {A : Type 0} (k : ℕ) (xs : List A) → length xs ≤ k → take k xs ≡ xs
    take-past zero [] low = refl
    take-past (suc k) [] low = refl
    take-past zero (x ∷ xs) low = absurd (omega (arith, low))
    take-past (suc k) (x ∷ xs) low = ap (λ l. x ∷ l) (take-past k xs (omega (arith, low)))

    whole : take count (map (λ (own : List Actor). map event_of own) actors) ≡ map (λ (own : List Actor). map event_of own) actors
    whole =
        take-past count (map (λ (own : List Actor). map event_of own) actors)
        (let e : length (map (λ (own : List Actor). map event_of own) actors) ≡ length actors = length-map actors (λ (own : List Actor). map event_of own) in omega (arith, e, same, past))

-- In each phase of a slot as many act as there are events

pub acted-long : (logs : List PhaseOfSlot) (actors : List (List Actor)) → AllZip HasActors logs actors → length actors ≡ length logs
acted-long [] [] zip = refl
acted-long [] (own ∷ actors) zip = absurd zip
acted-long (log ∷ logs) [] zip = absurd zip
acted-long (log ∷ logs) (own ∷ actors) zip = ap suc (acted-long logs actors zip.1)

pub acted-at : (logs : List PhaseOfSlot) (actors : List (List Actor)) (n : ℕ) (log : PhaseOfSlot) (own : List Actor) → AllZip HasActors logs actors → n < length logs → log ≡ get_or logs n log →
    own ≡ get_or actors n own → HasActors log own
acted-at [] actors n log own zip low log_is own_is = absurd (omega (arith, low))
acted-at (x ∷ logs) [] n log own zip low log_is own_is = absurd zip
acted-at (x ∷ logs) (y ∷ actors) zero log own zip low log_is own_is = (λ i. length (own_is i)) ∙ zip.0 ∙ sym (λ i. length (log_is i).log.events)
acted-at (x ∷ logs) (y ∷ actors) (suc n) log own zip low log_is own_is = acted-at logs actors n log own zip.1 (omega (arith, low)) log_is own_is
