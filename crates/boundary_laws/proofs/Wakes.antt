-- Which event ended a wait, by the causes of later steps.
use Rattle.std.proofs.Common.{◌≡◌, ℕ, zero, suc, ◌+◌, ◌-◌, ◌<◌, ◌≤◌, List, [], ◌∷◌, length, take, Bool, true, false, ◌&&◌, ◌||◌, refl, sym, ap, subst, ◌∙◌, inl, inr, arith}
use Rattle.std.specs.Prelude.{Some, None, slice_get}
use Rattle.std.proofs.lemmas.Bool.{cases_lt, cases_eq}
use Rattle.v_design.specs.Designs.{Machine}
use Rattle.v_design.specs.States.{State, Event, Step, after, process_at, is_ready, found_or}
use Rattle.v_design.specs.Runs.{happened}
use Rattle.v_design.specs.Accesses.{is_waiting}
use Rattle.v_design.specs.PhaseLogs.{is_step_of}
use Rattle.copy_laws.specs.QuietPhases.{ends_its_wait}
use Rattle.copy_laws.proofs.ReadRuns.{stays-ready, is-the-step}
use Rattle.order_laws.proofs.RunStates.{first_of, state_at, at_next, at_past, at_first, none_past, some_below, found_below, MayNot, cause_is, cause_found, cause_at-place}
use Rattle.phase_blocks.proofs.Lists.{true-false}
use Rattle.boundary_laws.specs.Wakes.{EndsWaitAt, CausesTellWakes}
use Rattle.boundary_laws.proofs.Steps.{ready-waits-not}

-- States by places

first-take : {A : Type 0} (n : ℕ) (xs : List A) → first_of n xs ≡ take n xs
first-take zero xs = refl
first-take (suc n) [] = refl
first-take (suc n) (x ∷ xs) = ap (λ l. x ∷ l) (first-take n xs)

state-taken : (machine : Machine) (begins : State) (events : List Event) (place : ℕ) → state_at machine begins events place ≡ happened machine begins (take place events)
state-taken machine begins events place = at_first machine begins events place ∙ ap (happened machine begins) (first-take place events)

and-both : (a b : Bool) → (a && b) ≡ true → (a ≡ true) × (b ≡ true)
and-both true b e = (refl, e)
and-both false b e = cc

-- From the end of a wait to the step

-- from behind an event up to a place a process is ready and takes no step
record IsReadyUpTo (machine : Machine) (begins : State) (events : List Event) (number process place : ℕ) : Type 0 where
  ready : (m : ℕ) → number < m → m ≤ place → is_ready (process_at (state_at machine begins events m) process).activity ≡ true
  steps : (m : ℕ) (event : Event) → number < m → m < place → slice_get events m ≡ Some event → is_step_of process event ≡ false

-- an event there ends no wait of it
may-not : (machine : Machine) (begins : State) (events : List Event) (number p place m : ℕ) (event : Event) → IsReadyUpTo machine begins events number p place → number < m → m < place →
    slice_get events m ≡ Some event → MayNot machine begins events (Step p) m event
may-not machine begins events number p place m event up low high there =
    ap (λ b. b || ends_its_wait machine (state_at machine begins events m) event p) (up.steps m event low high there)
    ∙ ap (λ b. b && is_ready (process_at (after machine (state_at machine begins events m) event) p).activity)
    (ready-waits-not (process_at (state_at machine begins events m) p).activity (up.ready m low (omega (arith, high))))

record IsNextStep (machine : Machine) (begins : State) (events : List Event) (number process : ℕ) : Type 0 where
  later : ℕ
  high : number < later
  step : slice_get events later ≡ Some (Step process)
  none : (m : ℕ) (event : Event) → number < m → m < later → slice_get events m ≡ Some event → MayNot machine begins events (Step process) m event

one-further : (machine : Machine) (begins : State) (events : List Event) (number p place : ℕ) (event : Event) → number < place → IsReadyUpTo machine begins events number p place →
    slice_get events place ≡ Some event → is_step_of p event ≡ false → IsReadyUpTo machine begins events number p (suc place)
one-further machine begins events number p place event low up there other = record {
  ready = λ m above below. elim (cases_lt place m) [
    | inl past ↦
        (let same : suc place ≡ m = omega (arith, past, below) in
        subst (λ n. is_ready (process_at (state_at machine begins events n) p).activity ≡ true) same
        (ap (λ (s : State). is_ready (process_at s p).activity) (at_next machine begins events place event there)
        ∙ ap is_ready (stays-ready machine (state_at machine begins events place) p event other (up.ready place low (omega arith))) ∙ up.ready place low (omega arith)))
    | inr within ↦ up.ready m above (omega (arith, within))
  ];
  steps = λ m next above below here. elim (cases_eq m place) [
    | inl same ↦ ap (is_step_of p) (ap (found_or next) (sym here ∙ ap (slice_get events) same ∙ there)) ∙ other
    | inr apart ↦ up.steps m next above (omega (arith, apart, below)) here
  ];
}

next-step : (machine : Machine) (begins : State) (events : List Event) (number p : ℕ) → is_ready (process_at (happened machine begins events) p).activity ≡ false →
    (left place : ℕ) → place + left ≡ length events → number < place → IsReadyUpTo machine begins events number p place → IsNextStep machine begins events number p
next-step machine begins events number p rests zero place all low up =
    let past : slice_get events place ≡ None = none_past events place (omega (arith, all)) in
    true-false (is_ready (process_at (happened machine begins events) p).activity)
    (ap (λ (s : State). is_ready (process_at s p).activity) (sym (at_past machine begins events place past)) ∙ up.ready place low (omega arith)) rests
next-step machine begins events number p rests (suc left) place all low up =
    let there = some_below events place (omega (arith, all)) in
    go there.0 there.1 (is_step_of p there.0) refl
    (λ further. next-step machine begins events number p rests left (suc place) (omega (arith, all)) (omega (arith, low)) further)
  where
    go : (event : Event) → slice_get events place ≡ Some event → (b : Bool) → is_step_of p event ≡ b →
        (IsReadyUpTo machine begins events number p (suc place) → IsNextStep machine begins events number p) → IsNextStep machine begins events number p
    go event there true own rest = record {
      later = place;
      high = low;
      step = there ∙ ap Some (is-the-step p event own);
      none = λ m other above below here. may-not machine begins events number p place m other up above below here;
    }
    go event there false own rest = rest (one-further machine begins events number p place event low up there own)

-- just behind the event that ended the wait
first-ready : (machine : Machine) (begins : State) (events : List Event) (number p : ℕ) (own : EndsWaitAt machine begins events number p) → IsReadyUpTo machine begins events number p (suc number)
first-ready machine begins events number p own = record {
  ready = λ m above below.
      let same : suc number ≡ m = omega (arith, above, below) in
      subst (λ n. is_ready (process_at (state_at machine begins events n) p).activity ≡ true) same
      (ap (λ (s : State). is_ready (process_at s p).activity)
      (at_next machine begins events number own.event own.there ∙ ap (λ s. after machine s own.event) (state-taken machine begins events number))
      ∙ (and-both (is_waiting (process_at (happened machine begins (take number events)) p).activity)
      (is_ready (process_at (after machine (happened machine begins (take number events)) own.event) p).activity) own.ends).1);
  steps = λ m event above below here. absurd (omega (arith, above, below));
}

or-ends : (a b : Bool) → a ≡ false → (a || b) ≡ true → b ≡ true
or-ends true b e f = cc
or-ends false b e f = f

right-true : (a : Bool) → (a || true) ≡ true
right-true true = refl
right-true false = refl

pub causes_tell_wakes : CausesTellWakes
causes_tell_wakes = record {
  steps = λ machine begins events number p rests own.
      let within : number < length events = found_below events number own.event own.there in
      let left : ℕ = length events - suc number in
      let all : suc number + left ≡ length events = omega (arith, within) in
      let next = next-step machine begins events number p rests left (suc number) all (omega arith) (first-ready machine begins events number p own) in (
        next.later,
        record {
          step = next.step;
          cause =
              cause_at-place machine begins events next.later (Step p) next.step
              ∙ cause_is machine begins events next.later (Step p) number
              (record {
                event = own.event;
                earlier = next.high;
                stands = own.there;
                may =
                    ap (λ b. is_step_of p own.event || b)
                    (ap (λ s. ends_its_wait machine s own.event p) (state-taken machine begins events number) ∙ own.ends)
                    ∙ right-true (is_step_of p own.event);
                latest = λ l other high low there. next.none l other high low there;
              });
        },
      );
  ends = λ machine begins events number later p event cause there other.
      let found = cause_found machine begins events later (Step p) number (sym (cause_at-place machine begins events later (Step p) cause.step) ∙ cause.cause) in
      let same : found.event ≡ event = ap (found_or event) (sym found.stands ∙ there) in
      record {
        event = event;
        there = there;
        ends =
            ap (λ s. ends_its_wait machine s event p) (sym (state-taken machine begins events number))
            ∙ or-ends (is_step_of p event) (ends_its_wait machine (state_at machine begins events number) event p) other
            (subst (λ (e : Event). (is_step_of p e || ends_its_wait machine (state_at machine begins events number) e p) ≡ true) same found.may);
      };
}
