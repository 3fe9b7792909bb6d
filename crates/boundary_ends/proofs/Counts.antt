-- As many runs of a process as end in some events are its runs there, where it isn't in the midst of one.
use Rattle.std.proofs.Common.{◌≡◌, ℕ, suc, ◌+◌, List, [], ◌∷◌, ◌++◌, length, Bool, true, false, cond, refl, sym, ap, subst, ◌∙◌, inl, inr, arith, append_assoc, length-append}
use Rattle.std.specs.Prelude.{filter, nat_eq}
use Rattle.std.proofs.lemmas.Bool.{cases_eq, eq-eqb, ne_eqb}
use Rattle.std.proofs.lemmas.List.Elements.{filter-append}
use Rattle.v_design.specs.Designs.{Machine}
use Rattle.v_design.specs.Processes.{Activity}
use Rattle.v_design.specs.States.{State, Event, Step, LaneStep, Evaluation, NetUpdate, after, process_at, step_of, is_ready}
use Rattle.v_design.specs.Runs.{happened}
use Rattle.v_design.specs.PhaseLogs.{is_step_of}
use Rattle.v_design.specs.OwnSteps.{StepSeen, ProcessRun, seen_step, seen_if, steps_in, run_before, runs_of}
use Rattle.copy_laws.specs.OwnRuns.{last_goes_on}
use Rattle.copy_laws.proofs.ReadRuns.{FirstRunIs, first-run}
use Rattle.run_ends.specs.RunEnds.{ender_if, ender_of, enders_in}
use Rattle.phase_blocks.proofs.Lists.{true-false}

-- Steps that stop

-- one more, unless a run goes on
abbrev more_unless : Bool → ℕ → ℕ
more_unless true count = count
more_unless false count = suc count

-- how many of some steps stop their process
abbrev pub stops_of : List (Activity × StepSeen) → ℕ
stops_of [] = 0
stops_of (step ∷ steps) = more_unless (is_ready step.1.step.next) (stops_of steps)

-- a step in front of some runs
record IsInFront (goes_on : Bool) (first : Activity × StepSeen) (runs : List ProcessRun) : Type 0 where
  last : last_goes_on (run_before goes_on first runs) ≡ last_goes_on runs
  count : length (run_before goes_on first runs) ≡ more_unless goes_on (length runs)

in-front : (goes_on : Bool) (first next : Activity × StepSeen) (more : List StepSeen) (others : List ProcessRun) →
    IsInFront goes_on first (record { begins = next.0; steps = next.1 ∷ more } ∷ others)
in-front true first next more [] = record { last = refl; count = refl }
in-front true first next more (run ∷ others) = record { last = refl; count = refl }
in-front false first next more others = record { last = refl; count = refl }

behind-first : (first next : Activity × StepSeen) (rest : List (Activity × StepSeen)) → IsInFront (is_ready first.1.step.next) first (runs_of (next ∷ rest))
behind-first first next rest =
    let head : FirstRunIs next (runs_of (next ∷ rest)) = first-run next rest in
    subst (IsInFront (is_ready first.1.step.next) first) (sym head.are) (in-front (is_ready first.1.step.next) first next head.more head.others)

-- steps that leave their process in no run are of as many runs as stop
runs-stop : (steps : List (Activity × StepSeen)) → last_goes_on (runs_of steps) ≡ false → length (runs_of steps) ≡ stops_of steps
runs-stop [] none = refl
runs-stop (first ∷ []) none = go (is_ready first.1.step.next) refl none
  where
    go : (b : Bool) → is_ready first.1.step.next ≡ b → last_goes_on (run_before b first []) ≡ false → length (run_before b first []) ≡ more_unless b 0
    go true e stops = true-false (is_ready first.1.step.next) e stops
    go false e stops = refl
runs-stop (first ∷ next ∷ rest) none =
    let front = behind-first first next rest in
    front.count ∙ ap (more_unless (is_ready first.1.step.next)) (runs-stop (next ∷ rest) (sym front.last ∙ none))

-- Runs that end

pub enders-append : (machine : Machine) (begins : State) (before behind : List Event) →
    enders_in machine begins (before ++ behind) ≡ enders_in machine begins before ++ enders_in machine (happened machine begins before) behind
enders-append machine begins [] behind = refl
enders-append machine begins (event ∷ before) behind =
    ap (λ l. ender_of machine begins event ++ l) (enders-append machine (after machine begins event) before behind)
    ∙ sym (append_assoc (ender_of machine begins event) (enders_in machine (after machine begins event) before)
    (enders_in machine (happened machine (after machine begins event) before) behind))

-- those of a process
abbrev pub own_enders : ℕ → List ℕ → List ℕ
own_enders p enders = filter (λ q. nat_eq q p) enders

own-ends : (p count : ℕ) (b : Bool) → length (own_enders p (ender_if b p)) + count ≡ more_unless b count
own-ends p count true = omega arith
own-ends p count false =
    let e : length (own_enders p (p ∷ [])) ≡ 1 = ap (λ b. length (cond b (p ∷ []) [])) (eq-eqb p p refl) in
    omega (arith, e)

other-ends : (p q count : ℕ) (b : Bool) → nat_eq q p ≡ false → length (own_enders p (ender_if b q)) + count ≡ count
other-ends p q count true apart = omega arith
other-ends p q count false apart =
    let e : length (own_enders p (q ∷ [])) ≡ 0 = ap (λ b. length (cond b (q ∷ []) [])) apart in
    omega (arith, e)

-- one event
event-ends : (machine : Machine) (state : State) (p : ℕ) (event : Event) (steps : List (Activity × StepSeen)) →
    length (own_enders p (ender_of machine state event)) + stops_of steps ≡ stops_of (seen_if (is_step_of p event) ((process_at state p).activity, seen_step machine state p) steps)
event-ends machine state p (Step q) steps = elim (cases_eq p q) [
  | inl same ↦
      subst (λ r. length (own_enders p (ender_of machine state (Step r))) + stops_of steps ≡ stops_of (seen_if (nat_eq p r) own steps)) same
      (own-ends p (stops_of steps) (is_ready (step_of machine state p).next) ∙ sym (ap (λ b. stops_of (seen_if b own steps)) (eq-eqb p p refl)))
  | inr apart ↦
      other-ends p q (stops_of steps) (is_ready (step_of machine state q).next) (ne_eqb q p (λ same. apart (sym same)))
      ∙ sym (ap (λ b. stops_of (seen_if b own steps)) (ne_eqb p q apart))
]
  where
    own : Activity × StepSeen
    own = ((process_at state p).activity, seen_step machine state p)
event-ends machine state p (LaneStep q) steps = omega arith
event-ends machine state p (Evaluation number) steps = omega arith
event-ends machine state p (NetUpdate number) steps = omega arith

enders-stop : (machine : Machine) (state : State) (p : ℕ) (events : List Event) → length (own_enders p (enders_in machine state events)) ≡ stops_of (steps_in machine p state events)
enders-stop machine state p [] = refl
enders-stop machine state p (event ∷ events) =
    let rest : List ℕ = enders_in machine (after machine state event) events in
    ap length (filter-append (λ q. nat_eq q p) (ender_of machine state event) rest) ∙ length-append (own_enders p (ender_of machine state event)) (own_enders p rest)
    ∙ ap (λ n. length (own_enders p (ender_of machine state event)) + n) (enders-stop machine (after machine state event) p events)
    ∙ event-ends machine state p event (steps_in machine p (after machine state event) events)

-- so many runs
pub enders-run : (machine : Machine) (state : State) (p : ℕ) (events : List Event) → last_goes_on (runs_of (steps_in machine p state events)) ≡ false →
    length (own_enders p (enders_in machine state events)) ≡ length (runs_of (steps_in machine p state events))
enders-run machine state p events none = enders-stop machine state p events ∙ sym (runs-stop (steps_in machine p state events) none)
