-- The runs of a process grow step by step (steps by IEEE 1364-2001, clause 9).
use Rattle.std.proofs.Common.{◌≡◌, ℕ, zero, suc, ◌+◌, ◌<◌, Bool, true, false, List, [], ◌∷◌, ◌++◌, drop, length, refl, sym, ap, subst, ◌∙◌, arith, append-nil, length-append}
use Rattle.std.specs.Prelude.{Option, Some, None, slice_get, nat_eq, if◌then◌else◌}
use Rattle.std.proofs.lemmas.Bool.{eqb-true, eq-eqb, ne_eqb}
use Rattle.std.specs.Prelude.{◌≢◌}
use Rattle.vf_base.specs.Lists.{AllHold}
use Rattle.v_design.specs.Designs.{Machine}
use Rattle.v_design.specs.OwnSteps.{StepSeen, ProcessRun, seen_if, seen_step, steps_in, runs_of}
use Rattle.v_design.specs.PhaseLogs.{is_step_of}
use Rattle.v_design.specs.Processes.{Activity}
use Rattle.v_design.specs.Runs.{happened}
use Rattle.v_design.specs.States.{State, Event, Step, LaneStep, Evaluation, NetUpdate, after, is_process_event, is_ready, process_at, step_of}
use Rattle.copy_laws.specs.OwnRuns.{is_going, last_goes_on, grow, grown}
use Rattle.copy_laws.proofs.Growth.{runs_grow, steps_grow, steps_join}
use Rattle.copy_laws.proofs.ReadRuns.{after-own, operand-ready}
use Rattle.phase_blocks.proofs.Stopping.{stopped-own}
use Rattle.good_runs.specs.Kept.{StepPlace, next_place}

-- Runs

-- a step more after runs of which the last one stopped
pub grow-new : (runs : List ProcessRun) (step : Activity × StepSeen) → last_goes_on runs ≡ false → grow runs step ≡ runs ++ record { begins = step.0; steps = step.1 ∷ [] } ∷ []
grow-new [] step none = refl
grow-new (run ∷ []) step none = ap (λ (b : Bool). grown b run step) none
grow-new (run ∷ next ∷ runs) step none = ap (λ (rs : List ProcessRun). run ∷ rs) (grow-new (next ∷ runs) step none)

-- or goes on
pub grow-on : (before : List ProcessRun) (run : ProcessRun) (step : Activity × StepSeen) → is_going run.steps ≡ true →
    grow (before ++ run ∷ []) step ≡ before ++ record { begins = run.begins; steps = run.steps ++ step.1 ∷ [] } ∷ []
grow-on [] run step goes = ap (λ (b : Bool). grown b run step) goes
grow-on (first ∷ []) run step goes = ap (λ (rs : List ProcessRun). first ∷ rs) (grow-on [] run step goes)
grow-on (first ∷ next ∷ before) run step goes = ap (λ (rs : List ProcessRun). first ∷ rs) (grow-on (next ∷ before) run step goes)

pub last-goes : (before : List ProcessRun) (run : ProcessRun) → last_goes_on (before ++ run ∷ []) ≡ is_going run.steps
last-goes [] run = refl
last-goes (first ∷ []) run = refl
last-goes (first ∷ next ∷ before) run = last-goes (next ∷ before) run

pub going-last : (steps : List StepSeen) (seen : StepSeen) → is_going (steps ++ seen ∷ []) ≡ is_ready seen.step.next
going-last [] seen = refl
going-last (one ∷ []) seen = refl
going-last (one ∷ next ∷ steps) seen = going-last (next ∷ steps) seen

pub going-some : (steps : List StepSeen) → is_going steps ≡ true → 0 < length steps
going-some [] goes = absurd (cc)
going-some (one ∷ steps) goes = omega arith

pub length-last : {A : Type 0} (xs : List A) (x : A) → length (xs ++ x ∷ []) ≡ length xs + 1
length-last [] x = refl
length-last (y ∷ xs) x = let more : length (xs ++ x ∷ []) ≡ length xs + 1 = length-last xs x in omega (arith, more)

-- The place of the next step

pub place-new : (number : ℕ) (runs : List ProcessRun) → last_goes_on runs ≡ false → next_place number runs ≡ record { number = number + length runs; taken = 0 }
place-new number [] none = let e : number ≡ number + 0 = omega arith in ap (λ (n : ℕ). record { number = n; taken = 0 }) e
place-new number (run ∷ []) none =
    ap (λ (b : Bool). if b then record { number = number; taken = length run.steps } else record { number = number + 1; taken = 0 }) none
place-new number (run ∷ next ∷ runs) none =
    let e : number + 1 + length (next ∷ runs) ≡ number + length (run ∷ next ∷ runs) = omega arith in
    place-new (number + 1) (next ∷ runs) none ∙ ap (λ (n : ℕ). record { number = n; taken = 0 }) e

pub place-on : (number : ℕ) (before : List ProcessRun) (run : ProcessRun) → is_going run.steps ≡ true →
    next_place number (before ++ run ∷ []) ≡ record { number = number + length before; taken = length run.steps }
place-on number [] run goes =
    let e : number ≡ number + 0 = omega arith in
    ap (λ (b : Bool). if b then record { number = number; taken = length run.steps } else record { number = number + 1; taken = 0 }) goes
    ∙ ap (λ (n : ℕ). record { number = n; taken = length run.steps }) e
place-on number (first ∷ []) run goes =
    let e : number + 1 + 0 ≡ number + 1 = omega arith in
    place-on (number + 1) [] run goes ∙ ap (λ (n : ℕ). record { number = n; taken = length run.steps }) e
place-on number (first ∷ next ∷ before) run goes =
    let e : number + 1 + length (next ∷ before) ≡ number + length (first ∷ next ∷ before) = omega arith in
    place-on (number + 1) (next ∷ before) run goes ∙ ap (λ (n : ℕ). record { number = n; taken = length run.steps }) e

pub slice-drop : {A : Type 0} (n : ℕ) (xs : List A) (k : ℕ) → slice_get (drop n xs) k ≡ slice_get xs (n + k)
slice-drop zero xs k = let e : k ≡ zero + k = omega arith in ap (slice_get xs) e
slice-drop (suc n) [] k = refl
slice-drop (suc n) (x ∷ xs) k = let e : suc (n + k) ≡ suc n + k = omega arith in slice-drop n xs k ∙ ap (slice_get (x ∷ xs)) e

-- Steps of a process among events

module _ (machine : Machine) (begins : State) (events : List Event) where
  -- its own step
  pub own-more : (p : ℕ) → runs_of (steps_in machine p begins (events ++ Step p ∷ [])) ≡ grow (runs_of (steps_in machine p begins events))
      ((process_at (happened machine begins events) p).activity, seen_step machine (happened machine begins events) p)
  own-more p =
      ap runs_of (steps_grow machine p begins events (Step p) ∙ ap (λ (b : Bool). steps_in machine p begins events ++ seen_if b step []) (eq-eqb p p refl))
      ∙ runs_grow (steps_in machine p begins events) step
    where
      step : Activity × StepSeen
      step = ((process_at (happened machine begins events) p).activity, seen_step machine (happened machine begins events) p)

  -- another one's
  pub other-more : (q p : ℕ) → q ≢ p → steps_in machine q begins (events ++ Step p ∷ []) ≡ steps_in machine q begins events
  other-more q p apart =
      steps_grow machine q begins events (Step p)
      ∙ ap (λ (b : Bool). steps_in machine q begins events ++ seen_if b ((process_at (happened machine begins events) q).activity, seen_step machine (happened machine begins events) q) [])
      (ne_eqb q p apart)
      ∙ append-nil (steps_in machine q begins events)

-- events of nodes and of lanes have none
pub nodes-none : (machine : Machine) (q : ℕ) (state : State) (events : List Event) → AllHold (λ (event : Event). is_process_event event ≡ false) events → steps_in machine q state events ≡ []
nodes-none machine q state [] of = refl
nodes-none machine q state (Step number ∷ events) of = let z : true ≡ false = of.0 in absurd (cc)
nodes-none machine q state (LaneStep number ∷ events) of = let z : true ≡ false = of.0 in absurd (cc)
nodes-none machine q state (Evaluation node ∷ events) of = nodes-none machine q (after machine state (Evaluation node)) events of.1
nodes-none machine q state (NetUpdate node ∷ events) of = nodes-none machine q (after machine state (NetUpdate node)) events of.1

pub nodes-more : (machine : Machine) (q : ℕ) (begins : State) (events nodes : List Event) → AllHold (λ (event : Event). is_process_event event ≡ false) nodes →
    steps_in machine q begins (events ++ nodes) ≡ steps_in machine q begins events
nodes-more machine q begins events nodes of =
    steps_join machine q begins events nodes ∙ ap (λ s. steps_in machine q begins events ++ s) (nodes-none machine q (happened machine begins events) nodes of)
    ∙ append-nil (steps_in machine q begins events)

-- behind its step a process is ready as the step says
pub ready-behind : (machine : Machine) (state : State) (p : ℕ) → is_ready (process_at (after machine state (Step p)) p).activity ≡ is_ready (seen_step machine state p).step.next
ready-behind machine state p = go (is_ready (step_of machine state p).next) refl
  where
    go : (b : Bool) → is_ready (step_of machine state p).next ≡ b → is_ready (process_at (after machine state (Step p)) p).activity ≡ is_ready (seen_step machine state p).step.next
    go true e = ap is_ready (after-own machine state p e) ∙ operand-ready (seen_step machine state p).read (step_of machine state p).next e ∙ sym e
    go false e = stopped-own machine state p e ∙ sym e
