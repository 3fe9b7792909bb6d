-- The process steps among some events, each of which a counter of steps counts once (steps by IEEE 1364-2001, clause 9).
use Rattle.std.proofs.Common.{◌≡◌, ℕ, zero, suc, ◌+◌, ◌≤◌, List, [], ◌∷◌, ◌++◌, cond, ap, ◌∙◌, arith}
use Rattle.std.specs.Prelude.{count_by, sum_by}
use Rattle.std.proofs.lemmas.List.Sums.{sum_by-append, sum_by-cons}
use Rattle.vf_base.specs.Counts.{raised}
use Rattle.v_design.specs.States.{Event, Step, LaneStep, Evaluation, NetUpdate}
use Rattle.v_design.specs.Runs.{FirstSlot, Happens}
use Rattle.v_design.specs.Grades.{Phase}
use Rattle.v_design.specs.OwnSteps.{is_process_step}
use Rattle.machine_laws.specs.SlotLoop.{Moment, steps_of}

-- a counter after so many ticks
abbrev pub raised_by : ℕ → ℕ → ℕ
raised_by zero before = before
raised_by (suc count) before = raised (raised_by count before)

-- the process steps among some events; steps of lanes and work on nodes are none
abbrev pub event_steps : List Event → ℕ
event_steps events = count_by (λ (event : Event). is_process_step (Happens event)) events

-- those of a slot
abbrev pub process_steps : FirstSlot → ℕ
process_steps slot = count_by is_process_step slot.moves

-- those of some phases
abbrev pub phase_steps : List Phase → ℕ
phase_steps phases = sum_by (λ (phase : Phase). event_steps phase.events) phases

-- those of a slot so far, at a moment
abbrev pub steps_so_far : Moment → ℕ
steps_so_far at = phase_steps at.ended + event_steps at.events

-- ticks on top of ticks
pub raised-sum : (one more before : ℕ) → raised_by (one + more) before ≡ raised_by more (raised_by one before)
raised-sum one zero before = ap (λ count. raised_by count before) (plus-none one)
  where
    plus-none : (n : ℕ) → n + zero ≡ n
    plus-none n = omega arith
raised-sum one (suc more) before = ap (λ count. raised_by count before) (plus-one one more) ∙ ap raised (raised-sum one more before)
  where
    plus-one : (n m : ℕ) → n + suc m ≡ suc (n + m)
    plus-one n m = omega arith

-- one tick more
pub raised-one : (count before : ℕ) → raised (raised_by count before) ≡ raised_by (count + 1) before
raised-one count before = ap (λ n. raised_by n before) (one-more count)
  where
    one-more : (n : ℕ) → suc n ≡ n + 1
    one-more n = omega arith

-- one where an event is a process step
abbrev pub step_of : Event → ℕ
step_of event = cond (is_process_step (Happens event)) 1 0

pub steps-cons : (event : Event) (events : List Event) → event_steps (event ∷ events) ≡ step_of event + event_steps events
steps-cons event events = sum_by-cons step_of event events

pub steps-join : (ones others : List Event) → event_steps (ones ++ others) ≡ event_steps ones + event_steps others
steps-join ones others = sum_by-append step_of ones others

-- a process step is a process or lane step
one-few : (event : Event) → step_of event ≤ steps_of event
one-few (Step process) = omega arith
one-few (LaneStep process) = omega arith
one-few (Evaluation node) = omega arith
one-few (NetUpdate node) = omega arith

pub steps-few : (events : List Event) → event_steps events ≤ sum_by steps_of events
steps-few [] = omega arith
steps-few (event ∷ events) =
    let rest : event_steps events ≤ sum_by steps_of events = steps-few events in
    omega (arith, rest, one-few event, steps-cons event events, sum_by-cons steps_of event events)
