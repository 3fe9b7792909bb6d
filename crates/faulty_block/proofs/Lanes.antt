-- The lanes that a block of the first order steps: the first one of the state before it, if a lane begins the block.
use Rattle.std.proofs.Common.{◌≡◌, ℕ, zero, suc, ◌+◌, ◌≤◌, Bool, true, List, [], ◌∷◌, refl, ap, sym, subst, ◌∙◌, arith}
use Rattle.std.specs.Prelude.{Option, Some, None, is_some, sum_by}
use Rattle.std.specs.Option.{IsSome}
use Rattle.std.proofs.lemmas.List.Sums.{sum_by-cons}
use Rattle.vf_base.specs.Lists.{AllHold}
use Rattle.v_design.specs.Designs.{Machine}
use Rattle.v_design.specs.States.{State, Event, Step, LaneStep, Evaluation, NetUpdate, after}
use Rattle.v_design.specs.Runs.{first_event, named_event, or_event}
use Rattle.machine_laws.specs.SlotLoop.{NoNodeWorks, first_lane, first_ready, steps_of}
use Rattle.machine_events.specs.Steps.{event_steps, step_of, steps-cons, steps-few}
use Rattle.copy_laws.specs.Beside.{AreFirst}
use Rattle.faulty_block.proofs.Counted.{process-steps}
use Rattle.unseen_writes.specs.Unseen.{StepsLane}

-- where none of some events is a process or lane step, none steps a lane
none-steps : (acts : ℕ → Bool) (events : List Event) → sum_by steps_of events ≡ 0 → AllHold (StepsLane acts) events
none-steps acts [] none = tt
none-steps acts (event ∷ events) none =
    let sum = sum_by-cons steps_of event events in
    let rest : sum_by steps_of events ≡ 0 = omega (arith, none, sum) in
    let here : steps_of event ≡ 0 = omega (arith, none, sum) in
    (one event here, none-steps acts events rest)
  where
    one : (event : Event) → steps_of event ≡ 0 → StepsLane acts event
    one (Step process) is = tt
    one (LaneStep process) is = absurd (omega (arith, is))
    one (Evaluation node) is = tt
    one (NetUpdate node) is = tt

-- where all of them are process steps
all-process : (acts : ℕ → Bool) (events : List Event) → event_steps events ≡ sum_by steps_of events → AllHold (StepsLane acts) events
all-process acts [] same = tt
all-process acts (event ∷ events) same = (one event here, all-process acts events rest)
  where
    few : event_steps events ≤ sum_by steps_of events
    few = steps-few events

    own-few : (event : Event) → step_of event ≤ steps_of event
    own-few (Step process) = omega arith
    own-few (LaneStep process) = omega arith
    own-few (Evaluation node) = omega arith
    own-few (NetUpdate node) = omega arith

    rest : event_steps events ≡ sum_by steps_of events
    rest = omega (arith, same, few, own-few event, steps-cons event events, sum_by-cons steps_of event events)

    here : step_of event ≡ steps_of event
    here = omega (arith, same, few, own-few event, steps-cons event events, sum_by-cons steps_of event events)

    one : (event : Event) → step_of event ≡ steps_of event → StepsLane acts event
    one (Step process) is = tt
    one (LaneStep process) is = absurd (omega (arith, is))
    one (Evaluation node) is = tt
    one (NetUpdate node) is = tt

same-event : (one other : Event) → Some one ≡ Some other → one ≡ other
same-event one other e = cc

lane-event : (state : State) (process : ℕ) → NoNodeWorks state → first_lane state ≡ Some process → first_event state ≡ Some (LaneStep process)
lane-event state process rests lane = λ i. or_event (rests i) (or_event (named_event LaneStep (lane i)) (named_event Step (first_ready state)))

-- in a block that a lane begins it alone steps
begun : (machine : Machine) (acts : ℕ → Bool) (state : State) (process : ℕ) (events : List Event) → NoNodeWorks state → first_lane state ≡ Some process → acts process ≡ true →
    sum_by steps_of events ≡ 1 → AreFirst machine state events → AllHold (StepsLane acts) events
begun machine acts state process [] rests lane may one first = tt
begun machine acts state process (event ∷ events) rests lane may one first =
    let is : event ≡ LaneStep process = same-event event (LaneStep process) (sym first.0 ∙ lane-event state process rests lane) in
    let counted : steps_of event ≡ 1 = ap steps_of is in
    let sum = sum_by-cons steps_of event events in
    let rest : sum_by steps_of events ≡ 0 = omega (arith, one, counted, sum) in
    (subst (StepsLane acts) (sym is) may, none-steps acts events rest)

-- so no lane steps but the first one
pub steps-lane : (machine : Machine) (acts : ℕ → Bool) (state : State) (events : List Event) → NoNodeWorks state → ((process : ℕ) → first_lane state ≡ Some process → acts process ≡ true) →
    (IsSome (first_lane state) → sum_by steps_of events ≡ 1) → AreFirst machine state events → AllHold (StepsLane acts) events
steps-lane machine acts state events rests may one first = by (first_lane state) refl
  where
    by : (lane : Option ℕ) → first_lane state ≡ lane → AllHold (StepsLane acts) events
    by None is = all-process acts events (process-steps machine state events is first)
    by (Some process) is = begun machine acts state process events rests is (may process is) (one (ap is_some is)) first
