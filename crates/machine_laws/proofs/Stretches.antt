-- Whatever event the first order takes goes on, and so do several.
use Rattle.std.proofs.Common.{◌≡◌, ℕ, zero, suc, ◌+◌, ◌≤◌, List, [], ◌∷◌, Bool, true, false, refl, sym, ap, subst, ◌∙◌, ◌⊎◌, inl, inr, arith, sum_by}
use Rattle.std.specs.Prelude.{Option, Some, None, slice_get, is_some}
use Rattle.std.proofs.lemmas.List.Sums.{sum_by-append}
use Rattle.v_design.specs.Designs.{Machine}
use Rattle.v_design.specs.States.{State, ProcessState, NodeState, Event, Step, LaneStep, Evaluation, NetUpdate, after, possible, found_or, idle_node, idle_process, is_ready, is_any, is_quiescent}
use Rattle.v_design.specs.Runs.{named_event, or_event, least_work, work_of, first_event, most_steps}
use Rattle.v_design.specs.WellFormed.{KeepsRules}
use Rattle.v_design.specs.Laws.{SlotsEnd}
use Rattle.copy_laws.specs.Beside.{AreFirst}
use Rattle.machine_laws.specs.SlotLoop.{Moment, ComesTo, after_event, after_events, steps_of, first_lane, first_ready, EventsGoOn, StretchesGoOn}
use Rattle.machine_laws.proofs.Places.{some_is, placed, busy-lane, busy-step, busy-node}
use Rattle.machine_laws.proofs.Moments.{event-on}

-- a node whose event is the least has that work
record HasWork (start : ℕ) (xs : List NodeState) (event : Event) : Type 0 where
  number : ℕ
  work :
      ((event ≡ Evaluation (start + number)) × ((found_or idle_node (slice_get xs number)).marked ≡ true))
      ⊎ ((event ≡ NetUpdate (start + number)) × (is_some (found_or idle_node (slice_get xs number)).pending ≡ true))

works : (start : ℕ) (xs : List NodeState) (event : Event) → work_of start xs ≡ Some event → HasWork start xs event
works start [] event e = cc
works start (x ∷ xs) event e = go x.marked (is_some x.pending) refl refl e (λ f. works (start + 1) xs event f)
  where
    here : start ≡ start + 0
    here = omega arith

    some-event : (a b : Event) → Some a ≡ Some b → a ≡ b
    some-event a b f = cc

    go : (a b : Bool) → x.marked ≡ a → is_some x.pending ≡ b → least_work start a b (work_of (start + 1) xs) ≡ Some event → (work_of (start + 1) xs ≡ Some event → HasWork (start + 1) xs event) →
        HasWork start (x ∷ xs) event
    go true b m p f rest = record { number = 0; work = inl (sym (some-event (Evaluation start) event f) ∙ ap Evaluation here, m) }
    go false true m p f rest = record { number = 0; work = inr (sym (some-event (NetUpdate start) event f) ∙ ap NetUpdate here, p) }
    go false false m p f rest =
        let w = rest f in
        let there : start + 1 + w.number ≡ start + suc w.number = omega arith in
        record {
          number = suc w.number;
          work = elim w.work [ inl k ↦ inl (k.0 ∙ ap Evaluation there, k.1) | inr k ↦ inr (k.0 ∙ ap NetUpdate there, k.1) ];
        }

-- the event that the first order takes is possible, and the state isn't at rest
first-may : (state : State) (event : Event) → first_event state ≡ Some event → (possible state event ≡ true) × (is_quiescent state ≡ true → ⊥)
first-may state event e = go (work_of 0 state.nodes) refl e
  where
    same-event : (a b : Event) → Some a ≡ Some b → a ≡ b
    same-event a b f = cc

    of-node : (w : HasWork 0 state.nodes event) → possible state event ≡ true
    of-node w =
        elim w.work [
          | inl k ↦
              let same : 0 + w.number ≡ w.number = omega arith in
              ap (possible state) (k.0 ∙ ap Evaluation same) ∙ k.1
          | inr k ↦
              let same : 0 + w.number ≡ w.number = omega arith in
              ap (possible state) (k.0 ∙ ap NetUpdate same) ∙ k.1
        ]

    of-ready : (ready : Option ℕ) → first_ready state ≡ ready → named_event Step ready ≡ Some event → (possible state event ≡ true) × (is_quiescent state ≡ true → ⊥)
    of-ready None r f = cc
    of-ready (Some process) r f = (
      ap (possible state) (sym (same-event (Step process) event f)) ∙ placed (λ (p : ProcessState). is_ready p.activity) idle_process state.processes process r,
      busy-step state process r,
    )

    of-lane : (lane : Option ℕ) → first_lane state ≡ lane → or_event (named_event LaneStep lane) (named_event Step (first_ready state)) ≡ Some event →
        (possible state event ≡ true) × (is_quiescent state ≡ true → ⊥)
    of-lane None l f = of-ready (first_ready state) refl f
    of-lane (Some process) l f = (
      ap (possible state) (sym (same-event (LaneStep process) event f)) ∙ placed (λ (p : ProcessState). is_any p.lane) idle_process state.processes process l,
      busy-lane state process l,
    )

    go : (work : Option Event) → work_of 0 state.nodes ≡ work → or_event work (or_event (named_event LaneStep (first_lane state)) (named_event Step (first_ready state))) ≡ Some event →
        (possible state event ≡ true) × (is_quiescent state ≡ true → ⊥)
    go None w f = of-lane (first_lane state) refl f
    go (Some other) w f =
        let same : work_of 0 state.nodes ≡ Some event = w ∙ ap Some (same-event other event f) in
        (of-node (works 0 state.nodes event same), busy-node state event same)

pub events_go_on : SlotsEnd → EventsGoOn
events_go_on ends machine at event rules r few first =
    let may = first-may at.state event first in event-on machine at event ends rules r few first may.0 may.1

pub stretches_go_on : SlotsEnd → StretchesGoOn
stretches_go_on ends machine at [] rules r first few = r
stretches_go_on ends machine at (event ∷ events) rules r first few =
    let joined : sum_by steps_of (event ∷ events) ≡ sum_by steps_of (event ∷ []) + sum_by steps_of events = sum_by-append steps_of (event ∷ []) events in
    let one : 0 + steps_of event ≡ steps_of event = omega arith in
    let total : sum_by steps_of (event ∷ events) ≡ steps_of event + sum_by steps_of events = joined ∙ ap (λ n. n + sum_by steps_of events) one in
    stretches_go_on ends machine (after_event machine event at) events rules (events_go_on ends machine at event rules r (omega (arith, few, total)) first.0) first.1 (omega (arith, few, total))
