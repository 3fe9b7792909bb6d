-- What a state within a phase has of its design.
use Rattle.std.proofs.Common.{◌≡◌, ℕ, ◌+◌, List, [], ◌∷◌, ◌++◌, Bool, true, false, ◌||◌, refl, sym, ap, subst, ◌∙◌}
use Rattle.std.specs.Prelude.{Option, Some, None, is_some}
use Rattle.four_value.specs.Values.{LogicValue}
use Rattle.v_design.specs.Designs.{Machine}
use Rattle.v_design.specs.States.{State, NodeState, Event, after, has_work, some_in}
use Rattle.v_design.specs.Runs.{least_work, work_of, happened}
use Rattle.order_laws.proofs.NodeRests.{rest_on_inputs}
use Rattle.order_laws.proofs.PhasesGoOn.{state-run}
use Rattle.order_laws.proofs.SettledNets.{Follows, Everywhere, follows-run, follows-begins, settled-at-rest}
use Rattle.order_laws.proofs.WritersStay.{writers_clear}
use Rattle.lockstep_laws.specs.Phases.{IsInPhase, FitsDesign, PhasesFit}

-- Nodes without work

pub idle-parts : (start : ℕ) (marked : Bool) (pending : Option (List LogicValue)) (rest : Option Event) → least_work start marked (is_some pending) rest ≡ None →
    (marked ≡ false) × (pending ≡ None) × (rest ≡ None)
idle-parts start true pending rest e = cc
idle-parts start false None rest e = (refl, refl, e)
idle-parts start false (Some values) rest e = cc

no-work : (start : ℕ) (nodes : List NodeState) → work_of start nodes ≡ None → some_in has_work nodes ≡ false
no-work start [] e = refl
no-work start (node ∷ nodes) e =
    let parts = idle-parts start node.marked node.pending (work_of (start + 1) nodes) e in λ i. (parts.0 i || is_some (parts.1 i)) || no-work (start + 1) nodes parts.2 i

-- The law

pub phases_fit : PhasesFit
phases_fit machine state rules s =
    subst (FitsDesign machine) (sym s.is) (record {
      parts = state-run machine s.begins s.events s.asked.fits;
      widths = follows.fit;
      settled = λ idle. settled-at-rest machine (happened machine s.begins s.events) follows (no-work 0 (happened machine s.begins s.events).nodes idle);
    })
  where
    follows : Follows machine Everywhere (happened machine s.begins s.events)
    follows = follows-run machine s.begins s.events rules (rest_on_inputs machine rules) (writers_clear machine s.begins s.asked.writers) (follows-begins machine s.begins s.asked)

-- One event more

happened-more : (machine : Machine) (state : State) (events : List Event) (event : Event) →
    happened machine state (events ++ event ∷ []) ≡ after machine (happened machine state events) event
happened-more machine state [] event = refl
happened-more machine state (first ∷ events) event = happened-more machine (after machine state first) events event

pub phase-more : (machine : Machine) (state : State) (event : Event) → IsInPhase machine state → IsInPhase machine (after machine state event)
phase-more machine state event s = record {
  begins = s.begins;
  events = s.events ++ event ∷ [];
  asked = s.asked;
  is = ap (λ (x : State). after machine x event) s.is ∙ sym (happened-more machine s.begins s.events event);
}
