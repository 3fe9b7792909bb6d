-- After a legal order of a phase and a turn the next phase begins, as the laws ask it.
use Rattle.std.proofs.Common.{◌≡◌, ℕ, zero, suc, List, [], ◌∷◌, map, length, not, refl, sym, ap, subst, ◌∙◌, get_or}
use Rattle.std.specs.Prelude.{Option, Some, None, slice_get}
use Rattle.vf_base.specs.Lists.{change_at, zip_with}
use Rattle.four_value.specs.Values.{LogicValue, same_value}
use Rattle.v_design.specs.Designs.{FlatObject, FlatNode, Machine}
use Rattle.v_design.specs.Assignments.{ValueUpdate, value_at, AreSettled}
use Rattle.v_design.specs.States.{State, ProcessState, NodeState, Event, Step, LaneStep, Evaluation, NetUpdate, TurnKind, PostponedTurn, UpdatesTurn, TimeTurn, turned, after, node_at, process_at}
use Rattle.v_design.specs.States.{some_in, has_event, has_work, marked_by, woken_process, with_value, with_values, with_node, with_process, written_if, value_written, write_of, first_update}
use Rattle.v_design.specs.States.{after_lane_step, after_step, step_of, evaluated, nets_updated}
use Rattle.v_design.specs.Runs.{happened, IsPhase}
use Rattle.v_design.specs.WellFormed.{KeepsRules}
use Rattle.v_design.specs.Laws.{IsStateOf, BeginsPhase}
use Rattle.order_laws.proofs.WritersStay.{AreClear, NotNet, after-clear, bodies_clear, writers_clear, clear_writers}
use Rattle.order_laws.proofs.SettledNets.{Follows, Everywhere, follows-run, follows-begins, phase_ends_settled, not-both}
use Rattle.order_laws.proofs.NodeRests.{rest_on_inputs}
use Rattle.order_laws.proofs.TurnsKeep.{values-turned, nodes-turned, turned-clear}

pub length-change_at : {A : Type 0} (xs : List A) (place : ℕ) (change : A → A) → length (change_at xs place change) ≡ length xs
length-change_at [] place change = refl
length-change_at (x ∷ xs) zero change = refl
length-change_at (x ∷ xs) (suc place) change = ap suc (length-change_at xs place change)

pub length-mapped : {A B : Type 0} (f : A → B) (xs : List A) → length (map f xs) ≡ length xs
length-mapped f [] = refl
length-mapped f (x ∷ xs) = ap suc (length-mapped f xs)

length-zip_with : {A B C : Type 0} (f : A → B → C) (xs : List A) (ys : List B) → length ys ≡ length xs → length (zip_with f xs ys) ≡ length xs
length-zip_with f [] ys e = refl
length-zip_with f (x ∷ xs) [] e = e
length-zip_with f (x ∷ xs) (y ∷ ys) e = ap suc (length-zip_with f xs ys (ap less e))
  where
    less : ℕ → ℕ
    less zero = zero
    less (suc n) = n

state-value : (machine : Machine) (object : ℕ) (new : LogicValue) (state : State) → IsStateOf machine state → IsStateOf machine (with_value machine object new state)
state-value machine object new state f = record {
  values = length-change_at state.values object (λ old. new) ∙ f.values;
  nodes = length-zip_with (marked_by object (not (same_value (value_at state.values object) new))) machine.design.nodes state.nodes f.nodes;
  processes = length-mapped (woken_process object (value_at state.values object) new) state.processes ∙ f.processes;
}

state-written : (machine : Machine) (write : Option ValueUpdate) (state : State) → IsStateOf machine state → IsStateOf machine (written_if machine write state)
state-written machine None state f = f
state-written machine (Some u) state f = state-value machine u.object (value_written machine state u) state f

state-values : (machine : Machine) (objects : List ℕ) (values : List LogicValue) (state : State) → IsStateOf machine state → IsStateOf machine (with_values machine objects values state)
state-values machine [] values state f = f
state-values machine (object ∷ objects) [] state f = f
state-values machine (object ∷ objects) (value ∷ values) state f = state-values machine objects values (with_value machine object value state) (state-value machine object value state f)

state-process : (machine : Machine) (number : ℕ) (own : ProcessState → ProcessState) (state : State) → IsStateOf machine state → IsStateOf machine (with_process number own state)
state-process machine number own state f = record { values = f.values; nodes = f.nodes; processes = length-change_at state.processes number own ∙ f.processes }

state-node : (machine : Machine) (number : ℕ) (change : NodeState → NodeState) (state : State) → IsStateOf machine state → IsStateOf machine (with_node number change state)
state-node machine number change state f = record { values = f.values; nodes = length-change_at state.nodes number change ∙ f.nodes; processes = f.processes }

state-evaluated : (machine : Machine) (number : ℕ) (found : Option FlatNode) (state : State) → IsStateOf machine state → IsStateOf machine (evaluated machine number found state)
state-evaluated machine number None state f = f
state-evaluated machine number (Some node) state f = state-node machine number _ state f

state-nets : (machine : Machine) (number : ℕ) (found : Option FlatNode) (pending : Option (List LogicValue)) (state : State) → IsStateOf machine state →
    IsStateOf machine (nets_updated machine number found pending state)
state-nets machine number None pending state f = f
state-nets machine number (Some node) None state f = f
state-nets machine number (Some node) (Some values) state f = state-values machine node.outputs values _ (state-node machine number _ state f)

-- each event leaves a part for each part of the design
pub state-after : (machine : Machine) (state : State) (event : Event) → IsStateOf machine state → IsStateOf machine (after machine state event)
state-after machine state (Step number) f =
    state-written machine (write_of (step_of machine state number).action) (with_process number (after_step state (step_of machine state number)) state)
    (state-process machine number (after_step state (step_of machine state number)) state f)
state-after machine state (LaneStep number) f =
    state-written machine (first_update (process_at state number).lane) (with_process number after_lane_step state) (state-process machine number after_lane_step state f)
state-after machine state (Evaluation number) f = state-evaluated machine number (slice_get machine.design.nodes number) state f
state-after machine state (NetUpdate number) f = state-nets machine number (slice_get machine.design.nodes number) (node_at state number).pending state f

pub state-run : (machine : Machine) (state : State) (events : List Event) → IsStateOf machine state → IsStateOf machine (happened machine state events)
state-run machine state [] f = f
state-run machine state (event ∷ events) f = state-run machine (after machine state event) events (state-after machine state event f)

pub state-turned : (machine : Machine) (turn : TurnKind) (state : State) → IsStateOf machine state → IsStateOf machine (turned turn state)
state-turned machine PostponedTurn state f = record { values = f.values; nodes = f.nodes; processes = length-mapped _ state.processes ∙ f.processes }
state-turned machine UpdatesTurn state f = record { values = f.values; nodes = f.nodes; processes = length-mapped _ state.processes ∙ f.processes }
state-turned machine (TimeTurn time) state f = record { values = f.values; nodes = f.nodes; processes = length-mapped _ state.processes ∙ f.processes }

pub clear-run : (machine : Machine) (state : State) (events : List Event) → KeepsRules machine.design → AreClear (NotNet machine) state → AreClear (NotNet machine) (happened machine state events)
clear-run machine state [] rules clear = clear
clear-run machine state (event ∷ events) rules clear = clear-run machine (after machine state event) events rules (after-clear (NotNet machine) machine state event (bodies_clear machine rules) clear)

-- widths at each place are widths as a list
pub widths-list : (values : List LogicValue) (objects : List FlatObject) → length values ≡ length objects →
    ((x : ℕ) → length (value_at values x) ≡ get_or (map (λ (o : FlatObject). o.width) objects) x 0) →
    map (λ (value : LogicValue). length value) values ≡ map (λ (object : FlatObject). object.width) objects
widths-list [] [] e h = refl
widths-list [] (object ∷ objects) e h = cc
widths-list (value ∷ values) [] e h = cc
widths-list (value ∷ values) (object ∷ objects) e h = λ i. h 0 i ∷ widths-list values objects (ap less e) (λ x. h (suc x)) i
  where
    less : ℕ → ℕ
    less zero = zero
    less (suc n) = n

-- the next phase begins
pub next_phase_begins : (machine : Machine) (state : State) (events : List Event) (turn : TurnKind) → KeepsRules machine.design → BeginsPhase machine state → IsPhase machine state events →
    BeginsPhase machine (turned turn (happened machine state events))
next_phase_begins machine state events turn rules begins phase =
    let end : State = happened machine state events in
    let follows : Follows machine Everywhere end = follows-run machine state events rules (rest_on_inputs machine rules) (writers_clear machine state begins.writers)
    (follows-begins machine state begins) in
    let fits : IsStateOf machine end = state-run machine state events begins.fits in
    record {
      fits = state-turned machine turn end fits;
      widths =
          subst (λ vs. map (λ (value : LogicValue). length value) vs ≡ map (λ (object : FlatObject). object.width) machine.design.objects) (sym (values-turned turn end))
          (widths-list end.values machine.design.objects fits.values follows.fit);
      settled = subst (λ vs. AreSettled machine vs) (sym (values-turned turn end)) (phase_ends_settled machine state events rules (rest_on_inputs machine rules) begins phase);
      idle = ap (some_in has_work) (nodes-turned turn end) ∙ (not-both (some_in has_event end.processes) (some_in has_work end.nodes) phase.ends).1;
      writers = clear_writers machine (turned turn end) (turned-clear (NotNet machine) turn end (clear-run machine state events rules (writers_clear machine state begins.writers)));
    }
