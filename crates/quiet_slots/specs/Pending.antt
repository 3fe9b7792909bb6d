-- What a phase begins with, and how nodes come to have updates pending (IEEE 1364-2001, clause 5).
use Rattle.std.proofs.Common.{◌≡◌, ℕ, zero, suc, List, [], ◌∷◌, length, get_or, map, Bool, true, false, ◌||◌, not, refl, sym, ap, ◌∙◌, ◌⊎◌, inl, inr}
use Rattle.std.specs.Prelude.{Option, Some, None, is_some, slice_get}
use Rattle.four_value.specs.Values.{LogicValue, same_value}
use Rattle.vf_base.specs.Lists.{change_at, zip_with}
use Rattle.v_design.specs.Designs.{FlatNode, FlatObject, Machine}
use Rattle.v_design.specs.Assignments.{ValueUpdate, value_at, node_outputs}
use Rattle.v_design.specs.States.{State, NodeState, Event, Step, LaneStep, Evaluation, NetUpdate, node_at, found_or, idle_node, marked_by, has_work, some_in, with_value, with_values, value_written}
use Rattle.v_design.specs.States.{written_if, write_of, step_of, first_update, process_at, with_process, with_node, after_step, after_lane_step, evaluated, nets_updated, after}
use Rattle.v_design.specs.Laws.{BeginsPhase}
use Rattle.order_laws.specs.NodesRest.{HasWidths}

-- A phase's beginning

widths-map : (values : List LogicValue) (objects : List FlatObject) → map (λ (value : LogicValue). length value) values ≡ map (λ (object : FlatObject). object.width) objects → (object : ℕ) →
    length (value_at values object) ≡ get_or (map (λ (o : FlatObject). o.width) objects) object 0
widths-map values objects e object = at values object ∙ ap (λ l. get_or l object 0) e
  where
    at : (vs : List LogicValue) (o : ℕ) → length (value_at vs o) ≡ get_or (map (λ (value : LogicValue). length value) vs) o 0
    at [] o = refl
    at (v ∷ vs) zero = refl
    at (v ∷ vs) (suc o) = at vs o

none-pending : (nodes : List NodeState) (number : ℕ) → some_in has_work nodes ≡ false → (found_or idle_node (slice_get nodes number)).pending ≡ None
none-pending [] number h = refl
none-pending (n ∷ nodes) zero h = no-pending n.marked n.pending (some_in has_work nodes) h
  where
    no-pending : (marked : Bool) (pending : Option (List LogicValue)) (rest : Bool) → ((marked || is_some pending) || rest) ≡ false → pending ≡ None
    no-pending true pending rest e = cc
    no-pending false None rest e = refl
    no-pending false (Some v) rest e = cc
none-pending (n ∷ nodes) (suc number) h = none-pending nodes number (rest (has_work n) (some_in has_work nodes) h)
  where
    rest : (b c : Bool) → (b || c) ≡ false → c ≡ false
    rest true c e = cc
    rest false c e = e

-- where a phase begins each value has its object's width, and no update is pending
pub begun-widths : (machine : Machine) (state : State) → BeginsPhase machine state → HasWidths machine state.values
begun-widths machine state begins = widths-map state.values machine.design.objects begins.widths

pub begun-idle : (machine : Machine) (state : State) → BeginsPhase machine state → (number : ℕ) → (node_at state number).pending ≡ None
begun-idle machine state begins number = none-pending state.nodes number begins.idle

-- Parts of nodes

-- a node that is marked has what was pending
pub still-pending : (object : ℕ) (changed : Bool) (nodes : List FlatNode) (states : List NodeState) (number : ℕ) (given : List LogicValue) →
    (found_or idle_node (slice_get (zip_with (marked_by object changed) nodes states) number)).pending ≡ Some given → (found_or idle_node (slice_get states number)).pending ≡ Some given
still-pending object changed [] states number given e = cc
still-pending object changed (n ∷ nodes) [] number given e = cc
still-pending object changed (n ∷ nodes) (s ∷ states) zero given e = e
still-pending object changed (n ∷ nodes) (s ∷ states) (suc number) given e = still-pending object changed nodes states number given e

-- a place among changed ones: another, or the one that is changed
pub changed-or : (states : List NodeState) (place number : ℕ) (f : NodeState → NodeState) →
    (found_or idle_node (slice_get (change_at states place f) number) ≡ found_or idle_node (slice_get states number))
    ⊎ ((place ≡ number) × (found_or idle_node (slice_get (change_at states place f) number) ≡ f (found_or idle_node (slice_get states number))))
changed-or [] place number f = inl refl
changed-or (s ∷ states) zero zero f = inr (refl, refl)
changed-or (s ∷ states) zero (suc number) f = inl refl
changed-or (s ∷ states) (suc place) zero f = inl refl
changed-or (s ∷ states) (suc place) (suc number) f = elim (changed-or states place number f) [ inl e ↦ inl e | inr e ↦ inr (ap suc e.0, e.1) ]

-- Pending updates after an event

-- an update that is pending after an event was so before it, or the event evaluated its node
pub data PendingFrom (machine : Machine) (state : State) (event : Event) (number : ℕ) (given : List LogicValue) : Type 0 where
  Before : (was : (node_at state number).pending ≡ Some given) → PendingFrom machine state event number given
  Now : (is : event ≡ Evaluation number) → PendingFrom machine state event number given

put-pending : (machine : Machine) (object : ℕ) (new : LogicValue) (state : State) (number : ℕ) (given : List LogicValue) →
    (node_at (with_value machine object new state) number).pending ≡ Some given → (node_at state number).pending ≡ Some given
put-pending machine object new state number given e = still-pending object (not (same_value (value_at state.values object) new)) machine.design.nodes state.nodes number given e

written-pending : (machine : Machine) (update : Option ValueUpdate) (state : State) (number : ℕ) (given : List LogicValue) →
    (node_at (written_if machine update state) number).pending ≡ Some given → (node_at state number).pending ≡ Some given
written-pending machine None state number given e = e
written-pending machine (Some update) state number given e = put-pending machine update.object (value_written machine state update) state number given e

puts-pending : (machine : Machine) (objects : List ℕ) (values : List LogicValue) (state : State) (number : ℕ) (given : List LogicValue) →
    (node_at (with_values machine objects values state) number).pending ≡ Some given → (node_at state number).pending ≡ Some given
puts-pending machine [] values state number given e = e
puts-pending machine (object ∷ objects) [] state number given e = e
puts-pending machine (object ∷ objects) (value ∷ values) state number given e =
    put-pending machine object value state number given (puts-pending machine objects values (with_value machine object value state) number given e)

cleared-pending : (at : ℕ) (state : State) (number : ℕ) (given : List LogicValue) →
    (node_at (with_node at (λ (old : NodeState). record old { pending = None }) state) number).pending ≡ Some given → (node_at state number).pending ≡ Some given
cleared-pending at state number given e = elim (changed-or state.nodes at number (λ (old : NodeState). record old { pending = None })) [
  | inl same ↦ sym (ap (λ (n : NodeState). n.pending) same) ∙ e
  | inr here ↦ absurd (let no : None ≡ Some given = sym (ap (λ (n : NodeState). n.pending) here.1) ∙ e in cc)
]

updated-pending : (machine : Machine) (at : ℕ) (found : Option FlatNode) (pending : Option (List LogicValue)) (state : State) (number : ℕ) (given : List LogicValue) →
    (node_at (nets_updated machine at found pending state) number).pending ≡ Some given → (node_at state number).pending ≡ Some given
updated-pending machine at None pending state number given e = e
updated-pending machine at (Some node) None state number given e = e
updated-pending machine at (Some node) (Some values) state number given e =
    cleared-pending at state number given (puts-pending machine node.outputs values (with_node at (λ (old : NodeState). record old { pending = None }) state) number given e)

evaluated-pending : (machine : Machine) (at : ℕ) (found : Option FlatNode) (state : State) (number : ℕ) (given : List LogicValue) →
    (node_at (evaluated machine at found state) number).pending ≡ Some given → PendingFrom machine state (Evaluation at) number given
evaluated-pending machine at None state number given e = Before e
evaluated-pending machine at (Some node) state number given e =
    elim (changed-or state.nodes at number (λ (old : NodeState). record { marked = false; pending = Some (node_outputs machine at node state.values) })) [
      | inl same ↦ Before (sym (ap (λ (n : NodeState). n.pending) same) ∙ e)
      | inr here ↦ Now (ap Evaluation here.0)
    ]

pub pending-from : (machine : Machine) (state : State) (event : Event) (number : ℕ) (given : List LogicValue) → (node_at (after machine state event) number).pending ≡ Some given →
    PendingFrom machine state event number given
pending-from machine state (Step process) number given e =
    Before (written-pending machine (write_of (step_of machine state process).action) (with_process process (after_step state (step_of machine state process)) state) number given e)
pending-from machine state (LaneStep process) number given e =
    Before (written-pending machine (first_update (process_at state process).lane) (with_process process after_lane_step state) number given e)
pending-from machine state (Evaluation at) number given e = evaluated-pending machine at (slice_get machine.design.nodes at) state number given e
pending-from machine state (NetUpdate at) number given e = Before (updated-pending machine at (slice_get machine.design.nodes at) (node_at state at).pending state number given e)
