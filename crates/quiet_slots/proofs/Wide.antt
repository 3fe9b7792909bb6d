-- Each value is as wide as its object, at each moment of a slot.
use Rattle.std.proofs.Common.{◌≡◌, ℕ, zero, suc, List, [], ◌∷◌, length, false, not, refl, sym, ap, subst, ◌∙◌, inl, inr, arith}
use Rattle.std.specs.Prelude.{Option, Some, None, slice_get}
use Rattle.four_value.specs.Values.{LogicValue, with_part, same_value}
use Rattle.four_value.specs.ValueLaws.{length-with_part}
use Rattle.vf_base.specs.Lists.{change_at}
use Rattle.v_design.specs.Designs.{FlatDesign, FlatNode, Machine, width_in}
use Rattle.v_design.specs.Assignments.{ValueUpdate, value_at, node_outputs}
use Rattle.v_design.specs.States.{State, NodeState, Event, Step, LaneStep, Evaluation, NetUpdate, TurnKind, PostponedTurn, UpdatesTurn, TimeTurn, node_at}
use Rattle.v_design.specs.States.{with_value, value_written, written_if, with_process, with_node, after_step, after_lane_step, step_of, write_of, first_update, process_at, evaluated}
use Rattle.v_design.specs.States.{with_values, nets_updated, after, turned}
use Rattle.v_design.specs.Laws.{BeginsPhase}
use Rattle.v_design.specs.WellFormed.{KeepsRules}
use Rattle.net_state.specs.Held.{HaveWidths}
use Rattle.quiet_slots.specs.Pending.{begun-widths, begun-idle, still-pending, changed-or}
use Rattle.net_state.specs.OutputLaws.{outputs-wide, length-forced_variable}

-- each value is as wide as its object, and so is each value that a node is still to give
pub record IsWide (design : FlatDesign) (state : State) : Type 0 where
  pub count : length state.values ≡ length design.objects
  pub values : (object : ℕ) → length (value_at state.values object) ≡ width_in design object
  pub pending : (number : ℕ) (node : FlatNode) (given : List LogicValue) → slice_get design.nodes number ≡ Some node → (node_at state number).pending ≡ Some given →
      HaveWidths design node.outputs given

-- A phase's beginning

pub begins-wide : (machine : Machine) (state : State) → BeginsPhase machine state → IsWide machine.design state
begins-wide machine state begins = record {
  count = begins.fits.values;
  values = begun-widths machine state begins;
  pending = λ number node given at pending. absurd (let no : None ≡ Some given = sym (begun-idle machine state begins number) ∙ pending in cc);
}

-- An object gets a value

put-width : (values : List LogicValue) (object : ℕ) (new : LogicValue) (x : ℕ) → length new ≡ length (value_at values object) →
    length (value_at (change_at values object (λ old. new)) x) ≡ length (value_at values x)
put-width [] object new x e = refl
put-width (v ∷ values) zero new zero e = e
put-width (v ∷ values) zero new (suc x) e = refl
put-width (v ∷ values) (suc object) new zero e = refl
put-width (v ∷ values) (suc object) new (suc x) e = put-width values object new x e

put-count : (values : List LogicValue) (object : ℕ) (new : LogicValue) → length (change_at values object (λ old. new)) ≡ length values
put-count [] object new = refl
put-count (v ∷ values) zero new = refl
put-count (v ∷ values) (suc object) new = ap suc (put-count values object new)

put-wide : (machine : Machine) (object : ℕ) (new : LogicValue) (state : State) → length new ≡ width_in machine.design object → IsWide machine.design state →
    IsWide machine.design (with_value machine object new state)
put-wide machine object new state e w = record {
  count = put-count state.values object new ∙ w.count;
  values = λ x. put-width state.values object new x (e ∙ sym (w.values object)) ∙ w.values x;
  pending = λ number node given at pending.
      w.pending number node given at (still-pending object (not (same_value (value_at state.values object) new)) machine.design.nodes state.nodes number given pending);
}

written-wide : (machine : Machine) (update : Option ValueUpdate) (state : State) → IsWide machine.design state → IsWide machine.design (written_if machine update state)
written-wide machine None state w = w
written-wide machine (Some update) state w =
    put-wide machine update.object (value_written machine state update) state
    (length-forced_variable machine.fault update.object (with_part (value_at state.values update.object) update.low update.value)
    ∙ length-with_part (value_at state.values update.object) update.low update.value ∙ w.values update.object) w

puts-wide : (machine : Machine) (objects : List ℕ) (values : List LogicValue) (state : State) → HaveWidths machine.design objects values → IsWide machine.design state →
    IsWide machine.design (with_values machine objects values state)
puts-wide machine [] values state h w = w
puts-wide machine (object ∷ objects) [] state h w = w
puts-wide machine (object ∷ objects) (value ∷ values) state h w =
    puts-wide machine objects values (with_value machine object value state) (record { count = omega (arith, h.count); widths = λ k low. h.widths (suc k) (omega (arith, low)) })
    (put-wide machine object value state (h.widths 0 (omega arith)) w)

-- Nodes

cleared-wide : (design : FlatDesign) (number : ℕ) (state : State) → IsWide design state → IsWide design (with_node number (λ (old : NodeState). record old { pending = None }) state)
cleared-wide design number state w = record {
  count = w.count;
  values = w.values;
  pending = λ other node given at pending. elim (changed-or state.nodes number other (λ (old : NodeState). record old { pending = None })) [
    | inl e ↦ w.pending other node given at (sym (ap (λ (n : NodeState). n.pending) e) ∙ pending)
    | inr e ↦ absurd (let no : None ≡ Some given = sym (ap (λ (n : NodeState). n.pending) e.1) ∙ pending in cc)
  ];
}

some-list : (one other : List LogicValue) → Some one ≡ Some other → one ≡ other
some-list one other e = cc

some-node : (one other : FlatNode) → Some one ≡ Some other → one ≡ other
some-node one other e = cc

evaluated-wide : (machine : Machine) → KeepsRules machine.design → (number : ℕ) (found : Option FlatNode) (state : State) → slice_get machine.design.nodes number ≡ found → IsWide machine.design state →
    IsWide machine.design (evaluated machine number found state)
evaluated-wide machine rules number None state here w = w
evaluated-wide machine rules number (Some node) state here w = record {
  count = w.count;
  values = w.values;
  pending = λ other text given at pending. elim (changed-or state.nodes number other (λ (old : NodeState). record { marked = false; pending = Some (node_outputs machine number node state.values) })) [
    | inl e ↦ w.pending other text given at (sym (ap (λ (n : NodeState). n.pending) e) ∙ pending)
    | inr e ↦
        let same : node ≡ text = some-node node text (sym here ∙ ap (slice_get machine.design.nodes) e.0 ∙ at) in
        let outputs : node_outputs machine number node state.values ≡ given =
        some-list (node_outputs machine number node state.values) given (sym (ap (λ (n : NodeState). n.pending) e.1) ∙ pending) in
        subst (λ (n : FlatNode). HaveWidths machine.design n.outputs given) same
        (subst (HaveWidths machine.design node.outputs) outputs
        (outputs-wide machine number node state.values rules here (record { count = w.count; widths = λ object low. w.values object })))
  ];
}

updated-wide : (machine : Machine) (number : ℕ) (found : Option FlatNode) (pending : Option (List LogicValue)) (state : State) → slice_get machine.design.nodes number ≡ found →
    (node_at state number).pending ≡ pending → IsWide machine.design state → IsWide machine.design (nets_updated machine number found pending state)
updated-wide machine number None pending state here at w = w
updated-wide machine number (Some node) None state here at w = w
updated-wide machine number (Some node) (Some values) state here at w =
    puts-wide machine node.outputs values (with_node number (λ (old : NodeState). record old { pending = None }) state) (w.pending number node values here at)
    (cleared-wide machine.design number state w)

-- Events and turns

pub after-wide : (machine : Machine) → KeepsRules machine.design → (state : State) (event : Event) → IsWide machine.design state → IsWide machine.design (after machine state event)
after-wide machine rules state (Step process) w =
    written-wide machine (write_of (step_of machine state process).action) (with_process process (after_step state (step_of machine state process)) state)
    (record { count = w.count; values = w.values; pending = w.pending })
after-wide machine rules state (LaneStep process) w =
    written-wide machine (first_update (process_at state process).lane) (with_process process after_lane_step state) (record { count = w.count; values = w.values; pending = w.pending })
after-wide machine rules state (Evaluation number) w = evaluated-wide machine rules number (slice_get machine.design.nodes number) state refl w
after-wide machine rules state (NetUpdate number) w = updated-wide machine number (slice_get machine.design.nodes number) (node_at state number).pending state refl refl w

pub turned-wide : (design : FlatDesign) (turn : TurnKind) (state : State) → IsWide design state → IsWide design (turned turn state)
turned-wide design PostponedTurn state w = record { count = w.count; values = w.values; pending = w.pending }
turned-wide design UpdatesTurn state w = record { count = w.count; values = w.values; pending = w.pending }
turned-wide design (TimeTurn time) state w = record { count = w.count; values = w.values; pending = w.pending }
