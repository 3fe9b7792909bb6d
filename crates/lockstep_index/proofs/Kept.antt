-- An event keeps the updates of a process, pending and in its lane, where it is no step of it or of its lane.
use Rattle.std.proofs.Common.{◌≡◌, ◌≢◌, ℕ, List, [], ◌∷◌, ◌++◌, refl, sym, ap, ◌∙◌}
use Rattle.std.specs.Prelude.{Option, Some, None, slice_get}
use Rattle.four_value.specs.Values.{LogicValue}
use Rattle.v_design.specs.Designs.{FlatNode, Machine}
use Rattle.v_design.specs.Assignments.{ValueUpdate, value_at}
use Rattle.v_design.specs.States.{State, ProcessState, Event, Step, LaneStep, Evaluation, NetUpdate, after, process_at, node_at, idle_process, woken_process, step_of, write_of, with_value, with_values}
use Rattle.v_design.specs.States.{with_process, with_node, value_written, written_if, after_step, after_lane_step, first_update, evaluated, nets_updated}
use Rattle.v_design.specs.Runs.{happened}
use Rattle.copy_laws.proofs.Parts.{changed-elsewhere, found-mapped}
use Rattle.lockstep_laws.specs.Phases.{IsInPhase}
use Rattle.lockstep_index.specs.Writes.{OwnWrites, ActsElsewhere}

abbrev KeepsWrites : State → State → ℕ → Type 0
KeepsWrites before later p = ((process_at later p).later ≡ (process_at before p).later) × ((process_at later p).lane ≡ (process_at before p).lane)

put-keeps : (machine : Machine) (object : ℕ) (new : LogicValue) (state : State) (p : ℕ) → KeepsWrites state (with_value machine object new state) p
put-keeps machine object new state p =
    let mapped = found-mapped (woken_process object (value_at state.values object) new) idle_process state.processes p refl in
    (ap (λ (s : ProcessState). s.later) mapped, ap (λ (s : ProcessState). s.lane) mapped)

then-keeps : (one two three : State) (p : ℕ) → KeepsWrites one two p → KeepsWrites two three p → KeepsWrites one three p
then-keeps one two three p h k = (k.0 ∙ h.0, k.1 ∙ h.1)

puts-keep : (machine : Machine) (objects : List ℕ) (values : List LogicValue) (state : State) (p : ℕ) → KeepsWrites state (with_values machine objects values state) p
puts-keep machine [] values state p = (refl, refl)
puts-keep machine (object ∷ objects) [] state p = (refl, refl)
puts-keep machine (object ∷ objects) (value ∷ values) state p =
    then-keeps state (with_value machine object value state) (with_values machine objects values (with_value machine object value state)) p (put-keeps machine object value state p)
    (puts-keep machine objects values (with_value machine object value state) p)

written-keeps : (machine : Machine) (update : Option ValueUpdate) (before state : State) (p : ℕ) → process_at state p ≡ process_at before p → KeepsWrites before (written_if machine update state) p
written-keeps machine None before state p same = (ap (λ (s : ProcessState). s.later) same, ap (λ (s : ProcessState). s.lane) same)
written-keeps machine (Some update) before state p same =
    let put = put-keeps machine update.object (value_written machine state update) state p in
    (put.0 ∙ ap (λ (s : ProcessState). s.later) same, put.1 ∙ ap (λ (s : ProcessState). s.lane) same)

-- a process with own updates isn't one without
apart : (writes : ℕ → Option OwnWrites) (p q : ℕ) (own : OwnWrites) → writes p ≡ Some own → writes q ≡ None → q ≢ p
apart writes p q own here none same = let no : Some own ≡ None = sym here ∙ ap writes (sym same) ∙ none in cc

pub keeps-writes : (machine : Machine) (writes : ℕ → Option OwnWrites) (state : State) (event : Event) (p : ℕ) (own : OwnWrites) → writes p ≡ Some own → ActsElsewhere writes event →
    KeepsWrites state (after machine state event) p
keeps-writes machine writes state (Step q) p own here none =
    written-keeps machine (write_of (step_of machine state q).action) state (with_process q (after_step state (step_of machine state q)) state) p
    (changed-elsewhere idle_process state.processes q (after_step state (step_of machine state q)) p (apart writes p q own here none))
keeps-writes machine writes state (LaneStep q) p own here none =
    written-keeps machine (first_update (process_at state q).lane) state (with_process q after_lane_step state) p
    (changed-elsewhere idle_process state.processes q after_lane_step p (apart writes p q own here none))
keeps-writes machine writes state (Evaluation number) p own here none = go (slice_get machine.design.nodes number)
  where
    go : (node : Option FlatNode) → KeepsWrites state (evaluated machine number node state) p
    go None = (refl, refl)
    go (Some node) = (refl, refl)
keeps-writes machine writes state (NetUpdate number) p own here none = go (slice_get machine.design.nodes number) (node_at state number).pending
  where
    go : (node : Option FlatNode) (pending : Option (List LogicValue)) → KeepsWrites state (nets_updated machine number node pending state) p
    go None pending = (refl, refl)
    go (Some node) None = (refl, refl)
    go (Some node) (Some values) = puts-keep machine node.outputs values (with_node number (λ old. record old { pending = None }) state) p

-- One event more in a phase

happened-more : (machine : Machine) (state : State) (events : List Event) (event : Event) → happened machine state (events ++ event ∷ []) ≡ after machine (happened machine state events) event
happened-more machine state [] event = refl
happened-more machine state (first ∷ events) event = happened-more machine (after machine state first) events event

pub phase-more : (machine : Machine) (state : State) (event : Event) → IsInPhase machine state → IsInPhase machine (after machine state event)
phase-more machine state event s = record {
  begins = s.begins;
  events = s.events ++ event ∷ [];
  asked = s.asked;
  is = ap (λ (x : State). after machine x event) s.is ∙ sym (happened-more machine s.begins s.events event);
}
