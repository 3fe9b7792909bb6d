-- No event but a lane's own step changes a lane.
use Rattle.std.proofs.Common.{◌≡◌, ℕ, zero, suc, List, [], ◌∷◌, refl, ap, ◌∙◌}
use Rattle.std.specs.Prelude.{Option, Some, None, slice_get}
use Rattle.four_value.specs.Values.{LogicValue}
use Rattle.vf_base.specs.Lists.{change_at}
use Rattle.v_design.specs.Designs.{FlatNode, Machine}
use Rattle.v_design.specs.Assignments.{ValueUpdate, value_at}
use Rattle.v_design.specs.States.{State, ProcessState, Step, Evaluation, NetUpdate, after, process_at, node_at, found_or, idle_process, woken_process, step_of, write_of}
use Rattle.v_design.specs.States.{with_value, with_values, with_process, with_node, value_written, written_if, after_step, evaluated, nets_updated}
use Rattle.copy_laws.proofs.Parts.{found-mapped}

put-lane : (machine : Machine) (object : ℕ) (new : LogicValue) (state : State) (q : ℕ) → (process_at (with_value machine object new state) q).lane ≡ (process_at state q).lane
put-lane machine object new state q =
    ap (λ (s : ProcessState). s.lane) (found-mapped (woken_process object (value_at state.values object) new) idle_process state.processes q refl)

written-lane : (machine : Machine) (update : Option ValueUpdate) (state : State) (q : ℕ) → (process_at (written_if machine update state) q).lane ≡ (process_at state q).lane
written-lane machine None state q = refl
written-lane machine (Some update) state q = put-lane machine update.object (value_written machine state update) state q

puts-lane : (machine : Machine) (objects : List ℕ) (values : List LogicValue) (state : State) (q : ℕ) →
    (process_at (with_values machine objects values state) q).lane ≡ (process_at state q).lane
puts-lane machine [] values state q = refl
puts-lane machine (object ∷ objects) [] state q = refl
puts-lane machine (object ∷ objects) (value ∷ values) state q = puts-lane machine objects values (with_value machine object value state) q ∙ put-lane machine object value state q

stepped-lane : (change : ProcessState → ProcessState) → ((s : ProcessState) → (change s).lane ≡ s.lane) → (xs : List ProcessState) (p q : ℕ) →
    (found_or idle_process (slice_get (change_at xs p change) q)).lane ≡ (found_or idle_process (slice_get xs q)).lane
stepped-lane change h [] p q = refl
stepped-lane change h (x ∷ xs) zero zero = h x
stepped-lane change h (x ∷ xs) zero (suc q) = refl
stepped-lane change h (x ∷ xs) (suc p) zero = refl
stepped-lane change h (x ∷ xs) (suc p) (suc q) = stepped-lane change h xs p q

pub step-lanes : (machine : Machine) (state : State) (p q : ℕ) → (process_at (after machine state (Step p)) q).lane ≡ (process_at state q).lane
step-lanes machine state p q =
    written-lane machine (write_of (step_of machine state p).action) (with_process p (after_step state (step_of machine state p)) state) q
    ∙ stepped-lane (after_step state (step_of machine state p)) (λ s. refl) state.processes p q

pub evaluation-lanes : (machine : Machine) (state : State) (number q : ℕ) → (process_at (after machine state (Evaluation number)) q).lane ≡ (process_at state q).lane
evaluation-lanes machine state number q = go (slice_get machine.design.nodes number)
  where
    go : (found : Option FlatNode) → (process_at (evaluated machine number found state) q).lane ≡ (process_at state q).lane
    go None = refl
    go (Some node) = refl

pub update-lanes : (machine : Machine) (state : State) (number q : ℕ) → (process_at (after machine state (NetUpdate number)) q).lane ≡ (process_at state q).lane
update-lanes machine state number q = go (slice_get machine.design.nodes number) (node_at state number).pending
  where
    go : (found : Option FlatNode) (pending : Option (List LogicValue)) → (process_at (nets_updated machine number found pending state) q).lane ≡ (process_at state q).lane
    go None pending = refl
    go (Some node) None = refl
    go (Some node) (Some values) = puts-lane machine node.outputs values (with_node number (λ old. record old { pending = None }) state) q
