-- A good state and differences from it are one state.
use Rattle.std.proofs.Common.{◌≡◌, ℕ, suc, List, [], ◌∷◌, length, sym, ◌∙◌, arith}
use Rattle.std.specs.Prelude.{slice_get}
use Rattle.four_value.specs.Values.{LogicValue}
use Rattle.v_design.specs.Assignments.{value_at}
use Rattle.v_design.specs.States.{found_or, idle_node, idle_process}
use Rattle.block_changes.specs.Changes.{WithinIsOne}

-- lists that agree place by place
all-same : {A : Type 0} (default : A) (xs ys : List A) → length xs ≡ length ys → ((place : ℕ) → found_or default (slice_get xs place) ≡ found_or default (slice_get ys place)) → xs ≡ ys
all-same default [] [] e h = λ i. []
all-same default [] (y ∷ ys) e h = absurd (omega (arith, e))
all-same default (x ∷ xs) [] e h = absurd (omega (arith, e))
all-same default (x ∷ xs) (y ∷ ys) e h = λ i. h 0 i ∷ all-same default xs ys (omega (arith, e)) (λ place. h (suc place)) i

values-same : (xs ys : List LogicValue) → length xs ≡ length ys → ((object : ℕ) → value_at xs object ≡ value_at ys object) → xs ≡ ys
values-same [] [] e h = λ i. []
values-same [] (y ∷ ys) e h = absurd (omega (arith, e))
values-same (x ∷ xs) [] e h = absurd (omega (arith, e))
values-same (x ∷ xs) (y ∷ ys) e h = λ i. h 0 i ∷ values-same xs ys (omega (arith, e)) (λ object. h (suc object)) i

pub within_is_one : WithinIsOne
within_is_one d good one other w v time = λ i. record {
  time = time i;
  values = values-same one.values other.values (w.value_count ∙ sym v.value_count) (λ object. w.values object ∙ sym (v.values object)) i;
  nodes = all-same idle_node one.nodes other.nodes (w.node_count ∙ sym v.node_count) (λ number. w.nodes number ∙ sym (v.nodes number)) i;
  processes = all-same idle_process one.processes other.processes (w.process_count ∙ sym v.process_count) (λ process. w.processes process ∙ sym (v.processes process)) i;
}
