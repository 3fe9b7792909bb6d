-- Nodes where none has work.
use Rattle.std.proofs.Common.{◌≡◌, ℕ, zero, suc, ◌+◌, List, [], ◌∷◌, length, map, arith, Bool, true, false, refl}
use Rattle.std.specs.Prelude.{Option, Some, None, is_some, slice_get}
use Rattle.four_value.specs.Values.{LogicValue}
use Rattle.v_design.specs.Designs.{FlatNode}
use Rattle.v_design.specs.States.{State, NodeState, found_or, idle_node, node_at}
use Rattle.v_design.specs.Runs.{least_work, work_of}
use Rattle.machine_laws.specs.SlotLoop.{NoNodeWorks}

-- Nodes

none-pending : (pending : Option (List LogicValue)) → is_some pending ≡ false → pending ≡ None
none-pending None e = refl
none-pending (Some x) e = cc

idle-at : (node : NodeState) (nodes : List NodeState) → node.marked ≡ false → is_some node.pending ≡ false → ((number : ℕ) → found_or idle_node (slice_get nodes number) ≡ idle_node) →
    (number : ℕ) → found_or idle_node (slice_get (node ∷ nodes) number) ≡ idle_node
idle-at node nodes marked pending rest zero = λ i. record { marked = marked i; pending = none-pending node.pending pending i }
idle-at node nodes marked pending rest (suc number) = rest number

work-node : (start : ℕ) (nodes : List NodeState) → work_of start nodes ≡ None → (number : ℕ) → found_or idle_node (slice_get nodes number) ≡ idle_node
work-node start [] none = λ number. refl
work-node start (node ∷ nodes) none = go node.marked (is_some node.pending) refl refl none (λ rest. work-node (start + 1) nodes rest)
  where
    go : (m p : Bool) → node.marked ≡ m → is_some node.pending ≡ p → least_work start m p (work_of (start + 1) nodes) ≡ None →
        (work_of (start + 1) nodes ≡ None → (number : ℕ) → found_or idle_node (slice_get nodes number) ≡ idle_node) → (number : ℕ) →
        found_or idle_node (slice_get (node ∷ nodes) number) ≡ idle_node
    go true p e f h more = cc
    go false true e f h more = cc
    go false false e f h more = idle-at node nodes e f (more h)

-- where no node has work each is idle
pub rests-node : (state : State) → NoNodeWorks state → (number : ℕ) → node_at state number ≡ idle_node
rests-node state none number = work-node 0 state.nodes none number

-- so the nodes are idle
pub idle-nodes : (nodes : List FlatNode) (states : List NodeState) → length states ≡ length nodes → ((number : ℕ) → found_or idle_node (slice_get states number) ≡ idle_node) →
    states ≡ map (λ (node : FlatNode). idle_node) nodes
idle-nodes [] [] same each = refl
idle-nodes [] (state ∷ states) same each = absurd (omega (arith, same))
idle-nodes (node ∷ nodes) [] same each = absurd (omega (arith, same))
idle-nodes (node ∷ nodes) (state ∷ states) same each = λ i. each 0 i ∷ idle-nodes nodes states (omega (arith, same)) (λ number. each (suc number)) i
