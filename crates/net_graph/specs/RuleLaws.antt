-- What the rules of a design say of the numbers in it (nothing of the language).
use Rattle.std.proofs.Common.{◌≡◌, ℕ, zero, suc, ◌+◌, ◌<◌, ◌≤◌, Bool, true, false, List, [], ◌∷◌, length, get_or, map, refl, ap, ◌∙◌, subst, inl, inr, arith}
use Rattle.std.specs.Prelude.{Some, slice_get, nat_eq}
use Rattle.std.specs.List.{All}
use Rattle.std.proofs.lemmas.List.{length-map, get_or-map}
use Rattle.std.proofs.lemmas.Option.{slice_get_read, slice_get-map, slice_get_within, get_or_from_slice_get}
use Rattle.std.specs.Option.{option_map}
use Rattle.std.proofs.lemmas.Bool.{or_cases, or_left, or_right, eqb-true, eq-eqb}
use Rattle.std.proofs.Math.Logic.{∥∥₁_elim}
use Rattle.std.specs.Coded.{le_prop}
use Rattle.v_design.specs.declared.plan.Node.{Node}
use Rattle.v_design.specs.Plain.{node_of}
use Rattle.vf_base.specs.declared.ids.ObjectId.{ObjectId}
use Rattle.vf_base.specs.Base.{object_number}
use Rattle.vf_base.specs.Lists.{has, without_repeats, AllHold}
use Rattle.v_design.specs.Designs.{FlatObject, FlatNode, FlatDesign}
use Rattle.v_design.specs.Paths.{is_net, numbers_of, net_pieces}
use Rattle.v_design.specs.WellFormed.{KeepsRules, IsNodeOf}
use Rattle.graph_order.specs.ListLaws.{AllHold-slice_get, AllHold-has, has-without_repeats}
use Rattle.net_graph.specs.Tables.{distinct_inputs, distinct_inputs_at}

-- the numbers of some objects are numbers of objects
pub numbers_of-bound : (test : FlatObject → Bool) (number : ℕ) (objects : List FlatObject) (o : ℕ) → has (numbers_of test number objects) o ≡ true → o < number + length objects
numbers_of-bound test number [] o e = absurd (cc)
numbers_of-bound test number (object ∷ objects) o e =
    elim (test object) as (λ b. has (elim b [ true ↦ number ∷ numbers_of test (number + 1) objects | false ↦ numbers_of test (number + 1) objects ]) o ≡ true → o < number + suc (length objects)) [
      | true ↦ λ h. elim (or_cases (nat_eq number o) (has (numbers_of test (number + 1) objects) o) h) [
        | inl same ↦ let e' : number ≡ o = eqb-true number o same in omega arith
        | inr there ↦ let low : o < number + 1 + length objects = numbers_of-bound test (number + 1) objects o there in omega arith
      ]
      | false ↦ λ h. let low : o < number + 1 + length objects = numbers_of-bound test (number + 1) objects o h in omega arith
    ] e

-- a fact of each number, of the objects that have the numbers
All-numbers : (P : ℕ → Type 0) (xs : List ObjectId) → AllHold P (map object_number xs) → All (λ x. P (object_number x)) xs
All-numbers P [] h k d low = absurd (omega arith)
All-numbers P (x ∷ xs) h zero d low = h.0
All-numbers P (x ∷ xs) h (suc k) d low = All-numbers P xs h.1 k d (omega arith)

AllHold-map : (P Q : ℕ → Type 0) (xs : List ℕ) → ((x : ℕ) → P x → Q x) → AllHold P xs → AllHold Q xs
AllHold-map P Q [] f h = tt
AllHold-map P Q (x ∷ xs) f h = (f x h.0, AllHold-map P Q xs f h.1)

-- a node of a design keeps the rules of a node
pub rules_of_node : (design : FlatDesign) (k : ℕ) (node : FlatNode) → KeepsRules design → slice_get design.nodes k ≡ Some node → IsNodeOf design node
rules_of_node design k node rules at = AllHold-slice_get (IsNodeOf design) design.nodes k node rules.nodes at

-- the inputs of a node are objects of the design
pub inputs_are_objects : (design : FlatDesign) (k : ℕ) (node : FlatNode) → KeepsRules design → slice_get design.nodes k ≡ Some node → AllHold (λ o. o < length design.objects) node.inputs
inputs_are_objects design k node rules at = (rules_of_node design k node rules at).inputs_there

-- the outputs of a node are objects of the design
pub outputs_are_objects : (design : FlatDesign) (k : ℕ) (node : FlatNode) → KeepsRules design → slice_get design.nodes k ≡ Some node → AllHold (λ o. o < length design.objects) node.outputs
outputs_are_objects design k node rules at =
    AllHold-map (λ o. has (net_pieces design) o ≡ true) (λ o. o < length design.objects) node.outputs
    (λ o e. let low : o < 0 + length design.objects = numbers_of-bound (λ object. is_net object.kind) 0 design.objects o e in omega arith)
    (rules_of_node design k node rules at).outputs_nets

-- the same of the numbers of a list of objects, from a design whose rules hold
pub inputs_below : (design : FlatDesign) (k : ℕ) (node : FlatNode) (inputs : List ObjectId) (count : ℕ) → ∥ KeepsRules design ∥₁ → slice_get design.nodes k ≡ Some node →
    node.inputs ≡ map object_number inputs → length design.objects ≤ count → All (λ input. object_number input < count) inputs
inputs_below design k node inputs count rules at same enough j d low =
    ∥∥₁_elim rules (le_prop)
    (λ kept.
    let bound : object_number (get_or inputs j d) < length design.objects =
    All-numbers (λ o. o < length design.objects) inputs (subst (AllHold (λ o. o < length design.objects)) same (inputs_are_objects design k node kept at)) j d low in
    omega arith)

pub outputs_below : (design : FlatDesign) (k : ℕ) (node : FlatNode) (outputs : List ObjectId) (count : ℕ) → ∥ KeepsRules design ∥₁ → slice_get design.nodes k ≡ Some node →
    node.outputs ≡ map object_number outputs → length design.objects ≤ count → All (λ output. object_number output < count) outputs
outputs_below design k node outputs count rules at same enough j d low =
    ∥∥₁_elim rules (le_prop)
    (λ kept.
    let bound : object_number (get_or outputs j d) < length design.objects =
    All-numbers (λ o. o < length design.objects) outputs (subst (AllHold (λ o. o < length design.objects)) same (outputs_are_objects design k node kept at)) j d low in
    omega arith)

-- a design has few nodes
pub nodes_are_few : (design : FlatDesign) → ∥ KeepsRules design ∥₁ → length design.nodes ≤ 65536
nodes_are_few design rules = ∥∥₁_elim rules (le_prop) (λ kept. kept.few_nodes)

-- a node of the code's list, as one of the design
pub node_at : (nodes : List Node) (k : ℕ) (n : Node) → k < length nodes → n ≡ get_or nodes k n → slice_get (map node_of nodes) k ≡ Some (node_of n)
node_at nodes k n low at = slice_get-map node_of nodes k ∙ ap (option_map node_of) (slice_get_read nodes (length nodes) k n refl low at)

-- the same, where the list is read through a slice
pub node_in : (nodes list : List Node) (k : ℕ) (n : Node) → list ≡ nodes → k < length list → n ≡ get_or list k n → slice_get (map node_of nodes) k ≡ Some (node_of n)
node_in nodes list k n same low at = subst (λ l. slice_get (map node_of l) k ≡ Some (node_of n)) same (node_at list k n low at)

has-get_or : (xs : List ℕ) (i d : ℕ) → i < length xs → has xs (get_or xs i d) ≡ true
has-get_or [] i d low = absurd (omega arith)
has-get_or (x ∷ xs) zero d low = or_left (nat_eq x x) (has xs x) (eq-eqb x x refl)
has-get_or (x ∷ xs) (suc i) d low = or_right (nat_eq x (get_or xs i d)) (has xs (get_or xs i d)) (has-get_or xs i d (omega arith))

-- the inputs of a node, each once, are objects of the design
pub distinct_below : (design : FlatDesign) (k : ℕ) (node : FlatNode) (inputs : List ObjectId) (count : ℕ) → ∥ KeepsRules design ∥₁ → slice_get design.nodes k ≡ Some node →
    map object_number inputs ≡ without_repeats [] node.inputs → length design.objects ≤ count → All (λ input. object_number input < count) inputs
distinct_below design k node inputs count rules at same enough j d low =
    ∥∥₁_elim rules le_prop
    (λ kept.
    let number : ℕ = get_or (map object_number inputs) j (object_number d) in
    let there : has (map object_number inputs) (get_or (map object_number inputs) j (object_number d)) ≡ true =
    has-get_or (map object_number inputs) j (object_number d) (omega (arith, length-map inputs object_number)) in
    let is_input : has node.inputs (get_or (map object_number inputs) j (object_number d)) ≡ true =
    has-without_repeats [] node.inputs (get_or (map object_number inputs) j (object_number d)) (subst (λ l. has l (get_or (map object_number inputs) j (object_number d)) ≡ true) same there) in
    let bound : get_or (map object_number inputs) j (object_number d) < length design.objects =
    AllHold-has (λ o. o < length design.objects) node.inputs (get_or (map object_number inputs) j (object_number d)) (inputs_are_objects design k node kept at) is_input in
    let itself : get_or (map object_number inputs) j (object_number d) ≡ object_number (get_or inputs j d) = get_or-map object_number inputs j d (object_number d) low in
    omega arith)

-- the inputs of the node of a number
pub distinct_inputs_at-node : (design : FlatDesign) (k : ℕ) (node : FlatNode) → slice_get design.nodes k ≡ Some node → distinct_inputs_at design k ≡ distinct_inputs node
distinct_inputs_at-node design k node at =
    get_or-map distinct_inputs design.nodes k node [] (slice_get_within design.nodes k node at) ∙ ap distinct_inputs (get_or_from_slice_get design.nodes k node node at)
