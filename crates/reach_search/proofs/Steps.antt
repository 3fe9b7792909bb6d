-- What is reached goes on from node to node, and a set that is closed has all of it.
use Rattle.std.proofs.Common.{◌≡◌, ℕ, zero, suc, ◌*◌, ◌<◌, ◌≤◌, Bool, true, false, List, [], ◌∷◌, length, map, refl, ap, sym, ◌∙◌, subst, inl, inr, arith}
use Rattle.std.specs.Prelude.{Some, None, Option, slice_get, nat_eq, not, ◌&&◌, sum_by}
use Rattle.std.specs.List.{list_any, flat_map}
use Rattle.std.proofs.lemmas.Bool.{or_cases, or_left, or_right, and_parts, both_ways, not-false, eqb-true, eq-eqb, ltb-true, lt-ltb}
use Rattle.std.proofs.lemmas.List.Sums.{sum_by-cons}
use Rattle.std.proofs.Math.Logic.{∥∥₁_elim}
use Rattle.std.proofs.Math.Bool.{Bool-set}
use Rattle.vf_base.specs.declared.ids.NodeId.{NodeId}
use Rattle.vf_base.specs.Base.{node_number}
use Rattle.vf_base.specs.Lists.{has, without_repeats}
use Rattle.v_design.specs.Designs.{FlatNode, FlatDesign}
use Rattle.v_design.specs.Paths.{path_weight, one_if, paths, paths_within, paths_through}
use Rattle.v_design.specs.WellFormed.{AreBelow, KeepsRules}
use Rattle.graph_order.specs.ListLaws.{has-append, or-false, le-sum_by, without_repeats-has}
use Rattle.net_graph.specs.Tables.{readers_of, reads}
use Rattle.net_graph.specs.Loops.{IsStep}
use Rattle.net_graph.specs.PathLaws.{all_paths, all_paths-step, paths_through-output, path_weight-positive, reaches_in, reaches_in-paths}
use Rattle.net_graph.specs.ReaderLaws.{has-readers_of}
use Rattle.reach_search.specs.Reach.{reaches, driven_by, outputs_at, successors, SomeNodeReads, IsClosed}

-- What the readers drive

has-flat_map : (f : ℕ → List ℕ) (xs : List ℕ) (o : ℕ) → has (flat_map f xs) o ≡ true → (x : ℕ) × (has xs x ≡ true) × (has (f x) o ≡ true)
has-flat_map f [] o e = absurd (cc)
has-flat_map f (x ∷ xs) o e =
    elim (or_cases (has (f x) o) (has (flat_map f xs) o) (sym (has-append (f x) (flat_map f xs) o) ∙ e)) [
      | inl here ↦ (x, or_left (nat_eq x x) (has xs x) (eq-eqb x x refl), here)
      | inr there ↦ let later = has-flat_map f xs o there in (later.0, or_right (nat_eq x later.0) (has xs later.0) later.1, later.2)
    ]

flat_map-has : (f : ℕ → List ℕ) (xs : List ℕ) (x o : ℕ) → has xs x ≡ true → has (f x) o ≡ true → has (flat_map f xs) o ≡ true
flat_map-has f [] x o e h = absurd (cc)
flat_map-has f (y ∷ xs) x o e h =
    has-append (f y) (flat_map f xs) o
    ∙ elim (or_cases (nat_eq y x) (has xs x) e) [
      | inl same ↦ or_left (has (f y) o) (has (flat_map f xs) o) (ap (λ z. has (f z) o) (eqb-true y x same) ∙ h)
      | inr there ↦ or_right (has (f y) o) (has (flat_map f xs) o) (flat_map-has f xs x o there h)
    ]

step_by : (nodes : List FlatNode) (number from to : ℕ) (node : Option FlatNode) → slice_get nodes number ≡ node → reads from node ≡ true → has (driven_by node) to ≡ true → IsStep nodes from to
step_by nodes number from to None at is_read is_driven = absurd (cc)
step_by nodes number from to (Some node) at is_read is_driven = record { number = number; node = node; is = at; reads = is_read; drives = is_driven }

-- a node leads to it
pub successor-step : (design : FlatDesign) (from to : ℕ) → has (successors design from) to ≡ true → IsStep design.nodes from to
successor-step design from to e =
    let by = has-flat_map (outputs_at design) (readers_of design from) to e in
    step_by design.nodes by.0 from to (slice_get design.nodes by.0) refl (sym (has-readers_of design from by.0) ∙ by.1) by.2

-- and where a node does, it is among them
pub step-successor : (design : FlatDesign) (from to : ℕ) → IsStep design.nodes from to → has (successors design from) to ≡ true
step-successor design from to step =
    flat_map-has (outputs_at design) (readers_of design from) step.number to (has-readers_of design from step.number ∙ ap (reads from) step.is ∙ step.reads)
    (ap (λ node. has (driven_by node) to) step.is ∙ step.drives)

-- Paths

-- an object has the path without a node to itself
pub reaches-itself : (design : FlatDesign) (object : ℕ) → reaches design object object ≡ true
reaches-itself design object = lt-ltb 0 (paths design object object) (own (length design.nodes) design.nodes)
  where
    itself : one_if (nat_eq object object) ≡ 1
    itself = ap one_if (eq-eqb object object refl)

    own : (depth : ℕ) (nodes : List FlatNode) → 0 < paths_within depth nodes object object
    own zero nodes = omega (arith, itself)
    own (suc depth) nodes = omega (arith, itself)

le-sum_at : (f : FlatNode → ℕ) (nodes : List FlatNode) (number : ℕ) (node : FlatNode) → slice_get nodes number ≡ Some node → f node ≤ sum_by f nodes
le-sum_at f [] number node at = absurd (cc)
le-sum_at f (first ∷ nodes) zero node at =
    let same : first ≡ node = cc in
    let is : f first ≡ f node = ap f same in
    omega (arith, sum_by-cons f first nodes)
le-sum_at f (first ∷ nodes) (suc number) node at = omega (arith, sum_by-cons f first nodes, le-sum_at f nodes number node at)

-- a path to an input of a node goes on to its outputs
paths-step : (nodes : List FlatNode) → AreBelow nodes → (from middle to : ℕ) → IsStep nodes middle to → 0 < all_paths nodes from middle → 0 < all_paths nodes from to
paths-step nodes below from middle to step had =
    let p : ℕ → ℕ = all_paths nodes from in
    let inputs : List ℕ = without_repeats [] step.node.inputs in
    let term : all_paths nodes from middle ≤ sum_by (all_paths nodes from) (without_repeats [] step.node.inputs) =
    le-sum_by (all_paths nodes from) (without_repeats [] step.node.inputs) middle (without_repeats-has [] step.node.inputs middle step.reads refl) in
    let product : 1 * 1 ≤ path_weight step.node.kind * sum_by (all_paths nodes from) (without_repeats [] step.node.inputs) =
    le_times 1 (path_weight step.node.kind) 1 (sum_by (all_paths nodes from) (without_repeats [] step.node.inputs)) (path_weight-positive step.node.kind) (omega arith) in
    let here : paths_through (all_paths nodes from) to step.node ≤ sum_by (paths_through (all_paths nodes from) to) nodes =
    le-sum_at (paths_through (all_paths nodes from) to) nodes step.number step.node step.is in
    omega (arith, paths_through-output (all_paths nodes from) to step.node step.drives, all_paths-step nodes below from to)
  where
    le_times : (a b c d : ℕ) → a ≤ b → c ≤ d → a * c ≤ b * d
    le_times a b c d h k = grind arith

-- what an object reaches goes on to what a node drives from it
pub reaches-step : (design : FlatDesign) → ∥ KeepsRules design ∥₁ → (from middle to : ℕ) → reaches design from middle ≡ true → has (successors design middle) to ≡ true → reaches design from to ≡ true
reaches-step design rules from middle to had drives =
    ∥∥₁_elim rules (Bool-set _ _)
    (λ kept. lt-ltb 0 (paths design from to)
    (paths-step design.nodes kept.ranked from middle to (successor-step design middle to drives) (ltb-true 0 (paths design from middle) had)))

-- A closed set

some_output : (test : ℕ → Bool) (xs : List ℕ) → list_any test xs ≡ true → (x : ℕ) × (has xs x ≡ true) × (test x ≡ true)
some_output test [] e = absurd (cc)
some_output test (y ∷ ys) e =
    elim (or_cases (test y) (list_any test ys) e) [
      | inl here ↦ (y, or_left (nat_eq y y) (has ys y) (eq-eqb y y refl), here)
      | inr there ↦ let r = some_output test ys there in (r.0, or_right (nat_eq y r.0) (has ys r.0) r.1, r.2)
    ]

-- from an object of a set that is closed over some nodes, these lead only to objects of the set
forward : (nodes : List FlatNode) (objects : List ℕ) → ((from to : ℕ) → has objects from ≡ true → IsStep nodes from to → has objects to ≡ true) →
    (from net : ℕ) → has objects from ≡ true → reaches_in nodes net from ≡ true → has objects net ≡ true
forward [] objects closed from net there reached = ap (has objects) (sym (eqb-true from net reached)) ∙ there
forward (node ∷ rest) objects closed from net there reached =
    let later : (one to : ℕ) → has objects one ≡ true → IsStep rest one to → has objects to ≡ true =
    λ one to is step. closed one to is (record { number = suc step.number; node = step.node; is = step.is; reads = step.reads; drives = step.drives }) in
    elim (or_cases (reaches_in rest net from) (has node.inputs from && list_any (reaches_in rest net) node.outputs) reached) [
      | inl past ↦ forward rest objects later from net there past
      | inr through ↦
          let parts = and_parts (has node.inputs from) (list_any (reaches_in rest net) node.outputs) through in
          let output = some_output (reaches_in rest net) node.outputs parts.1 in
          forward rest objects later output.0 net (closed from output.0 there (record { number = 0; node = node; is = refl; reads = parts.0; drives = output.1 })) output.2
    ]

-- a closed set has with each object all that this reaches
pub closed-reaches : (design : FlatDesign) → ∥ KeepsRules design ∥₁ → (objects : List ℕ) → IsClosed design objects → (from to : ℕ) → has objects from ≡ true → reaches design from to ≡ true →
    has objects to ≡ true
closed-reaches design rules objects closed from to there reached =
    ∥∥₁_elim rules (Bool-set _ _)
    (λ kept. forward design.nodes objects (λ one other is step. closed one other is (step-successor design one other step)) from to there
    (reaches_in-paths design.nodes kept.ranked from to ∙ reached))

-- Objects that no node reads

some_reader : (design : FlatDesign) (object number : ℕ) (node : Option FlatNode) → slice_get design.nodes number ≡ node → reads object node ≡ true → SomeNodeReads design object
some_reader design object number None at is_read = absurd (cc)
some_reader design object number (Some node) at is_read = record { number = number; node = node; is = at; reads = is_read }

-- the first of the readers reads it
pub read-some : (design : FlatDesign) (object : ℕ) (readers : List NodeId) → map node_number readers ≡ readers_of design object → not (nat_eq (length readers) 0) ≡ true → SomeNodeReads design object
read-some design object [] are some = absurd (cc)
read-some design object (reader ∷ rest) are some =
    let first : has (node_number reader ∷ map node_number rest) (node_number reader) ≡ true =
    or_left (nat_eq (node_number reader) (node_number reader)) (has (map node_number rest) (node_number reader)) (eq-eqb (node_number reader) (node_number reader) refl) in
    some_reader design object (node_number reader) (slice_get design.nodes (node_number reader)) refl
    (sym (has-readers_of design object (node_number reader)) ∙ ap (λ l. has l (node_number reader)) (sym are) ∙ first)

-- two tests that hold together are one
pub bools_agree : (a b : Bool) → (a ≡ true → b ≡ true) → (b ≡ true → a ≡ true) → a ≡ b
bools_agree true b f g = sym (f refl)
bools_agree false true f g = g refl
bools_agree false false f g = refl

-- where there is none, the object reaches itself alone
pub read-none : (design : FlatDesign) → ∥ KeepsRules design ∥₁ → (object : ℕ) (readers : List NodeId) → map node_number readers ≡ readers_of design object → not (nat_eq (length readers) 0) ≡ false →
    (other : ℕ) → reaches design object other ≡ nat_eq object other
read-none design rules object [] are none other =
    bools_agree (reaches design object other) (nat_eq object other)
    (λ reached. sym (or-false (nat_eq object other))
    ∙ closed-reaches design rules (object ∷ []) closed object other (or_left (nat_eq object object) false (eq-eqb object object refl)) reached)
    (λ same. subst (λ x. reaches design object x ≡ true) (eqb-true object other same) (reaches-itself design object))
  where
    closed : (from to : ℕ) → has (object ∷ []) from ≡ true → has (successors design from) to ≡ true → has (object ∷ []) to ≡ true
    closed from to there drives =
        let is : object ≡ from = eqb-true object from (sym (or-false (nat_eq object from)) ∙ there) in
        absurd (both_ways (has (successors design from) to)
        (ap (λ x. has (successors design x) to) (sym is) ∙ ap (λ l. has (flat_map (outputs_at design) l) to) (sym are)) drives)
read-none design rules object (reader ∷ rest) are none other =
    absurd (let e : suc (length rest) ≡ 0 = eqb-true (suc (length rest)) 0 (not-false (nat_eq (suc (length rest)) 0) none) in omega arith)
