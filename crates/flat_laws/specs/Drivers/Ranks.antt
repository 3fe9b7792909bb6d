-- The ranks of nodes through which no object reaches itself: a node that feeds another has a lesser rank, and so by rank each node stands behind all that feed it
-- (own: the nodes of a design are acyclic; IEEE 1364-2001, clause 6 and clause 7, allows loops of nets).
use Rattle.std.proofs.Common.{◌≡◌, ℕ, zero, suc, ◌+◌, ◌<◌, ◌≤◌, max, Bool, true, false, List, [], ◌∷◌, ◌++◌, length, map, Some, None, refl, ap, sym, ◌∙◌, subst, inl, inr, ◌⊎◌, arith}
use Rattle.std.specs.Prelude.{nat_eq, slice_get, filter, flat_map, fold}
use Rattle.std.specs.List.{IsDistinct, AllByRecursion, list_any}
use Rattle.std.specs.List.Sorted.{IsPermutation}
use Rattle.std.proofs.lemmas.Bool.{cases_Bool, cases_lt, cases_eq, both_ways, or_cases, or_left, or_right, eq-eqb, ne_eqb, eqb-true, cond-true, cond-false}
use Rattle.std.proofs.lemmas.List.Sorted.{IsPermutation-sym, length_permutation}
use Rattle.std.proofs.lemmas.Map.Steps.{length-le_from_distinct_below}
use Rattle.std.proofs.lemmas.Option.{slice_get_within}
use Rattle.vf_base.specs.Lists.{has, AllHold}
use Rattle.v_design.specs.Expressions.{up_from}
use Rattle.v_design.specs.Designs.{FlatNode, FlatDesign}
use Rattle.v_design.specs.WellFormed.{feeds, rank_within, AreBelow, AreByRank}
use Rattle.vf_base.specs.Lists.{greatest}
use Rattle.graph_order.specs.Greatest.{greatest-le, le-greatest}
use Rattle.graph_order.specs.ListLaws.{AllHold-slice_get, AllHold-has, has-append}
use Rattle.net_graph.specs.Loops.{IsStep, IsPath}
use Rattle.v_elab.specs.Ranks.{outputs_reading, reached, reaches_itself, first_of, least_loop, rank_among, by_rank}
use Rattle.flat_laws.specs.Lists.{same_some, AllHold-from, filter-at, at-filter, map-at, at-map, at-permutation, by_number-permutation, by_number-sorted}

-- Numbers that pass a test

any-from : (test : ℕ → Bool) (xs : List ℕ) (x : ℕ) → has xs x ≡ true → test x ≡ true → list_any test xs ≡ true
any-from test [] x e h = absurd (cc)
any-from test (y ∷ xs) x e h =
    elim (or_cases (nat_eq y x) (has xs x) e) [
      | inl same ↦ or_left (test y) (list_any test xs) (ap test (eqb-true y x same) ∙ h)
      | inr there ↦ or_right (test y) (list_any test xs) (any-from test xs x there h)
    ]

pub any-at : (test : ℕ → Bool) (xs : List ℕ) → list_any test xs ≡ true → (x : ℕ) × (has xs x ≡ true) × (test x ≡ true)
any-at test [] e = absurd (cc)
any-at test (y ∷ xs) e =
    elim (or_cases (test y) (list_any test xs) e) [
      | inl here ↦ (y, or_left (nat_eq y y) (has xs y) (eq-eqb y y refl), here)
      | inr there ↦ let r = any-at test xs there in (r.0, or_right (nat_eq y r.0) (has xs r.0) r.1, r.2)
    ]

-- the greatest of some numbers is one of them, unless it is 0
greatest_from : (a : ℕ) (xs : List ℕ) → (fold max a xs ≡ a) ⊎ (has xs (fold max a xs) ≡ true)
greatest_from a [] = inl refl
greatest_from a (x ∷ xs) =
    elim (greatest_from (max a x) xs) [
      | inl same ↦ elim (cases_lt a x) [
        | inl less ↦ inr (or_left (nat_eq x (fold max (max a x) xs)) (has xs (fold max (max a x) xs)) (eq-eqb x (fold max (max a x) xs) (let m : max a x ≡ x = omega arith in sym (same ∙ m))))
        | inr more ↦ inl (let m : max a x ≡ a = omega arith in same ∙ m)
      ]
      | inr there ↦ inr (or_right (nat_eq x (fold max (max a x) xs)) (has xs (fold max (max a x) xs)) there)
    ]

greatest-there : (xs : List ℕ) → 0 < greatest xs → has xs (greatest xs) ≡ true
greatest-there xs h = elim (greatest_from 0 xs) [ inl none ↦ absurd (omega arith) | inr there ↦ there ]

-- Objects that reach themselves

outputs-have : (nodes : List FlatNode) (i : ℕ) (node : FlatNode) (o : ℕ) → slice_get nodes i ≡ Some node → has node.outputs o ≡ true → has (flat_map (λ (n : FlatNode). n.outputs) nodes) o ≡ true
outputs-have [] i node o at e = absurd (cc)
outputs-have (n ∷ nodes) zero node o at e =
    has-append n.outputs (flat_map (λ (m : FlatNode). m.outputs) nodes) o
    ∙ or_left (has n.outputs o) (has (flat_map (λ (m : FlatNode). m.outputs) nodes) o) (ap (λ (m : FlatNode). has m.outputs o) (same_some n node at) ∙ e)
outputs-have (n ∷ nodes) (suc i) node o at e =
    has-append n.outputs (flat_map (λ (m : FlatNode). m.outputs) nodes) o
    ∙ or_right (has n.outputs o) (has (flat_map (λ (m : FlatNode). m.outputs) nodes) o) (outputs-have nodes i node o at e)

step-read : (nodes : List FlatNode) (objects : List ℕ) (from to : ℕ) → IsStep nodes from to → has objects from ≡ true → has (outputs_reading objects nodes) to ≡ true
step-read nodes objects from to step held =
    let kept = filter-at (λ (n : FlatNode). list_any (has objects) n.inputs) nodes step.number step.node step.is (any-from (has objects) step.node.inputs from step.reads held) in
    outputs-have (filter (λ (n : FlatNode). list_any (has objects) n.inputs) nodes) kept.0 step.node to kept.1 step.drives

-- what a path leads to is reached through as many nodes
pub path-reached : (nodes : List FlatNode) (steps : ℕ) (objects : List ℕ) (from : ℕ) (between : List ℕ) (to : ℕ) → IsPath nodes from between to → length between < steps → has objects from ≡ true →
    has (reached steps nodes objects) to ≡ true
path-reached nodes zero objects from between to path low held = absurd (omega (arith, low))
path-reached nodes (suc steps) objects from [] to path low held =
    let next = outputs_reading objects nodes in
    has-append next (reached steps nodes next) to ∙ or_left (has next to) (has (reached steps nodes next) to) (step-read nodes objects from to path held)
path-reached nodes (suc steps) objects from (middle ∷ rest) to path low held =
    let next = outputs_reading objects nodes in
    has-append next (reached steps nodes next) to
    ∙ or_right (has next to) (has (reached steps nodes next) to) (path-reached nodes steps next middle rest to path.1 (omega (arith, low)) (step-read nodes objects from middle path.0 held))

first_of-none : (xs : List ℕ) → first_of xs ≡ None → xs ≡ []
first_of-none [] e = refl
first_of-none (x ∷ xs) e = absurd (cc)

none-passes : (test : ℕ → Bool) (start count : ℕ) → filter test (up_from start count) ≡ [] → (o : ℕ) → start ≤ o → o < start + count → test o ≡ false
none-passes test start zero e o low high = absurd (omega (arith, low, high))
none-passes test start (suc count) e o low high =
    elim (cases_Bool (test start)) [
      | inl passes ↦
          let is : start ∷ filter test (up_from (start + 1) count) ≡ [] =
          sym (cond-true (test start) (start ∷ filter test (up_from (start + 1) count)) (filter test (up_from (start + 1) count)) passes) ∙ e in
          absurd (cc)
      | inr fails ↦
          let rest : filter test (up_from (start + 1) count) ≡ [] =
          sym (cond-false (test start) (start ∷ filter test (up_from (start + 1) count)) (filter test (up_from (start + 1) count)) fails) ∙ e in
          elim (cases_eq start o) [
            | inl same ↦ ap test (sym same) ∙ fails
            | inr other ↦ none-passes test (start + 1) count rest o (omega (arith, low, other)) (omega (arith, high))
          ]
    ]

-- no object of so many reaches itself through as many nodes as there are
abbrev pub NoneLoops : ℕ → List FlatNode → Type 0
NoneLoops objects nodes = (object : ℕ) → object < objects → (between : List ℕ) → IsPath nodes object between object → length between < length nodes → ⊥

pub none-loops : (objects : ℕ) (nodes : List FlatNode) → least_loop objects nodes ≡ None → NoneLoops objects nodes
none-loops objects nodes e object low between path short =
    both_ways (reaches_itself nodes object)
    (none-passes (reaches_itself nodes) 0 objects (first_of-none (filter (reaches_itself nodes) (up_from 0 objects)) e) object (omega arith) (omega (arith, low)))
    (path-reached nodes (length nodes) (object ∷ []) object between object path short (or_left (nat_eq object object) false (eq-eqb object object refl)))

-- Ranks, looking back over so many nodes

-- a node stands above each that feeds it
rank-fed : (depth : ℕ) (nodes : List FlatNode) (j : ℕ) (driver node : FlatNode) → slice_get nodes j ≡ Some driver → feeds driver node ≡ true →
    suc (rank_within depth nodes driver) ≤ rank_within (suc depth) nodes node
rank-fed depth nodes j driver node at e =
    let kept = filter-at (λ (other : FlatNode). feeds other node) nodes j driver at e in
    le-greatest (map (λ (other : FlatNode). suc (rank_within depth nodes other)) (filter (λ (other : FlatNode). feeds other node) nodes)) (suc (rank_within depth nodes driver))
    (map-at (λ (other : FlatNode). suc (rank_within depth nodes other)) (filter (λ (other : FlatNode). feeds other node) nodes) kept.0 driver kept.1)

-- a node that feeds another, with the rank that it gives
record Feeder (depth : ℕ) (nodes : List FlatNode) (node : FlatNode) (rank : ℕ) : Type 0 where
  number : ℕ
  driver : FlatNode
  is : slice_get nodes number ≡ Some driver
  feeding : feeds driver node ≡ true
  gives : suc (rank_within depth nodes driver) ≡ rank

feeder-of : (depth : ℕ) (nodes : List FlatNode) (node : FlatNode) (rank : ℕ) → has (map (λ (other : FlatNode). suc (rank_within depth nodes other))
    (filter (λ (other : FlatNode). feeds other node) nodes)) rank ≡ true →
    Feeder depth nodes node rank
feeder-of depth nodes node rank e =
    let r = at-map (λ (other : FlatNode). suc (rank_within depth nodes other)) (filter (λ (other : FlatNode). feeds other node) nodes) rank e in
    let s = at-filter (λ (other : FlatNode). feeds other node) nodes r.0 r.1 r.2 in
    record { number = s.0; driver = r.1; is = s.1; feeding = s.2; gives = r.3 }

-- a node that isn't at rank 0 has its rank from one that feeds it
rank-feeder : (depth : ℕ) (nodes : List FlatNode) (node : FlatNode) → 0 < rank_within (suc depth) nodes node → Feeder depth nodes node (rank_within (suc depth) nodes node)
rank-feeder depth nodes node deep =
    feeder-of depth nodes node (rank_within (suc depth) nodes node)
    (greatest-there (map (λ (other : FlatNode). suc (rank_within depth nodes other)) (filter (λ (other : FlatNode). feeds other node) nodes)) deep)

-- a rank is at most what each node that feeds it gives
rank-at_most : (depth : ℕ) (nodes : List FlatNode) (node : FlatNode) (most : ℕ) → ((rank : ℕ) → Feeder depth nodes node rank → rank ≤ most) → rank_within (suc depth) nodes node ≤ most
rank-at_most depth nodes node most each =
    greatest-le most (map (λ (other : FlatNode). suc (rank_within depth nodes other)) (filter (λ (other : FlatNode). feeds other node) nodes)) (λ rank e. each rank (feeder-of depth nodes node rank e))

rank-le : (depth : ℕ) (nodes : List FlatNode) (node : FlatNode) → rank_within depth nodes node ≤ depth
rank-le zero nodes node = omega arith
rank-le (suc depth) nodes node = rank-at_most depth nodes node (suc depth) (λ rank f. let low = rank-le depth nodes f.driver in omega (arith, f.gives, low))

rank-more : (depth : ℕ) (nodes : List FlatNode) (node : FlatNode) → rank_within depth nodes node ≤ rank_within (suc depth) nodes node
rank-more zero nodes node = omega arith
rank-more (suc depth) nodes node =
    rank-at_most depth nodes node (rank_within (suc (suc depth)) nodes node)
    (λ rank f. let low = rank-more depth nodes f.driver in let up = rank-fed (suc depth) nodes f.number f.driver node f.is f.feeding in omega (arith, f.gives, low, up))

-- looking back once more changes nothing, unless all the steps were needed
rank-stable : (depth : ℕ) (nodes : List FlatNode) (node : FlatNode) → (rank_within (suc depth) nodes node ≡ rank_within depth nodes node) ⊎ (rank_within (suc depth) nodes node ≡ suc depth)
rank-stable zero nodes node =
    elim (cases_lt 0 (rank_within 1 nodes node)) [
      | inl deep ↦ inr (let low = rank-le 1 nodes node in omega (arith, deep, low))
      | inr none ↦ inl (let r : rank_within 0 nodes node ≡ 0 = refl in omega (arith, none, r))
    ]
rank-stable (suc depth) nodes node =
    elim (cases_lt (suc depth) (rank_within (suc (suc depth)) nodes node)) [
      | inl full ↦ inr (let low = rank-le (suc (suc depth)) nodes node in omega (arith, full, low))
      | inr few ↦
          let most : rank_within (suc (suc depth)) nodes node ≤ rank_within (suc depth) nodes node =
          rank-at_most (suc depth) nodes node (rank_within (suc depth) nodes node)
          (λ rank f.
          elim (rank-stable depth nodes f.driver) [
            | inl same ↦ let up = rank-fed depth nodes f.number f.driver node f.is f.feeding in omega (arith, f.gives, same, up)
            | inr high ↦ let up = rank-fed (suc depth) nodes f.number f.driver node f.is f.feeding in absurd (omega (arith, high, up, few))
          ]) in
          inl (let least = rank-more (suc depth) nodes node in omega (arith, most, least))
    ]

-- over nodes that all stand among others
rank-among : (xs ys : List FlatNode) → ((i : ℕ) (x : FlatNode) → slice_get xs i ≡ Some x → (j : ℕ) × (slice_get ys j ≡ Some x)) → (depth : ℕ) (node : FlatNode) →
    rank_within depth xs node ≤ rank_within depth ys node
rank-among xs ys among zero node = omega arith
rank-among xs ys among (suc depth) node =
    rank-at_most depth xs node (rank_within (suc depth) ys node)
    (λ rank f.
    let there = among f.number f.driver f.is in
    let up = rank-fed depth ys there.0 f.driver node there.1 f.feeding in
    let low = rank-among xs ys among depth f.driver in omega (arith, f.gives, up, low))

-- Chains of nodes, each of which feeds the next

-- from an output of one node to each output of another, through few nodes
record Leads (objects : ℕ) (nodes : List FlatNode) (most from to : ℕ) : Type 0 where
  node : FlatNode
  object : ℕ
  among : object < objects
  is : slice_get nodes from ≡ Some node
  drives : has node.outputs object ≡ true
  onward : (last : FlatNode) (output : ℕ) → slice_get nodes to ≡ Some last → has last.outputs output ≡ true → (between : List ℕ) × IsPath nodes object between output × (length between < most)

path-more : (nodes : List FlatNode) (from : ℕ) (between : List ℕ) (middle to : ℕ) → IsPath nodes from between middle → IsStep nodes middle to → IsPath nodes from (between ++ middle ∷ []) to
path-more nodes from [] middle to path step = (path, step)
path-more nodes from (next ∷ rest) middle to path step = (path.0, path-more nodes next rest middle to path.1 step)

length-more : (between : List ℕ) (middle : ℕ) → length (between ++ middle ∷ []) ≡ suc (length between)
length-more [] middle = refl
length-more (next ∷ rest) middle = ap suc (length-more rest middle)

abbrev InputsAmong : ℕ → List FlatNode → Type 0
InputsAmong objects nodes = AllHold (λ (node : FlatNode). AllHold (λ object. object < objects) node.inputs) nodes

input-among : (objects : ℕ) (nodes : List FlatNode) → InputsAmong objects nodes → (k : ℕ) (node : FlatNode) (o : ℕ) → slice_get nodes k ≡ Some node → has node.inputs o ≡ true → o < objects
input-among objects nodes among k node o at e =
    AllHold-has (λ object. object < objects) node.inputs o (AllHold-slice_get (λ (other : FlatNode). AllHold (λ object. object < objects) other.inputs) nodes k node among at) e

step-of : (nodes : List FlatNode) (k : ℕ) (node last : FlatNode) (from to : ℕ) → slice_get nodes k ≡ Some node → slice_get nodes k ≡ Some last → has node.inputs from ≡ true →
    has last.outputs to ≡ true → IsStep nodes from to
step-of nodes k node last from to at again reads drives =
    record { number = k; node = node; is = at; reads = reads; drives = ap (λ (n : FlatNode). has n.outputs to) (same_some node last (sym at ∙ again)) ∙ drives }

-- a node leads to the one that it feeds
leads-one : (objects : ℕ) (nodes : List FlatNode) → InputsAmong objects nodes → (most j k : ℕ) (driver node : FlatNode) → slice_get nodes j ≡ Some driver → slice_get nodes k ≡ Some node →
    feeds driver node ≡ true → Leads objects nodes (suc most) j k
leads-one objects nodes among most j k driver node at_j at_k e =
    let over = any-at (has node.inputs) driver.outputs e in
    record {
      node = driver;
      object = over.0;
      among = input-among objects nodes among k node over.0 at_k over.2;
      is = at_j;
      drives = over.1;
      onward = λ last output at held. ([], step-of nodes k node last over.0 output at_k at over.2 held, omega arith);
    }

-- and so does a node that leads to it
leads-more : (objects : ℕ) (nodes : List FlatNode) (most p j k : ℕ) (driver node : FlatNode) → slice_get nodes j ≡ Some driver → slice_get nodes k ≡ Some node → feeds driver node ≡ true →
    Leads objects nodes most p j →
    Leads objects nodes (suc most) p k
leads-more objects nodes most p j k driver node at_j at_k e first =
    let over = any-at (has node.inputs) driver.outputs e in
    let way = first.onward driver over.0 at_j over.1 in
    record {
      node = first.node;
      object = first.object;
      among = first.among;
      is = first.is;
      drives = first.drives;
      onward = λ last output at held.
          (way.0 ++ over.0 ∷ [], path-more nodes first.object way.0 over.0 output way.1 (step-of nodes k node last over.0 output at_k at over.2 held), omega (arith, length-more way.0 over.0, way.2));
    }

-- no node leads to itself through few nodes
leads-apart : (objects : ℕ) (nodes : List FlatNode) → NoneLoops objects nodes → (most p k : ℕ) → most ≤ length nodes → Leads objects nodes most p k → k ≡ p → ⊥
leads-apart objects nodes none most p k few way same =
    let circle = way.onward way.node way.object (ap (slice_get nodes) same ∙ way.is) way.drives in
    none way.object way.among circle.0 circle.1 (omega (arith, circle.2, few))

record Chain (objects : ℕ) (nodes : List FlatNode) (most last : ℕ) : Type 0 where
  steps : List ℕ
  long : length steps ≡ suc most
  distinct : IsDistinct nat_eq steps
  are_nodes : (p : ℕ) → has steps p ≡ true → p < length nodes
  leads : (p : ℕ) → has steps p ≡ true → (p ≡ last) ⊎ Leads objects nodes most p last

apart-all : (v : ℕ) (path : List ℕ) → ((p : ℕ) → has path p ≡ true → v ≡ p → ⊥) → AllByRecursion (λ y. nat_eq v y ≡ false) path
apart-all v [] other = tt
apart-all v (x ∷ path) other = (ne_eqb v x (other x (or_left (nat_eq x x) (has path x) (eq-eqb x x refl))), apart-all v path (λ p e. other p (or_right (nat_eq x p) (has path p) e)))

pub any-has : (path : List ℕ) (q : ℕ) → list_any (nat_eq q) path ≡ true → has path q ≡ true
any-has [] q e = absurd (cc)
any-has (x ∷ path) q e =
    elim (or_cases (nat_eq q x) (list_any (nat_eq q) path) e) [
      | inl same ↦ or_left (nat_eq x q) (has path q) (eq-eqb x q (sym (eqb-true q x same)))
      | inr there ↦ or_right (nat_eq x q) (has path q) (any-has path q there)
    ]

chain-start : (objects : ℕ) (nodes : List FlatNode) (k : ℕ) (node : FlatNode) → slice_get nodes k ≡ Some node → Chain objects nodes 0 k
unfolding IsDistinct
chain-start objects nodes k node at = record {
  steps = k ∷ [];
  long = refl;
  distinct = (tt, tt);
  are_nodes = λ p e. elim (or_cases (nat_eq k p) false e) [ inl same ↦ omega (arith, eqb-true k p same, slice_get_within nodes k node at) | inr none ↦ absurd (cc) ];
  leads = λ p e. elim (or_cases (nat_eq k p) false e) [ inl same ↦ inl (sym (eqb-true k p same)) | inr none ↦ absurd (cc) ];
}

chain-more : (objects : ℕ) (nodes : List FlatNode) → NoneLoops objects nodes → InputsAmong objects nodes → (most j k : ℕ) (driver node : FlatNode) → suc most ≤ length nodes →
    slice_get nodes j ≡ Some driver →
    slice_get nodes k ≡ Some node → feeds driver node ≡ true → Chain objects nodes most j → Chain objects nodes (suc most) k
unfolding IsDistinct
chain-more objects nodes none among most j k driver node few at_j at_k e below = record {
  steps = k ∷ below.steps;
  long = ap suc below.long;
  distinct = (apart-all k below.steps (λ p held same. leads-apart objects nodes none (suc most) p k few (onward p held) same), below.distinct);
  are_nodes = λ p held. elim (or_cases (nat_eq k p) (has below.steps p) held) [
    | inl same ↦ omega (arith, eqb-true k p same, slice_get_within nodes k node at_k)
    | inr there ↦ below.are_nodes p there
  ];
  leads = λ p held. elim (or_cases (nat_eq k p) (has below.steps p) held) [ inl same ↦ inl (sym (eqb-true k p same)) | inr there ↦ inr (onward p there) ];
}
  where
    onward : (p : ℕ) → has below.steps p ≡ true → Leads objects nodes (suc most) p k
    onward p held =
        elim (below.leads p held) [
          | inl same ↦ leads-one objects nodes among most p k driver node (ap (slice_get nodes) same ∙ at_j) at_k e
          | inr way ↦ leads-more objects nodes most p j k driver node at_j at_k e way
        ]

-- behind a rank stands a chain of as many nodes
chain-of : (objects : ℕ) (nodes : List FlatNode) → NoneLoops objects nodes → InputsAmong objects nodes → (most k : ℕ) (node : FlatNode) → most ≤ length nodes → slice_get nodes k ≡ Some node →
    rank_within most nodes node ≡ most →
    Chain objects nodes most k
chain-of objects nodes none among zero k node few at is = chain-start objects nodes k node at
chain-of objects nodes none among (suc most) k node few at is =
    let f = rank-feeder most nodes node (omega (arith, is)) in
    let rank : rank_within most nodes f.driver ≡ most = omega (arith, f.gives, is) in
    chain-more objects nodes none among most f.number k f.driver node few f.is at f.feeding (chain-of objects nodes none among most f.number f.driver (omega (arith, few)) f.is rank)

-- Acyclic nodes

-- the nodes of so many objects, none of which reaches itself
pub record AreAcyclic (objects : ℕ) (nodes : List FlatNode) : Type 0 where
  pub none : least_loop objects nodes ≡ None
  pub among : AllHold (λ (node : FlatNode). AllHold (λ object. object < objects) node.inputs) nodes

-- a rank is less than the number of nodes
pub rank-below : (objects : ℕ) (nodes : List FlatNode) → AreAcyclic objects nodes → (k : ℕ) (node : FlatNode) → slice_get nodes k ≡ Some node → rank_among nodes node < length nodes
rank-below objects nodes are k node at =
    elim (cases_lt (rank_among nodes node) (length nodes)) [
      | inl low ↦ low
      | inr high ↦
          let is : rank_within (length nodes) nodes node ≡ length nodes = let low = rank-le (length nodes) nodes node in omega (arith, low, high) in
          let way = chain-of objects nodes (none-loops objects nodes are.none) are.among (length nodes) k node (omega arith) at is in
          let few : length way.steps ≤ length nodes = length-le_from_distinct_below way.steps (length nodes) way.distinct (λ q e. way.are_nodes q (any-has way.steps q e)) in
          absurd (omega (arith, way.long, few))
    ]

-- a node that feeds another has a lesser rank
pub rank-above : (objects : ℕ) (nodes : List FlatNode) → AreAcyclic objects nodes → (j k : ℕ) (driver node : FlatNode) → slice_get nodes j ≡ Some driver → slice_get nodes k ≡ Some node →
    feeds driver node ≡ true →
    rank_among nodes driver < rank_among nodes node
rank-above objects nodes are j k driver node at_j at_k e =
    let up : suc (rank_among nodes driver) ≤ rank_within (suc (length nodes)) nodes node = rank-fed (length nodes) nodes j driver node at_j e in
    elim (rank-stable (length nodes) nodes node) [
      | inl same ↦ omega (arith, same, up)
      | inr full ↦
          let f = rank-feeder (length nodes) nodes node (omega (arith, full)) in
          let low : rank_within (length nodes) nodes f.driver < length nodes = rank-below objects nodes are f.number f.driver f.is in
          absurd (omega (arith, f.gives, full, low))
    ]

-- Nodes by rank

-- they are the same nodes in another order
pub by_rank-permutation : (objects : ℕ) (nodes : List FlatNode) → AreAcyclic objects nodes → IsPermutation nodes (by_rank nodes)
by_rank-permutation objects nodes are =
    by_number-permutation (rank_among nodes) 0 (length nodes) nodes
    (AllHold-from (λ node. (0 ≤ rank_among nodes node) × (rank_among nodes node < 0 + length nodes)) nodes
    (λ k node at. let low = rank-below objects nodes are k node at in (omega arith, omega (arith, low))))

-- no node reads what a later one drives, or it itself
pub by_rank-below : (objects : ℕ) (nodes : List FlatNode) → AreAcyclic objects nodes → AreBelow (by_rank nodes)
by_rank-below objects nodes are low high reader driver at_low at_high before object drives =
    elim (cases_Bool (has reader.inputs object)) [
      | inl reads ↦
          let moved = IsPermutation-sym nodes (by_rank nodes) (by_rank-permutation objects nodes are) in
          let one = at-permutation (by_rank nodes) nodes moved low reader at_low in
          let other = at-permutation (by_rank nodes) nodes moved high driver at_high in
          let less = rank-above objects nodes are other.0 one.0 driver reader other.1 one.1 (any-from (has reader.inputs) driver.outputs object drives reads) in
          let sorted : rank_among nodes reader ≤ rank_among nodes driver = by_number-sorted (rank_among nodes) 0 (length nodes) nodes low high reader driver at_low at_high before in
          absurd (omega (arith, less, sorted))
      | inr none ↦ none
    ]

-- ranks are the same in that order
pub by_rank-rank : (objects : ℕ) (nodes : List FlatNode) → AreAcyclic objects nodes → (node : FlatNode) → rank_within (length (by_rank nodes)) (by_rank nodes) node ≡ rank_among nodes node
by_rank-rank objects nodes are node =
    let moved = by_rank-permutation objects nodes are in
    let back = IsPermutation-sym nodes (by_rank nodes) moved in
    let one : rank_within (length nodes) (by_rank nodes) node ≤ rank_within (length nodes) nodes node =
    rank-among (by_rank nodes) nodes (at-permutation (by_rank nodes) nodes back) (length nodes) node in
    let other : rank_within (length nodes) nodes node ≤ rank_within (length nodes) (by_rank nodes) node =
    rank-among nodes (by_rank nodes) (at-permutation nodes (by_rank nodes) moved) (length nodes) node in
    let same : rank_within (length nodes) (by_rank nodes) node ≡ rank_within (length nodes) nodes node = omega (arith, one, other) in
    ap (λ depth. rank_within depth (by_rank nodes) node) (length_permutation nodes (by_rank nodes) moved) ∙ same

-- the nodes of a design stand by rank
pub by_rank-sorted : (objects : ℕ) (nodes : List FlatNode) → AreAcyclic objects nodes → (design : FlatDesign) → by_rank nodes ≡ design.nodes → AreByRank design
by_rank-sorted objects nodes are design is =
    let P : List FlatNode → Type 0 = λ all.
    (low high : ℕ) (one other : FlatNode) → slice_get all low ≡ Some one → slice_get all high ≡ Some other → low ≤ high → rank_within (length all) all one ≤ rank_within (length all) all other in
    subst P is
    (λ low high one other at_low at_high before.
    let sorted : rank_among nodes one ≤ rank_among nodes other = by_number-sorted (rank_among nodes) 0 (length nodes) nodes low high one other at_low at_high before in
    let first = by_rank-rank objects nodes are one in
    let second = by_rank-rank objects nodes are other in
    omega (arith, sorted, first, second))
