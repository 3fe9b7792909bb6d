-- The ranks of nodes from the depths of the vertices of their graph (continuous assignments and gates of IEEE 1364-2001, clause 6 and clause 7).
use Rattle.std.proofs.Common.{◌≡◌, ℕ, zero, suc, ◌+◌, ◌<◌, ◌≤◌, min, max, Bool, true, false, List, [], ◌∷◌, ◌++◌, length, get_or, take, map, refl, ap, sym, ◌∙◌, inl, inr, arith}
use Rattle.std.specs.Prelude.{nat_eq, ◌⊎◌, Some, slice_get, filter, fold}
use Rattle.std.specs.List.{IsDistinct, AllByRecursion, list_any}
use Rattle.std.proofs.lemmas.Bool.{cases_Bool, cases_lt, both_ways, or_cases, or_left, or_right, eq-eqb, ne_eqb, eqb-true, lt-ltb, le-ltb, cond-true, cond-false}
use Rattle.std.proofs.lemmas.List.{take_more, map_push}
use Rattle.std.proofs.lemmas.Option.{slice_get_within, get_or_from_slice_get}
use Rattle.std.proofs.lemmas.Map.Steps.{length-le_from_distinct_below}
use Rattle.vf_base.specs.Lists.{has, AllHold}
use Rattle.v_design.specs.RulesHold.{rules_hold}
use Rattle.net_graph.specs.RuleLaws.{inputs_are_objects, outputs_are_objects}
use Rattle.v_design.specs.Designs.{FlatNode, FlatDesign}
use Rattle.v_design.specs.WellFormed.{feeds, rank_within, AreBelow, KeepsRules}
use Rattle.vf_base.specs.Lists.{greatest}
use Rattle.graph_order.specs.Digraphs.{needs_of, step_to, depth_over, AreDepths}
use Rattle.graph_order.specs.Greatest.{greatest-le, le-greatest, has-map, map-has}
use Rattle.net_graph.specs.Loops.{IsPath, IsLooping, rank_in, AreAmong}
use Rattle.net_graph.specs.WiringLaws.{IsWiring, driver_node, node_drives, input_among, output_among}

-- The greatest number is one of them

greatest_there : (a : ℕ) (xs : List ℕ) → (fold max a xs ≡ a) ⊎ (has xs (fold max a xs) ≡ true)
greatest_there a [] = inl refl
greatest_there a (x ∷ xs) =
    elim (greatest_there (max a x) xs) [
      | inl same ↦ elim (cases_lt a x) [
        | inl less ↦ inr (or_left (nat_eq x (fold max (max a x) xs)) (has xs (fold max (max a x) xs)) (eq-eqb x (fold max (max a x) xs) (let m : max a x ≡ x = omega arith in sym (same ∙ m))))
        | inr more ↦ inl (let m : max a x ≡ a = omega arith in same ∙ m)
      ]
      | inr there ↦ inr (or_right (nat_eq x (fold max (max a x) xs)) (has xs (fold max (max a x) xs)) there)
    ]

positive_there : (xs : List ℕ) → 0 < greatest xs → has xs (greatest xs) ≡ true
positive_there xs h = elim (greatest_there 0 xs) [ inl none ↦ absurd (omega arith) | inr there ↦ there ]

-- Over the nodes that pass a test

filtered-le : (test : FlatNode → Bool) (f : FlatNode → ℕ) (b : ℕ) (nodes : List FlatNode) → ((j : ℕ) (n : FlatNode) → slice_get nodes j ≡ Some n → test n ≡ true → f n ≤ b) →
    (m : ℕ) → has (map f (filter test nodes)) m ≡ true → m ≤ b
filtered-le test f b [] each m e = absurd (cc)
filtered-le test f b (n ∷ nodes) each m e =
    elim (cases_Bool (test n)) [
      | inl passes ↦
          elim (or_cases (nat_eq (f n) m) (has (map f (filter test nodes)) m) (ap (λ l. has (map f l) m) (sym (cond-true (test n) (n ∷ filter test nodes) (filter test nodes) passes)) ∙ e)) [
            | inl same ↦ let here : f n ≤ b = each 0 n refl passes in let is : f n ≡ m = eqb-true (f n) m same in omega arith
            | inr there ↦ filtered-le test f b nodes (λ j k at. each (suc j) k at) m there
          ]
      | inr fails ↦
          filtered-le test f b nodes (λ j k at. each (suc j) k at) m (ap (λ l. has (map f l) m) (sym (cond-false (test n) (n ∷ filter test nodes) (filter test nodes) fails)) ∙ e)
    ]

filtered-has : (test : FlatNode → Bool) (f : FlatNode → ℕ) (nodes : List FlatNode) (j : ℕ) (n : FlatNode) → slice_get nodes j ≡ Some n → test n ≡ true → has (map f (filter test nodes)) (f n) ≡ true
filtered-has test f [] j n at passes = absurd (cc)
filtered-has test f (x ∷ nodes) zero n at passes =
    let same : x ≡ n = cc in
    ap (λ l. has (map f l) (f n)) (cond-true (test x) (x ∷ filter test nodes) (filter test nodes) (ap test same ∙ passes))
    ∙ or_left (nat_eq (f x) (f n)) (has (map f (filter test nodes)) (f n)) (eq-eqb (f x) (f n) (ap f same))
filtered-has test f (x ∷ nodes) (suc j) n at passes =
    let there : has (map f (filter test nodes)) (f n) ≡ true = filtered-has test f nodes j n at passes in
    elim (cases_Bool (test x)) [
      | inl here ↦
          ap (λ l. has (map f l) (f n)) (cond-true (test x) (x ∷ filter test nodes) (filter test nodes) here)
          ∙ or_right (nat_eq (f x) (f n)) (has (map f (filter test nodes)) (f n)) there
      | inr other ↦ ap (λ l. has (map f l) (f n)) (cond-false (test x) (x ∷ filter test nodes) (filter test nodes) other) ∙ there
    ]

-- a node feeds another over an object
feeds_over : (driver reader : FlatNode) (o : ℕ) → has driver.outputs o ≡ true → has reader.inputs o ≡ true → feeds driver reader ≡ true
feeds_over driver reader o drives reads = any_from (has reader.inputs) driver.outputs o drives reads
  where
    any_from : (test : ℕ → Bool) (xs : List ℕ) (x : ℕ) → has xs x ≡ true → test x ≡ true → list_any test xs ≡ true
    any_from test [] x e h = absurd (cc)
    any_from test (y ∷ xs) x e h =
        elim (or_cases (nat_eq y x) (has xs x) e) [
          | inl same ↦ or_left (test y) (list_any test xs) (ap test (eqb-true y x same) ∙ h)
          | inr there ↦ or_right (test y) (list_any test xs) (any_from test xs x there h)
        ]

feeds_object : (driver reader : FlatNode) → feeds driver reader ≡ true → (o : ℕ) × (has driver.outputs o ≡ true) × (has reader.inputs o ≡ true)
feeds_object driver reader e = any_at (has reader.inputs) driver.outputs e
  where
    any_at : (test : ℕ → Bool) (xs : List ℕ) → list_any test xs ≡ true → (x : ℕ) × (has xs x ≡ true) × (test x ≡ true)
    any_at test [] e = absurd (cc)
    any_at test (y ∷ xs) e =
        elim (or_cases (test y) (list_any test xs) e) [
          | inl here ↦ (y, or_left (nat_eq y y) (has xs y) (eq-eqb y y refl), here)
          | inr there ↦ let r = any_at test xs there in (r.0, or_right (nat_eq y r.0) (has xs r.0) r.1, r.2)
        ]

-- The depth of a node's vertex

-- a number for each node that is one more than the greatest of those that feed it
pub record AreRanks (nodes : List FlatNode) (rank : ℕ → ℕ) : Type 0 where
  pub above : (j k : ℕ) (driver node : FlatNode) → slice_get nodes j ≡ Some driver → slice_get nodes k ≡ Some node → feeds driver node ≡ true → rank j + 1 ≤ rank k
  pub reached : (k : ℕ) (node : FlatNode) → slice_get nodes k ≡ Some node → 0 < rank k →
      (j : ℕ) × (driver : FlatNode) × (slice_get nodes j ≡ Some driver) × (feeds driver node ≡ true) × (rank j + 1 ≡ rank k)

step_one : (v counted : ℕ) → v < counted → step_to counted v ≡ 1
step_one v counted low = ap (λ b. elim b [ true ↦ 1 | false ↦ 0 ]) (lt-ltb v counted low)

step_none : (v counted : ℕ) → counted ≤ v → step_to counted v ≡ 0
step_none v counted past = ap (λ b. elim b [ true ↦ 1 | false ↦ 0 ]) (le-ltb v counted past)

-- a vertex is at least as deep as each of its needs, and an object deeper
need-le : (needs : List (List ℕ)) (counted : ℕ) (depths : List ℕ) (v d : ℕ) → AreDepths needs counted depths → v < length needs → has (needs_of needs v) d ≡ true →
    get_or depths d 0 + step_to counted v ≤ get_or depths v 0
need-le needs counted depths v d are low needed =
    let term : get_or depths d 0 + step_to counted v ≤ depth_over needs counted depths v =
    le-greatest (map (λ need. get_or depths need 0 + step_to counted v) (needs_of needs v)) (get_or depths d 0 + step_to counted v)
    (has-map (λ need. get_or depths need 0 + step_to counted v) (needs_of needs v) d needed) in
    omega (arith, are v low)

-- a vertex that isn't at depth 0 is as deep as one of its needs says
need-is : (needs : List (List ℕ)) (counted : ℕ) (depths : List ℕ) (v : ℕ) → AreDepths needs counted depths → v < length needs → 0 < get_or depths v 0 →
    (d : ℕ) × (has (needs_of needs v) d ≡ true) × (get_or depths d 0 + step_to counted v ≡ get_or depths v 0)
need-is needs counted depths v are low deep =
    let there : has (map (λ need. get_or depths need 0 + step_to counted v) (needs_of needs v)) (depth_over needs counted depths v) ≡ true =
    positive_there (map (λ need. get_or depths need 0 + step_to counted v) (needs_of needs v)) (omega (arith, are v low)) in
    let r = map-has (λ need. get_or depths need 0 + step_to counted v) (needs_of needs v) (depth_over needs counted depths v) there in
    (r.0, r.1, r.2 ∙ sym (are v low))

-- the depths of the nodes' vertices are the nodes' ranks
pub depths_rank : (objects : ℕ) (nodes : List FlatNode) (needs : List (List ℕ)) (depths : List ℕ) → IsWiring objects nodes needs → AreAmong objects nodes → AreDepths needs objects depths →
    AreRanks nodes (λ k. get_or depths (objects + k) 0)
depths_rank objects nodes needs depths wiring among are = record {
  above = λ j k driver node at_j at_k e.
      let over = feeds_object driver node e in
      let low : over.0 < objects = output_among objects nodes j driver over.0 among at_j over.1 in
      let of_object : get_or depths (objects + j) 0 + step_to objects over.0 ≤ get_or depths over.0 0 =
      need-le needs objects depths over.0 (objects + j) are (omega (arith, wiring.vertices)) (wiring.drivers over.0 (objects + j) low ∙ node_drives objects nodes over.0 j driver at_j over.1) in
      let of_node : get_or depths over.0 0 + step_to objects (objects + k) ≤ get_or depths (objects + k) 0 =
      need-le needs objects depths (objects + k) over.0 are (omega (arith, wiring.vertices, slice_get_within nodes k node at_k)) (ap (λ l. has l over.0) (wiring.inputs k node at_k) ∙ over.2) in
      omega (arith, step_one over.0 objects low);
  reached = λ k node at_k deep.
      let input = need-is needs objects depths (objects + k) are (omega (arith, wiring.vertices, slice_get_within nodes k node at_k)) deep in
      let reads : has node.inputs input.0 ≡ true = ap (λ l. has l input.0) (sym (wiring.inputs k node at_k)) ∙ input.1 in
      let low : input.0 < objects = input_among objects nodes k node input.0 among at_k reads in
      let same_depth : get_or depths input.0 0 ≡ get_or depths (objects + k) 0 = omega (arith, input.2, step_none (objects + k) objects (omega arith)) in
      let by = need-is needs objects depths input.0 are (omega (arith, wiring.vertices)) (omega arith) in
      let driver = driver_node objects nodes input.0 by.0 (sym (wiring.drivers input.0 by.0 low) ∙ by.1) in (
        driver.0,
        driver.1,
        driver.2,
        feeds_over driver.1 node input.0 driver.3 reads,
        (let at : get_or depths by.0 0 ≡ get_or depths (objects + driver.0) 0 = ap (λ v. get_or depths v 0) driver.4 in omega (arith, by.2, step_one input.0 objects low)),
      );
}

-- The rank as it is defined, looking back over so many nodes

pub rank_within-min : (depth : ℕ) (nodes : List FlatNode) (rank : ℕ → ℕ) → AreRanks nodes rank → (k : ℕ) (node : FlatNode) → slice_get nodes k ≡ Some node →
    rank_within depth nodes node ≡ min depth (rank k)
rank_within-min zero nodes rank are k node at = let e : 0 ≡ min 0 (rank k) = omega arith in e
rank_within-min (suc depth) nodes rank are k node at =
    let f : FlatNode → ℕ = λ driver. suc (rank_within depth nodes driver) in
    let drivers : List ℕ = map (λ driver. suc (rank_within depth nodes driver)) (filter (λ driver. feeds driver node) nodes) in
    let at_most : greatest (map (λ driver. suc (rank_within depth nodes driver)) (filter (λ driver. feeds driver node) nodes)) ≤ min (suc depth) (rank k) =
    greatest-le (min (suc depth) (rank k)) (map (λ driver. suc (rank_within depth nodes driver)) (filter (λ driver. feeds driver node) nodes))
    (filtered-le (λ driver. feeds driver node) (λ driver. suc (rank_within depth nodes driver)) (min (suc depth) (rank k)) nodes
    (λ j driver at_j e.
    let over : rank j + 1 ≤ rank k = are.above j k driver node at_j at e in
    let is : rank_within depth nodes driver ≡ min depth (rank j) = rank_within-min depth nodes rank are j driver at_j in omega arith)) in
    elim (cases_lt 0 (rank k)) [
      | inl deep ↦
          let r = are.reached k node at deep in
          let is : rank_within depth nodes r.1 ≡ min depth (rank r.0) = rank_within-min depth nodes rank are r.0 r.1 r.2 in
          let at_least : suc (rank_within depth nodes r.1) ≤ greatest (map (λ driver. suc (rank_within depth nodes driver)) (filter (λ driver. feeds driver node) nodes)) =
          le-greatest (map (λ driver. suc (rank_within depth nodes driver)) (filter (λ driver. feeds driver node) nodes)) (suc (rank_within depth nodes r.1))
          (filtered-has (λ driver. feeds driver node) (λ driver. suc (rank_within depth nodes driver)) nodes r.0 r.1 r.2 r.3) in
          omega (arith, r.4)
      | inr none ↦ omega arith
    ]

-- A rank is less than the number of nodes

-- nodes of all ranks down to 0
record Descent (nodes : List FlatNode) (rank : ℕ → ℕ) (most : ℕ) : Type 0 where
  steps : List ℕ
  long : length steps ≡ suc most
  distinct : IsDistinct nat_eq steps
  low : (p : ℕ) → has steps p ≡ true → rank p ≤ most
  are_nodes : (p : ℕ) → has steps p ≡ true → p < length nodes

apart_all : (v : ℕ) (path : List ℕ) → ((p : ℕ) → has path p ≡ true → v ≡ p → ⊥) → AllByRecursion (λ y. nat_eq v y ≡ false) path
apart_all v [] other = tt
apart_all v (x ∷ path) other = (ne_eqb v x (other x (or_left (nat_eq x x) (has path x) (eq-eqb x x refl))), apart_all v path (λ p e. other p (or_right (nat_eq x p) (has path p) e)))

any_has : (path : List ℕ) (q : ℕ) → list_any (nat_eq q) path ≡ true → has path q ≡ true
any_has [] q e = absurd (cc)
any_has (x ∷ path) q e =
    elim (or_cases (nat_eq q x) (list_any (nat_eq q) path) e) [
      | inl same ↦ or_left (nat_eq x q) (has path q) (eq-eqb x q (sym (eqb-true q x same)))
      | inr there ↦ or_right (nat_eq x q) (has path q) (any_has path q there)
    ]

descend : (nodes : List FlatNode) (rank : ℕ → ℕ) → AreRanks nodes rank → (most k : ℕ) (node : FlatNode) → slice_get nodes k ≡ Some node → rank k ≡ most → Descent nodes rank most
unfolding IsDistinct
descend nodes rank are zero k node at is = record {
  steps = k ∷ [];
  long = refl;
  distinct = (tt, tt);
  low = λ p e. elim (or_cases (nat_eq k p) false e) [ inl same ↦ let here : rank k ≡ rank p = ap rank (eqb-true k p same) in omega arith | inr none ↦ absurd (cc) ];
  are_nodes = λ p e. elim (or_cases (nat_eq k p) false e) [ inl same ↦ omega (arith, eqb-true k p same, slice_get_within nodes k node at) | inr none ↦ absurd (cc) ];
}
descend nodes rank are (suc most) k node at is =
    let r = are.reached k node at (omega arith) in
    let below : Descent nodes rank most = descend nodes rank are most r.0 r.1 r.2 (omega (arith, r.4)) in
    record {
      steps = k ∷ below.steps;
      long = ap suc below.long;
      distinct = (apart_all k below.steps (λ p e same. let less : rank p ≤ most = below.low p e in let here : rank k ≡ rank p = ap rank same in omega arith), below.distinct);
      low = λ p e. elim (or_cases (nat_eq k p) (has below.steps p) e) [
        | inl same ↦ let here : rank k ≡ rank p = ap rank (eqb-true k p same) in omega arith
        | inr there ↦ let less : rank p ≤ most = below.low p there in omega arith
      ];
      are_nodes = λ p e. elim (or_cases (nat_eq k p) (has below.steps p) e) [ inl same ↦ omega (arith, eqb-true k p same, slice_get_within nodes k node at) | inr there ↦ below.are_nodes p there ];
    }

pub rank_below : (nodes : List FlatNode) (rank : ℕ → ℕ) → AreRanks nodes rank → (k : ℕ) (node : FlatNode) → slice_get nodes k ≡ Some node → rank k < length nodes
rank_below nodes rank are k node at =
    let way = descend nodes rank are (rank k) k node at refl in
    let few : length way.steps ≤ length nodes = length-le_from_distinct_below way.steps (length nodes) way.distinct (λ q e. way.are_nodes q (any_has way.steps q e)) in
    omega (arith, way.long)

-- the rank of a node as it is defined
pub rank_in-is : (nodes : List FlatNode) (rank : ℕ → ℕ) → AreRanks nodes rank → (k : ℕ) (node : FlatNode) → slice_get nodes k ≡ Some node → rank_in nodes node ≡ rank k
rank_in-is nodes rank are k node at =
    let low : rank k < length nodes = rank_below nodes rank are k node at in
    let is : rank_within (length nodes) nodes node ≡ min (length nodes) (rank k) = rank_within-min (length nodes) nodes rank are k node at in
    omega arith

-- one more node
pub ranks-more : (nodes : List FlatNode) (rank : ℕ → ℕ) (ranks : List ℕ) (k : ℕ) (node : FlatNode) → AreRanks nodes rank → slice_get nodes k ≡ Some node → ranks ≡ map (rank_in nodes) (take k nodes) →
    ranks ++ rank k ∷ [] ≡ map (rank_in nodes) (take (k + 1) nodes)
ranks-more nodes rank ranks k node are at had =
    let here : get_or nodes k node ≡ node = get_or_from_slice_get nodes k node node at in
    ap (λ l. l ++ rank k ∷ []) had
    ∙ ap (λ r. map (rank_in nodes) (take k nodes) ++ r ∷ []) (sym (rank_in-is nodes rank are k node at) ∙ ap (rank_in nodes) (sym here))
    ∙ sym (map_push (rank_in nodes) (take k nodes) (get_or nodes k node))
    ∙ ap (map (rank_in nodes)) (sym (take_more nodes k node (slice_get_within nodes k node at)))

-- Nodes that stand above what drives their inputs

-- the first and the last node of a path
record PathEnds (nodes : List FlatNode) (from to : ℕ) : Type 0 where
  first : ℕ
  last : ℕ
  reader : FlatNode
  driver : FlatNode
  first_is : slice_get nodes first ≡ Some reader
  last_is : slice_get nodes last ≡ Some driver
  in_order : first ≤ last
  reads : has reader.inputs from ≡ true
  drives : has driver.outputs to ≡ true

path_ends : (nodes : List FlatNode) → AreBelow nodes → (from : ℕ) (between : List ℕ) (to : ℕ) → IsPath nodes from between to → PathEnds nodes from to
path_ends nodes below from [] to step =
    record { first = step.number; last = step.number; reader = step.node; driver = step.node; first_is = step.is; last_is = step.is; in_order = omega arith; reads = step.reads; drives = step.drives }
path_ends nodes below from (next ∷ rest) to path =
    let later = path_ends nodes below next rest to path.1 in
    let rises : path.0.number < later.first =
    elim (cases_lt path.0.number later.first) [
      | inl low ↦ low
      | inr high ↦ absurd (both_ways (has later.reader.inputs next) (below later.first path.0.number later.reader path.0.node later.first_is path.0.is high next path.0.drives) later.reads)
    ] in
    record {
      first = path.0.number;
      last = later.last;
      reader = path.0.node;
      driver = later.driver;
      first_is = path.0.is;
      last_is = later.last_is;
      in_order = omega (arith, later.in_order);
      reads = path.0.reads;
      drives = later.drives;
    }

-- none of their objects reaches itself
pub below_not_looping : (nodes : List FlatNode) → AreBelow nodes → (o : ℕ) → IsLooping nodes o → ⊥
below_not_looping nodes below o loop =
    let ends = path_ends nodes below o loop.0 o loop.1 in
    both_ways (has ends.reader.inputs o) (below ends.first ends.last ends.reader ends.driver ends.first_is ends.last_is ends.in_order o ends.drives) ends.reads

-- The nodes of a design

all_from : {A : Type 0} (P : A → Type 0) (xs : List A) → ((i : ℕ) (x : A) → slice_get xs i ≡ Some x → P x) → AllHold P xs
all_from P [] each = tt
all_from P (x ∷ xs) each = (each 0 x refl, all_from P xs (λ i y at. each (suc i) y at))

-- the nodes of a design name objects of the design
pub rules_among : (design : FlatDesign) → ∥ KeepsRules design ∥₁ → AreAmong (length design.objects) design.nodes
rules_among design rules =
    let kept = rules_hold design rules in
    all_from (λ (node : FlatNode). AllHold (λ object. object < length design.objects) node.inputs × AllHold (λ object. object < length design.objects) node.outputs) design.nodes
    (λ k node at. (inputs_are_objects design k node kept at, outputs_are_objects design k node kept at))

-- and none of its objects reaches itself
pub rules_acyclic : (design : FlatDesign) → ∥ KeepsRules design ∥₁ → (o : ℕ) → IsLooping design.nodes o → ⊥
rules_acyclic design rules o loop = below_not_looping design.nodes (rules_hold design rules).ranked o loop

-- a design has few objects
pub objects_are_few : (design : FlatDesign) → ∥ KeepsRules design ∥₁ → length design.objects ≤ 65536
objects_are_few design rules = (rules_hold design rules).few_objects
