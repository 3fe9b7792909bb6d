-- Objects and nodes as the vertices of one graph: an object needs the nodes that drive it, and a node needs its inputs; the nodes' numbers stand after the objects' (nothing of the language).
use Rattle.std.proofs.Common.{◌≡◌, ℕ, zero, suc, ◌+◌, ◌<◌, ◌≤◌, Bool, true, false, List, [], ◌∷◌, ◌++◌, length, get_or, set, map, refl, ap, sym, ◌∙◌, inl, inr, arith, replicate}
use Rattle.std.specs.Prelude.{nat_eq, ◌-◌, ◌||◌, ◌&&◌, Some, slice_get}
use Rattle.std.proofs.lemmas.Bool.{cases_eq, cases_lt, both_ways, or_cases, or_left, or_right, and_parts, and_from, eq-eqb, eqb-true}
use Rattle.std.proofs.lemmas.List.{get_or-set_same, get_or-set_other, length-set, get_or-replicate, length-replicate, get_or_past, length_push, get_or_append_left, get_or_push}
use Rattle.std.proofs.lemmas.Option.{slice_get_within}
use Rattle.std.specs.List.{All}
use Rattle.vf_base.specs.declared.ids.ObjectId.{ObjectId}
use Rattle.vf_base.specs.Base.{object_number}
use Rattle.vf_base.specs.Lists.{has, AllHold}
use Rattle.v_design.specs.Designs.{FlatNode}
use Rattle.graph_order.specs.ListLaws.{AllHold-slice_get, AllHold-has, has-append, or-false, now_has, still_has}
use Rattle.graph_order.specs.Digraphs.{needs_of, NeedVertices, IsWalk, IsOnLoop, NoneOnLoop}
use Rattle.graph_order.specs.Searching.{IsWalk-push, next_on_loop}
use Rattle.net_graph.specs.Loops.{IsStep, IsPath, IsLooping, IsLeastLooping, AreAmong}

-- The graph

-- whether a number is that of a node that drives an object, the nodes being numbered from some number on
abbrev pub driven_by : ℕ → List FlatNode → ℕ → ℕ → Bool
driven_by first [] object vertex = false
driven_by first (node ∷ nodes) object vertex = (has node.outputs object && nat_eq first vertex) || driven_by (first + 1) nodes object vertex

-- the graph of nodes and so many objects
pub record IsWiring (objects : ℕ) (nodes : List FlatNode) (needs : List (List ℕ)) : Type 0 where
  pub vertices : length needs ≡ objects + length nodes
  pub drivers : (o v : ℕ) → o < objects → has (needs_of needs o) v ≡ driven_by objects nodes o v
  pub inputs : (k : ℕ) (node : FlatNode) → slice_get nodes k ≡ Some node → needs_of needs (objects + k) ≡ node.inputs

or-and-false : (a b c : Bool) → b ≡ false → (a || (b && c)) ≡ a
or-and-false true b c e = refl
or-and-false false b c e = ap (λ t. t && c) e

or_assoc : (a b c : Bool) → ((a || b) || c) ≡ (a || (b || c))
or_assoc true b c = refl
or_assoc false b c = refl

-- the drivers by one more node
pub driven_by-push : (first : ℕ) (nodes : List FlatNode) (node : FlatNode) (o v : ℕ) → driven_by first (nodes ++ node ∷ []) o v ≡
    (driven_by first nodes o v || (has node.outputs o && nat_eq (first + length nodes) v))
driven_by-push first [] node o v =
    or-false (has node.outputs o && nat_eq first v) ∙ ap (λ n. has node.outputs o && nat_eq n v) (let e : first ≡ first + 0 = omega arith in e)
driven_by-push first (n ∷ nodes) node o v =
    ap (λ b. (has n.outputs o && nat_eq first v) || b) (driven_by-push (first + 1) nodes node o v)
    ∙ sym (or_assoc (has n.outputs o && nat_eq first v) (driven_by (first + 1) nodes o v) (has node.outputs o && nat_eq (first + 1 + length nodes) v))
    ∙ ap (λ m. ((has n.outputs o && nat_eq first v) || driven_by (first + 1) nodes o v) || (has node.outputs o && nat_eq m v))
    (let e : first + 1 + length nodes ≡ first + suc (length nodes) = omega arith in e)

-- a driver is a node
pub driver_node : (first : ℕ) (nodes : List FlatNode) (o v : ℕ) → driven_by first nodes o v ≡ true →
    (k : ℕ) × (node : FlatNode) × (slice_get nodes k ≡ Some node) × (has node.outputs o ≡ true) × (v ≡ first + k)
driver_node first [] o v e = absurd (cc)
driver_node first (n ∷ nodes) o v e =
    elim (or_cases (has n.outputs o && nat_eq first v) (driven_by (first + 1) nodes o v) e) [
      | inl here ↦
          let parts = and_parts (has n.outputs o) (nat_eq first v) here in
          (0, n, refl, parts.0, sym (eqb-true first v parts.1) ∙ (let z : first ≡ first + 0 = omega arith in z))
      | inr later ↦ let r = driver_node (first + 1) nodes o v later in (suc r.0, r.1, r.2, r.3, r.4 ∙ (let z : first + 1 + r.0 ≡ first + suc r.0 = omega arith in z))
    ]

-- a node is a driver of its outputs
pub node_drives : (first : ℕ) (nodes : List FlatNode) (o k : ℕ) (node : FlatNode) → slice_get nodes k ≡ Some node → has node.outputs o ≡ true → driven_by first nodes o (first + k) ≡ true
node_drives first [] o k node at e = absurd (cc)
node_drives first (n ∷ nodes) o zero node at e =
    let same : n ≡ node = cc in
    or_left (has n.outputs o && nat_eq first (first + 0)) (driven_by (first + 1) nodes o (first + 0))
    (and_from (has n.outputs o) (nat_eq first (first + 0)) (ap (λ m. has m.outputs o) same ∙ e) (eq-eqb first (first + 0) (omega arith)))
node_drives first (n ∷ nodes) o (suc k) node at e =
    or_right (has n.outputs o && nat_eq first (first + suc k)) (driven_by (first + 1) nodes o (first + suc k))
    (ap (driven_by (first + 1) nodes o) (let z : first + suc k ≡ first + 1 + k = omega arith in z) ∙ node_drives (first + 1) nodes o k node at e)

-- Building it

-- a driver is put into the lists of some objects
pub record DriverAdded (driver : ℕ) (outputs : List ℕ) (before later : List (List ℕ)) : Type 0 where
  pub same_length : length later ≡ length before
  pub added : (o v : ℕ) → o < length before → has (get_or later o []) v ≡ (has (get_or before o []) v || (has outputs o && nat_eq driver v))

pub DriverAdded-none : (driver : ℕ) (before : List (List ℕ)) → DriverAdded driver [] before before
DriverAdded-none driver before = record { same_length = refl; added = λ o v low. sym (or-false (has (get_or before o []) v)) }

or-twice : (a b c : Bool) → ((a || (b && c)) || (c || false)) ≡ (a || c)
or-twice true b c = refl
or-twice false true true = refl
or-twice false true false = refl
or-twice false false true = refl
or-twice false false false = refl

pub DriverAdded-more : (driver : ℕ) (outputs : List ℕ) (before later : List (List ℕ)) (x : ℕ) → DriverAdded driver outputs before later → x < length later →
    DriverAdded driver (outputs ++ x ∷ []) before (set later x (get_or later x [] ++ driver ∷ []))
DriverAdded-more driver outputs before later x had low = record {
  same_length = length-set later x (get_or later x [] ++ driver ∷ []) ∙ had.same_length;
  added = λ o v low_o.
      elim (cases_eq o x) [
        | inl same ↦
            ap (λ j. has (get_or (set later x (get_or later x [] ++ driver ∷ [])) j []) v) same
            ∙ ap (λ l. has l v) (get_or-set_same later x (get_or later x [] ++ driver ∷ []) [] low)
            ∙ has-append (get_or later x []) (driver ∷ []) v
            ∙ ap (λ b. b || (nat_eq driver v || false)) (had.added x v (omega (arith, had.same_length)))
            ∙ or-twice (has (get_or before x []) v) (has outputs x) (nat_eq driver v)
            ∙ sym (ap (λ j. has (get_or before j []) v || (has (outputs ++ x ∷ []) j && nat_eq driver v)) same ∙ ap (λ b. has (get_or before x []) v || (b && nat_eq driver v)) (now_has outputs x))
        | inr other ↦
            ap (λ l. has l v) (get_or-set_other later x o (get_or later x [] ++ driver ∷ []) [] other) ∙ had.added o v low_o
            ∙ ap (λ b. has (get_or before o []) v || (b && nat_eq driver v)) (sym (still_has outputs x o other))
      ];
}

-- the lists of the objects, by some nodes
pub record DriversListed (objects : ℕ) (nodes : List FlatNode) (lists : List (List ℕ)) : Type 0 where
  pub same_length : length lists ≡ objects
  pub drivers : (o v : ℕ) → o < objects → has (get_or lists o []) v ≡ driven_by objects nodes o v

pub DriversListed-none : (objects : ℕ) → DriversListed objects [] (replicate objects [])
DriversListed-none objects = record {
  same_length = length-replicate {A = List ℕ} objects [];
  drivers = λ o v low. ap (λ l. has l v) (get_or-replicate {A = List ℕ} objects o [] [] low);
}

pub DriversListed-more : (objects : ℕ) (nodes : List FlatNode) (node : FlatNode) (lists later : List (List ℕ)) → DriversListed objects nodes lists →
    DriverAdded (objects + length nodes) node.outputs lists later →
    DriversListed objects (nodes ++ node ∷ []) later
DriversListed-more objects nodes node lists later had adds = record {
  same_length = adds.same_length ∙ had.same_length;
  drivers = λ o v low.
      adds.added o v (omega (arith, had.same_length)) ∙ ap (λ b. b || (has node.outputs o && nat_eq (objects + length nodes) v)) (had.drivers o v low)
      ∙ sym (driven_by-push objects nodes node o v);
}

-- What it says of loops

-- what a list of nodes names is among the objects
pub node_among : (objects : ℕ) (nodes : List FlatNode) (k : ℕ) (node : FlatNode) → AreAmong objects nodes → slice_get nodes k ≡ Some node →
    AllHold (λ object. object < objects) node.inputs × AllHold (λ object. object < objects) node.outputs
node_among objects nodes k node among at =
    AllHold-slice_get (λ (n : FlatNode). AllHold (λ object. object < objects) n.inputs × AllHold (λ object. object < objects) n.outputs) nodes k node among at

pub input_among : (objects : ℕ) (nodes : List FlatNode) (k : ℕ) (node : FlatNode) (o : ℕ) → AreAmong objects nodes → slice_get nodes k ≡ Some node → has node.inputs o ≡ true → o < objects
input_among objects nodes k node o among at e = AllHold-has (λ object. object < objects) node.inputs o (node_among objects nodes k node among at).0 e

pub output_among : (objects : ℕ) (nodes : List FlatNode) (k : ℕ) (node : FlatNode) (o : ℕ) → AreAmong objects nodes → slice_get nodes k ≡ Some node → has node.outputs o ≡ true → o < objects
output_among objects nodes k node o among at e = AllHold-has (λ object. object < objects) node.outputs o (node_among objects nodes k node among at).1 e

-- a step from one object to another is two steps back in the graph
pub step_back : (objects : ℕ) (nodes : List FlatNode) (needs : List (List ℕ)) (from to : ℕ) → IsWiring objects nodes needs → AreAmong objects nodes → IsStep nodes from to →
    (v : ℕ) × (has (needs_of needs to) v ≡ true) × (has (needs_of needs v) from ≡ true)
step_back objects nodes needs from to wiring among step = (
  objects + step.number,
  wiring.drivers to (objects + step.number) (output_among objects nodes step.number step.node to among step.is step.drives) ∙ node_drives objects nodes to step.number step.node step.is step.drives,
  ap (λ l. has l from) (wiring.inputs step.number step.node step.is) ∙ step.reads,
)

path_walk : (objects : ℕ) (nodes : List FlatNode) (needs : List (List ℕ)) (from : ℕ) (between : List ℕ) (to : ℕ) → IsWiring objects nodes needs → AreAmong objects nodes →
    IsPath nodes from between to →
    (back : List ℕ) × IsWalk needs to back from
path_walk objects nodes needs from [] to wiring among path = let two = step_back objects nodes needs from to wiring among path in (two.0 ∷ [], (two.1, two.2))
path_walk objects nodes needs from (next ∷ rest) to wiring among path =
    let two = step_back objects nodes needs from next wiring among path.0 in
    let later = path_walk objects nodes needs next rest to wiring among path.1 in
    ((later.0 ++ next ∷ []) ++ two.0 ∷ [], IsWalk-push needs to (later.0 ++ next ∷ []) two.0 from (IsWalk-push needs to later.0 next two.0 later.1 two.1) two.2)

-- an object that reaches itself is on a loop of the graph
pub looping_on_loop : (objects : ℕ) (nodes : List FlatNode) (needs : List (List ℕ)) (o : ℕ) → IsWiring objects nodes needs → AreAmong objects nodes → IsLooping nodes o → IsOnLoop needs o
looping_on_loop objects nodes needs o wiring among loop = path_walk objects nodes needs o loop.0 o wiring among loop.1

-- an object that reaches itself is an object
pub looping_among : (objects : ℕ) (nodes : List FlatNode) (o : ℕ) → AreAmong objects nodes → IsLooping nodes o → o < objects
looping_among objects nodes o among loop =
    let first = first_step nodes o loop.0 o loop.1 in input_among objects nodes first.1.number first.1.node o among first.1.is first.1.reads
  where
    first_step : (nodes : List FlatNode) (from : ℕ) (between : List ℕ) (to : ℕ) → IsPath nodes from between to → (next : ℕ) × IsStep nodes from next
    first_step nodes from [] to path = (to, path)
    first_step nodes from (next ∷ rest) to path = (next, path.0)

path_push : (nodes : List FlatNode) (from : ℕ) (between : List ℕ) (last to : ℕ) → IsPath nodes from between last → IsStep nodes last to → IsPath nodes from (between ++ last ∷ []) to
path_push nodes from [] last to path step = (path, step)
path_push nodes from (next ∷ rest) last to path step = (path.0, path_push nodes next rest last to path.1 step)

-- two steps back in the graph are a step from one object to another
two_back : (objects : ℕ) (nodes : List FlatNode) (needs : List (List ℕ)) (to v from : ℕ) → IsWiring objects nodes needs → to < objects → has (needs_of needs to) v ≡ true →
    has (needs_of needs v) from ≡ true → IsStep nodes from to
two_back objects nodes needs to v from wiring low needed reads =
    let r = driver_node objects nodes to v (sym (wiring.drivers to v low) ∙ needed) in
    record {
      number = r.0;
      node = r.1;
      is = r.2;
      reads = ap (λ l. has l from) (sym (wiring.inputs r.0 r.1 r.2)) ∙ ap (λ u. has (needs_of needs u) from) (sym r.4) ∙ reads;
      drives = r.3;
    }

walk_path : (objects : ℕ) (nodes : List FlatNode) (needs : List (List ℕ)) (to : ℕ) (back : List ℕ) (from : ℕ) → IsWiring objects nodes needs → AreAmong objects nodes → to < objects →
    from < objects → IsWalk needs to back from →
    (between : List ℕ) × IsPath nodes from between to
walk_path objects nodes needs to [] from wiring among low low_from walk =
    let r = driver_node objects nodes to from (sym (wiring.drivers to from low) ∙ walk) in absurd (omega (arith, r.4))
walk_path objects nodes needs to (v ∷ []) from wiring among low low_from walk = ([], two_back objects nodes needs to v from wiring low walk.0 walk.1)
walk_path objects nodes needs to (v ∷ x ∷ rest) from wiring among low low_from walk =
    let step : IsStep nodes x to = two_back objects nodes needs to v x wiring low walk.0 walk.1.0 in
    let later = walk_path objects nodes needs x rest from wiring among (input_among objects nodes step.number step.node x among step.is step.reads) low_from walk.1.1 in
    (later.0 ++ x ∷ [], path_push nodes from later.0 x to later.1 step)

-- an object on a loop of the graph reaches itself
pub on_loop_looping : (objects : ℕ) (nodes : List FlatNode) (needs : List (List ℕ)) (o : ℕ) → IsWiring objects nodes needs → AreAmong objects nodes → o < objects → IsOnLoop needs o → IsLooping nodes o
on_loop_looping objects nodes needs o wiring among low loop = walk_path objects nodes needs o loop.0 o wiring among low low loop.1

-- the least object on a loop
pub least_loops : (objects : ℕ) (nodes : List FlatNode) (needs : List (List ℕ)) (o : ℕ) → IsWiring objects nodes needs → AreAmong objects nodes → o < objects → IsOnLoop needs o →
    NoneOnLoop needs o → IsLeastLooping nodes o
least_loops objects nodes needs o wiring among low loop none = record {
  loops = on_loop_looping objects nodes needs o wiring among low loop;
  least = λ other less loops. none other less (looping_on_loop objects nodes needs other wiring among loops);
}

pub node_there : (nodes : List FlatNode) (k : ℕ) → k < length nodes → (node : FlatNode) × (slice_get nodes k ≡ Some node)
node_there [] k low = absurd (omega arith)
node_there (n ∷ nodes) zero low = (n, refl)
node_there (n ∷ nodes) (suc k) low = node_there nodes k (omega arith)

-- what a node needs are objects
pub node_needs : (objects : ℕ) (nodes : List FlatNode) (needs : List (List ℕ)) (v d : ℕ) → IsWiring objects nodes needs → AreAmong objects nodes → objects ≤ v → has (needs_of needs v) d ≡ true →
    d < objects
node_needs objects nodes needs v d wiring among past e =
    elim (cases_lt v (length needs)) [
      | inl within ↦
          let there = node_there nodes (v - objects) (omega (arith, wiring.vertices)) in
          let same : objects + (v - objects) ≡ v = omega arith in
          input_among objects nodes (v - objects) there.0 d among there.1 (ap (λ l. has l d) (sym (wiring.inputs (v - objects) there.0 there.1)) ∙ ap (λ u. has (needs_of needs u) d) same ∙ e)
      | inr outside ↦ absurd (both_ways (has (needs_of needs v) d) (ap (λ l. has l d) (get_or_past needs v [] outside)) e)
    ]

-- what the vertices need are vertices
pub wiring_graph : (objects : ℕ) (nodes : List FlatNode) (needs : List (List ℕ)) → IsWiring objects nodes needs → AreAmong objects nodes → NeedVertices needs
wiring_graph objects nodes needs wiring among v d e =
    elim (cases_lt v objects) [
      | inl low ↦
          let r = driver_node objects nodes v d (sym (wiring.drivers v d low) ∙ e) in
          omega (arith, slice_get_within nodes r.0 r.1 r.2, r.4, wiring.vertices)
      | inr past ↦ let bound : d < objects = node_needs objects nodes needs v d wiring among past e in omega (arith, wiring.vertices)
    ]

-- where some vertex is on a loop, some object is
pub some_object_on_loop : (objects : ℕ) (nodes : List FlatNode) (needs : List (List ℕ)) (u : ℕ) → IsWiring objects nodes needs → AreAmong objects nodes → IsOnLoop needs u →
    NoneOnLoop needs objects → ⊥
some_object_on_loop objects nodes needs u wiring among loop none =
    elim (cases_lt u objects) [
      | inl low ↦ none u low loop
      | inr past ↦ let next = next_on_loop needs u loop in none next.0 (node_needs objects nodes needs u next.0 wiring among past next.1) next.2
    ]

-- the graph of the first so many nodes, with the drivers of all
pub record WiringBefore (objects : ℕ) (nodes : List FlatNode) (i : ℕ) (needs : List (List ℕ)) : Type 0 where
  pub vertices : length needs ≡ objects + i
  pub drivers : (o v : ℕ) → o < objects → has (needs_of needs o) v ≡ driven_by objects nodes o v
  pub inputs : (k : ℕ) (node : FlatNode) → k < i → slice_get nodes k ≡ Some node → needs_of needs (objects + k) ≡ node.inputs

pub WiringBefore-none : (objects : ℕ) (nodes : List FlatNode) (lists : List (List ℕ)) → DriversListed objects nodes lists → WiringBefore objects nodes 0 lists
WiringBefore-none objects nodes lists had = record {
  vertices = let same : length lists ≡ objects = had.same_length in omega arith;
  drivers = had.drivers;
  inputs = λ k node low at. absurd (omega arith);
}

pub WiringBefore-more : (objects : ℕ) (nodes : List FlatNode) (i : ℕ) (needs : List (List ℕ)) (node : FlatNode) → slice_get nodes i ≡ Some node → WiringBefore objects nodes i needs →
    WiringBefore objects nodes (i + 1) (needs ++ node.inputs ∷ [])
WiringBefore-more objects nodes i needs node at had = record {
  vertices = let longer : length (needs ++ node.inputs ∷ []) ≡ length needs + 1 = length_push needs node.inputs in omega (arith, had.vertices);
  drivers = λ o v low. ap (λ l. has l v) (get_or_append_left needs (node.inputs ∷ []) [] o (omega (arith, had.vertices))) ∙ had.drivers o v low;
  inputs = λ k n low n_at.
      elim (cases_lt k i) [
        | inl before ↦ get_or_append_left needs (node.inputs ∷ []) [] (objects + k) (omega (arith, had.vertices)) ∙ had.inputs k n before n_at
        | inr past ↦
            let same : k ≡ i = omega arith in
            let is : node ≡ n = same_node (sym at ∙ ap (slice_get nodes) (sym same) ∙ n_at) in
            get_or_push needs node.inputs [] (objects + k) (omega (arith, had.vertices)) ∙ ap (λ (m : FlatNode). m.inputs) is
      ];
}
  where
    same_node : {a b : FlatNode} → Some a ≡ Some b → a ≡ b
    same_node e = cc

pub WiringBefore-all : (objects : ℕ) (nodes : List FlatNode) (i : ℕ) (needs : List (List ℕ)) → i ≡ length nodes → WiringBefore objects nodes i needs → IsWiring objects nodes needs
WiringBefore-all objects nodes i needs all had = record {
  vertices = omega (arith, had.vertices);
  drivers = had.drivers;
  inputs = λ k node at. had.inputs k node (omega (arith, slice_get_within nodes k node at)) at;
}

-- The lists of the code

-- the objects of a list whose numbers are below a count
pub all_below : (objects : List ObjectId) (count : ℕ) → AllHold (λ o. o < count) (map object_number objects) → All (λ object. object_number object < count) objects
all_below [] count each k d low = absurd (omega arith)
all_below (x ∷ objects) count each zero d low = each.0
all_below (x ∷ objects) count each (suc k) d low = all_below objects count each.1 k d (omega arith)

-- a fact of one more element
pub AllHold-push : {A : Type 0} (P : A → Type 0) (xs : List A) (x : A) → AllHold P xs → P x → AllHold P (xs ++ x ∷ [])
AllHold-push P [] x each here = (here, tt)
AllHold-push P (y ∷ xs) x each here = (each.0, AllHold-push P xs x each.1 here)
