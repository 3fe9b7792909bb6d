-- The order of the nodes is that of the flat design, and what is refused is what the flat design refuses (own: the nodes of a design are acyclic and have few inputs).
use Rattle.std.proofs.Common.{◌≡◌, ℕ, zero, suc, ◌+◌, ◌<◌, ◌≤◌, List, [], ◌∷◌, ◌++◌, length, map, Option, Some, None, Ok, Err, refl, sym, ap, ◌∙◌, inl, inr}
use Rattle.std.specs.Prelude.{slice_get}
use Rattle.std.proofs.lemmas.Bool.{cases_lt, lt-ltb, le-ltb}
use Rattle.std.proofs.lemmas.List.{length-map}
use Rattle.vf_base.specs.Lists.{AllHold}
use Rattle.v_design.specs.Designs.{FlatObject, FlatNode, FlatDesign}
use Rattle.v_design.specs.WellFormed.{most_inputs}
use Rattle.v_elab.specs.declared.What.TheVariants.{Inputs}
use Rattle.v_elab.specs.Refusals.{Refusal, TooMany, LoopAt, then_go, unless_refused}
use Rattle.v_elab.specs.Parts.{Part, WalkedProcess, refusal_or, too_many_if, over_limit}
use Rattle.v_elab.specs.Ranks.{least_loop, rank_among, by_rank}
use Rattle.v_elab.specs.Drivers.{signals_of}
use Rattle.v_elab.specs.Objects.{HeldObject, names_joined}
use Rattle.v_elab.specs.Flat.{flat_process, loop_of_object, loop_at, loop_in, inputs_over, some_inputs_over, design_with, over_nodes}
use Rattle.flat_laws.specs.Lists.{same_some}
use Rattle.flat_laws.specs.Drivers.Ranks.{rank-below}
use Rattle.net_graph.specs.Loops.{IsLooping, IsLeastLooping, AreAmong}
use Rattle.node_order.specs.NodeOrder.{loop_of, loop_of_number, loop_among, ordered_nodes}
use Rattle.node_order.specs.LoopLaws.{least-found, none-found}

-- The flat design

abbrev object_in : HeldObject → FlatObject
object_in held = held.object

loop-place : (objects : List HeldObject) (number : ℕ) → loop_of_object (slice_get objects number) ≡ loop_of (slice_get (map object_in objects) number)
loop-place [] number = refl
loop-place (held ∷ objects) zero = refl
loop-place (held ∷ objects) (suc number) = loop-place objects number

loop-number : (objects : List HeldObject) (number : Option ℕ) → loop_at objects number ≡ loop_of_number (map object_in objects) number
loop-number objects None = refl
loop-number objects (Some number) = loop-place objects number

-- a loop of the flat design
pub loop-same : (objects : List HeldObject) (nodes : List FlatNode) → loop_in objects nodes ≡ loop_among (map (λ (held : HeldObject). held.object) objects) nodes
loop-same objects nodes = loop-number objects (least_loop (length objects) nodes) ∙ ap (λ count. loop_of_number (map object_in objects) (least_loop count nodes)) (sym (length-map objects object_in))

-- the design of nodes that stand in order
abbrev pub design_of_nodes : List Part → List HeldObject → List WalkedProcess → List FlatNode → FlatDesign
design_of_nodes parts objects processes sorted = record {
  objects = map (λ (held : HeldObject). held.object) objects;
  joined = names_joined (signals_of parts) objects;
  nodes = sorted;
  processes = map (flat_process parts objects) processes;
}

-- the flat design is that of the nodes in order, and refused exactly where they are
abbrev pub NodesGiveDesign : Type 0
NodesGiveDesign = (parts : List Part) (objects : List HeldObject) (processes : List WalkedProcess) (nodes : List FlatNode) →
    over_nodes parts objects processes nodes ≡ then_go (ordered_nodes (map (λ (held : HeldObject). held.object) objects) nodes) (λ sorted. Ok (design_of_nodes parts objects processes sorted))

pub nodes-give-design : NodesGiveDesign
nodes-give-design parts objects processes nodes = by_inputs (some_inputs_over nodes)
  where
    all : List FlatObject
    all = map (λ (held : HeldObject). held.object) objects

    by_loop : (one other : Option Refusal) → one ≡ other → then_go (unless_refused one nodes) (λ acyclic. Ok (design_with parts objects acyclic processes))
        ≡ then_go (then_go (unless_refused other nodes) (λ acyclic. Ok (by_rank acyclic))) (λ sorted. Ok (design_of_nodes parts objects processes sorted))
    by_loop None None e = refl
    by_loop None (Some refusal) e = absurd (cc)
    by_loop (Some refusal) None e = absurd (cc)
    by_loop (Some refusal) (Some other) e = let same = same_some refusal other e in ap Err same

    by_inputs : (refused : Option Refusal) → then_go (unless_refused refused nodes) (λ few.
        then_go (unless_refused (loop_in objects few) few) (λ acyclic. Ok (design_with parts objects acyclic processes)))
        ≡ then_go (then_go (unless_refused refused nodes) (λ few. then_go (unless_refused (loop_among all few) few) (λ acyclic. Ok (by_rank acyclic))))
        (λ sorted. Ok (design_of_nodes parts objects processes sorted))
    by_inputs None = by_loop (loop_in objects nodes) (loop_among all nodes) (loop-same objects nodes)
    by_inputs (Some refusal) = refl

-- Inputs

over-none : (count : ℕ) → count ≤ most_inputs → over_limit Inputs most_inputs count ≡ None
over-none count few = ap (λ b. too_many_if b Inputs most_inputs) (le-ltb most_inputs count few)

over-some : (count : ℕ) → most_inputs < count → over_limit Inputs most_inputs count ≡ Some (TooMany Inputs (most_inputs + 1))
over-some count many = ap (λ b. too_many_if b Inputs most_inputs) (lt-ltb most_inputs count many)

-- one more node with few inputs
pub inputs-more : (nodes : List FlatNode) (node : FlatNode) → some_inputs_over nodes ≡ None → length node.inputs ≤ most_inputs → some_inputs_over (nodes ++ node ∷ []) ≡ None
inputs-more [] node none few = ap (λ r. refusal_or r None) (over-none (length node.inputs) few)
inputs-more (first ∷ nodes) node none few = by_first (inputs_over first) none (λ rest. inputs-more nodes node rest few)
  where
    by_first : (refused : Option Refusal) → refusal_or refused (some_inputs_over nodes) ≡ None → (some_inputs_over nodes ≡ None → some_inputs_over (nodes ++ node ∷ []) ≡ None) →
        refusal_or refused (some_inputs_over (nodes ++ node ∷ [])) ≡ None
    by_first None e more = more e
    by_first (Some refusal) e more = absurd (cc)

-- a node with too many
pub inputs-many : (nodes : List FlatNode) (k : ℕ) (node : FlatNode) → slice_get nodes k ≡ Some node → most_inputs < length node.inputs →
    some_inputs_over nodes ≡ Some (TooMany Inputs (most_inputs + 1))
inputs-many [] k node at many = absurd (cc)
inputs-many (first ∷ nodes) zero node at many =
    ap (λ r. refusal_or r (some_inputs_over nodes)) (ap (λ (n : FlatNode). over_limit Inputs most_inputs (length n.inputs)) (same_some first node at) ∙ over-some (length node.inputs) many)
inputs-many (first ∷ nodes) (suc k) node at many =
    elim (cases_lt most_inputs (length first.inputs)) [
      | inl here ↦ ap (λ r. refusal_or r (some_inputs_over nodes)) (over-some (length first.inputs) here)
      | inr few ↦ ap (λ r. refusal_or r (some_inputs_over nodes)) (over-none (length first.inputs) few) ∙ inputs-many nodes k node at many
    ]

-- What is answered

-- too many inputs
pub crowded : (objects : List FlatObject) (nodes : List FlatNode) → some_inputs_over nodes ≡ Some (TooMany Inputs (most_inputs + 1)) →
    ordered_nodes objects nodes ≡ Err (TooMany Inputs (most_inputs + 1))
crowded objects nodes e = ap (λ r. then_go (unless_refused r nodes) (λ few. then_go (unless_refused (loop_among objects few) few) (λ acyclic. Ok (by_rank acyclic)))) e

after-few : (objects : List FlatObject) (nodes : List FlatNode) → some_inputs_over nodes ≡ None →
    ordered_nodes objects nodes ≡ then_go (unless_refused (loop_among objects nodes) nodes) (λ acyclic. Ok (by_rank acyclic))
after-few objects nodes e = ap (λ r. then_go (unless_refused r nodes) (λ few. then_go (unless_refused (loop_among objects few) few) (λ acyclic. Ok (by_rank acyclic)))) e

-- a loop
pub looped : (objects : List FlatObject) (nodes : List FlatNode) (number : ℕ) (object : FlatObject) → some_inputs_over nodes ≡ None → AreAmong (length objects) nodes → IsLeastLooping nodes number →
    slice_get objects number ≡ Some object →
    ordered_nodes objects nodes ≡ Err (LoopAt object.place)
looped objects nodes number object few among is at =
    let found : loop_among objects nodes ≡ Some (LoopAt object.place) = ap (loop_of_number objects) (least-found (length objects) nodes number among is) ∙ ap loop_of at in
    after-few objects nodes few ∙ ap (λ r. then_go (unless_refused r nodes) (λ acyclic. Ok (by_rank acyclic))) found

-- an order
pub ordered : (objects : List FlatObject) (nodes : List FlatNode) → some_inputs_over nodes ≡ None → ((object : ℕ) → IsLooping nodes object → ⊥) → ordered_nodes objects nodes ≡ Ok (by_rank nodes)
ordered objects nodes few acyclic =
    let none : loop_among objects nodes ≡ None = ap (loop_of_number objects) (none-found (length objects) nodes acyclic) in
    after-few objects nodes few ∙ ap (λ r. then_go (unless_refused r nodes) (λ sorted. Ok (by_rank sorted))) none

inputs-of : (objects : ℕ) (nodes : List FlatNode) → AreAmong objects nodes → AllHold (λ (node : FlatNode). AllHold (λ object. object < objects) node.inputs) nodes
inputs-of objects [] among = tt
inputs-of objects (node ∷ nodes) among = (among.0.0, inputs-of objects nodes among.1)

-- the rank of a node among nodes without a loop is less than their number
pub rank-low : (objects : ℕ) (nodes : List FlatNode) → AreAmong objects nodes → ((object : ℕ) → IsLooping nodes object → ⊥) → (k : ℕ) (node : FlatNode) → slice_get nodes k ≡ Some node →
    rank_among nodes node < length nodes
rank-low objects nodes among acyclic = rank-below objects nodes (record { none = none-found objects nodes acyclic; among = inputs-of objects nodes among })
