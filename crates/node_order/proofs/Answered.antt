-- What is known of the nodes when their order is asked for.
use Rattle.std.proofs.Common.{◌≡◌, ℕ, zero, suc, ◌+◌, ◌<◌, Bool, false, List, [], ◌∷◌, ◌++◌, length, map, take, get_or, Some, None, refl, sym, ap, ◌∙◌, subst, arith}
use Rattle.std.specs.Prelude.{slice_get}
use Rattle.std.proofs.lemmas.List.{length-map, map_more}
use Rattle.v_design.specs.Designs.{FlatNode}
use Rattle.v_design.specs.Plain.{node_of, object_of}
use Rattle.v_design.specs.WellFormed.{most_inputs}
use Rattle.v_design.specs.declared.plan.Node.{Node}
use Rattle.v_design.specs.declared.plan.Object.{Object}
use Rattle.v_elab.specs.declared.What.TheVariants.{Inputs}
use Rattle.v_elab.specs.Parts.{too_many_if}
use Rattle.v_elab.specs.Ranks.{rank_among}
use Rattle.v_elab.specs.Flat.{some_inputs_over}
use Rattle.flat_laws.specs.Lists.{same_some}
use Rattle.net_graph.specs.Loops.{IsLooping, AreAmong, rank_in}
use Rattle.net_graph.specs.WiringLaws.{node_there}
use Rattle.node_order.specs.OrderLaws.{rank-low}
use Rattle.node_order.specs.Views.{AreRanksOf}

-- the nodes so far and one more
pub one-more : (nodes : List Node) (i : ℕ) (n : Node) → i < length nodes → n ≡ get_or nodes i n → map node_of (take (i + 1) nodes) ≡ map node_of (take i nodes) ++ node_of n ∷ []
one-more nodes i n low is = map_more node_of nodes i n low ∙ ap (λ m. map node_of (take i nodes) ++ node_of m ∷ []) (sym is)

-- no node is crowded
pub few-of : (nodes seen : List Node) (test : Bool) → seen ≡ nodes → some_inputs_over (map node_of seen) ≡ too_many_if test Inputs most_inputs → test ≡ false →
    some_inputs_over (map node_of nodes) ≡ None
few-of nodes seen test same told none = ap (λ l. some_inputs_over (map node_of l)) (sym same) ∙ told ∙ ap (λ b. too_many_if b Inputs most_inputs) none

got : (f : FlatNode → ℕ) (nodes : List FlatNode) (k : ℕ) (node : FlatNode) → slice_get nodes k ≡ Some node → get_or (map f nodes) k 0 ≡ f node
got f [] k node at = absurd (cc)
got f (first ∷ nodes) zero node at = ap f (same_some first node at)
got f (first ∷ nodes) (suc k) node at = got f nodes k node at

-- the ranks that are found are those of the nodes
pub ranks-are : (objects : ℕ) (nodes seen : List Node) (ranks held : List ℕ) → seen ≡ nodes → AreAmong objects (map node_of nodes) → held ≡ ranks →
    ranks ≡ map (rank_in (map node_of seen)) (map node_of seen) →
    ((object : ℕ) → IsLooping (map node_of seen) object → ⊥) → AreRanksOf (map node_of nodes) held
ranks-are objects nodes seen ranks held same among is ranked acyclic =
    let all = map node_of nodes in
    let own : held ≡ map (rank_among all) all = is ∙ ranked ∙ ap (λ l. map (rank_in (map node_of l)) (map node_of l)) same in
    let none : (object : ℕ) → IsLooping all object → ⊥ = subst (λ l. (object : ℕ) → IsLooping (map node_of l) object → ⊥) same acyclic in
    record {
      ranked = own;
      low = λ k low.
          let there = node_there all k low in
          let rank : get_or held k 0 ≡ rank_among all there.0 = ap (λ l. get_or l k 0) own ∙ got (rank_among all) all k there.0 there.1 in
          let less = rank-low objects all among none k there.0 there.1 in
          omega (arith, rank, less);
    }

pub object-there : (objects : List Object) (k : ℕ) → k < length objects → (o : Object) × (slice_get objects k ≡ Some o)
object-there [] k low = absurd (omega (arith, low))
object-there (o ∷ objects) zero low = (o, refl)
object-there (o ∷ objects) (suc k) low = object-there objects k (omega (arith, low))

pub object-at : (objects : List Object) (k : ℕ) (o : Object) → slice_get objects k ≡ Some o → slice_get (map object_of objects) k ≡ Some (object_of o)
object-at [] k o at = absurd (cc)
object-at (first ∷ objects) zero o at = ap (λ x. Some (object_of x)) (same_some first o at)
object-at (first ∷ objects) (suc k) o at = object-at objects k o at

-- the nodes are among the objects of the design
pub among-objects : (objects : List Object) (nodes : List FlatNode) → AreAmong (length objects) nodes → AreAmong (length (map object_of objects)) nodes
among-objects objects nodes among = subst (λ count. AreAmong count nodes) (sym (length-map objects object_of)) among
