use Rattle.std.proofs.Common.{rules, ◌≡◌, ℕ, ◌+◌, ◌<◌, ◌++◌, ◌∷◌, [], List, ap, sym, subst, ◌∙◌, get_or, take, map, length, vec_len, arith}
use Rattle.std.proofs.lemmas.List.{map_more, length-map, length-take-le}
use Rattle.vf_base.specs.Base.{object_number}
use Rattle.vf_base.specs.Lists.{AllHold}
use Rattle.v_design.specs.Plain.{node_of}
use Rattle.v_design.specs.declared.plan.Node.{Node}
use Rattle.graph_order.specs.Digraphs.{lists_of}
use Rattle.graph_order.specs.Sorting.{length-lists_of}
use Rattle.net_graph.specs.RuleLaws.{node_at}
use Rattle.net_graph.specs.WiringLaws.{DriverAdded, DriversListed, DriversListed-more, node_among, all_below}
use Rattle.net_graph.proofs.rank.drivers.Goals as goal

-- the nodes so far and one more
one_more : (nodes : List Node) (i : ℕ) (n : Node) → i < length nodes → n ≡ get_or nodes i n → map node_of (take (i + 1) nodes) ≡ map node_of (take i nodes) ++ node_of n ∷ []
one_more nodes i n low is = map_more node_of nodes i n low ∙ ap (λ m. map node_of (take i nodes) ++ node_of m ∷ []) (sym is)

pub add_driver-requires : goal.add_driver-requires
add_driver-requires c =
    let low : c.nodes.number < length c.args.nodes.now = search rules in
    let rules = node_among c.args.objects (map node_of c.args.nodes.now) c.nodes.number (node_of c.index-nodes-number.result) c.requires.there
    (node_at c.args.nodes.now c.nodes.number c.index-nodes-number.result low c.index-nodes-number.is) in
    let enough : c.args.objects ≡ vec_len c.nodes.needs = omega (arith, c.nodes.invariant.same_length, length-lists_of c.nodes.needs.items) in
    all_below c.as_slice.result.now (vec_len c.nodes.needs)
    (subst (λ l. AllHold (λ o. o < vec_len c.nodes.needs) (map object_number l)) (sym c.as_slice.ensures)
    (subst (λ n. AllHold (λ o. o < n) (node_of c.index-nodes-number.result).outputs) enough rules.1))

pub nodes-preserved : goal.nodes-preserved
nodes-preserved c =
    let low : c.nodes.number < length c.args.nodes.now = search rules in
    let counted : c.args.objects + c.nodes.number ≡ c.args.objects + length (map node_of (take c.nodes.number c.args.nodes.now)) =
    omega (arith, length-map (take c.nodes.number c.args.nodes.now) node_of, length-take-le c.nodes.number c.args.nodes.now (omega arith)) in
    subst (λ nodes. DriversListed c.args.objects nodes (lists_of c.add_driver.new.needs.items)) (sym (one_more c.args.nodes.now c.nodes.number c.index-nodes-number.result low c.index-nodes-number.is))
    (DriversListed-more c.args.objects (map node_of (take c.nodes.number c.args.nodes.now)) (node_of c.index-nodes-number.result) (lists_of c.nodes.needs.items)
    (lists_of c.add_driver.new.needs.items) c.nodes.invariant
    (subst (λ d. DriverAdded d (node_of c.index-nodes-number.result).outputs (lists_of c.nodes.needs.items) (lists_of c.add_driver.new.needs.items)) counted
    (subst (λ l. DriverAdded (c.args.objects + c.nodes.number) (map object_number l) (lists_of c.nodes.needs.items) (lists_of c.add_driver.new.needs.items)) c.as_slice.ensures
    c.in_ok-add_driver.ensures)))
