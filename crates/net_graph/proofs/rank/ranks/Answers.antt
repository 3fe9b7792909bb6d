use Rattle.std.proofs.Common.{◌≡◌, ◌<◌, false, ap, sym, subst, ◌∙◌, get_or, map, length, arith}
use Rattle.std.specs.Prelude.{None, Some}
use Rattle.vf_base.specs.declared.ids.ObjectId.{ObjectId}
use Rattle.vf_base.specs.Base.{object_number}
use Rattle.net_graph.specs.Loops.{IsLeastLooping}
use Rattle.v_design.specs.Plain.{node_of}
use Rattle.graph_order.specs.Digraphs.{lists_of, NeedVertices, IsLeastOnLoop}
use Rattle.graph_order.specs.Searching.{placed_not_on_loop, left_on_loop}
use Rattle.net_graph.specs.WiringLaws.{IsWiring, wiring_graph, looping_on_loop, looping_among, some_object_on_loop, least_loops}
use Rattle.net_graph.specs.RankLaws.{depths_rank}
use Rattle.net_graph.proofs.rank.ranks.Goals as goal
use Rattle.net_graph.proofs.rank.ranks.Goals.{After-deref}

-- the graph as it is passed on
wired : (c : After-deref) → IsWiring c.args.objects (map node_of c.args.nodes.now) (lists_of c.deref.result.now)
wired c = subst (λ lists. IsWiring c.args.objects (map node_of c.args.nodes.now) (lists_of lists)) (sym c.deref.ensures.value) c.in_ok-needs.ensures

graph : (c : After-deref) → NeedVertices (lists_of c.deref.result.now)
graph c = wiring_graph c.args.objects (map node_of c.args.nodes.now) (lists_of c.deref.result.now) (wired c) c.requires.there

pub put_in_order-requires : goal.put_in_order-requires
put_in_order-requires c = graph (goal.at.put_in_order-requires c).After-deref

pub depths-requires-clause-graph : goal.depths-requires-clause-graph
depths-requires-clause-graph c =
    subst (λ lists. NeedVertices (lists_of lists)) (c.deref.ensures.value ∙ sym c.deref-then-all_placed.ensures.value) (graph (goal.at.depths-requires-clause-graph c).After-deref)

pub ranks_of-requires-clause-ranks : goal.ranks_of-requires-clause-ranks
ranks_of-requires-clause-ranks c =
    depths_rank c.args.objects (map node_of c.args.nodes.now) (lists_of c.deref-then-all_placed.result.now) c.in_ok-depths.depths.items
    (subst (λ lists. IsWiring c.args.objects (map node_of c.args.nodes.now) (lists_of lists)) (sym c.deref-then-all_placed.ensures.value) c.in_ok-needs.ensures) c.requires.there
    c.in_ok-depths.ensures.depths

pub returns-then-all_placed-clause-acyclic : goal.returns-then-all_placed-clause-acyclic
returns-then-all_placed-clause-acyclic c = λ o loop.
    let base = (goal.at.returns-then-all_placed-clause-acyclic c).After-deref in
    let low : o < c.args.objects = looping_among c.args.objects (map node_of c.args.nodes.now) o c.requires.there loop in
    let inside : o < length (lists_of c.deref.result.now) = omega (arith, (wired base).vertices) in
    placed_not_on_loop (lists_of c.deref.result.now) c.in_ok-order.order.placed.items c.in_ok-order.order.vertices.items o c.in_ok-order.ensures inside
    (ap (λ l. get_or l o false) (sym c.deref-2.ensures.value)
    ∙ c.all_placed.ensures.all c.if-all_placed.true o (let same : length c.deref-2.result.now ≡ length c.in_ok-order.order.placed.items = ap length c.deref-2.ensures.value in
    omega (arith, c.in_ok-order.ensures.same_length)))
    (looping_on_loop c.args.objects (map node_of c.args.nodes.now) (lists_of c.deref.result.now) o (wired base) c.requires.there loop)

pub least_on_loop-requires-clause-graph : goal.least_on_loop-requires-clause-graph
least_on_loop-requires-clause-graph c =
    subst (λ lists. NeedVertices (lists_of lists)) (c.deref.ensures.value ∙ sym c.deref-3.ensures.value) (graph (goal.at.least_on_loop-requires-clause-graph c).After-deref)

pub unreachable-requires : goal.unreachable-requires
unreachable-requires c =
    let base = (goal.at.unreachable-requires c).After-deref in
    let some = c.all_placed.ensures.some c.if-all_placed.false in
    let same : length c.deref-2.result.now ≡ length c.in_ok-order.order.placed.items = ap length c.deref-2.ensures.value in
    let low : some.0 < length (lists_of c.deref.result.now) = omega (arith, some.1, c.in_ok-order.ensures.same_length) in
    let loop =
    left_on_loop (lists_of c.deref.result.now) c.in_ok-order.order.placed.items c.in_ok-order.order.vertices.items some.0 (graph base) c.in_ok-order.ensures low
    (ap (λ l. get_or l some.0 false) (sym c.deref-2.ensures.value) ∙ some.2) in
    some_object_on_loop c.args.objects (map node_of c.args.nodes.now) (lists_of c.deref.result.now) loop.0 (wired base) c.requires.there loop.1
    (subst (λ lists. IsLeastOnLoop (lists_of lists) c.args.objects None) (c.deref-3.ensures.value ∙ sym c.deref.ensures.value)
    (subst (IsLeastOnLoop (lists_of c.deref-3.result.now) c.args.objects) c.in-None.is c.in_ok-object.ensures))

pub returns-clause-looped : goal.returns-clause-looped
returns-clause-looped c = λ object e.
    let base = (goal.at.returns-clause-looped c).After-deref in
    let is : IsLeastOnLoop (lists_of c.deref.result.now) c.args.objects (Some c.in-Some.object) =
    subst (λ lists. IsLeastOnLoop (lists_of lists) c.args.objects (Some c.in-Some.object)) (c.deref-3.ensures.value ∙ sym c.deref.ensures.value)
    (subst (IsLeastOnLoop (lists_of c.deref-3.result.now) c.args.objects) c.in-Some.is c.in_ok-object.ensures) in
    let found : IsLeastLooping (map node_of c.args.nodes.now) c.in-Some.object =
    least_loops c.args.objects (map node_of c.args.nodes.now) (lists_of c.deref.result.now) c.in-Some.object (wired base) c.requires.there is.0 is.1 is.2 in
    let told : ObjectId = record { 0 = c.in-Some.object } in
    let same : told ≡ object = cc in
    subst (IsLeastLooping (map node_of c.args.nodes.now)) (ap object_number same) found
