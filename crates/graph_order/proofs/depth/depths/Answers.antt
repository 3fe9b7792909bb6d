use Rattle.std.proofs.Common.{rules, ◌≡◌, ℕ, ◌+◌, ◌<◌, length, get_or, arith, ap, sym, subst, map, ◌∙◌}
use Rattle.vf_base.specs.Lists.{greatest}
use Rattle.graph_order.specs.Digraphs.{lists_of, step_to}
use Rattle.graph_order.specs.Sorting.{length-lists_of, needs_at, own_need}
use Rattle.graph_order.specs.Depths.{DepthsBefore-more, DepthsBefore-all}
use Rattle.graph_order.proofs.depth.depths.Goals as goal
use Rattle.graph_order.proofs.depth.depths.Goals.{After-deref}

vertex_low : (c : After-deref) → get_or c.deref-vertex-items.result.now c.vertices.vertex-index 0 < length c.args.needs.now
vertex_low c =
    let bound : get_or c.args.order.now.vertices.items c.vertices.vertex-index 0 < length (lists_of c.args.needs.now) = c.requires.order.are_vertices c.vertices.vertex-index (search rules) in
    let same : get_or c.deref-vertex-items.result.now c.vertices.vertex-index 0 ≡ get_or c.args.order.now.vertices.items c.vertices.vertex-index 0 =
    ap (λ l. get_or l c.vertices.vertex-index 0) c.deref-vertex-items.ensures.value in
    omega (arith, length-lists_of c.args.needs.now)

pub depth_over-depth-requires-clause-within : goal.depth_over-depth-requires-clause-within
depth_over-depth-requires-clause-within c = λ k low.
    let base = (goal.at.depth_over-depth-requires-clause-within c).After-deref in
    let need : get_or c.index-needs-vertex.result.items k 0 < length c.args.needs.now =
    own_need c.args.needs.now (get_or c.deref-vertex-items.result.now c.vertices.vertex-index 0) c.index-needs-vertex.result k c.requires.graph (vertex_low base) c.index-needs-vertex.is
    (subst (λ l. k < length l) c.deref.ensures.value low) in
    let same : get_or c.deref.result.now k 0 ≡ get_or c.index-needs-vertex.result.items k 0 = ap (λ l. get_or l k 0) c.deref.ensures.value in
    omega (arith, length-lists_of c.args.needs.now, c.vertices.invariant.same_length)

pub vertices-preserved : goal.vertices-preserved
vertices-preserved c =
    let base = (goal.at.vertices-preserved c).After-deref in
    let x : ℕ = get_or c.deref-vertex-items.result.now c.vertices.vertex-index 0 in
    DepthsBefore-more (lists_of c.args.needs.now) c.args.counted c.args.order.now.vertices.items c.vertices.vertex-index c.vertices.depths.items
    (get_or c.deref-vertex-items.result.now c.vertices.vertex-index 0) c.depth_over-depth.result
    c.requires.order.in_order (search rules) (ap (λ l. get_or l c.vertices.vertex-index 0) c.deref-vertex-items.ensures.value)
    (let low = vertex_low base in omega (arith, length-lists_of c.args.needs.now))
    (c.depth_over-depth.ensures
    ∙ ap (λ step. greatest (map (λ need. get_or c.vertices.depths.items need 0 + step) c.deref.result.now)) c.step_to.ensures
    ∙ ap (λ l. greatest (map (λ need. get_or c.vertices.depths.items need 0 + step_to c.args.counted (get_or c.deref-vertex-items.result.now c.vertices.vertex-index 0)) l))
    (c.deref.ensures.value ∙ needs_at c.args.needs.now (get_or c.deref-vertex-items.result.now c.vertices.vertex-index 0) c.index-needs-vertex.result (vertex_low base) c.index-needs-vertex.is))
    c.vertices.invariant

pub returns-clause-depths : goal.returns-clause-depths
returns-clause-depths c =
    DepthsBefore-all (lists_of c.args.needs.now) c.args.counted c.args.order.now.vertices.items c.vertices.vertex-index c.vertices.depths.items (search rules)
    (λ v low. sym (c.requires.order.places v low) ∙ c.requires.all v (omega (arith, length-lists_of c.args.needs.now))) c.vertices.invariant
