use Rattle.std.proofs.Common.{rules, ◌≡◌, ℕ, ◌<◌, ◌≤◌, true, false, length, get_or, ap, ◌∙◌, sym, subst, arith, set}
use Rattle.std.proofs.lemmas.List.{get_or_read}
use Rattle.graph_order.specs.Digraphs.{lists_of, needs_of}
use Rattle.graph_order.specs.Sorting.{IsSorting, AllWait, one_less, length-lists_of, needs_at, own_need, met_to, waits_in, IsSorting-met, IsSorting-place, AllWait-wait, AllWait-place, VerticesWait}
use Rattle.graph_order.specs.Sorting.{VerticesWait-wait}
use Rattle.graph_order.specs.ListLaws.{has-get_or}
use Rattle.vf_base.specs.Lists.{has}
use Rattle.graph_order.proofs.order.place_or_wait.Goals as goal
use Rattle.graph_order.proofs.order.place_or_wait.Goals.{After-first_missing-at, After-len}

low : (c : After-len) → c.args.vertex < length (lists_of c.args.needs.now)
low c = let v : c.args.vertex < length c.args.needs.now = c.requires.vertex in omega (arith, length-lists_of c.args.needs.now)

own_is : (c : After-len) → c.index-needs-vertex.result.items ≡ needs_of (lists_of c.args.needs.now) c.args.vertex
own_is c = needs_at c.args.needs.now c.args.vertex c.index-needs-vertex.result c.requires.vertex c.index-needs-vertex.is

all_met : (c : After-len) → (k : ℕ) → k < c.first_missing-at.result → get_or c.args.sort.now.placed.items (get_or (needs_of (lists_of c.args.needs.now) c.args.vertex) k 0) false ≡ true
all_met c =
    met_to (lists_of c.args.needs.now) c.args.sort.now.met.items c.args.sort.now.placed.items c.args.sort.now.vertices.items c.args.vertex c.first_missing-at.result c.index-needs-vertex.result.items
    c.requires.sorting (low c) (own_is c)
    (λ k past before. c.first_missing-at.ensures.placed k
    (let at : c.index-2.result.now ≡ get_or c.args.sort.now.met.items c.args.vertex 0 = get_or_read c.args.sort.now.met.items c.args.vertex c.index-2.result.now
    (omega (arith, low c, c.requires.sorting.met_length)) c.index-2.ensures 0 in omega arith) before)

is_free : (c : After-len) → get_or c.args.sort.now.placed.items c.args.vertex false ≡ false
is_free c = sym (get_or_read c.args.sort.now.placed.items c.args.vertex c.index.result.now (omega (arith, low c, c.requires.sorting.placed_length)) c.index.ensures false) ∙ c.if-index.false

pub first_missing-at-requires-clause-are_vertices : goal.first_missing-at-requires-clause-are_vertices
first_missing-at-requires-clause-are_vertices c = λ k low.
    let need : get_or c.index-needs-vertex.result.items k 0 < length c.args.needs.now = own_need c.args.needs.now c.args.vertex c.index-needs-vertex.result k c.requires.graph c.requires.vertex
    c.index-needs-vertex.is (search rules) in
    omega (arith, length-lists_of c.args.needs.now, c.requires.sorting.placed_length)

pub index_mut-requires-then-at-len : goal.index_mut-requires-then-at-len
index_mut-requires-then-at-len c =
    let need : get_or c.index-needs-vertex.result.items c.first_missing-at.result 0 < length c.args.needs.now =
    own_need c.args.needs.now c.args.vertex c.index-needs-vertex.result c.first_missing-at.result c.requires.graph c.requires.vertex c.index-needs-vertex.is (search rules) in
    let same : c.index-then-at-len.result.now ≡ get_or c.index-needs-vertex.result.items c.first_missing-at.result 0 =
    get_or_read c.index-needs-vertex.result.items c.first_missing-at.result c.index-then-at-len.result.now (search rules) c.index-then-at-len.ensures 0 in
    omega arith

pub returns-in_ok-push-clause-sorting : goal.returns-in_ok-push-clause-sorting
returns-in_ok-push-clause-sorting c =
    let all = all_met (goal.at.returns-in_ok-push-clause-sorting c).After-len in
    IsSorting-met (lists_of c.args.needs.now) c.args.sort.now.met.items c.args.sort.now.placed.items c.args.sort.now.vertices.items c.args.vertex c.first_missing-at.result c.requires.sorting
    (low (goal.at.returns-in_ok-push-clause-sorting c).After-len)
    (subst (λ l. c.first_missing-at.result ≤ length l) (own_is (goal.at.returns-in_ok-push-clause-sorting c).After-len) (search rules)) all

pub returns-in_ok-push-clause-waiting : goal.returns-in_ok-push-clause-waiting
returns-in_ok-push-clause-waiting c = λ done but within had.
    let base = (goal.at.returns-in_ok-push-clause-waiting c).After-len in
    let inside : c.first_missing-at.result < length c.index-needs-vertex.result.items = search rules in
    let d : ℕ = c.index-then-at-len.result.now in
    let same : c.index-then-at-len.result.now ≡ get_or c.index-needs-vertex.result.items c.first_missing-at.result 0 =
    get_or_read c.index-needs-vertex.result.items c.first_missing-at.result c.index-then-at-len.result.now inside c.index-then-at-len.ensures 0 in
    let need : get_or c.index-needs-vertex.result.items c.first_missing-at.result 0 < length c.args.needs.now =
    own_need c.args.needs.now c.args.vertex c.index-needs-vertex.result c.first_missing-at.result c.requires.graph c.requires.vertex c.index-needs-vertex.is inside in
    let needed : has (needs_of (lists_of c.args.needs.now) c.args.vertex) c.index-then-at-len.result.now ≡ true =
    ap (λ l. has l c.index-then-at-len.result.now) (sym (own_is base)) ∙ ap (has c.index-needs-vertex.result.items) same
    ∙ has-get_or c.index-needs-vertex.result.items c.first_missing-at.result 0 inside in
    let unmet : get_or c.args.sort.now.placed.items c.index-then-at-len.result.now false ≡ false = ap (λ j. get_or c.args.sort.now.placed.items j false) same
    ∙ c.first_missing-at.ensures.missing (search rules) in
    let in_lists : c.index-then-at-len.result.now < length c.args.sort.now.waiters.items = omega arith in
    subst (λ waiters. AllWait (lists_of c.args.needs.now) waiters c.args.sort.now.placed.items c.args.sort.now.vertices.items done (one_less but c.args.vertex))
    (sym (waits_in c.args.sort.now.waiters.items c.index-then-at-len.result.now c.args.vertex c.index_mut-then-at-len.result.now c.push.new.self in_lists c.index_mut-then-at-len.ensures.value
    c.in_ok-push.ensures.items))
    (AllWait-wait (lists_of c.args.needs.now) (lists_of c.args.sort.now.waiters.items) c.args.sort.now.placed.items c.args.sort.now.vertices.items done but c.args.vertex c.index-then-at-len.result.now
    c.requires.sorting.places (omega (arith, length-lists_of c.args.needs.now)) (omega (arith, length-lists_of c.args.needs.now, length-lists_of c.args.sort.now.waiters.items)) needed unmet had)

pub returns-in_ok-push-2-clause-sorting : goal.returns-in_ok-push-2-clause-sorting
returns-in_ok-push-2-clause-sorting c =
    let base = (goal.at.returns-in_ok-push-2-clause-sorting c).After-len in
    subst (λ vertices. IsSorting (lists_of c.args.needs.now) (set c.args.sort.now.met.items c.args.vertex c.first_missing-at.result) (set c.args.sort.now.placed.items c.args.vertex true) vertices)
    (sym c.in_ok-push-2.ensures.items)
    (IsSorting-place (lists_of c.args.needs.now) c.args.sort.now.met.items c.args.sort.now.placed.items c.args.sort.now.vertices.items c.args.vertex c.first_missing-at.result c.requires.sorting
    c.requires.graph
    (low base) (is_free base)
    (let all : c.first_missing-at.result ≡ length c.index-needs-vertex.result.items = search rules in all ∙ ap length (own_is base)) (all_met base))

pub returns-in_ok-push-2-clause-waiting : goal.returns-in_ok-push-2-clause-waiting
returns-in_ok-push-2-clause-waiting c = λ done but within had.
    let base = (goal.at.returns-in_ok-push-2-clause-waiting c).After-len in
    subst (λ vertices. AllWait (lists_of c.args.needs.now) (lists_of c.args.sort.now.waiters.items) (set c.args.sort.now.placed.items c.args.vertex true) vertices done (one_less but c.args.vertex))
    (sym c.in_ok-push-2.ensures.items)
    (AllWait-place (lists_of c.args.needs.now) (lists_of c.args.sort.now.waiters.items) c.args.sort.now.placed.items c.args.sort.now.vertices.items done but c.args.vertex
    (omega (arith, low base, c.requires.sorting.placed_length)) within had)

pub returns-in_ok-push-clause-vertices : goal.returns-in_ok-push-clause-vertices
returns-in_ok-push-clause-vertices c = λ had.
    let inside : c.first_missing-at.result < length c.index-needs-vertex.result.items = search rules in
    let same : c.index-then-at-len.result.now ≡ get_or c.index-needs-vertex.result.items c.first_missing-at.result 0 =
    get_or_read c.index-needs-vertex.result.items c.first_missing-at.result c.index-then-at-len.result.now inside c.index-then-at-len.ensures 0 in
    let need : get_or c.index-needs-vertex.result.items c.first_missing-at.result 0 < length c.args.needs.now =
    own_need c.args.needs.now c.args.vertex c.index-needs-vertex.result c.first_missing-at.result c.requires.graph c.requires.vertex c.index-needs-vertex.is inside in
    let in_lists : c.index-then-at-len.result.now < length c.args.sort.now.waiters.items = omega arith in
    subst (VerticesWait (lists_of c.args.needs.now))
    (sym (waits_in c.args.sort.now.waiters.items c.index-then-at-len.result.now c.args.vertex c.index_mut-then-at-len.result.now c.push.new.self in_lists c.index_mut-then-at-len.ensures.value
    c.in_ok-push.ensures.items))
    (VerticesWait-wait (lists_of c.args.needs.now) (lists_of c.args.sort.now.waiters.items) c.index-then-at-len.result.now c.args.vertex had
    (low (goal.at.returns-in_ok-push-clause-vertices c).After-len)
    (omega (arith, length-lists_of c.args.sort.now.waiters.items)))
