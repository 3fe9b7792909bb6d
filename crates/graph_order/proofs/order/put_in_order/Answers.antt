use Rattle.std.proofs.Common.{rules, ◌≡◌, ◌+◌, ◌<◌, ◌≤◌, [], length, get_or, set, arith, ap, sym, subst, ◌∙◌}
use Rattle.std.proofs.lemmas.List.{get_or_read}
use Rattle.vf_base.specs.Lists.{has}
use Rattle.graph_order.specs.ListLaws.{has-get_or}
use Rattle.graph_order.specs.Digraphs.{lists_of}
use Rattle.graph_order.specs.Sorting.{AllWait, VerticesWait, length-lists_of, needs_at, taken_in, IsOrder-all, AllWait-told, VerticesWait-told}
use Rattle.graph_order.proofs.order.put_in_order.Goals as goal
use Rattle.graph_order.proofs.order.put_in_order.Goals.{After-deref}

-- the next vertex of the order
next_is : (c : After-deref) → c.index-vertex.result.now ≡ get_or c.vertices.sort.vertices.items c.vertices.done 0
next_is c = get_or_read c.vertices.sort.vertices.items c.vertices.done c.index-vertex.result.now (search rules) c.index-vertex.ensures 0

in_waiters : (c : After-deref) → c.index-vertex.result.now < length c.vertices.sort.waiters.items
in_waiters c =
    let bound : get_or c.vertices.sort.vertices.items c.vertices.done 0 < length (lists_of c.args.needs.now) = c.vertices.invariant.sorting.are_vertices c.vertices.done (search rules) in
    let lists : length c.vertices.sort.waiters.items ≡ length c.args.needs.now = search rules in
    omega (arith, next_is c, length-lists_of c.args.needs.now)

told_is : (c : After-deref) → c.deref.result.now ≡ get_or (lists_of c.vertices.sort.waiters.items) c.index-vertex.result.now []
told_is c =
    c.deref.ensures.value ∙ ap (λ list. list.items) c.replace-told.ensures.value
    ∙ needs_at c.vertices.sort.waiters.items c.index-vertex.result.now c.index_mut.result.now (in_waiters c) c.index_mut.ensures.value

taken_is : (c : After-deref) → lists_of (set c.vertices.sort.waiters.items c.index-vertex.result.now c.replace-told.new.dest) ≡ set
    (lists_of c.vertices.sort.waiters.items) c.index-vertex.result.now []
taken_is c = taken_in c.vertices.sort.waiters.items c.index-vertex.result.now c.replace-told.new.dest (ap (λ list. list.items) c.replace-told.ensures.after ∙ c.new.ensures.items)

pub tell-requires-clause-told : goal.tell-requires-clause-told
tell-requires-clause-told c = λ k low.
    let base = (goal.at.tell-requires-clause-told c).After-deref in
    let bound : get_or c.deref.result.now k 0 < length (lists_of c.args.needs.now) =
    c.vertices.invariant.vertices c.index-vertex.result.now (get_or c.deref.result.now k 0)
    (ap (λ l. has l (get_or c.deref.result.now k 0)) (sym (told_is base)) ∙ has-get_or c.deref.result.now k 0 low) in
    omega (arith, length-lists_of c.args.needs.now)

pub tell-requires-clause-vertices : goal.tell-requires-clause-vertices
tell-requires-clause-vertices c =
    let base = (goal.at.tell-requires-clause-vertices c).After-deref in
    subst (VerticesWait (lists_of c.args.needs.now)) (sym (taken_is base))
    (VerticesWait-told (lists_of c.args.needs.now) (lists_of c.vertices.sort.waiters.items) c.index-vertex.result.now c.vertices.invariant.vertices
    (omega (arith, in_waiters base, length-lists_of c.vertices.sort.waiters.items)))

pub vertices-preserved : goal.vertices-preserved
vertices-preserved c = record {
  sorting = c.in_ok-tell.ensures.sorting;
  vertices = c.in_ok-tell.ensures.vertices;
  lists = c.in_ok-tell.ensures.lists;
  within = let longer : length c.vertices.sort.vertices.items ≤ length c.tell.new.sort.vertices.items = c.in_ok-tell.ensures.longer in
      let inside : c.vertices.done < length c.vertices.sort.vertices.items = search rules in search rules;
  waiting =
      let base = (goal.at.vertices-preserved c).After-deref in
      let inside : c.vertices.done < length c.vertices.sort.vertices.items = search rules in
      c.in_ok-tell.ensures.waiting (c.vertices.done + 1) (omega arith)
      (subst (λ waiters. AllWait (lists_of c.args.needs.now) waiters c.vertices.sort.placed.items c.vertices.sort.vertices.items (c.vertices.done + 1) (has c.deref.result.now)) (sym (taken_is base))
      (AllWait-told (lists_of c.args.needs.now) (lists_of c.vertices.sort.waiters.items) c.vertices.sort.placed.items c.vertices.sort.vertices.items c.vertices.done c.index-vertex.result.now
      c.deref.result.now
      inside (next_is base) (told_is base) c.vertices.invariant.waiting));
}

pub returns : goal.returns
returns c =
    IsOrder-all (lists_of c.args.needs.now) (lists_of c.vertices.sort.waiters.items) c.vertices.sort.met.items c.vertices.sort.placed.items c.vertices.sort.vertices.items c.vertices.done
    c.requires c.vertices.invariant.sorting (search rules) c.vertices.invariant.waiting
