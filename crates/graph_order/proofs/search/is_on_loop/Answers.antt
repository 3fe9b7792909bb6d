use Rattle.std.proofs.Common.{rules, ◌≡◌, ◌<◌, ◌∷◌, ◌++◌, false, true, [], get_or, length, vec_len, arith, ap, sym, subst, inl, inr, ◌∙◌}
use Rattle.std.specs.Prelude.{nat_eq}
use Rattle.std.proofs.lemmas.Bool.{or_cases, eqb-true}
use Rattle.std.proofs.lemmas.List.{get_or_read}
use Rattle.vf_base.specs.Lists.{has}
use Rattle.graph_order.specs.ListLaws.{has-get_or}
use Rattle.graph_order.specs.Digraphs.{lists_of}
use Rattle.graph_order.specs.Sorting.{length-lists_of}
use Rattle.graph_order.specs.Searching.{IsSearch, AddsNeeds, IsSearch-none, AreReached-more, IsClosed-more, closes_loop, no_loop}
use Rattle.graph_order.proofs.search.is_on_loop.Goals as goal
use Rattle.graph_order.proofs.search.is_on_loop.Goals.{In_ok-push, After-index, After-needs_at-own}

alone : (c : In_ok-push) → c.push.new.self.items ≡ c.args.vertex ∷ []
alone c = c.in_ok-push.ensures.items ∙ ap (λ l. l ++ c.args.vertex ∷ []) c.clear.ensures.items

pub found-init : goal.found-init
found-init c = record {
  search =
      subst (IsSearch (vec_len c.args.order.now.placed) c.args.vertex c.args.seen.now.items) (sym (alone c))
      (IsSearch-none (vec_len c.args.order.now.placed) c.args.vertex c.args.seen.now.items (omega (arith, c.requires.vertex, c.requires.order.same_length, length-lists_of c.args.needs.now))
      (omega (arith, c.requires.order.same_length, length-lists_of c.args.needs.now)) c.requires.blank);
  within = search rules;
  reached = λ v e.
      elim (or_cases (nat_eq c.args.vertex v) false (ap (λ l. has l v) (sym (alone c)) ∙ e)) [
        | inl same ↦ inl (sym (eqb-true c.args.vertex v same))
        | inr none ↦ absurd (cc)
      ];
  closed = λ v d e needed free. absurd (cc);
}

next_is : (c : After-index) → c.index.result.now ≡ get_or c.found.found.items c.found.done 0
next_is c = get_or_read c.found.found.items c.found.done c.index.result.now (omega arith) c.index.ensures 0

next_low : (c : After-index) → c.index.result.now < length c.args.needs.now
next_low c =
    let bound : get_or c.found.found.items c.found.done 0 < vec_len c.args.order.now.placed = c.found.invariant.search.are_vertices c.found.done (omega arith) in
    omega (arith, next_is c, c.requires.order.same_length, length-lists_of c.args.needs.now)

next_found : (c : After-index) → has c.found.found.items c.index.result.now ≡ true
next_found c = ap (has c.found.found.items) (next_is c) ∙ has-get_or c.found.found.items c.found.done 0 (omega arith)

pub needs_at-own-requires : goal.needs_at-own-requires
needs_at-own-requires c = next_low (goal.at.needs_at-own-requires c).After-index

pub add_needs-requires-clause-own : goal.add_needs-requires-clause-own
add_needs-requires-clause-own c = λ k low.
    let bound : get_or c.needs_at-own.result.now k 0 < length (lists_of c.args.needs.now) =
    c.requires.graph c.index.result.now (get_or c.needs_at-own.result.now k 0) (ap (λ l. has l (get_or c.needs_at-own.result.now k 0)) (sym c.needs_at-own.ensures)
    ∙ has-get_or c.needs_at-own.result.now k 0 low) in
    omega (arith, c.requires.order.same_length)

pub returns-then-branch-clause-loops : goal.returns-then-branch-clause-loops
returns-then-branch-clause-loops c = λ _.
    closes_loop (lists_of c.args.needs.now) c.args.vertex c.index.result.now c.found.found.items c.found.invariant.reached (next_found (goal.at.returns-then-branch-clause-loops c).After-index)
    (ap (λ l. has l c.args.vertex) (sym c.needs_at-own.ensures) ∙ c.in_ok-add_needs.ensures.back c.if-branch.true)

pub found-preserved : goal.found-preserved
found-preserved c =
    let base = (goal.at.found-preserved c).After-index in
    let adds : AddsNeeds c.args.order.now.placed.items c.args.vertex c.needs_at-own.result.now c.found.found.items c.add_needs.new.found.items = c.in_ok-add_needs.ensures.adds c.if-branch.false in
    let inside : c.found.done < length c.found.found.items = omega arith in
    record {
      search = c.in_ok-add_needs.ensures.search;
      within = omega (arith, adds.longer);
      reached =
          AreReached-more (lists_of c.args.needs.now) c.args.order.now.placed.items c.args.vertex c.index.result.now c.needs_at-own.result.now c.found.found.items c.add_needs.new.found.items adds
          c.needs_at-own.ensures (next_found base) c.found.invariant.reached;
      closed =
          IsClosed-more (lists_of c.args.needs.now) c.args.order.now.placed.items c.args.vertex c.found.done c.index.result.now c.needs_at-own.result.now c.found.found.items
          c.add_needs.new.found.items adds
          c.needs_at-own.ensures inside (next_is base) c.found.invariant.closed;
    }

pub returns-clause-none : goal.returns-clause-none
returns-clause-none c = λ _.
    no_loop (lists_of c.args.needs.now) c.args.order.now.placed.items c.args.order.now.vertices.items c.args.vertex c.found.done c.found.found.items c.requires.graph c.requires.order c.requires.free
    (search rules) c.found.invariant.closed c.found.invariant.search.begins
