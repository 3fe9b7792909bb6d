use Rattle.std.proofs.Common.{rules, List, ◌≡◌, ℕ, ◌+◌, false, arith, sym, subst, inl, inr, ◌∙◌}
use Rattle.std.proofs.lemmas.Bool.{cases_lt}
use Rattle.std.proofs.lemmas.List.{get_or_read}
use Rattle.graph_order.specs.Digraphs.{lists_of, IsOnLoop, NoneOnLoop}
use Rattle.graph_order.specs.Sorting.{length-lists_of}
use Rattle.graph_order.specs.Searching.{placed_not_on_loop}
use Rattle.graph_order.proofs.search.least_on_loop.Goals as goal

-- one vertex more
none_more : (needs : List (List ℕ)) (i : ℕ) → NoneOnLoop needs i → (IsOnLoop needs i → ⊥) → NoneOnLoop needs (i + 1)
none_more needs i none here v low loop =
    elim (cases_lt v i) [
      | inl before ↦ none v before loop
      | inr past ↦ here (let same : v ≡ i = omega arith in subst (IsOnLoop needs) same loop)
    ]

pub candidates-preserved-then-index : goal.candidates-preserved-then-index
candidates-preserved-then-index c = record {
  none =
      none_more (lists_of c.args.needs.now) c.candidates.vertex c.candidates.invariant.none
      (placed_not_on_loop (lists_of c.args.needs.now) c.args.order.now.placed.items c.args.order.now.vertices.items c.candidates.vertex c.requires.order
      (omega (arith, length-lists_of c.args.needs.now))
      (sym (get_or_read c.args.order.now.placed.items c.candidates.vertex c.index.result.now (omega (arith, c.requires.order.same_length, length-lists_of c.args.needs.now)) c.index.ensures false)
      ∙ c.if-index.true));
  sized = search rules;
  blank = c.candidates.invariant.blank;
}

pub candidates-preserved : goal.candidates-preserved
candidates-preserved c = record {
  none = none_more (lists_of c.args.needs.now) c.candidates.vertex c.candidates.invariant.none (c.in_ok-is_on_loop.ensures.none c.if-branch.false);
  sized = c.in_ok-is_on_loop.ensures.sized c.if-branch.false;
  blank = c.in_ok-is_on_loop.ensures.blank c.if-branch.false;
}

pub returns : goal.returns
returns c = λ v low loop. c.candidates.invariant.none v (omega arith) loop
