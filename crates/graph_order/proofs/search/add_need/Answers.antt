use Rattle.std.proofs.Common.{◌∷◌, ◌++◌, false, true, [], get_or, set, arith, sym, subst, ◌∙◌, vec_len}
use Rattle.std.proofs.lemmas.Bool.{both_ways}
use Rattle.std.proofs.lemmas.List.{get_or_read}
use Rattle.graph_order.specs.Searching.{IsSearch, AddsNeeds, IsSearch-more, AddsNeeds-skip, AddsNeeds-more}
use Rattle.graph_order.proofs.search.add_need.Goals as goal

pub returns-then-index-clause-adds : goal.returns-then-index-clause-adds
returns-then-index-clause-adds c = λ vertex own before other search had.
    AddsNeeds-skip c.args.placed.now.items vertex own before c.args.found.now.items c.args.need had
    (λ free. absurd (both_ways (get_or c.args.placed.now.items c.args.need false) free (sym (get_or_read c.args.placed.now.items c.args.need c.index.result.now (omega arith) c.index.ensures false)
    ∙ c.if-index.true)))

pub returns-then-index-2-clause-adds : goal.returns-then-index-2-clause-adds
returns-then-index-2-clause-adds c = λ vertex own before other had_search had.
    AddsNeeds-skip c.args.placed.now.items vertex own before c.args.found.now.items c.args.need had
    (λ free. (
      sym (had_search.marked c.args.need c.requires.need other) ∙ sym (get_or_read c.args.seen.now.items c.args.need c.index-2.result.now (omega arith) c.index-2.ensures false)
          ∙ c.if-index-2.true,
      other,
    ))

pub returns-clause-search : goal.returns-clause-search
returns-clause-search c = λ vertex other had.
    subst (IsSearch (vec_len c.args.placed.now) vertex (set c.args.seen.now.items c.args.need true)) (sym c.in_ok-push.ensures.items)
    (IsSearch-more (vec_len c.args.placed.now) vertex c.args.seen.now.items c.args.found.now.items c.args.need had c.requires.need other
    (sym (get_or_read c.args.seen.now.items c.args.need c.index-2.result.now (omega arith) c.index-2.ensures false) ∙ c.if-index-2.false))

pub returns-clause-adds : goal.returns-clause-adds
returns-clause-adds c = λ vertex own before other had_search had.
    subst (AddsNeeds c.args.placed.now.items vertex (own ++ c.args.need ∷ []) before) (sym c.in_ok-push.ensures.items)
    (AddsNeeds-more c.args.placed.now.items vertex own before c.args.found.now.items c.args.need had other)
