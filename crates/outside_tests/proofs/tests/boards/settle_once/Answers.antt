use Rattle.std.proofs.Common.{ap, subst, ◌∙◌}
use Rattle.verdict_words.specs.declared.view.View.{View}
use Rattle.verdict_words.specs.Codes.{codes_of}
use Rattle.verdict_words.specs.Rule.{Closing}
use Rattle.verdict_words.specs.Views.{without_lent}
use Rattle.verdict_words.specs.Last.{sizes_of, words_of}
use Rattle.verdict_words.proofs.OneMoves.{one_moved}
use Rattle.outside_tests.proofs.tests.boards.settle_once.Goals as goal

pub returns : goal.returns
returns g c = let k = c.in_ok-closed.ensures in let s = c.split-one.ensures in let first = c.in_ok-board.ensures.3 in
    let last = subst (λ (v : View). Closing (codes_of g.N.World.design g.N.World.plan) (sizes_of c.in_ok-closed.closed) (words_of c.in_ok-closed.closed) v) (k.1 ∙ c.join-seat.ensures.both) k.2 in
    one_moved _ _ _ 0 c.args.code _ _ _ _ _ _ (ap (λ (v : View). v.moved) (s.old ∙ ap without_lent first)) (ap (λ (v : View). v.moved) s.new) c.join-a.ensures.first.1 c.join-a.ensures.second.1 last
