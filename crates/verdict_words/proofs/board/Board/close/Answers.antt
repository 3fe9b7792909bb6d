use Rattle.std.proofs.Common.{refl, ap, subst, sym, ◌∙◌, ℕ, List, slice_index, ◌+◌}
use Rattle.verdict_words.specs.Codes.{codes_of}
use Rattle.verdict_words.specs.Rule.{Kept}
use Rattle.verdict_words.specs.declared.rule.Sizes.{Sizes}
use Rattle.verdict_words.proofs.Steps.{closes}
use Rattle.verdict_words.proofs.board.Board.close.Goals as goal

pub returns : goal.returns
returns g c = let codes = codes_of g.N.World.design g.N.World.plan in
    let end = c.close_with-closed.ensures.values.2 in let s = end.0 in let kept = subst (λ (k : Sizes). Kept codes k s.words s.views) c.args.self.key end.1.0 in
    let copied = c.in_ok-words.ensures in
    rw (c.of.ensures, c.of-last.ensures) (
      refl,
      refl,
      closes codes c.args.self.sizes s.words s.views kept c.args.seat.seat.id c.args.seat.seat.me.0 end.1.1 c.requires.whole c.in_ok-words.words.items copied.0
          (λ f h. copied.1 f h ∙ ap (λ (ws : List ℕ). slice_index ws (f + 1)) (sym end.2)),
    )
