use Rattle.std.proofs.Common.{◌≡◌, ◌+◌, ◌∷◌, ◌∙◌, ap, length-append, take, take_all, length, slice_index, false, arith}
use Rattle.std.specs.List.{AllByRecursion}
use Rattle.text_lines.specs.Text.{is_line_feed}
use Rattle.text_lines.proofs.Cuts.{lines-more, lines-end}
use Rattle.text_lines.proofs.cut.lines.Goals as goal

pub lines-preserved-then-count-rest : goal.lines-preserved-then-count-rest
lines-preserved-then-count-rest c =
    let text = c.lines.rest.now in let n = c.line_length-count.result in
    let size : length text ≡ length (take n text) + length (slice_index text n ∷ c.rest_of-rest.result.now) = ap length c.rest_of-rest.ensures
    ∙ length-append (take n text) (slice_index text n ∷ c.rest_of-rest.result.now) in
    record {
      lines = lines-more _ _ _ text (take n text) c.rest_of-rest.result.now (slice_index text n) c.lines.invariant.lines
          (rw (c.without_return.ensures, c.piece.ensures) at c.in_ok-push_line.ensures.added) c.rest_of-rest.ensures c.line_length-count.ensures.line
          (c.line_length-count.ensures.ends c.if-count-rest.true);
      few = omega (arith, c.lines.invariant.few, c.in_ok-push_line.ensures.one, size);
    }

pub returns-clause-lines : goal.returns-clause-lines
returns-clause-lines c =
    let text = c.lines.rest.now in
    let none : AllByRecursion (λ b. is_line_feed b ≡ false) text = rw (take_all c.line_length.result text c.lines-test.false) at c.line_length.ensures.line in
    lines-end _ _ _ text c.lines.invariant.lines c.in_ok-push_word.ensures.added none
