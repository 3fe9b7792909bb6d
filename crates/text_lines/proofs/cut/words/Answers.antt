use Rattle.std.proofs.Common.{◌≡◌, take, take_all, slice_index, false}
use Rattle.std.specs.List.{AllByRecursion}
use Rattle.text_lines.specs.Text.{is_space}
use Rattle.text_lines.proofs.Cuts.{words-more, words-end}
use Rattle.text_lines.proofs.cut.words.Goals as goal

pub pieces-preserved-then-count-rest : goal.pieces-preserved-then-count-rest
pieces-preserved-then-count-rest c =
    let text = c.pieces.rest.now in let n = c.word_length-count.result in
    words-more _ _ _ text (take n text) c.rest_of-rest.result.now (slice_index text n) c.pieces.invariant
    (rw c.piece.ensures at c.in_ok-push_word.ensures.added) c.rest_of-rest.ensures c.word_length-count.ensures.word (c.word_length-count.ensures.ends c.if-count-rest.true)

pub returns : goal.returns
returns c =
    let text = c.pieces.rest.now in
    let none : AllByRecursion (λ b. is_space b ≡ false) text = rw (take_all c.word_length.result text c.pieces-test.false) at c.word_length.ensures.word in
    words-end _ _ _ text c.pieces.invariant c.in_ok-push_word-2.ensures.added none
