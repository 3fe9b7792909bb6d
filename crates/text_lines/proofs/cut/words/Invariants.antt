use Rattle.std.proofs.Common.{◌≡◌, ◌++◌, length}
use Rattle.text_lines.specs.Text.{words_of}
use Rattle.text_lines.specs.Plain.{plain_texts}
use Rattle.text_lines.proofs.Cuts.{pieces_of}
use Rattle.text_lines.proofs.cut.words.Given as goal

abbrev pub invariant-pieces : goal.invariant-pieces
invariant-pieces l = plain_texts l.words.items ++ pieces_of l.rest ≡ words_of l.line

abbrev pub decreases-pieces : goal.decreases-pieces
decreases-pieces l = length l.rest
