use Rattle.std.proofs.Common.{◌≡◌, take, false}
use Rattle.std.specs.List.{AllByRecursion}
use Rattle.text_lines.specs.Text.{is_space}
use Rattle.text_lines.proofs.cut.word_length.Given as goal

abbrev pub invariant-loop-i : goal.invariant-loop-i
invariant-loop-i l = AllByRecursion (λ b. is_space b ≡ false) (take l.i l.text)
