use Rattle.std.proofs.Common.{◌≡◌, take, false}
use Rattle.std.specs.List.{AllByRecursion}
use Rattle.text_lines.specs.Text.{is_line_feed}
use Rattle.text_lines.proofs.cut.line_length.Given as goal

abbrev pub invariant-loop-i : goal.invariant-loop-i
invariant-loop-i l = AllByRecursion (λ b. is_line_feed b ≡ false) (take l.i l.text)
