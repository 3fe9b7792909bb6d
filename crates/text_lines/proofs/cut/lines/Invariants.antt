use Rattle.std.proofs.Common.{◌≡◌, ◌++◌, ◌+◌, ◌≤◌, length}
use Rattle.text_lines.specs.Text.{lines_of}
use Rattle.text_lines.specs.Plain.{plain_texts}
use Rattle.text_lines.proofs.cut.lines.Given as goal

abbrev pub invariant-lines : goal.invariant-lines
invariant-lines l = record {
  lines : plain_texts l.lines.items ++ lines_of l.rest ≡ lines_of l.text;
  few : length l.lines.items + length l.rest ≤ length l.text;
}

abbrev pub decreases-lines : goal.decreases-lines
decreases-lines l = length l.rest
