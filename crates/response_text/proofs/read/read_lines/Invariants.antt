use Rattle.std.proofs.Common.{◌≡◌, ◌+◌, drop}
use Rattle.kept_samples.specs.Kept.{samples_kept}
use Rattle.text_lines.specs.Plain.{plain_texts}
use Rattle.response_text.specs.Reading.{samples_on}
use Rattle.response_text.proofs.ReadLines.{samples_behind}
use Rattle.response_text.proofs.read.read_lines.Given as goal

abbrev pub invariant-lines : goal.invariant-lines
invariant-lines l =
    samples_on l.width 1 l.strobes (plain_texts l.lines)
    ≡ samples_behind (samples_kept l.samples.items) (samples_on l.width (l.place + 1) (drop l.place l.strobes) (drop l.place (plain_texts l.lines)))
