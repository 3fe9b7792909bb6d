use Rattle.std.proofs.Common.{◌≡◌, ◌<◌, ◌^◌, drop}
use Rattle.text_lines.specs.Text.{number_after}
use Rattle.text_lines.proofs.number.digits_value.Given as goal

abbrev pub invariant-loop-digit : goal.invariant-loop-digit
invariant-loop-digit l = record { small : l.value < 10 ^ l.digit-index; value : number_after l.value (drop l.digit-index l.word) ≡ number_after 0 l.word }
