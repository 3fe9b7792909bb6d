use Rattle.std.proofs.Common.{◌≡◌, ◌++◌}
use Rattle.text_lines.specs.Plain.{plain_texts}
use Rattle.cert_laws.specs.Claims.{parts_of}
use Rattle.cert_text.specs.Views.{split_behind}
use Rattle.cert_text.proofs.Cutting.{left}
use Rattle.cert_text.proofs.parts.parts.Given as goal

abbrev pub invariant-parts : goal.invariant-parts
invariant-parts l = plain_texts l.parts.items ++ split_behind 32 l.rest ≡ parts_of l.line

abbrev pub decreases-parts : goal.decreases-parts
decreases-parts l = left l.rest
