use Rattle.std.proofs.Common.{◌≡◌, ap, ◌∙◌}
use Rattle.std.specs.Prelude.{reverse}
use Rattle.vf_base.specs.Base.{watched_bit}
use Rattle.plan_read.specs.Plain.{watched_bits}
use Rattle.plan_read.specs.Watched.{bits_spelled}
use Rattle.plan_read.proofs.Reversed.{map-reverse}
use Rattle.plan_read.proofs.watch.bits_of.Goals as goal

pub returns : goal.returns
unfolding bits_spelled
returns c = ap watched_bits c.reverse.ensures.items ∙ map-reverse watched_bit c.in_ok-bits.bits.items ∙ ap reverse c.in_ok-bits.ensures
