use Rattle.std.proofs.Common.{arith, ap, ◌-◌, ◌^◌, ◌∙◌}
use Rattle.std.proofs.lemmas.Nat.Bits.{ones_shr}
use Rattle.four_value.proofs.value.mask.Goals as goal

pub returns : goal.returns
returns c = ones_shr 128 (128 - c.args.width) (omega (arith, c.requires)) ∙ ap (λ k. 2 ^ k - 1) (omega (arith, c.requires))
