use Rattle.std.proofs.Common.{ap₂, ◌∙◌}
use Rattle.std.specs.Int.Bits.{bit_or}
use Rattle.four_value.proofs.Views.{AreFields, fields_of}
use Rattle.four_value.proofs.Bitwise.{maybe_one-plane}
use Rattle.four_value.proofs.value.Vec4.maybe_one.Goals as goal

pub returns : goal.returns
returns c =
    let f : AreFields c.args.self c.self.inside.width c.self.inside.ones c.self.inside.unknowns = fields_of c.self.inside c.args.self c.self.view_is c.self.invariant in
    ap₂ bit_or f.in_ones f.in_unknowns ∙ maybe_one-plane c.args.self
