use Rattle.std.proofs.Common.{◌≡◌, arith, ap, min, length, take, replicate, ◌++◌, ◌∙◌}
use Rattle.four_value.specs.Values.{shifted}
use Rattle.four_value.specs.declared.logic.Bit.TheVariants.{Zero}
use Rattle.four_value.proofs.Views.{AreFields, fields_of, view_of}
use Rattle.four_value.proofs.Places.{shl_fields}
use Rattle.four_value.proofs.value.Vec4.shl.Goals as goal

pub returns : goal.returns
returns c =
    let f : AreFields c.args.self c.self.inside.width c.self.inside.ones c.self.inside.unknowns = fields_of c.self.inside c.args.self c.self.view_is c.self.invariant in
    let made : AreFields (take (length c.args.self) (replicate c.in-Some.amount Zero ++ c.args.self)) c.self.inside.width _ _
    = shl_fields c.args.self _ _ _ c.in-Some.amount _ _ f c.self.invariant.1 c.mask.ensures c.mask-2.ensures in
    let least : c.in-Some.amount ≡ min c.in-Some.amount (length c.args.self) = omega arith in
    view_of _ _ _ _ made ∙ ap (λ n. take (length c.args.self) (replicate n Zero ++ c.args.self)) least
    ∙ ap (shifted (λ n. take (length c.args.self) (replicate n Zero ++ c.args.self)) c.args.self) c.in-Some.ensures
