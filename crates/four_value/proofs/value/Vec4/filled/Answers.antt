use Rattle.std.proofs.Common.{replicate}
use Rattle.four_value.proofs.Views.{AreFields, fields_fit, view_of}
use Rattle.four_value.proofs.Parts.{filled_fields}
use Rattle.four_value.proofs.value.Vec4.filled.Goals as goal

pub invariant_of-result : goal.invariant_of-result
invariant_of-result c =
    let made : AreFields (replicate c.args.width c.args.bit) c.args.width _ _
    = filled_fields c.args.bit c.args.width _ _ _ _ c.stands_in_ones.ensures c.stands_in_unknowns.ensures c.repeated.ensures c.repeated-2.ensures in
    fields_fit _ _ _ _ made c.requires

pub returns : goal.returns
returns c =
    let made : AreFields (replicate c.args.width c.args.bit) c.args.width _ _
    = filled_fields c.args.bit c.args.width _ _ _ _ c.stands_in_ones.ensures c.stands_in_unknowns.ensures c.repeated.ensures c.repeated-2.ensures in
    view_of _ _ _ _ made
