use Rattle.four_value.specs.Values.{bits_of}
use Rattle.four_value.proofs.Views.{AreFields, fields_fit, view_of}
use Rattle.four_value.proofs.Parts.{number_fields}
use Rattle.four_value.proofs.value.Vec4.from_number.Goals as goal

pub invariant_of-result : goal.invariant_of-result
invariant_of-result c =
    let made : AreFields (bits_of c.args.width c.args.value) c.args.width _ 0 = number_fields c.args.width c.args.value _ c.mask.ensures in
    fields_fit _ _ _ _ made c.requires

pub returns : goal.returns
returns c =
    let made : AreFields (bits_of c.args.width c.args.value) c.args.width _ 0 = number_fields c.args.width c.args.value _ c.mask.ensures in
    view_of _ _ _ _ made
