use Rattle.std.proofs.Common.{Bool, true, [], length, subst}
use Rattle.vf_base.specs.Base.{source_place}
use Rattle.v_names.specs.Readings.{sized_reading}
use Rattle.v_names.specs.SizedTrees.{SizedConstant}
use Rattle.expr_sizes.specs.ExprReadings.{IsReading}
use Rattle.expr_sizes.proofs.name.number_reading.Goals as goal

pub returns : goal.returns
returns c =
    let P : Bool → Type 0 = λ b. IsReading (sized_reading (source_place c.args.place) (length c.args.value) b true [] (λ w s. SizedConstant w s c.args.value)) c.constant_reading.result in
    subst P c.is_signed_number.ensures c.constant_reading.ensures
