use Rattle.std.proofs.Common.{◌≡◌, refl, arith, ap, take, length, ◌∙◌}
use Rattle.std.proofs.lemmas.List.{take_all}
use Rattle.four_value.specs.Bits.{is_unknown}
use Rattle.four_value.specs.Planes.{is_one_or_z, one_if, plane_of}
use Rattle.four_value.proofs.Views.{AreFields, fields_fit, view_of}
use Rattle.four_value.proofs.Places.{plane_of-more, byte_of_bool}
use Rattle.four_value.proofs.value.Vec4.from_bits.Goals as goal

pub loop-place-preserved : goal.loop-place-preserved
loop-place-preserved c = (
  plane_of-more is_one_or_z c.args.bits.now c.loop-place.place _ c.loop-place.ones c.from.result (omega arith) (omega arith) c.loop-place.invariant.0
      (c.from.ensures ∙ byte_of_bool c.stands_in_ones.result ∙ ap one_if c.stands_in_ones.ensures),
  plane_of-more is_unknown c.args.bits.now c.loop-place.place _ c.loop-place.unknowns c.from-in-loop-place.result (omega arith) (omega arith) c.loop-place.invariant.1
      (c.from-in-loop-place.ensures ∙ byte_of_bool c.stands_in_unknowns.result ∙ ap one_if c.stands_in_unknowns.ensures),
)

pub invariant_of-result : goal.invariant_of-result
invariant_of-result c =
    let all : take c.loop-place.place c.args.bits.now ≡ c.args.bits.now = take_all c.loop-place.place c.args.bits.now (omega arith) in
    let made : AreFields c.args.bits.now (length c.args.bits.now) c.loop-place.ones c.loop-place.unknowns = record {
      wide = refl;
      in_ones = c.loop-place.invariant.0 ∙ ap (plane_of is_one_or_z) all;
      in_unknowns = c.loop-place.invariant.1 ∙ ap (plane_of is_unknown) all;
    } in
    fields_fit _ _ _ _ made (omega arith, omega arith)

pub returns : goal.returns
returns c =
    let all : take c.loop-place.place c.args.bits.now ≡ c.args.bits.now = take_all c.loop-place.place c.args.bits.now (omega arith) in
    let made : AreFields c.args.bits.now (length c.args.bits.now) c.loop-place.ones c.loop-place.unknowns = record {
      wide = refl;
      in_ones = c.loop-place.invariant.0 ∙ ap (plane_of is_one_or_z) all;
      in_unknowns = c.loop-place.invariant.1 ∙ ap (plane_of is_unknown) all;
    } in
    (view_of _ _ _ _ made, (omega arith, omega arith))
