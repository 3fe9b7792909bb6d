-- The copy's own value, or the good machine's.
use Rattle.std.proofs.Common.{◌+◌, ◌<◌, sym, ap, subst, ◌∙◌}
use Rattle.four_value.specs.Values.{LogicValue, bit_at}
use Rattle.vf_base.specs.Base.{object_number, watched_bit}
use Rattle.v_design.specs.Assignments.{value_at}
use Rattle.between_slots.specs.Between.{state_through}
use Rattle.slot_strobes.proofs.Watching.{own-bit}
use Rattle.slot_strobes.proofs.bits.own_bit.Goals as goal

pub value_at-good-requires-after_bounds : goal.value_at-good-requires-after_bounds
value_at-good-requires-after_bounds g c κs within = c.requires.place

pub returns : goal.returns
returns g c =
    let good = (state_through g.N.World.design g.N.World.plan (c.args.window.now.before + c.args.slot)).values in
    let object = object_number c.args.place.object in
    let within = subst (λ n. object < n) (sym c.rests_before.ensures.rests.value_count) c.requires.place in
    let same = c.value_at-good.ensures ∙ ap (λ values. value_at values object) c.first_moment-moment.ensures.values in
    own-bit good c.args.copy.now.values (watched_bit c.args.place) within c.value_at-good.result c.bit.result
    (c.bit.ensures ∙ ap (λ (v : LogicValue). bit_at v c.args.place.bit) c.value-own.ensures) same
