-- The copy's own value, or the good machine's.
use Rattle.std.proofs.Common.{◌+◌, ◌<◌, sym, ap, subst, ◌∙◌}
use Rattle.four_value.specs.Bits.{same_bit}
use Rattle.four_value.specs.Values.{LogicValue, bit_at}
use Rattle.vf_base.specs.Base.{object_number, watched_bit}
use Rattle.v_design.specs.Assignments.{value_at}
use Rattle.v_design.specs.Grades.{is_hard, is_possible}
use Rattle.between_slots.specs.Between.{state_through}
use Rattle.slot_strobes.proofs.Watching.{alike-not-hard, alike-not-possible, alike-same, own-bit}
use Rattle.slot_strobes.proofs.bits.compare_bit.Goals as goal

pub value_at-good-requires-after_bounds : goal.value_at-good-requires-after_bounds
value_at-good-requires-after_bounds g c κs within = c.requires.place

pub returns-then-not-kept-clause-hard : goal.returns-then-not-kept-clause-hard
returns-then-not-kept-clause-hard g c =
    let good = (state_through g.N.World.design g.N.World.plan (c.args.window.now.before + c.args.slot)).values in
    let within = subst (λ n. object_number c.args.place.object < n) (sym c.rests_before.ensures.rests.value_count) c.requires.place in
    alike-not-hard good c.args.copy.now.values (watched_bit c.args.place) within (c.keeps_value-kept.ensures c.if-not-kept.true)

pub returns-then-not-kept-clause-possible : goal.returns-then-not-kept-clause-possible
returns-then-not-kept-clause-possible g c =
    let good = (state_through g.N.World.design g.N.World.plan (c.args.window.now.before + c.args.slot)).values in
    let within = subst (λ n. object_number c.args.place.object < n) (sym c.rests_before.ensures.rests.value_count) c.requires.place in
    alike-not-possible good c.args.copy.now.values (watched_bit c.args.place) within (c.keeps_value-kept.ensures c.if-not-kept.true)

pub returns-clause-hard : goal.returns-clause-hard
returns-clause-hard g c =
    let good = (state_through g.N.World.design g.N.World.plan (c.args.window.now.before + c.args.slot)).values in
    let object = object_number c.args.place.object in
    let within = subst (λ n. object < n) (sym c.rests_before.ensures.rests.value_count) c.requires.place in
    let same = c.value_at-good.ensures ∙ ap (λ values. value_at values object) c.first_moment-moment.ensures.values in
    let one = c.bit-good_bit.ensures ∙ ap (λ (v : LogicValue). bit_at v c.args.place.bit) same in
    let other = own-bit good c.args.copy.now.values (watched_bit c.args.place) within c.value_at-good.result c.bit-own_bit.result
    (c.bit-own_bit.ensures ∙ ap (λ (v : LogicValue). bit_at v c.args.place.bit) c.value-own.ensures) same in
    c.is_hard.ensures ∙ (λ i. is_hard (one i) (other i))

pub returns-clause-possible : goal.returns-clause-possible
returns-clause-possible g c =
    let good = (state_through g.N.World.design g.N.World.plan (c.args.window.now.before + c.args.slot)).values in
    let object = object_number c.args.place.object in
    let within = subst (λ n. object < n) (sym c.rests_before.ensures.rests.value_count) c.requires.place in
    let same = c.value_at-good.ensures ∙ ap (λ values. value_at values object) c.first_moment-moment.ensures.values in
    let one = c.bit-good_bit.ensures ∙ ap (λ (v : LogicValue). bit_at v c.args.place.bit) same in
    let other = own-bit good c.args.copy.now.values (watched_bit c.args.place) within c.value_at-good.result c.bit-own_bit.result
    (c.bit-own_bit.ensures ∙ ap (λ (v : LogicValue). bit_at v c.args.place.bit) c.value-own.ensures) same in
    c.is_possible.ensures ∙ (λ i. is_possible (one i) (other i))

pub returns-then-not-kept-clause-same : goal.returns-then-not-kept-clause-same
returns-then-not-kept-clause-same g c =
    let good = (state_through g.N.World.design g.N.World.plan (c.args.window.now.before + c.args.slot)).values in
    let within = subst (λ n. object_number c.args.place.object < n) (sym c.rests_before.ensures.rests.value_count) c.requires.place in
    alike-same good c.args.copy.now.values (watched_bit c.args.place) within (c.keeps_value-kept.ensures c.if-not-kept.true)

pub returns-clause-same : goal.returns-clause-same
returns-clause-same g c =
    let good = (state_through g.N.World.design g.N.World.plan (c.args.window.now.before + c.args.slot)).values in
    let object = object_number c.args.place.object in
    let within = subst (λ n. object < n) (sym c.rests_before.ensures.rests.value_count) c.requires.place in
    let same = c.value_at-good.ensures ∙ ap (λ values. value_at values object) c.first_moment-moment.ensures.values in
    let one = c.bit-good_bit.ensures ∙ ap (λ (v : LogicValue). bit_at v c.args.place.bit) same in
    let other = own-bit good c.args.copy.now.values (watched_bit c.args.place) within c.value_at-good.result c.bit-own_bit.result
    (c.bit-own_bit.ensures ∙ ap (λ (v : LogicValue). bit_at v c.args.place.bit) c.value-own.ensures) same in
    c.is_same.ensures ∙ (λ i. same_bit (other i) (one i))
