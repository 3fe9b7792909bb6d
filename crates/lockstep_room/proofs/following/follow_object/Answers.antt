-- The object holds what is shown; one that isn't there holds nothing in either state.
use Rattle.std.proofs.Common.{ℕ, [], ◌∷◌, length, refl, sym, ap, ◌∙◌, arith}
use Rattle.std.specs.Prelude.{Some, None}
use Rattle.vf_base.specs.Base.{object_number}
use Rattle.four_value.specs.Values.{LogicValue}
use Rattle.v_design.specs.Assignments.{value_at}
use Rattle.lockstep_exchange.specs.block_events.Runners.{state_of}
use Rattle.lockstep_exchange.proofs.block_events.Nodes.{object-count}
use Rattle.lockstep_exchange.proofs.Puts.{value-more, values-none}
use Rattle.lockstep_room.specs.Rooms.{values_among}
use Rattle.lockstep_room.proofs.Standing.{one-here, one-other, value-absent}
use Rattle.lockstep_room.proofs.following.follow_object.Goals as goal

pub value-requires : goal.value-requires
value-requires g c =
    let stands = c.requires.stands in
    let count = object-count c.args.runner.now in
    record { state = stands.good; shown = stands.shown; there = omega (arith, c.if-object-counts.true, c.requires.counts.objects, count, stands.value_count) }

pub put_value-requires-clause-there : goal.put_value-requires-clause-there
put_value-requires-clause-there g c = let count = object-count c.args.runner.now in omega (arith, c.if-object-counts.true, c.requires.counts.objects, count)

pub put_value-requires-clause-width : goal.put_value-requires-clause-width
put_value-requires-clause-width g c =
    let stands = c.requires.stands in
    let count = object-count c.args.runner.now in
    ap (λ (v : LogicValue). length v) (c.value.ensures stands.good stands.shown)
    ∙ stands.wide (object_number c.args.object) (omega (arith, c.if-object-counts.true, c.requires.counts.objects, count, stands.value_count))

pub returns-then-object-counts-clause-machine : goal.returns-then-object-counts-clause-machine
returns-then-object-counts-clause-machine g c = c.put_value.ensures.machine

pub returns-then-object-counts-clause-state : goal.returns-then-object-counts-clause-state
returns-then-object-counts-clause-state g c = λ of.
    let object = object_number c.args.object in
    let old = state_of c.args.runner.now in
    let count = object-count c.args.runner.now in
    let found = λ (o : ℕ). Some (value_at of.good.values o) in
    value-more (λ (o : ℕ). None) (values_among (object ∷ []) of.good) old old (state_of c.put_value.new.self) object c.value.result (values-none (λ (o : ℕ). None) old (λ o. refl))
    (omega (arith, c.if-object-counts.true, c.requires.counts.objects, count)) c.put_value.ensures.state
    (one-here found object ∙ ap Some (sym (c.value.ensures of.good of.shown))) (λ other differ. one-other found object other differ)

pub returns-then-object-counts-clause-whole : goal.returns-then-object-counts-clause-whole
returns-then-object-counts-clause-whole g c = c.put_value.ensures.whole

pub returns-else-object-counts-clause-state : goal.returns-else-object-counts-clause-state
returns-else-object-counts-clause-state g c = λ of.
    let count = object-count c.args.runner.now in
    value-absent of.good (state_of c.args.runner.now) (object_number c.args.object) of.value_count
    (omega (arith, c.if-object-counts.false, c.requires.counts.objects, count))
