-- One value more.
use Rattle.std.proofs.Common.{◌≡◌, ◌<◌, length, refl, arith}
use Rattle.four_value.specs.Values.{LogicValue}
use Rattle.v_design.specs.Assignments.{value_at}
use Rattle.trace_window.specs.Moments.{window_values}
use Rattle.moment_parts.proofs.Below.{below-none, below-more, value-all}
use Rattle.moment_parts.proofs.going.put_values.Goals as goal

pub objects-init : goal.objects-init
objects-init g c =
    below-none LogicValue (λ object value. value ≡ value_at (window_values g.N.World.design g.N.World.plan c.args.window.now.before c.args.window.now.through c.args.moment) object)
    (length g.N.World.design.objects) c.args.values.now.items c.requires.count

pub objects-preserved : goal.objects-preserved
objects-preserved g c =
    let same : length c.objects.values.items ≡ length g.N.World.design.objects = c.objects.invariant.count_is in
    let low : c.objects.number < length c.objects.values.items = omega (arith, same, c.requires.count, c.objects-test.true, c.len-number-end.ensures) in
    below-more LogicValue (λ object value. value ≡ value_at (window_values g.N.World.design g.N.World.plan c.args.window.now.before c.args.window.now.through c.args.moment) object) c.objects.number
    (length g.N.World.design.objects) c.objects.values.items _ c.value_at.result low c.value_at.ensures refl c.objects.invariant

pub returns-clause-values : goal.returns-clause-values
returns-clause-values g c object low =
    value-all LogicValue (λ k. value_at (window_values g.N.World.design g.N.World.plan c.args.window.now.before c.args.window.now.through c.args.moment) k) c.objects.number
    (length g.N.World.design.objects) c.objects.values.items _ object (omega (arith, c.requires.count, c.objects-test.false, c.len-number-end.ensures)) c.objects.invariant low
