-- The room holds so many objects of the state.
use Rattle.std.proofs.Common.{◌+◌, ap, ◌∙◌, arith}
use Rattle.v_design.specs.Designs.{faulty_machine}
use Rattle.v_design.specs.States.{found_or}
use Rattle.copy_laws.specs.Differences.{own_of}
use Rattle.between_slots.specs.Between.{state_through}
use Rattle.copy_room.proofs.Placing.{value-placed}
use Rattle.copy_room.proofs.Standing.{value-in}
use Rattle.copy_room.proofs.Puts.{value-wide}
use Rattle.copy_room.proofs.entering.put_values.Goals as goal

pub objects-init : goal.objects-init
objects-init g c = λ of. of.placed

pub put_value-requires-clause-cleared : goal.put_value-requires-clause-cleared
put_value-requires-clause-cleared g c = (c.objects.invariant c.requires.put).cleared

pub put_value-requires-clause-there : goal.put_value-requires-clause-there
put_value-requires-clause-there g c =
    let placed = c.objects.invariant c.requires.put in
    omega (arith, c.objects-test.true, c.requires.count, placed.value_count, c.requires.put.between.values)

pub put_value-requires-clause-width : goal.put_value-requires-clause-width
put_value-requires-clause-width g c =
    let put = c.requires.put in
    let n = c.objects.number in
    let good = state_through g.N.World.design g.N.World.plan (c.args.window.now.before + c.args.slot) in
    value-wide g.N.World.design g.N.World.plan (c.args.window.now.before + c.args.slot) c.args.copy.now n 0 c.args.room.now c.objects.room put (c.objects.invariant put) n c.value.result
    (omega (arith, c.objects-test.true, c.requires.count))
    (c.value.ensures ∙ ap (λ v. found_or v (own_of c.args.copy.now.values n)) c.value_at-good.ensures
    ∙ value-in put.codes good put.faulty c.args.copy.now _ n put.copy c.first_moment-moment.ensures.values)

pub objects-preserved : goal.objects-preserved
objects-preserved g c = λ of.
    let n = c.objects.number in
    let good = state_through g.N.World.design g.N.World.plan (c.args.window.now.before + c.args.slot) in
    value-placed (faulty_machine g.N.World.design of.fault) of.faulty n 0 c.objects.room c.put_value.new.self c.value.result (c.objects.invariant of)
    (omega (arith, c.objects-test.true, c.requires.count, of.between.values))
    (c.value.ensures ∙ ap (λ v. found_or v (own_of c.args.copy.now.values n)) c.value_at-good.ensures
    ∙ value-in of.codes good of.faulty c.args.copy.now _ n of.copy c.first_moment-moment.ensures.values)
    c.put_value.ensures.machine c.put_value.ensures.state c.put_value.ensures.cleared c.put_value.ensures.notes
