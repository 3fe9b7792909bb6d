-- The window is open, or a fault isn't passed over its last slot.
use Rattle.std.proofs.Common.{◌≡◌, ◌+◌, ◌<◌, length, sym, ap, subst, ◌∙◌, arith}
use Rattle.copy_laws.specs.Windows.{IsWindow, good_slots}
use Rattle.good_trace.specs.Slots.{end_of}
use Rattle.lockstep_due.proofs.window_strobes.Knowing.{design-rules}
use Rattle.lockstep_due.specs.window_strobes.Neighbours.{slots-within}
use Rattle.copy_lockstep.proofs.Stops.{none-behind}
use Rattle.copy_lockstep.proofs.last.end_of_passing.Goals as goal

pub returns-in-Open-clause-within : goal.returns-in-Open-clause-within
returns-in-Open-clause-within g c = omega (arith, c.slots-slots.ensures)

pub returns-in-Open-clause-more : goal.returns-in-Open-clause-more
returns-in-Open-clause-more g c =
    let design = g.N.World.design in
    let plan = g.N.World.plan in
    let window =
    subst (IsWindow design plan c.args.window.now.before c.args.window.now.through) (sym c.ending.ensures ∙ ap end_of c.in-Open.is) c.begins-first.ensures.window in
    let more : c.args.window.now.through < length (good_slots design plan) =
    (c.windows_end.ensures.is_open design plan c.args.window.now.before c.args.window.now.through (design-rules design c.design-design.result.now c.design-design.ensures.world) window).more in
    omega (arith, more, c.slots-slots.ensures)

pub returns-in-Open-clause-most : goal.returns-in-Open-clause-most
returns-in-Open-clause-most g c = omega (arith, c.slots-slots.ensures)

pub returns-in-Open-clause-all : goal.returns-in-Open-clause-all
returns-in-Open-clause-all g c more = c.slots-slots.ensures

pub returns-in-Through-clause-more : goal.returns-in-Through-clause-more
returns-in-Through-clause-more g c =
    let all = slots-within g.N.World.design g.N.World.plan c.args.window.now.before c.args.window.now.through c.args.window.now.ending c.begins-first.ensures.window in
    let some : c.args.window.now.before < c.args.window.now.through = c.begins-first.ensures.window.some in
    omega (arith, all, some, c.slots-slots.ensures)

pub returns-in-Through-clause-most : goal.returns-in-Through-clause-most
returns-in-Through-clause-most g c = omega (arith, c.slots-slots.ensures)

pub returns-in-Through-clause-all : goal.returns-in-Through-clause-all
returns-in-Through-clause-all g c more =
    let design = g.N.World.design in
    let plan = g.N.World.plan in
    let window =
    subst (IsWindow design plan c.args.window.now.before c.args.window.now.through) (sym c.ending.ensures ∙ ap end_of c.in-Through.is) c.begins-first.ensures.window in
    absurd
    (none-behind c.good_run_goes_on.ensures design plan (design-rules design c.design-design.result.now c.design-design.ensures.world) c.args.window.now.before c.args.window.now.through window more)

pub returns-in-Raced-clause-more : goal.returns-in-Raced-clause-more
returns-in-Raced-clause-more g c =
    let all = slots-within g.N.World.design g.N.World.plan c.args.window.now.before c.args.window.now.through c.args.window.now.ending c.begins-first.ensures.window in
    let some : c.args.window.now.before < c.args.window.now.through = c.begins-first.ensures.window.some in
    omega (arith, all, some, c.slots-slots.ensures)

pub returns-in-Raced-clause-most : goal.returns-in-Raced-clause-most
returns-in-Raced-clause-most g c = omega (arith, c.slots-slots.ensures)

pub returns-in-Raced-clause-all : goal.returns-in-Raced-clause-all
returns-in-Raced-clause-all g c more =
    let design = g.N.World.design in
    let plan = g.N.World.plan in
    let window =
    subst (IsWindow design plan c.args.window.now.before c.args.window.now.through) (sym c.ending.ensures ∙ ap end_of c.in-Raced.is) c.begins-first.ensures.window in
    let all : length (good_slots design plan) ≡ c.args.window.now.through =
    (c.windows_end.ensures.is_raced design plan c.args.window.now.before c.args.window.now.through _ (design-rules design c.design-design.result.now c.design-design.ensures.world) window).0.all in
    absurd (omega (arith, all, more))
