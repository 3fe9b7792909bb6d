use Rattle.std.proofs.Common.{◌+◌, ◌∙◌, arith, rules}
use Rattle.v_design.specs.Designs.{good_machine}
use Rattle.v_design.specs.Grades.{phases}
use Rattle.trace_window.specs.LogLaws.{slot-acted}
use Rattle.good_trace.specs.Slots.{first_turn}
use Rattle.good_trace.proofs.FewPhases.{next-fits}
use Rattle.good_trace.proofs.Keeping.{next-is, room-is, steps_logged-at, push-fits, push-keeps, full-is}
use Rattle.good_trace.proofs.RunsKeeping.{numbers-fit}
use Rattle.good_trace.proofs.trace.Trace.push.Goals as goal

pub count_steps-steps-requires : goal.count_steps-steps-requires
count_steps-steps-requires g c = steps_logged-at c.args.self.now.codes g.N.World.design g.N.World.plan c.args.self.now.pushed c.args.log.now c.args.runs.items c.requires.next

pub phases_after-phases-requires : goal.phases_after-phases-requires
phases_after-phases-requires g c =
    let t = c.self.inside in
    let design = g.N.World.design in
    let plan = g.N.World.plan in
    next-fits c.phases_are_few.ensures.slots t.setup.now.codes design plan t.pushed t.closed t.steps t.phases t.before t.slots c.args.log.now c.args.runs.items c.self.invariant
    (next-is t.setup.now.codes design plan t.pushed t.closed c.args.self.now c.args.log.now c.args.runs.items c.self.view_is c.requires.next)
    (room-is t.setup.now.codes design plan t.pushed t.closed c.args.self.now c.self.view_is c.requires.room)

pub number_from-requires : goal.number_from-requires
number_from-requires g c =
    numbers-fit c.args.self.now.codes g.N.World.design g.N.World.plan c.args.self.now.pushed c.self.inside.phases c.phases_after-phases.result c.args.log.now c.args.runs.items c.requires.next
    c.phases_after-phases.ensures.count c.phases_after-phases.ensures.fits

pub push-requires : goal.push-requires
push-requires g c =
    slot-acted (good_machine g.N.World.design) (first_turn c.args.self.now.pushed) (phases (good_machine g.N.World.design) c.requires.next.slot) c.args.log.now c.requires.next.logged

pub overflow_add-self : goal.overflow_add-self
overflow_add-self g c =
    let t = c.self.inside in
    let next = next-is t.setup.now.codes g.N.World.design g.N.World.plan t.pushed t.closed c.args.self.now c.args.log.now c.args.runs.items c.self.view_is c.requires.next in
    let fits = push-fits t.setup.now.codes g.N.World.design g.N.World.plan t.pushed t.closed t.steps t.before.values.items t.slots c.args.log.now c.args.runs.items c.self.invariant.slots_kept next in
    omega (arith, fits.1, c.count_steps-steps.ensures)

pub overflow_add-self-2 : goal.overflow_add-self-2
overflow_add-self-2 g c =
    let t = c.self.inside in
    let next = next-is t.setup.now.codes g.N.World.design g.N.World.plan t.pushed t.closed c.args.self.now c.args.log.now c.args.runs.items c.self.view_is c.requires.next in
    let fits = push-fits t.setup.now.codes g.N.World.design g.N.World.plan t.pushed t.closed t.steps t.before.values.items t.slots c.args.log.now c.args.runs.items c.self.invariant.slots_kept next in
    omega (arith, fits.0)

pub invariant_of-self-2 : goal.invariant_of-self-2
invariant_of-self-2 g c =
    let t = c.self.inside in
    push-keeps c.ends_go_on.ensures.join t.setup.now.codes g.N.World.design g.N.World.plan t.pushed t.closed t.steps c.count_steps-steps.result t.phases c.phases_after-phases.result t.before t.slots
    c.push.new.self c.sizes-sizes.result c.args.self.now c.args.log.now c.args.runs.items c.number_from.new.runs.items c.self.invariant c.self.view_is c.requires.next c.requires.room
    c.count_steps-steps.ensures c.phases_after-phases.ensures.count c.number_from.ensures c.sizes-sizes.ensures c.in_ok-push.ensures.pushes

pub returns-clause-full : goal.returns-clause-full
returns-clause-full g c =
    let t = c.self.inside in
    c.is_full.ensures
    ∙ full-is g.N.World.design g.N.World.plan (t.pushed + 1) t.closed (t.steps + c.count_steps-steps.result) t.before.values.items c.push.new.self c.len-2.result
    (push-keeps c.ends_go_on.ensures.join t.setup.now.codes g.N.World.design g.N.World.plan t.pushed t.closed t.steps c.count_steps-steps.result t.phases c.phases_after-phases.result t.before t.slots
    c.push.new.self c.sizes-sizes.result c.args.self.now c.args.log.now c.args.runs.items c.number_from.new.runs.items c.self.invariant c.self.view_is c.requires.next c.requires.room
    c.count_steps-steps.ensures c.phases_after-phases.ensures.count c.number_from.ensures c.sizes-sizes.ensures c.in_ok-push.ensures.pushes).slots_kept (search rules)
