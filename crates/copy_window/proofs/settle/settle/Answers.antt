-- The grading ended in the window, or goes on behind it.
use Rattle.std.proofs.Common.{◌+◌, map, refl, sym, ap, ◌∙◌}
use Rattle.vf_base.specs.Base.{watched_bit}
use Rattle.v_design.specs.Designs.{TestPlan}
use Rattle.copy_window.specs.ShardFaults.{kept_by}
use Rattle.copy_window.proofs.Ticks.{rises-most}
use Rattle.copy_window.proofs.Settling.{can-grade-window, settles-found, stays-open}
use Rattle.copy_window.proofs.settle.settle.Goals as goal

pub grade_window-requires : goal.grade_window-requires
grade_window-requires g c =
    can-grade-window g.N.World.design g.N.World.plan c.requires.fault.0 (c.args.window.now.before + c.args.end) c.args.strobes.now c.args.beside.now c.args.machine.now c.args.own.now c.requires.fault.1
    (map watched_bit c.as_slice-watched.result.now) (ap (λ (p : TestPlan). p.watched) c.plan-plan.ensures.world ∙ sym (ap (map watched_bit) c.as_slice-watched.ensures))

pub returns-then-is_some-clause-fault : goal.returns-then-is_some-clause-fault
returns-then-is_some-clause-fault g c =
    settles-found g.N.World.design g.N.World.plan c.requires.fault.0 (c.args.window.now.before + c.args.end) c.args.strobes.now c.args.beside.now c.args.machine.now c.args.own.now c.requires.fault.1
    c.in_ok-found.found c.grade_window.new.machine c.grade_window.new.strobed (sym c.is_some.ensures ∙ c.if-is_some.true)
    (c.in_ok-found.ensures.passes
    (can-grade-window g.N.World.design g.N.World.plan c.requires.fault.0 (c.args.window.now.before + c.args.end) c.args.strobes.now c.args.beside.now c.args.machine.now c.args.own.now c.requires.fault.1
    (map watched_bit c.as_slice-watched.result.now) (ap (λ (p : TestPlan). p.watched) c.plan-plan.ensures.world ∙ sym (ap (map watched_bit) c.as_slice-watched.ensures))))

pub keep_open-requires-clause-stays : goal.keep_open-requires-clause-stays
keep_open-requires-clause-stays g c κs within =
    stays-open g.N.World.design g.N.World.plan c.requires.fault.0 (c.args.window.now.before + c.args.end) c.args.strobes.now c.args.beside.now c.args.machine.now c.args.own.now c.requires.fault.1
    c.in_ok-found.found c.grade_window.new.machine c.grade_window.new.strobed (sym c.is_some.ensures ∙ c.if-is_some.false)
    (c.in_ok-found.ensures.passes
    (can-grade-window g.N.World.design g.N.World.plan c.requires.fault.0 (c.args.window.now.before + c.args.end) c.args.strobes.now c.args.beside.now c.args.machine.now c.args.own.now c.requires.fault.1
    (map watched_bit c.as_slice-watched.result.now) (ap (λ (p : TestPlan). p.watched) c.plan-plan.ensures.world ∙ sym (ap (map watched_bit) c.as_slice-watched.ensures))))

pub returns-then-is_some-clause-place : goal.returns-then-is_some-clause-place
returns-then-is_some-clause-place g c = record { number = refl; kind = c.in_ok-found.ensures.kind }

pub returns-clause-place : goal.returns-clause-place
returns-clause-place g c = record { number = c.in_ok-keep_open.ensures.place.number; kind = c.in_ok-keep_open.ensures.place.kind ∙ c.in_ok-found.ensures.kind }

pub returns-then-is_some-clause-ticks : goal.returns-then-is_some-clause-ticks
returns-then-is_some-clause-ticks g c = λ before of.
    rises-most g.N.World.design g.N.World.plan of.fault (kept_by c.args.own.now) c.args.beside.now before (c.args.window.now.before + c.args.end) c.args.steps.now c.grade_window.new.steps
    (c.in_ok-found.ensures.ticks
    (can-grade-window g.N.World.design g.N.World.plan before (c.args.window.now.before + c.args.end) c.args.strobes.now c.args.beside.now c.args.machine.now c.args.own.now of
    (map watched_bit c.as_slice-watched.result.now) (ap (λ (p : TestPlan). p.watched) c.plan-plan.ensures.world ∙ sym (ap (map watched_bit) c.as_slice-watched.ensures))))
    of.all

pub returns-clause-ticks : goal.returns-clause-ticks
returns-clause-ticks g c = λ before of.
    rises-most g.N.World.design g.N.World.plan of.fault (kept_by c.args.own.now) c.args.beside.now before (c.args.window.now.before + c.args.end) c.args.steps.now c.grade_window.new.steps
    (c.in_ok-found.ensures.ticks
    (can-grade-window g.N.World.design g.N.World.plan before (c.args.window.now.before + c.args.end) c.args.strobes.now c.args.beside.now c.args.machine.now c.args.own.now of
    (map watched_bit c.as_slice-watched.result.now) (ap (λ (p : TestPlan). p.watched) c.plan-plan.ensures.world ∙ sym (ap (map watched_bit) c.as_slice-watched.ensures))))
    of.all
