-- From the slot behind so many.
use Rattle.std.proofs.Common.{◌≡◌, ℕ, ◌+◌, ◌∷◌, [], length, subst, sym, arith}
use Rattle.v_design.specs.Designs.{TestPlan}
use Rattle.v_design.specs.Plain.{fault_of}
use Rattle.slot_strobes.specs.copy_window.Passing.{CanResume}
use Rattle.copy_laws.specs.Windows.{RiseAtMostOwn}
use Rattle.fault_strobes.specs.Said.{plan_by}
use Rattle.slot_strobes.specs.window_beside.Tried.{MayTry}
use Rattle.slot_strobes.specs.copy_window.ShardFaults.{IsShardFault, kept_by}
use Rattle.slot_strobes.specs.window_strobes.Strobes.{AreStrobesOf, passed_behind}
use Rattle.window_faults.specs.Within.{StandsAfter}
use Rattle.window_faults.proofs.Within.{can-go-on}
use Rattle.window_faults.proofs.whole.resume_behind.Goals as goal

pub resume_fault-requires-clause-slot : goal.resume_fault-requires-clause-slot
resume_fault-requires-clause-slot g c κs within = omega (arith, c.requires.more, c.if-passed-eq0.true, c.slots-end.ensures)

pub resume_fault-requires-clause-end : goal.resume_fault-requires-clause-end
resume_fault-requires-clause-end g c κs within = omega (arith, c.slots-end.ensures)

pub resume_fault-requires-clause-fault : goal.resume_fault-requires-clause-fault
resume_fault-requires-clause-fault g c κs within =
    let design = g.N.World.design in
    let plan = g.N.World.plan in
    let before = c.args.window.now.before in
    let here : before + c.args.passed ≡ before + 0 = omega (arith, c.if-passed-eq0.true) in
    let same : before ≡ before + 0 = omega arith in
    subst (λ (n : ℕ). CanResume design plan (before + 0) n c.args.strobes.now (fault_of c.args.fault) c.args.own.now) (sym c.slots-end.ensures)
    (can-go-on design plan (before + 0) c.args.window.now.through c.args.strobes.now.passed c.args.strobes.now (fault_of c.args.fault) c.args.own.now (omega (arith, c.requires.some)) (omega arith)
    (subst (λ (n : ℕ). StandsAfter design plan n c.args.strobes.now.passed (fault_of c.args.fault) c.args.own.now) here c.requires.fault)
    (subst (λ (n : ℕ). AreStrobesOf design plan n c.args.window.now.through c.args.strobes.now) same c.requires.strobes))

pub resume_fault-requires-clause-tried : goal.resume_fault-requires-clause-tried
resume_fault-requires-clause-tried g c κs within =
    let here : c.args.window.now.before + c.args.passed ≡ c.args.window.now.before + 0 = omega (arith, c.if-passed-eq0.true) in
    subst (λ (n : ℕ). MayTry g.N.World.design (plan_by (kept_by c.args.own.now) g.N.World.plan) n (fault_of c.args.fault) c.args.tried.now) here c.requires.tried

pub strobes_after-requires-clause-some : goal.strobes_after-requires-clause-some
strobes_after-requires-clause-some g c κs within = omega (arith, c.if-passed-eq0.false)

pub resume_fault-requires-2-clause-slot : goal.resume_fault-requires-2-clause-slot
resume_fault-requires-2-clause-slot g c κs within = omega (arith, c.requires.more, c.slots-end.ensures)

pub resume_fault-requires-2-clause-end : goal.resume_fault-requires-2-clause-end
resume_fault-requires-2-clause-end g c κs within = omega (arith, c.slots-end.ensures)

pub resume_fault-requires-2-clause-fault : goal.resume_fault-requires-2-clause-fault
resume_fault-requires-2-clause-fault g c κs within =
    subst (λ (n : ℕ). CanResume g.N.World.design g.N.World.plan (c.args.window.now.before + c.args.passed) n c.in_ok-rest.rest (fault_of c.args.fault) c.args.own.now) (sym c.slots-end.ensures)
    (can-go-on g.N.World.design g.N.World.plan (c.args.window.now.before + c.args.passed) c.args.window.now.through c.args.strobes.now.passed c.in_ok-rest.rest (fault_of c.args.fault) c.args.own.now
    (omega (arith, c.requires.some)) c.in_ok-rest.ensures.since c.requires.fault c.in_ok-rest.ensures.strobes)

pub returns-then-passed-eq0-clause-fault : goal.returns-then-passed-eq0-clause-fault
returns-then-passed-eq0-clause-fault g c =
    subst (λ (n : ℕ). IsShardFault g.N.World.design g.N.World.plan n (passed_behind c.args.strobes.now) c.resume_fault.new.own) c.slots-end.ensures c.in_ok-resume_fault.ensures.fault

pub returns-clause-fault : goal.returns-clause-fault
returns-clause-fault g c =
    subst (λ (n : ℕ). IsShardFault g.N.World.design g.N.World.plan c.args.window.now.through n c.resume_fault-2.new.own) c.in_ok-rest.ensures.behind
    (subst (λ (n : ℕ). IsShardFault g.N.World.design g.N.World.plan n (passed_behind c.in_ok-rest.rest) c.resume_fault-2.new.own) c.slots-end.ensures c.in_ok-resume_fault-2.ensures.fault)

pub returns-then-passed-eq0-clause-ticks : goal.returns-then-passed-eq0-clause-ticks
returns-then-passed-eq0-clause-ticks g c =
    let P : TestPlan = plan_by (kept_by c.args.own.now) g.N.World.plan in
    subst (λ (n : ℕ). RiseAtMostOwn g.N.World.design P (c.args.window.now.before + n) c.args.window.now.through (fault_of c.args.fault ∷ []) c.args.steps.now
    (c.resume_fault.new.steps + length c.args.tried.now)) (sym c.if-passed-eq0.true)
    (subst (λ (n : ℕ). RiseAtMostOwn g.N.World.design P (c.args.window.now.before + 0) n (fault_of c.args.fault ∷ []) c.args.steps.now (c.resume_fault.new.steps + length c.args.tried.now))
    c.slots-end.ensures c.in_ok-resume_fault.ensures.ticks)

pub returns-clause-ticks : goal.returns-clause-ticks
returns-clause-ticks g c =
    subst (λ (n : ℕ). RiseAtMostOwn g.N.World.design (plan_by (kept_by c.args.own.now) g.N.World.plan) (c.args.window.now.before + c.args.passed) n (fault_of c.args.fault ∷ []) c.args.steps.now
    (c.resume_fault-2.new.steps + length c.args.tried.now)) c.slots-end.ensures c.in_ok-resume_fault-2.ensures.ticks
