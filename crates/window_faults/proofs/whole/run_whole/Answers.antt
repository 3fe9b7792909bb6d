-- To the window's end with its last slot, or slot by slot.
use Rattle.std.proofs.Common.{◌≡◌, ℕ, ◌+◌, ◌∷◌, [], length, subst, ◌∙◌, arith}
use Rattle.v_design.specs.Plain.{fault_of}
use Rattle.slot_strobes.specs.window_strobes.Passed.{HasPassed}
use Rattle.slot_strobes.specs.window_strobes.Strobes.{passed_behind}
use Rattle.copy_laws.specs.Windows.{RiseAtMostOwn}
use Rattle.fault_strobes.specs.Said.{plan_by}
use Rattle.slot_strobes.specs.copy_window.ShardFaults.{IsShardFault, kept_by}
use Rattle.window_faults.proofs.Within.{stands-after, within-there}
use Rattle.window_faults.proofs.whole.run_whole.Goals as goal

pub resume_behind-requires-clause-fault : goal.resume_behind-requires-clause-fault
resume_behind-requires-clause-fault g c κs within =
    stands-after g.N.World.design g.N.World.plan (fault_of c.args.fault) (c.args.window.now.before + c.args.at.slot) c.args.at.passed c.args.strobes.now.passed c.args.own.now c.requires.fault

pub count_behind-behind-requires-after_bounds : goal.count_behind-behind-requires-after_bounds
count_behind-behind-requires-after_bounds g c κs within = c.requires.behind.within

pub run_slot-requires-clause-slot : goal.run_slot-requires-clause-slot
run_slot-requires-clause-slot g c κs within = omega (arith, c.requires.slot, c.if-end-slots.false, c.slots-slots.ensures)

pub returns-then-end-slots-clause-within : goal.returns-then-end-slots-clause-within
returns-then-end-slots-clause-within g c =
    let design = g.N.World.design in
    let plan = g.N.World.plan in
    let own = c.resume_behind.new.own in
    let before = c.args.window.now.before in
    let all : c.args.window.now.through ≡ before + (c.args.at.slot + 1) = omega (arith, c.if-end-slots.true, c.slots-slots.ensures) in
    within-there design plan before c.args.window.now.through (c.args.at.slot + 1) (passed_behind c.args.strobes.now) own c.comes_to.result c.comes_to.ensures.slot
    (c.comes_to.ensures.passed ∙ c.count_behind-behind.ensures) (omega (arith, all))
    (subst (λ (n : ℕ). IsShardFault design plan n (passed_behind c.args.strobes.now) own) all c.in_ok-resume_behind.ensures.fault)
    (λ none. subst (λ (n : ℕ). HasPassed design plan n (passed_behind c.args.strobes.now)) all c.requires.behind)

pub returns-then-end-slots-clause-ticks : goal.returns-then-end-slots-clause-ticks
returns-then-end-slots-clause-ticks g c =
    let all : c.args.window.now.through ≡ c.args.window.now.before + (c.args.at.slot + 1) = omega (arith, c.if-end-slots.true, c.slots-slots.ensures) in
    subst (λ (n : ℕ). RiseAtMostOwn g.N.World.design (plan_by (kept_by c.args.own.now) g.N.World.plan) (c.args.window.now.before + c.args.at.slot) n (fault_of c.args.fault ∷ [])
    c.args.steps.now (c.resume_behind.new.steps + length c.args.tried.now)) all c.in_ok-resume_behind.ensures.ticks

pub returns-clause-within : goal.returns-clause-within
returns-clause-within g c =
    let before = c.args.window.now.before in
    within-there g.N.World.design g.N.World.plan before c.args.window.now.through (c.args.at.slot + 1) c.in_ok-behind.behind c.run_slot.new.own c.comes_to-2.result
    c.comes_to-2.ensures.slot c.comes_to-2.ensures.passed (omega (arith, c.requires.slot)) c.in_ok-behind.ensures.fault (λ none. c.in_ok-behind.ensures.strobes)
