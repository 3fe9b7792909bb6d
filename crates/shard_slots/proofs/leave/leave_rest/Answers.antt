-- Passed, or whole.
use Rattle.std.proofs.Common.{◌≡◌, ℕ, ◌+◌, [], ◌∷◌, length, sym, ap, subst, ◌∙◌, arith, inl}
use Rattle.copy_lockstep.proofs.window_strobes.Knowing.{design-rules}
use Rattle.v_design.specs.Plain.{fault_of}
use Rattle.copy_laws.specs.Windows.{RiseAtMostOwn}
use Rattle.fault_strobes.specs.Said.{plan_by}
use Rattle.copy_lockstep.specs.copy_window.ShardFaults.{kept_by}
use Rattle.copy_lockstep.proofs.window_faults.Steps.{stays-open, stays-same}
use Rattle.copy_lockstep.proofs.window_faults.Within.{has-come, is-listed}
use Rattle.shard_slots.proofs.Numbers.{counter-rises, steps-rise}
use Rattle.shard_slots.proofs.leave.leave_rest.Goals as goal

-- one that passed the slot
pub returns-then-slot-at-clause-within : goal.returns-then-slot-at-clause-within
returns-then-slot-at-clause-within g c = c.requires.rests.within

pub returns-then-slot-at-clause-come : goal.returns-then-slot-at-clause-come
returns-then-slot-at-clause-come g c none = omega (arith, c.if-slot-at.true)

pub returns-then-slot-at-clause-stays : goal.returns-then-slot-at-clause-stays
returns-then-slot-at-clause-stays g c = stays-same c.args.own.now

pub returns-then-slot-at-clause-ticks : goal.returns-then-slot-at-clause-ticks
returns-then-slot-at-clause-ticks g c tally =
    let window = c.args.window.now in
    let later = steps-rise c.own_steps_rise.ensures g.N.World.design g.N.World.plan (design-rules g.N.World.design c.design-design.result.now c.design-design.ensures.world) tally
    (window.before + c.args.slot) (window.before + (c.args.slot + 1)) (omega arith) (window.before + c.args.at.now.slot) c.args.at.now.passed c.args.own.now c.requires.rests.within.stands in
    omega (arith, later)

-- one that is run whole through it
pub listed_fault-fault-requires-after_bounds : goal.listed_fault-fault-requires-after_bounds
listed_fault-fault-requires-after_bounds g c κs within =
    is-listed g.N.World.design g.N.World.plan (c.args.window.now.before + c.args.at.now.slot) c.args.at.now.passed c.args.own.now c.requires.rests.within.stands

pub run_whole-requires-clause-some : goal.run_whole-requires-clause-some
run_whole-requires-clause-some g c κs within = c.requires.rests.later

pub run_whole-requires-clause-slot : goal.run_whole-requires-clause-slot
run_whole-requires-clause-slot g c κs within =
    let come = c.requires.rests.come c.requires.none in
    omega (arith, c.requires.slot, c.if-slot-at.false, come)

pub run_whole-requires-clause-tried : goal.run_whole-requires-clause-tried
run_whole-requires-clause-tried g c κs within = inl (c.deref.ensures.value ∙ c.new-tried.ensures.items)

pub run_whole-requires-clause-fault : goal.run_whole-requires-clause-fault
run_whole-requires-clause-fault g c κs within =
    has-come g.N.World.design g.N.World.plan c.args.window.now.before c.args.window.now.through _ c.args.own.now c.args.at.now c.requires.rests.within c.listed_fault-fault.ensures c.requires.none

pub returns-clause-come : goal.returns-clause-come
returns-clause-come g c none =
    let come = c.requires.rests.come c.requires.none in
    omega (arith, c.in_ok-came.ensures.slot, come)

pub returns-clause-stays : goal.returns-clause-stays
returns-clause-stays g c = stays-open c.args.own.now c.run_whole.new.own c.in_ok-came.ensures.place c.requires.none

pub returns-clause-ticks : goal.returns-clause-ticks
returns-clause-ticks g c tally =
    let window = c.args.window.now in
    let own = c.args.own.now in
    let fault = fault_of c.listed_fault-fault.result in
    let come = c.requires.rests.come c.requires.none in
    let same : c.args.at.now.slot ≡ c.args.slot = omega (arith, c.if-slot-at.false, come) in
    let nothing : length c.deref.result.now ≡ 0 = ap length (c.deref.ensures.value ∙ c.new-tried.ensures.items) in
    let rises = counter-rises c.own_steps_rise.ensures g.N.World.design g.N.World.plan (design-rules g.N.World.design c.design-design.result.now c.design-design.ensures.world) tally
    (window.before + c.args.slot) (window.before + (c.args.slot + 1)) (omega arith) own c.run_whole.new.own fault c.args.steps.now (c.run_whole.new.steps + length c.deref.result.now)
    c.listed_fault-fault.ensures c.in_ok-came.ensures.place
    (subst (λ (n : ℕ). RiseAtMostOwn g.N.World.design (plan_by (kept_by own) g.N.World.plan) (window.before + n) (window.before + (n + 1)) (fault ∷ []) c.args.steps.now
    (c.run_whole.new.steps + length c.deref.result.now)) same c.in_ok-came.ensures.ticks) in
    omega (arith, nothing, rises)
