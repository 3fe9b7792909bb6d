-- Passed, through in lockstep, or whole.
use Rattle.std.proofs.Common.{◌≡◌, ℕ, List, ◌+◌, true, false, [], ◌∷◌, length, refl, sym, ap, subst, ◌∙◌, arith}
use Rattle.std.specs.Prelude.{is_some}
use Rattle.copy_lockstep.proofs.window_strobes.Knowing.{design-rules}
use Rattle.v_design.specs.Plain.{fault_of}
use Rattle.copy_laws.specs.Windows.{RiseAtMostOwn}
use Rattle.fault_strobes.specs.Said.{plan_by}
use Rattle.copy_lockstep.specs.copy_window.ShardFaults.{kept_by}
use Rattle.copy_lockstep.specs.window_strobes.Passed.{HasPassed}
use Rattle.copy_lockstep.specs.window_strobes.Strobes.{AreStrobesOf, passed_behind}
use Rattle.copy_lockstep.specs.window_beside.Tried.{MayTry}
use Rattle.good_runs.specs.declared.tried.TriedStep.{TriedStep}
use Rattle.copy_lockstep.proofs.window_faults.Steps.{stays-open, stays-same}
use Rattle.copy_lockstep.proofs.window_faults.Within.{has-come, within-there}
use Rattle.shard_slots.proofs.Leaving.{may-try, none-tried, rests-within, through-within, whole-within}
use Rattle.shard_slots.proofs.leave.leave_open.Goals as goal

-- one that passed the slot
pub returns-then-slot-at-clause-within : goal.returns-then-slot-at-clause-within
returns-then-slot-at-clause-within g c = c.requires.went.within

pub returns-then-slot-at-clause-come : goal.returns-then-slot-at-clause-come
returns-then-slot-at-clause-come g c none = omega (arith, c.if-slot-at.true)

pub returns-then-slot-at-clause-stays : goal.returns-then-slot-at-clause-stays
returns-then-slot-at-clause-stays g c = stays-same c.args.own.now

pub returns-then-slot-at-clause-ticks : goal.returns-then-slot-at-clause-ticks
returns-then-slot-at-clause-ticks g c tally =
    let window = c.args.window.now in
    rests-within c.own_steps_rise.ensures g.N.World.design g.N.World.plan (design-rules g.N.World.design c.design-design.result.now c.design-design.ensures.world) window.before window.through
    c.args.slot c.args.own.now c.args.at.now c.args.beside c.requires.went tally c.args.steps.now
    (none-tried c.own_steps_rise.ensures g.N.World.design g.N.World.plan (design-rules g.N.World.design c.design-design.result.now c.design-design.ensures.world) window.before window.through
    c.args.slot c.args.own.now c.args.at.now c.args.beside c.requires.went (λ at none. absurd (omega (arith, at, c.if-slot-at.true))))

-- one that went through it in lockstep
pub leave_going-requires-clause-fine : goal.leave_going-requires-clause-fine
leave_going-requires-clause-fine g c κs within = (c.requires.went.goes c.if-beside.true).fine

pub leave_going-requires-clause-none : goal.leave_going-requires-clause-none
leave_going-requires-clause-none g c κs within = (c.requires.went.goes c.if-beside.true).none

pub leave_going-requires-clause-entered : goal.leave_going-requires-clause-entered
leave_going-requires-clause-entered g c κs within = (c.requires.went.goes c.if-beside.true).enters

pub leave_going-requires-clause-listed : goal.leave_going-requires-clause-listed
leave_going-requires-clause-listed g c κs within = c.requires.went.listed

pub leave_going-requires-clause-through : goal.leave_going-requires-clause-through
leave_going-requires-clause-through g c κs within = c.requires.went.through_it c.if-beside.true

pub leave_going-requires-clause-states : goal.leave_going-requires-clause-states
leave_going-requires-clause-states g c κs within = (c.requires.went.goes c.if-beside.true).states

pub leave_going-requires-clause-place : goal.leave_going-requires-clause-place
leave_going-requires-clause-place g c κs within = (c.requires.went.goes c.if-beside.true).place

pub returns-then-beside-clause-within : goal.returns-then-beside-clause-within
returns-then-beside-clause-within g c =
    let window = c.args.window.now in
    let stands = c.in_ok-came.ensures.fault in
    within-there g.N.World.design g.N.World.plan window.before window.through (c.args.slot + 1) c.in_ok-came.came.passed c.leave_going.new.own c.in_ok-came.came
    c.in_ok-came.ensures.slot refl (omega (arith, c.requires.slot)) stands.stands stands.has_passed

pub returns-then-beside-clause-come : goal.returns-then-beside-clause-come
returns-then-beside-clause-come g c none = omega (arith, c.in_ok-came.ensures.slot)

pub returns-then-beside-clause-stays : goal.returns-then-beside-clause-stays
returns-then-beside-clause-stays g c =
    stays-open c.args.own.now c.leave_going.new.own c.in_ok-came.ensures.place c.requires.none

pub returns-then-beside-clause-ticks : goal.returns-then-beside-clause-ticks
returns-then-beside-clause-ticks g c tally =
    let window = c.args.window.now in
    through-within c.own_steps_rise.ensures g.N.World.design g.N.World.plan (design-rules g.N.World.design c.design-design.result.now c.design-design.ensures.world) window.before window.through
    c.args.slot c.args.own.now c.args.at.now c.args.beside c.requires.went c.slots_take_own.ensures tally c.leave_going.new.own c.args.steps.now c.in_ok-came.ensures.place

-- one whose machine is run from its start through the first slot
pub begin_fault-requires-clause-end : goal.begin_fault-requires-clause-end
begin_fault-requires-clause-end g c κs within =
    let zero : c.args.window.now.before ≡ 0 = sym c.begins.ensures.number ∙ c.if-begins-eq0.true in
    omega (arith, zero, c.requires.one zero)

pub begin_fault-requires-clause-fault : goal.begin_fault-requires-clause-fault
begin_fault-requires-clause-fault g c κs within =
    let zero : c.args.window.now.before ≡ 0 = sym c.begins.ensures.number ∙ c.if-begins-eq0.true in
    let through : c.args.window.now.through ≡ c.args.window.now.before + 1 = omega (arith, zero, c.requires.one zero) in
    record {
      at_start = zero;
      listed = c.requires.went.listed;
      none = c.requires.none;
      within = c.requires.went.within.stands.within;
      are = subst (λ (n : ℕ). AreStrobesOf g.N.World.design g.N.World.plan c.args.window.now.before n c.args.strobes.now) through c.requires.strobes;
    }

pub begin_fault-requires-clause-tried : goal.begin_fault-requires-clause-tried
begin_fault-requires-clause-tried g c κs within =
    let own = c.args.own.now in
    let zero : c.args.window.now.before ≡ 0 = sym c.begins.ensures.number ∙ c.if-begins-eq0.true in
    let same : c.args.window.now.before + c.args.slot ≡ c.args.window.now.before = omega (arith, zero, c.requires.one zero, c.requires.slot) in
    subst (λ (tried : List TriedStep). MayTry g.N.World.design (plan_by (kept_by own) g.N.World.plan) c.args.window.now.before (fault_of c.args.beside.fault) tried) (sym c.deref.ensures.value)
    (subst (λ (n : ℕ). MayTry g.N.World.design (plan_by (kept_by own) g.N.World.plan) n (fault_of c.args.beside.fault) c.args.beside.one.tried.items) same
    (may-try c.slots_take_own.ensures g.N.World.design g.N.World.plan c.args.window.now.before c.args.window.now.through c.args.slot own c.args.at.now c.args.beside c.requires.went))

pub returns-then-begins-eq0-clause-within : goal.returns-then-begins-eq0-clause-within
returns-then-begins-eq0-clause-within g c =
    let window = c.args.window.now in
    let zero : window.before ≡ 0 = sym c.begins.ensures.number ∙ c.if-begins-eq0.true in
    let through : window.through ≡ window.before + 1 = omega (arith, zero, c.requires.one zero) in
    within-there g.N.World.design g.N.World.plan window.before window.through 1 (passed_behind c.args.strobes.now) c.begin_fault.new.own c.comes_to.result c.comes_to.ensures.slot
    (c.comes_to.ensures.passed ∙ c.count_behind.ensures) (omega (arith, through)) c.in_ok-begin_fault.ensures.fault
    (λ none. subst (λ (n : ℕ). HasPassed g.N.World.design g.N.World.plan n (passed_behind c.args.strobes.now)) through c.requires.behind)

pub returns-then-begins-eq0-clause-come : goal.returns-then-begins-eq0-clause-come
returns-then-begins-eq0-clause-come g c none =
    let zero : c.args.window.now.before ≡ 0 = sym c.begins.ensures.number ∙ c.if-begins-eq0.true in
    omega (arith, zero, c.requires.one zero, c.requires.slot, c.comes_to.ensures.slot)

pub returns-then-begins-eq0-clause-stays : goal.returns-then-begins-eq0-clause-stays
returns-then-begins-eq0-clause-stays g c =
    stays-open c.args.own.now c.begin_fault.new.own c.in_ok-begin_fault.ensures.place c.requires.none

pub returns-then-begins-eq0-clause-ticks : goal.returns-then-begins-eq0-clause-ticks
returns-then-begins-eq0-clause-ticks g c tally =
    let window = c.args.window.now in
    let own = c.args.own.now in
    let zero : window.before ≡ 0 = sym c.begins.ensures.number ∙ c.if-begins-eq0.true in
    let from : window.before ≡ window.before + c.args.slot = omega (arith, zero, c.requires.one zero, c.requires.slot) in
    let until : window.before + 1 ≡ window.before + (c.args.slot + 1) = omega (arith, from) in
    whole-within c.own_steps_rise.ensures g.N.World.design g.N.World.plan (design-rules g.N.World.design c.design-design.result.now c.design-design.ensures.world) window.before window.through
    c.args.slot own c.args.at.now c.args.beside c.requires.went tally c.begin_fault.new.own c.args.steps.now c.begin_fault.new.steps c.in_ok-begin_fault.ensures.place
    (subst (λ (n : ℕ). RiseAtMostOwn g.N.World.design (plan_by (kept_by own) g.N.World.plan) n (window.before + (c.args.slot + 1)) (fault_of c.args.beside.fault ∷ []) c.args.steps.now
    (c.begin_fault.new.steps + length c.args.beside.one.tried.items)) from
    (subst (λ (n : ℕ). RiseAtMostOwn g.N.World.design (plan_by (kept_by own) g.N.World.plan) window.before n (fault_of c.args.beside.fault ∷ []) c.args.steps.now
    (c.begin_fault.new.steps + length c.args.beside.one.tried.items)) until
    (subst (λ (tried : List TriedStep). RiseAtMostOwn g.N.World.design (plan_by (kept_by own) g.N.World.plan) window.before (window.before + 1) (fault_of c.args.beside.fault ∷ [])
    c.args.steps.now (c.begin_fault.new.steps + length tried)) c.deref.ensures.value c.in_ok-begin_fault.ensures.ticks)))

-- one that is run whole through a later one
pub run_whole-requires-clause-some : goal.run_whole-requires-clause-some
run_whole-requires-clause-some g c κs within = omega (arith, c.begins.ensures.number, c.if-begins-eq0.false)

pub run_whole-requires-clause-slot : goal.run_whole-requires-clause-slot
run_whole-requires-clause-slot g c κs within =
    let come = c.requires.went.come c.requires.none in
    omega (arith, c.requires.slot, c.if-slot-at.false, come)

pub run_whole-requires-clause-tried : goal.run_whole-requires-clause-tried
run_whole-requires-clause-tried g c κs within =
    let own = c.args.own.now in
    let come = c.requires.went.come c.requires.none in
    let same : c.args.slot ≡ c.args.at.now.slot = omega (arith, c.if-slot-at.false, come) in
    subst (λ (tried : List TriedStep). MayTry g.N.World.design (plan_by (kept_by own) g.N.World.plan) (c.args.window.now.before + c.args.at.now.slot) (fault_of c.args.beside.fault) tried)
    (sym c.deref-2.ensures.value)
    (subst (λ (n : ℕ). MayTry g.N.World.design (plan_by (kept_by own) g.N.World.plan) (c.args.window.now.before + n) (fault_of c.args.beside.fault) c.args.beside.one.tried.items) same
    (may-try c.slots_take_own.ensures g.N.World.design g.N.World.plan c.args.window.now.before c.args.window.now.through c.args.slot own c.args.at.now c.args.beside c.requires.went))

pub run_whole-requires-clause-fault : goal.run_whole-requires-clause-fault
run_whole-requires-clause-fault g c κs within =
    has-come g.N.World.design g.N.World.plan c.args.window.now.before c.args.window.now.through _ c.args.own.now c.args.at.now c.requires.went.within c.requires.went.listed
    c.requires.none

pub returns-clause-come : goal.returns-clause-come
returns-clause-come g c none =
    let come = c.requires.went.come c.requires.none in
    omega (arith, c.in_ok-came-2.ensures.slot, come)

pub returns-clause-stays : goal.returns-clause-stays
returns-clause-stays g c = stays-open c.args.own.now c.run_whole.new.own c.in_ok-came-2.ensures.place c.requires.none

pub returns-clause-ticks : goal.returns-clause-ticks
returns-clause-ticks g c tally =
    let window = c.args.window.now in
    let own = c.args.own.now in
    let none = c.requires.none in
    let come = c.requires.went.come none in
    let same : c.args.at.now.slot ≡ c.args.slot = omega (arith, c.if-slot-at.false, come) in
    whole-within c.own_steps_rise.ensures g.N.World.design g.N.World.plan (design-rules g.N.World.design c.design-design.result.now c.design-design.ensures.world) window.before window.through
    c.args.slot c.args.own.now c.args.at.now c.args.beside c.requires.went tally c.run_whole.new.own c.args.steps.now c.run_whole.new.steps c.in_ok-came-2.ensures.place
    (subst (λ (n : ℕ). RiseAtMostOwn g.N.World.design (plan_by (kept_by own) g.N.World.plan) (window.before + n) (window.before + (n + 1)) (fault_of c.args.beside.fault ∷ []) c.args.steps.now
    (c.run_whole.new.steps + length c.args.beside.one.tried.items)) same
    (subst (λ (tried : List TriedStep). RiseAtMostOwn g.N.World.design (plan_by (kept_by own) g.N.World.plan) (window.before + c.args.at.now.slot) (window.before + (c.args.at.now.slot + 1))
    (fault_of c.args.beside.fault ∷ []) c.args.steps.now (c.run_whole.new.steps + length tried)) c.deref-2.ensures.value c.in_ok-came-2.ensures.ticks))
