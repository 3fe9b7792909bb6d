-- The first slot, or a later one.
use Rattle.std.proofs.Common.{◌≡◌, ℕ, ◌+◌, sym, ap, subst, ◌∙◌, arith, inl, inr}
use Rattle.std.specs.Prelude.{Some, slice_get}
use Rattle.v_design.specs.Designs.{FlatDesign, StuckAt, TestPlan}
use Rattle.v_design.specs.Plain.{fault_of}
use Rattle.v_design.specs.Runs.{FirstSlot}
use Rattle.copy_laws.specs.Windows.{good_slots}
use Rattle.copy_lockstep.specs.Entered.{EntersSlot}
use Rattle.copy_lockstep.specs.Faults.{StandsAtSlot}
use Rattle.copy_lockstep.specs.copy_window.declared.fault.ShardFault.{ShardFault}
use Rattle.copy_lockstep.specs.lockstep_copies.Copies.{IsCopyInLockstep}
use Rattle.copy_lockstep.specs.slot_laws.Copies.{lockstep_differences}
use Rattle.copy_lockstep.specs.window_faults.declared.at.FaultAt.{FaultAt}
use Rattle.shard_slots.specs.Slots.{EntersAt}
use Rattle.shard_slots.proofs.leave.leave_going.Goals as goal

-- behind others
later-enters : (design : FlatDesign) (plan : TestPlan) (fault : StuckAt) (gone : ℕ) (own : ShardFault) (at : FaultAt) → (gone ≡ 0 → ⊥) → EntersAt design plan fault gone own at →
    EntersSlot design plan fault gone at.passed own at.seen at.possible
later-enters design plan fault gone own at later enters = elim enters [ inl slot ↦ slot | inr first ↦ absurd (later first) ]

pub leave_first-requires-clause-first : goal.leave_first-requires-clause-first
leave_first-requires-clause-first g c κs within = sym c.begins.ensures.number ∙ c.if-begins-eq0.true

pub leave_first-requires-clause-slot : goal.leave_first-requires-clause-slot
leave_first-requires-clause-slot g c κs within = omega (arith, c.requires.slot)

pub leave_first-requires-clause-more : goal.leave_first-requires-clause-more
leave_first-requires-clause-more g c κs within = c.requires.more (sym c.begins.ensures.number ∙ c.if-begins-eq0.true)

pub leave_first-requires-clause-through : goal.leave_first-requires-clause-through
leave_first-requires-clause-through g c κs within = λ first here.
    let zero : c.args.window.now.before ≡ 0 = sym c.begins.ensures.number ∙ c.if-begins-eq0.true in
    let gone : c.args.window.now.before + c.args.slot ≡ 0 = omega (arith, zero, c.requires.one zero, c.requires.slot) in
    subst (λ (n : ℕ). IsCopyInLockstep g.N.World.design g.N.World.plan (fault_of c.args.beside.fault) n first.begins.time (lockstep_differences c.args.beside.one.own.copy)) gone
    (c.requires.through first (ap (slice_get (good_slots g.N.World.design g.N.World.plan)) gone ∙ here))

pub returns-then-begins-eq0-clause-slot : goal.returns-then-begins-eq0-clause-slot
returns-then-begins-eq0-clause-slot g c =
    let zero : c.args.window.now.before ≡ 0 = sym c.begins.ensures.number ∙ c.if-begins-eq0.true in
    omega (arith, zero, c.requires.one zero, c.requires.slot, c.comes_to.ensures.slot)

pub returns-then-begins-eq0-clause-fault : goal.returns-then-begins-eq0-clause-fault
returns-then-begins-eq0-clause-fault g c =
    let zero : c.args.window.now.before ≡ 0 = sym c.begins.ensures.number ∙ c.if-begins-eq0.true in
    let at : 1 ≡ c.args.window.now.before + (c.args.slot + 1) = omega (arith, zero, c.requires.one zero, c.requires.slot) in
    subst (λ (n : ℕ). StandsAtSlot g.N.World.design g.N.World.plan n c.comes_to.result.passed c.leave_first.new.own) at
    (subst (λ (n : ℕ). StandsAtSlot g.N.World.design g.N.World.plan 1 n c.leave_first.new.own) (sym c.comes_to.ensures.passed) c.in_ok-passed.ensures.fault)

pub leave_slot-requires-clause-entered : goal.leave_slot-requires-clause-entered
leave_slot-requires-clause-entered g c κs within =
    later-enters g.N.World.design g.N.World.plan (fault_of c.args.beside.fault) (c.args.window.now.before + c.args.slot) c.args.own.now c.args.at
    (λ zero. omega (arith, zero, c.begins.ensures.number, c.if-begins-eq0.false)) c.requires.entered

pub returns-clause-slot : goal.returns-clause-slot
returns-clause-slot g c = c.comes_to-2.ensures.slot ∙ c.in_ok-reached.ensures.slot

pub returns-clause-fault : goal.returns-clause-fault
returns-clause-fault g c =
    subst (λ (n : ℕ). StandsAtSlot g.N.World.design g.N.World.plan (c.args.window.now.before + n) c.comes_to-2.result.passed c.leave_slot.new.own) c.in_ok-reached.ensures.slot
    (subst (λ (n : ℕ). StandsAtSlot g.N.World.design g.N.World.plan (c.args.window.now.before + c.in_ok-reached.reached.slot) n c.leave_slot.new.own) (sym c.comes_to-2.ensures.passed)
    c.in_ok-reached.ensures.fault)
