-- The strobes at the slot's time.
use Rattle.std.proofs.Common.{◌≡◌, ℕ, ◌+◌, List, sym, ap, subst, ◌∙◌, arith}
use Rattle.std.specs.Prelude.{Some, slice_get}
use Rattle.v_design.specs.Designs.{faulty_machine}
use Rattle.v_design.specs.Plain.{fault_of}
use Rattle.v_design.specs.Runs.{FirstSlot}
use Rattle.copy_laws.specs.Windows.{good_slots, state_at, time_at}
use Rattle.lockstep_due.proofs.window_strobes.Knowing.{design-rules}
use Rattle.lockstep_due.proofs.lockstep_shards.Laws.{last, last-there, time-there}
use Rattle.lockstep_due.specs.lockstep_copies.Copies.{IsCopyInLockstep}
use Rattle.lockstep_due.specs.copy_window.Copies.{differences_in}
use Rattle.lockstep_slot.specs.slot_laws.Copies.{lockstep_differences}
use Rattle.lockstep_due.specs.slot_strobes.Strobes.{ComeBefore}
use Rattle.copy_lockstep.specs.Faults.{StandsAtSlot}
use Rattle.copy_lockstep.proofs.FirstSlot.{grading-begins, none-before}
use Rattle.copy_lockstep.proofs.Within.{differences-are}
use Rattle.copy_lockstep.proofs.first.leave_first.Goals as goal

-- the time of the window's first slot
begins-at : (before time : ℕ) (slots : List FirstSlot) (slot : FirstSlot) → before ≡ 0 → slice_get slots 0 ≡ Some slot →
    ((one : FirstSlot) → slice_get slots (before + 0) ≡ Some one → time ≡ one.begins.time) → time ≡ slot.begins.time
begins-at before time slots slot first here is = is slot (let at : before + 0 ≡ 0 = omega (arith, first) in ap (slice_get slots) at ∙ here)

pub see_behind-requires-clause-slot : goal.see_behind-requires-clause-slot
see_behind-requires-clause-slot g c κs within = omega (arith, c.requires.first, c.requires.slot)

pub see_behind-requires-clause-next : goal.see_behind-requires-clause-next
see_behind-requires-clause-next g c κs within = omega (arith, c.requires.first, c.requires.more)

pub see_behind-requires-clause-begins : goal.see_behind-requires-clause-begins
see_behind-requires-clause-begins g c κs within =
    let design = g.N.World.design in
    let plan = g.N.World.plan in
    let rules = design-rules design c.design-design.result.now c.design-design.ensures.world in
    let slot = last c.good_run_goes_on.ensures design plan rules 0 c.requires.more in
    let here = last-there c.good_run_goes_on.ensures design plan rules 0 c.requires.more in
    let at : c.args.window.now.before + 0 + 1 ≡ 1 = omega (arith, c.requires.first) in
    ap (time_at design plan) at ∙ time-there c.good_run_goes_on.ensures design plan rules 0 c.requires.more
    ∙ ap (λ (t : ℕ). Some t) (sym (begins-at c.args.window.now.before c.slot_time-begins.result (good_slots design plan) slot c.requires.first here c.slot_time-begins.ensures))

pub see_behind-requires-clause-copy : goal.see_behind-requires-clause-copy
see_behind-requires-clause-copy g c κs within =
    let design = g.N.World.design in
    let plan = g.N.World.plan in
    let fault = fault_of c.args.fault in
    let rules = design-rules design c.design-design.result.now c.design-design.ensures.world in
    let slot = last c.good_run_goes_on.ensures design plan rules 0 c.requires.more in
    let here = last-there c.good_run_goes_on.ensures design plan rules 0 c.requires.more in
    let is = begins-at c.args.window.now.before c.slot_time-begins.result (good_slots design plan) slot c.requires.first here c.slot_time-begins.ensures in
    let at : 0 ≡ c.args.window.now.before + 0 = omega (arith, c.requires.first) in
    subst (λ (n : ℕ). IsCopyInLockstep design plan fault n c.slot_time-begins.result (differences_in design c.args.one.own.copy)) at
    (subst (λ (t : ℕ). IsCopyInLockstep design plan fault 0 t (differences_in design c.args.one.own.copy)) (sym is)
    (subst (IsCopyInLockstep design plan fault 0 slot.begins.time) (sym (differences-are design c.args.one.own.copy c.requires.states)) (c.requires.through slot here)))

pub see_behind-requires-clause-time : goal.see_behind-requires-clause-time
see_behind-requires-clause-time g c κs within =
    let design = g.N.World.design in
    let plan = g.N.World.plan in
    let fault = fault_of c.args.fault in
    let rules = design-rules design c.design-design.result.now c.design-design.ensures.world in
    let slot = last c.good_run_goes_on.ensures design plan rules 0 c.requires.more in
    let here = last-there c.good_run_goes_on.ensures design plan rules 0 c.requires.more in
    let is = begins-at c.args.window.now.before c.slot_time-begins.result (good_slots design plan) slot c.requires.first here c.slot_time-begins.ensures in
    subst (λ (t : ℕ). (state_at (faulty_machine design fault) plan.end t).time ≡ t) (sym is)
    (c.first_slot_goes_on.ensures.on_time design plan fault slot (lockstep_differences c.args.one.own.copy) here (c.requires.through slot here))

pub see_behind-requires-clause-listed : goal.see_behind-requires-clause-listed
see_behind-requires-clause-listed g c κs within = ap (slice_get g.N.World.plan.faults) c.requires.place ∙ c.requires.listed

pub see_behind-requires-clause-passed : goal.see_behind-requires-clause-passed
see_behind-requires-clause-passed g c κs within =
    let design = g.N.World.design in
    let plan = g.N.World.plan in
    let rules = design-rules design c.design-design.result.now c.design-design.ensures.world in
    let slot = last c.good_run_goes_on.ensures design plan rules 0 c.requires.more in
    let here = last-there c.good_run_goes_on.ensures design plan rules 0 c.requires.more in
    let is = begins-at c.args.window.now.before c.slot_time-begins.result (good_slots design plan) slot c.requires.first here c.slot_time-begins.ensures in
    let zero : slot.begins.time ≡ 0 = c.good_run_goes_on.ensures.first design plan slot rules here in
    subst (ComeBefore plan.strobes 0) (sym (is ∙ zero)) (none-before plan.strobes)

pub see_behind-requires-clause-grading : goal.see_behind-requires-clause-grading
see_behind-requires-clause-grading g c κs within = grading-begins c.strobed_gradings_go_on.ensures g.N.World.design g.N.World.plan (fault_of c.args.fault) _ c.forget.ensures.nothing

pub returns-clause-fault : goal.returns-clause-fault
returns-clause-fault g c =
    let at : c.args.window.now.before + 0 + 1 ≡ 1 = omega (arith, c.requires.first) in
    subst (λ (n : ℕ). StandsAtSlot g.N.World.design g.N.World.plan n c.in_ok-behind.behind c.see_behind.new.own) at c.in_ok-behind.ensures.fault

pub returns-clause-place : goal.returns-clause-place
returns-clause-place g c = record {
  number = c.in_ok-behind.ensures.place.number ∙ c.requires.place;
  kind = c.in_ok-behind.ensures.place.kind ∙ c.forget.ensures.kind;
}
