-- Behind the slots that leave the copy alone.
use Rattle.std.proofs.Common.{◌≡◌, ◌+◌, ◌-◌, ◌<◌, List, length, map, sym, ap, subst, ◌∙◌, arith}
use Rattle.std.specs.Prelude.{None, Some, slice_get}
use Rattle.vf_base.specs.Base.{WatchedBit, watched_bit}
use Rattle.vf_base.specs.Lists.{AllHold}
use Rattle.vf_base.specs.declared.ids.WatchBit.{WatchBit}
use Rattle.v_design.specs.Designs.{TestPlan}
use Rattle.v_design.specs.Plain.{fault_of}
use Rattle.v_design.specs.Runs.{FirstSlot}
use Rattle.copy_laws.specs.Differences.{own_of}
use Rattle.copy_laws.specs.Windows.{good_slots}
use Rattle.copy_state.specs.Kept.{differences_of}
use Rattle.quiet_index.specs.PassOver.{SlotsLeaveAlone}
use Rattle.lockstep_due.proofs.copy_pass.Left.{site-there}
use Rattle.lockstep_due.proofs.window_strobes.Knowing.{design-rules, plan-rules}
use Rattle.copy_lockstep.proofs.Passing.{fewer-left, passes-over}
use Rattle.copy_lockstep.proofs.Within.{objects-there}
use Rattle.copy_lockstep.proofs.pass.pass_slots.Goals as goal

pub next_touched-requires-clause-objects : goal.next_touched-requires-clause-objects
next_touched-requires-clause-objects g c κs within = objects-there g.N.World.design c.args.own.now.copy c.requires.fault.behind.stands.within

pub next_touched-requires-clause-site : goal.next_touched-requires-clause-site
next_touched-requires-clause-site g c κs within =
    site-there c.searches_begin.ensures g.N.World.design g.N.World.plan c.args.own.now.copy.fault (fault_of c.args.fault) c.plan-plan.ensures.fits c.requires.fault.behind.listed

pub strobes_by-requires-after_bounds : goal.strobes_by-requires-after_bounds
strobes_by-requires-after_bounds g c κs within = c.requires.fault.behind.has_passed.within

pub returns-clause-fault : goal.returns-clause-fault
returns-clause-fault g c =
    let design = g.N.World.design in
    let plan = g.N.World.plan in
    let before = c.args.window.now.before in
    let next = c.min-next.result in
    let further : c.args.at.slot < next = omega (arith, c.if-next-at.false) in
    let kept = c.next_touched.ensures.values (omega (arith, further, c.min-next.ensures)) in
    let rules = design-rules design c.design-design.result.now c.design-design.ensures.world in
    let of_plan = plan-rules plan c.plan-plan.result.now c.plan-plan.ensures.world in
    let some : before + c.args.at.slot < before + next = omega (arith, further) in
    let more : before + next < length (good_slots design plan) = omega (arith, c.min-next.ensures, c.requires.more) in
    let alone : SlotsLeaveAlone design plan (fault_of c.args.fault) (differences_of c.args.setup.now.codes c.args.own.now.copy) (before + c.args.at.slot) (before + next) =
    fewer-left design plan (fault_of c.args.fault) (differences_of c.args.setup.now.codes c.args.own.now.copy) (before + c.args.at.slot) (before + c.next_touched.result) (before + next)
    (omega (arith, c.min-next.ensures)) c.next_touched.ensures.alone in
    let same_now : c.args.own.now.time ≡ c.slot_time-now.result = omega (arith, c.if-own-now.false) in
    let one_time : (slot : FirstSlot) → slice_get (good_slots design plan) ((before + c.args.at.slot) - 1) ≡ Some slot → c.args.own.now.time ≡ slot.begins.time =
    λ slot here.
    (let at : before + (c.args.at.slot - 1) ≡ (before + c.args.at.slot) - 1 = omega (arith, c.if-at-eq0.false) in
    same_now ∙ c.slot_time-now.ensures slot (ap (slice_get (good_slots design plan)) at ∙ here)) in
    let none =
    subst (λ (p : TestPlan). AllHold (λ (w : WatchedBit). own_of c.args.own.now.copy.values w.object ≡ None) p.watched) (sym c.plan-plan.ensures.world)
    (subst (λ (watched : List WatchBit). AllHold (λ (w : WatchedBit). own_of c.args.own.now.copy.values w.object ≡ None) (map watched_bit watched)) c.as_slice.ensures
    (c.is_unseen.ensures c.if-not-is_unseen.false)) in
    passes-over c.shards_go_in_lockstep.ensures c.good_run_goes_on.ensures design plan rules of_plan (fault_of c.args.fault) (before + c.args.at.slot) c.args.at.passed c.args.own.now c.requires.fault
    c.args.setup.now.codes (before + next) some more kept.0 kept.1 alone one_time none c.slot_time-time.result
    (λ one here.
    (let at : before + (next - 1) ≡ (before + next) - 1 = omega (arith, further) in c.slot_time-time.ensures one (ap (slice_get (good_slots design plan)) at ∙ here)))
    c.strobes_by.result c.strobes_by.ensures
