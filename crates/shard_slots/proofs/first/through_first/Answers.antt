-- In, through and out.
use Rattle.std.proofs.Common.{◌≡◌, ◌+◌, ◌<◌, ℕ, length, refl, sym, ap, subst, ◌∙◌, arith}
use Rattle.vf_base.specs.Lists.{AllHold}
use Rattle.copy_lockstep.specs.graded_steps.Behind.{RisesWithin}
use Rattle.copy_lockstep.specs.copy_window.ShardFaults.{IsShardFault}
use Rattle.copy_lockstep.specs.window_strobes.Strobes.{passed_behind}
use Rattle.copy_lockstep.specs.copy_window.declared.fault.ShardFault.{ShardFault}
use Rattle.copy_lockstep.proofs.window_strobes.Knowing.{design-rules}
use Rattle.copy_lockstep.specs.window_faults.Steps.{steps_of_faults}
use Rattle.copy_lockstep.proofs.window_faults.Within.{are-within-all, is-listed}
use Rattle.shard_slots.proofs.Beside.{begin-each, have-gone, none-ticked, sites}
use Rattle.shard_slots.proofs.Leaving.{slot-rises}
use Rattle.shard_slots.proofs.Starting.{all-entered, all-held}
use Rattle.shard_slots.proofs.first.through_first.Goals as goal

pub enter_at_start-requires-clause-slot : goal.enter_at_start-requires-clause-slot
enter_at_start-requires-clause-slot g c κs within = omega (arith, c.requires.one)

pub enter_at_start-requires-clause-faults : goal.enter_at_start-requires-clause-faults
enter_at_start-requires-clause-faults g c κs within =
    subst (AllHold (λ (own : ShardFault). own.copy.fault < length g.N.World.plan.faults)) (sym c.deref.ensures.value)
    (all-held (IsShardFault g.N.World.design g.N.World.plan c.args.view.now.window.now.before c.args.strobes.now.passed) (λ (own : ShardFault). own.copy.fault < length g.N.World.plan.faults)
    (λ own stands. is-listed g.N.World.design g.N.World.plan c.args.view.now.window.now.before c.args.strobes.now.passed own stands) c.args.faults.now.items c.requires.faults)

pub go_beside-requires-clause-slot : goal.go_beside-requires-clause-slot
go_beside-requires-clause-slot g c κs within = omega (arith, c.requires.first, c.requires.one)

pub go_beside-requires-clause-begins : goal.go_beside-requires-clause-begins
go_beside-requires-clause-begins g c κs within =
    let w = c.args.view.now.window.now in
    begin-each g.N.World.design g.N.World.plan w.before w.through 0 c.args.faults.now.items c.in_ok-ats.ats.items c.in_ok-entered.entered.items c.in_ok-besides.besides.items
    (all-entered g.N.World.design g.N.World.plan w w c.args.strobes.now.passed c.len-count.result c.args.faults.now.items _ c.in_ok-ats.ats.items c.in_ok-entered.entered.items c.in_ok-besides.besides.items
    refl c.requires.first c.requires.one c.requires.more c.requires.strobes.has_passed c.requires.faults c.deref.ensures.value (omega (arith, c.len-count.ensures, c.args.faults.now.ok.0)) c.in_ok-ats.ensures
    c.in_ok-entered.ensures c.in_ok-besides.ensures.entered)

pub go_beside-requires-clause-sites : goal.go_beside-requires-clause-sites
go_beside-requires-clause-sites g c κs within =
    let w = c.args.view.now.window.now in
    sites g.N.World.design g.N.World.plan w.before w.through 0 c.args.faults.now.items c.in_ok-ats.ats.items c.in_ok-entered.entered.items c.in_ok-besides.besides.items
    (all-entered g.N.World.design g.N.World.plan w w c.args.strobes.now.passed c.len-count.result c.args.faults.now.items _ c.in_ok-ats.ats.items c.in_ok-entered.entered.items c.in_ok-besides.besides.items
    refl c.requires.first c.requires.one c.requires.more c.requires.strobes.has_passed c.requires.faults c.deref.ensures.value (omega (arith, c.len-count.ensures, c.args.faults.now.ok.0)) c.in_ok-ats.ensures
    c.in_ok-entered.ensures c.in_ok-besides.ensures.entered)
    c.searches_begin.ensures c.plan-plan.ensures.fits

pub leave_each-requires-clause-one : goal.leave_each-requires-clause-one
leave_each-requires-clause-one g c κs within = λ zero. c.requires.one

pub leave_each-requires-clause-more : goal.leave_each-requires-clause-more
leave_each-requires-clause-more g c κs within = λ zero. c.requires.more

pub leave_each-requires-clause-slot : goal.leave_each-requires-clause-slot
leave_each-requires-clause-slot g c κs within = omega (arith, c.requires.first, c.requires.one)

pub leave_each-requires-clause-gone : goal.leave_each-requires-clause-gone
leave_each-requires-clause-gone g c κs within =
    let w = c.args.view.now.window.now in
    have-gone g.N.World.design g.N.World.plan w.before w.through 0 c.args.faults.now.items c.in_ok-ats.ats.items c.in_ok-entered.entered.items c.in_ok-besides.besides.items c.go_beside.new.besides.items
    (all-entered g.N.World.design g.N.World.plan w w c.args.strobes.now.passed c.len-count.result c.args.faults.now.items _ c.in_ok-ats.ats.items c.in_ok-entered.entered.items c.in_ok-besides.besides.items
    refl c.requires.first c.requires.one c.requires.more c.requires.strobes.has_passed c.requires.faults c.deref.ensures.value (omega (arith, c.len-count.ensures, c.args.faults.now.ok.0)) c.in_ok-ats.ensures
    c.in_ok-entered.ensures c.in_ok-besides.ensures.entered)
    c.in_ok-go_beside.ensures.besides

pub returns-clause-faults : goal.returns-clause-faults
returns-clause-faults g c =
    let w = c.args.view.now.window.now in
    are-within-all g.N.World.design g.N.World.plan w.before w.through c.faults_go_on.ensures (design-rules g.N.World.design c.design-design.result.now c.design-design.ensures.world) (0 + 1)
    (passed_behind c.args.strobes.now) c.args.faults.now.items c.leave_each.new.faults.items c.leave_each.new.ats.items (omega (arith, c.requires.first, c.requires.one)) c.requires.behind
    c.in_ok-leave_each.ensures.within c.in_ok-leave_each.ensures.faults

pub returns-clause-ticks : goal.returns-clause-ticks
returns-clause-ticks g c tally =
    let w = c.args.view.now.window.now in
    let here : w.before ≡ w.before + 0 = omega arith in
    let there : w.before + (0 + 1) ≡ w.through = omega (arith, c.requires.first, c.requires.one) in
    let same = ap (λ (n : ℕ). steps_of_faults tally n c.args.faults.now.items) here in
    let none = none-ticked g.N.World.design g.N.World.plan w.before w.through 0 c.args.faults.now.items c.in_ok-ats.ats.items c.in_ok-entered.entered.items c.in_ok-besides.besides.items
    (all-entered g.N.World.design g.N.World.plan w w c.args.strobes.now.passed c.len-count.result c.args.faults.now.items _ c.in_ok-ats.ats.items c.in_ok-entered.entered.items c.in_ok-besides.besides.items
    refl c.requires.first c.requires.one c.requires.more c.requires.strobes.has_passed c.requires.faults c.deref.ensures.value (omega (arith, c.len-count.ensures, c.args.faults.now.ok.0)) c.in_ok-ats.ensures
    c.in_ok-entered.ensures c.in_ok-besides.ensures.entered) in
    subst (λ (n : ℕ). RisesWithin (steps_of_faults tally w.before c.args.faults.now.items) (steps_of_faults tally n c.leave_each.new.faults.items) c.args.steps.now c.leave_each.new.steps) there
    (slot-rises (steps_of_faults tally w.before c.args.faults.now.items) (steps_of_faults tally (w.before + 0) c.args.faults.now.items) _ _ _ c.args.steps.now c.go_beside.new.steps
    c.leave_each.new.steps (omega (arith, same)) none c.in_ok-go_beside.ensures.ticks (c.in_ok-leave_each.ensures.ticks tally))
