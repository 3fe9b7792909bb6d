-- In, through and out.
use Rattle.std.proofs.Common.{◌+◌, arith}
use Rattle.copy_lockstep.specs.window_faults.Steps.{StaysFault, steps_of_faults}
use Rattle.copy_lockstep.proofs.window_faults.Lists.{zip-join}
use Rattle.copy_lockstep.proofs.window_faults.Steps.{stays-on}
use Rattle.shard_slots.proofs.Leaving.{slot-rises}
use Rattle.shard_slots.proofs.Numbers.{same-all}
use Rattle.shard_slots.proofs.Beside.{begin-each, have-gone, none-ticked, sites}
use Rattle.shard_slots.proofs.slots.go_slot.Goals as goal

pub go_beside-requires-clause-begins : goal.go_beside-requires-clause-begins
go_beside-requires-clause-begins g c κs within =
    begin-each g.N.World.design g.N.World.plan c.args.view.now.window.now.before c.args.view.now.window.now.through c.args.slot c.enter_each.new.faults.items
    c.enter_each.new.ats.items c.in_ok-entrants.entrants.entered.items c.in_ok-entrants.entrants.besides.items c.in_ok-entrants.ensures.entered

pub go_beside-requires-clause-sites : goal.go_beside-requires-clause-sites
go_beside-requires-clause-sites g c κs within =
    sites g.N.World.design g.N.World.plan c.args.view.now.window.now.before c.args.view.now.window.now.through c.args.slot c.enter_each.new.faults.items c.enter_each.new.ats.items
    c.in_ok-entrants.entrants.entered.items c.in_ok-entrants.entrants.besides.items c.in_ok-entrants.ensures.entered c.searches_begin.ensures c.plan-plan.ensures.fits

pub leave_each-requires-clause-gone : goal.leave_each-requires-clause-gone
leave_each-requires-clause-gone g c κs within =
    have-gone g.N.World.design g.N.World.plan c.args.view.now.window.now.before c.args.view.now.window.now.through c.args.slot c.enter_each.new.faults.items
    c.enter_each.new.ats.items c.in_ok-entrants.entrants.entered.items c.in_ok-entrants.entrants.besides.items c.go_beside.new.besides.items c.in_ok-entrants.ensures.entered c.in_ok-go_beside.ensures.besides

pub leave_each-requires-clause-one : goal.leave_each-requires-clause-one
leave_each-requires-clause-one g c κs within = λ zero. absurd (omega (arith, zero, c.requires.some))

pub leave_each-requires-clause-more : goal.leave_each-requires-clause-more
leave_each-requires-clause-more g c κs within = λ zero. absurd (omega (arith, zero, c.requires.some))

pub returns-clause-faults : goal.returns-clause-faults
returns-clause-faults g c =
    zip-join StaysFault stays-on c.args.faults.now.items c.enter_each.new.faults.items c.leave_each.new.faults.items c.in_ok-entrants.ensures.faults c.in_ok-leave_each.ensures.faults

pub returns-clause-ticks : goal.returns-clause-ticks
returns-clause-ticks g c tally =
    let here = c.args.view.now.window.now.before + c.args.slot in
    let same = same-all tally here c.args.faults.now.items c.enter_each.new.faults.items c.in_ok-entrants.ensures.faults in
    let none = none-ticked g.N.World.design g.N.World.plan c.args.view.now.window.now.before c.args.view.now.window.now.through c.args.slot c.enter_each.new.faults.items c.enter_each.new.ats.items
    c.in_ok-entrants.entrants.entered.items c.in_ok-entrants.entrants.besides.items c.in_ok-entrants.ensures.entered in
    slot-rises (steps_of_faults tally here c.args.faults.now.items) (steps_of_faults tally here c.enter_each.new.faults.items) _ _ _ c.args.steps.now c.go_beside.new.steps c.leave_each.new.steps
    (omega (arith, same)) none c.in_ok-go_beside.ensures.ticks (c.in_ok-leave_each.ensures.ticks tally)
