-- Both moments, and then the runner.
use Rattle.std.proofs.Common.{◌∙◌}
use Rattle.lockstep_phase.proofs.slot_laws.Begins.{may-stand, room-at-slot}
use Rattle.lockstep_slot.proofs.slot.go_to_slot.Goals as goal

pub go_to-requires-clause-whole : goal.go_to-requires-clause-whole
go_to-requires-clause-whole g c κs within = c.requires.room.before_is

pub go_to-requires-2-clause-whole : goal.go_to-requires-2-clause-whole
go_to-requires-2-clause-whole g c κs within = c.requires.room.behind_is

pub stand_at-requires-clause-whole : goal.stand_at-requires-clause-whole
stand_at-requires-clause-whole g c κs within = c.requires.room.whole

pub stand_at-requires-clause-design : goal.stand_at-requires-clause-design
stand_at-requires-clause-design g c κs within = c.requires.room.design_is

pub stand_at-requires-clause-counts : goal.stand_at-requires-clause-counts
stand_at-requires-clause-counts g c κs within = c.requires.room.counts_are

pub stand_at-requires-clause-good : goal.stand_at-requires-clause-good
stand_at-requires-clause-good g c κs within =
    let window = c.args.view.now.window.now in
    may-stand c.phases_follow.ensures.phases g.N.World.design g.N.World.plan window.before window.through c.args.slot c.go_to.new.self c.in_ok-go_to.ensures c.moments_stand.ensures
    c.slot_time-time.result c.slot_time-time.ensures

pub returns-clause-at : goal.returns-clause-at
unfolding may-stand
returns-clause-at g c =
    let design = g.N.World.design in
    let plan = g.N.World.plan in
    let window = c.args.view.now.window.now in
    room-at-slot design plan window.before window.through c.args.slot c.stand_at.new.runner c.go_to.new.self c.go_to-2.new.self c.in_ok-go_to.ensures c.in_ok-go_to-2.ensures
    (c.in_ok-stand_at.ensures
    (may-stand c.phases_follow.ensures.phases design plan window.before window.through c.args.slot c.go_to.new.self c.in_ok-go_to.ensures c.moments_stand.ensures c.slot_time-time.result
    c.slot_time-time.ensures))

pub returns-clause-time : goal.returns-clause-time
returns-clause-time g c = λ one is.
    let window = c.args.view.now.window.now in
    let may =
    may-stand c.phases_follow.ensures.phases g.N.World.design g.N.World.plan window.before window.through c.args.slot c.go_to.new.self c.in_ok-go_to.ensures c.moments_stand.ensures
    c.slot_time-time.result c.slot_time-time.ensures in
    may.shown.shows.time ∙ may.time_is ∙ c.slot_time-time.ensures one is
