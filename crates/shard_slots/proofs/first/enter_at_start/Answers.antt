-- The room's good machine holds its first values there.
use Rattle.std.proofs.Common.{◌+◌, ◌∙◌, arith}
use Rattle.copy_lockstep.proofs.window_strobes.Knowing.{design-rules}
use Rattle.shard_slots.proofs.Starting.{room-there, start-values}
use Rattle.shard_slots.proofs.first.enter_at_start.Goals as goal

pub go_to-requires-clause-whole : goal.go_to-requires-clause-whole
go_to-requires-clause-whole g c κs within = c.requires.lockstep.before_is

pub go_to-requires-clause-slot : goal.go_to-requires-clause-slot
go_to-requires-clause-slot g c κs within = omega (arith, c.requires.first, c.requires.slot)

pub enter_first_each-requires-clause-good : goal.enter_first_each-requires-clause-good
enter_first_each-requires-clause-good g c κs within =
    let window = c.args.view.now.window.now in
    c.values.ensures
    ∙ start-values c.first_run_goes_on.ensures c.phases_follow.ensures.phases g.N.World.design g.N.World.plan
    (design-rules g.N.World.design c.design-design.result.now c.design-design.ensures.world) window.before window.through c.go_to.new.self c.requires.first c.in_ok-go_to.ensures

pub returns-clause-entered : goal.returns-clause-entered
returns-clause-entered g c = c.in_ok-besides.ensures.entered

pub returns-clause-lockstep : goal.returns-clause-lockstep
returns-clause-lockstep g c =
    let window = c.args.view.now.window.now in
    let room = c.args.lockstep.now in
    room-there g.N.World.design g.N.World.plan window.before window.through room.runner room.before room.behind c.go_to.new.self room.counts c.requires.lockstep c.in_ok-go_to.ensures

pub returns-clause-room : goal.returns-clause-room
returns-clause-room g c = c.in_ok-besides.ensures.room
