-- The later moment goes ahead, the runner follows, and then the earlier moment.
use Rattle.std.proofs.Common.{refl}
use Rattle.lockstep_turn.proofs.slot_laws.Rooms.{before-block, before-within, beside, behind-block, behind-within, can-follow, goes-over}
use Rattle.lockstep_phase.proofs.pass.pass_block.Goals as goal

pub pass_block-requires-clause-window : goal.pass_block-requires-clause-window
pass_block-requires-clause-window g c κs within =
    let room = c.args.room.now in
    let next = c.requires.next in
    let window = c.args.view.now.window.now in
    behind-within g.N.World.design g.N.World.plan window.before window.through next.number next.place room.runner room.before room.behind next.room _ _ refl refl

pub pass_block-requires-clause-blocks : goal.pass_block-requires-clause-blocks
pass_block-requires-clause-blocks g c κs within =
    let room = c.args.room.now in
    let next = c.requires.next in
    let window = c.args.view.now.window.now in
    behind-within g.N.World.design g.N.World.plan window.before window.through next.number next.place room.runner room.before room.behind next.room _ _ c.requires.window.blocks_begin
    c.requires.window.blocks_end

pub pass_block-requires-clause-wakes : goal.pass_block-requires-clause-wakes
pass_block-requires-clause-wakes g c κs within =
    let room = c.args.room.now in
    let next = c.requires.next in
    let window = c.args.view.now.window.now in
    behind-within g.N.World.design g.N.World.plan window.before window.through next.number next.place room.runner room.before room.behind next.room _ _ c.requires.window.wakes_begin
    c.requires.window.wakes_end

pub pass_block-requires-clause-place : goal.pass_block-requires-clause-place
pass_block-requires-clause-place g c κs within =
    let room = c.args.room.now in
    let next = c.requires.next in
    let window = c.args.view.now.window.now in
    behind-block g.N.World.design g.N.World.plan window.before window.through next.number next.place room.runner room.before room.behind next.room next.some

pub follow_block-requires-clause-here : goal.follow_block-requires-clause-here
follow_block-requires-clause-here g c κs within =
    let room = c.args.room.now in
    let next = c.requires.next in
    let window = c.args.view.now.window.now in
    can-follow g.N.World.design g.N.World.plan window.before window.through next.number next.place room.runner room.before room.behind c.pass_block.new.self next.room
    (c.in_ok-pass_block.ensures next.place next.room.at.behind_at next.some)

pub pass_block-requires-2-clause-window : goal.pass_block-requires-2-clause-window
pass_block-requires-2-clause-window g c κs within =
    let room = c.args.room.now in
    let next = c.requires.next in
    let window = c.args.view.now.window.now in
    before-within g.N.World.design g.N.World.plan window.before window.through next.number next.place room.runner room.before room.behind next.room _ _ refl refl

pub pass_block-requires-2-clause-blocks : goal.pass_block-requires-2-clause-blocks
pass_block-requires-2-clause-blocks g c κs within =
    let room = c.args.room.now in
    let next = c.requires.next in
    let window = c.args.view.now.window.now in
    before-within g.N.World.design g.N.World.plan window.before window.through next.number next.place room.runner room.before room.behind next.room _ _ c.requires.window.blocks_begin
    c.requires.window.blocks_end

pub pass_block-requires-2-clause-wakes : goal.pass_block-requires-2-clause-wakes
pass_block-requires-2-clause-wakes g c κs within =
    let room = c.args.room.now in
    let next = c.requires.next in
    let window = c.args.view.now.window.now in
    before-within g.N.World.design g.N.World.plan window.before window.through next.number next.place room.runner room.before room.behind next.room _ _ c.requires.window.wakes_begin
    c.requires.window.wakes_end

pub pass_block-requires-2-clause-place : goal.pass_block-requires-2-clause-place
pass_block-requires-2-clause-place g c κs within =
    let room = c.args.room.now in
    let next = c.requires.next in
    let window = c.args.view.now.window.now in
    before-block g.N.World.design g.N.World.plan window.before window.through next.number next.place room.runner room.before room.behind next.room next.some

pub returns-clause-over : goal.returns-clause-over
unfolding beside can-follow
returns-clause-over g c = λ number place at some.
    let room = c.args.room.now in
    let window = c.args.view.now.window.now in
    let design = g.N.World.design in
    let plan = g.N.World.plan in
    let ahead = c.in_ok-pass_block.ensures place at.at.behind_at some in
    goes-over design plan window.before window.through number place room.runner room.before room.behind c.pass_block.new.self at ahead c.follow_block.new.runner c.pass_block-2.new.self
    (c.in_ok-follow_block.ensures (can-follow design plan window.before window.through number place room.runner room.before room.behind c.pass_block.new.self at ahead))
    (c.in_ok-pass_block-2.ensures place at.at.before_at some)
