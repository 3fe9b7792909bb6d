-- What the window tells of the block, put together.
use Rattle.std.proofs.Common.{◌≡◌, ◌<◌, get_or, length, sym, ap, subst, ◌∙◌, arith}
use Rattle.vf_base.specs.Lists.{has}
use Rattle.passed_blocks.specs.moment_laws.Passing.{PassesBlock}
use Rattle.passed_blocks.proofs.Joined.{told-there, block-to, window-untold, slot-untold, window-put, slot-put, take-there, passed-there}
use Rattle.good_moment.proofs.moment.GoodMoment.pass_block.Goals as goal

pub block_ahead-ahead-requires-clause-begins : goal.block_ahead-ahead-requires-clause-begins
block_ahead-ahead-requires-clause-begins g c κs within =
    let b = c.args.blocks.now in
    ap (has b.moments) c.moment-moment.ensures
    ∙ (told-there c.blocks_are_ahead.ensures g.N.World.design g.N.World.plan c.args.self.now b c.requires.blocks c.stands.ensures c.requires.place).begins

pub block_ahead-ahead-requires-clause-phase : goal.block_ahead-ahead-requires-clause-phase
block_ahead-ahead-requires-clause-phase g c κs within =
    let b = c.args.blocks.now in
    subst (λ n. n < length b.ends) (sym c.phase-phase.ensures)
    (told-there c.blocks_are_ahead.ensures g.N.World.design g.N.World.plan c.args.self.now b c.requires.blocks c.stands.ensures c.requires.place).phase

pub block_ahead-ahead-requires-clause-within : goal.block_ahead-ahead-requires-clause-within
block_ahead-ahead-requires-clause-within g c κs within =
    let b = c.args.blocks.now in
    let old = c.args.self.now in
    subst (λ n. c.moment-moment.result < get_or b.ends n 0) (sym c.phase-phase.ensures)
    (subst (λ n. n < get_or b.ends old.phase 0) (sym c.moment-moment.ensures)
    (told-there c.blocks_are_ahead.ensures g.N.World.design g.N.World.plan old b c.requires.blocks c.stands.ensures c.requires.place).within)

pub put_block-requires-clause-window : goal.put_block-requires-clause-window
put_block-requires-clause-window g c κs within =
    window-untold c.args.window.now.before c.args.window.now.through c.clear_told.new.self c.args.self.now c.clear_told.ensures c.requires.window

pub put_block-requires-clause-slot : goal.put_block-requires-clause-slot
put_block-requires-clause-slot g c κs within =
    slot-untold g.N.World.design g.N.World.plan c.args.window.now.before c.args.window.now.through c.clear_told.new.self c.args.self.now c.clear_told.ensures c.requires.window c.requires.place

pub put_block-requires-clause-order : goal.put_block-requires-clause-order
put_block-requires-clause-order g c κs within =
    let some : c.moment-moment.result < c.block_ahead-ahead.result.end = c.block_ahead-ahead.ensures.some in
    let moment : c.clear_told.new.self.moment ≡ c.args.self.now.moment = ap (λ k. k.moment) c.clear_told.ensures in
    omega (arith, some, moment, c.moment-moment.ensures)

pub take-requires-clause-window : goal.take-requires-clause-window
take-requires-clause-window g c κs within =
    window-put g.N.World.design g.N.World.plan c.args.window.now.before c.args.window.now.through c.block_ahead-ahead.result.end c.args.wakes.now c.clear_told.new.self c.args.self.now
    c.put_block.new.self (record { same = c.clear_told.ensures; window = c.requires.window; puts = c.in_ok-put_block.ensures })

pub take-requires-clause-slot : goal.take-requires-clause-slot
take-requires-clause-slot g c κs within =
    slot-put g.N.World.design g.N.World.plan c.args.window.now.before c.args.window.now.through c.block_ahead-ahead.result.end c.args.wakes.now c.clear_told.new.self c.args.self.now
    c.put_block.new.self (record { same = c.clear_told.ensures; window = c.requires.window; puts = c.in_ok-put_block.ensures }) c.requires.place

pub take-requires-clause-takes : goal.take-requires-clause-takes
take-requires-clause-takes g c κs within =
    let ahead = c.block_ahead-ahead.result in
    take-there c.blocks_are_passed.ensures.take g.N.World.design g.N.World.plan c.args.window.now.before c.args.window.now.through ahead.end c.args.wakes.now c.clear_told.new.self c.args.self.now
    c.put_block.new.self ahead.actor (record { same = c.clear_told.ensures; window = c.requires.window; puts = c.in_ok-put_block.ensures }) c.requires.place
    (block-to c.blocks_are_ahead.ensures g.N.World.design g.N.World.plan c.requires.place.place c.args.self.now c.args.blocks.now c.phase-phase.result c.moment-moment.result ahead.end ahead.actor
    c.requires.blocks c.stands.ensures c.requires.place.shown c.phase-phase.ensures c.moment-moment.ensures c.block_ahead-ahead.ensures)

pub returns : goal.returns
returns g c place shown some =
    let ahead = c.block_ahead-ahead.result in
    subst (λ k. PassesBlock g.N.World.design g.N.World.plan place c.args.self.now k) (sym c.set_moment.ensures)
    (passed-there c.blocks_are_passed.ensures.pass g.N.World.design g.N.World.plan place c.args.window.now.before c.args.window.now.through ahead.end c.args.wakes.now c.clear_told.new.self
    c.args.self.now c.put_block.new.self c.take.new.self ahead.actor (record { same = c.clear_told.ensures; window = c.requires.window; puts = c.in_ok-put_block.ensures }) shown
    (block-to c.blocks_are_ahead.ensures g.N.World.design g.N.World.plan place c.args.self.now c.args.blocks.now c.phase-phase.result c.moment-moment.result ahead.end ahead.actor c.requires.blocks
    c.stands.ensures shown c.phase-phase.ensures c.moment-moment.ensures c.block_ahead-ahead.ensures)
    c.in_ok-take.ensures c.requires.wakes c.stands-2.ensures)
