-- The block of a moment.
use Rattle.std.proofs.Common.{◌+◌, ◌<◌, length, get_or, sym, subst}
use Rattle.std.specs.Prelude.{Some}
use Rattle.between_slots.specs.Between.{window_phases}
use Rattle.window_blocks.specs.Blocks.{IsBlockAt}
use Rattle.passed_blocks.proofs.Ahead.{block-some, actor-there, end-told, ahead-is}
use Rattle.good_moment.proofs.block.block_ahead.Goals as goal

pub unwrap-number-requires : goal.unwrap-number-requires
unwrap-number-requires g c = block-some c.args.blocks.now.moments c.args.moment c.block_at.result c.requires.begins c.block_at.ensures

pub bounds-actors-number : goal.bounds-actors-number
bounds-actors-number g c =
    let b = c.args.blocks.now in
    let at : IsBlockAt b.moments c.args.moment (Some c.unwrap-number.result) = subst (IsBlockAt b.moments c.args.moment) c.unwrap-number.ensures c.block_at.ensures in
    actor-there (window_phases g.N.World.design g.N.World.plan b.before b.through) b.moments b.firsts c.actors-actors.result.now c.args.moment c.unwrap-number.result c.stands.ensures.firsts c.actors-actors.ensures at

pub block_end-end-requires : goal.block_end-end-requires
block_end-end-requires g c =
    let b = c.args.blocks.now in
    let at : IsBlockAt b.moments c.args.moment (Some c.unwrap-number.result) = subst (IsBlockAt b.moments c.args.moment) c.unwrap-number.ensures c.block_at.ensures in
    subst (λ l. c.unwrap-number.result < length l) (sym c.moments-moments.ensures) at.0

pub returns : goal.returns
returns g c =
    let b = c.args.blocks.now in
    let number = c.unwrap-number.result in
    let at : IsBlockAt b.moments c.args.moment (Some number) = subst (IsBlockAt b.moments c.args.moment) c.unwrap-number.ensures c.block_at.ensures in
    ahead-is (window_phases g.N.World.design g.N.World.plan b.before b.through) b.moments b.firsts c.actors-actors.result.now (get_or b.ends c.args.phase 0) c.args.moment number c.block_end-end.result _
    c.stands.ensures.moments.ascend c.stands.ensures.firsts c.actors-actors.ensures c.requires.begins at c.requires.within
    (end-told b.moments c.moments-moments.result.now b.ends c.phase_ends-ends.result.now (number + 1) c.block_end-end.result c.args.phase c.moments-moments.ensures c.phase_ends-ends.ensures
    c.block_end-end.ensures.inside c.block_end-end.ensures.past)
