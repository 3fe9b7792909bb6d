-- The shard that was found stands behind the window.
use Rattle.std.proofs.Common.{◌≤◌, arith}
use Rattle.shard_turns.proofs.Faults.{keeps-rules, window-more}
use Rattle.shard_turns.proofs.Steps.{shard-rises}
use Rattle.shard_turns.proofs.turn.found_behind.Goals as goal

pub returns : goal.returns
returns g c tally =
    let more = window-more g.N.World.design g.N.World.plan c.args.window.now c.window.result.now c.window.ensures c.begins-first.ensures.window in
    let at = c.requires.at in
    let early : c.args.own.now.gone ≤ c.args.window.now.through = omega (arith, more, at) in
    shard-rises c.own_steps_rise.ensures g.N.World.design g.N.World.plan (keeps-rules g.N.World.design c.design-design.result.now c.design-design.ensures.world) tally c.args.window.now.through
    c.args.own.now c.args.other.now early c.requires.done c.stands.ensures.stands
