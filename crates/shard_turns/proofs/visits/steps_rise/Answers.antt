-- The window has slots, and the shard's faults are listed.
use Rattle.fault_shards.specs.Shards.{representatives_of}
use Rattle.shard_turns.proofs.Faults.{keeps-rules, window-more}
use Rattle.shard_turns.proofs.Steps.{faults-rise, shard-listed}
use Rattle.fault_shards.specs.Cuts.{shard}
use Rattle.shard_turns.proofs.visits.steps_rise.Goals as goal

pub returns : goal.returns
returns g c tally =
    let reps = representatives_of c.args.round.now.shards.now in
    faults-rise c.own_steps_rise.ensures g.N.World.design g.N.World.plan (keeps-rules g.N.World.design c.design-design.result.now c.design-design.ensures.world) tally
    c.args.round.now.window.now.before c.args.round.now.window.now.through
    (window-more g.N.World.design g.N.World.plan c.args.round.now.window.now c.window.result.now c.window.ensures c.begins-first.ensures.window) (shard c.args.number reps)
    (shard-listed g.N.World.design g.N.World.plan reps c.args.number c.shards_cover.ensures c.requires.shards_are.representatives)
