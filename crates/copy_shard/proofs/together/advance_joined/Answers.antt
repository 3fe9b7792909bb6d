-- No faults stand before those of the shards.
use Rattle.std.proofs.Common.{List, sym, subst, arith}
use Rattle.vf_base.specs.Lists.{AllHold}
use Rattle.shard_windows.specs.copy_window.ShardFaults.{IsShardFault}
use Rattle.shard_windows.specs.copy_window.declared.fault.ShardFault.{ShardFault}
use Rattle.shard_windows.specs.Reached.{HasReachedIfOpen}
use Rattle.shard_windows.proofs.Beginning.{reached_at_start}
use Rattle.copy_shard.proofs.Joining.{no-faults, none-behind}
use Rattle.copy_shard.proofs.together.advance_joined.Goals as goal

pub advance_rest-requires-clause-reached : goal.advance_rest-requires-clause-reached
advance_rest-requires-clause-reached g c κs within =
    subst (HasReachedIfOpen g.N.World.design g.N.World.plan c.args.window.now.before reached_at_start) (sym c.new-none.ensures.items) (λ some. cc)

pub advance_rest-requires-clause-faults : goal.advance_rest-requires-clause-faults
advance_rest-requires-clause-faults g c κs within =
    subst (λ (l : List ShardFault). AllHold (IsShardFault g.N.World.design g.N.World.plan c.args.window.now.before 0) l) (sym c.new-none.ensures.items) tt

pub returns-clause-ticks : goal.returns-clause-ticks
returns-clause-ticks g c tally =
    let design = g.N.World.design in
    let plan = g.N.World.plan in
    let before = no-faults design plan tally c.args.window.now.before c.new-none.result.items c.new-none.ensures.items in
    let after = none-behind design plan tally c.args.window.now.through _ c.new-none.result.items c.advance_rest.new.faults.items c.new-none.ensures.items c.in_ok-advance_rest.ensures.faults in
    let rises = c.in_ok-advance_rest.ensures.ticks tally in
    omega (arith, before, after, rises)
