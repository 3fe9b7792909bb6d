-- So many shards side by side, and then the others.
use Rattle.std.proofs.Common.{List, sym, subst, arith}
use Rattle.std.specs.Prelude.{All}
use Rattle.std.proofs.lemmas.List.Elements.{All-take, All-drop}
use Rattle.copy_shard.specs.Together.{GoesThrough, HasGone}
use Rattle.copy_shard.specs.declared.together.ClaimedShard.{ClaimedShard}
use Rattle.copy_shard.proofs.Groups.{steps-before, steps-behind, zip-parts}
use Rattle.copy_shard.proofs.together.+advance_together.Goals as goal

pub advance_joined-requires-2-after_bounds : goal.advance_joined-requires-2-after_bounds
advance_joined-requires-2-after_bounds g t c κs within =
    subst (λ (l : List (ClaimedShard _)). All (HasGone c.args.window.now.before) l) (sym c.in_ok-rest.ensures.items)
    (All-take (HasGone c.args.window.now.before) 16 c.args.shards.now.items c.requires)

pub advance_together-requires-after_bounds : goal.advance_together-requires-after_bounds
advance_together-requires-after_bounds g t c κs within =
    subst (λ (l : List (ClaimedShard _)). All (HasGone c.args.window.now.before) l) (sym c.in_ok-rest.ensures.tail)
    (All-drop (HasGone c.args.window.now.before) 16 c.args.shards.now.items c.requires)

pub returns-clause-through : goal.returns-clause-through
returns-clause-through g t c =
    zip-parts (GoesThrough g.N.World.design g.N.World.plan c.args.window.now.through) 16 c.args.shards.now.items c.split_off.new.self.items c.in_ok-rest.rest.items c.advance_joined-2.new.shards.items
    c.advance_together.new.shards.items c.append.new.self.items c.in_ok-rest.ensures.items c.in_ok-rest.ensures.tail c.in_ok-append.ensures.items c.in_ok-advance_joined-2.ensures.through
    c.in_ok-advance_together.ensures.through

pub returns-clause-ticks : goal.returns-clause-ticks
returns-clause-ticks g t c tally =
    let before = steps-before tally 16 c.args.shards.now.items c.split_off.new.self.items c.in_ok-rest.rest.items c.in_ok-rest.ensures.items c.in_ok-rest.ensures.tail in
    let behind = steps-behind tally c.advance_joined-2.new.shards.items c.advance_together.new.shards.items c.append.new.self.items c.in_ok-append.ensures.items in
    let one = c.in_ok-advance_joined-2.ensures.ticks tally in
    let other = c.in_ok-advance_together.ensures.ticks tally in
    omega (arith, before, behind, one, other)
