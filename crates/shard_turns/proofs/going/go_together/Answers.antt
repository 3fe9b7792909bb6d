-- Those that went are behind the others.
use Rattle.std.proofs.Common.{◌++◌, ap, ◌∙◌, arith}
use Rattle.fault_shards.specs.Shards.{representatives_of}
use Rattle.shard_turns.specs.Claims.{IsClaimed, numbers_of}
use Rattle.shard_turns.proofs.Keeping.{all-both, all-claimed, all-none, behind-nothing, numbers-both, numbers-stay, steps-both, steps-none}
use Rattle.shard_turns.proofs.going.go_together.Goals as goal

pub advance_together-requires-after_bounds : goal.advance_together-requires-after_bounds
advance_together-requires-after_bounds g c κs within k d low = (c.requires.going k d low).gone_is

pub returns-clause-going : goal.returns-clause-going
returns-clause-going g c =
    let reps = representatives_of c.args.round.now.shards.now in
    let window = c.args.round.now.window.now in
    record {
      done = all-both (IsClaimed reps window.through) c.args.own.now.done.items c.advance_together.new.shards.items c.append.new.self.items c.in_ok-append.ensures.items c.requires.done
          (all-claimed g.N.World.design g.N.World.plan window.through reps window.before c.args.own.now.going.items c.advance_together.new.shards.items
          c.in_ok-advance_together.ensures.through c.requires.going);
      going = all-none (IsClaimed reps window.before) c.append.new.other.items c.in_ok-append.ensures.other_items;
    }

pub returns-clause-numbers : goal.returns-clause-numbers
returns-clause-numbers g c =
    behind-nothing (numbers_of c.append.new.self.items) (numbers_of c.append.new.other.items) (ap numbers_of c.in_ok-append.ensures.other_items)
    ∙ (numbers-both c.args.own.now.done.items c.advance_together.new.shards.items c.append.new.self.items c.in_ok-append.ensures.items
    ∙ ap (λ l. numbers_of c.args.own.now.done.items ++ l)
    (numbers-stay g.N.World.design g.N.World.plan c.args.round.now.window.now.through c.args.own.now.going.items c.advance_together.new.shards.items c.in_ok-advance_together.ensures.through))

pub returns-clause-ticks : goal.returns-clause-ticks
returns-clause-ticks g c tally =
    let rises = c.in_ok-advance_together.ensures.ticks tally in
    let both = steps-both g.N.World.design g.N.World.plan tally c.args.own.now.done.items c.advance_together.new.shards.items c.append.new.self.items c.in_ok-append.ensures.items in
    let none = steps-none g.N.World.design g.N.World.plan tally c.append.new.other.items c.in_ok-append.ensures.other_items in
    omega (arith, rises, both, none)
