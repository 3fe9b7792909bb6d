-- The shard goes next, or the one that was found stands in its place.
use Rattle.std.proofs.Common.{◌<◌, ◌++◌, sym, ap, subst, ◌∙◌, arith}
use Rattle.fault_shards.specs.Shards.{representatives_of}
use Rattle.shard_turns.specs.Claims.{IsClaimed, numbers_of}
use Rattle.shard_turns.proofs.Keeping.{all-more, numbers-more, one-behind, steps-more}
use Rattle.shard_turns.proofs.turns.take_turn.Goals as goal

pub take-seat-requires-clause-number : goal.take-seat-requires-clause-number
take-seat-requires-clause-number g c κs within = subst (λ n. c.args.claimed.number < n) (sym c.requires.backups) c.requires.claimed.low

pub returns-in_ok-push-in-None-clause-going : goal.returns-in_ok-push-in-None-clause-going
returns-in_ok-push-in-None-clause-going g c =
    let reps = representatives_of c.args.round.now.shards.now in record {
      done = c.requires.going.done;
      going = all-more (IsClaimed reps c.args.round.now.window.now.before) c.args.own.now.going.items c.push.new.self.items c.args.claimed c.in_ok-push-in-None.ensures.items c.requires.going.going c.requires.claimed;
    }

pub returns-in_ok-push-in-None-clause-numbers : goal.returns-in_ok-push-in-None-clause-numbers
returns-in_ok-push-in-None-clause-numbers g c =
    ap (λ l. numbers_of c.args.own.now.done.items ++ l) (numbers-more c.args.own.now.going.items c.push.new.self.items c.args.claimed c.in_ok-push-in-None.ensures.items)
    ∙ sym (one-behind (numbers_of c.args.own.now.done.items) (numbers_of c.args.own.now.going.items) c.args.claimed.number)

pub returns-in_ok-push-in-None-clause-ticks : goal.returns-in_ok-push-in-None-clause-ticks
returns-in_ok-push-in-None-clause-ticks g c tally =
    let more = steps-more g.N.World.design g.N.World.plan tally c.args.own.now.going.items c.push.new.self.items c.args.claimed c.in_ok-push-in-None.ensures.items in
    omega (arith, more)
