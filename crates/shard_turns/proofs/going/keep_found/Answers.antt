-- The shard that was found stands in place of the worker's own one.
use Rattle.std.proofs.Common.{◌∷◌, ◌++◌, [], refl, sym, ap, ◌∙◌, arith}
use Rattle.fault_shards.specs.Shards.{representatives_of}
use Rattle.shard_turns.specs.Claims.{IsClaimed, numbers_of}
use Rattle.shard_turns.proofs.Keeping.{all-more, behind-nothing, found-claimed, numbers-more, steps-more}
use Rattle.shard_turns.proofs.going.keep_found.Goals as goal

pub found_behind-requires-clause-at : goal.found_behind-requires-clause-at
found_behind-requires-clause-at g c κs within = sym c.requires.claimed.gone_is

pub returns-clause-going : goal.returns-clause-going
returns-clause-going g c =
    let reps = representatives_of c.args.round.now.shards.now in
    let window = c.args.round.now.window.now in
    record {
      done = all-more (IsClaimed reps window.through) c.go_together.new.own.done.items c.push.new.self.items (record { number = c.args.claimed.number; shard = c.args.other }) c.in_ok-push.ensures.items
          c.in_ok-go_together.ensures.going.done
          (found-claimed reps window.before window.through c.args.claimed c.args.other c.requires.claimed c.requires.done (record { number = c.args.claimed.number; shard = c.args.other }) refl refl);
      going = c.in_ok-go_together.ensures.going.going;
    }

pub returns-clause-numbers : goal.returns-clause-numbers
returns-clause-numbers g c =
    let kept = c.go_together.new.own in
    let more = numbers-more kept.done.items c.push.new.self.items (record { number = c.args.claimed.number; shard = c.args.other }) c.in_ok-push.ensures.items in
    let alone = behind-nothing (numbers_of kept.done.items) (numbers_of kept.going.items) (ap numbers_of c.in_ok-go_together.ensures.none) in
    behind-nothing (numbers_of c.push.new.self.items) (numbers_of kept.going.items) (ap numbers_of c.in_ok-go_together.ensures.none)
    ∙ (more ∙ ap (λ l. l ++ c.args.claimed.number ∷ []) (sym alone ∙ c.in_ok-go_together.ensures.numbers))

pub returns-clause-ticks : goal.returns-clause-ticks
returns-clause-ticks g c tally =
    let kept = c.go_together.new.own in
    let rises = c.in_ok-go_together.ensures.ticks tally in
    let found = c.found_behind.ensures tally in
    let more = steps-more g.N.World.design g.N.World.plan tally kept.done.items c.push.new.self.items (record { number = c.args.claimed.number; shard = c.args.other }) c.in_ok-push.ensures.items in
    omega (arith, rises, found, more)
