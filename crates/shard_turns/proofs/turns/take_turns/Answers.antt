-- Group by group.
use Rattle.std.proofs.Common.{◌<◌, ◌++◌, List, length, refl, ap, sym, ◌∙◌, append_assoc, arith}
use Rattle.fault_shards.specs.Shards.{representatives_of}
use Rattle.copy_shard.specs.declared.together.ClaimedShard.{ClaimedShard}
use Rattle.shard_turns.specs.Claims.{IsClaimed, numbers_of}
use Rattle.shard_turns.proofs.Keeping.{all-first, all-none, all-rest, behind-nothing, fewer-left, no-shard, numbers-both, parts-are, steps-both, steps-none}
use Rattle.shard_turns.proofs.Seats.{stays-more}
use Rattle.shard_turns.proofs.turns.take_turns.Goals as goal

pub groups-init : goal.groups-init
groups-init g c = record {
  seat = record { own = c.requires.own; same = refl };
  done = all-none (IsClaimed (representatives_of c.args.round.now.shards.now) c.args.round.now.window.now.through) c.new-done.result.items c.new-done.ensures.items;
  left = c.requires.each;
  numbers = ap (λ (l : List (ClaimedShard _)). numbers_of l ++ numbers_of c.args.shards.items) c.new-done.ensures.items;
  ticks = λ tally. omega arith;
}

pub take_group-requires-clause-own : goal.take_group-requires-clause-own
take_group-requires-clause-own g c κs within = c.groups.invariant.seat.own

pub take_group-requires-clause-each : goal.take_group-requires-clause-each
take_group-requires-clause-each g c κs within =
    all-first (IsClaimed (representatives_of c.args.round.now.shards.now) c.args.round.now.window.now.before) c.groups.left.items c.split_off.new.self.items c.group_of.result c.in_ok-later.ensures.items
    c.groups.invariant.left

pub groups-preserved : goal.groups-preserved
groups-preserved g c =
    let parts = parts-are c.groups.left.items c.split_off.new.self.items c.in_ok-later.later.items c.group_of.result c.in_ok-later.ensures.items c.in_ok-later.ensures.tail in record {
      seat = stays-more c.args.round.now.backups.now c.args.seat c.groups.seat c.in_ok-next.next c.groups.invariant.seat c.in_ok-next.ensures.seat;
      done = c.in_ok-next.ensures.through;
      left = all-rest (IsClaimed (representatives_of c.args.round.now.shards.now) c.args.round.now.window.now.before) c.groups.left.items c.in_ok-later.later.items c.group_of.result
          c.in_ok-later.ensures.tail c.groups.invariant.left;
      numbers =
          ap (λ l. l ++ numbers_of c.in_ok-later.later.items) c.in_ok-next.ensures.numbers
          ∙ (append_assoc (numbers_of c.groups.done.items) (numbers_of c.split_off.new.self.items) (numbers_of c.in_ok-later.later.items)
          ∙ (ap (λ l. numbers_of c.groups.done.items ++ l) (sym (numbers-both c.split_off.new.self.items c.in_ok-later.later.items c.groups.left.items parts)) ∙ c.groups.invariant.numbers));
      ticks = λ tally.
          (let rises = c.groups.invariant.ticks tally in
          let one = c.in_ok-next.ensures.ticks tally in
          let both = steps-both g.N.World.design g.N.World.plan tally c.split_off.new.self.items c.in_ok-later.later.items c.groups.left.items parts in
          omega (arith, rises, one, both));
    }

pub groups-smaller : goal.groups-smaller
groups-smaller g c =
    let some = c.group_of.ensures.some in
    let more : 0 < length c.groups.left.items = (let size = c.groups.left.ok.0 in let within = c.group_of.ensures.within in let len = c.len.ensures in omega (arith, size, some, within, len)) in
    fewer-left c.groups.left.items c.in_ok-later.later.items c.group_of.result some more c.in_ok-later.ensures.tail

pub returns-clause-numbers : goal.returns-clause-numbers
returns-clause-numbers g c =
    let none = no-shard c.groups.left.items (let size = c.groups.left.ok.0 in let test = c.groups-test.false in let len = c.len.ensures in omega (arith, size, test, len)) in
    sym (behind-nothing (numbers_of c.groups.done.items) (numbers_of c.groups.left.items) (ap numbers_of none)) ∙ c.groups.invariant.numbers

pub returns-clause-ticks : goal.returns-clause-ticks
returns-clause-ticks g c tally =
    let none = no-shard c.groups.left.items (let size = c.groups.left.ok.0 in let test = c.groups-test.false in let len = c.len.ensures in omega (arith, size, test, len)) in
    let nothing = steps-none g.N.World.design g.N.World.plan tally c.groups.left.items none in
    let rises = c.groups.invariant.ticks tally in
    omega (arith, nothing, rises)
