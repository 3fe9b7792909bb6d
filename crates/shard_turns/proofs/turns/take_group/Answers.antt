-- Turn by turn.
use Rattle.std.proofs.Common.{rules, ◌≡◌, ◌∷◌, ◌++◌, [], List, length, refl, ap, sym, ◌∙◌, arith, map-id, append_assoc}
use Rattle.std.proofs.lemmas.Iterator.Consumers.{YieldsList-turn, YieldsList-end}
use Rattle.std.proofs.lemmas.Iterator.Adapters.{YieldsList-from_vec}
use Rattle.fault_shards.specs.Shards.{representatives_of}
use Rattle.copy_shard.specs.Together.{claimed_steps}
use Rattle.copy_shard.specs.declared.together.ClaimedShard.{ClaimedShard}
use Rattle.shard_turns.specs.Claims.{IsClaimed, numbers_of}
use Rattle.shard_turns.proofs.Keeping.{all-none, all-place, behind-nothing, numbers-more, steps-more, steps-none}
use Rattle.shard_turns.proofs.Seats.{stays-more}
use Rattle.shard_turns.proofs.turns.take_group.Goals as goal

pub group-init : goal.group-init
group-init g c = record {
  seat = record { own = c.requires.own; same = refl };
  going = record {
    done = c.requires.done;
    going = all-none (IsClaimed (representatives_of c.args.round.now.shards.now) c.args.round.now.window.now.before) c.new.result.items c.new.ensures.items;
  };
  numbers = ap (λ (l : List (ClaimedShard _)). numbers_of c.args.done.items ++ numbers_of l) c.new.ensures.items;
  ticks = λ tally. (let none = steps-none g.N.World.design g.N.World.plan tally c.new.result.items c.new.ensures.items in omega (arith, none));
}

pub take_turn-requires-clause-own : goal.take_turn-requires-clause-own
take_turn-requires-clause-own g c κs within = c.group.invariant.seat.own

pub take_turn-requires-clause-claimed : goal.take_turn-requires-clause-claimed
take_turn-requires-clause-claimed g c κs within =
    let turn = YieldsList-turn (YieldsList-from_vec {s = c.into_iter-claimed-iterator.result} c.args.group.items (search rules) (search rules))
    c.group.yielded c.group.claimed-iterator c.group.yielded_by c.next.result c.next.new.self c.in-Some.claimed c.in-Some.is c.next.ensures.steps in
    all-place (IsClaimed (representatives_of c.args.round.now.shards.now) c.args.round.now.window.now.before) c.args.group.items (length c.group.yielded) c.in-Some.claimed c.requires.each turn.0 turn.1

pub group-preserved : goal.group-preserved
group-preserved g c = record {
  seat = stays-more c.args.round.now.backups.now c.args.seat c.group.seat c.in_ok-seat.seat c.group.invariant.seat c.in_ok-seat.ensures.seat;
  going = c.in_ok-seat.ensures.going;
  numbers =
      c.in_ok-seat.ensures.numbers
      ∙ (ap (λ l. l ++ c.in-Some.claimed.number ∷ []) c.group.invariant.numbers
      ∙ (append_assoc (numbers_of c.args.done.items) (numbers_of c.group.yielded) (c.in-Some.claimed.number ∷ [])
      ∙ ap (λ l. numbers_of c.args.done.items ++ l) (sym (numbers-more c.group.yielded (c.group.yielded ++ c.in-Some.claimed ∷ []) c.in-Some.claimed refl))));
  ticks = λ tally.
      (let rises = c.group.invariant.ticks tally in
      let one = c.in_ok-seat.ensures.ticks tally in
      let more = steps-more g.N.World.design g.N.World.plan tally c.group.yielded (c.group.yielded ++ c.in-Some.claimed ∷ []) c.in-Some.claimed refl in
      omega (arith, rises, one, more));
}

pub go_together-requires-after_bounds : goal.go_together-requires-after_bounds
go_together-requires-after_bounds g c κs within = c.group.invariant.going

pub returns-clause-through : goal.returns-clause-through
returns-clause-through g c = c.in_ok-go_together.ensures.going.done

pub returns-clause-numbers : goal.returns-clause-numbers
returns-clause-numbers g c =
    let end = YieldsList-end (YieldsList-from_vec {s = c.into_iter-claimed-iterator.result} c.args.group.items (search rules) (search rules))
    c.group.yielded c.group.claimed-iterator c.group.yielded_by c.next.result c.next.new.self c.in-None.is c.next.ensures.steps in
    let own = c.go_together.new.own in
    sym (behind-nothing (numbers_of own.done.items) (numbers_of own.going.items) (ap numbers_of c.in_ok-go_together.ensures.none))
    ∙ (c.in_ok-go_together.ensures.numbers
    ∙ (c.group.invariant.numbers ∙ ap (λ (l : List (ClaimedShard _)). numbers_of c.args.done.items ++ numbers_of l) (sym (map-id c.group.yielded) ∙ end.0)))

pub returns-clause-ticks : goal.returns-clause-ticks
returns-clause-ticks g c tally =
    let end = YieldsList-end (YieldsList-from_vec {s = c.into_iter-claimed-iterator.result} c.args.group.items (search rules) (search rules))
    c.group.yielded c.group.claimed-iterator c.group.yielded_by c.next.result c.next.new.self c.in-None.is c.next.ensures.steps in
    let own = c.go_together.new.own in
    let all : claimed_steps tally c.group.yielded ≡ claimed_steps tally c.args.group.items = ap (claimed_steps tally) (sym (map-id c.group.yielded) ∙ end.0) in
    let none = steps-none g.N.World.design g.N.World.plan tally own.going.items c.in_ok-go_together.ensures.none in
    let rises = c.group.invariant.ticks tally in
    let last = c.in_ok-go_together.ensures.ticks tally in
    omega (arith, all, none, rises, last)
