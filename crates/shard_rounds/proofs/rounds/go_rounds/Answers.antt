-- Rounds end since each window has slots of the good first run.
use Rattle.std.proofs.Common.{◌≡◌, ◌<◌, ◌≤◌, length, sym, subst, arith}
use Rattle.copy_laws.specs.Windows.{good_slots}
use Rattle.fault_shards.specs.Shards.{representatives_of}
use Rattle.std.specs.Prelude.{sum}
use Rattle.shard_rounds.specs.Rounds.{CrewTicks, IsBeforeRound, GoesOn, GoodTicks, RoundTicks}
use Rattle.shard_rounds.specs.declared.step.Later.{Later}
use Rattle.shard_rounds.proofs.Going.{window-within}
use Rattle.shard_rounds.proofs.Ticks.{rises-more}
use Rattle.shard_rounds.proofs.rounds.go_rounds.Goals as goal

pub rounds-preserved : goal.rounds-preserved
rounds-preserved g c =
    let went =
    subst (λ (later : Later _). GoesOn g.N.World.design g.N.World.plan (representatives_of c.args.place.now.shards.now) c.args.place.now.board.now (length c.rounds.steps)
    c.rounds.rounds.window.through c.next_round.new.ahead.run later) c.in-Round.is c.in_ok-next.ensures.goes_on in
    let same : length c.rounds.steps ≡ length c.args.steps.now = c.rounds.auto.steps in
    record {
      before = subst (λ n. IsBeforeRound g.N.World.design g.N.World.plan (representatives_of c.args.place.now.shards.now) c.args.place.now.board.now n c.next_round.new.ahead.run c.in-Round.next) same went.0;
      ticks = λ tally. rises-more _ _ _ (sum c.args.steps.now) (sum c.rounds.steps) (sum c.next_round.new.steps) (c.rounds.invariant.ticks tally)
          (subst (λ n. CrewTicks g.N.World.design g.N.World.plan (representatives_of c.args.place.now.shards.now) c.rounds.rounds.window.before n c.rounds.rounds.workers.items
          c.in-Round.next.workers.items (sum c.rounds.steps) (sum c.next_round.new.steps)) (sym went.1)
          (subst (λ (later : Later _). RoundTicks g.N.World.design g.N.World.plan (representatives_of c.args.place.now.shards.now) c.rounds.rounds.window.before c.rounds.rounds.window.through
          c.rounds.rounds.workers.items (sum c.rounds.steps) (sum c.next_round.new.steps) later) c.in-Round.is c.in_ok-next.ensures.ticks) tally);
      good = rises-more _ _ _ (sum c.args.own.now) (sum c.rounds.own) (sum c.next_round.new.own) c.rounds.invariant.good
          (subst (λ (later : Later _). GoodTicks g.N.World.design g.N.World.plan c.rounds.ahead.run.ran c.next_round.new.ahead.run.ran (sum c.rounds.own) (sum c.next_round.new.own) later) c.in-Round.is c.in_ok-next.ensures.good);
    }

pub rounds-smaller : goal.rounds-smaller
rounds-smaller g c =
    let went =
    subst (λ (later : Later _). GoesOn g.N.World.design g.N.World.plan (representatives_of c.args.place.now.shards.now) c.args.place.now.board.now (length c.rounds.steps)
    c.rounds.rounds.window.through c.next_round.new.ahead.run later) c.in-Round.is
    c.in_ok-next.ensures.goes_on in
    let window = c.rounds.invariant.before.ahead.window_is in
    let some : c.rounds.rounds.window.before < c.rounds.rounds.window.through = window.some in
    let within : c.rounds.rounds.window.through ≤ length (good_slots g.N.World.design g.N.World.plan) = window-within g.N.World.design g.N.World.plan _ _ _ window in
    let next : c.in-Round.next.window.before ≡ c.rounds.rounds.window.through = went.1 in
    omega (arith, some, within, next)

pub returns-in-Done-clause-ticks : goal.returns-in-Done-clause-ticks
returns-in-Done-clause-ticks g c tally =
    rises-more _ _ _ (sum c.args.steps.now) (sum c.rounds.steps) (sum c.next_round.new.steps) (c.rounds.invariant.ticks tally)
    (subst (λ (later : Later _). RoundTicks g.N.World.design g.N.World.plan (representatives_of c.args.place.now.shards.now) c.rounds.rounds.window.before c.rounds.rounds.window.through
    c.rounds.rounds.workers.items (sum c.rounds.steps) (sum c.next_round.new.steps) later) c.in-Done.is c.in_ok-next.ensures.ticks tally)

pub returns-in-Done-clause-good : goal.returns-in-Done-clause-good
returns-in-Done-clause-good g c =
    rises-more _ _ _ (sum c.args.own.now) (sum c.rounds.own) (sum c.next_round.new.own) c.rounds.invariant.good
    (subst (λ (later : Later _). GoodTicks g.N.World.design g.N.World.plan c.rounds.ahead.run.ran c.next_round.new.ahead.run.ran (sum c.rounds.own) (sum c.next_round.new.own) later) c.in-Done.is c.in_ok-next.ensures.good)

pub returns-in-Loops-clause-good : goal.returns-in-Loops-clause-good
returns-in-Loops-clause-good g c =
    rises-more _ _ _ (sum c.args.own.now) (sum c.rounds.own) (sum c.next_round.new.own) c.rounds.invariant.good
    (subst (λ (later : Later _). GoodTicks g.N.World.design g.N.World.plan c.rounds.ahead.run.ran c.next_round.new.ahead.run.ran (sum c.rounds.own) (sum c.next_round.new.own) later) c.in-Loops.is c.in_ok-next.ensures.good)

pub next_round-requires-clause-counters : goal.next_round-requires-clause-counters
next_round-requires-clause-counters g c κs within =
    let same : length c.rounds.steps ≡ length c.args.steps.now = c.rounds.auto.steps in
    let some = c.requires.counters.0 in
    let few = c.requires.counters.1 in
    (omega (arith, same, some), omega (arith, same, few))
