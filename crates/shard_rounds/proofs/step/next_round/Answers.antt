-- What comes next behind the round.
use Rattle.std.proofs.Common.{length, refl, sym, subst, arith}
use Rattle.fault_shards.specs.Shards.{representatives_of}
use Rattle.good_windows.specs.Next.{GivesNext}
use Rattle.good_windows.specs.declared.next.NextWindow.{NextWindow}
use Rattle.shard_crew.specs.shard_findings.AllWorkers.{AreWorkersAt}
use Rattle.std.specs.Prelude.{sum}
use Rattle.shard_rounds.specs.Rounds.{CrewTicks}
use Rattle.shard_rounds.proofs.Going.{goes-on, is-through, loops-at}
use Rattle.shard_rounds.proofs.Ticks.{slots-most}
use Rattle.shard_rounds.proofs.step.next_round.Goals as goal

pub run_round-requires-clause-run : goal.run_round-requires-clause-run
run_round-requires-clause-run g c κs within = (c.requires.before.ahead.run_at, c.requires.before.ahead.usable)

pub returns-in-Over-clause-goes_on : goal.returns-in-Over-clause-goes_on
returns-in-Over-clause-goes_on g c =
    is-through g.N.World.design g.N.World.plan c.args.rounds.window.through c.run_round.new.ahead.run.gone (representatives_of c.args.place.now.shards.now) c.args.place.now.board.now
    (length c.args.steps.now) c.run_round.new.workers.items c.in_ok-next.ensures.through
    (subst (λ (next : NextWindow _). GivesNext g.N.World.design g.N.World.plan c.args.rounds.window.through next c.run_round.new.ahead.run.gone) c.in-Over.is c.in_ok-next.ensures.next.gives)

pub returns-in-Loops-clause-goes_on : goal.returns-in-Loops-clause-goes_on
returns-in-Loops-clause-goes_on g c =
    loops-at g.N.World.design g.N.World.plan c.args.rounds.window.through c.run_round.new.ahead.run.gone c.in-Loops.time
    (subst (λ (next : NextWindow _). GivesNext g.N.World.design g.N.World.plan c.args.rounds.window.through next c.run_round.new.ahead.run.gone) c.in-Loops.is c.in_ok-next.ensures.next.gives)

pub returns-in-Window-clause-goes_on : goal.returns-in-Window-clause-goes_on
returns-in-Window-clause-goes_on g c =
    let ahead =
    goes-on g.N.World.design g.N.World.plan c.args.rounds.window.through c.run_round.new.ahead.run.gone c.run_round.new.ahead.run c.in-Window.later refl c.in_ok-next.ensures.next.usable
    (subst (λ (next : NextWindow _). GivesNext g.N.World.design g.N.World.plan c.args.rounds.window.through next c.run_round.new.ahead.run.gone) c.in-Window.is c.in_ok-next.ensures.next.gives) in (
      record {
        workers =
            subst (λ n. AreWorkersAt (representatives_of c.args.place.now.shards.now) c.args.place.now.board.now n (length c.args.steps.now) c.run_round.new.workers.items) (sym ahead.1)
            c.in_ok-next.ensures.through;
        ahead = ahead.0;
      },
      ahead.1,
    )

pub returns-in-Over-clause-ticks : goal.returns-in-Over-clause-ticks
returns-in-Over-clause-ticks g c =
    let gives = subst (λ (next : NextWindow _). GivesNext g.N.World.design g.N.World.plan c.args.rounds.window.through next c.run_round.new.ahead.run.gone) c.in-Over.is c.in_ok-next.ensures.next.gives in
    subst (λ n. CrewTicks g.N.World.design g.N.World.plan (representatives_of c.args.place.now.shards.now) c.args.rounds.window.before n c.args.rounds.workers.items c.run_round.new.workers.items
    (sum c.args.steps.now) (sum c.run_round.new.steps)) (sym gives.0.all) c.in_ok-next.ensures.ticks

pub returns-in-Over-clause-good : goal.returns-in-Over-clause-good
returns-in-Over-clause-good g c =
    let most = slots-most g.N.World.design g.N.World.plan c.run_round.new.ahead.run.ran in omega (arith, c.in_ok-next.ensures.good.rises, most)

pub returns-in-Loops-clause-good : goal.returns-in-Loops-clause-good
returns-in-Loops-clause-good g c =
    let most = slots-most g.N.World.design g.N.World.plan c.run_round.new.ahead.run.ran in omega (arith, c.in_ok-next.ensures.good.rises, most)

pub returns-in-Window-clause-ticks : goal.returns-in-Window-clause-ticks
returns-in-Window-clause-ticks g c = c.in_ok-next.ensures.ticks

pub returns-in-Window-clause-good : goal.returns-in-Window-clause-good
returns-in-Window-clause-good g c = c.in_ok-next.ensures.good.rises
