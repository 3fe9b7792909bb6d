-- The workers stand before the first round.
use Rattle.std.proofs.Common.{length, sym, subst, arith}
use Rattle.fault_shards.specs.Shards.{representatives_of}
use Rattle.shard_crew.specs.shard_findings.AllWorkers.{AreWorkersAt}
use Rattle.std.specs.Prelude.{sum}
use Rattle.shard_rounds.specs.Rounds.{AllTicks, IsFirst}
use Rattle.shard_rounds.specs.declared.rounds.Through.{Through}
use Rattle.shard_rounds.specs.declared.rounds.First.{First}
use Rattle.copy_laws.specs.Windows.{good_slots}
use Rattle.shard_crew.proofs.shard_turns.Steps.{all-listed, faults-within}
use Rattle.shard_rounds.proofs.Ticks.{slots-most}
use Rattle.shard_rounds.proofs.rounds.grade_run.Goals as goal

pub go_rounds-requires-clause-before : goal.go_rounds-requires-clause-before
go_rounds-requires-clause-before g c κs within =
    let first = subst (λ (f : First _). IsFirst g.N.World.design g.N.World.plan c.first_window.new.ahead.run f) c.in-Window.is c.in_ok-window.ensures.first in
    record {
      workers =
          subst (λ n. AreWorkersAt (representatives_of c.args.place.now.shards.now) c.args.place.now.board.now n (length c.args.steps.now) c.in_ok-seat.workers.items) (sym first.1)
          (c.in_ok-seat.ensures.workers (representatives_of c.args.place.now.shards.now));
      ahead = first.0;
    }

pub returns-in_ok-gathered-in-All-clause-ticks : goal.returns-in_ok-gathered-in-All-clause-ticks
returns-in_ok-gathered-in-All-clause-ticks g c tally =
    let reps = representatives_of c.args.place.now.shards.now in
    let first = c.in_ok-window.ensures.ticks in
    let crew =
    subst (λ (t : Through _). AllTicks g.N.World.design g.N.World.plan reps c.in-Window.window.before c.in_ok-seat.workers.items (sum c.args.steps.now) (sum c.go_rounds.new.steps) t) c.in-All.is
    c.in_ok-ended.ensures.ticks tally in
    let all = c.in_ok-gathered-in-All.ensures.steps tally in
    let visits = faults-within c.own_steps_rise.ensures g.N.World.design g.N.World.plan tally (length (good_slots g.N.World.design g.N.World.plan)) reps
    (all-listed g.N.World.design g.N.World.plan reps c.requires.place.shards_are.representatives) in
    omega (arith, first, crew, c.in_ok-ended.ensures.good, all, visits)

pub returns-in-Loops-clause-good : goal.returns-in-Loops-clause-good
returns-in-Loops-clause-good g c =
    let first = c.in_ok-window.ensures.ticks in
    let most = slots-most g.N.World.design g.N.World.plan c.first_window.new.ahead.run.ran in
    omega (arith, first, most)

pub returns-in_ok-gathered-in-All-clause-good : goal.returns-in_ok-gathered-in-All-clause-good
returns-in_ok-gathered-in-All-clause-good g c =
    let first = c.in_ok-window.ensures.ticks in
    omega (arith, first, c.in_ok-ended.ensures.good)

pub returns-in-Loops-ended-clause-good : goal.returns-in-Loops-ended-clause-good
returns-in-Loops-ended-clause-good g c =
    let first = c.in_ok-window.ensures.ticks in
    omega (arith, first, c.in_ok-ended.ensures.good)
