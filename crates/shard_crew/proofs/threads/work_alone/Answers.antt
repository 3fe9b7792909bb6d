-- The worker that is there, and the one counter.
use Rattle.std.proofs.Common.{◌≡◌, Some, sym, subst, ◌∙◌}
use Rattle.fault_shards.specs.Shards.{representatives_of}
use Rattle.shard_findings.specs.shard_claims.Workers.{HasVisited}
use Rattle.shard_findings.specs.shard_claims.declared.worker.Seated.{Seated}
use Rattle.shard_crew.specs.Crews.{IsSeatedAt}
use Rattle.shard_crew.proofs.Ticks.{alone-steps, none-at, some-at}
use Rattle.shard_crew.proofs.threads.work_alone.Goals as goal

some-is : {A : Type 0} (x y : A) → Some x ≡ Some y → x ≡ y
some-is x y e = cc

pub unreachable-requires : goal.unreachable-requires
unreachable-requires g c =
    none-at (IsSeatedAt (representatives_of c.args.round.now.shards.now) c.args.round.now.board.now c.args.round.now.backups.now c.args.round.now.window.now.before) c.args.seated.now
    (sym c.take.ensures.value ∙ c.in_default.is) c.requires.at

pub work-requires-clause-at : goal.work-requires-clause-at
work-requires-clause-at g c κs within =
    (some-at (IsSeatedAt (representatives_of c.args.round.now.shards.now) c.args.round.now.board.now c.args.round.now.backups.now c.args.round.now.window.now.before) c.args.seated.now c.in-Some.one
    (sym c.take.ensures.value ∙ c.in-Some.is) c.requires.at).at

pub work-requires-clause-fresh : goal.work-requires-clause-fresh
work-requires-clause-fresh g c κs within =
    (some-at (IsSeatedAt (representatives_of c.args.round.now.shards.now) c.args.round.now.board.now c.args.round.now.backups.now c.args.round.now.window.now.before) c.args.seated.now c.in-Some.one
    (sym c.take.ensures.value ∙ c.in-Some.is) c.requires.at).fresh

pub returns-clause-visited : goal.returns-clause-visited
returns-clause-visited g c one is =
    let same : c.in-Some.one ≡ one = some-is c.in-Some.one one (sym (sym c.take.ensures.value ∙ c.in-Some.is) ∙ is) in
    subst (λ (seated : Seated _). HasVisited c.args.round.now.backups.now seated.backup c.in_ok-after.after.backup) same c.in_ok-after.ensures.visited

pub returns-clause-ticks : goal.returns-clause-ticks
returns-clause-ticks g c = record {
  rises = λ tally.
      alone-steps g.N.World.design g.N.World.plan tally (representatives_of c.args.round.now.shards.now) c.args.round.now.window.now.before c.args.round.now.window.now.through c.args.seated.now
      c.in-Some.one c.in_ok-after.after c.args.mine.now c.index-mine-0.result c.work.new.steps (sym c.take.ensures.value ∙ c.in-Some.is) c.requires.one (c.in_ok-after.ensures.ticks tally);
}
