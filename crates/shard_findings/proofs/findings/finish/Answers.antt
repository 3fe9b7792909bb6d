-- Worker by worker.
use Rattle.std.proofs.Common.{List, ◌++◌, length, refl, ap, subst, ◌∙◌}
use Rattle.vf_base.specs.declared.finding.Finding.{Finding}
use Rattle.copy_laws.specs.Windows.{good_slots}
use Rattle.fault_shards.specs.Shards.{representatives_of}
use Rattle.shard_findings.proofs.Manning.{workers-last, none-popped}
use Rattle.shard_findings.proofs.Ticks.{steps-all, steps-more, steps-none}
use Rattle.shard_findings.proofs.Gathering.{HasJoined, joined-none, joined-more, joined-all}
use Rattle.shard_findings.proofs.findings.finish.Goals as goal

pub workers-init : goal.workers-init
workers-init g c = record {
  at = record { count_is = refl; each = c.requires.at.each };
  joined =
      joined-none g.N.World.design g.N.World.plan (representatives_of c.args.place.now.shards.now) c.args.place.now.board.now (length c.args.workers.items) c.args.count c.args.seat
      c.new-findings.result.items c.new-shards.result.items c.requires.rest c.requires.at.count_is c.new-findings.ensures.items c.new-shards.ensures.items;
  steps = λ tally. steps-none g.N.World.design g.N.World.plan tally c.new-shards.result.items c.args.workers.items c.new-shards.ensures.items;
}

pub finish_worker-requires-clause-at : goal.finish_worker-requires-clause-at
finish_worker-requires-clause-at g c κs within =
    (workers-last (representatives_of c.args.place.now.shards.now) c.args.place.now.board.now (length (good_slots g.N.World.design g.N.World.plan)) (length c.workers.workers.items)
    c.workers.workers.items c.pop.new.self.items c.in-Some.worker c.workers.invariant.at c.in-Some.ensures.items).2

pub workers-preserved : goal.workers-preserved
workers-preserved g c =
    let last =
    workers-last (representatives_of c.args.place.now.shards.now) c.args.place.now.board.now (length (good_slots g.N.World.design g.N.World.plan)) (length c.workers.workers.items)
    c.workers.workers.items c.pop.new.self.items c.in-Some.worker c.workers.invariant.at c.in-Some.ensures.items in record {
      at = last.1;
      joined =
          joined-more g.N.World.design g.N.World.plan (representatives_of c.args.place.now.shards.now) c.args.place.now.board.now (length c.workers.workers.items) (length c.pop.new.self.items)
          c.args.count c.workers.seat c.join-seat.result c.workers.findings.items c.extend_from_slice.new.self.items c.workers.shards.items c.append.new.self.items c.in_ok-more.more
          c.workers.invariant.joined last.0 c.in_ok-more.ensures.gathered c.join-seat.ensures.own c.join-seat.ensures.both
          (c.in_ok-extend_from_slice.ensures.items ∙ ap (λ (l : List Finding). c.workers.findings.items ++ l) c.as_slice.ensures.value) c.in_ok-append.ensures.items;
      steps = λ tally.
          steps-more g.N.World.design g.N.World.plan tally c.workers.workers.items c.pop.new.self.items c.args.workers.items c.in-Some.worker c.workers.shards.items
          c.in_ok-more.more.shards.items c.append.new.self.items c.in-Some.ensures.items c.in_ok-append.ensures.items (c.in_ok-more.ensures.steps tally) (c.workers.invariant.steps tally);
    }

pub returns-clause-gathered : goal.returns-clause-gathered
returns-clause-gathered g c =
    let none = none-popped _ c.workers.workers c.pop.new.self c.in_default.is c.pop.ensures.cases in
    joined-all g.N.World.design g.N.World.plan (representatives_of c.args.place.now.shards.now) c.args.place.now.board.now c.args.count _ c.requires.some
    (subst (λ n. HasJoined g.N.World.design g.N.World.plan (representatives_of c.args.place.now.shards.now) c.args.place.now.board.now n c.args.count c.workers.seat c.workers.findings.items
    c.workers.shards.items) none.0 c.workers.invariant.joined)

pub returns-clause-steps : goal.returns-clause-steps
returns-clause-steps g c tally =
    let none = none-popped _ c.workers.workers c.pop.new.self c.in_default.is c.pop.ensures.cases in
    steps-all g.N.World.design g.N.World.plan tally c.workers.workers.items c.args.workers.items c.workers.shards.items none.0 (c.workers.invariant.steps tally)
