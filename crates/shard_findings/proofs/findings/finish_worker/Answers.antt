-- A worker behind all slots claimed, and its words are settled.
use Rattle.std.proofs.Common.{◌≤◌, List, length, sym, ap, subst, ◌∙◌}
use Rattle.std.proofs.lemmas.List.Elements.{All-same}
use Rattle.copy_laws.specs.Windows.{good_slots}
use Rattle.vf_base.specs.declared.finding.Finding.{Finding}
use Rattle.fault_shards.specs.Found.{found_faults}
use Rattle.fault_shards.specs.Shards.{representatives_of}
use Rattle.verdict_words.specs.Seats.{view}
use Rattle.verdict_settle.specs.Settling.{AreSettled}
use Rattle.shard_claims.specs.copy_shard.Together.{claimed_steps}
use Rattle.shard_findings.specs.Gatherings.{claimed_most, places_in, HaveGone, IsFoundShard}
use Rattle.shard_claims.specs.WorkerLaws.{claimed-behind, dry-behind}
use Rattle.shard_findings.proofs.Gathering.{all-gone, gathers}
use Rattle.shard_findings.proofs.Ticks.{worker-within}
use Rattle.shard_findings.proofs.findings.finish_worker.Goals as goal

pub findings_in-requires-after_bounds : goal.findings_in-requires-after_bounds
findings_in-requires-after_bounds g c κs within =
    let some = c.good_run_goes_on.ensures.some g.N.World.design g.N.World.plan c.rules_hold.ensures.0 in
    subst (HaveGone (length (good_slots g.N.World.design g.N.World.plan))) (sym c.deref.ensures.value)
    (all-gone (representatives_of c.args.place.now.shards.now) c.args.place.now.board.now _ c.args.worker.seat c.args.worker.shards.items
    (claimed-behind (representatives_of c.args.place.now.shards.now) c.args.place.now.board.now _ c.args.worker some c.requires.at))

pub returns-clause-gathered : goal.returns-clause-gathered
returns-clause-gathered g c =
    let some = c.good_run_goes_on.ensures.some g.N.World.design g.N.World.plan c.rules_hold.ensures.0 in
    gathers g.N.World.design g.N.World.plan (representatives_of c.args.place.now.shards.now) c.args.place.now.board.now c.args.worker.seat _ c.shards_cover.ensures
    (claimed-behind (representatives_of c.args.place.now.shards.now) c.args.place.now.board.now _ c.args.worker some c.requires.at) (c.in_ok-findings.ensures.faults ∙ ap places_in c.deref.ensures.value)
    c.in_ok-findings.ensures.graded c.settle_findings-seat.ensures.own c.settle_findings-seat.ensures.claims
    (subst (λ (l : List Finding). AreSettled (found_faults l) (view c.args.worker.seat) (view c.settle_findings-seat.result)) c.deref-2.ensures.value c.settle_findings-seat.ensures.settled)
    (All-same IsFoundShard _ _ (sym c.deref.ensures.value) c.in_ok-findings.ensures.complete)

pub returns-clause-steps : goal.returns-clause-steps
returns-clause-steps g c tally =
    let some = c.good_run_goes_on.ensures.some g.N.World.design g.N.World.plan c.rules_hold.ensures.0 in
    worker-within g.N.World.design g.N.World.plan tally c.args.worker
    (dry-behind (representatives_of c.args.place.now.shards.now) c.args.place.now.board.now _ c.args.worker some c.requires.at)
    (subst (λ l. claimed_steps tally l ≤ claimed_most tally l) c.deref.ensures.value
    (c.in_ok-findings.ensures.steps tally))
