-- Shard by shard.
use Rattle.std.proofs.Common.{◌≡◌, ◌≤◌, ◌++◌, length, take, sym, ap, subst, ◌∙◌, arith}
use Rattle.std.proofs.lemmas.List.{take_all}
use Rattle.std.proofs.lemmas.List.Elements.{All-nil, All-same, All-more}
use Rattle.copy_laws.specs.Windows.{good_slots}
use Rattle.shard_claims.specs.copy_shard.Shards.{places_of}
use Rattle.std.specs.List.{All}
use Rattle.fault_shards.specs.Found.{IsFinding, found_faults}
use Rattle.shard_claims.specs.copy_shard.Together.{claimed_steps}
use Rattle.shard_findings.specs.Gatherings.{claimed_most, places_in, IsFoundShard}
use Rattle.shard_findings.proofs.Ticks.{claimed-within}
use Rattle.shard_findings.proofs.Gathering.{places-more}
use Rattle.shard_findings.proofs.findings.findings_in.Goals as goal

pub shards-init : goal.shards-init
shards-init g c = record {
  faults = ap found_faults c.new-found.ensures.items;
  graded = subst (All (IsFinding g.N.World.design g.N.World.plan)) (sym c.new-found.ensures.items) (All-nil (IsFinding g.N.World.design g.N.World.plan));
  complete = All-nil IsFoundShard;
  steps = λ tally. omega arith;
}

pub push_found-requires-after_bounds : goal.push_found-requires-after_bounds
push_found-requires-after_bounds g c κs within =
    subst (λ claimed. claimed.shard.gone ≡ length (good_slots g.N.World.design g.N.World.plan)) (sym c.claimed-item.is) (c.requires c.shards.claimed-index c.claimed-item.result c.shards-test.true)

pub shards-preserved : goal.shards-preserved
shards-preserved g c = record {
  faults =
      c.in_ok-push_found.ensures.faults
      ∙ (ap (λ l. l ++ places_of c.claimed-item.result.shard.faults) c.shards.invariant.faults
      ∙ (ap (λ claimed. places_in (take c.shards.claimed-index c.args.shards.now) ++ places_of claimed.shard.faults) c.claimed-item.is
      ∙ places-more c.args.shards.now c.shards.claimed-index c.claimed-item.result c.shards-test.true));
  graded = c.in_ok-push_found.ensures.graded c.shards.invariant.graded;
  complete =
      All-more IsFoundShard c.args.shards.now c.shards.claimed-index c.claimed-item.result c.shards-test.true c.shards.invariant.complete
      (subst IsFoundShard c.claimed-item.is c.in_ok-push_found.ensures.complete);
  steps = λ tally.
      claimed-within g.N.World.design g.N.World.plan tally c.args.shards.now c.shards.claimed-index c.claimed-item.result c.shards-test.true c.claimed-item.is (c.shards.invariant.steps tally)
      (c.in_ok-push_found.ensures.steps tally);
}

pub returns-clause-faults : goal.returns-clause-faults
returns-clause-faults g c =
    let past : length c.args.shards.now ≤ c.shards.claimed-index = c.shards-test.false in
    c.shards.invariant.faults ∙ ap places_in (take_all c.shards.claimed-index c.args.shards.now past)

pub returns-clause-graded : goal.returns-clause-graded
returns-clause-graded g c = c.shards.invariant.graded

pub returns-clause-complete : goal.returns-clause-complete
returns-clause-complete g c =
    let past : length c.args.shards.now ≤ c.shards.claimed-index = c.shards-test.false in
    All-same IsFoundShard c.args.shards.now _ (sym (take_all c.shards.claimed-index c.args.shards.now past)) c.shards.invariant.complete

pub returns-clause-steps : goal.returns-clause-steps
returns-clause-steps g c tally =
    let past : length c.args.shards.now ≤ c.shards.claimed-index = c.shards-test.false in
    subst (λ l. claimed_steps tally l ≤ claimed_most tally l) (take_all c.shards.claimed-index c.args.shards.now past)
    (c.shards.invariant.steps tally)
