-- The own steps of the faults of a worker's shards (steps by IEEE 1364-2001, clause 9; slots by clause 5).
use Rattle.std.proofs.Common.{◌≡◌, ℕ, ◌+◌, ◌≤◌, Bool, true, false, cond, List, [], ◌∷◌, ◌++◌, ap, ◌∙◌, arith}
use Rattle.std.proofs.lemmas.List.Sums.{sum_by_push}
use Rattle.v_design.specs.Designs.{FlatDesign, TestPlan}
use Rattle.own_gradings.specs.Numbers.{OwnStepsOf}
use Rattle.shard_turns.specs.copy_shard.Shards.{shard_steps}
use Rattle.shard_turns.specs.graded_steps.Behind.{RisesWithin}
use Rattle.shard_turns.specs.copy_shard.declared.together.ClaimedShard.{ClaimedShard}
use Rattle.shard_claims.specs.declared.worker.Worker.{Worker}
use Rattle.shard_claims.specs.Workers.{claimed_steps, worker_steps}

module _ {N : Type 0} where
  -- one claim more
  pub claimed-more : (design : FlatDesign) (plan : TestPlan) (tally : OwnStepsOf design plan) (old new : List (ClaimedShard N)) (more : ClaimedShard N) (before mid after : ℕ) →
      new ≡ old ++ more ∷ [] →
      mid ≤ before + claimed_steps tally old → after ≤ mid + shard_steps tally more.shard → after ≤ before + claimed_steps tally new
  claimed-more design plan tally old new more before mid after is so_far rises =
      let sum : claimed_steps tally new ≡ claimed_steps tally old + shard_steps tally more.shard =
      ap (claimed_steps tally) is ∙ sum_by_push (λ (claimed : ClaimedShard N). shard_steps tally claimed.shard) old more in
      omega (arith, sum, so_far, rises)

  -- a worker
  steps-by : (design : FlatDesign) (plan : TestPlan) (tally : OwnStepsOf design plan) (worker : Worker N) (dry : Bool) → worker.dry ≡ dry →
      worker_steps tally worker ≡ cond dry (claimed_steps tally worker.shards.items) 0
  steps-by design plan tally worker dry is = ap (λ b. cond b (claimed_steps tally worker.shards.items) 0) is

  -- one that has claimed
  pub dry-rises : (design : FlatDesign) (plan : TestPlan) (tally : OwnStepsOf design plan) (old new : Worker N) (before after : ℕ) → old.dry ≡ true → new.dry ≡ true →
      RisesWithin (claimed_steps tally old.shards.items) (claimed_steps tally new.shards.items) before after →
      RisesWithin (worker_steps tally old) (worker_steps tally new) before after
  dry-rises design plan tally old new before after was is rises =
      let a : worker_steps tally old ≡ claimed_steps tally old.shards.items = steps-by design plan tally old true was in
      let b : worker_steps tally new ≡ claimed_steps tally new.shards.items = steps-by design plan tally new true is in
      omega (arith, a, b, rises)

  -- one that claims now
  pub new-rises : (design : FlatDesign) (plan : TestPlan) (tally : OwnStepsOf design plan) (old new : Worker N) (before after : ℕ) → old.dry ≡ false → new.dry ≡ true →
      after ≤ before + claimed_steps tally new.shards.items → RisesWithin (worker_steps tally old) (worker_steps tally new) before after
  new-rises design plan tally old new before after was is rises =
      let a : worker_steps tally old ≡ 0 = steps-by design plan tally old false was in
      let b : worker_steps tally new ≡ claimed_steps tally new.shards.items = steps-by design plan tally new true is in
      omega (arith, a, b, rises)
