-- The own steps of the faults of shards that workers claimed (steps by IEEE 1364-2001, clause 9).
use Rattle.std.proofs.Common.{◌≡◌, ℕ, ◌+◌, ◌<◌, ◌≤◌, true, cond, List, [], ◌∷◌, ◌++◌, length, get_or, take, refl, ap, ◌∙◌, arith}
use Rattle.std.specs.Prelude.{sum_by}
use Rattle.std.proofs.lemmas.List.Sums.{sum_by-append, sum_by_more, sum_by_push}
use Rattle.v_design.specs.Designs.{FlatDesign, TestPlan}
use Rattle.shard_claims.specs.copy_shard.Shards.{fault_steps_at, places_of, shard_steps}
use Rattle.own_gradings.specs.Numbers.{OwnStepsOf}
use Rattle.shard_claims.specs.copy_shard.declared.together.ClaimedShard.{ClaimedShard}
use Rattle.shard_claims.specs.declared.worker.Worker.{Worker}
use Rattle.shard_claims.specs.Workers.{worker_steps}
use Rattle.shard_claims.specs.copy_shard.Together.{claimed_steps}
use Rattle.shard_findings.specs.AllWorkers.{crew_steps}
use Rattle.shard_findings.specs.Gatherings.{claimed_most}

-- where nothing is counted nothing is there
pub none-length : {A : Type 0} (xs : List A) → length xs ≡ 0 → xs ≡ []
none-length [] e = refl
none-length (x ∷ xs) e = absurd (omega (arith, e))

module _ {N : Type 0} where
  -- a worker that has claimed
  pub worker-claimed : (design : FlatDesign) (plan : TestPlan) (tally : OwnStepsOf design plan) (worker : Worker N) → worker.dry ≡ true →
      worker_steps tally worker ≡ claimed_steps tally worker.shards.items
  worker-claimed design plan tally worker dry = ap (λ b. cond b (claimed_steps tally worker.shards.items) 0) dry

  -- the shards of one worker more
  most-both : (design : FlatDesign) (plan : TestPlan) (tally : OwnStepsOf design plan) (one other both : List (ClaimedShard N)) → both ≡ one ++ other →
      claimed_most tally both ≡ claimed_most tally one + claimed_most tally other
  most-both design plan tally one other both is =
      ap (claimed_most tally) is ∙ sum_by-append (λ (claimed : ClaimedShard N). sum_by (fault_steps_at tally) (places_of claimed.shard.faults)) one other

  -- one shard more
  pub claimed-within : (design : FlatDesign) (plan : TestPlan) (tally : OwnStepsOf design plan) (shards : List (ClaimedShard N)) (i : ℕ) (x : ClaimedShard N) → i < length shards →
      x ≡ get_or shards i x →
      claimed_steps tally (take i shards) ≤ claimed_most tally (take i shards) → shard_steps tally x.shard ≤ sum_by (fault_steps_at tally) (places_of x.shard.faults) →
      claimed_steps tally (take (i + 1) shards) ≤ claimed_most tally (take (i + 1) shards)
  claimed-within design plan tally shards i x low read so_far one =
      let a = sum_by_more (λ (claimed : ClaimedShard N). shard_steps tally claimed.shard) shards i x low in
      let b = sum_by_more (λ (claimed : ClaimedShard N). sum_by (fault_steps_at tally) (places_of claimed.shard.faults)) shards i x low in
      let c : shard_steps tally x.shard ≡ shard_steps tally (get_or shards i x).shard = ap (λ (claimed : ClaimedShard N). shard_steps tally claimed.shard) read in
      let d : sum_by (fault_steps_at tally) (places_of x.shard.faults) ≡ sum_by (fault_steps_at tally) (places_of (get_or shards i x).shard.faults) =
      ap (λ (claimed : ClaimedShard N). sum_by (fault_steps_at tally) (places_of claimed.shard.faults)) read in
      omega (arith, a, b, c, d, so_far, one)

  pub worker-within : (design : FlatDesign) (plan : TestPlan) (tally : OwnStepsOf design plan) (worker : Worker N) → worker.dry ≡ true →
      claimed_steps tally worker.shards.items ≤ claimed_most tally worker.shards.items → worker_steps tally worker ≤ claimed_most tally worker.shards.items
  worker-within design plan tally worker dry most = let same = worker-claimed design plan tally worker dry in omega (arith, same, most)

  -- shards gathered from the workers but some
  pub steps-none : (design : FlatDesign) (plan : TestPlan) (tally : OwnStepsOf design plan) (shards : List (ClaimedShard N)) (workers : List (Worker N)) → shards ≡ [] →
      crew_steps tally workers ≤ claimed_most tally shards + crew_steps tally workers
  steps-none design plan tally shards workers none = omega arith

  pub steps-more : (design : FlatDesign) (plan : TestPlan) (tally : OwnStepsOf design plan) (workers others all : List (Worker N)) (worker : Worker N) (shards own both : List (ClaimedShard N)) → workers ≡ others ++ worker ∷ [] →
      both ≡ shards ++ own → worker_steps tally worker ≤ claimed_most tally own →
      crew_steps tally all ≤ claimed_most tally shards + crew_steps tally workers →
      crew_steps tally all ≤ claimed_most tally both + crew_steps tally others
  steps-more design plan tally workers others all worker shards own both are is one so_far =
      let a : crew_steps tally workers ≡ crew_steps tally others + worker_steps tally worker = ap (crew_steps tally) are ∙ sum_by_push (worker_steps tally) others worker in
      let b : claimed_most tally both ≡ claimed_most tally shards + claimed_most tally own = most-both design plan tally shards own both is in
      omega (arith, a, b, one, so_far)

  pub steps-all : (design : FlatDesign) (plan : TestPlan) (tally : OwnStepsOf design plan) (workers all : List (Worker N)) (shards : List (ClaimedShard N)) → length workers ≡ 0 →
      crew_steps tally all ≤ claimed_most tally shards + crew_steps tally workers → crew_steps tally all ≤ claimed_most tally shards
  steps-all design plan tally workers all shards none so_far =
      let zero_steps : crew_steps tally workers ≡ 0 = ap (crew_steps tally) (none-length workers none) in omega (arith, zero_steps, so_far)
