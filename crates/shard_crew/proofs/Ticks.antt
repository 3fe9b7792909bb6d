-- The own steps of the faults of all workers (steps by IEEE 1364-2001, clause 9; slots by clause 5).
use Rattle.std.proofs.Common.{◌≡◌, ℕ, ◌+◌, List, [], ◌∷◌, ◌++◌, length, get_or, set, refl, sym, ap, subst, ◌∙◌, arith}
use Rattle.std.specs.Prelude.{sum, sum_by, Option, None, Some, IsSomeAnd}
use Rattle.std.proofs.lemmas.List.Sums.{sum_by-append, sum_by_push}
use Rattle.v_design.specs.Designs.{FlatDesign, TestPlan}
use Rattle.shard_findings.specs.graded_steps.Behind.{RisesWithin}
use Rattle.own_gradings.specs.Numbers.{OwnStepsOf}
use Rattle.shard_findings.specs.shard_claims.declared.worker.Worker.{Worker}
use Rattle.shard_findings.specs.shard_claims.declared.worker.Seated.{Seated}
use Rattle.shard_findings.specs.shard_claims.Workers.{visit_steps, visited_by, worker_steps}
use Rattle.shard_findings.proofs.shard_turns.Steps.{visits-both, visits-none}
use Rattle.shard_findings.specs.AllWorkers.{crew_steps}
use Rattle.shard_crew.specs.Crews.{steps_in}
use Rattle.shard_findings.proofs.Ticks.{none-length}

-- one counter
pub alone-rises : (from to : ℕ) (mine : List ℕ) (d new : ℕ) → length mine ≡ 1 → RisesWithin from to (get_or mine 0 d) new → RisesWithin from to (sum mine) (sum (set mine 0 new))
alone-rises from to [] d new one rises = absurd (omega (arith, one))
alone-rises from to (x ∷ []) d new one rises =
    let was : sum (x ∷ []) ≡ 0 + x = refl in
    let now : sum (set (x ∷ []) 0 new) ≡ 0 + new = refl in
    omega (arith, was, now, rises)
alone-rises from to (x ∷ (y ∷ more)) d new one rises = absurd (omega (arith, one))

-- what stands of a value that is there
pub some-at : {A : Type 0} (P : A → Type 0) (found : Option A) (x : A) → found ≡ Some x → IsSomeAnd found P → P x
some-at P found x is at = subst (λ (o : Option _). IsSomeAnd o P) is at

pub none-at : {A : Type 0} (P : A → Type 0) (found : Option A) → found ≡ None → IsSomeAnd found P → ⊥
none-at P found is at = subst (λ (o : Option _). IsSomeAnd o P) is at

module _ {N : Type 0} where
  -- one worker with one counter
  pub alone-steps : (design : FlatDesign) (plan : TestPlan) (tally : OwnStepsOf design plan) (representatives : List ℕ) (from to : ℕ) (found : Option (Seated N)) (one after : Seated N)
      (mine : List ℕ) (d new : ℕ) → found ≡ Some one → length mine ≡ 1 →
      RisesWithin (worker_steps tally one.worker + visit_steps tally representatives from (visited_by after.backup))
      (worker_steps tally after.worker + visit_steps tally representatives to (visited_by after.backup)) (get_or mine 0 d) new →
      RisesWithin (steps_in tally found + visit_steps tally representatives from (visited_by after.backup))
      (worker_steps tally after.worker + visit_steps tally representatives to (visited_by after.backup)) (sum mine) (sum (set mine 0 new))
  alone-steps design plan tally representatives from to found one after mine d new is count rises =
      subst (λ (o : Option (Seated N)). RisesWithin (steps_in tally o + visit_steps tally representatives from (visited_by after.backup))
      (worker_steps tally after.worker + visit_steps tally representatives to (visited_by after.backup)) (sum mine) (sum (set mine 0 new))) (sym is)
      (alone-rises (worker_steps tally one.worker + visit_steps tally representatives from (visited_by after.backup))
      (worker_steps tally after.worker + visit_steps tally representatives to (visited_by after.backup)) mine d new count rises)

  -- no worker
  pub nothing-rises : (design : FlatDesign) (plan : TestPlan) (tally : OwnStepsOf design plan) (representatives : List ℕ) (from to : ℕ) (old new : List (Worker N)) (visited : List ℕ) (counter : ℕ) →
      length old ≡ 0 → visited ≡ [] →
      RisesWithin (crew_steps tally old + visit_steps tally representatives from visited) (crew_steps tally new + visit_steps tally representatives to visited) counter counter
  nothing-rises design plan tally representatives from to old new visited counter none nobody =
      let zero_steps : crew_steps tally old ≡ 0 = ap (crew_steps tally) (none-length old none) in
      let no_visit : visit_steps tally representatives from visited ≡ 0 = visits-none design plan tally representatives from visited nobody in
      omega (arith, zero_steps, no_visit)

  -- one worker beside the others
  pub crew-more : (design : FlatDesign) (plan : TestPlan) (tally : OwnStepsOf design plan) (representatives : List ℕ) (from to : ℕ) (all before after back : List (Worker N)) (old new : Worker N)
      (one other both steps front rest front_new rest_new : List ℕ) → all ≡ before ++ old ∷ [] → back ≡ after ++ new ∷ [] → both ≡ other ++ one → steps ≡ front ++ rest →
      RisesWithin (worker_steps tally old + visit_steps tally representatives from one) (worker_steps tally new + visit_steps tally representatives to one) (sum rest) (sum rest_new) →
      RisesWithin (crew_steps tally before + visit_steps tally representatives from other) (crew_steps tally after + visit_steps tally representatives to other) (sum front) (sum front_new) →
      RisesWithin (crew_steps tally all + visit_steps tally representatives from both) (crew_steps tally back + visit_steps tally representatives to both) (sum steps) (sum (front_new ++ rest_new))
  crew-more design plan tally representatives from to all before after back old new one other both steps front rest front_new rest_new are is visits parts mine others =
      let a : crew_steps tally all ≡ crew_steps tally before + worker_steps tally old = ap (crew_steps tally) are ∙ sum_by_push (worker_steps tally) before old in
      let b : crew_steps tally back ≡ crew_steps tally after + worker_steps tally new = ap (crew_steps tally) is ∙ sum_by_push (worker_steps tally) after new in
      let c : sum steps ≡ sum front + sum rest = ap sum parts ∙ sum_by-append (λ n. n) front rest in
      let d : sum (front_new ++ rest_new) ≡ sum front_new + sum rest_new = sum_by-append (λ n. n) front_new rest_new in
      let e : visit_steps tally representatives from both ≡ visit_steps tally representatives from other + visit_steps tally representatives from one =
      visits-both design plan tally representatives from other one both visits in
      let f : visit_steps tally representatives to both ≡ visit_steps tally representatives to other + visit_steps tally representatives to one =
      visits-both design plan tally representatives to other one both visits in
      omega (arith, a, b, c, d, e, f, mine, others)
