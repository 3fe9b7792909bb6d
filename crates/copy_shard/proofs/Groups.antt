-- Shards in two parts, which go on one after the other (slots by IEEE 1364-2001, clause 5).
use Rattle.std.proofs.Common.{◌≡◌, ℕ, ◌+◌, List, [], ◌∷◌, ◌++◌, take, drop, sym, ap, subst, ◌∙◌}
use Rattle.std.specs.List.{AllZip}
use Rattle.std.proofs.lemmas.List.{take-append-drop}
use Rattle.std.proofs.lemmas.List.Sums.{sum_by-append, sum_by-take-drop}
use Rattle.v_design.specs.Designs.{FlatDesign, TestPlan}
use Rattle.own_gradings.specs.Numbers.{OwnStepsOf}
use Rattle.copy_shard.specs.Shards.{shard_steps}
use Rattle.copy_shard.specs.Together.{claimed_steps}
use Rattle.copy_shard.specs.declared.together.ClaimedShard.{ClaimedShard}

module _ {A : Type 0} (R : A → A → Type 0) where
  zip-append : (xs ys zs others : List A) → AllZip R xs zs → AllZip R ys others → AllZip R (xs ++ ys) (zs ++ others)
  zip-append [] ys [] others one other = other
  zip-append [] ys (z ∷ zs) others one other = absurd one
  zip-append (x ∷ xs) ys [] others one other = absurd one
  zip-append (x ∷ xs) ys (z ∷ zs) others one other = (one.0, zip-append xs ys zs others one.1 other)

  -- what each part comes to
  pub zip-parts : (n : ℕ) (all first rest one other came : List A) → first ≡ take n all → rest ≡ drop n all → came ≡ one ++ other → AllZip R first one → AllZip R rest other → AllZip R all came
  zip-parts n all first rest one other came first_is rest_is came_is through behind =
      subst (λ l. AllZip R l came) (take-append-drop n all)
      (subst (AllZip R (take n all ++ drop n all)) (sym came_is)
      (zip-append (take n all) (drop n all) one other (subst (λ l. AllZip R l one) first_is through) (subst (λ l. AllZip R l other) rest_is behind)))

-- their own steps
module _ {N : Type 0} {design : FlatDesign} {plan : TestPlan} (tally : OwnStepsOf design plan) where
  pub steps-before : (n : ℕ) (all first rest : List (ClaimedShard N)) → first ≡ take n all → rest ≡ drop n all → claimed_steps tally first + claimed_steps tally rest ≡ claimed_steps tally all
  steps-before n all first rest first_is rest_is =
      (λ i. claimed_steps tally (first_is i) + claimed_steps tally (rest_is i)) ∙ sum_by-take-drop (λ (claimed : ClaimedShard N). shard_steps tally claimed.shard) all n

  pub steps-behind : (one other came : List (ClaimedShard N)) → came ≡ one ++ other → claimed_steps tally came ≡ claimed_steps tally one + claimed_steps tally other
  steps-behind one other came came_is = ap (claimed_steps tally) came_is ∙ sum_by-append (λ (claimed : ClaimedShard N). shard_steps tally claimed.shard) one other
