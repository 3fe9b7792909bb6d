-- The own steps of the faults of all shards (nothing of the language).
use Rattle.std.proofs.Common.{◌≡◌, ℕ, suc, ◌+◌, ◌*◌, ◌≤◌, List, [], ◌∷◌, length, take, drop, slice_get, Some, refl, sym, ap, ◌∙◌, arith}
use Rattle.std.specs.Prelude.{false, sum, sum_by}
use Rattle.std.proofs.lemmas.List.{drop-drop, drop_all}
use Rattle.std.proofs.lemmas.List.Sums.{sum_by-cons, sum_by-take-drop}
use Rattle.v_design.specs.Designs.{FlatDesign, TestPlan}
use Rattle.v_design.specs.OwnSteps.{good_steps}
use Rattle.own_gradings.specs.Laws.{OwnStepsRise}
use Rattle.own_gradings.specs.Numbers.{OwnStepsOf}
use Rattle.fault_shards.specs.Cuts.{shard, shard_count}
use Rattle.shard_rounds.specs.copy_shard.Shards.{ShardKept, fault_steps_at, places_of}
use Rattle.shard_workers.specs.Ordered.{work_steps}
use Rattle.shard_workers.specs.Closings.{AreShardsDone, IsWork}
use Rattle.shard_workers.specs.Results.{RoseByOwn}
use Rattle.shard_workers.specs.declared.grade.Work.{Work}

module _ (f : ℕ → ℕ) (representatives : List ℕ) where
  -- what the faults of a shard come to, and those from a shard on
  abbrev of_shard : ShardKept → ℕ
  of_shard own = sum_by f (places_of own.faults)

  abbrev from_shard : ℕ → ℕ
  from_shard number = sum_by f (drop (32 * number) representatives)

  one-shard : (number : ℕ) (own : ShardKept) → places_of own.faults ≡ shard number representatives → of_shard own + from_shard (number + 1) ≡ from_shard number
  one-shard number own faults =
      let part : of_shard own ≡ sum_by f (take 32 (drop (32 * number) representatives)) = ap (sum_by f) faults in
      let next : 32 * (number + 1) ≡ 32 * number + 32 = omega arith in
      let rest : from_shard (number + 1) ≡ sum_by f (drop 32 (drop (32 * number) representatives)) =
      ap (λ (n : ℕ). sum_by f (drop n representatives)) next ∙ sym (ap (sum_by f) (drop-drop 32 (32 * number) representatives)) in
      let both : sum_by f (take 32 (drop (32 * number) representatives)) + sum_by f (drop 32 (drop (32 * number) representatives)) ≡ from_shard number =
      sum_by-take-drop f (drop (32 * number) representatives) 32 in
      omega (arith, part, rest, both)

  all-shards : (shards : List ShardKept) (number : ℕ) → ((k : ℕ) (own : ShardKept) → slice_get shards k ≡ Some own → places_of own.faults ≡ shard (number + k) representatives) →
      sum_by of_shard shards + from_shard (number + length shards) ≡ from_shard number
  all-shards [] number each =
      let none : sum_by of_shard [] ≡ 0 = refl in
      let same : number + length {A = ShardKept} [] ≡ number = omega arith in
      let here : from_shard (number + length {A = ShardKept} []) ≡ from_shard number = ap (λ (n : ℕ). from_shard n) same in
      omega (arith, none, here)
  all-shards (own ∷ shards) number each =
      let at : number + 0 ≡ number = omega arith in
      let one : of_shard own + from_shard (number + 1) ≡ from_shard number = one-shard number own (each 0 own refl ∙ ap (λ (n : ℕ). shard n representatives) at) in
      let rest : sum_by of_shard shards + from_shard ((number + 1) + length shards) ≡ from_shard (number + 1) =
      all-shards shards (number + 1) (λ k other is. each (suc k) other is ∙ ap (λ (n : ℕ). shard n representatives) (let next : number + suc k ≡ (number + 1) + k = omega arith in next)) in
      let both : sum_by of_shard (own ∷ shards) ≡ of_shard own + sum_by of_shard shards = sum_by-cons of_shard own shards in
      let longer : number + length (own ∷ shards) ≡ (number + 1) + length shards = omega arith in
      let end : from_shard (number + length (own ∷ shards)) ≡ from_shard ((number + 1) + length shards) = ap (λ (n : ℕ). from_shard n) longer in
      omega (arith, one, rest, both, end)

  -- the faults of all shards are all of them
  pub shards-sum : (shards : List ShardKept) → AreShardsDone representatives shards → sum_by of_shard shards ≡ sum_by f representatives
  shards-sum shards done =
      let all : sum_by of_shard shards + from_shard (0 + length shards) ≡ sum_by f representatives =
      all-shards shards 0 (λ k own is. (done.each k own is).faults ∙ ap (λ (n : ℕ). shard n representatives) (let same : k ≡ 0 + k = omega arith in same)) in
      let room : length representatives ≤ 32 * (0 + length shards) = (let counted : length shards ≡ shard_count (length representatives) = done.count in omega (arith, counted)) in
      let none : from_shard (0 + length shards) ≡ 0 = ap (sum_by f) (drop_all (32 * (0 + length shards)) representatives room) in
      omega (arith, all, none)

-- what the counters rose by, said of the plan alone
pub rose-own : {N : Type 0} → OwnStepsRise → (design : FlatDesign) (plan : TestPlan) (before after : ℕ) (work : Work N) → IsWork design plan work →
    ((tally : OwnStepsOf design plan) → after ≤ before + (good_steps design plan + 2 * work_steps tally work.shards.items)) → RoseByOwn design plan before after
rose-own law design plan before after work graded ticks = record {
  representatives = graded.closing.representatives;
  are_all = graded.closing.are_all;
  within = λ steps each. law.exist design plan after (before + (good_steps design plan + 2 * sum steps)) (λ tally.
      let same : work_steps tally work.shards.items ≡ sum_by (fault_steps_at tally) graded.closing.representatives =
      shards-sum (fault_steps_at tally) graded.closing.representatives work.shards.items graded.shards_are in
      let all : sum_by (fault_steps_at tally) graded.closing.representatives ≡ sum steps =
      law.sums design plan tally false graded.closing.representatives steps
      (λ number found. (let is = (graded.closing.are_all.each number).0 found in (is.fault, is.listed))) each in
      let most = ticks tally in
      omega (arith, same, all, most));
}
