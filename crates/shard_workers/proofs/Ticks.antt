-- Counters that no worker has stay.
use Rattle.std.proofs.Common.{◌≡◌, ℕ, ◌+◌, List, [], ◌∷◌, ◌++◌, length, refl, arith}
use Rattle.std.specs.Prelude.{slice_index, sum}
use Rattle.std.proofs.lemmas.List.Sums.{sum_by-append}
use Rattle.v_design.specs.Designs.{FlatDesign, TestPlan}
use Rattle.shard_workers.specs.declared.grade.Graded.{Graded}
use Rattle.shard_workers.specs.declared.grade.Graded.TheVariants.{Findings, GoodLoop}
use Rattle.shard_workers.specs.Closings.{GradedTicks}

-- the first counter is the only one of the calling thread
pub first-is : (own rest : List ℕ) → length own ≡ 1 → slice_index (own ++ rest) 0 ≡ sum own
first-is [] rest one = absurd (omega (arith, one))
first-is (n ∷ []) rest one = (let s : sum (n ∷ []) ≡ 0 + n = refl in omega (arith, s))
first-is (n ∷ (m ∷ more)) rest one = absurd (omega (arith, one))

module _ {N : Type 0} (design : FlatDesign) (plan : TestPlan) where
  -- what the first counter and the workers' rise by, all rise by
  pub ticks-over : (first counters rest own new : List ℕ) (graded : Graded N) → GradedTicks design plan (sum first + sum counters) (sum own + sum new) graded →
      GradedTicks design plan (sum (first ++ (counters ++ rest))) (sum (own ++ (new ++ rest))) graded
  ticks-over first counters rest own new (GoodLoop time) within = tt
  ticks-over first counters rest own new (Findings work) within = record {
    representatives = within.representatives;
    are_all = within.are_all;
    within = λ steps each.
        (let before : sum (counters ++ rest) ≡ sum counters + sum rest = sum_by-append (λ n. n) counters rest in
        let after : sum (new ++ rest) ≡ sum new + sum rest = sum_by-append (λ n. n) new rest in
        let was : sum (first ++ (counters ++ rest)) ≡ sum first + sum (counters ++ rest) = sum_by-append (λ n. n) first (counters ++ rest) in
        let now : sum (own ++ (new ++ rest)) ≡ sum own + sum (new ++ rest) = sum_by-append (λ n. n) own (new ++ rest) in
        let most = within.within steps each in
        omega (arith, before, after, was, now, most));
  }
