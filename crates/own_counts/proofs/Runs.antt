-- Counts of runs one behind the other.
use Rattle.std.proofs.Common.{◌≡◌, ℕ, ◌+◌, ◌≤◌, List, [], ◌∷◌, ◌++◌, length, refl, sym, ap, subst, ◌∙◌, inl, inr, arith}
use Rattle.std.specs.Prelude.{Option, Some, None}
use Rattle.std.specs.List.{AllZip, sum}
use Rattle.std.proofs.lemmas.List.{append-nil}
use Rattle.std.proofs.lemmas.List.Sums.{sum_by-append, sum_by-cons}
use Rattle.v_design.specs.OwnSteps.{CountsOwn, ProcessRun, StepSeen, beside}
use Rattle.own_counts.specs.Counts.{AtMostOwn, EachTicks, TicksOwn}

pub sum-cons : (x : ℕ) (xs : List ℕ) → sum (x ∷ xs) ≡ x + sum xs
sum-cons x xs = sum_by-cons (λ (n : ℕ). n) x xs

pub sum-append : (xs ys : List ℕ) → sum (xs ++ ys) ≡ sum xs + sum ys
sum-append xs ys = sum_by-append (λ (n : ℕ). n) xs ys

-- counts of two lists
pub record Parted {A : Type 0} (R : A → ℕ → Type 0) (xs ys : List A) (counts : List ℕ) : Type 0 where
  pub one : List ℕ
  pub other : List ℕ
  pub same : counts ≡ one ++ other
  pub first : AllZip R xs one
  pub rest : AllZip R ys other

pub parted : {A : Type 0} (R : A → ℕ → Type 0) (xs ys : List A) (counts : List ℕ) → AllZip R (xs ++ ys) counts → Parted R xs ys counts
parted R [] ys counts all = record { one = []; other = counts; same = refl; first = tt; rest = all }
parted R (x ∷ xs) ys [] all = absurd all
parted R (x ∷ xs) ys (count ∷ counts) all =
    let more = parted R xs ys counts all.1 in
    record { one = count ∷ more.one; other = more.other; same = ap (λ (l : List ℕ). count ∷ l) more.same; first = (all.0, more.first); rest = more.rest }

pub joins : (one other : List (Option ProcessRun × ProcessRun)) (ticked more : ℕ) → AtMostOwn one ticked → AtMostOwn other more → AtMostOwn (one ++ other) (ticked + more)
joins one other ticked more low high counts all =
    let parts = parted CountsOwn one other counts all in
    let first = low parts.one parts.first in
    let rest = high parts.other parts.rest in
    let whole : sum counts ≡ sum parts.one + sum parts.other = ap sum parts.same ∙ sum-append parts.one parts.other in
    omega (arith, first, rest, whole)

pub less : (pairs : List (Option ProcessRun × ProcessRun)) (ticked fewer : ℕ) → fewer ≤ ticked → AtMostOwn pairs ticked → AtMostOwn pairs fewer
less pairs ticked fewer low bound counts all = let most = bound counts all in omega (arith, low, most)

pub none : AtMostOwn [] 0
none counts all = omega arith

-- a run that ticked
tick-low : (good : Option ProcessRun) (run : ProcessRun) (tick count : ℕ) → TicksOwn good run tick → CountsOwn (good, run) count → tick ≤ count
tick-low good run tick count (inl zero_is) counts = omega (arith, zero_is)
tick-low good run tick count (inr own) counts =
    let all : count ≡ length (run.steps ++ []) =
    own.0 [] count (subst (λ (r : ProcessRun). CountsOwn (good, r) count) (ap (λ (l : List StepSeen). record { begins = run.begins; steps = l }) (sym (append-nil run.steps))) counts) in
    let same : length (run.steps ++ []) ≡ length run.steps = ap length (append-nil run.steps) in
    let low = own.1 in
    omega (arith, all, same, low)

-- and all runs of a process
pub ticks-low : (good runs : List ProcessRun) (ticks : List ℕ) → EachTicks good runs ticks → AtMostOwn (beside good runs) (sum ticks)
ticks-low good [] [] each counts all = omega arith
ticks-low good [] (tick ∷ ticks) each counts all = absurd each
ticks-low good (run ∷ runs) [] each counts all = absurd each
ticks-low [] (run ∷ runs) (tick ∷ ticks) each [] all = absurd all
ticks-low [] (run ∷ runs) (tick ∷ ticks) each (count ∷ counts) all =
    let one = tick-low None run tick count each.0 all.0 in
    let rest = ticks-low [] runs ticks each.1 counts all.1 in
    let sums = sum-cons tick ticks in
    let other = sum-cons count counts in
    omega (arith, one, rest, sums, other)
ticks-low (own ∷ good) (run ∷ runs) (tick ∷ ticks) each [] all = absurd all
ticks-low (own ∷ good) (run ∷ runs) (tick ∷ ticks) each (count ∷ counts) all =
    let one = tick-low (Some own) run tick count each.0 all.0 in
    let rest = ticks-low good runs ticks each.1 counts all.1 in
    let sums = sum-cons tick ticks in
    let other = sum-cons count counts in
    omega (arith, one, rest, sums, other)
