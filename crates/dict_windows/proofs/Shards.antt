-- The shards of all faults, as they are begun and as they go through a window (slots by IEEE 1364-2001, clause 5).
use Rattle.std.proofs.Common.{◌≡◌, ℕ, zero, suc, ◌+◌, ◌*◌, ◌<◌, ◌≤◌, List, [], ◌∷◌, ◌++◌, append-nil, append_assoc, get_or, length, map, set, take, refl, sym, ap, subst, ◌∙◌, arith}
use Rattle.std.specs.Prelude.{sum_by}
use Rattle.std.specs.List.{All, AllWithin}
use Rattle.std.proofs.Math.Seq.{take-add}
use Rattle.std.proofs.lemmas.Grind.{flat_map-append}
use Rattle.std.proofs.lemmas.List.{get_or-set_other, length-set, take_all}
use Rattle.std.proofs.lemmas.List.Elements.{AllWithin-from_all, AllWithin-more_set, AllWithin-none}
use Rattle.std.proofs.lemmas.List.Sums.{sum_by-append, sum_by-cons, sum_by-set}
use Rattle.v_design.specs.Designs.{FlatDesign, TestPlan}
use Rattle.own_gradings.specs.Numbers.{OwnStepsOf}
use Rattle.fault_shards.specs.Cuts.{shard}
use Rattle.kept_shard.specs.graded_steps.Behind.{RisesWithin}
use Rattle.kept_shard.specs.Keeping.{KeepingShard, fresh_kept, full_steps_at, kept_steps_of, numbers_of}
use Rattle.kept_samples.specs.declared.kept.Kept.{Kept}
use Rattle.dict_windows.specs.Faults.{all_steps, faults_in}

-- the faults of a shard that is new
pub numbers-fresh : (numbers : List ℕ) → numbers_of (map fresh_kept numbers) ≡ numbers
numbers-fresh [] = refl
numbers-fresh (n ∷ ns) = ap (λ l. n ∷ l) (numbers-fresh ns)

faults-push : (shards : List KeepingShard) (own : KeepingShard) → faults_in (shards ++ own ∷ []) ≡ faults_in shards ++ numbers_of own.kept
faults-push shards own =
    flat_map-append (λ (one : KeepingShard). numbers_of one.kept) shards (own ∷ []) ∙ ap (λ l. faults_in shards ++ l) (append-nil (numbers_of own.kept))

-- one shard more of a list
pub begun-more : (numbers : List ℕ) (count : ℕ) (shards : List KeepingShard) (own : KeepingShard) → faults_in shards ≡ take (32 * count) numbers → numbers_of own.kept ≡ shard count numbers →
    faults_in (shards ++ own ∷ []) ≡ take (32 * (count + 1)) numbers
begun-more numbers count shards own so_far is =
    let next : 32 * count + 32 ≡ 32 * (count + 1) = omega arith in
    faults-push shards own ∙ (λ i. so_far i ++ is i) ∙ sym (take-add (32 * count) 32 numbers) ∙ ap (λ n. take n numbers) next

-- all
pub begun-all : (numbers : List ℕ) (count : ℕ) (shards : List KeepingShard) → length numbers ≤ 32 * count → faults_in shards ≡ take (32 * count) numbers → faults_in shards ≡ numbers
begun-all numbers count shards room so_far = so_far ∙ take_all (32 * count) numbers room

-- Through a window

-- so many have gone through, and the others haven't
pub record HavePassed (P Q : KeepingShard → Type 0) (place : ℕ) (shards : List KeepingShard) : Type 0 where
  pub behind : AllWithin Q shards 0 place
  pub ahead : AllWithin P shards place (length shards)

module _ (P Q : KeepingShard → Type 0) where
  pub passed-none : (shards : List KeepingShard) → All P shards → HavePassed P Q 0 shards
  passed-none shards all = record { behind = AllWithin-none Q shards 0; ahead = AllWithin-from_all P shards all }

  pub passed-more : (shards : List KeepingShard) (place : ℕ) (own : KeepingShard) → place < length shards → Q own → HavePassed P Q place shards → HavePassed P Q (place + 1) (set shards place own)
  passed-more shards place own below is h = record {
    behind = AllWithin-more_set shards place own below Q h.behind is;
    ahead = λ k d low within.
        let size : length (set shards place own) ≡ length shards = length-set shards place own in
        subst P (sym (get_or-set_other shards place k own d (λ same. omega (arith, same, low)))) (h.ahead k d (omega (arith, low)) (omega (arith, within, size)));
  }

  pub passed-all : (shards : List KeepingShard) (place : ℕ) → length shards ≤ place → HavePassed P Q place shards → All Q shards
  passed-all shards place past h = λ k d below. h.behind k d (omega arith) (omega (arith, below, past))

-- the faults stay where one shard keeps its own
pub faults-set : (shards : List KeepingShard) (place : ℕ) (own d : KeepingShard) → place < length shards → numbers_of own.kept ≡ numbers_of (get_or shards place d).kept →
    faults_in (set shards place own) ≡ faults_in shards
faults-set [] place own d below same = absurd (omega (arith, below))
faults-set (y ∷ ys) zero own d below same = ap (λ l. l ++ faults_in ys) same
faults-set (y ∷ ys) (suc place) own d below same = ap (λ l. numbers_of y.kept ++ l) (faults-set ys place own d (omega (arith, below)) same)

-- the own steps where one shard goes through a window
pub steps-set : (design : FlatDesign) (plan : TestPlan) (tally : OwnStepsOf design plan) (shards : List KeepingShard) (place : ℕ) (old new : KeepingShard) (from before mid after : ℕ) →
    place < length shards →
    old ≡ get_or shards place old → RisesWithin from (all_steps tally shards) before mid →
    RisesWithin (kept_steps_of tally old) (kept_steps_of tally new) mid after → RisesWithin from (all_steps tally (set shards place new)) before after
steps-set design plan tally shards place old new from before mid after low read so_far rises =
    let sum : all_steps tally (set shards place new) + kept_steps_of tally (get_or shards place old) ≡ all_steps tally shards + kept_steps_of tally new =
    sum_by-set (kept_steps_of tally) shards place new old low in
    let same : kept_steps_of tally old ≡ kept_steps_of tally (get_or shards place old) = ap (kept_steps_of tally) read in
    omega (arith, sum, same, so_far, rises)

-- Behind all windows

-- what is kept of some shards, and the shards that are left
pub kept-more : (all : List ℕ) (before after : List Kept) (own : KeepingShard) (left : List KeepingShard) → all ≡ numbers_of before ++ faults_in (own ∷ left) →
    numbers_of after ≡ numbers_of before ++ numbers_of own.kept → all ≡ numbers_of after ++ faults_in left
kept-more all before after own left so_far is =
    so_far ∙ sym (append_assoc (numbers_of before) (numbers_of own.kept) (faults_in left)) ∙ ap (λ l. l ++ faults_in left) (sym is)

pub steps-more : (design : FlatDesign) (plan : TestPlan) (tally : OwnStepsOf design plan) (most : ℕ) (before after : List Kept) (own : KeepingShard) (left : List KeepingShard) →
    most ≤ sum_by (full_steps_at tally) (numbers_of before) + all_steps tally (own ∷ left) →
    kept_steps_of tally own ≤ sum_by (full_steps_at tally) (numbers_of own.kept) → numbers_of after ≡ numbers_of before ++ numbers_of own.kept →
    most ≤ sum_by (full_steps_at tally) (numbers_of after) + all_steps tally left
steps-more design plan tally most before after own left so_far within is =
    let sum : sum_by (full_steps_at tally) (numbers_of after) ≡ sum_by (full_steps_at tally) (numbers_of before) + sum_by (full_steps_at tally) (numbers_of own.kept) =
    ap (sum_by (full_steps_at tally)) is ∙ sum_by-append (full_steps_at tally) (numbers_of before) (numbers_of own.kept) in
    let first : all_steps tally (own ∷ left) ≡ kept_steps_of tally own + all_steps tally left = sum_by-cons (kept_steps_of tally) own left in
    omega (arith, sum, first, so_far, within)
