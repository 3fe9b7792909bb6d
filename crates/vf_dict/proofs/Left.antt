-- What is left of what is kept of the faults that stand for their classes (gates by IEEE 1364-2001, clause 7).
use Rattle.std.proofs.Common.{◌≡◌, ℕ, zero, suc, ◌+◌, ◌<◌, ◌≤◌, List, [], ◌∷◌, Contains, arith, length, refl, sym, subst, ◌∙◌, ⊎_elim}
use Rattle.std.specs.Prelude.{Some, slice_get, slice_index_or}
use Rattle.std.specs.List.{All, AllPairs}
use Rattle.std.proofs.lemmas.Bool.{cases_eq}
use Rattle.std.proofs.lemmas.List.Kept.{AllPairs-from_increasing}
use Rattle.std.proofs.lemmas.Map.Made.{Contains-tail}
use Rattle.std.proofs.lemmas.Option.{same_Some}
use Rattle.vf_base.specs.Base.{fault_number}
use Rattle.vf_base.specs.Lists.{AllHold}
use Rattle.v_design.specs.Designs.{FlatDesign, StuckAt, TestPlan}
use Rattle.v_design.specs.Sites.{AreOneClass}
use Rattle.v_design.specs.WellFormed.{IsAscending}
use Rattle.dict_windows.specs.kept_shard.Keeping.{KeptWhole, numbers_of}
use Rattle.fault_list.specs.Classes.{IsFirstOfClass}
use Rattle.fault_shards.specs.Representatives.{AreRepresentatives, IsRepresentative}
use Rattle.kept_samples.specs.declared.kept.Kept.{Kept}
use Rattle.vf_dict.specs.Listings.{AreLeft}

-- Lists

pub nothing-there : {A : Type 0} (xs : List A) → length xs ≡ 0 → xs ≡ []
nothing-there [] none = refl
nothing-there (x ∷ xs) none = absurd (omega (arith, none))

all-hold : {A : Type 0} (P : A → Type 0) (xs : List A) → All P xs → AllHold P xs
all-hold P [] all = tt
all-hold P (x ∷ xs) all = (all 0 x (omega arith), all-hold P xs (λ k d below. all (suc k) d (omega (arith, below))))

holds-at : (P : ℕ → Type 0) (xs : List ℕ) (n k : ℕ) → AllHold P xs → k < length xs → slice_index_or xs k n ≡ n → P n
holds-at P [] n k all low is = absurd (omega (arith, low))
holds-at P (x ∷ xs) n zero all low is = subst P is all.0
holds-at P (x ∷ xs) n (suc k) all low is = holds-at P xs n k all.1 (omega (arith, low)) is

holds-there : (P : ℕ → Type 0) (xs : List ℕ) (n : ℕ) → AllHold P xs → Contains xs n → P n
holds-there P xs n all c = holds-at P xs n c.0 all c.1 c.2

pairs-ascend : (xs : List ℕ) → AllPairs (λ x y. x < y) xs → IsAscending xs
pairs-ascend [] h = tt
pairs-ascend (x ∷ xs) h = (
  all-hold (λ later. x < later) xs (λ k d below. h 0 (suc k) d (omega arith) (omega (arith, below))),
  pairs-ascend xs (λ i j d low below. h (suc i) (suc j) d (omega (arith, low)) (omega (arith, below))),
)

contains-more : (x : ℕ) (xs : List ℕ) (n : ℕ) → Contains xs n → Contains (x ∷ xs) n
contains-more x xs n c = (suc c.0, omega (arith, c.1), c.2)

-- What is left

-- before the first listed fault all of them are
pub left-all : (design : FlatDesign) (plan : TestPlan) (representatives : List ℕ) (kept : List Kept) → AreRepresentatives design plan.faults representatives → numbers_of kept ≡ representatives →
    AllHold (KeptWhole design plan) kept → AreLeft design plan 0 kept
left-all design plan representatives kept are numbers whole = record {
  ascend = subst IsAscending (sym numbers) (pairs-ascend representatives (AllPairs-from_increasing representatives are.ascend));
  each = λ number. (
    λ c. (omega arith, (are.each number).0 (subst (λ (l : List ℕ). Contains l number) numbers c)),
    λ h. subst (λ (l : List ℕ). Contains l number) (sym numbers) ((are.each number).1 h.1),
  );
  whole = whole;
}

-- a listed fault for which another one stands leaves them as they are
pub left-other : (design : FlatDesign) (plan : TestPlan) (from : ℕ) (kept : List Kept) → (IsRepresentative design plan.faults from → ⊥) → AreLeft design plan from kept →
    AreLeft design plan (from + 1) kept
left-other design plan from kept other h = record {
  ascend = h.ascend;
  each = λ number. (
    λ c. let r = (h.each number).0 c in (further number r.0 (λ same. other (subst (IsRepresentative design plan.faults) same r.1)), r.1),
    λ r. let low : from + 1 ≤ number = r.0 in (h.each number).1 (omega (arith, low), r.1),
  );
  whole = h.whole;
}
  where
    further : (number : ℕ) → from ≤ number → (number ≡ from → ⊥) → from + 1 ≤ number
    further number low differs = ⊎_elim (λ (same : number ≡ from). absurd (differs same)) (λ (distinct : number ≡ from → ⊥). omega (arith, low, distinct)) (cases_eq number from)

-- one that stands for its class is the first of them, and the others are left
pub record IsNextLeft (design : FlatDesign) (plan : TestPlan) (from : ℕ) (own : Kept) (rest : List Kept) : Type 0 where
  pub number : fault_number own.fault ≡ from
  pub whole : KeptWhole design plan own
  pub left : AreLeft design plan (from + 1) rest

pub left-next : (design : FlatDesign) (plan : TestPlan) (from : ℕ) (own : Kept) (rest : List Kept) → IsRepresentative design plan.faults from → AreLeft design plan from (own ∷ rest) →
    IsNextLeft design plan from own rest
left-next design plan from own rest stands h = record {
  number = number;
  whole = h.whole.0;
  left = record {
    ascend = h.ascend.1;
    each = λ n. (
      λ c.
          let r = (h.each n).0 (contains-more (fault_number own.fault) (numbers_of rest) n c) in
          let above : fault_number own.fault < n = holds-there (λ later. fault_number own.fault < later) (numbers_of rest) n h.ascend.0 c in
          (omega (arith, above, number), r.1),
      λ r.
          let low : from + 1 ≤ n = r.0 in
          Contains-tail (fault_number own.fault) (numbers_of rest) n (λ same. omega (arith, same, number, low)) ((h.each n).1 (omega (arith, low), r.1)),
    );
    whole = h.whole.1;
  };
}
  where
    first : from ≤ fault_number own.fault
    first = ((h.each (fault_number own.fault)).0 (0, omega arith, refl)).0

    number : fault_number own.fault ≡ from
    number =
        ⊎_elim (λ (same : fault_number own.fault ≡ from). same)
        (λ (distinct : fault_number own.fault ≡ from → ⊥).
        let c : Contains (numbers_of rest) from = Contains-tail (fault_number own.fault) (numbers_of rest) from distinct ((h.each from).1 (omega arith, stands)) in
        let above : fault_number own.fault < from = holds-there (λ later. fault_number own.fault < later) (numbers_of rest) from h.ascend.0 c in
        absurd (omega (arith, above, first)))
        (cases_eq (fault_number own.fault) from)

-- so none of them isn't there
pub none-left : (design : FlatDesign) (plan : TestPlan) (from : ℕ) → IsRepresentative design plan.faults from → AreLeft design plan from [] → ⊥
none-left design plan from stands h = let c = (h.each from).1 (omega arith, stands) in omega (arith, c.1)

-- The first of a class

-- a listed fault that is the first of its class stands for it
pub stands-itself : (design : FlatDesign) (faults : List StuckAt) (number place : ℕ) (fault : StuckAt) → slice_get faults number ≡ Some fault → IsFirstOfClass design faults fault place →
    place ≡ number → IsRepresentative design faults number
stands-itself design faults number place fault listed first same = record {
  fault = fault;
  listed = listed;
  least = λ earlier other before there. first.least earlier other (omega (arith, before, same)) there;
}

-- one that isn't doesn't
pub stands-other : (design : FlatDesign) (faults : List StuckAt) (number place : ℕ) (fault : StuckAt) → slice_get faults number ≡ Some fault → IsFirstOfClass design faults fault place →
    place < number → IsRepresentative design faults number → ⊥
stands-other design faults number place fault listed first before is =
    let same : is.fault ≡ fault = same_Some is.fault fault (sym is.listed ∙ listed) in
    is.least place first.first before first.stands (subst (AreOneClass design first.first) (sym same) first.alike)
