-- The shards of a worker, in order (slots by IEEE 1364-2001, clause 5).
use Rattle.std.proofs.Common.{◌≡◌, ℕ, ◌+◌, ◌<◌, List, [], ◌∷◌, ◌++◌, length, take, drop, get_or, refl, sym, ap, subst, ◌∙◌, append_assoc, arith}
use Rattle.std.specs.List.{All, AllZip}
use Rattle.std.proofs.lemmas.List.{append-nil, length-drop, map-append, take-append-drop}
use Rattle.std.proofs.lemmas.List.Elements.{All-append, All-cons, All-drop, All-head, All-nil, All-push, All-same, All-tail, All-take}
use Rattle.std.proofs.lemmas.List.Sums.{sum_by-append, sum_by_push}
use Rattle.v_design.specs.Designs.{FlatDesign, TestPlan}
use Rattle.own_gradings.specs.Numbers.{OwnStepsOf}
use Rattle.fault_shards.specs.Cuts.{shard}
use Rattle.copy_shard.specs.Shards.{ShardKept, places_of, shard_steps}
use Rattle.copy_shard.specs.Together.{GoesThrough, claimed_steps}
use Rattle.copy_shard.specs.declared.together.ClaimedShard.{ClaimedShard}
use Rattle.shard_turns.specs.Claims.{IsClaimed, numbers_of}
use Rattle.shard_turns.specs.Turns.{HasDone}

module _ {N : Type 0} where
  -- the numbers stay
  pub numbers-stay : (design : FlatDesign) (plan : TestPlan) (through : ℕ) (olds news : List (ClaimedShard N)) → AllZip (GoesThrough design plan through) olds news → numbers_of news ≡ numbers_of olds
  numbers-stay design plan through [] [] zip = refl
  numbers-stay design plan through [] (new ∷ news) zip = absurd zip
  numbers-stay design plan through (old ∷ olds) [] zip = absurd zip
  numbers-stay design plan through (old ∷ olds) (new ∷ news) zip = λ i. zip.0.number i ∷ numbers-stay design plan through olds news zip.1 i

  -- and so do the faults of the claims
  pub all-claimed : (design : FlatDesign) (plan : TestPlan) (through : ℕ) (representatives : List ℕ) (gone : ℕ) (olds news : List (ClaimedShard N)) → AllZip (GoesThrough design plan through) olds news →
      All (IsClaimed representatives gone) olds → All (IsClaimed representatives through) news
  all-claimed design plan through representatives gone [] [] zip all = All-nil (IsClaimed representatives through)
  all-claimed design plan through representatives gone [] (new ∷ news) zip all = absurd zip
  all-claimed design plan through representatives gone (old ∷ olds) [] zip all = absurd zip
  all-claimed design plan through representatives gone (old ∷ olds) (new ∷ news) zip all =
      let was = All-head (IsClaimed representatives gone) old olds all in
      All-cons (IsClaimed representatives through) new news
      (record {
        low = (let same = zip.0.number in let low = was.low in omega (arith, same, low));
        faults = zip.0.places ∙ was.faults ∙ ap (λ n. shard n representatives) (sym zip.0.number);
        gone_is = zip.0.gone;
      })
      (all-claimed design plan through representatives gone olds news zip.1 (All-tail (IsClaimed representatives gone) old olds all))

  -- a shard that was found in place of one
  pub found-claimed : (representatives : List ℕ) (gone through : ℕ) (claimed : ClaimedShard N) (other : ShardKept) → IsClaimed representatives gone claimed → HasDone through claimed.shard other →
      (new : ClaimedShard N) → new.number ≡ claimed.number → new.shard ≡ other → IsClaimed representatives through new
  found-claimed representatives gone through claimed other is done new number shard_is = record {
    low = (let low = is.low in omega (arith, low, number));
    faults = ap (λ (kept : ShardKept). places_of kept.faults) shard_is ∙ (done.places ∙ (is.faults ∙ ap (λ n. shard n representatives) (sym number)));
    gone_is = ap (λ (kept : ShardKept). kept.gone) shard_is ∙ done.gone;
  }

  -- Lists of shards, put together

  pub all-both : (P : ClaimedShard N → Type 0) (one other both : List (ClaimedShard N)) → both ≡ one ++ other → All P one → All P other → All P both
  all-both P one other both is a b = All-same P both (one ++ other) is (All-append P one other a b)

  pub all-more : (P : ClaimedShard N → Type 0) (old new : List (ClaimedShard N)) (more : ClaimedShard N) → new ≡ old ++ more ∷ [] → All P old → P more → All P new
  all-more P old new more is all one = All-same P new (old ++ more ∷ []) is (All-push P old more all one)

  pub all-none : (P : ClaimedShard N → Type 0) (shards : List (ClaimedShard N)) → shards ≡ [] → All P shards
  all-none P shards none = All-same P shards [] none (All-nil P)

  -- at a place
  pub all-place : (P : ClaimedShard N → Type 0) (shards : List (ClaimedShard N)) (i : ℕ) (x : ClaimedShard N) → All P shards → i < length shards → x ≡ get_or shards i x → P x
  all-place P shards i x all low is = subst P (sym is) (all i x low)

  -- a list in two parts
  pub parts-are : (shards first rest : List (ClaimedShard N)) (count : ℕ) → first ≡ take count shards → rest ≡ drop count shards → shards ≡ first ++ rest
  parts-are shards first rest count front back = sym (take-append-drop count shards) ∙ (λ i. sym front i ++ sym back i)

  pub all-first : (P : ClaimedShard N → Type 0) (shards first : List (ClaimedShard N)) (count : ℕ) → first ≡ take count shards → All P shards → All P first
  all-first P shards first count front all = All-same P first (take count shards) front (All-take P count shards all)

  pub all-rest : (P : ClaimedShard N → Type 0) (shards rest : List (ClaimedShard N)) (count : ℕ) → rest ≡ drop count shards → All P shards → All P rest
  all-rest P shards rest count back all = All-same P rest (drop count shards) back (All-drop P count shards all)

  pub fewer-left : (shards rest : List (ClaimedShard N)) (count : ℕ) → 0 < count → 0 < length shards → rest ≡ drop count shards → length rest < length shards
  fewer-left shards rest count some more back = let size = ap length back ∙ length-drop count shards in omega (arith, size, some, more)

  -- no shard
  pub no-shard : (shards : List (ClaimedShard N)) → length shards ≡ 0 → shards ≡ []
  no-shard [] none = refl
  no-shard (x ∷ xs) none = absurd (omega (arith, none))

  pub numbers-both : (one other both : List (ClaimedShard N)) → both ≡ one ++ other → numbers_of both ≡ numbers_of one ++ numbers_of other
  numbers-both one other both is = ap numbers_of is ∙ map-append (λ (claimed : ClaimedShard N). claimed.number) one other

  pub numbers-more : (old new : List (ClaimedShard N)) (more : ClaimedShard N) → new ≡ old ++ more ∷ [] → numbers_of new ≡ numbers_of old ++ more.number ∷ []
  numbers-more old new more is = ap numbers_of is ∙ map-append (λ (claimed : ClaimedShard N). claimed.number) old (more ∷ [])

  pub steps-both : (design : FlatDesign) (plan : TestPlan) (tally : OwnStepsOf design plan) (one other both : List (ClaimedShard N)) → both ≡ one ++ other →
      claimed_steps tally both ≡ claimed_steps tally one + claimed_steps tally other
  steps-both design plan tally one other both is = ap (claimed_steps tally) is ∙ sum_by-append (λ (claimed : ClaimedShard N). shard_steps tally claimed.shard) one other

  pub steps-more : (design : FlatDesign) (plan : TestPlan) (tally : OwnStepsOf design plan) (old new : List (ClaimedShard N)) (more : ClaimedShard N) → new ≡ old ++ more ∷ [] →
      claimed_steps tally new ≡ claimed_steps tally old + shard_steps tally more.shard
  steps-more design plan tally old new more is = ap (claimed_steps tally) is ∙ sum_by_push (λ (claimed : ClaimedShard N). shard_steps tally claimed.shard) old more

  pub steps-none : (design : FlatDesign) (plan : TestPlan) (tally : OwnStepsOf design plan) (shards : List (ClaimedShard N)) → shards ≡ [] → claimed_steps tally shards ≡ 0
  steps-none design plan tally shards none = ap (claimed_steps tally) none

-- a list between two others
pub behind-nothing : {A : Type 0} (xs ys : List A) → ys ≡ [] → xs ++ ys ≡ xs
behind-nothing xs ys none = ap (λ (l : List _). xs ++ l) none ∙ append-nil xs

pub one-behind : {A : Type 0} (xs ys : List A) (x : A) → (xs ++ ys) ++ x ∷ [] ≡ xs ++ (ys ++ x ∷ [])
one-behind xs ys x = append_assoc xs ys (x ∷ [])
