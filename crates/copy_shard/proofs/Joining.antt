-- Faults of several shards in one list (slots by IEEE 1364-2001, clause 5).
use Rattle.std.proofs.Common.{◌≡◌, ℕ, ◌+◌, ◌≤◌, Bool, true, false, List, [], ◌∷◌, ◌++◌, length, get_or, map, take, drop, refl, sym, ap, subst, ◌∙◌, arith}
use Rattle.std.specs.Prelude.{All, is_some, not, ◌||◌, sum_by}
use Rattle.std.specs.List.{AllZip, list_any}
use Rattle.std.proofs.lemmas.List.{get_or_append_left, get_or_push, length_push, take-append-drop}
use Rattle.std.proofs.lemmas.List.Sums.{sum_by-append, sum_by_push}
use Rattle.vf_base.specs.Lists.{AllHold}
use Rattle.v_design.specs.Designs.{FlatDesign, TestPlan}
use Rattle.own_gradings.specs.Numbers.{OwnStepsOf}
use Rattle.shard_windows.specs.graded_steps.Behind.{RisesWithin}
use Rattle.shard_windows.specs.window_strobes.Passed.{HasPassed}
use Rattle.shard_windows.specs.copy_window.ShardFaults.{IsShardFault}
use Rattle.shard_windows.specs.copy_window.declared.fault.ShardFault.{ShardFault}
use Rattle.shard_windows.specs.window_faults.Steps.{steps_of_fault, steps_of_faults}
use Rattle.shard_windows.specs.window_faults.Within.{ComesThrough}
use Rattle.shard_windows.proofs.window_faults.Within.{same-count}
use Rattle.shard_windows.specs.Reached.{HasReached, HasReachedIfOpen, is_open}
use Rattle.copy_shard.specs.Kept.{IsShard, fault_kept}
use Rattle.copy_shard.specs.Shards.{FaultKept, FaultStands, ShardKept, StaysEnded, kept_steps, places_of, shard_steps}
use Rattle.copy_shard.specs.Together.{GoesThrough, JoinsShard, claimed_steps}
use Rattle.shard_windows.specs.declared.reached.Reached.{Reached}
use Rattle.copy_shard.specs.declared.together.ClaimedShard.{ClaimedShard}
use Rattle.copy_shard.specs.declared.together.Joined.{Joined}
use Rattle.shard_windows.proofs.Lists.{zip-holds}
use Rattle.copy_shard.proofs.Standing.{all-stand}
use Rattle.copy_shard.proofs.Through.{same-places, stay-ended, still-judged}
use Rattle.copy_shard.proofs.Ticks.{sum_by-seen}

-- Lists

module _ {A : Type 0} (P : A → Type 0) where
  hold-append : (xs ys : List A) → AllHold P xs → AllHold P ys → AllHold P (xs ++ ys)
  hold-append [] ys one other = other
  hold-append (x ∷ xs) ys one other = (one.0, hold-append xs ys one.1 other)

  -- of an element more
  pub all-front : (xs all : List A) (x : A) → all ≡ xs ++ x ∷ [] → All P all → All P xs
  all-front xs all x is holds k d low =
      let long = length_push xs x in
      subst P (ap (λ l. get_or l k d) is ∙ get_or_append_left xs (x ∷ []) d k low)
      (holds k d (let same : length all ≡ length (xs ++ x ∷ []) = ap length is in omega (arith, same, long, low)))

  pub all-last : (xs all : List A) (x : A) → all ≡ xs ++ x ∷ [] → All P all → P x
  all-last xs all x is holds =
      let long = length_push xs x in
      subst P (ap (λ l. get_or l (length xs) x) is ∙ get_or_push xs x x (length xs) refl)
      (holds (length xs) x (let same : length all ≡ length (xs ++ x ∷ []) = ap length is in omega (arith, same, long)))

module _ {A : Type 0} (R : A → A → Type 0) where
  -- the two parts of a list
  pub zip-front : (xs ys zs : List A) → AllZip R (xs ++ ys) zs → AllZip R xs (take (length xs) zs)
  zip-front [] ys zs zip = tt
  zip-front (x ∷ xs) ys [] zip = absurd zip
  zip-front (x ∷ xs) ys (z ∷ zs) zip = (zip.0, zip-front xs ys zs zip.1)

  pub zip-behind : (xs ys zs : List A) → AllZip R (xs ++ ys) zs → AllZip R ys (drop (length xs) zs)
  zip-behind [] ys zs zip = zip
  zip-behind (x ∷ xs) ys [] zip = absurd zip
  zip-behind (x ∷ xs) ys (z ∷ zs) zip = zip-behind xs ys zs zip.1

  pub zip-long : (xs ys zs : List A) → AllZip R (xs ++ ys) zs → length xs ≤ length zs
  zip-long [] ys zs zip = omega arith
  zip-long (x ∷ xs) ys [] zip = absurd zip
  zip-long (x ∷ xs) ys (z ∷ zs) zip = (let rest = zip-long xs ys zs zip.1 in omega (arith, rest))

or-left : (a b : Bool) → a ≡ true → (a || b) ≡ true
or-left true b e = refl
or-left false b e = cc

or-right : (a b : Bool) → b ≡ true → (a || b) ≡ true
or-right true b e = refl
or-right false b e = e

or-false : (a b : Bool) → (a || b) ≡ true → b ≡ false → a ≡ true
or-false true b e none = refl
or-false false b e none = cc

or-none : (a b : Bool) → (not a || b) ≡ false → (a ≡ true) × (b ≡ false)
or-none true b e = (refl, e)
or-none false b e = cc

any-append : (xs ys : List ShardFault) → list_any is_open (xs ++ ys) ≡ (list_any is_open xs || list_any is_open ys)
any-append [] ys = refl
any-append (own ∷ xs) ys = joined (not (is_some own.end)) (list_any is_open (xs ++ ys)) (list_any is_open xs) (list_any is_open ys) (any-append xs ys)
  where
    joined : (a all b c : Bool) → all ≡ (b || c) → (a || all) ≡ ((a || b) || c)
    joined true all b c e = refl
    joined false all b c e = e

any-parts : (n : ℕ) (xs : List ShardFault) → list_any is_open xs ≡ (list_any is_open (take n xs) || list_any is_open (drop n xs))
any-parts n xs = ap (list_any is_open) (sym (take-append-drop n xs)) ∙ any-append (take n xs) (drop n xs)

-- No shards

module _ {N : Type 0} (design : FlatDesign) (plan : TestPlan) where
  pub no-shards : (through : ℕ) (olds news : List (ClaimedShard N)) → length olds ≡ 0 → length news ≡ 0 → AllZip (GoesThrough design plan through) olds news
  no-shards through [] [] none also = tt
  no-shards through [] (new ∷ news) none also = absurd (omega (arith, also))
  no-shards through (old ∷ olds) news none also = absurd (omega (arith, none))

  pub no-steps : (tally : OwnStepsOf design plan) (shards : List (ClaimedShard N)) → length shards ≡ 0 → claimed_steps tally shards ≡ 0
  no-steps tally [] none = refl
  no-steps tally (shard ∷ shards) none = absurd (omega (arith, none))

-- No faults

pub no-faults : (design : FlatDesign) (plan : TestPlan) (tally : OwnStepsOf design plan) (gone : ℕ) (faults : List ShardFault) → faults ≡ [] → steps_of_faults tally gone faults ≡ 0
no-faults design plan tally gone faults none = ap (steps_of_faults tally gone) none

pub none-behind : (design : FlatDesign) (plan : TestPlan) (tally : OwnStepsOf design plan) (through passed : ℕ) (olds news : List ShardFault) → olds ≡ [] → AllZip (ComesThrough design plan through passed) olds news →
    steps_of_faults tally through news ≡ 0
none-behind design plan tally through passed [] [] none zip = refl
none-behind design plan tally through passed [] (new ∷ news) none zip = absurd zip
none-behind design plan tally through passed (old ∷ olds) news none zip = cc

-- Faults behind so many slots

module _ (design : FlatDesign) (plan : TestPlan) (gone : ℕ) where
  -- a fault whose grading ended stands whatever the count of strobes
  ended-any : (passed count : ℕ) (own : ShardFault) → is_some own.end ≡ true → IsShardFault design plan gone passed own → IsShardFault design plan gone count own
  ended-any passed count own some stands = record {
    fault = stands.fault;
    listed = stands.listed;
    beside = stands.beside;
    full = stands.full;
    within = stands.within;
    goes_on = λ time e more none. (let no : is_some own.end ≡ false = ap is_some none in cc);
  }

  ended-all : (passed count : ℕ) (faults : List ShardFault) → list_any is_open faults ≡ false → AllHold (IsShardFault design plan gone passed) faults → AllHold (IsShardFault design plan gone count) faults
  ended-all passed count [] none all = tt
  ended-all passed count (own ∷ faults) none all =
      let each = or-none (is_some own.end) (list_any is_open faults) none in
      (ended-any passed count own each.0 all.0, ended-all passed count faults each.1 all.1)

  -- all stand with the count that others have
  recount : (count : ℕ) → HasPassed design plan gone count → (reached : Reached) (faults : List ShardFault) → HasReachedIfOpen design plan gone reached faults →
      AllHold (IsShardFault design plan gone reached.passed) faults → AllHold (IsShardFault design plan gone count) faults
  recount count has reached [] reaches all = tt
  recount count has reached (own ∷ faults) reaches all =
      (one (is_some own.end) refl, recount count has reached faults (λ some. reaches (or-right (not (is_some own.end)) (list_any is_open faults) some)) all.1)
    where
      one : (b : Bool) → is_some own.end ≡ b → IsShardFault design plan gone count own
      one true some = ended-any reached.passed count own some all.0
      one false none = same-count design plan gone reached.passed count (reaches (or-left (not (is_some own.end)) (list_any is_open faults) (ap not none))).passed has own all.0

  -- two lists of them in one
  module _ (faults part : List ShardFault) (reached own joined : Reached) (open_is : list_any is_open part ≡ true → joined ≡ own) (ended_is : list_any is_open part ≡ false → joined ≡ reached)
      (reaches : HasReachedIfOpen design plan gone reached faults) (all : AllHold (IsShardFault design plan gone reached.passed) faults)
      (comes : HasReachedIfOpen design plan gone own part) (each : AllHold (IsShardFault design plan gone own.passed) part) where
    pub joined-reaches : HasReachedIfOpen design plan gone joined (faults ++ part)
    joined-reaches some = go (list_any is_open part) refl
      where
        go : (b : Bool) → list_any is_open part ≡ b → HasReached design plan gone joined
        go true e = subst (HasReached design plan gone) (sym (open_is e)) (comes e)
        go false e = subst (HasReached design plan gone) (sym (ended_is e)) (reaches (or-false (list_any is_open faults) (list_any is_open part) (sym (any-append faults part) ∙ some) e))

    pub joined-stand : AllHold (IsShardFault design plan gone joined.passed) (faults ++ part)
    joined-stand = go (list_any is_open part) refl
      where
        go : (b : Bool) → list_any is_open part ≡ b → AllHold (IsShardFault design plan gone joined.passed) (faults ++ part)
        go true e =
            subst (λ (r : Reached). AllHold (IsShardFault design plan gone r.passed) (faults ++ part)) (sym (open_is e))
            (hold-append (IsShardFault design plan gone own.passed) faults part (recount own.passed (comes e).passed reached faults reaches all) each)
        go false e =
            subst (λ (r : Reached). AllHold (IsShardFault design plan gone r.passed) (faults ++ part)) (sym (ended_is e))
            (hold-append (IsShardFault design plan gone reached.passed) faults part all (ended-all own.passed reached.passed part e each))

-- A shard's faults behind others through a window

module _ (design : FlatDesign) (plan : TestPlan) (shard : ShardKept) (faults joined new : List ShardFault) (with : Joined) (through first : ℕ) (behind : Reached)
    (joins : JoinsShard design plan shard faults joined with) (zip : AllZip (ComesThrough design plan through behind.passed) joined new) (reaches : HasReachedIfOpen design plan through behind new)
    (first_is : first ≡ length faults) where
  abbrev pub R : ShardFault → ShardFault → Type 0
  R = ComesThrough design plan through behind.passed

  both : AllZip R (faults ++ joins.part) new
  both = subst (λ (l : List ShardFault). AllZip R l new) joins.behind zip

  pub first-within : first ≤ length new
  first-within = (let long = zip-long R faults joins.part new both in omega (arith, long, first_is))

  pub others-through : AllZip R faults (take first new)
  others-through = subst (λ n. AllZip R faults (take n new)) (sym first_is) (zip-front R faults joins.part new both)

  part-through : AllZip R joins.part (drop first new)
  part-through = subst (λ n. AllZip R joins.part (drop n new)) (sym first_is) (zip-behind R faults joins.part new both)

  pub others-reach : HasReachedIfOpen design plan through behind (take first new)
  others-reach some = reaches (any-parts first new ∙ or-left (list_any is_open (take first new)) (list_any is_open (drop first new)) some)

  pub shard-behind : IsShard design plan through behind with.numbers.items (drop first new)
  shard-behind = record {
    judged = still-judged design plan through behind.passed joins.part (drop first new) joins.judged part-through;
    numbers_are = joins.numbers_are ∙ sym (same-places design plan through behind.passed joins.part (drop first new) part-through);
    reaches = λ some. reaches (any-parts first new ∙ or-right (list_any is_open (take first new)) (list_any is_open (drop first new)) some);
    each = zip-holds R (IsShardFault design plan through behind.passed) (λ x y comes. comes.stands) joins.part (drop first new) part-through;
  }

  abbrev pub left : List FaultKept
  left = map fault_kept (drop first new)

  module _ {N : Type 0} (number gone : ℕ) (old came : ClaimedShard N) (old_is : old ≡ record { number = number; shard = shard })
      (came_is : came ≡ record { number = number; shard = record { gone = gone; faults = left } }) (gone_is : gone ≡ through) where
    pub goes-through : GoesThrough design plan through old came
    goes-through = record {
      number = ap (λ (c : ClaimedShard N). c.number) came_is ∙ sym (ap (λ (c : ClaimedShard N). c.number) old_is);
      gone = ap (λ (c : ClaimedShard N). c.shard.gone) came_is ∙ gone_is;
      places =
          ap (λ (c : ClaimedShard N). places_of c.shard.faults) came_is
          ∙ (same-places design plan through behind.passed joins.part (drop first new) part-through
          ∙ (ap places_of joins.seen ∙ sym (ap (λ (c : ClaimedShard N). places_of c.shard.faults) old_is)));
      ended =
          subst (λ (c : ClaimedShard N). AllZip StaysEnded old.shard.faults c.shard.faults) (sym came_is)
          (subst (λ (c : ClaimedShard N). AllZip StaysEnded c.shard.faults left) (sym old_is)
          (subst (λ (l : List FaultKept). AllZip StaysEnded l left) joins.seen (stay-ended design plan through behind.passed joins.part (drop first new) part-through)));
      stands =
          subst (λ (c : ClaimedShard N). AllHold (FaultStands design plan c.shard.gone) c.shard.faults) (sym came_is)
          (subst (λ n. AllHold (FaultStands design plan n) left) (sym gone_is) (all-stand design plan through behind.passed (drop first new) shard-behind.judged shard-behind.each));
    }

  -- its steps
  module _ (tally : OwnStepsOf design plan) where
    before-steps : (before : ℕ) → shard.gone ≡ before → steps_of_faults tally before joined ≡ steps_of_faults tally before faults + shard_steps tally shard
    before-steps before at =
        ap (steps_of_faults tally before) joins.behind
        ∙ sum_by-append (steps_of_fault tally before) faults joins.part
        ∙ ap (λ n. steps_of_faults tally before faults + n)
        (sym (sum_by-seen tally before joins.part joins.judged) ∙ (λ i. sum_by (kept_steps tally (sym at i)) (joins.seen i)))

    behind-steps : steps_of_faults tally through new ≡ steps_of_faults tally through (take first new) + sum_by (kept_steps tally through) left
    behind-steps =
        ap (steps_of_faults tally through) (sym (take-append-drop first new))
        ∙ sum_by-append (steps_of_fault tally through) (take first new) (drop first new)
        ∙ ap (λ n. steps_of_faults tally through (take first new) + n) (sym (sum_by-seen tally through (drop first new) shard-behind.judged))

    pub shards-rise : {N : Type 0} (before number gone : ℕ) (old less fewer came : List (ClaimedShard N)) (one other : ℕ) → shard.gone ≡ before → gone ≡ through →
        old ≡ less ++ record { number = number; shard = shard } ∷ [] → came ≡ fewer ++ record { number = number; shard = record { gone = gone; faults = left } } ∷ [] →
        RisesWithin (claimed_steps tally less + steps_of_faults tally before joined) (claimed_steps tally fewer + steps_of_faults tally through new) one other →
        RisesWithin (claimed_steps tally old + steps_of_faults tally before faults) (claimed_steps tally came + steps_of_faults tally through (take first new)) one other
    shards-rise {N} before number gone old less fewer came one other at gone_is old_is came_is rises =
        let f = λ (claimed : ClaimedShard N). shard_steps tally claimed.shard in
        let a : claimed_steps tally old ≡ claimed_steps tally less + shard_steps tally shard =
        ap (claimed_steps tally) old_is ∙ sum_by_push f less (record { number = number; shard = shard }) in
        let b : claimed_steps tally came ≡ claimed_steps tally fewer + sum_by (kept_steps tally through) left =
        ap (claimed_steps tally) came_is ∙ sum_by_push f fewer (record { number = number; shard = record { gone = gone; faults = left } })
        ∙ ap (λ n. claimed_steps tally fewer + sum_by (kept_steps tally n) left) gone_is in
        let c = before-steps before at in
        let d = behind-steps in
        omega (arith, a, b, c, d, rises)
