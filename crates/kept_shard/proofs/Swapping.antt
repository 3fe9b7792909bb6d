-- The samples of faults go to them and back (strobes by the plan; slots by IEEE 1364-2001, clause 5).
use Rattle.std.proofs.Common.{◌≡◌, ◌⊎◌, ℕ, ◌+◌, ◌<◌, ◌≤◌, Bool, true, List, [], ◌∷◌, ◌++◌, length, map, take, set, get_or, refl, sym, ap, subst, ◌∙◌, arith, inl, inr}
use Rattle.std.specs.Prelude.{Some, is_some, not, ◌||◌, slice_get}
use Rattle.std.specs.List.{AllZip, list_any}
use Rattle.std.proofs.lemmas.Bool.{cases_lt}
use Rattle.std.proofs.lemmas.List.{length-set, map_push, take_more}
use Rattle.std.proofs.lemmas.Option.{same_Some, slice_get_within}
use Rattle.vf_base.specs.Base.{fault_number}
use Rattle.vf_base.specs.Lists.{AllHold}
use Rattle.vf_base.specs.declared.ids.FaultId.{FaultId}
use Rattle.v_design.specs.Designs.{FlatDesign, TestPlan}
use Rattle.v_design.specs.Plain.{grade_of}
use Rattle.kept_samples.specs.Plain.{sample_of}
use Rattle.kept_samples.specs.declared.kept.Kept.{Kept}
use Rattle.copy_laws.specs.Windows.{IsBesideAt, good_slots}
use Rattle.grade_laws.specs.Grading.{faulty_seen, good_seen}
use Rattle.fault_strobes.specs.Full.{IsFull}
use Rattle.fault_strobes.specs.Said.{IsSaid, Keeping, Said, keeps, plan_by}
use Rattle.fault_strobes.specs.Shown.{said_of}
use Rattle.fault_strobes.specs.declared.strobed.Strobed.{Strobed}
use Rattle.fault_strobes.specs.declared.strobed.Strobed.TheVariants as kinds
use Rattle.shard_windows.specs.copy_window.ShardFaults.{IsShardFault, beside_by, kept_by, said_by}
use Rattle.shard_windows.specs.copy_window.declared.fault.ShardFault.{ShardFault}
use Rattle.shard_windows.specs.window_faults.Within.{ComesThrough}
use Rattle.shard_windows.proofs.window_faults.Lists.{all-at, at-set, zip-at, zip-back, zip-length}
use Rattle.shard_windows.specs.Reached.{HasReachedIfOpen, is_open}
use Rattle.shard_windows.specs.declared.reached.Reached.{Reached}
use Rattle.kept_shard.specs.Keeping.{fresh_kept}
use Rattle.kept_shard.specs.Kept.{AreSwapped, IsKeeping, IsKeptFault, IsSwapped, end_kept, said_in, samples_of}
use Rattle.kept_shard.proofs.Places.{there}

-- Before the first slot

pub kept-more : (numbers : List FaultId) (place : ℕ) (d : FaultId) (kepts news : List Kept) (one : Kept) → place < length numbers → kepts ≡ map fresh_kept (map fault_number (take place numbers)) →
    news ≡ kepts ++ one ∷ [] → one ≡ fresh_kept (fault_number (get_or numbers place d)) → news ≡ map fresh_kept (map fault_number (take (place + 1) numbers))
kept-more numbers place d kepts news one low so is fresh =
    let front = take place numbers in
    let number = get_or numbers place d in
    is
    ∙ (λ i. so i ++ fresh i ∷ [])
    ∙ sym (ap (λ (l : List FaultId). map fresh_kept (map fault_number l)) (take_more numbers place d low) ∙ (ap (map fresh_kept) (map_push fault_number front number)
    ∙ map_push fresh_kept (map fault_number front) (fault_number number)))

-- Fault by fault

-- so many were swapped, and the others are as they were
pub record SwappedTo (place : ℕ) (olds : List ShardFault) (kepts : List Kept) (news : List ShardFault) (tolds : List Kept) : Type 0 where
  pub count : length news ≡ length olds
  pub kept_count : length tolds ≡ length kepts
  pub each : (at : ℕ) (own : ShardFault) (kept : Kept) (new : ShardFault) (told : Kept) → at < place → slice_get olds at ≡ Some own → slice_get kepts at ≡ Some kept →
      slice_get news at ≡ Some new → slice_get tolds at ≡ Some told → IsSwapped own kept new told
  pub faults_stay : (at : ℕ) (new : ShardFault) → place ≤ at → slice_get news at ≡ Some new → slice_get olds at ≡ Some new
  pub kept_stay : (at : ℕ) (told : Kept) → place ≤ at → slice_get tolds at ≡ Some told → slice_get kepts at ≡ Some told

pub swapped-none : (olds : List ShardFault) (kepts : List Kept) → SwappedTo 0 olds kepts olds kepts
swapped-none olds kepts = record {
  count = refl;
  kept_count = refl;
  each = λ at own kept new told low one two three four. absurd (omega (arith, low));
  faults_stay = λ at new low here. here;
  kept_stay = λ at told low here. here;
}

-- one more
pub swapped-more : (place : ℕ) (olds : List ShardFault) (kepts : List Kept) (news : List ShardFault) (tolds : List Kept) (own new : ShardFault) (kept told : Kept) →
    SwappedTo place olds kepts news tolds → place < length olds → length kepts ≡ length olds → slice_get news place ≡ Some own → slice_get tolds place ≡ Some kept → IsSwapped own kept new told →
    SwappedTo (place + 1) olds kepts (set news place new) (set tolds place told)
swapped-more place olds kepts news tolds own new kept told so low same read read_kept swapped = record {
  count = length-set news place new ∙ so.count;
  kept_count = length-set tolds place told ∙ so.kept_count;
  each = λ at a b c d within one two three four.
      go at a b c d within one two (at-set news place at new c (omega (arith, low, so.count)) three) (at-set tolds place at told d (omega (arith, low, same, so.kept_count)) four);
  faults_stay = λ at c past here. elim (at-set news place at new c (omega (arith, low, so.count)) here) [
    | inl this ↦ absurd (let at_is = this.0 in omega (arith, at_is, past))
    | inr other ↦ so.faults_stay at c (omega (arith, past)) other.1
  ];
  kept_stay = λ at d past here. elim (at-set tolds place at told d (omega (arith, low, same, so.kept_count)) here) [
    | inl this ↦ absurd (let at_is = this.0 in omega (arith, at_is, past))
    | inr other ↦ so.kept_stay at d (omega (arith, past)) other.1
  ];
}
  where
    go : (at : ℕ) (a : ShardFault) (b : Kept) (c : ShardFault) (d : Kept) → at < place + 1 → slice_get olds at ≡ Some a → slice_get kepts at ≡ Some b →
        ((at ≡ place) × (c ≡ new)) ⊎ ((at ≡ place → ⊥) × (slice_get news at ≡ Some c)) → ((at ≡ place) × (d ≡ told)) ⊎ ((at ≡ place → ⊥) × (slice_get tolds at ≡ Some d)) → IsSwapped a b c d
    go at a b c d within one two (inl this) (inl that) =
        let was : a ≡ own = same_Some a own (sym one ∙ (ap (slice_get olds) this.0 ∙ so.faults_stay place own (omega arith) read)) in
        let kept_was : b ≡ kept = same_Some b kept (sym two ∙ (ap (slice_get kepts) this.0 ∙ so.kept_stay place kept (omega arith) read_kept)) in
        subst (λ (x : ShardFault). IsSwapped x b c d) (sym was)
        (subst (λ (y : Kept). IsSwapped own y c d) (sym kept_was)
        (subst (λ (z : ShardFault). IsSwapped own kept z d) (sym this.1)
        (subst (λ (w : Kept). IsSwapped own kept new w) (sym that.1) swapped)))
    go at a b c d within one two (inl this) (inr that) = absurd (that.0 this.0)
    go at a b c d within one two (inr this) (inl that) = absurd (this.0 that.0)
    go at a b c d within one two (inr this) (inr that) = so.each at a b c d (elim (cases_lt at place) [
      | inl less ↦ less
      | inr past ↦ absurd (this.0 (omega (arith, past, within)))
    ]) one two this.1 that.1

pub swapped-all : (place : ℕ) (olds : List ShardFault) (kepts : List Kept) (news : List ShardFault) (tolds : List Kept) → SwappedTo place olds kepts news tolds → length olds ≤ place →
    AreSwapped olds kepts news tolds
swapped-all place olds kepts news tolds so past = record {
  count = so.count;
  kept_count = so.kept_count;
  each = λ at own kept new told one two three four.
      so.each at own kept new told (let low = slice_get_within olds at own one in omega (arith, low, past)) one two three four;
}

-- What strobes said

-- where they keep samples they said these
pub said-kept : (strobed : Strobed) → keeps (said_of strobed) ≡ true → said_of strobed ≡ Keeping (map sample_of (samples_of strobed))
said-kept (kinds.Judging possible) kept = cc
said-kept (kinds.Keeping differs) kept = refl

-- a fault stands by what strobes said of it, however its samples are kept
module _ (design : FlatDesign) (plan : TestPlan) (gone passed : ℕ) (own : ShardFault) (stands : IsShardFault design plan gone passed own) where
  by-said : (strobed : Strobed) → said_of strobed ≡ said_by own → IsShardFault design plan gone passed (record own { strobed = strobed })
  by-said strobed same = record {
    fault = stands.fault;
    listed = stands.listed;
    beside = subst (λ (said : Said). IsBesideAt design (plan_by (keeps said) plan) gone (beside_by design stands.fault own)) (sym same) stands.beside;
    full = λ end is. subst (IsFull design plan stands.fault (grade_of end)) (sym same) (stands.full end is);
    within = stands.within;
    goes_on = λ time e more none.
        let goes = stands.goes_on time e more none in
        record {
          runs_on = goes.runs_on;
          between = goes.between;
          time_is = goes.time_is;
          states = goes.states;
          so_far = subst (IsSaid (good_seen design plan) (faulty_seen design plan stands.fault) (take passed plan.strobes)) (sym same) goes.so_far;
        };
  }

  pub stands-by : (new : ShardFault) → new ≡ record own { strobed = new.strobed } → said_by new ≡ said_by own → IsShardFault design plan gone passed new
  stands-by new is same = subst (IsShardFault design plan gone passed) (sym is) (by-said new.strobed same)

  -- so it does without its samples, which are kept
  pub is-kept : (shown : ShardFault) (kept : Kept) → kept_by own ≡ true → said_by own ≡ said_in kept → shown ≡ record own { strobed = shown.strobed } → kept_by shown ≡ true →
      fault_number kept.fault ≡ own.copy.fault → kept.end ≡ end_kept own.end → (gone ≡ 0 → kept.differs ≡ []) → IsKeptFault design plan gone passed shown kept
  is-kept shown kept kind said is keeps_on number end_is none = record {
    fault = stands.fault;
    listed = ap (λ (x : ShardFault). slice_get plan.faults x.copy.fault) is ∙ stands.listed;
    kind = keeps_on;
    number = number ∙ sym (ap (λ (x : ShardFault). x.copy.fault) is);
    end_is = end_is ∙ sym (ap (λ (x : ShardFault). end_kept x.end) is);
    none_before = none;
    beside =
        subst (λ (x : ShardFault). IsBesideAt design (plan_by true plan) gone (beside_by design stands.fault x)) (sym is)
        (subst (λ (b : Bool). IsBesideAt design (plan_by b plan) gone (beside_by design stands.fault own)) kind stands.beside);
    full = λ end e. subst (IsFull design plan stands.fault (grade_of end)) said (stands.full end (sym (ap (λ (x : ShardFault). x.end) is) ∙ e));
    so_far = λ time e more open_now. subst (IsSaid (good_seen design plan) (faulty_seen design plan stands.fault) (take passed plan.strobes)) said (stands.goes_on time e more (sym (ap (λ (x : ShardFault). x.end) is) ∙ open_now)).so_far;
    stands = λ new has. stands-by new (has.stays ∙ ap (λ (x : ShardFault). record x { strobed = new.strobed }) is) (has.said ∙ sym said);
  }

-- Ends stay

any-same : (xs ys : List ShardFault) → AllZip (λ (x y : ShardFault). y.end ≡ x.end) xs ys → list_any is_open ys ≡ list_any is_open xs
any-same [] [] zip = refl
any-same [] (y ∷ ys) zip = absurd zip
any-same (x ∷ xs) [] zip = absurd zip
any-same (x ∷ xs) (y ∷ ys) zip =
    let rest = any-same xs ys zip.1 in
    λ i. not (is_some (zip.0 i)) || rest i

module _ (olds : List ShardFault) (kepts : List Kept) (news : List ShardFault) (tolds : List Kept) (swapped : AreSwapped olds kepts news tolds) (count : length kepts ≡ length olds) where
  -- at each place there is what was swapped
  pub each-swapped : (place : ℕ) (new : ShardFault) → slice_get news place ≡ Some new →
      (own : ShardFault) × (kept : Kept) × (told : Kept) × (slice_get olds place ≡ Some own) × (slice_get kepts place ≡ Some kept) × (slice_get tolds place ≡ Some told) × IsSwapped own kept new told
  each-swapped place new here =
      let low = slice_get_within news place new here in
      let own = there olds place (omega (arith, low, swapped.count)) in
      let kept = there kepts place (omega (arith, low, swapped.count, count)) in
      let told = there tolds place (omega (arith, low, swapped.count, count, swapped.kept_count)) in
      (own.0, kept.0, told.0, own.1, kept.1, told.1, swapped.each place own.0 kept.0 new told.0 own.1 kept.1 here told.1)

  pub ends-same : list_any is_open news ≡ list_any is_open olds
  ends-same =
      any-same olds news (zip-at (λ (x y : ShardFault). y.end ≡ x.end) olds news swapped.count (λ place x y one two.
      let at = each-swapped place y two in
      let same : at.0 ≡ x = same_Some at.0 x (sym at.3 ∙ one) in
      ap (λ (o : ShardFault). o.end) at.6.has.stays ∙ ap (λ (o : ShardFault). o.end) same))

-- A shard before a window and behind it

module _ (design : FlatDesign) (plan : TestPlan) (gone : ℕ) (reached : Reached) (olds : List ShardFault) (kepts : List Kept) (shard : IsKeeping design plan gone reached olds kepts)
    (news : List ShardFault) (tolds : List Kept) (swapped : AreSwapped olds kepts news tolds) where
  -- its faults stand with their samples
  pub all-stand : AllHold (IsShardFault design plan gone reached.passed) news
  all-stand = all-at (IsShardFault design plan gone reached.passed) news (λ place new here.
      let at = each-swapped olds kepts news tolds swapped shard.count place new here in
      (shard.each place at.0 at.1 at.3 at.4).stands new at.6.has)

  pub still-reaches : HasReachedIfOpen design plan gone reached news
  still-reaches some = shard.reaches (sym (ends-same olds kepts news tolds swapped shard.count) ∙ some)

  module _ (through : ℕ) (behind : Reached) (came : List ShardFault) (zip : AllZip (ComesThrough design plan through behind.passed) news came) where
    pub told-count : length tolds ≡ length came
    told-count =
        let a = swapped.kept_count in
        let b = shard.count in
        let c = swapped.count in
        let d = zip-length (ComesThrough design plan through behind.passed) news came zip in
        omega (arith, a, b, c, d)

  module _ (through : ℕ) (behind : Reached) (came : List ShardFault) (zip : AllZip (ComesThrough design plan through behind.passed) news came) (reaches : HasReachedIfOpen design plan through behind came)
      (some : 0 < through) (within : through ≤ length (good_slots design plan)) (lasts : List ShardFault) (ends : List Kept) (back : AreSwapped came tolds lasts ends) where
    counted : length tolds ≡ length came
    counted = told-count through behind came zip

    -- a fault that came through with its samples
    pub came-kept : (place : ℕ) (last : ShardFault) (end : Kept) → slice_get lasts place ≡ Some last → slice_get ends place ≡ Some end → IsKeptFault design plan through behind.passed last end
    came-kept place last end here there_kept =
        let at = each-swapped came tolds lasts ends back counted place last here in
        let own = zip-back (ComesThrough design plan through behind.passed) news came place at.0 zip at.3 in
        let was = each-swapped olds kepts news tolds swapped shard.count place own.0 own.1 in
        let kept = shard.each place was.0 was.1 was.3 was.4 in
        let told_same : was.2 ≡ at.1 = same_Some was.2 at.1 (sym was.5 ∙ at.4) in
        let end_same : at.2 ≡ end = same_Some at.2 end (sym at.5 ∙ there_kept) in
        let told_is : end ≡ record at.1 { differs = samples_of at.0.strobed; end = end_kept at.0.end } = sym end_same ∙ at.6.told_is in
        let kind : kept_by at.0 ≡ true = own.2.place.kind ∙ ap keeps was.6.has.said in
        let said : said_by at.0 ≡ said_in end = said-kept at.0.strobed kind ∙ sym (ap said_in told_is) in
        let number : fault_number end.fault ≡ at.0.copy.fault =
        ap (λ (k : Kept). fault_number k.fault) told_is
        ∙ (sym (ap (λ (k : Kept). fault_number k.fault) told_same) ∙ (ap (λ (k : Kept). fault_number k.fault) was.6.told_is
        ∙ (kept.number ∙ (sym (ap (λ (o : ShardFault). o.copy.fault) was.6.has.stays) ∙ sym own.2.place.number)))) in
        is-kept design plan through behind.passed at.0 own.2.stands last end kind said at.6.has.stays (ap keeps at.6.has.said) number (ap (λ (k : Kept). k.end) told_is)
        (λ none. absurd (omega (arith, none, some)))

    pub keeps-on : IsKeeping design plan through behind lasts ends
    keeps-on = record {
      rules = shard.rules;
      of_plan = shard.of_plan;
      within = within;
      count = (let a = back.count in let b = back.kept_count in let c = counted in omega (arith, a, b, c));
      reaches = λ open_now. reaches (sym (ends-same came tolds lasts ends back counted) ∙ open_now);
      each = came-kept;
    }

    -- the same faults
    pub numbers-same : (place : ℕ) (one other : Kept) → slice_get kepts place ≡ Some one → slice_get ends place ≡ Some other → fault_number other.fault ≡ fault_number one.fault
    numbers-same place one other here there_kept =
        let low = slice_get_within kepts place one here in
        let last = there lasts place (let a = back.count in let b = back.kept_count in let c = counted in let d = swapped.kept_count in omega (arith, low, a, b, c, d)) in
        let at = each-swapped came tolds lasts ends back counted place last.0 last.1 in
        let own = zip-back (ComesThrough design plan through behind.passed) news came place at.0 zip at.3 in
        let was = each-swapped olds kepts news tolds swapped shard.count place own.0 own.1 in
        ap (λ (k : Kept). fault_number k.fault) (same_Some other at.2 (sym there_kept ∙ at.5))
        ∙ (ap (λ (k : Kept). fault_number k.fault) at.6.told_is
        ∙ (ap (λ (k : Kept). fault_number k.fault) (same_Some at.1 was.2 (sym at.4 ∙ was.5))
        ∙ (ap (λ (k : Kept). fault_number k.fault) was.6.told_is ∙ ap (λ (k : Kept). fault_number k.fault) (same_Some was.1 one (sym was.4 ∙ here)))))

-- where nothing is left
pub none-left : (design : FlatDesign) (plan : TestPlan) (gone : ℕ) (reached : Reached) (olds faults : List ShardFault) (was kepts : List Kept) → IsKeeping design plan gone reached olds was → faults ≡ [] →
    kepts ≡ [] → IsKeeping design plan gone reached faults kepts
none-left design plan gone reached olds faults was kepts shard none also =
    subst (λ (l : List ShardFault). IsKeeping design plan gone reached l kepts) (sym none)
    (subst (IsKeeping design plan gone reached []) (sym also)
    (record {
      rules = shard.rules;
      of_plan = shard.of_plan;
      within = shard.within;
      count = refl;
      reaches = λ some. cc;
      each = λ place own kept here there_kept. cc;
    }))
