-- What is kept of a shard's faults is their full grades as far as they go (strobes by the plan; slots by IEEE 1364-2001, clause 5).
use Rattle.std.proofs.Common.{◌≡◌, ℕ, zero, suc, ◌<◌, ◌≤◌, Bool, true, false, List, [], ◌∷◌, length, map, take, drop, refl, sym, ap, subst, ◌∙◌, arith, inl, inr}
use Rattle.std.specs.Prelude.{Option, None, Some, is_some, not, ◌||◌, option_map, slice_get}
use Rattle.std.specs.List.{All, list_any}
use Rattle.std.proofs.lemmas.Bool.{cases_lt}
use Rattle.std.proofs.lemmas.List.{take-append-drop}
use Rattle.std.proofs.lemmas.List.Elements.{All-head, All-tail}
use Rattle.std.proofs.lemmas.Option.{same_Some, slice_get_within}
use Rattle.vf_base.specs.Base.{fault_number}
use Rattle.vf_base.specs.Lists.{AllHold}
use Rattle.vf_base.specs.declared.finding.End.{End}
use Rattle.vf_base.specs.declared.ids.FaultId.{FaultId}
use Rattle.v_design.specs.Designs.{FlatDesign, TestPlan}
use Rattle.v_design.specs.Grades.{samples_at}
use Rattle.v_design.specs.Plain.{grade_of}
use Rattle.v_design.specs.PlainDesigns.{plan_of}
use Rattle.v_design.specs.RulesHold.{plan_rules_hold}
use Rattle.v_design.specs.WellFormed.{IsPlan, KeepsRules}
use Rattle.v_design.specs.declared.plan.Plan.{Plan}
use Rattle.kept_samples.specs.Kept.{Keeps}
use Rattle.kept_samples.specs.declared.kept.Kept.{Kept}
use Rattle.copy_laws.specs.Windows.{HasEnded, good_slots, time_at}
use Rattle.grade_laws.specs.Grading.{faulty_seen}
use Rattle.beside_laws.specs.GoodRuns.{GoodRunGoesOn}
use Rattle.beside_laws.specs.Gradings.{HasNotEnded}
use Rattle.beside_laws.specs.Shards.{FaultsGoOn}
use Rattle.fault_strobes.specs.Reached.{FullGradesReach, KeepsTo, full_grade_to}
use Rattle.fault_strobes.specs.Said.{Judging, Keeping, Said, SaysNothing, keeps, plan_by}
use Rattle.fault_strobes.specs.Strobes.{StrobedGradingsGoOn}
use Rattle.shard_windows.specs.copy_window.declared.fault.ShardFault.{ShardFault}
use Rattle.shard_windows.specs.window_strobes.Passed.{HasPassed}
use Rattle.shard_windows.proofs.window_faults.Lists.{all-at}
use Rattle.shard_windows.specs.Fresh.{IsFresh}
use Rattle.shard_windows.specs.Reached.{is_open}
use Rattle.shard_windows.specs.declared.reached.Reached.{Reached}
use Rattle.shard_windows.proofs.Beginning.{AreFresh, fresh-stands, none-reached, reached_at_start}
use Rattle.kept_shard.specs.Keeping.{KeepingShard, KeptStands, KeptWhole, fresh_keeping, fresh_kept}
use Rattle.kept_shard.specs.Kept.{IsKeeping, IsKeptFault, end_kept, said_in}
use Rattle.kept_shard.proofs.Ends.{at-end, full-end, goes-past, none-found, some-found}
use Rattle.kept_shard.proofs.Places.{there}
use Rattle.kept_shard.proofs.Swapping.{is-kept}

-- One fault

module _ (run : GoodRunGoesOn) (goes : StrobedGradingsGoOn) (reach : FullGradesReach) (design : FlatDesign) (plan : TestPlan) (rules : KeepsRules design) (of_plan : IsPlan plan) (gone passed : ℕ)
    (within : gone ≤ length (good_slots design plan)) (own : ShardFault) (kept : Kept) (stands : IsKeptFault design plan gone passed own kept)
    (has : own.end ≡ None → gone < length (good_slots design plan) → HasPassed design plan gone passed) where
  listed-by : slice_get plan.faults (fault_number kept.fault) ≡ Some stands.fault
  listed-by = ap (slice_get plan.faults) stands.number ∙ stands.listed

  -- where its grading ended the full grade is kept
  keeps-full : (end : End) → own.end ≡ Some end → Keeps design plan stands.fault kept
  keeps-full end is =
      let full = stands.full end is in
      (full.full, full.full_is, record { end = ap (option_map grade_of) (stands.end_is ∙ ap end_kept is) ∙ (full-end end ∙ sym full.end_is); differs = full.differs_are })

  -- as long as more slots come
  early : (time : ℕ) → time_at design plan gone ≡ Some time → gone < length (good_slots design plan) → (end : Option End) → own.end ≡ end → KeepsTo design plan stands.fault time kept
  early time e more None none =
      let here = has none more in
      let past = goes-past run design plan rules gone time e more in
      let not_ended : HasNotEnded design (plan_by true plan) stands.fault time = λ ended.
      (let some : is_some (option_map grade_of own.end) ≡ true = (stands.beside.found_where time e).1 ended in
      let no : is_some (option_map grade_of own.end) ≡ false = ap (λ (x : Option End). is_some (option_map grade_of x)) none in
      cc) in
      let strobes = sym (take-append-drop passed plan.strobes) in
      let going = goes.again design plan stands.fault time (take passed plan.strobes) (drop passed plan.strobes) (said_in kept) not_ended strobes (here.early time e more) (here.later time e more)
      (stands.so_far time e more none) in (
        record { end = None; samples = samples_at (faulty_seen design plan stands.fault) (take passed plan.strobes) },
        reach.is_open design plan stands.fault time (take passed plan.strobes) (drop passed plan.strobes) past.1 going.faulty strobes (here.early time e more) (here.later time e more),
        record { end = ap (option_map grade_of) (stands.end_is ∙ ap end_kept none); differs = stands.so_far time e more none },
      )
  early time e more (Some end) is =
      let past = goes-past run design plan rules gone time e more in
      let ended : HasEnded design (plan_by true plan) stands.fault time = (stands.beside.found_where time e).0 (ap (λ (x : Option End). is_some (option_map grade_of x)) is) in
      let full = keeps-full end is in
      (full.0, reach.ended design plan stands.fault time past.1 past.0 ended ∙ full.1, full.2)

  whole-there : length (good_slots design plan) ≡ gone → Keeps design plan stands.fault kept
  whole-there all = (let found = some-found own.end (stands.beside.all_at_end all) in keeps-full found.0 found.1)

  pub kept-stands : KeptStands design plan gone kept
  kept-stands = record {
    fault = stands.fault;
    listed = listed-by;
    none_before = λ zero. (stands.end_is ∙ ap end_kept (none-found own.end (stands.beside.none_before zero)), stands.none_before zero);
    to = λ time e. elim (cases_lt gone (length (good_slots design plan))) [
      | inl more ↦ early time e more own.end refl
      | inr all ↦
          let full = whole-there (omega (arith, within, all)) in
          let same = at-end run design plan rules gone time e all in
          (full.0, ap (full_grade_to design plan stands.fault) same ∙ (reach.whole design plan stands.fault rules of_plan ∙ full.1), full.2)
    ];
  }

  pub kept-whole : length (good_slots design plan) ≡ gone → KeptWhole design plan kept
  kept-whole all = record { fault = stands.fault; listed = listed-by; keeps = whole-there all }

-- All faults of a shard

any-open : (faults : List ShardFault) (place : ℕ) (own : ShardFault) → slice_get faults place ≡ Some own → own.end ≡ None → list_any is_open faults ≡ true
any-open [] place own here none = cc
any-open (first ∷ faults) zero own here none = left (is_some first.end) (list_any is_open faults) (ap (λ (x : ShardFault). is_some x.end) (same_Some first own here) ∙ ap is_some none)
  where
    left : (a b : Bool) → a ≡ false → (not a || b) ≡ true
    left true b e = cc
    left false b e = refl
any-open (first ∷ faults) (suc place) own here none = right (not (is_some first.end)) (list_any is_open faults) (any-open faults place own here none)
  where
    right : (a b : Bool) → b ≡ true → (a || b) ≡ true
    right true b e = refl
    right false b e = e

module _ (run : GoodRunGoesOn) (goes : StrobedGradingsGoOn) (reach : FullGradesReach) (design : FlatDesign) (plan : TestPlan) (gone : ℕ) (reached : Reached) (faults : List ShardFault) (kepts : List Kept)
    (shard : IsKeeping design plan gone reached faults kepts) where
  passed-there : (place : ℕ) (own : ShardFault) → slice_get faults place ≡ Some own → own.end ≡ None → gone < length (good_slots design plan) → HasPassed design plan gone reached.passed
  passed-there place own here none more = (shard.reaches (any-open faults place own here none)).passed

  pub all-kept : AllHold (KeptStands design plan gone) kepts
  all-kept = all-at (KeptStands design plan gone) kepts (λ place kept here.
      let own = there faults place (let low = slice_get_within kepts place kept here in omega (arith, low, shard.count)) in
      kept-stands run goes reach design plan shard.rules shard.of_plan gone reached.passed shard.within own.0 kept (shard.each place own.0 kept own.1 here) (passed-there place own.0 own.1))

  pub all-whole : length (good_slots design plan) ≡ gone → AllHold (KeptWhole design plan) kepts
  all-whole all = all-at (KeptWhole design plan) kepts (λ place kept here.
      let own = there faults place (let low = slice_get_within kepts place kept here in omega (arith, low, shard.count)) in
      kept-whole run goes reach design plan shard.rules shard.of_plan gone reached.passed shard.within own.0 kept (shard.each place own.0 kept own.1 here) (passed-there place own.0 own.1) all)

-- Before the first slot

nothing-kept : (said : Said) → SaysNothing said → keeps said ≡ true → said ≡ Keeping []
nothing-kept (Judging possible) nothing kept = cc
nothing-kept (Keeping differs) nothing kept = ap Keeping nothing

-- what holds of each fresh fault and of nothing kept holds place by place
fresh-at : (Stands : ShardFault → Kept → Type 0) (count : ℕ) → ((number : ℕ) (own : ShardFault) → IsFresh true number own → number < count → Stands own (fresh_kept number)) →
    (numbers : List FaultId) (faults : List ShardFault) → All (λ number. number < count) (map fault_number numbers) → AreFresh true numbers faults →
    (place : ℕ) (own : ShardFault) (kept : Kept) → slice_get faults place ≡ Some own → slice_get (map fresh_kept (map fault_number numbers)) place ≡ Some kept → Stands own kept
fresh-at Stands count each [] [] all zip place own kept here also = cc
fresh-at Stands count each [] (first ∷ faults) all zip place own kept here also = absurd zip
fresh-at Stands count each (number ∷ numbers) [] all zip place own kept here also = absurd zip
fresh-at Stands count each (number ∷ numbers) (first ∷ faults) all zip zero own kept here also =
    subst (λ (x : ShardFault). Stands x kept) (same_Some first own here)
    (subst (Stands first) (same_Some (fresh_kept (fault_number number)) kept also)
    (each (fault_number number) first zip.0 (All-head (λ n. n < count) (fault_number number) (map fault_number numbers) all)))
fresh-at Stands count each (number ∷ numbers) (first ∷ faults) all zip (suc place) own kept here also =
    fresh-at Stands count each numbers faults (All-tail (λ n. n < count) (fault_number number) (map fault_number numbers) all) zip.1 place own kept here also

module _ (law : FaultsGoOn) (design : FlatDesign) (plan : TestPlan) (rules : KeepsRules design) where
  fresh-is : (number : ℕ) (own : ShardFault) → IsFresh true number own → number < length plan.faults → IsKeptFault design plan 0 0 own (fresh_kept number)
  fresh-is number own fresh low =
      is-kept design plan 0 0 own (fresh-stands law design plan rules true number own fresh low) own (fresh_kept number) fresh.kind (nothing-kept _ fresh.nothing fresh.kind) refl fresh.kind
      (sym (ap (λ k. k.fault) fresh.copy)) (sym (ap end_kept fresh.end)) (λ none. refl)

  fresh-count : (numbers : List FaultId) (faults : List ShardFault) → AreFresh true numbers faults → length (map fresh_kept (map fault_number numbers)) ≡ length faults
  fresh-count [] [] zip = refl
  fresh-count [] (first ∷ faults) zip = absurd zip
  fresh-count (number ∷ numbers) [] zip = absurd zip
  fresh-count (number ∷ numbers) (first ∷ faults) zip = ap suc (fresh-count numbers faults zip.1)

  pub is-keeping : (of_plan : IsPlan plan) (numbers : List FaultId) (faults : List ShardFault) → All (λ number. number < length plan.faults) (map fault_number numbers) → AreFresh true numbers faults →
      IsKeeping design plan 0 reached_at_start faults (map fresh_kept (map fault_number numbers))
  is-keeping of_plan numbers faults all zip = record {
    rules = rules;
    of_plan = of_plan;
    within = omega arith;
    count = fresh-count numbers faults zip;
    reaches = λ some. none-reached design plan;
    each = fresh-at (IsKeptFault design plan 0 0) (length plan.faults) fresh-is numbers faults all zip;
  }

-- a plan keeps the rules
pub of-plan : (plan : TestPlan) (kept : Plan) → plan ≡ plan_of kept → IsPlan plan
of-plan plan kept is = subst IsPlan (sym is) (plan_rules_hold (plan_of kept) kept.rules)

abbrev keeping-of : List Kept → KeepingShard
keeping-of kept = record { gone = 0; kept = kept }

-- what contracts see before the first slot
pub keeping-seen : (numbers : List FaultId) (kept : List Kept) → kept ≡ map fresh_kept (map fault_number numbers) → keeping-of kept ≡ fresh_keeping (map fault_number numbers)
keeping-seen numbers kept are = ap keeping-of are
