-- The own steps of faults whose samples are kept (steps by IEEE 1364-2001, clause 9; slots by clause 5).
use Rattle.std.proofs.Common.{◌≡◌, ℕ, zero, suc, ◌+◌, ◌<◌, ◌≤◌, List, [], ◌∷◌, true, false, length, refl, sym, ap, subst, ◌∙◌, inl, inr, arith}
use Rattle.std.specs.Prelude.{Option, None, Some, is_some, option_map, slice_get, sum_by}
use Rattle.std.specs.List.{AllZip, cons_option, sum}
use Rattle.std.proofs.lemmas.Bool.{true≢false}
use Rattle.std.proofs.lemmas.List.Sums.{sum_by-cons}
use Rattle.std.proofs.lemmas.Option.{same_Some, slice_get_within}
use Rattle.vf_base.specs.Base.{fault_number}
use Rattle.vf_base.specs.Lists.{AllHold}
use Rattle.vf_base.specs.declared.finding.End.{End}
use Rattle.v_design.specs.Designs.{FlatDesign, StuckAt, TestPlan}
use Rattle.v_design.specs.Plain.{grade_of}
use Rattle.v_design.specs.Runs.{FirstSlot}
use Rattle.v_design.specs.WellFormed.{KeepsRules}
use Rattle.kept_samples.specs.declared.kept.Kept.{Kept}
use Rattle.copy_laws.specs.Windows.{RiseAtMostOwn, good_slots, time_at}
use Rattle.own_gradings.specs.Laws.{GoOn, OwnStepsRise}
use Rattle.own_gradings.specs.Numbers.{OwnStepsOf, RisesOwn}
use Rattle.fault_strobes.specs.Said.{keeps, plan_by}
use Rattle.shard_windows.specs.copy_window.ShardFaults.{kept_by}
use Rattle.shard_windows.specs.copy_window.declared.fault.ShardFault.{ShardFault}
use Rattle.shard_windows.specs.window_faults.Steps.{steps_of_fault, steps_of_faults}
use Rattle.shard_windows.specs.window_faults.Within.{ComesThrough}
use Rattle.shard_windows.proofs.window_faults.Lists.{all-at, zip-back}
use Rattle.shard_windows.specs.window_strobes.Neighbours.{time-by}
use Rattle.shard_windows.specs.Reached.{HasReachedIfOpen}
use Rattle.shard_windows.specs.declared.reached.Reached.{Reached}
use Rattle.kept_shard.specs.Keeping.{KeepingShard, full_steps_at, kept_steps_of, numbers_of, open_in, open_kept, steps_of_kept}
use Rattle.kept_shard.specs.Kept.{AreSwapped, HasSamples, IsKeeping, IsKeptFault, end_kept}
use Rattle.kept_shard.proofs.Places.{same-sums, there}
use Rattle.kept_shard.proofs.Swapping.{came-kept, each-swapped, told-count}

-- a time comes behind a slot
no-time : (design : FlatDesign) (plan : TestPlan) (gone : ℕ) → time_at design plan gone ≡ None → gone ≡ 0
no-time design plan zero none = refl
no-time design plan (suc count) none = absurd (some-time (slice_get (good_slots design plan) (suc count)) (slice_get (good_slots design plan) count) none)
  where
    some-time : (next last : Option FirstSlot) → time-by plan next last ≡ None → ⊥
    some-time None last e = cc
    some-time (Some later) None e = cc
    some-time (Some later) (Some slot) e = cc

module _ (design : FlatDesign) (plan : TestPlan) (tally : OwnStepsOf design plan) (gone : ℕ) where
  -- One fault

  module _ (passed : ℕ) (own : ShardFault) (kept : Kept) (stands : IsKeptFault design plan gone passed own kept) where
    -- so far it takes no more than in all
    pub kept-within : OwnStepsRise → steps_of_kept tally gone kept ≤ full_steps_at tally (fault_number kept.fault)
    kept-within law = law.within design plan tally (fault_number kept.fault) stands.fault true gone (ap (slice_get plan.faults) stands.number ∙ stands.listed)

-- All faults of a shard

module _ (design : FlatDesign) (plan : TestPlan) (tally : OwnStepsOf design plan) (gone : ℕ) (reached : Reached) (faults : List ShardFault) (kepts : List Kept)
    (shard : IsKeeping design plan gone reached faults kepts) where
  pub all-within : OwnStepsRise → sum_by (steps_of_kept tally gone) kepts ≤ sum_by (full_steps_at tally) (numbers_of kepts)
  all-within law = go kepts (all-at (λ (kept : Kept). steps_of_kept tally gone kept ≤ full_steps_at tally (fault_number kept.fault)) kepts (λ place kept here.
      let own = there faults place (let low = slice_get_within kepts place kept here in omega (arith, low, shard.count)) in
      kept-within design plan tally gone reached.passed own.0 kept (shard.each place own.0 kept own.1 here) law))
    where
      go : (rest : List Kept) → AllHold (λ (kept : Kept). steps_of_kept tally gone kept ≤ full_steps_at tally (fault_number kept.fault)) rest →
          sum_by (steps_of_kept tally gone) rest ≤ sum_by (full_steps_at tally) (numbers_of rest)
      go [] all = omega arith
      go (kept ∷ rest) all =
          let one : steps_of_kept tally gone kept ≤ full_steps_at tally (fault_number kept.fault) = all.0 in
          let others : sum_by (steps_of_kept tally gone) rest ≤ sum_by (full_steps_at tally) (numbers_of rest) = go rest all.1 in
          let a : sum_by (steps_of_kept tally gone) (kept ∷ rest) ≡ steps_of_kept tally gone kept + sum_by (steps_of_kept tally gone) rest =
          sum_by-cons (steps_of_kept tally gone) kept rest in
          let b : sum_by (full_steps_at tally) (numbers_of (kept ∷ rest)) ≡ full_steps_at tally (fault_number kept.fault) + sum_by (full_steps_at tally) (numbers_of rest) =
          sum_by-cons (full_steps_at tally) (fault_number kept.fault) (numbers_of rest) in
          omega (arith, one, others, a, b)

  -- The faults whose machines go on

  module _ (law : OwnStepsRise) (until : ℕ) (low : gone ≤ until) where
    -- one whose machine stopped takes no more
    record Goes (kept : Kept) : Type 0 where
      fault : StuckAt
      listed : slice_get plan.faults (fault_number kept.fault) ≡ Some fault
      over : (end : End) → kept.end ≡ Some end → tally.steps (fault_number kept.fault) true until ≡ tally.steps (fault_number kept.fault) true gone

    goes-by : (own : ShardFault) (kept : Kept) → IsKeptFault design plan gone reached.passed own kept → Goes kept
    goes-by own kept stands = record {
      fault = stands.fault;
      listed = listed;
      over = λ end is. go (time_at design plan gone) refl (some-end own.end end (sym stands.end_is ∙ is));
    }
      where
        listed : slice_get plan.faults (fault_number kept.fault) ≡ Some stands.fault
        listed = ap (slice_get plan.faults) stands.number ∙ stands.listed

        some-end : (found : Option End) (end : End) → end_kept found ≡ Some end → is_some (option_map grade_of found) ≡ true
        some-end None end is = cc
        some-end (Some found) end is = refl

        go : (time : Option ℕ) → time_at design plan gone ≡ time → is_some (option_map grade_of own.end) ≡ true →
            tally.steps (fault_number kept.fault) true until ≡ tally.steps (fault_number kept.fault) true gone
        go None none some =
            let start = stands.beside.none_before (no-time design plan gone none) in
            let unsaid : is_some (option_map grade_of own.end) ≡ false = ap is_some start in
            absurd (true≢false (sym some ∙ unsaid))
        go (Some time) at some =
            law.over design plan tally (fault_number kept.fault) stands.fault true gone until time listed shard.rules low at ((stands.beside.found_where time at).0 some)

    pub open-go-on : GoOn design plan tally true gone until (numbers_of kepts) (open_in plan kepts)
    open-go-on = go kepts (all-at Goes kepts (λ place kept here.
        let own = there faults place (let low = slice_get_within kepts place kept here in omega (arith, low, shard.count)) in
        goes-by own.0 kept (shard.each place own.0 kept own.1 here)))
      where
        one : (kept : Kept) (rest : List Kept) (end : Option End) → kept.end ≡ end → Goes kept → GoOn design plan tally true gone until (numbers_of rest) (open_in plan rest) →
            GoOn design plan tally true gone until (numbers_of (kept ∷ rest)) (open_in plan (kept ∷ rest))
        one kept rest None is goes more =
            let found : open_kept plan kept ≡ Some goes.fault =
            ap (λ (e : Option End). elim e as (λ _. Option StuckAt) [ None ↦ slice_get plan.faults (fault_number kept.fault) | Some end ↦ None ]) is ∙ goes.listed in
            inr (goes.fault, open_in plan rest, ap (λ (o : Option StuckAt). cons_option o (open_in plan rest)) found, goes.listed, more)
        one kept rest (Some end) is goes more =
            let found : open_kept plan kept ≡ None =
            ap (λ (e : Option End). elim e as (λ _. Option StuckAt) [ None ↦ slice_get plan.faults (fault_number kept.fault) | Some ended ↦ None ]) is in
            inl (
              goes.over end is,
              subst (λ (l : List StuckAt). GoOn design plan tally true gone until (numbers_of rest) l) (sym (ap (λ (o : Option StuckAt). cons_option o (open_in plan rest)) found)) more,
            )

        go : (rest : List Kept) → AllHold Goes rest → GoOn design plan tally true gone until (numbers_of rest) (open_in plan rest)
        go [] all = tt
        go (kept ∷ rest) all = one kept rest kept.end refl all.0 (go rest all.1)

  module _ (news : List ShardFault) (tolds : List Kept) (swapped : AreSwapped faults kepts news tolds) where
    -- with its samples a fault takes the same
    with-samples : (own new : ShardFault) (kept : Kept) → IsKeptFault design plan gone reached.passed own kept → HasSamples kept own new → steps_of_fault tally gone new ≡ steps_of_kept tally gone kept
    with-samples own new kept stands has =
        let number : new.copy.fault ≡ fault_number kept.fault = ap (λ (x : ShardFault). x.copy.fault) has.stays ∙ sym stands.number in
        let kind : kept_by new ≡ true = ap keeps has.said in
        λ i. tally.steps (number i) (kind i) gone

    pub taken-before : steps_of_faults tally gone news ≡ sum_by (steps_of_kept tally gone) kepts
    taken-before = same-sums (steps_of_kept tally gone) (steps_of_fault tally gone) kepts news (let a = swapped.count in omega (arith, a, shard.count)) (λ place kept new here there_new.
        let at = each-swapped faults kepts news tolds swapped shard.count place new there_new in
        let same : at.1 ≡ kept = same_Some at.1 kept (sym at.4 ∙ here) in
        with-samples at.0 new at.1 (shard.each place at.0 at.1 at.3 at.4) at.6.has ∙ ap (steps_of_kept tally gone) same)

    module _ (through : ℕ) (behind : Reached) (came : List ShardFault) (zip : AllZip (ComesThrough design plan through behind.passed) news came) (reaches : HasReachedIfOpen design plan through behind came)
        (some : 0 < through) (within : through ≤ length (good_slots design plan)) (lasts : List ShardFault) (ends : List Kept) (back : AreSwapped came tolds lasts ends) where
      -- behind the window it has them still
      keeps-on : (place : ℕ) (own : ShardFault) → slice_get came place ≡ Some own → kept_by own ≡ true
      keeps-on place own here =
          let found = zip-back (ComesThrough design plan through behind.passed) news came place own zip here in
          let at = each-swapped faults kepts news tolds swapped shard.count place found.0 found.1 in
          found.2.place.kind ∙ ap keeps at.6.has.said

      pub taken-behind : sum_by (steps_of_kept tally through) ends ≡ steps_of_faults tally through came
      taken-behind =
          let count = told-count design plan gone reached faults kepts shard news tolds swapped through behind came zip in
          same-sums (steps_of_fault tally through) (steps_of_kept tally through) came ends (let b = back.kept_count in omega (arith, count, b)) (λ place own end here there_end.
          let last = there lasts place (let low = slice_get_within came place own here in let a = back.count in omega (arith, low, a)) in
          let at = each-swapped came tolds lasts ends back count place last.0 last.1 in
          let same : at.0 ≡ own = same_Some at.0 own (sym at.3 ∙ here) in
          let stands = came-kept design plan gone reached faults kepts shard news tolds swapped through behind came zip reaches some within lasts ends back place last.0 end last.1 there_end in
          let number : fault_number end.fault ≡ own.copy.fault = stands.number ∙ (ap (λ (x : ShardFault). x.copy.fault) at.6.has.stays ∙ ap (λ (x : ShardFault). x.copy.fault) same) in
          let kind : true ≡ kept_by own = sym (keeps-on place own here) in
          λ i. tally.steps (number i) (kind i) through)

-- A shard's counter rises by no more than the own steps of those that go on
pub rises-open : OwnStepsRise → (design : FlatDesign) (plan : TestPlan) → KeepsRules design → (old new : KeepingShard) (before after : ℕ) → old.gone ≤ new.gone →
    ((tally : OwnStepsOf design plan) → GoOn design plan tally true old.gone new.gone (numbers_of old.kept) (open_in plan old.kept)) → numbers_of new.kept ≡ numbers_of old.kept →
    RisesOwn design plan (λ tally. kept_steps_of tally old) (λ tally. kept_steps_of tally new) before after →
    RiseAtMostOwn design (plan_by true plan) old.gone new.gone (open_in plan old.kept) before after
rises-open law design plan rules old new before after low on numbers rises counts each =
    law.exist design plan after (before + sum counts)
    (λ tally. let most = rises tally in
    let more = law.go_on design plan tally true old.gone new.gone (numbers_of old.kept) (open_in plan old.kept) counts rules low (on tally) each in
    let same : sum_by (λ (number : ℕ). tally.steps number true new.gone) (numbers_of new.kept) ≡ sum_by (λ (number : ℕ). tally.steps number true new.gone) (numbers_of old.kept) =
    ap (sum_by (λ (number : ℕ). tally.steps number true new.gone)) numbers in
    let here = of-numbers tally old.gone old.kept in
    let there = of-numbers tally new.gone new.kept in
    omega (arith, most, same, more, here, there))
  where
    of-numbers : (tally : OwnStepsOf design plan) (gone : ℕ) (kepts : List Kept) →
        sum_by (λ (number : ℕ). tally.steps number true gone) (numbers_of kepts) ≡ sum_by (steps_of_kept tally gone) kepts
    of-numbers tally gone [] = refl
    of-numbers tally gone (kept ∷ kepts) =
        sum_by-cons (λ (number : ℕ). tally.steps number true gone) (fault_number kept.fault) (numbers_of kepts)
        ∙ (ap (λ n. steps_of_kept tally gone kept + n) (of-numbers tally gone kepts) ∙ sym (sum_by-cons (steps_of_kept tally gone) kept kepts))
