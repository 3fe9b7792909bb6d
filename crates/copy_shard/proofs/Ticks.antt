-- The own steps of a shard's faults through a window (steps by IEEE 1364-2001, clause 9; slots by clause 5).
use Rattle.std.proofs.Common.{◌≡◌, ℕ, zero, suc, ◌+◌, ◌≤◌, Bool, true, false, List, [], ◌∷◌, map, refl, sym, ap, subst, ◌∙◌, inl, inr, arith}
use Rattle.std.proofs.lemmas.Bool.{true≢false}
use Rattle.std.specs.Prelude.{Option, Some, None, is_some, option_map, slice_get, sum_by}
use Rattle.std.specs.List.{cons_option, sum}
use Rattle.std.proofs.lemmas.List.Sums.{sum_by-cons}
use Rattle.vf_base.specs.Lists.{AllHold}
use Rattle.vf_base.specs.declared.finding.End.{End}
use Rattle.v_design.specs.Designs.{FlatDesign, StuckAt, TestPlan}
use Rattle.v_design.specs.Plain.{grade_of}
use Rattle.v_design.specs.Runs.{FirstSlot}
use Rattle.v_design.specs.WellFormed.{KeepsRules}
use Rattle.copy_laws.specs.Windows.{RiseAtMostOwn, good_slots, time_at}
use Rattle.own_gradings.specs.Laws.{GoOn, OwnStepsRise}
use Rattle.own_gradings.specs.Numbers.{OwnStepsOf, RisesOwn}
use Rattle.shard_windows.specs.graded_steps.Behind.{RisesWithin}
use Rattle.shard_windows.specs.window_strobes.Neighbours.{time-by}
use Rattle.shard_windows.specs.copy_window.ShardFaults.{kept_by}
use Rattle.shard_windows.specs.copy_window.declared.fault.ShardFault.{ShardFault}
use Rattle.shard_windows.specs.window_faults.Steps.{steps_of_fault, steps_of_faults}
use Rattle.copy_shard.specs.Kept.{fault_kept}
use Rattle.copy_shard.specs.Shards.{FaultKept, FaultStands, ShardKept, fault_steps_at, kept_steps, open_fault, open_in, places_of, shard_steps}

-- all are judged by the strobes
abbrev pub AreJudged : List ShardFault → Type 0
AreJudged faults = AllHold (λ (own : ShardFault). kept_by own ≡ false) faults

module _ {design : FlatDesign} {plan : TestPlan} (tally : OwnStepsOf design plan) where
  -- what contracts see of judged faults takes the same
  pub sum_by-seen : (gone : ℕ) (faults : List ShardFault) → AreJudged faults → sum_by (kept_steps tally gone) (map fault_kept faults) ≡ steps_of_faults tally gone faults
  sum_by-seen gone [] judged = refl
  sum_by-seen gone (own ∷ faults) judged =
      let one : steps_of_fault tally gone own ≡ kept_steps tally gone (fault_kept own) = ap (λ (k : Bool). tally.steps own.copy.fault k gone) judged.0 in
      let rest = sum_by-seen gone faults judged.1 in
      let a = sum_by-cons (kept_steps tally gone) (fault_kept own) (map fault_kept faults) in
      let b : steps_of_faults tally gone (own ∷ faults) ≡ steps_of_fault tally gone own + steps_of_faults tally gone faults = sum_by-cons (steps_of_fault tally gone) own faults in
      omega (arith, one, rest, a, b)

  -- they are of the places alone
  pub of-places : (gone : ℕ) (faults : List FaultKept) → sum_by (λ (number : ℕ). tally.steps number false gone) (places_of faults) ≡ sum_by (kept_steps tally gone) faults
  of-places gone [] = refl
  of-places gone (kept ∷ faults) =
      sum_by-cons (λ (number : ℕ). tally.steps number false gone) kept.copy.fault (places_of faults)
      ∙ (ap (λ n. kept_steps tally gone kept + n) (of-places gone faults) ∙ sym (sum_by-cons (kept_steps tally gone) kept faults))

  pub same-sums : (gone : ℕ) (olds news : List FaultKept) → places_of news ≡ places_of olds → sum_by (kept_steps tally gone) news ≡ sum_by (kept_steps tally gone) olds
  same-sums gone olds news same = sym (of-places gone news) ∙ (ap (sum_by (λ (number : ℕ). tally.steps number false gone)) same ∙ of-places gone olds)

  -- a shard goes through a window
  pub shard-rises : (gone before through ends : ℕ) (kept : ShardKept) (faults old new : List ShardFault) (one other : ℕ) → record { gone = gone; faults = map fault_kept faults } ≡ kept →
      before ≡ kept.gone → ends ≡ through → old ≡ faults → AreJudged faults → AreJudged new → RisesWithin (steps_of_faults tally before old) (steps_of_faults tally through new) one other →
      RisesWithin (shard_steps tally kept) (shard_steps tally (record { gone = ends; faults = map fault_kept new })) one other
  shard-rises gone before through ends kept faults old new one other view at number same judged still rises =
      let a : shard_steps tally kept ≡ steps_of_faults tally before old =
      sym (ap (shard_steps tally) view) ∙ (sum_by-seen gone faults judged
      ∙ (λ i. steps_of_faults tally ((ap (λ (k : ShardKept). k.gone) view ∙ sym at) i) (sym same i))) in
      let b : shard_steps tally (record { gone = ends; faults = map fault_kept new }) ≡ steps_of_faults tally through new =
      sum_by-seen ends new still ∙ ap (λ n. steps_of_faults tally n new) number in
      omega (arith, a, b, rises)

-- so far they take no more than in all
pub all-within : OwnStepsRise → (design : FlatDesign) (plan : TestPlan) (tally : OwnStepsOf design plan) (gone : ℕ) (faults : List FaultKept) → AllHold (FaultStands design plan gone) faults →
    sum_by (kept_steps tally gone) faults ≤ sum_by (fault_steps_at tally) (places_of faults)
all-within law design plan tally gone [] all = omega arith
all-within law design plan tally gone (kept ∷ faults) all =
    let rest : sum_by (kept_steps tally gone) faults ≤ sum_by (fault_steps_at tally) (places_of faults) = all-within law design plan tally gone faults all.1 in
    let a : sum_by (kept_steps tally gone) (kept ∷ faults) ≡ kept_steps tally gone kept + sum_by (kept_steps tally gone) faults = sum_by-cons (kept_steps tally gone) kept faults in
    let b : sum_by (fault_steps_at tally) (places_of (kept ∷ faults)) ≡ fault_steps_at tally kept.copy.fault + sum_by (fault_steps_at tally) (places_of faults) =
    sum_by-cons (fault_steps_at tally) kept.copy.fault (places_of faults) in
    let one : kept_steps tally gone kept ≤ fault_steps_at tally kept.copy.fault = law.within design plan tally kept.copy.fault all.0.fault false gone all.0.listed in
    omega (arith, rest, a, b, one)

-- The faults whose gradings go on

-- a time comes behind a slot
no-time : (design : FlatDesign) (plan : TestPlan) (gone : ℕ) → time_at design plan gone ≡ None → gone ≡ 0
no-time design plan zero none = refl
no-time design plan (suc count) none = absurd (some-time (slice_get (good_slots design plan) (suc count)) (slice_get (good_slots design plan) count) none)
  where
    some-time : (next last : Option FirstSlot) → time-by plan next last ≡ None → ⊥
    some-time None last e = cc
    some-time (Some later) None e = cc
    some-time (Some later) (Some slot) e = cc

module _ (law : OwnStepsRise) (design : FlatDesign) (plan : TestPlan) (rules : KeepsRules design) (tally : OwnStepsOf design plan) (from until : ℕ) (low : from ≤ until) where
  -- one whose grading ended takes no more
  ended-steps : (kept : FaultKept) (end : End) → kept.end ≡ Some end → FaultStands design plan from kept → kept_steps tally until kept ≡ kept_steps tally from kept
  ended-steps kept end is stands = go (time_at design plan from) refl
    where
      some : is_some (option_map grade_of kept.end) ≡ true
      some = ap (λ (e : Option End). is_some (option_map grade_of e)) is

      go : (time : Option ℕ) → time_at design plan from ≡ time → kept_steps tally until kept ≡ kept_steps tally from kept
      go None none =
          let start = stands.beside.none_before (no-time design plan from none) in
          let unsaid : is_some (option_map grade_of kept.end) ≡ false = ap is_some start in
          absurd (true≢false (sym some ∙ unsaid))
      go (Some time) at =
          law.over design plan tally kept.copy.fault stands.fault false from until time stands.listed rules low at ((stands.beside.found_where time at).0 some)

  -- so these are those that go on
  pub open-go-on : (faults : List FaultKept) → AllHold (FaultStands design plan from) faults → GoOn design plan tally false from until (places_of faults) (open_in plan faults)
  open-go-on [] all = tt
  open-go-on (kept ∷ faults) all = go kept.end refl (open-go-on faults all.1)
    where
      go : (end : Option End) → kept.end ≡ end → GoOn design plan tally false from until (places_of faults) (open_in plan faults) →
          GoOn design plan tally false from until (places_of (kept ∷ faults)) (open_in plan (kept ∷ faults))
      go None is rest =
          let found : open_fault plan kept ≡ Some all.0.fault =
          ap (λ (e : Option End). elim e as (λ _. Option StuckAt) [ None ↦ slice_get plan.faults kept.copy.fault | Some end ↦ None ]) is ∙ all.0.listed in
          inr (all.0.fault, open_in plan faults, ap (λ (o : Option StuckAt). cons_option o (open_in plan faults)) found, all.0.listed, rest)
      go (Some end) is rest =
          let found : open_fault plan kept ≡ None =
          ap (λ (e : Option End). elim e as (λ _. Option StuckAt) [ None ↦ slice_get plan.faults kept.copy.fault | Some ended ↦ None ]) is in
          inl (
            ended-steps kept end is all.0,
            subst (λ (l : List StuckAt). GoOn design plan tally false from until (places_of faults) l) (sym (ap (λ (o : Option StuckAt). cons_option o (open_in plan faults)) found)) rest,
          )

-- so a shard's counter rises by no more than their own steps
pub rises-open : OwnStepsRise → (design : FlatDesign) (plan : TestPlan) → KeepsRules design → (old new : ShardKept) (before after : ℕ) → old.gone ≤ new.gone →
    AllHold (FaultStands design plan old.gone) old.faults → places_of new.faults ≡ places_of old.faults →
    RisesOwn design plan (λ tally. shard_steps tally old) (λ tally. shard_steps tally new) before after →
    RiseAtMostOwn design plan old.gone new.gone (open_in plan old.faults) before after
rises-open law design plan rules old new before after low stand places rises counts each =
    law.exist design plan after (before + sum counts)
    (λ tally. let most = rises tally in
    let same = same-sums tally new.gone old.faults new.faults places in
    let more = law.go_on design plan tally false old.gone new.gone (places_of old.faults) (open_in plan old.faults) counts rules low
    (open-go-on law design plan rules tally old.gone new.gone low old.faults stand) each in
    let here = of-places tally old.gone old.faults in
    let there = of-places tally new.gone old.faults in
    omega (arith, most, same, more, here, there))
