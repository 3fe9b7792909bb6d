-- Strobes of a plan, one after the other, before one slot (strobes by the plan).
use Rattle.std.proofs.Common.{◌≡◌, ℕ, zero, suc, Bool, true, false, ◌+◌, ◌-◌, ◌<◌, ◌≤◌, List, ◌∷◌, [], ◌++◌, length, map, take, drop, get_or, append_assoc, append-nil, refl, sym, ap, subst, ◌∙◌, arith}
use Rattle.std.specs.Prelude.{Option, Some, None, cond, not, slice_get}
use Rattle.four_value.specs.Values.{same_value}
use Rattle.four_value.specs.declared.logic.Bit.{Bit}
use Rattle.v_design.specs.Designs.{FlatDesign, StuckAt, TestPlan}
use Rattle.v_design.specs.Grades.{Sample, is_hard, is_possible, samples, some_sample}
use Rattle.v_design.specs.States.{State}
use Rattle.v_design.specs.WellFormed.{IsPlan, KeepsRules}
use Rattle.strobe_detect.specs.Firsts.{first_time}
use Rattle.between_slots.specs.Between.{state_through}
use Rattle.copy_laws.specs.Differences.{Differences}
use Rattle.copy_state.specs.Kept.{CopyKept}
use Rattle.copy_overlay.specs.Faulty.{faulty_values}
use Rattle.lockstep_shards.specs.copy_window.Copies.{differences_in}
use Rattle.fault_strobes.specs.Said.{Said, Judging, Keeping, ends_there, said_at}
use Rattle.fault_strobes.specs.Strobes.{StrobesGoOn}
use Rattle.lockstep_shards.specs.Shards.{AreSeenAt, ShardsGoInLockstep}
use Rattle.kept_samples.specs.Plain.{differing}
use Rattle.slot_strobes.specs.Counts.{AllBetween, samples_of}
use Rattle.slot_strobes.specs.Strobes.{IsFoundAt, IsGradingBehind, StandsBeforeSlot}
use Rattle.slot_strobes.proofs.Lists.{at-read, drop-at, take-at}

-- a time that stands behind a strobe stays at others that see the same
stays : (possible : Option ℕ) (counts : Bool) (strobe time : ℕ) → first_time (first_time possible counts strobe) counts time ≡ first_time possible counts strobe
stays (Some first) counts strobe time = refl
stays None true strobe time = refl
stays None false strobe time = refl

module _ (law : ShardsGoInLockstep) (design : FlatDesign) (plan : TestPlan) (rules : KeepsRules design) (of_plan : IsPlan plan) (fault : StuckAt) (kept : CopyKept) (gone : ℕ) where
  abbrev d : Differences
  d = differences_in design kept

  -- the bits of both machines before the slot
  abbrev pub good : List Bit
  good = samples plan.watched (state_through design plan gone).values

  abbrev pub own : List Bit
  own = samples plan.watched (faulty_values (state_through design plan gone).values kept.values)

  seen-at : (strobe : ℕ) → StandsBeforeSlot design plan fault d gone strobe → AreSeenAt design plan d strobe good own
  seen-at strobe stands = record {
    good_is = ap (λ (s : State). samples plan.watched s.values) (sym stands.state_is);
    faulty_is = ap (λ (s : State). samples plan.watched (faulty_values s.values kept.values)) (sym stands.state_is);
  }

  next-strobe : (place strobe : ℕ) (said : Said) → slice_get plan.strobes place ≡ Some strobe → (grading : IsGradingBehind design plan fault place said) →
      StrobesGoOn design plan fault grading.now (take place plan.strobes) (strobe ∷ drop (suc place) plan.strobes) said
  next-strobe place strobe said here grading =
      subst (λ (l : List ℕ). StrobesGoOn design plan fault grading.now (take place plan.strobes) l said) (drop-at plan.strobes place strobe here) grading.goes

  -- the first strobe finds the fault
  pub found-first : (first end strobe : ℕ) (possible : Option ℕ) → first < end → slice_get plan.strobes first ≡ Some strobe → StandsBeforeSlot design plan fault d gone strobe →
      IsGradingBehind design plan fault first (Judging possible) → some_sample is_hard good own ≡ true →
      IsFoundAt design plan fault first end strobe (said_at strobe good own (Judging possible))
  found-first first end strobe possible before here stands grading hard = record {
    place = first;
    since = omega arith;
    before = before;
    at = here;
    ends = law.finds design plan fault grading.now (take first plan.strobes) (drop (suc first) plan.strobes) d strobe (Judging possible) (said_at strobe good own (Judging possible)) good own rules
        (next-strobe first strobe (Judging possible) here grading) stands.stands (seen-at strobe stands) hard refl;
  }

  -- a strobe ends nothing
  seen-more : (place strobe : ℕ) (said : Said) → slice_get plan.strobes place ≡ Some strobe → StandsBeforeSlot design plan fault d gone strobe → ends_there good own said ≡ false →
      IsGradingBehind design plan fault place said → IsGradingBehind design plan fault (place + 1) (said_at strobe good own said)
  seen-more place strobe said here stands none grading =
      let next : suc place ≡ place + 1 = omega arith in
      let then : Said = said_at strobe good own said in
      subst (λ n. IsGradingBehind design plan fault n then) next (record {
        now = Some strobe;
        goes = subst (λ (l : List ℕ). StrobesGoOn design plan fault (Some strobe) l (drop (suc place) plan.strobes) then) (sym (take-at plan.strobes place strobe here))
            (law.sees design plan fault grading.now (take place plan.strobes) (drop (suc place) plan.strobes) d strobe said then good own rules of_plan
            (next-strobe place strobe said here grading) stands.stands (seen-at strobe stands) none refl);
      })

  -- or none does
  module _ (none : some_sample is_hard good own ≡ false) where
    seen-rest : (count place : ℕ) (possible : Option ℕ) → ((time : ℕ) → first_time possible (some_sample is_possible good own) time ≡ possible) → place + count ≤ length plan.strobes →
        AllBetween plan.strobes place (place + count) (StandsBeforeSlot design plan fault d gone) → IsGradingBehind design plan fault place (Judging possible) →
        IsGradingBehind design plan fault (place + count) (Judging possible)
    seen-rest zero place possible same within stands grading = let all : place ≡ place + 0 = omega arith in subst (λ n. IsGradingBehind design plan fault n (Judging possible)) all grading
    seen-rest (suc count) place possible same within stands grading =
        let next : ℕ = get_or plan.strobes place 0 in
        let there : slice_get plan.strobes place ≡ Some next = at-read plan.strobes place (omega (arith, within)) in
        let all : (place + 1) + count ≡ place + suc count = omega arith in
        subst (λ n. IsGradingBehind design plan fault n (Judging possible)) all
        (seen-rest count (place + 1) possible same (omega (arith, within)) (λ other strobe low before here. stands other strobe (omega (arith, low)) (omega (arith, before)) here)
        (subst (λ (o : Option ℕ). IsGradingBehind design plan fault (place + 1) (Judging o)) (same next)
        (seen-more place next (Judging possible) there (stands place next (omega arith) (omega arith) there) none grading)))

    pub none-found : (first end strobe : ℕ) (possible then : Option ℕ) → first < end → end ≤ length plan.strobes → AllBetween plan.strobes first end (StandsBeforeSlot design plan fault d gone) →
        slice_get plan.strobes first ≡ Some strobe → IsGradingBehind design plan fault first (Judging possible) → then ≡ first_time possible (some_sample is_possible good own) strobe →
        IsGradingBehind design plan fault end (Judging then)
    none-found first end strobe possible then low within stands here grading is =
        let all : (first + 1) + (end - (first + 1)) ≡ end = omega (arith, low) in
        subst (λ n. IsGradingBehind design plan fault n (Judging then)) all
        (subst (λ (o : Option ℕ). IsGradingBehind design plan fault ((first + 1) + (end - (first + 1))) (Judging o)) (sym is)
        (seen-rest (end - (first + 1)) (first + 1) (first_time possible (some_sample is_possible good own) strobe)
        (stays possible (some_sample is_possible good own) strobe) (omega (arith, all, within))
        (λ other time since before there. stands other time (omega (arith, since)) (omega (arith, before, all)) there)
        (seen-more first strobe (Judging possible) here (stands first strobe (omega arith) low here) none grading)))

  -- Samples are kept

  abbrev kept-of : List ℕ → List Sample
  kept-of strobes = differing (λ at. good) (samples_of own strobes)

  kept-cons : (strobe : ℕ) (strobes : List ℕ) → kept-of (strobe ∷ []) ++ kept-of strobes ≡ kept-of (strobe ∷ strobes)
  kept-cons strobe strobes = go (same_value own good)
    where
      go : (b : Bool) → cond (not b) (record { time = strobe; bits = own } ∷ []) [] ++ kept-of strobes ≡ cond (not b) (record { time = strobe; bits = own } ∷ kept-of strobes) (kept-of strobes)
      go true = refl
      go false = refl

  keep-each : (count place : ℕ) (differs : List Sample) → place + count ≤ length plan.strobes →
      AllBetween plan.strobes place (place + count) (StandsBeforeSlot design plan fault d gone) → IsGradingBehind design plan fault place (Keeping differs) →
      IsGradingBehind design plan fault (place + count) (Keeping (differs ++ kept-of (take count (drop place plan.strobes))))
  keep-each zero place differs within stands grading =
      let all : place ≡ place + 0 = omega arith in
      subst (λ (l : List Sample). IsGradingBehind design plan fault (place + 0) (Keeping l)) (sym (append-nil differs))
      (subst (λ n. IsGradingBehind design plan fault n (Keeping differs)) all grading)
  keep-each (suc count) place differs within stands grading =
      let next : ℕ = get_or plan.strobes place 0 in
      let there : slice_get plan.strobes place ≡ Some next = at-read plan.strobes place (omega (arith, within)) in
      let all : (place + 1) + count ≡ place + suc count = omega arith in
      let behind : suc place ≡ place + 1 = omega arith in
      let rest : List ℕ = take count (drop (place + 1) plan.strobes) in
      let kept_is : (differs ++ kept-of (next ∷ [])) ++ kept-of rest ≡ differs ++ kept-of (take (suc count) (drop place plan.strobes)) =
      append_assoc differs (kept-of (next ∷ [])) (kept-of rest)
      ∙ ap (λ (l : List Sample). differs ++ l) (kept-cons next rest)
      ∙ ap (λ (l : List ℕ). differs ++ kept-of (next ∷ take count l)) (ap (λ n. drop n plan.strobes) (sym behind))
      ∙ ap (λ (l : List ℕ). differs ++ kept-of (take (suc count) l)) (sym (drop-at plan.strobes place next there)) in
      subst (λ (l : List Sample). IsGradingBehind design plan fault (place + suc count) (Keeping l)) kept_is
      (subst (λ n. IsGradingBehind design plan fault n (Keeping ((differs ++ kept-of (next ∷ [])) ++ kept-of rest))) all
      (keep-each count (place + 1) (differs ++ kept-of (next ∷ [])) (omega (arith, within))
      (λ other strobe low before here. stands other strobe (omega (arith, low)) (omega (arith, before)) here)
      (seen-more place next (Keeping differs) there (stands place next (omega arith) (omega arith) there) refl grading)))

  none-kept : same_value own good ≡ true → (strobes : List ℕ) → kept-of strobes ≡ []
  none-kept same [] = refl
  none-kept same (strobe ∷ strobes) = ap (λ (b : Bool). cond (not b) (record { time = strobe; bits = own } ∷ kept-of strobes) (kept-of strobes)) same ∙ none-kept same strobes

  all-kept : same_value own good ≡ false → (strobes : List ℕ) → kept-of strobes ≡ samples_of own strobes
  all-kept other [] = refl
  all-kept other (strobe ∷ strobes) =
      ap (λ (b : Bool). cond (not b) (record { time = strobe; bits = own } ∷ kept-of strobes) (kept-of strobes)) other
      ∙ ap (λ (l : List Sample). record { time = strobe; bits = own } ∷ l) (all-kept other strobes)

  module _ (first end : ℕ) (differs : List Sample) (order : first ≤ end) (within : end ≤ length plan.strobes)
      (stands : AllBetween plan.strobes first end (StandsBeforeSlot design plan fault d gone)) (grading : IsGradingBehind design plan fault first (Keeping differs)) where
    all-there : IsGradingBehind design plan fault end (Keeping (differs ++ kept-of (take (end - first) (drop first plan.strobes))))
    all-there =
        let all : first + (end - first) ≡ end = omega (arith, order) in
        subst (λ n. IsGradingBehind design plan fault n (Keeping (differs ++ kept-of (take (end - first) (drop first plan.strobes))))) all
        (keep-each (end - first) first differs (omega (arith, all, within)) (λ other strobe low before here. stands other strobe low (omega (arith, before, all)) here) grading)

    -- nothing differs, and nothing is kept
    pub keeps-none : same_value own good ≡ true → IsGradingBehind design plan fault end (Keeping differs)
    keeps-none same =
        subst (λ (l : List Sample). IsGradingBehind design plan fault end (Keeping l))
        (ap (λ (l : List Sample). differs ++ l) (none-kept same (take (end - first) (drop first plan.strobes))) ∙ append-nil differs) all-there

    -- or all samples are
    pub keeps-all : same_value own good ≡ false → IsGradingBehind design plan fault end (Keeping (differs ++ samples_of own (take (end - first) (drop first plan.strobes))))
    keeps-all other =
        subst (λ (l : List Sample). IsGradingBehind design plan fault end (Keeping (differs ++ l))) (all-kept other (take (end - first) (drop first plan.strobes))) all-there
