-- What stands of a fault whose grading ended stands without its copy (nothing of the language).
use Rattle.std.proofs.Common.{◌≡◌, ℕ, ◌+◌, true, false, refl, sym, ap, subst, ◌∙◌}
use Rattle.std.specs.Prelude.{Option, None, Some, is_some, option_map}
use Rattle.vf_base.specs.declared.finding.End.{End}
use Rattle.v_design.specs.Designs.{FlatDesign, TestPlan}
use Rattle.v_design.specs.Plain.{grade_of}
use Rattle.copy_state.specs.Kept.{nothing_kept}
use Rattle.copy_lockstep.specs.Entered.{HasEnded}
use Rattle.copy_lockstep.specs.copy_window.ShardFaults.{IsShardFault, SameFault}
use Rattle.copy_lockstep.specs.copy_window.declared.fault.ShardFault.{ShardFault}
use Rattle.copy_lockstep.specs.window_faults.Within.{IsWithin}
use Rattle.copy_lockstep.specs.window_faults.declared.at.FaultAt.{FaultAt}
use Rattle.shard_slots.specs.Ended.{LetsGo}

module _ (own : ShardFault) (end : End) (is : own.end ≡ Some end) where
  not-none : own.end ≡ None → ⊥
  not-none none =
      let some : is_some own.end ≡ true = ap is_some is in
      let no : is_some own.end ≡ false = ap is_some none in
      cc

  not-graded : option_map grade_of own.end ≡ None → ⊥
  not-graded none =
      let some : is_some (option_map grade_of own.end) ≡ true = ap (λ (o : Option End). is_some (option_map grade_of o)) is in
      let no : is_some (option_map grade_of own.end) ≡ false = ap is_some none in
      cc

  -- a shard's fault is one without its copy
  pub without-copy : (design : FlatDesign) (plan : TestPlan) (gone passed : ℕ) → IsShardFault design plan gone passed own →
      IsShardFault design plan gone passed (record own { copy = nothing_kept own.copy.fault })
  without-copy design plan gone passed stands = record {
    fault = stands.fault;
    listed = stands.listed;
    beside = record {
      none_before = stands.beside.none_before;
      is_grade = stands.beside.is_grade;
      found_where = stands.beside.found_where;
      all_at_end = stands.beside.all_at_end;
      copy = λ time here none. absurd (not-graded none);
    };
    full = stands.full;
    within = record { values = λ object past. refl; states = λ process past. refl; updates = λ process past. refl };
    goes_on = λ time here more none. absurd (not-none none);
  }

module _ (old new : ShardFault) (lets : LetsGo old new) where
  -- what holds of it as it was, and without its copy where its grading ended
  by-end : (P : ShardFault → Type 0) → P old → ((end : End) → old.end ≡ Some end → P (record old { copy = nothing_kept old.copy.fault })) → P new
  by-end P same ended = go old.end refl
    where
      go : (end : Option End) → old.end ≡ end → P new
      go None is = subst P (sym (lets.goes_on is)) same
      go (Some end) is = subst P (sym (lets.ended (ap is_some is))) (ended end is)

  pub same-end : new.end ≡ old.end
  same-end = by-end (λ (own : ShardFault). own.end ≡ old.end) refl (λ end is. refl)

  pub same-fault : (first : ShardFault) → SameFault first old → SameFault first new
  same-fault first same = by-end (SameFault first) same (λ end is. record { number = same.number; kind = same.kind })

  pub still-stands : (design : FlatDesign) (plan : TestPlan) (gone passed : ℕ) → IsShardFault design plan gone passed old → IsShardFault design plan gone passed new
  still-stands design plan gone passed stands = by-end (IsShardFault design plan gone passed) stands (λ end is. without-copy old end is design plan gone passed stands)

  pub still-within : (design : FlatDesign) (plan : TestPlan) (before through : ℕ) (at : FaultAt) → IsWithin design plan before through old at → IsWithin design plan before through new at
  still-within design plan before through at within = record {
    within = within.within;
    stands = still-stands design plan (before + at.slot) at.passed within.stands;
    has_passed = λ none. within.has_passed (sym same-end ∙ none);
  }

  pub still-ended : (design : FlatDesign) (plan : TestPlan) (gone : ℕ) → HasEnded design plan gone old → HasEnded design plan gone new
  still-ended design plan gone ended = record {
    passed = ended.passed;
    stands = still-stands design plan gone ended.passed ended.stands;
    ended = ap is_some same-end ∙ ended.ended;
  }
