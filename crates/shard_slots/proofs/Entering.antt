-- What becomes of a fault at a slot (strobes by the plan; slots by IEEE 1364-2001, clause 5).
use Rattle.std.proofs.Common.{◌≡◌, ℕ, suc, ◌+◌, ◌<◌, ◌≤◌, true, false, [], refl, sym, ap, subst, ◌∙◌, arith, inl}
use Rattle.std.specs.Prelude.{Option, Some, None, is_some, slice_get}
use Rattle.v_design.specs.Designs.{FlatDesign, StuckAt, TestPlan}
use Rattle.v_design.specs.Plain.{fault_of}
use Rattle.v_design.specs.WellFormed.{KeepsRules}
use Rattle.beside_laws.specs.Shards.{FaultsGoOn}
use Rattle.copy_lockstep.specs.window_strobes.Passed.{HasPassed}
use Rattle.copy_lockstep.specs.copy_window.ShardFaults.{IsShardFault}
use Rattle.copy_lockstep.specs.copy_window.declared.fault.ShardFault.{ShardFault}
use Rattle.good_trace.specs.Traces.{WindowKept}
use Rattle.copy_lockstep.specs.lockstep_block.declared.room.FaultInSlot.{FaultInSlot}
use Rattle.copy_lockstep.specs.phase_faults.declared.beside.FaultBeside.{FaultBeside}
use Rattle.copy_lockstep.specs.lockstep_slot.Beside.{BeginsSlot}
use Rattle.copy_lockstep.specs.Entered.{EntersSlot, EntersWith, HasEnded, IsPassed}
use Rattle.copy_lockstep.specs.declared.entered.Entering.{Entering}
use Rattle.copy_lockstep.specs.declared.reached.Reached.{Reached}
use Rattle.copy_lockstep.specs.Stops.{NoStopThrough}
use Rattle.copy_lockstep.proofs.Stops.{fewer}
use Rattle.copy_lockstep.specs.window_faults.Within.{IsWithin}
use Rattle.copy_lockstep.specs.window_faults.declared.at.FaultAt.{FaultAt}
use Rattle.copy_lockstep.proofs.window_faults.Within.{ended-later, within-there}
use Rattle.shard_slots.specs.Slots.{Enters, Rests}

module _ (design : FlatDesign) (plan : TestPlan) (before through slot : ℕ) where
  -- it is passed over slots
  pub passed-there : (fault : StuckAt) (last : ℕ) (reached : Reached) (own : ShardFault) (at : FaultAt) → 0 < before → before + last ≤ through → IsPassed design plan fault before slot last reached own →
      at.slot ≡ reached.slot → at.passed ≡ reached.passed → Rests design plan before through slot own at
  passed-there fault last reached own at some low passed slot_is passed_is =
      let since = passed.since in
      let by = passed.by in
      let stood = passed.stands in
      record {
        later = some;
        within =
            within-there design plan before through reached.slot reached.passed own at slot_is passed_is (omega (arith, low, by))
            (subst (λ n. IsShardFault design plan n reached.passed own) (sym stood.gone_is) stood.behind.stands)
            (λ none. subst (λ n. HasPassed design plan n reached.passed) (sym stood.gone_is) stood.behind.has_passed);
        come = λ none. omega (arith, since, slot_is);
      }

  -- its grading ended
  pub ended-there : FaultsGoOn → KeepsRules design → (own : ShardFault) (at : FaultAt) → 0 < before → before + slot < through → HasEnded design plan (suc (before + slot)) own → at.slot ≡ slot + 1 →
      Rests design plan before through slot own at
  ended-there law rules own at before_some low ended slot_is =
      let next : suc (before + slot) ≡ before + (slot + 1) = omega arith in
      let some : is_some own.end ≡ true = ended.ended in
      record {
        later = before_some;
        within =
            within-there design plan before through (slot + 1) at.passed own at slot_is refl (omega (arith, low))
            (subst (λ n. IsShardFault design plan n at.passed own) next (ended-later law design plan rules (suc (before + slot)) (suc (before + slot)) ended.passed at.passed own (omega arith) some ended.stands))
            (λ none. absurd (let no : is_some own.end ≡ false = ap is_some none in cc));
        come = λ none. omega (arith, slot_is);
      }

  -- it enters the slot
  pub enters-there : (window : WindowKept) (last : ℕ) (entering : Entering) (old own : ShardFault) (at : FaultAt) (beside : FaultBeside) → window.before ≡ before → window.through ≡ through →
      NoStopThrough design plan (before + last) → EntersWith design plan (fault_of beside.fault) window last slot at.passed old own entering → beside.one ≡ entering.one → at.seen ≡ entering.passed →
      at.possible ≡ entering.possible → at.slot ≡ slot → IsWithin design plan before through own at → slice_get plan.faults own.copy.fault ≡ Some (fault_of beside.fault) →
      Enters design plan before through slot own at beside
  enters-there window last entering old own at beside before_is through_is none enters one_is seen_is possible_is slot_is within listed = record {
    within = within;
    come = λ none. omega (arith, slot_is);
    listed = listed;
    tried = ap (λ (one : FaultInSlot). one.tried.items) one_is ∙ enters.begins.untried;
    goes = λ goes. record {
      slot_is = slot_is;
      none = ap (λ (o : ShardFault). o.end) enters.stays ∙ enters.enters.may.behind.none;
      fine = fewer design plan (before + slot + 1) (before + last) (let early = enters.early in omega (arith, early)) none;
      enters =
          inl (subst (λ (n : ℕ). EntersSlot design plan (fault_of beside.fault) (n + slot) at.passed own at.seen at.possible) before_is
          (subst (λ (p : Option ℕ). EntersSlot design plan (fault_of beside.fault) (window.before + slot) at.passed own at.seen p) (sym possible_is)
          (subst (λ (n : ℕ). EntersSlot design plan (fault_of beside.fault) (window.before + slot) at.passed own n entering.possible) (sym seen_is)
          (subst (λ (o : ShardFault). EntersSlot design plan (fault_of beside.fault) (window.before + slot) at.passed o entering.passed entering.possible) (sym enters.stays) enters.enters))));
      place = ap (λ (one : FaultInSlot). one.own.copy.fault) one_is ∙ enters.place ∙ ap (λ (o : ShardFault). o.copy.fault) (sym enters.stays);
      states = ap (λ (one : FaultInSlot). one.own.copy.states) one_is ∙ enters.states;
    };
    begins = λ goes.
        subst (λ (n : ℕ). BeginsSlot design plan (fault_of beside.fault) before n slot beside.one) through_is
        (subst (λ (n : ℕ). BeginsSlot design plan (fault_of beside.fault) n window.through slot beside.one) before_is
        (subst (λ (one : FaultInSlot). BeginsSlot design plan (fault_of beside.fault) window.before window.through slot one) (sym one_is) enters.begins));
  }
