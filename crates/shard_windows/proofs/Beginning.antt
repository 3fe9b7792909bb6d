-- Faults before the first slot (slots by IEEE 1364-2001, clause 5).
use Rattle.std.proofs.Common.{◌≡◌, ℕ, ◌+◌, ◌<◌, Bool, List, [], ◌∷◌, ◌++◌, length, take, get_or, refl, sym, ap, subst, ◌∙◌, arith, inl, inr}
use Rattle.std.specs.Prelude.{Option, None, Some, option_map, slice_get}
use Rattle.std.specs.List.{AllZip}
use Rattle.std.proofs.lemmas.List.{take_more}
use Rattle.std.proofs.lemmas.Option.{slice_get_cases}
use Rattle.vf_base.specs.Base.{fault_number}
use Rattle.vf_base.specs.declared.finding.End.{End}
use Rattle.vf_base.specs.declared.ids.FaultId.{FaultId}
use Rattle.v_design.specs.Designs.{FlatDesign, TestPlan}
use Rattle.v_design.specs.Plain.{grade_of}
use Rattle.v_design.specs.WellFormed.{KeepsRules}
use Rattle.copy_laws.specs.Windows.{IsBesideAt}
use Rattle.copy_state.specs.Kept.{CopyKept}
use Rattle.copy_between.specs.Beside.{KeepsWithin}
use Rattle.beside_laws.specs.Shards.{FaultsGoOn}
use Rattle.fault_strobes.specs.Said.{plan_by}
use Rattle.shard_slots.specs.copy_window.Copies.{differences_in}
use Rattle.shard_slots.specs.copy_window.ShardFaults.{IsShardFault, kept_by}
use Rattle.shard_slots.specs.copy_window.declared.fault.ShardFault.{ShardFault}
use Rattle.shard_windows.specs.Fresh.{IsFresh}
use Rattle.shard_windows.specs.Reached.{HasReached}
use Rattle.shard_windows.specs.declared.reached.Reached.{Reached}

-- before the first slot, up to which no strobe comes
abbrev pub reached_at_start : Reached
reached_at_start = record { passed = 0; time = 0 }

pub none-reached : (design : FlatDesign) (plan : TestPlan) → HasReached design plan 0 reached_at_start
none-reached design plan = record {
  passed = record { within = omega arith; none = λ zero. refl; early = λ time e more. cc; later = λ time e more. cc };
  time = λ some more. absurd (omega (arith, some));
}

-- some faults and what is made of them
abbrev pub AreFresh : Bool → List FaultId → List ShardFault → Type 0
AreFresh kept numbers faults = AllZip (λ (fault : FaultId) (own : ShardFault). IsFresh kept (fault_number fault) own) numbers faults

module _ (law : FaultsGoOn) (design : FlatDesign) (plan : TestPlan) (rules : KeepsRules design) where
  -- a listed fault
  pub fresh-stands : (kept : Bool) (number : ℕ) (own : ShardFault) → IsFresh kept number own → number < length plan.faults → IsShardFault design plan 0 0 own
  fresh-stands kept number own fresh low = elim (slice_get_cases plan.faults number).1 [
    | inl found ↦ record {
      fault = found.0;
      listed = ap (λ (kept : CopyKept). slice_get plan.faults kept.fault) fresh.copy ∙ found.2;
      beside =
          subst (λ (end : Option End). IsBesideAt design (plan_by (kept_by own) plan) 0 (record { fault = found.0; differences = differences_in design own.copy; found = option_map grade_of end })) (sym fresh.end)
          (law.begins design (plan_by (kept_by own) plan) found.0 (differences_in design own.copy) rules);
      full = λ end is. (let no : None ≡ Some end = sym fresh.end ∙ is in cc);
      within =
          subst (KeepsWithin (length design.objects) (length design.processes)) (sym fresh.copy)
          (record { values = λ object past. refl; states = λ process past. refl; updates = λ process past. refl });
      goes_on = λ time e more none. cc;
    }
    | inr past ↦ absurd (omega (arith, low, past.0))
  ]

fresh-push : (kept : Bool) (numbers : List FaultId) (faults : List ShardFault) (number : FaultId) (own : ShardFault) → AreFresh kept numbers faults → IsFresh kept (fault_number number) own →
    AreFresh kept (numbers ++ number ∷ []) (faults ++ own ∷ [])
fresh-push kept [] [] number own zip fresh = (fresh, tt)
fresh-push kept [] (other ∷ faults) number own zip fresh = absurd zip
fresh-push kept (first ∷ numbers) [] number own zip fresh = absurd zip
fresh-push kept (first ∷ numbers) (other ∷ faults) number own zip fresh = (zip.0, fresh-push kept numbers faults number own zip.1 fresh)

-- one fault more
pub fresh-more : (kept : Bool) (numbers : List FaultId) (place : ℕ) (d : FaultId) (faults : List ShardFault) (own : ShardFault) → place < length numbers → AreFresh kept (take place numbers) faults →
    IsFresh kept (fault_number (get_or numbers place d)) own → AreFresh kept (take (place + 1) numbers) (faults ++ own ∷ [])
fresh-more kept numbers place d faults own low zip fresh =
    subst (λ l. AreFresh kept l (faults ++ own ∷ [])) (sym (take_more numbers place d low)) (fresh-push kept (take place numbers) faults (get_or numbers place d) own zip fresh)
