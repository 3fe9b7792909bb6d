-- What stands of a shard's faults, and of their findings (slots by IEEE 1364-2001, clause 5).
use Rattle.std.proofs.Common.{◌≡◌, ℕ, Bool, true, false, List, [], ◌∷◌, length, map, refl, ap, subst}
use Rattle.std.specs.Prelude.{Option, Some, None, is_some, option_map}
use Rattle.std.specs.List.{All, cons_option}
use Rattle.std.proofs.lemmas.List.Elements.{All-cons, All-nil}
use Rattle.vf_base.specs.Lists.{AllHold}
use Rattle.vf_base.specs.declared.finding.End.{End}
use Rattle.vf_base.specs.declared.finding.Finding.{Finding}
use Rattle.v_design.specs.Designs.{FlatDesign, TestPlan}
use Rattle.v_design.specs.Plain.{grade_of}
use Rattle.copy_laws.specs.Windows.{IsBesideAt, good_slots}
use Rattle.fault_strobes.specs.Said.{plan_by}
use Rattle.shard_windows.specs.copy_window.ShardFaults.{IsShardFault, beside_by, kept_by}
use Rattle.shard_windows.specs.copy_window.declared.fault.ShardFault.{ShardFault}
use Rattle.fault_shards.specs.Found.{IsFinding, found_faults}
use Rattle.copy_shard.specs.Kept.{fault_kept}
use Rattle.copy_shard.specs.Shards.{FaultKept, FaultStands, findings_of, places_of}

module _ (design : FlatDesign) (plan : TestPlan) (gone : ℕ) where
  -- the faults of a shard stand
  pub all-stand : (passed : ℕ) (faults : List ShardFault) → AllHold (λ (own : ShardFault). kept_by own ≡ false) faults → AllHold (IsShardFault design plan gone passed) faults →
      AllHold (FaultStands design plan gone) (map fault_kept faults)
  all-stand passed [] judged all = tt
  all-stand passed (own ∷ faults) judged all = (
    record {
      fault = all.0.fault;
      listed = all.0.listed;
      beside = subst (λ (kept : Bool). IsBesideAt design (plan_by kept plan) gone (beside_by design all.0.fault own)) judged.0 all.0.beside;
    },
    all-stand passed faults judged.1 all.1,
  )

  -- an end as a finding
  abbrev pub finding-by : FaultKept → End → Finding
  finding-by kept end = record { fault = record { 0 = kept.copy.fault }; end = end }

  is-finding : (kept : FaultKept) (end : End) → FaultStands design plan gone kept → kept.end ≡ Some end → IsFinding design plan (finding-by kept end)
  is-finding kept end stands is = record {
    fault = stands.fault;
    listed = stands.listed;
    graded = stands.beside.is_grade (grade_of end) (ap (λ (e : Option End). option_map grade_of e) is);
  }

  -- what was found is the grade
  pub all-graded : (faults : List FaultKept) → AllHold (FaultStands design plan gone) faults → All (IsFinding design plan) (findings_of faults)
  all-graded [] all = All-nil (IsFinding design plan)
  all-graded (kept ∷ faults) all = go kept.end refl (all-graded faults all.1)
    where
      go : (end : Option End) → kept.end ≡ end → All (IsFinding design plan) (findings_of faults) →
          All (IsFinding design plan) (cons_option (option_map (finding-by kept) end) (findings_of faults))
      go None is rest = rest
      go (Some end) is rest = All-cons (IsFinding design plan) (finding-by kept end) (findings_of faults) (is-finding kept end all.0 is) rest

  -- once the good first run is through, something was found of each
  pub all-found : length (good_slots design plan) ≡ gone → (faults : List FaultKept) → AllHold (FaultStands design plan gone) faults → found_faults (findings_of faults) ≡ places_of faults
  all-found over [] all = refl
  all-found over (kept ∷ faults) all = go kept.end refl (all-found over faults all.1)
    where
      go : (end : Option End) → kept.end ≡ end → found_faults (findings_of faults) ≡ places_of faults →
          found_faults (cons_option (option_map (finding-by kept) end) (findings_of faults)) ≡ places_of (kept ∷ faults)
      go None is rest =
          let found : is_some (option_map grade_of kept.end) ≡ true = all.0.beside.all_at_end over in
          let none : is_some (option_map grade_of kept.end) ≡ false = ap (λ (e : Option End). is_some (option_map grade_of e)) is in
          cc
      go (Some end) is rest = ap (λ (l : List ℕ). kept.copy.fault ∷ l) rest
