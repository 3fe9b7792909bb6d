-- What a shard keeps whose faults' samples are kept (strobes by the plan; slots by IEEE 1364-2001, clause 5).
use Rattle.std.specs.Prelude.{◌≡◌, ℕ, ◌<◌, ◌≤◌, true, List, [], length, map, take, Option, None, Some, slice_get}
use Rattle.vf_base.specs.Base.{fault_number}
use Rattle.vf_base.specs.declared.finding.End.{End}
use Rattle.vf_base.specs.declared.finding.End.TheVariants.{Detected, Possible, Undetected, Race, Hyper}
use Rattle.v_design.specs.Designs.{FlatDesign, StuckAt, TestPlan}
use Rattle.v_design.specs.Plain.{grade_of}
use Rattle.v_design.specs.WellFormed.{IsPlan, KeepsRules}
use Rattle.kept_samples.specs.Plain.{sample_of}
use Rattle.kept_samples.specs.declared.kept.Kept.{Kept}
use Rattle.kept_samples.specs.declared.kept.Sample.{Sample}
use Rattle.copy_laws.specs.Windows.{IsBesideAt, good_slots, time_at}
use Rattle.grade_laws.specs.Grading.{faulty_seen, good_seen}
use Rattle.fault_strobes.specs.Full.{IsFull}
use Rattle.fault_strobes.specs.Said.{IsSaid, Keeping, Said, plan_by}
use Rattle.fault_strobes.specs.Shown.{said_of}
use Rattle.fault_strobes.specs.declared.strobed.Strobed.{Strobed}
use Rattle.fault_strobes.specs.declared.strobed.Strobed.TheVariants as kinds
use Rattle.shard_windows.specs.copy_window.ShardFaults.{IsShardFault, beside_by, kept_by}
use Rattle.shard_windows.specs.copy_window.declared.fault.ShardFault.{ShardFault}
use Rattle.shard_windows.specs.Reached.{HasReachedIfOpen}
use Rattle.shard_windows.specs.declared.reached.Reached.{Reached}

-- the samples that strobes kept; none where they judge
abbrev pub samples_of : Strobed → List Sample
samples_of (kinds.Judging possible) = []
samples_of (kinds.Keeping differs) = differs.items

-- how a grading ended that no strobe ends: by a race or a loop, if it did, as a verdict is no end
abbrev pub end_kept : Option End → Option End
end_kept None = None
end_kept (Some (Detected time)) = None
end_kept (Some (Possible time)) = None
end_kept (Some Undetected) = None
end_kept (Some (Race side pair)) = Some (Race side pair)
end_kept (Some (Hyper time)) = Some (Hyper time)

-- what strobes said that kept these samples
abbrev pub said_in : Kept → Said
said_in kept = Keeping (map sample_of kept.differs)

-- a fault with the samples that are kept of it
pub record HasSamples (kept : Kept) (own new : ShardFault) : Type 0 where
  pub stays : new ≡ record own { strobed = new.strobed }
  pub said : said_of new.strobed ≡ said_in kept

-- its samples were changed for those that were kept of it
pub record IsSwapped (own : ShardFault) (kept : Kept) (new : ShardFault) (told : Kept) : Type 0 where
  pub has : HasSamples kept own new
  pub told_is : told ≡ record kept { differs = samples_of own.strobed; end = end_kept own.end }

-- so it was with each of some faults
pub record AreSwapped (olds : List ShardFault) (kepts : List Kept) (news : List ShardFault) (tolds : List Kept) : Type 0 where
  pub count : length news ≡ length olds
  pub kept_count : length tolds ≡ length kepts
  pub each : (place : ℕ) (own : ShardFault) (kept : Kept) (new : ShardFault) (told : Kept) → slice_get olds place ≡ Some own → slice_get kepts place ≡ Some kept →
      slice_get news place ≡ Some new → slice_get tolds place ≡ Some told → IsSwapped own kept new told

-- a fault, without its samples, and what is kept of it have gone through so many slots, up to which so many strobes come
pub record IsKeptFault (design : FlatDesign) (plan : TestPlan) (gone passed : ℕ) (own : ShardFault) (kept : Kept) : Type 0 where
  pub fault : StuckAt
  pub listed : slice_get plan.faults own.copy.fault ≡ Some fault
  pub kind : kept_by own ≡ true
  pub number : fault_number kept.fault ≡ own.copy.fault
  pub end_is : kept.end ≡ end_kept own.end
  pub none_before : gone ≡ 0 → kept.differs ≡ []
  pub beside : IsBesideAt design (plan_by true plan) gone (beside_by design fault own)
  pub full : (end : End) → own.end ≡ Some end → IsFull design plan fault (grade_of end) (said_in kept)
  pub so_far : (time : ℕ) → time_at design plan gone ≡ Some time → gone < length (good_slots design plan) → own.end ≡ None →
      IsSaid (good_seen design plan) (faulty_seen design plan fault) (take passed plan.strobes) (said_in kept)
  -- with its samples it stands as a fault of a shard does
  pub stands : (new : ShardFault) → HasSamples kept own new → IsShardFault design plan gone passed new

-- so it is of each of some faults of a plan that keeps the rules
pub record IsKeeping (design : FlatDesign) (plan : TestPlan) (gone : ℕ) (reached : Reached) (faults : List ShardFault) (kepts : List Kept) : Type 0 where
  pub rules : KeepsRules design
  pub of_plan : IsPlan plan
  pub within : gone ≤ length (good_slots design plan)
  pub count : length kepts ≡ length faults
  pub reaches : HasReachedIfOpen design plan gone reached faults
  pub each : (place : ℕ) (own : ShardFault) (kept : Kept) → slice_get faults place ≡ Some own → slice_get kepts place ≡ Some kept → IsKeptFault design plan gone reached.passed own kept
