-- What is kept of some listed faults (slots and orders by IEEE 1364-2001, clause 5).
use Rattle.std.specs.Prelude.{◌≡◌, ◌↔◌, ℕ, ◌≤◌, List, map, length}
use Rattle.std.specs.List.{AllZip, Contains}
use Rattle.vf_base.specs.Base.{fault_number}
use Rattle.vf_base.specs.Lists.{AllHold}
use Rattle.v_design.specs.Designs.{FlatDesign, StuckAt, TestPlan}
use Rattle.v_design.specs.Expressions.{up_from}
use Rattle.v_design.specs.WellFormed.{IsAscending}
use Rattle.dict_windows.specs.kept_shard.Keeping.{KeptWhole, numbers_of}
use Rattle.fault_shards.specs.Representatives.{IsRepresentative}
use Rattle.kept_samples.specs.Kept.{Keeps}
use Rattle.kept_samples.specs.declared.kept.Kept.{Kept}

-- of each of some faults its full grade is kept, and they are numbered from 0 on
pub record AreKept (design : FlatDesign) (plan : TestPlan) (faults : List StuckAt) (kept : List Kept) : Type 0 where
  pub each : AllZip (Keeps design plan) faults kept
  pub numbered : map (λ (one : Kept). fault_number one.fault) kept ≡ up_from 0 (length faults)

-- of each fault that stands for its class, from a number on, its full grade is kept, in list order
pub record AreLeft (design : FlatDesign) (plan : TestPlan) (from : ℕ) (kept : List Kept) : Type 0 where
  pub ascend : IsAscending (numbers_of kept)
  pub each : (number : ℕ) → Contains (numbers_of kept) number ↔ ((from ≤ number) × IsRepresentative design plan.faults number)
  pub whole : AllHold (KeptWhole design plan) kept
