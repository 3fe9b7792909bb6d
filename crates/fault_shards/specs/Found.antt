-- Findings on the faults that stand for their classes (grades by the definition, over events by IEEE 1364-2001, clause 5).
use Rattle.std.specs.Prelude.{◌≡◌, ℕ, List, Some, map, length, slice_get}
use Rattle.std.specs.List.{All, Contains}
use Rattle.vf_base.specs.Base.{fault_number}
use Rattle.vf_base.specs.declared.finding.End.{End}
use Rattle.vf_base.specs.declared.finding.Finding.{Finding}
use Rattle.v_design.specs.Designs.{FlatDesign, TestPlan, StuckAt}
use Rattle.v_design.specs.Grades.{grade}
use Rattle.v_design.specs.Plain.{grade_of}
use Rattle.fault_shards.specs.Representatives.{IsRepresentative}

-- a finding tells the grade of a listed fault
pub record IsFinding (design : FlatDesign) (plan : TestPlan) (finding : Finding) : Type 0 where
  pub fault : StuckAt
  pub listed : slice_get plan.faults (fault_number finding.fault) ≡ Some fault
  pub graded : grade design plan fault ≡ Some (grade_of finding.end)

-- the numbers of the faults that were found
abbrev pub found_faults : List Finding → List ℕ
found_faults found = map (λ (finding : Finding). fault_number finding.fault) found

-- each finding tells the grade of its fault, and none of a representative is missing
pub record AreFound (design : FlatDesign) (plan : TestPlan) (found : List Finding) : Type 0 where
  pub graded : All (IsFinding design plan) found
  pub complete : (number : ℕ) → IsRepresentative design plan.faults number → Contains (found_faults found) number

-- one of the findings tells this end of a fault
pub record IsFoundEnd (found : List Finding) (number : ℕ) (end : End) : Type 0 where
  pub finding : Finding
  pub there : Contains found finding
  pub fault : fault_number finding.fault ≡ number
  pub tells : finding.end ≡ end

-- so many ends, by the numbers of the faults: of each fault that was found one that its findings tell
pub record HasEnds (count : ℕ) (found : List Finding) (ends : List End) : Type 0 where
  pub counted : length ends ≡ count
  pub each : (number : ℕ) → Contains (found_faults found) number → (end : End) × (slice_get ends number ≡ Some end) × IsFoundEnd found number end
