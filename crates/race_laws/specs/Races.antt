-- What a race names is of the design (IEEE 1364-2001, clause 5).
use Rattle.std.specs.Prelude.{◌≡◌, ◌<◌, length, Some}
use Rattle.vf_base.specs.Base.{ReportedAccess, ReportedPair}
use Rattle.v_design.specs.Designs.{FlatDesign, StuckAt, TestPlan}
use Rattle.v_design.specs.Grades.{Raced, grade}
use Rattle.v_design.specs.WellFormed.{KeepsRules, IsPlan}
use Rattle.vf_base.specs.declared.finding.Side.{Side}

-- an access names an object and a process of a design
pub record NamesParts (design : FlatDesign) (access : ReportedAccess) : Type 0 where
  pub object : access.object < length design.objects
  pub process : access.process < length design.processes

-- where the grade of a fault is a race, both accesses name an object and a process of the design
abbrev pub RacesNameParts : Type 0
RacesNameParts =
    (design : FlatDesign) (plan : TestPlan) (fault : StuckAt) (side : Side) (pair : ReportedPair) → KeepsRules design → IsPlan plan →
    grade design plan fault ≡ Some (Raced side pair) → NamesParts design pair.first × NamesParts design pair.second
