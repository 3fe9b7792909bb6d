-- Two faults of one class have one full grade (orders by IEEE 1364-2001, clause 5).
use Rattle.std.specs.Prelude.{◌≡◌}
use Rattle.v_design.specs.Designs.{FlatDesign, StuckAt, TestPlan}
use Rattle.v_design.specs.Grades.{full_grade}
use Rattle.v_design.specs.Sites.{AreOneClass}
use Rattle.v_design.specs.WellFormed.{KeepsRules}

-- two faults of one class have one full grade
abbrev pub FullGradesAgree : Type 0
FullGradesAgree =
    (design : FlatDesign) (plan : TestPlan) (one other : StuckAt) → KeepsRules design → AreOneClass design one other → full_grade design plan one ≡ full_grade design plan other
