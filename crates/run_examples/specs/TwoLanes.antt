-- reg q; initial q <= 0; initial q <= 1; -- the order of two lanes is free
use Rattle.std.specs.Prelude.{◌≡◌, refl, false, [], ◌∷◌, Some, map}
use Rattle.v_design.specs.Designs.{FlatDesign, TestPlan}
use Rattle.v_design.specs.Grades.{grade}
use Rattle.run_examples.specs.Build.{reg_bit, process, later_bit, number, plan, variable_fault, race}
use Rattle.four_value.specs.declared.logic.Bit.TheVariants.{X}
use Rattle.vf_base.specs.declared.finding.Side.TheVariants.{Good}
use Rattle.vf_base.specs.declared.finding.AccessKind.TheVariants.{Write}

abbrev pub design : FlatDesign
design = record {
  objects = reg_bit X ∷ [];
  joined = [];
  nodes = [];
  processes = process false 3 (later_bit 3 0 (number 1 0)) ∷ process false 4 (later_bit 4 0 (number 1 1)) ∷ [];
}

abbrev pub test_plan : TestPlan
test_plan = plan 2 (0 ∷ []) (1 ∷ []) (variable_fault 0 0 false ∷ [])

-- the grades of the listed faults
abbrev pub Grades : Type 0
Grades = map (grade design test_plan) test_plan.faults ≡ Some (race Good 0 2 Write 0 0 3 Write 0 1 4) ∷ []

pub grades : Grades
grades = refl
