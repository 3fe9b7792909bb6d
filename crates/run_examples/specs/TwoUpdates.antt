-- reg q; initial begin q <= 0; q <= 1; end -- two updates of one lane come in order
use Rattle.std.specs.Prelude.{◌≡◌, refl, false, [], ◌∷◌, Some, map}
use Rattle.v_design.specs.Designs.{FlatDesign, TestPlan}
use Rattle.v_design.specs.Grades.{grade, Judged, Detected}
use Rattle.run_examples.specs.Build.{reg_bit, process, block, later_bit, number, plan, variable_fault}
use Rattle.four_value.specs.declared.logic.Bit.TheVariants.{X}

abbrev pub design : FlatDesign
design = record {
  objects = reg_bit X ∷ [];
  joined = [];
  nodes = [];
  processes = process false 3 (block (later_bit 3 0 (number 1 0) ∷ later_bit 3 0 (number 1 1) ∷ [])) ∷ [];
}

abbrev pub test_plan : TestPlan
test_plan = plan 2 (0 ∷ []) (1 ∷ []) (variable_fault 0 0 false ∷ [])

-- the grades of the listed faults
abbrev pub Grades : Type 0
Grades = map (grade design test_plan) test_plan.faults ≡ Some (Judged (Detected 1)) ∷ []

pub grades : Grades
grades = refl
