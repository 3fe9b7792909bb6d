-- reg a = 0, b; initial #10 #0 a = 1; initial #10 b = a; -- the write comes a phase later than the read
use Rattle.std.specs.Prelude.{◌≡◌, refl, true, false, [], ◌∷◌, Some, map}
use Rattle.v_design.specs.Trees.{Delay}
use Rattle.v_design.specs.Designs.{FlatDesign, TestPlan}
use Rattle.v_design.specs.Grades.{grade, Judged, Detected}
use Rattle.run_examples.specs.Build.{at, reg_bit, process, set_bit, number, bit_operand, plan, variable_fault}
use Rattle.four_value.specs.declared.logic.Bit.TheVariants.{Zero, X}

abbrev pub design : FlatDesign
design = record {
  objects = reg_bit Zero ∷ reg_bit X ∷ [];
  joined = [];
  nodes = [];
  processes = process false 3 (Delay (at 3) 10 (Delay (at 3) 0 (set_bit 3 0 (number 1 1)))) ∷ process false 4 (Delay (at 4) 10 (set_bit 4 1 (bit_operand 0))) ∷ [];
}

abbrev pub test_plan : TestPlan
test_plan = plan 20 (1 ∷ []) (12 ∷ []) (variable_fault 0 0 true ∷ variable_fault 1 0 true ∷ [])

-- the grades of the listed faults
abbrev pub Grades : Type 0
Grades = map (grade design test_plan) test_plan.faults ≡ Some (Judged (Detected 12)) ∷ Some (Judged (Detected 12)) ∷ []

pub grades : Grades
grades = refl
