-- reg s = 0, a = 0, b = 0, q = 0; initial #10 q = s; initial #20 if (s) a = 1; initial #20 b = a; -- a hard strobe comes before the race
use Rattle.std.specs.Prelude.{◌≡◌, refl, true, false, [], ◌∷◌, Some, map}
use Rattle.v_design.specs.Trees.{Null, If, Delay}
use Rattle.v_design.specs.Designs.{FlatDesign, TestPlan}
use Rattle.v_design.specs.Grades.{grade, Judged, Detected}
use Rattle.run_examples.specs.Build.{at, reg_bit, process, set_bit, number, bit_operand, plan, variable_fault}
use Rattle.four_value.specs.declared.logic.Bit.TheVariants.{Zero}

abbrev pub design : FlatDesign
design = record {
  objects = reg_bit Zero ∷ reg_bit Zero ∷ reg_bit Zero ∷ reg_bit Zero ∷ [];
  joined = [];
  nodes = [];
  processes = process false 3 (Delay (at 3) 10 (set_bit 3 3 (bit_operand 0))) ∷ process false 4 (Delay (at 4) 20 (If (at 4) (bit_operand 0) (set_bit 4 1 (number 1 1)) Null)) ∷
      process false 5 (Delay (at 5) 20 (set_bit 5 2 (bit_operand 1))) ∷ [];
}

abbrev pub test_plan : TestPlan
test_plan = plan 30 (3 ∷ []) (12 ∷ 20 ∷ []) (variable_fault 0 0 true ∷ [])

-- the grades of the listed faults
abbrev pub Grades : Type 0
Grades = map (grade design test_plan) test_plan.faults ≡ Some (Judged (Detected 12)) ∷ []

pub grades : Grades
grades = refl
