-- reg s = 0, q; initial begin if (s) q = 1'bx; else q = 1; #10 q = 1; #10 q = ~s; end
use Rattle.std.specs.Prelude.{◌≡◌, refl, true, false, [], ◌∷◌, Some, map}
use Rattle.v_design.specs.Trees.{Constant, If, Delay}
use Rattle.v_design.specs.Designs.{FlatDesign, TestPlan}
use Rattle.v_design.specs.Grades.{grade, Judged, Detected}
use Rattle.run_examples.specs.Build.{at, reg_bit, process, block, set_bit, number, bit_operand, not_of, plan, variable_fault}
use Rattle.four_value.specs.declared.logic.Bit.TheVariants.{Zero, X}

abbrev pub design : FlatDesign
design = record {
  objects = reg_bit Zero ∷ reg_bit X ∷ [];
  joined = [];
  nodes = [];
  processes = process false 3 (block (If (at 3) (bit_operand 0) (set_bit 3 1 (Constant 1 false (X ∷ []))) (set_bit 3 1 (number 1 1)) ∷ Delay (at 3) 10 (set_bit 3 1 (number 1 1)) ∷
      Delay (at 3) 10 (set_bit 3 1 (not_of (bit_operand 0))) ∷ [])) ∷ [];
}

abbrev pub test_plan : TestPlan
test_plan = plan 30 (1 ∷ []) (5 ∷ 15 ∷ 25 ∷ []) (variable_fault 0 0 true ∷ [])

-- the grades of the listed faults
abbrev pub Grades : Type 0
Grades = map (grade design test_plan) test_plan.faults ≡ Some (Judged (Detected 25)) ∷ []

pub grades : Grades
grades = refl
