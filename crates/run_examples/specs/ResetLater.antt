-- reg rst = 1, q = 0; initial #1 rst = 0; always @(negedge rst) q = 1; -- the wait has begun before
use Rattle.std.specs.Prelude.{◌≡◌, refl, true, false, [], ◌∷◌, Some, map}
use Rattle.v_design.specs.Trees.{Delay}
use Rattle.v_design.specs.Designs.{FlatDesign, TestPlan}
use Rattle.v_design.specs.Grades.{grade, Judged, Detected}
use Rattle.run_examples.specs.Build.{at, reg_bit, process, set_bit, number, wait_for, plan, variable_fault}
use Rattle.four_value.specs.declared.logic.Bit.TheVariants.{Zero, One}
use Rattle.four_value.specs.declared.logic.Edge.TheVariants.{Neg}

abbrev pub design : FlatDesign
design = record {
  objects = reg_bit One ∷ reg_bit Zero ∷ [];
  joined = [];
  nodes = [];
  processes = process false 3 (Delay (at 3) 1 (set_bit 3 0 (number 1 0))) ∷ process true 4 (wait_for 4 Neg 0 (set_bit 4 1 (number 1 1))) ∷ [];
}

abbrev pub test_plan : TestPlan
test_plan = plan 5 (1 ∷ []) (3 ∷ []) (variable_fault 1 0 false ∷ [])

-- the grades of the listed faults
abbrev pub Grades : Type 0
Grades = map (grade design test_plan) test_plan.faults ≡ Some (Judged (Detected 3)) ∷ []

pub grades : Grades
grades = refl
