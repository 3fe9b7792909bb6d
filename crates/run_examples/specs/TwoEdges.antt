-- reg clk = 0, rst = 1; reg [1:0] n = 0; initial #5 clk = 1; initial #5 rst = 0; always @(posedge clk or negedge rst) n = n + 1; -- one edge ends the wait, and the other may be missed
use Rattle.std.specs.Prelude.{◌≡◌, refl, true, false, [], ◌∷◌, Some, map}
use Rattle.v_design.specs.Trees.{Delay}
use Rattle.v_design.specs.Designs.{FlatDesign, TestPlan}
use Rattle.v_design.specs.Grades.{grade}
use Rattle.run_examples.specs.Build.{at, reg_bit, reg_vector, process, set_bit, set_vector, number, plus_one, wait_for_two, plan, variable_fault, race}
use Rattle.four_value.specs.declared.logic.Bit.TheVariants.{Zero, One}
use Rattle.four_value.specs.declared.logic.Edge.TheVariants.{Pos, Neg}
use Rattle.vf_base.specs.declared.finding.Side.TheVariants.{Good}
use Rattle.vf_base.specs.declared.finding.AccessKind.TheVariants.{Write, Ended}

abbrev pub design : FlatDesign
design = record {
  objects = reg_bit Zero ∷ reg_bit One ∷ reg_vector 2 0 ∷ [];
  joined = [];
  nodes = [];
  processes = process false 3 (Delay (at 3) 5 (set_bit 3 0 (number 1 1))) ∷ process false 4 (Delay (at 4) 5 (set_bit 4 1 (number 1 0))) ∷
      process true 5 (wait_for_two 5 Pos 0 Neg 1 (set_vector 5 2 2 (plus_one 2 2))) ∷ [];
}

abbrev pub test_plan : TestPlan
test_plan = plan 9 (2 ∷ []) (8 ∷ []) (variable_fault 2 0 false ∷ [])

-- the grades of the listed faults
abbrev pub Grades : Type 0
Grades = map (grade design test_plan) test_plan.faults ≡ Some (race Good 5 1 Ended 1 2 5 Write 1 1 4) ∷ []

pub grades : Grades
grades = refl
