-- reg a = 0, b = 0; reg [3:0] n = 0; wire g; assign g = a ^ b; initial #10 begin a <= 1; b <= 1; end always @(posedge g) n <= n + 1; -- whether g pulses is free
use Rattle.std.specs.Prelude.{◌≡◌, refl, true, false, [], ◌∷◌, Some, map}
use Rattle.v_design.specs.Trees.{Delay}
use Rattle.v_design.specs.Designs.{FlatDesign, TestPlan, AssignNode}
use Rattle.v_design.specs.Grades.{grade}
use Rattle.run_examples.specs.Build.{at, reg_bit, reg_vector, wire_bit, process, block, later_bit, later_vector, number, bit_operand, xor_of, plus_one, wait_for, node, plan, variable_fault, race}
use Rattle.four_value.specs.declared.logic.Bit.TheVariants.{Zero}
use Rattle.four_value.specs.declared.logic.Edge.TheVariants.{Pos}
use Rattle.vf_base.specs.declared.finding.Side.TheVariants.{Good}
use Rattle.vf_base.specs.declared.finding.AccessKind.TheVariants.{Held, Settle}

abbrev pub design : FlatDesign
design = record {
  objects = reg_bit Zero ∷ reg_bit Zero ∷ reg_vector 4 0 ∷ wire_bit ∷ [];
  joined = [];
  nodes = node (AssignNode (xor_of (bit_operand 0) (bit_operand 1)) (0 ∷ [])) (0 ∷ 1 ∷ []) (3 ∷ []) ∷ [];
  processes = process false 5 (Delay (at 5) 10 (block (later_bit 5 0 (number 1 1) ∷ later_bit 5 1 (number 1 1) ∷ []))) ∷ process true 6 (wait_for 6 Pos 3 (later_vector 6 2 4 (plus_one 2 4))) ∷ [];
}

abbrev pub test_plan : TestPlan
test_plan = plan 20 (2 ∷ []) (12 ∷ []) (variable_fault 0 0 false ∷ [])

-- the grades of the listed faults
abbrev pub Grades : Type 0
Grades = map (grade design test_plan) test_plan.faults ≡ Some (race Good 10 2 Held 3 1 6 Settle 3 0 5) ∷ []

pub grades : Grades
grades = refl
