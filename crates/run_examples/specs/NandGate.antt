-- reg a = 0, b = 0; wire y; nand n1(y, a, b); initial begin #10 b = 1; #10 a = 1; #10 b = 0; end
use Rattle.std.specs.Prelude.{◌≡◌, refl, true, false, [], ◌∷◌, Some, map}
use Rattle.v_design.specs.Trees.{Delay}
use Rattle.v_design.specs.Designs.{FlatDesign, TestPlan, GateNode}
use Rattle.v_design.specs.Grades.{grade, Judged, Detected}
use Rattle.run_examples.specs.Build.{at, reg_bit, wire_bit, process, block, set_bit, number, bit_operand, node, terminals, plan, output_fault, terminal_fault}
use Rattle.four_value.specs.declared.logic.Bit.TheVariants.{Zero}
use Rattle.four_value.specs.declared.operator.GateKind.TheVariants.{Nand}

abbrev pub design : FlatDesign
design = record {
  objects = reg_bit Zero ∷ reg_bit Zero ∷ wire_bit ∷ [];
  joined = [];
  nodes = node (GateNode Nand (terminals (bit_operand 0 ∷ bit_operand 1 ∷ []))) (0 ∷ 1 ∷ []) (2 ∷ []) ∷ [];
  processes = process false 4 (block (Delay (at 4) 10 (set_bit 4 1 (number 1 1)) ∷ Delay (at 4) 10 (set_bit 4 0 (number 1 1)) ∷ Delay (at 4) 10 (set_bit 4 1 (number 1 0)) ∷ [])) ∷ [];
}

abbrev pub test_plan : TestPlan
test_plan = plan 40 (2 ∷ []) (5 ∷ 15 ∷ 25 ∷ 35 ∷ []) (terminal_fault 0 1 false ∷ terminal_fault 0 2 false ∷ output_fault 0 2 0 true ∷ terminal_fault 0 1 true ∷ terminal_fault 0 2 true ∷
    output_fault 0 2 0 false ∷ [])

-- the grades of the listed faults
abbrev pub Grades : Type 0
Grades = map (grade design test_plan) test_plan.faults ≡ Some (Judged (Detected 25)) ∷ Some (Judged (Detected 25)) ∷ Some (Judged (Detected 25)) ∷ Some (Judged (Detected 15)) ∷
    Some (Judged (Detected 35)) ∷ Some (Judged (Detected 5)) ∷ []

pub grades : Grades
grades = refl
