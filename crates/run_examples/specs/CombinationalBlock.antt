-- reg a = 0, b = 0, y; initial #5 begin a = 1; b = 1; end always @* y = a & b; -- the block is a node
use Rattle.std.specs.Prelude.{◌≡◌, refl, false, [], ◌∷◌, Some, map}
use Rattle.v_design.specs.Trees.{Delay}
use Rattle.v_design.specs.Designs.{FlatDesign, TestPlan, BlockNode}
use Rattle.v_design.specs.Grades.{grade, Judged, Detected}
use Rattle.run_examples.specs.Build.{at, reg_bit, wire_bit, process, block, set_bit, number, bit_operand, and_of, node, plan, output_fault}
use Rattle.four_value.specs.declared.logic.Bit.TheVariants.{Zero}

abbrev pub design : FlatDesign
design = record {
  objects = reg_bit Zero ∷ reg_bit Zero ∷ wire_bit ∷ [];
  joined = [];
  nodes = node (BlockNode (set_bit 4 2 (and_of (bit_operand 0) (bit_operand 1)))) (0 ∷ 1 ∷ []) (2 ∷ []) ∷ [];
  processes = process false 3 (Delay (at 3) 5 (block (set_bit 3 0 (number 1 1) ∷ set_bit 3 1 (number 1 1) ∷ []))) ∷ [];
}

abbrev pub test_plan : TestPlan
test_plan = plan 9 (2 ∷ []) (8 ∷ []) (output_fault 0 2 0 false ∷ [])

-- the grades of the listed faults
abbrev pub Grades : Type 0
Grades = map (grade design test_plan) test_plan.faults ≡ Some (Judged (Detected 8)) ∷ []

pub grades : Grades
grades = refl
