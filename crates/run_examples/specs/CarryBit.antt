-- reg [3:0] a = 15, b = 1; reg [4:0] s, t; initial begin s = a + b; t = {a + b}; end -- the sum has the size of its context, and within braces its own
use Rattle.std.specs.Prelude.{◌≡◌, refl, true, false, [], ◌∷◌, ◌++◌, Some, map, replicate}
use Rattle.v_design.specs.Trees.{Expression, Binary, Concatenation}
use Rattle.v_design.specs.Designs.{FlatDesign, TestPlan}
use Rattle.v_design.specs.Grades.{grade, Judged, Detected}
use Rattle.run_examples.specs.Build.{at, object, reg_vector, process, block, set_vector, operand, terminals, variable_fault}
use Rattle.run_examples.specs.SignedValues.{bits_watched}
use Rattle.four_value.specs.declared.logic.Bit.TheVariants.{X}
use Rattle.v_design.specs.declared.logic.ObjectKind.TheVariants.{Var}
use Rattle.four_value.specs.declared.operator.BinaryOperator.TheVariants.{Add}

abbrev pub design : FlatDesign
design = record {
  objects = reg_vector 4 15 ∷ reg_vector 4 1 ∷ object Var 5 (replicate 5 X) ∷ object Var 5 (replicate 5 X) ∷ [];
  joined = [];
  nodes = [];
  processes = process false 3 (block
      (set_vector 3 2 5 (Binary 5 false Add (operand 0 4 5) (operand 1 4 5))
      ∷ set_vector 3 3 5 (Concatenation 5 false (terminals (Binary 4 false Add (operand 0 4 4) (operand 1 4 4) ∷ [])))
      ∷ [])) ∷ [];
}

abbrev pub test_plan : TestPlan
test_plan = record {
  end = 2;
  strobes = 1 ∷ [];
  watched = bits_watched 2 5 ++ bits_watched 3 5;
  faults = variable_fault 2 4 false ∷ variable_fault 3 4 true ∷ [];
}

-- the grades of the listed faults
abbrev pub Grades : Type 0
Grades = map (grade design test_plan) test_plan.faults ≡ replicate 2 (Some (Judged (Detected 1)))

pub grades : Grades
grades = refl
