-- reg done = 0; reg [3:0] n = 0; always wait (done) n = n + 1; -- the wait goes on once done is 1; with done held at 1 the loop takes no time
use Rattle.std.specs.Prelude.{◌≡◌, refl, true, false, [], ◌∷◌, Some, map}
use Rattle.v_design.specs.Trees.{Wait}
use Rattle.v_design.specs.Designs.{FlatDesign, TestPlan}
use Rattle.v_design.specs.Grades.{grade, Judged, Detected}
use Rattle.run_examples.specs.Build.{at, reg_bit, reg_vector, process, set_vector, bit_operand, plus_one, variable_fault}
use Rattle.run_examples.specs.SignedValues.{bits_watched}
use Rattle.four_value.specs.declared.logic.Bit.TheVariants.{Zero}

abbrev pub design : FlatDesign
design = record {
  objects = reg_bit Zero ∷ reg_vector 4 0 ∷ [];
  joined = [];
  nodes = [];
  processes = process true 3 (Wait (at 3) (bit_operand 0) (set_vector 3 1 4 (plus_one 1 4))) ∷ [];
}

abbrev pub test_plan : TestPlan
test_plan = record {
  end = 10;
  strobes = 5 ∷ [];
  watched = bits_watched 1 4;
  faults = variable_fault 1 0 true ∷ [];
}

-- the grades of the listed faults
abbrev pub Grades : Type 0
Grades = map (grade design test_plan) test_plan.faults ≡ Some (Judged (Detected 5)) ∷ []

pub grades : Grades
grades = refl
