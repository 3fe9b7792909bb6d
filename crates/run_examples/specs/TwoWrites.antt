-- reg q; initial begin q = 0; #10 q = 1; end
use Rattle.std.specs.Prelude.{◌≡◌, refl, true, false, [], ◌∷◌, Some, map}
use Rattle.v_design.specs.Trees.{Delay}
use Rattle.v_design.specs.Designs.{FlatDesign, TestPlan}
use Rattle.v_design.specs.Grades.{grade, Judged, Detected}
use Rattle.run_examples.specs.Build.{at, reg_bit, process, block, set_bit, number, variable_fault}
use Rattle.four_value.specs.declared.logic.Bit.TheVariants.{X}

abbrev pub design : FlatDesign
design = record {
  objects = reg_bit X ∷ [];
  joined = [];
  nodes = [];
  processes = process false 3 (block (set_bit 3 0 (number 1 0) ∷ Delay (at 3) 10 (set_bit 3 0 (number 1 1)) ∷ [])) ∷ [];
}

abbrev pub test_plan : TestPlan
test_plan = record {
  end = 20;
  strobes = 5 ∷ 15 ∷ [];
  watched = record { object = 0; bit = 0 } ∷ [];
  faults = variable_fault 0 0 false ∷ variable_fault 0 0 true ∷ [];
}

-- the grades of the listed faults
abbrev pub Grades : Type 0
Grades = map (grade design test_plan) test_plan.faults ≡ Some (Judged (Detected 15)) ∷ Some (Judged (Detected 5)) ∷ []

pub grades : Grades
grades = refl
