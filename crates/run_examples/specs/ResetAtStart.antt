-- reg rst, q = 0; initial rst = 0; always @(negedge rst) q = 1; -- the write and the beginning of the wait race at 0
use Rattle.std.specs.Prelude.{◌≡◌, refl, true, false, [], ◌∷◌, Some, map}
use Rattle.v_design.specs.Designs.{FlatDesign, TestPlan}
use Rattle.v_design.specs.Grades.{grade}
use Rattle.run_examples.specs.Build.{reg_bit, process, set_bit, number, wait_for, plan, variable_fault, race}
use Rattle.four_value.specs.declared.logic.Bit.TheVariants.{Zero, X}
use Rattle.four_value.specs.declared.logic.Edge.TheVariants.{Neg}
use Rattle.vf_base.specs.declared.finding.Side.TheVariants.{Good}
use Rattle.vf_base.specs.declared.finding.AccessKind.TheVariants.{Write, Await}

abbrev pub design : FlatDesign
design = record {
  objects = reg_bit X ∷ reg_bit Zero ∷ [];
  joined = [];
  nodes = [];
  processes = process false 3 (set_bit 3 0 (number 1 0)) ∷ process true 4 (wait_for 4 Neg 0 (set_bit 4 1 (number 1 1))) ∷ [];
}

abbrev pub test_plan : TestPlan
test_plan = plan 5 (1 ∷ []) (3 ∷ []) (variable_fault 1 0 false ∷ [])

-- the grades of the listed faults
abbrev pub Grades : Type 0
Grades = map (grade design test_plan) test_plan.faults ≡ Some (race Good 0 1 Write 0 0 3 Await 0 1 4) ∷ []

pub grades : Grades
grades = refl
