-- as CombinationalBlock, with the block as a process: its reads race with the writes
use Rattle.std.specs.Prelude.{◌≡◌, refl, true, false, [], ◌∷◌, Some, map}
use Rattle.v_design.specs.Trees.{Delay}
use Rattle.v_design.specs.Designs.{FlatDesign, TestPlan}
use Rattle.v_design.specs.Grades.{grade}
use Rattle.run_examples.specs.Build.{at, reg_bit, process, block, set_bit, number, bit_operand, and_of, wait_for_two, plan, variable_fault, race}
use Rattle.four_value.specs.declared.logic.Bit.TheVariants.{Zero, X}
use Rattle.four_value.specs.declared.logic.Edge.TheVariants.{Any}
use Rattle.vf_base.specs.declared.finding.Side.TheVariants.{Good}
use Rattle.vf_base.specs.declared.finding.AccessKind.TheVariants.{Read, Write}

abbrev pub design : FlatDesign
design = record {
  objects = reg_bit Zero ∷ reg_bit Zero ∷ reg_bit X ∷ [];
  joined = [];
  nodes = [];
  processes = process false 3 (Delay (at 3) 5 (block (set_bit 3 0 (number 1 1) ∷ set_bit 3 1 (number 1 1) ∷ []))) ∷
      process true 4 (wait_for_two 4 Any 0 Any 1 (set_bit 4 2 (and_of (bit_operand 0) (bit_operand 1)))) ∷ [];
}

abbrev pub test_plan : TestPlan
test_plan = plan 9 (2 ∷ []) (8 ∷ []) (variable_fault 2 0 false ∷ [])

-- the grades of the listed faults
abbrev pub Grades : Type 0
Grades = map (grade design test_plan) test_plan.faults ≡ Some (race Good 5 1 Write 1 0 3 Read 1 1 4) ∷ []

pub grades : Grades
grades = refl
