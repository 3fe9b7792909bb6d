-- A world for the tests: a design that has nothing, and a plan that ends at once with one fault, which stays undetected.
use Rattle.std.proofs.Common.{refl, [], ◌∷◌, true}
use Rattle.v_design.specs.Designs.{StuckAt, TestPlan, VariableBit, empty_design}
use Rattle.v_design.specs.Grades.{Judged, Undetected}
use Rattle.verdict_words.specs.Codes.{IsCode}
use Rattle.verdict_words.specs.CodeLaws.{IsCode-grade}

-- bit 0 of object 0, held at 1
abbrev pub one_fault : StuckAt
one_fault = record { site = VariableBit 0 0; value = true }

-- the plan
abbrev pub one_fault_plan : TestPlan
one_fault_plan = record { end = 0; strobes = []; watched = []; faults = one_fault ∷ [] }

-- the code of an undetected fault is 3
pub one_fault_code : IsCode empty_design one_fault_plan 0 3
one_fault_code = IsCode-grade empty_design one_fault_plan 0 one_fault (Judged Undetected) refl refl
