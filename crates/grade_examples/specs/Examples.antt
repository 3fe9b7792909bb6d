-- What the definitions of full grades, certificates, fits and kept strobes give of worked designs; the design stands at the head of its file.
use Rattle.grade_examples.specs.OneProcess as one_process_example
use Rattle.grade_examples.specs.TwoStageShift as two_stage_shift_example
use Rattle.grade_examples.specs.PossibleAndRaced as possible_and_raced_example

-- each example has what stands in its file
pub record WorkedGrades : Type 0 where
  pub one_process : one_process_example.Holds
  pub two_stage_shift : two_stage_shift_example.Holds
  pub possible_and_raced : possible_and_raced_example.Holds

pub worked_grades : WorkedGrades
worked_grades = record {
  one_process = one_process_example.holds;
  two_stage_shift = two_stage_shift_example.holds;
  possible_and_raced = possible_and_raced_example.holds;
}
