-- The grades of the worked examples; the text of each stands at the head of its file.
use Rattle.run_examples.specs.TwoWrites as one_process_example
use Rattle.run_examples.specs.Clocked as two_stage_shift_example
use Rattle.run_examples.specs.ClockedBlocking as blocking_race_example
use Rattle.run_examples.specs.ZeroDelay as zero_delay_example
use Rattle.run_examples.specs.TwoUpdates as two_updates_example
use Rattle.run_examples.specs.TwoLanes as two_lanes_example
use Rattle.run_examples.specs.Glitch as glitch_example
use Rattle.run_examples.specs.GatedClock as gated_clock_example
use Rattle.run_examples.specs.GatedClockRace as gated_clock_race_example
use Rattle.run_examples.specs.ResetAtStart as reset_at_start_example
use Rattle.run_examples.specs.ResetLater as reset_later_example
use Rattle.run_examples.specs.TwoEdges as two_edges_example
use Rattle.run_examples.specs.CombinationalBlock as combinational_block_example
use Rattle.run_examples.specs.CombinationalBlockStrict as combinational_block_strict_example
use Rattle.run_examples.specs.PossibleDetection as possible_detection_example
use Rattle.run_examples.specs.PossibleThenHard as possible_then_hard_example
use Rattle.run_examples.specs.FaultyRaceAfterStrobe as faulty_race_after_strobe_example
use Rattle.run_examples.specs.FaultyRace as faulty_race_example
use Rattle.run_examples.specs.SharedRead as shared_read_example
use Rattle.run_examples.specs.NandGate as nand_gate_example
use Rattle.run_examples.specs.XorGate as xor_gate_example
use Rattle.run_examples.specs.CarryBit as carry_bit_example
use Rattle.run_examples.specs.WaitLoop as wait_loop_example
use Rattle.run_examples.specs.OperatorValues as operator_values_example
use Rattle.run_examples.specs.SignedValues as signed_values_example
use Rattle.run_examples.specs.Features as features_example
use Rattle.run_examples.specs.Copies as copies_example

-- each example has its grades
pub record WorkedExamples : Type 0 where
  pub one_process : one_process_example.Grades
  pub two_stage_shift : two_stage_shift_example.Grades
  pub blocking_race : blocking_race_example.Grades
  pub zero_delay : zero_delay_example.Grades
  pub two_updates : two_updates_example.Grades
  pub two_lanes : two_lanes_example.Grades
  pub glitch : glitch_example.Grades
  pub gated_clock : gated_clock_example.Grades
  pub gated_clock_race : gated_clock_race_example.Grades
  pub reset_at_start : reset_at_start_example.Grades
  pub reset_later : reset_later_example.Grades
  pub two_edges : two_edges_example.Grades
  pub combinational_block : combinational_block_example.Grades
  pub combinational_block_strict : combinational_block_strict_example.Grades
  pub possible_detection : possible_detection_example.Grades
  pub possible_then_hard : possible_then_hard_example.Grades
  pub faulty_race_after_strobe : faulty_race_after_strobe_example.Grades
  pub faulty_race : faulty_race_example.Grades
  pub shared_read : shared_read_example.Grades
  pub nand_gate : nand_gate_example.Grades
  pub xor_gate : xor_gate_example.Grades
  pub carry_bit : carry_bit_example.Grades
  pub wait_loop : wait_loop_example.Grades

pub worked_examples : WorkedExamples
worked_examples = record {
  one_process = one_process_example.grades;
  two_stage_shift = two_stage_shift_example.grades;
  blocking_race = blocking_race_example.grades;
  zero_delay = zero_delay_example.grades;
  two_updates = two_updates_example.grades;
  two_lanes = two_lanes_example.grades;
  glitch = glitch_example.grades;
  gated_clock = gated_clock_example.grades;
  gated_clock_race = gated_clock_race_example.grades;
  reset_at_start = reset_at_start_example.grades;
  reset_later = reset_later_example.grades;
  two_edges = two_edges_example.grades;
  combinational_block = combinational_block_example.grades;
  combinational_block_strict = combinational_block_strict_example.grades;
  possible_detection = possible_detection_example.grades;
  possible_then_hard = possible_then_hard_example.grades;
  faulty_race_after_strobe = faulty_race_after_strobe_example.grades;
  faulty_race = faulty_race_example.grades;
  shared_read = shared_read_example.grades;
  nand_gate = nand_gate_example.grades;
  xor_gate = xor_gate_example.grades;
  carry_bit = carry_bit_example.grades;
  wait_loop = wait_loop_example.grades;
}

-- the answers of operators, small runs of every statement, signed values, and the steps of a faulty machine that the good one doesn't take, each as it stands in its file
pub record WorkedRuns : Type 0 where
  pub operator_values : operator_values_example.Holds
  pub signed_values : signed_values_example.Holds
  pub features : features_example.Holds
  pub copies : copies_example.Holds

pub worked_runs : WorkedRuns
worked_runs = record {
  operator_values = operator_values_example.holds;
  signed_values = signed_values_example.holds;
  features = features_example.holds;
  copies = copies_example.holds;
}
