-- What the definitions of the flat design give of each text; the text stands at the head of its file or of its tree.
use Rattle.elab_examples.specs.Ascending as ascending_texts
use Rattle.elab_examples.specs.BlockOverPort as block_over_port_texts
use Rattle.elab_examples.specs.BlockStrict as block_strict_texts
use Rattle.elab_examples.specs.BlockUsual as block_usual_texts
use Rattle.elab_examples.specs.Calls as calls_texts
use Rattle.elab_examples.specs.Carry as carry_texts
use Rattle.elab_examples.specs.Circle as circle_texts
use Rattle.elab_examples.specs.CircleOpened as circle_opened_texts
use Rattle.elab_examples.specs.Connections as connections_texts
use Rattle.elab_examples.specs.CutPiece as cut_piece_texts
use Rattle.elab_examples.specs.DeepInstances as deep_instances_texts
use Rattle.elab_examples.specs.DefaultInText as default_in_text_texts
use Rattle.elab_examples.specs.EdgesOnPieces as edges_on_pieces_texts
use Rattle.elab_examples.specs.EmptyBlock as empty_block_texts
use Rattle.elab_examples.specs.Integers as integers_texts
use Rattle.elab_examples.specs.JoinedReg as joined_reg_texts
use Rattle.elab_examples.specs.LevelsOfModules as levels_of_modules_texts
use Rattle.elab_examples.specs.LoopOfTwo as loop_of_two_texts
use Rattle.elab_examples.specs.Loops as loops_texts
use Rattle.elab_examples.specs.MemoryTooLong as memory_too_long_texts
use Rattle.elab_examples.specs.NandGate as nand_gate_texts
use Rattle.elab_examples.specs.NegativeBound as negative_bound_texts
use Rattle.elab_examples.specs.NoSuchTop as no_such_top_texts
use Rattle.elab_examples.specs.OutOfRangeDrive as out_of_range_drive_texts
use Rattle.elab_examples.specs.ParentReg as parent_reg_texts
use Rattle.elab_examples.specs.ReadByOtherName as read_by_other_name_texts
use Rattle.elab_examples.specs.SignedParameters as signed_parameters_texts
use Rattle.elab_examples.specs.SignedShift as signed_shift_texts
use Rattle.elab_examples.specs.StarWait as star_wait_texts
use Rattle.elab_examples.specs.TwoBlocksOneReg as two_blocks_one_reg_texts
use Rattle.elab_examples.specs.TwoDriversOfBit as two_drivers_of_bit_texts
use Rattle.elab_examples.specs.TwoRegs as two_regs_texts
use Rattle.elab_examples.specs.VectorTooWide as vector_too_wide_texts
use Rattle.elab_examples.specs.WideProduct as wide_product_texts
use Rattle.elab_examples.specs.XorGate as xor_gate_texts

-- each text has the answer that stands beside it
pub record WorkedTexts : Type 0 where
  pub ascending : ascending_texts.Holds
  pub block_over_port : block_over_port_texts.Holds
  pub block_strict : block_strict_texts.Holds
  pub block_usual : block_usual_texts.Holds
  pub calls : calls_texts.Holds
  pub carry : carry_texts.Holds
  pub circle : circle_texts.Holds
  pub circle_opened : circle_opened_texts.Holds
  pub connections : connections_texts.Holds
  pub cut_piece : cut_piece_texts.Holds
  pub deep_instances : deep_instances_texts.Holds
  pub default_in_text : default_in_text_texts.Holds
  pub edges_on_pieces : edges_on_pieces_texts.Holds
  pub empty_block : empty_block_texts.Holds
  pub integers : integers_texts.Holds
  pub joined_reg : joined_reg_texts.Holds
  pub levels_of_modules : levels_of_modules_texts.Holds
  pub loop_of_two : loop_of_two_texts.Holds
  pub loops : loops_texts.Holds
  pub memory_too_long : memory_too_long_texts.Holds
  pub nand_gate : nand_gate_texts.Holds
  pub negative_bound : negative_bound_texts.Holds
  pub no_such_top : no_such_top_texts.Holds
  pub out_of_range_drive : out_of_range_drive_texts.Holds
  pub parent_reg : parent_reg_texts.Holds
  pub read_by_other_name : read_by_other_name_texts.Holds
  pub signed_parameters : signed_parameters_texts.Holds
  pub signed_shift : signed_shift_texts.Holds
  pub star_wait : star_wait_texts.Holds
  pub two_blocks_one_reg : two_blocks_one_reg_texts.Holds
  pub two_drivers_of_bit : two_drivers_of_bit_texts.Holds
  pub two_regs : two_regs_texts.Holds
  pub vector_too_wide : vector_too_wide_texts.Holds
  pub wide_product : wide_product_texts.Holds
  pub xor_gate : xor_gate_texts.Holds

pub worked_texts : WorkedTexts
worked_texts = record {
  ascending = ascending_texts.holds;
  block_over_port = block_over_port_texts.holds;
  block_strict = block_strict_texts.holds;
  block_usual = block_usual_texts.holds;
  calls = calls_texts.holds;
  carry = carry_texts.holds;
  circle = circle_texts.holds;
  circle_opened = circle_opened_texts.holds;
  connections = connections_texts.holds;
  cut_piece = cut_piece_texts.holds;
  deep_instances = deep_instances_texts.holds;
  default_in_text = default_in_text_texts.holds;
  edges_on_pieces = edges_on_pieces_texts.holds;
  empty_block = empty_block_texts.holds;
  integers = integers_texts.holds;
  joined_reg = joined_reg_texts.holds;
  levels_of_modules = levels_of_modules_texts.holds;
  loop_of_two = loop_of_two_texts.holds;
  loops = loops_texts.holds;
  memory_too_long = memory_too_long_texts.holds;
  nand_gate = nand_gate_texts.holds;
  negative_bound = negative_bound_texts.holds;
  no_such_top = no_such_top_texts.holds;
  out_of_range_drive = out_of_range_drive_texts.holds;
  parent_reg = parent_reg_texts.holds;
  read_by_other_name = read_by_other_name_texts.holds;
  signed_parameters = signed_parameters_texts.holds;
  signed_shift = signed_shift_texts.holds;
  star_wait = star_wait_texts.holds;
  two_blocks_one_reg = two_blocks_one_reg_texts.holds;
  two_drivers_of_bit = two_drivers_of_bit_texts.holds;
  two_regs = two_regs_texts.holds;
  vector_too_wide = vector_too_wide_texts.holds;
  wide_product = wide_product_texts.holds;
  xor_gate = xor_gate_texts.holds;
}
