use Rattle.v_design.specs.Designs.{empty_design}
use Rattle.verdict_words.proofs.OneFault.{one_fault_plan}
use Rattle.outside_tests.proofs.tests.boards.a_word_is_0_until_it_is_moved.Given as goal

abbrev pub ghosts-look_round : goal.ghosts-look_round
ghosts-look_round b a = record { design = empty_design; plan = one_fault_plan }
