use Rattle.v_design.specs.Designs.{empty_design}
use Rattle.verdict_words.proofs.OneFault.{one_fault_plan}
use Rattle.outside_tests.proofs.tests.boards.one_thread_moves_the_word_and_the_other_finds_the_code.Given as goal

abbrev pub ghosts-settle_once : goal.ghosts-settle_once
ghosts-settle_once b a = record { design = empty_design; plan = one_fault_plan }
