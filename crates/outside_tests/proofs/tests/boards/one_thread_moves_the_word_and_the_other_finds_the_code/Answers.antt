use Rattle.verdict_words.proofs.OneFault.{one_fault_code}
use Rattle.outside_tests.proofs.tests.boards.one_thread_moves_the_word_and_the_other_finds_the_code.Goals as goal

pub settle_once-requires-after_bounds : goal.settle_once-requires-after_bounds
settle_once-requires-after_bounds g c κs = one_fault_code
