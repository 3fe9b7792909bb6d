use Rattle.verdict_words.proofs.OneFault.{one_fault_code}
use Rattle.outside_tests.proofs.tests.boards.a_word_is_0_until_it_is_moved.Goals as goal

pub look_round-requires-after_bounds : goal.look_round-requires-after_bounds
look_round-requires-after_bounds g c κs = one_fault_code
