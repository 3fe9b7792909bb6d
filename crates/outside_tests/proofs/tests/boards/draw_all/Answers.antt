use Rattle.std.proofs.Common.{arith}
use Rattle.outside_tests.proofs.tests.boards.draw_all.Goals as goal

pub claim-next-requires-clause-share : goal.claim-next-requires-clause-share
claim-next-requires-clause-share g c κs within = let few = c.args.board.now.few in omega arith
