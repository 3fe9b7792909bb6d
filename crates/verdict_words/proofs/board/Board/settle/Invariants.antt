use Rattle.std.proofs.Common.{◌-◌}
use Rattle.verdict_words.specs.Codes.{codes_of}
use Rattle.verdict_words.specs.Plays.{Settles}
use Rattle.verdict_words.proofs.board.Board.settle.Given as goal

abbrev pub ghosts-compare_exchange : goal.ghosts-compare_exchange
ghosts-compare_exchange g a = record { then = Settles (codes_of g.N.World.design g.N.World.plan) (a.word - 1) a.new }
