use Rattle.std.proofs.Common.{◌-◌}
use Rattle.verdict_words.specs.Codes.{codes_of}
use Rattle.verdict_words.specs.Plays.{Looks}
use Rattle.verdict_words.proofs.board.Board.look.Given as goal

abbrev pub ghosts-load : goal.ghosts-load
ghosts-load g a = record { then = Looks (codes_of g.N.World.design g.N.World.plan) (a.word - 1) }
