use Rattle.verdict_words.specs.Plays.{Claimed}
use Rattle.verdict_words.proofs.board.Board.claim.Given as goal

abbrev pub ghosts-fetch_add : goal.ghosts-fetch_add
ghosts-fetch_add g a = record { then = Claimed a.self.now.key.claims }
