use Rattle.std.proofs.Common.{arith}
use Rattle.number_set.proofs.WordLaws.{word-empty, word-first}
use Rattle.number_set.proofs.word.first_bit.Goals as goal

pub returns-then-rest-eq0 : goal.returns-then-rest-eq0
returns-then-rest-eq0 c = λ number low within. word-empty c.args.word c.args.from c.if-rest-eq0.true number low

pub returns : goal.returns
returns c = word-first c.args.word c.args.from c.requires (omega arith) c.if-rest-eq0.false
