use Rattle.std.proofs.Common.{◌≡◌, take}
use Rattle.v_readers.proofs.lexeme.lexemes.Given as goal

abbrev pub invariant-loop-token : goal.invariant-loop-token
invariant-loop-token l = l.lexemes.items ≡ take l.token-index l.tokens
