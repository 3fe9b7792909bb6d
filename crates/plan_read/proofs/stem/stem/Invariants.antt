use Rattle.std.proofs.Common.{◌≡◌, ◌++◌, take, drop}
use Rattle.plan_read.specs.Stems.{stem}
use Rattle.plan_read.proofs.stem.stem.Given as goal

abbrev pub invariant-bytes : goal.invariant-bytes
invariant-bytes l = stem l.word ≡ take l.i l.word ++ stem (drop l.i l.word)
