-- Its beginning, its slots and its end are asked, one after the other.
use Rattle.std.proofs.Common.{arith}
use Rattle.shard_windows.proofs.advance.has_first_alone.Goals as goal

pub returns-in-Open-clause-first : goal.returns-in-Open-clause-first
returns-in-Open-clause-first g c = λ yes. omega (arith, c.begins.ensures.number, c.if-begins-ne0.false)

pub returns-in-Open-clause-one : goal.returns-in-Open-clause-one
returns-in-Open-clause-one g c = λ yes. omega (arith, c.begins.ensures.number, c.if-begins-ne0.false, c.slots.ensures, c.if-slots-ne1.false)
