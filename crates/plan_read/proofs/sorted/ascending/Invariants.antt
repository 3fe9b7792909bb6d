use Rattle.std.proofs.Common.{take}
use Rattle.plan_read.proofs.KeptTimes.{Keeps}
use Rattle.plan_read.proofs.sorted.ascending.Given as goal

abbrev pub invariant-loop-time : goal.invariant-loop-time
invariant-loop-time l = Keeps (take l.time-index l.time-items) l.kept.items l.last
