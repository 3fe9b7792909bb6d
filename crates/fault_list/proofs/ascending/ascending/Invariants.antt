use Rattle.std.proofs.Common.{take}
use Rattle.fault_list.proofs.Sorted.{Keeps}
use Rattle.fault_list.proofs.ascending.ascending.Given as goal

abbrev pub invariant-loop-number : goal.invariant-loop-number
invariant-loop-number l = Keeps (take l.number-index l.number-items) l.kept.items l.last
