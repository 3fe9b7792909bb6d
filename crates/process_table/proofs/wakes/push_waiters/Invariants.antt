use Rattle.std.proofs.Common.{◌≡◌, ◌++◌, map, take}
use Rattle.vf_base.specs.Base.{process_number}
use Rattle.process_table.proofs.wakes.push_waiters.Given as goal

abbrev pub invariant-waiters : goal.invariant-waiters
invariant-waiters l = l.candidates.items ≡ l.fn.candidates.items ++ map process_number (take l.process-index l.process-items)
