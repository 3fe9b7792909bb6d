use Rattle.std.proofs.Common.{◌≡◌, ◌++◌, map, take}
use Rattle.causal_monitor.specs.Notes.{noted_access}
use Rattle.trace_window.specs.Writes.{written_of, writes_in}
use Rattle.trace_window.proofs.list.push_writes.Given as goal

abbrev pub invariant-accesses : goal.invariant-accesses
invariant-accesses l = map written_of l.changes.items ≡ map written_of l.fn.changes.items ++ writes_in l.moment (map noted_access (take l.noted-index l.accesses))
