use Rattle.std.proofs.Common.{◌≡◌, ◌++◌, map, take}
use Rattle.process_table.specs.Noted.{noted_entry}
use Rattle.process_table.proofs.entries.push_entries.Given as goal

abbrev pub invariant-entries : goal.invariant-entries
invariant-entries l = l.accesses.items ≡ l.fn.accesses.items ++ map (noted_entry l.kind l.process l.line) (take l.entry-index l.entries)
