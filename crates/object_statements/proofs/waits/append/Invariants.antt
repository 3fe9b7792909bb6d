use Rattle.std.proofs.Common.{◌≡◌, ◌++◌, drop, map}
use Rattle.v_design.specs.Plain.{entry_of}
use Rattle.object_statements.proofs.waits.append.Given as goal

abbrev pub invariant-more : goal.invariant-more
invariant-more l = map entry_of l.entries.items ++ map entry_of (drop l.entry-index l.more) ≡ map entry_of l.initial.entries.items ++ map entry_of l.more
