use Rattle.std.proofs.Common.{◌≡◌, map, drop}
use Rattle.v_design.specs.Plain.{entry_of}
use Rattle.value_change.specs.Changes.{change_seen, matches_one}
use Rattle.process_table.proofs.entries.matches_some.Given as goal

abbrev pub invariant-changes : goal.invariant-changes
invariant-changes l = matches_one (map change_seen l.changes) (entry_of l.entry) ≡ matches_one (map change_seen (drop l.change-index l.changes)) (entry_of l.entry)
