use Rattle.std.proofs.Common.{◌≡◌, map, take, None}
use Rattle.vf_base.specs.Lists.{first_place}
use Rattle.v_design.specs.Plain.{entry_of}
use Rattle.value_change.specs.Changes.{change_seen, matches_one}
use Rattle.process_table.proofs.entries.first_matching.Given as goal

abbrev pub invariant-entries : goal.invariant-entries
invariant-entries l = first_place (matches_one (map change_seen l.changes)) (map entry_of (take l.place l.entries)) ≡ None
