use Rattle.std.proofs.Common.{◌≡◌, ◌++◌, drop, map}
use Rattle.vf_base.specs.Base.{object_number}
use Rattle.v_design.specs.Plain.{entry_of}
use Rattle.v_elab.specs.Statements.{whole_entry}
use Rattle.object_waits.proofs.entries.whole_entries.Given as goal

abbrev pub invariant-objects : goal.invariant-objects
invariant-objects l = map entry_of l.entries.items ++ map (whole_entry l.widths) (map object_number (drop l.object-index l.objects)) ≡ map (whole_entry l.widths) (map object_number l.objects)
