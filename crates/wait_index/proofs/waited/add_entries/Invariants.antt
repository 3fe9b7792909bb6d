use Rattle.std.proofs.Common.{◌≡◌, ◌++◌, map, drop}
use Rattle.vf_base.specs.Base.{object_number}
use Rattle.v_design.specs.Plain.{entry_of}
use Rattle.wait_index.specs.Waits.{entry_objects}
use Rattle.wait_index.proofs.waited.add_entries.Given as goal

abbrev pub invariant-entries : goal.invariant-entries
invariant-entries l = map object_number l.objects.items ++ entry_objects (map entry_of (drop l.entry-index l.entries)) ≡ map object_number l.initial.objects.items
    ++ entry_objects (map entry_of l.entries)
