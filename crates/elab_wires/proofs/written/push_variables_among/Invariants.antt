use Rattle.std.proofs.Common.{◌≡◌, ◌++◌, take, map}
use Rattle.key_index.specs.Places.{keys_of}
use Rattle.elab_parts.specs.PartViews.{process_of}
use Rattle.elab_wires.specs.WrittenNames.{written_of, written_by}
use Rattle.elab_wires.specs.Assigned.{variables_among}
use Rattle.elab_wires.proofs.written.push_variables_among.Given as goal

abbrev pub invariant-names : goal.invariant-names
invariant-names l = map written_of l.written.items ≡ map written_of l.initial.written.items ++ written_by l.part (variables_among (process_of l.process) (keys_of (take l.name-index l.names)))
