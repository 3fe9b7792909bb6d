use Rattle.std.proofs.Common.{map, take}
use Rattle.vf_base.specs.Base.{object_number}
use Rattle.event_causes.specs.Causes.{Marks}
use Rattle.event_causes.proofs.marks.mark_objects.Given as goal

abbrev pub invariant-objects : goal.invariant-objects
invariant-objects l = Marks (map object_number (take l.object-index l.objects)) l.number l.initial.table.items l.table.items
