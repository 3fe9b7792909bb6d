use Rattle.std.proofs.Common.{◌≡◌, map}
use Rattle.v_design.specs.Plain.{object_of}
use Rattle.elab_objects.specs.ObjectViews.{held_objects}
use Rattle.elaborate.specs.Elements.{objects_held}
use Rattle.elaborate.proofs.tables.objects_alone.Given as goal

abbrev pub invariant-held : goal.invariant-held
invariant-held l = map object_of l.objects.items ≡ objects_held (held_objects l.yielded)
