use Rattle.std.proofs.Common.{◌≡◌, take}
use Rattle.elab_wires.specs.Held.{all_pieces}
use Rattle.elab_objects.specs.ObjectViews.{held_objects}
use Rattle.object_names.specs.NameViews.{pieces_listed}
use Rattle.object_names.proofs.tables.list_pieces.Given as goal

abbrev pub invariant-objects : goal.invariant-objects
invariant-objects l = pieces_listed l.items.items ≡ all_pieces 0 (held_objects (take l.number l.objects))
