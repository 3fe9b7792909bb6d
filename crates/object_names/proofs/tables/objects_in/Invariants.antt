use Rattle.std.proofs.Common.{◌≡◌, take, map}
use Rattle.vf_base.specs.Base.{object_number}
use Rattle.object_names.specs.NameViews.{objects_in}
use Rattle.object_names.proofs.tables.objects_in.Given as goal

abbrev pub invariant-pieces : goal.invariant-pieces
invariant-pieces l = map object_number l.objects.items ≡ objects_in (take l.piece-index l.pieces)
