-- So far each is there.
use Rattle.std.proofs.Common.{◌≡◌, ℕ, ◌<◌, true, map, take}
use Rattle.vf_base.specs.Base.{object_number}
use Rattle.vf_base.specs.Lists.{has}
use Rattle.block_compare.proofs.alike.are_objects.Given as goal

abbrev pub invariant-objects : goal.invariant-objects
invariant-objects l = (object : ℕ) → has (map object_number (take l.place l.objects)) object ≡ true → object < l.count
