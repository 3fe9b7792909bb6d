use Rattle.std.proofs.Common.{◌≡◌, ◌++◌, map, take}
use Rattle.value_change.specs.declared.change.Change.{Change}
use Rattle.block_told.proofs.notes.add_objects.Given as goal

abbrev pub invariant-changes : goal.invariant-changes
invariant-changes l = l.objects.items ≡ l.initial.objects.items ++ map (λ (change : Change). change.object) (take l.change-index l.changes)
