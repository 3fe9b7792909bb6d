use Rattle.std.proofs.Common.{◌≡◌, [], replicate}
use Rattle.object_names.specs.OutputViews.{output_lists}
use Rattle.object_names.proofs.outputs.empty_lists.Given as goal

abbrev pub invariant-lists : goal.invariant-lists
invariant-lists l = output_lists l.lists.items ≡ replicate l.counter []
