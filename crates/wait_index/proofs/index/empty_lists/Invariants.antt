use Rattle.std.proofs.Common.{◌≡◌, [], replicate}
use Rattle.wait_index.specs.Index.{process_lists}
use Rattle.wait_index.proofs.index.empty_lists.Given as goal

abbrev pub invariant-lists : goal.invariant-lists
invariant-lists l = process_lists l.lists.items ≡ replicate l.counter []
