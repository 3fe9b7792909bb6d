use Rattle.std.proofs.Common.{◌≡◌, ◌+◌, drop}
use Rattle.v_design.specs.PlainLemmas.{items_of}
use Rattle.process_operands.specs.Bounds.{reads_most_items}
use Rattle.process_operands.proofs.room.most_case_reads.Given as goal

abbrev pub invariant-items : goal.invariant-items
invariant-items l = l.labels + reads_most_items (items_of (drop l.item-index l.items)) ≡ reads_most_items (items_of l.items)
