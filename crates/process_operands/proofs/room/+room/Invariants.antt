use Rattle.std.proofs.Common.{◌≡◌, ◌+◌, drop}
use Rattle.v_design.specs.Plain.{expressions_of}
use Rattle.process_operands.specs.Bounds.{reads_most_each}
use Rattle.process_operands.proofs.room.+room.Given as goal

abbrev pub invariant-most_part_reads-parts : goal.invariant-most_part_reads-parts
invariant-most_part_reads-parts l = l.most + reads_most_each (expressions_of (drop l.part-index l.parts)) ≡ reads_most_each (expressions_of l.parts)
