use Rattle.std.proofs.Common.{◌≡◌, drop}
use Rattle.v_tree.specs.Trees.{named_in_parts}
use Rattle.v_tree.specs.Views.{expressions_of}
use Rattle.name_checks.specs.Noted.{noted}
use Rattle.item_checks.specs.Memories.{memories_faults}
use Rattle.item_checks.proofs.memories.+memories.Given as goal

abbrev pub invariant-note_memories_in_parts-parts : goal.invariant-note_memories_in_parts-parts
invariant-note_memories_in_parts-parts l =
    noted l.first (memories_faults l.scope (named_in_parts (expressions_of (drop l.part-index l.parts)))) ≡ noted l.initial.first (memories_faults l.scope (named_in_parts (expressions_of l.parts)))
