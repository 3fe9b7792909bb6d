use Rattle.std.proofs.Common.{◌≡◌, take, map}
use Rattle.v_elab.specs.Objects.{memories_of}
use Rattle.elab_parts.specs.PartViews.{part_of}
use Rattle.object_names.specs.NameTables.{memory_keyed}
use Rattle.object_names.specs.NameViews.{memories_listed}
use Rattle.object_names.proofs.tables.list_memories.Given as goal

abbrev pub invariant-parts : goal.invariant-parts
invariant-parts l = memories_listed l.items.items ≡ map memory_keyed (memories_of (map part_of (take l.part-index l.parts)))
