use Rattle.std.proofs.Common.{[], map}
use Rattle.v_elab.specs.Objects.{memories_of}
use Rattle.elab_parts.specs.PartViews.{part_of}
use Rattle.elab_wires.specs.Turns.{turn}
use Rattle.object_names.specs.NameTables.{memory_keyed}
use Rattle.object_names.proofs.TableTurns.{memories-over}
use Rattle.object_names.proofs.tables.list_memories.Goals as goal

pub parts-preserved : goal.parts-preserved
parts-preserved c =
    turn part_of (λ ps. map memory_keyed (memories_of ps)) memories-over c.args.parts.now c.parts.part-index c.part-item.result [] _ _ c.parts-test.true c.part-item.is c.parts.invariant
    c.in_ok-push_memory.ensures
