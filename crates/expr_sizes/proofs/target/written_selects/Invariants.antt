use Rattle.std.proofs.Common.{map, drop}
use Rattle.v_tree.specs.Views.{select_of}
use Rattle.v_width.specs.Targets.{selects_reading}
use Rattle.expr_sizes.specs.TargetReadings.{writer_of, AreSelectsSo}
use Rattle.expr_sizes.proofs.target.written_selects.Given as goal

abbrev pub invariant-selects : goal.invariant-selects
invariant-selects l =
    AreSelectsSo (selects_reading (writer_of l.writer) l.scope (map select_of l.selects)) (selects_reading (writer_of l.writer) l.scope (map select_of (drop l.select-index l.selects)))
    (record { width = l.width; faults = l.faults })
