use Rattle.std.proofs.Common.{◌≡◌, flat_map, map, drop}
use Rattle.v_tree.specs.Views.{wire_of}
use Rattle.v_elab.specs.ReadCounts.{some_reads_over, wire_reads}
use Rattle.input_counts.proofs.items.wires_read_over.Given as goal

abbrev pub invariant-wires : goal.invariant-wires
invariant-wires l = some_reads_over l.scope (flat_map wire_reads (map wire_of (drop l.wire-index l.wires))) ≡ some_reads_over l.scope (flat_map wire_reads (map wire_of l.wires))
