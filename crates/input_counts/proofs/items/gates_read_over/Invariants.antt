use Rattle.std.proofs.Common.{◌≡◌, map, drop}
use Rattle.v_tree.specs.Views.{gate_of}
use Rattle.v_elab.specs.ReadCounts.{some_reads_over, gate_reads}
use Rattle.input_counts.proofs.items.gates_read_over.Given as goal

abbrev pub invariant-gates : goal.invariant-gates
invariant-gates l = some_reads_over l.scope (map gate_reads (map gate_of (drop l.gate-index l.gates))) ≡ some_reads_over l.scope (map gate_reads (map gate_of l.gates))
