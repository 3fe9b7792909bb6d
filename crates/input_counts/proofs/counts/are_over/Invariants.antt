use Rattle.std.proofs.Common.{◌≡◌, ◌+◌, ◌≤◌, drop}
use Rattle.v_elab.specs.ReadCounts.{objects_named}
use Rattle.input_counts.proofs.counts.are_over.Given as goal

abbrev pub invariant-names : goal.invariant-names
invariant-names l = record {
  most : l.left ≤ 4096;
  rest : objects_named l.scope l.names + l.left ≡ 4096 + objects_named l.scope (drop l.name-index l.names);
}
