use Rattle.std.proofs.Common.{◌≡◌, ◌-◌, ◌≤◌, ◌++◌, length, map, drop}
use Rattle.v_ports.specs.Cuts.{piece_of, cut_from}
use Rattle.v_ports.proofs.cut.runs_of.Given as goal

abbrev pub decreases-runs : goal.decreases-runs
decreases-runs l = length l.owners - l.low

abbrev pub invariant-runs : goal.invariant-runs
invariant-runs l = record {
  within : l.low ≤ length l.owners;
  covered : map piece_of l.pieces.items ++ cut_from l.low (drop l.low l.owners) ≡ cut_from 0 l.owners;
}
