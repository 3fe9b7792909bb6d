use Rattle.std.proofs.Common.{◌≡◌, drop}
use Rattle.v_comb.specs.Flags.{all_flagged}
use Rattle.v_comb.specs.Occurrences.{listed}
use Rattle.v_comb.proofs.assigned.are_flagged.Given as goal

abbrev pub invariant-names : goal.invariant-names
invariant-names l = all_flagged l.targets l.flags (listed (drop l.name-index l.names)) ≡ all_flagged l.targets l.flags (listed l.names)
