use Rattle.std.proofs.Common.{◌≡◌, [], drop}
use Rattle.v_comb.specs.Occurrences.{listed}
use Rattle.v_comb.proofs.Once.{gathered}
use Rattle.v_comb.proofs.form.gather.Given as goal

abbrev pub invariant-names : goal.invariant-names
invariant-names l = gathered l.others l.table (listed (drop l.name-index l.names)) ≡ gathered l.others [] (listed l.names)
