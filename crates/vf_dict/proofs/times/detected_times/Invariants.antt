-- So many strobes were passed.
use Rattle.std.proofs.Common.{drop}
use Rattle.vf_dict.proofs.Sides.{HasPassed}
use Rattle.vf_dict.proofs.times.detected_times.Given as goal

abbrev pub invariant-strobes : goal.invariant-strobes
invariant-strobes l = HasPassed l.good l.differs l.sample-index (drop l.next l.differs) l.times.items
