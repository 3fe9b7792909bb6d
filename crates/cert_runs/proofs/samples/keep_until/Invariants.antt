-- The strobes so far saw the values.
use Rattle.std.proofs.Common.{◌≡◌, ◌+◌, ◌-◌, length, map}
use Rattle.vf_base.specs.Base.{watched_bit}
use Rattle.v_design.specs.Grades.{samples}
use Rattle.cert_runs.proofs.Keeping.{Keeping}
use Rattle.cert_runs.proofs.samples.keep_until.Given as goal

abbrev pub invariant-strobes : goal.invariant-strobes
invariant-strobes g l = record {
  at_is : l.at ≡ length l.kept.items;
  keeping : Keeping (l.fn.last + 1) (samples (map watched_bit l.watched) (g.V.Values.values l.values)) l.strobes l.initial.kept.items l.kept.items;
}

abbrev pub decreases-strobes : goal.decreases-strobes
decreases-strobes g l = length l.strobes - l.at
