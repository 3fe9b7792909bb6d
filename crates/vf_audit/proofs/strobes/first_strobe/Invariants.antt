-- No strobe so far passes: the first that does is among those that are left.
use Rattle.std.proofs.Common.{◌≡◌, length}
use Rattle.kept_samples.specs.Kept.{samples_kept}
use Rattle.vf_audit.specs.Strobes.{test_of, first_sample}
use Rattle.vf_audit.proofs.SampleLists.{first_from}
use Rattle.vf_audit.proofs.strobes.first_strobe.Given as goal

abbrev pub invariant-strobes : goal.invariant-strobes
invariant-strobes l = first_from (test_of l.test) l.good l.faulty (length l.yielded) ≡ first_sample (test_of l.test) (samples_kept l.good) (samples_kept l.faulty)
