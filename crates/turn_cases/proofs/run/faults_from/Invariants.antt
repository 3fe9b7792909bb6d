-- The places so far.
use Rattle.std.specs.Prelude.{◌<◌, All, map}
use Rattle.vf_base.specs.Base.{fault_number}
use Rattle.turn_cases.proofs.run.faults_from.Given as goal

abbrev pub invariant-places : goal.invariant-places
invariant-places l = All (λ number. number < l.last) (map fault_number l.faults.items)
