use Rattle.vf_base.specs.Base.{fault_number}
use Rattle.copy_shard.proofs.Places.{NoneIs}
use Rattle.copy_shard.proofs.shard.place_of.Given as goal

abbrev pub invariant-faults : goal.invariant-faults
invariant-faults l = NoneIs (fault_number l.fault) l.place l.faults
