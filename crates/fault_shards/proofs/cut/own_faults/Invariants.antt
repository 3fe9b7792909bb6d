-- Those so far that stand for themselves.
use Rattle.std.proofs.Common.{map}
use Rattle.vf_base.specs.Base.{fault_number}
use Rattle.fault_shards.proofs.Cutting.{OwnBelow}
use Rattle.fault_shards.proofs.cut.own_faults.Given as goal

abbrev pub invariant-faults : goal.invariant-faults
invariant-faults l = OwnBelow (map fault_number l.standing) (map fault_number l.own.items) l.number
