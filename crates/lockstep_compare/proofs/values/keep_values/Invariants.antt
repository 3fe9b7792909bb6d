use Rattle.std.proofs.Common.{map, take}
use Rattle.vf_base.specs.Base.{object_number}
use Rattle.v_design.specs.Assignments.{value_at}
use Rattle.copy_between.specs.Differing.{IsDifference}
use Rattle.lockstep_compare.specs.Among.{AreKeptAmong, KeepsValuesAlone}
use Rattle.lockstep_compare.proofs.values.keep_values.Given as goal

-- so far they are kept
abbrev pub invariant-objects : goal.invariant-objects
invariant-objects g l =
    KeepsValuesAlone l.fn.own l.own
    × AreKeptAmong (λ object. IsDifference (value_at (g.G.Values.values l.good) object) (value_at (g.F.Values.values l.faulty) object)) (map object_number (take l.place l.objects))
    l.fn.own.copy.values l.own.copy.values
