-- The bits so far.
use Rattle.std.proofs.Common.{◌≡◌, take, map}
use Rattle.vf_base.specs.Base.{watched_bit}
use Rattle.v_design.specs.Grades.{samples}
use Rattle.strobe_detect.proofs.kept.watched_bits.Given as goal

abbrev pub invariant-loop-place : goal.invariant-loop-place
invariant-loop-place g l = l.bits.items ≡ samples (map watched_bit (take l.place-index l.watched)) (g.A.Values.values l.machine)
