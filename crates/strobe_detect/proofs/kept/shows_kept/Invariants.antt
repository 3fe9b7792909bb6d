-- What the bits so far say, and what is left to compare, say what all bits say.
use Rattle.std.proofs.Common.{◌≡◌, ◌&&◌, drop, map}
use Rattle.vf_base.specs.Base.{watched_bit}
use Rattle.four_value.specs.Values.{same_value}
use Rattle.v_design.specs.Grades.{samples}
use Rattle.strobe_detect.proofs.kept.shows_kept.Given as goal

abbrev pub invariant-loop-number : goal.invariant-loop-number
invariant-loop-number g l =
    (l.same && same_value (samples (map watched_bit (drop l.number l.watched)) (g.B.Values.values l.machine)) (drop l.number l.kept))
    ≡ same_value (samples (map watched_bit l.watched) (g.B.Values.values l.machine)) l.kept
