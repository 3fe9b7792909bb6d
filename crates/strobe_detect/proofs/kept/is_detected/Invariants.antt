-- What the bits so far say, and what is left to compare, say what all bits say.
use Rattle.std.proofs.Common.{◌≡◌, ◌||◌, drop}
use Rattle.v_design.specs.Grades.{is_hard, some_sample}
use Rattle.strobe_detect.proofs.kept.is_detected.Given as goal

abbrev pub invariant-loop-number : goal.invariant-loop-number
invariant-loop-number l = (l.hard || some_sample is_hard (drop l.number l.good) (drop l.number l.faulty)) ≡ some_sample is_hard l.good l.faulty
