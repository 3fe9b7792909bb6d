-- What the bits so far say, and what is left to compare, say what all bits say.
use Rattle.std.proofs.Common.{◌≡◌, ◌||◌, drop, map}
use Rattle.vf_base.specs.Base.{watched_bit}
use Rattle.v_design.specs.Grades.{is_hard, is_possible, some_sample, samples}
use Rattle.strobe_detect.proofs.compare.compare.Given as goal

abbrev pub invariant-loop-place : goal.invariant-loop-place
invariant-loop-place g l = record {
  hard_so_far :
      (l.hard || some_sample is_hard (samples (map watched_bit (drop l.place-index l.watched)) (g.A.Values.values l.good))
      (samples (map watched_bit (drop l.place-index l.watched)) (g.B.Values.values l.faulty)))
      ≡ some_sample is_hard (samples (map watched_bit l.watched) (g.A.Values.values l.good)) (samples (map watched_bit l.watched) (g.B.Values.values l.faulty));
  possible_so_far :
      (l.possible || some_sample is_possible (samples (map watched_bit (drop l.place-index l.watched)) (g.A.Values.values l.good))
      (samples (map watched_bit (drop l.place-index l.watched)) (g.B.Values.values l.faulty)))
      ≡ some_sample is_possible (samples (map watched_bit l.watched) (g.A.Values.values l.good)) (samples (map watched_bit l.watched) (g.B.Values.values l.faulty));
}
