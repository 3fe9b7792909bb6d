-- What the strobes so far say, and what is left to compare, say what all strobes say; so far nothing contradicts.
use Rattle.std.proofs.Common.{◌≡◌, ◌||◌, length}
use Rattle.v_design.specs.Grades.{is_hard, is_possible}
use Rattle.kept_samples.specs.Kept.{samples_kept}
use Rattle.dict_laws.specs.Responses.{some_observed}
use Rattle.dict_text.specs.Merged.{merged}
use Rattle.dict_text.proofs.Observed.{some_from}
use Rattle.dict_text.proofs.fit.fit_of.Given as goal

abbrev pub invariant-strobes : goal.invariant-strobes
invariant-strobes l = record {
  hard : some_from is_hard l.observed l.good (length l.yielded) (samples_kept l.left) ≡ some_observed is_hard (samples_kept l.observed) (merged (samples_kept l.good) (samples_kept l.differs));
  possible :
      (l.possible || some_from is_possible l.observed l.good (length l.yielded) (samples_kept l.left))
      ≡ some_observed is_possible (samples_kept l.observed) (merged (samples_kept l.good) (samples_kept l.differs));
}
