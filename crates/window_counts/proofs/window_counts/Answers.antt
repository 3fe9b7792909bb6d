use Rattle.window_counts.specs.WindowCounts.{slots-count, window-count}
use Rattle.window_counts.proofs.window_counts.Goals as goal

pub returns-clause-slots : goal.returns-clause-slots
returns-clause-slots c = slots-count

pub returns-clause-moments : goal.returns-clause-moments
returns-clause-moments c = window-count
