use Rattle.std.proofs.Common.{rules}
use Rattle.verdict_words.proofs.JobSteps.{split_allowed}
use Rattle.verdict_words.proofs.jobs.Jobs.split.Goals as goal

pub split_seat-new-requires : goal.split_seat-new-requires
split_seat-new-requires g c = (search rules, search rules, rw c.requires.free (split_allowed _ _ _ _))
