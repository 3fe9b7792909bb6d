use Rattle.std.proofs.Common.{rules, ap}
use Rattle.verdict_words.proofs.JobSteps.{join_allowed}
use Rattle.verdict_words.proofs.jobs.Jobs.join.Goals as goal

pub join_seat-requires : goal.join_seat-requires
join_seat-requires g c = (search rules, search rules, ap (λ m. m.1) c.requires.free.1, search rules, rw (c.requires.free.0, c.requires.free.1) (join_allowed _ _ _ _ _ _))
