use Rattle.std.proofs.Common.{rules}
use Rattle.verdict_words.proofs.JobSteps.{take_allowed}
use Rattle.verdict_words.proofs.jobs.Jobs.take.Goals as goal

pub compare_exchange-found-requires : goal.compare_exchange-found-requires
compare_exchange-found-requires g c = (search rules, search rules, rw (c.requires.free, c.args.self.now.key, c.args.self.now.homes) (take_allowed _ c.args.self.now.slots _ _ _ c.requires.slot))
