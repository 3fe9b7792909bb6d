use Rattle.std.proofs.Common.{rules, ◌≡◌, replicate, None}
use Rattle.std.proofs.lemmas.List.{length-replicate}
use Rattle.verdict_words.proofs.JobSteps.{starts}
use Rattle.verdict_words.proofs.jobs.Jobs.new.Goals as goal

pub vacant-requires : goal.vacant-requires
vacant-requires g c = let ones : c.as_slice.result.now ≡ replicate c.args.slots 1 = search rules in
    rw (c.from-count.ensures, ones) (starts _ c.args.slots (replicate c.args.slots None) (length-replicate c.args.slots None))
