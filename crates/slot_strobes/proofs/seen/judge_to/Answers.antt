-- The strobes that come up to the time.
use Rattle.slot_strobes.proofs.seen.judge_to.Goals as goal

pub judge_each-requires-clause-stands : goal.judge_each-requires-clause-stands
judge_each-requires-clause-stands g c κs within = λ place strobe low before here.
    c.requires.stands place strobe low here (c.strobes_by-passed.ensures.by place strobe low before here)
