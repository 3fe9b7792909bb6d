-- The strobes that come up to the time.
use Rattle.slot_strobes.proofs.seen.see_to.Goals as goal

pub keep_each-requires-clause-stands : goal.keep_each-requires-clause-stands
keep_each-requires-clause-stands g c κs within = λ place strobe low before here.
    c.requires.stands place strobe low here (c.strobes_by-passed.ensures.by place strobe low before here)
