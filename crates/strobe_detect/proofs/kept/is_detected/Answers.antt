-- The lists are compared as far as both go.
use Rattle.std.proofs.Common.{◌≤◌, subst}
use Rattle.strobe_detect.proofs.Watches.{hard-through}
use Rattle.strobe_detect.proofs.kept.is_detected.Goals as goal

pub returns : goal.returns
returns c =
    hard-through c.args.good.now c.args.faulty.now c.loop-number.number c.loop-number.hard (subst (λ n. n ≤ c.loop-number.number) c.min-count.ensures c.loop-number-test.false) c.loop-number.invariant
