-- The word of a finding gets its code.
use Rattle.std.proofs.Common.{◌<◌, sym, subst}
use Rattle.vf_base.specs.Base.{fault_number}
use Rattle.verdict_words.specs.Codes.{IsCode}
use Rattle.verdict_settle.proofs.Settling.{listed-below, code-fits, code-is}
use Rattle.verdict_settle.proofs.settle.settle_word.Goals as goal

pub verdict_code-requires : goal.verdict_code-requires
verdict_code-requires g c = code-fits g.N.World.design g.N.World.plan c.args.finding c.requires.graded c.first_run_goes_on.ensures c.requires.rules.0 c.requires.rules.1

pub settle-seat-requires-clause-fault : goal.settle-seat-requires-clause-fault
settle-seat-requires-clause-fault g c κs within = subst (λ n. fault_number c.args.finding.fault < n) (sym c.requires.faults)
    (listed-below g.N.World.design g.N.World.plan c.args.finding c.requires.graded)

pub settle-seat-requires-clause-code : goal.settle-seat-requires-clause-code
settle-seat-requires-clause-code g c κs within =
    subst (IsCode g.N.World.design g.N.World.plan (fault_number c.args.finding.fault)) (sym c.verdict_code.ensures) (code-is g.N.World.design g.N.World.plan c.args.finding c.requires.graded)
