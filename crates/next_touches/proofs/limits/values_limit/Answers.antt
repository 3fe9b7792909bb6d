-- Those of a list, or as they are found.
use Rattle.std.proofs.Common.{length, sym, subst}
use Rattle.copy_laws.specs.Differences.{Ascend}
use Rattle.copy_skip.specs.Limits.{AreLeftAlone, AreThere}
use Rattle.trace_window.specs.Moments.{window_events}
use Rattle.next_touches.proofs.limits.values_limit.Goals as goal

pub listed_limit-requires-clause-there : goal.listed_limit-requires-clause-there
listed_limit-requires-clause-there g c κs within = subst (AreThere g.N.World.design) (sym c.in-Some.ensures) c.requires.there

pub listed_limit-requires-clause-ascend : goal.listed_limit-requires-clause-ascend
listed_limit-requires-clause-ascend g c κs within = subst Ascend (sym c.in-Some.ensures) c.ascending.ensures.values

pub returns-in-Some-clause-alone : goal.returns-in-Some-clause-alone
returns-in-Some-clause-alone g c =
    let design = g.N.World.design in
    subst
    (λ values. AreLeftAlone design (window_events design g.N.World.plan c.args.window.now.before c.args.window.now.through) values (length design.objects) c.args.first c.listed_limit.result)
    c.in-Some.ensures c.listed_limit.ensures.alone
