-- By the time of the last slot before.
use Rattle.std.proofs.Common.{◌≡◌, ◌+◌, ◌-◌, ap, subst, ◌∙◌, arith}
use Rattle.std.specs.Prelude.{slice_get}
use Rattle.lockstep_shards.specs.window_strobes.Passed.{HasPassed}
use Rattle.lockstep_shards.proofs.window_strobes.Knowing.{design-rules}
use Rattle.slot_strobes.proofs.Counted.{passed-before}
use Rattle.slot_strobes.proofs.before.strobes_before.Goals as goal

pub strobes_by-requires-after_bounds : goal.strobes_by-requires-after_bounds
strobes_by-requires-after_bounds g c κs within = c.requires.passed.within

pub returns-then-slot-eq0-clause-passed : goal.returns-then-slot-eq0-clause-passed
returns-then-slot-eq0-clause-passed g c =
    let same : c.args.window.now.before ≡ c.args.window.now.before + c.args.slot = omega (arith, c.if-slot-eq0.true) in
    subst (λ n. HasPassed g.N.World.design g.N.World.plan n c.args.passed) same c.requires.passed

pub returns-clause-passed : goal.returns-clause-passed
returns-clause-passed g c =
    passed-before c.good_run_goes_on.ensures g.N.World.design g.N.World.plan (design-rules g.N.World.design c.design-design.result.now c.design-design.ensures.world) c.args.window.now.before
    (c.args.window.now.before + c.args.slot) c.args.passed c.requires.passed (omega (arith, c.if-slot-eq0.false)) c.requires.more c.slot_time.result
    (λ one here.
    (let at : c.args.window.now.before + (c.args.slot - 1) ≡ (c.args.window.now.before + c.args.slot) - 1 = omega (arith, c.if-slot-eq0.false) in
    c.slot_time.ensures one (ap (slice_get _) at ∙ here)))
    c.strobes_by.result c.strobes_by.ensures
