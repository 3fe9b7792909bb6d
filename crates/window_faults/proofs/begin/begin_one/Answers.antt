-- A fault whose grading ended stays where the window begins.
use Rattle.std.proofs.Common.{◌≡◌, ◌+◌, sym, subst, ◌∙◌, arith}
use Rattle.slot_strobes.specs.copy_window.ShardFaults.{IsShardFault}
use Rattle.slot_strobes.specs.window_strobes.Passed.{HasPassed}
use Rattle.window_faults.proofs.Steps.{stays-same}
use Rattle.window_faults.proofs.Within.{none-end, within-there}
use Rattle.window_faults.proofs.begin.begin_one.Goals as goal

pub pass_first-requires-clause-none : goal.pass_first-requires-clause-none
pass_first-requires-clause-none g c κs within = none-end c.args.own.now.end (sym c.is_some.ensures ∙ c.if-is_some.false)

pub returns-then-is_some-clause-within : goal.returns-then-is_some-clause-within
returns-then-is_some-clause-within g c =
    let design = g.N.World.design in
    let plan = g.N.World.plan in
    let before = c.args.window.now.before in
    let here : before ≡ before + 0 = omega arith in
    within-there design plan before c.args.window.now.through 0 c.args.strobes.now.passed c.args.own.now c.comes_to.result c.comes_to.ensures.slot c.comes_to.ensures.passed
    (omega (arith, c.begins-first.ensures.window.some)) (subst (λ n. IsShardFault design plan n c.args.strobes.now.passed c.args.own.now) here c.requires.fault)
    (λ none. subst (λ n. HasPassed design plan n c.args.strobes.now.passed) here c.requires.strobes.has_passed)

pub returns-then-is_some-clause-stays : goal.returns-then-is_some-clause-stays
returns-then-is_some-clause-stays g c = stays-same c.args.own.now
