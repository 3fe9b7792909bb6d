-- The search finds none of these slots.
use Rattle.std.proofs.Common.{◌<◌, ◌≤◌, ◌+◌, arith}
use Rattle.v_design.specs.Plain.{fault_of}
use Rattle.copy_pass.proofs.Left.{left-alone}
use Rattle.copy_pass.proofs.alone.slots_alone.Goals as goal

pub returns-then-size-gt-MOST_VALUES-clause-within : goal.returns-then-size-gt-MOST_VALUES-clause-within
returns-then-size-gt-MOST_VALUES-clause-within g c =
    let some : c.args.window.now.before < c.args.window.now.through = c.begins-first.ensures.window.some in
    omega (arith, some)

pub next_touched-requires-clause-slot : goal.next_touched-requires-clause-slot
next_touched-requires-clause-slot g c κs within =
    let some : c.args.window.now.before < c.args.window.now.through = c.begins-first.ensures.window.some in
    omega (arith, some)

pub returns-clause-alone : goal.returns-clause-alone
returns-clause-alone g c = λ some.
    let kept = c.next_touched.ensures.values some in
    left-alone c.args.setup.now.codes g.N.World.design g.N.World.plan (fault_of c.args.fault) c.args.window.now.before c.next_touched.result c.next_touched.result c.args.copy.now kept.0 kept.1
    c.next_touched.ensures.alone (omega arith)
