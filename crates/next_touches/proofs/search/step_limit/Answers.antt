-- Before the first moment with such an event.
use Rattle.std.proofs.Common.{length, arith}
use Rattle.vf_base.specs.Base.{process_number}
use Rattle.copy_skip.proofs.Limited.{first-none}
use Rattle.trace_window.specs.Acted.{stepped_at}
use Rattle.trace_window.specs.Moments.{window_events}
use Rattle.next_touches.proofs.search.step_limit.Goals as goal

pub returns : goal.returns
returns g c =
    let events = window_events g.N.World.design g.N.World.plan c.args.window.now.before c.args.window.now.through in
    first-none (stepped_at events (process_number c.args.process)) (length events) c.args.first c.moments.result c.earlier.result c.next_step.result c.next_step.ensures
    (let all = c.moments.ensures in omega (arith, all)) c.earlier.ensures.low c.earlier.ensures.next
