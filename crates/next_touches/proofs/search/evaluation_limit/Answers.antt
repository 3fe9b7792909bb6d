-- Before the first moment with such an event.
use Rattle.std.proofs.Common.{length}
use Rattle.vf_base.specs.Base.{node_number}
use Rattle.copy_skip.proofs.Limited.{first-none}
use Rattle.trace_window.specs.Acted.{evaluated_at}
use Rattle.trace_window.specs.Moments.{window_events}
use Rattle.next_touches.proofs.search.evaluation_limit.Goals as goal

pub returns-clause-evaluates : goal.returns-clause-evaluates
returns-clause-evaluates g c =
    let events = window_events g.N.World.design g.N.World.plan c.args.window.now.before c.args.window.now.through in
    first-none (evaluated_at events (node_number c.args.node)) (length events) c.args.first c.args.limit c.earlier.result c.next_evaluation.result c.next_evaluation.ensures c.requires.within
    c.earlier.ensures.low c.earlier.ensures.next
