use Rattle.std.proofs.Common.{length, subst}
use Rattle.vf_base.specs.Base.{node_number}
use Rattle.trace_window.specs.Acted.{evaluated_at}
use Rattle.trace_window.specs.Moments.{window_events}
use Rattle.trace_window.specs.Touched.{IsFirstFrom}
use Rattle.good_trace.specs.Traces.{WindowKept}
use Rattle.good_trace.proofs.Following.{evaluation-is}
use Rattle.good_trace.proofs.window.TraceWindow.next_evaluation.Goals as goal

pub returns : goal.returns
returns g c =
    let w = c.self.inside in
    let own = node_number c.args.node in
    subst
    (λ (k : WindowKept). IsFirstFrom (evaluated_at (window_events g.N.World.design g.N.World.plan k.before k.through) own)
    (length (window_events g.N.World.design g.N.World.plan k.before k.through)) c.args.moment c.first_at_or_after.result) c.self.view_is
    (evaluation-is g.N.World.design g.N.World.plan w.begins w.ends w.before.values.items w.events own c.args.moment c.first_at_or_after.result c.self.invariant.window.events_are c.requires
    c.first_at_or_after.ensures)
