use Rattle.std.proofs.Common.{length, subst}
use Rattle.vf_base.specs.Base.{process_number}
use Rattle.trace_window.specs.Acted.{stepped_at}
use Rattle.trace_window.specs.Moments.{window_events}
use Rattle.trace_window.specs.Touched.{IsFirstFrom}
use Rattle.good_trace.specs.Traces.{WindowKept}
use Rattle.good_trace.proofs.Following.{step-is}
use Rattle.good_trace.proofs.window.TraceWindow.next_step.Goals as goal

pub returns : goal.returns
returns g c =
    let w = c.self.inside in
    let own = process_number c.args.process in
    subst
    (λ (k : WindowKept). IsFirstFrom (stepped_at (window_events g.N.World.design g.N.World.plan k.before k.through) own)
    (length (window_events g.N.World.design g.N.World.plan k.before k.through)) c.args.moment c.first_at_or_after.result) c.self.view_is
    (step-is g.N.World.design g.N.World.plan w.begins w.ends w.before.values.items w.events own c.args.moment c.first_at_or_after.result c.self.invariant.window.events_are c.requires
    c.first_at_or_after.ensures)
