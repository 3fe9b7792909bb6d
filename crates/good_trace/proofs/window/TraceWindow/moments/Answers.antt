use Rattle.std.proofs.Common.{◌≡◌, length, subst}
use Rattle.trace_window.specs.Moments.{window_events}
use Rattle.good_trace.specs.Traces.{WindowKept}
use Rattle.good_trace.proofs.Following.{count-is}
use Rattle.good_trace.proofs.window.TraceWindow.moments.Goals as goal

pub returns : goal.returns
returns g c =
    let w = c.self.inside in
    subst (λ (k : WindowKept). w.events.count ≡ length (window_events g.N.World.design g.N.World.plan k.before k.through)) c.self.view_is
    (count-is g.N.World.design g.N.World.plan w.begins w.ends w.before.values.items w.events c.self.invariant.window.events_are)
