use Rattle.std.proofs.Common.{length, subst}
use Rattle.vf_base.specs.Base.{object_number}
use Rattle.v_design.specs.Designs.{good_machine}
use Rattle.trace_window.specs.Moments.{window_events}
use Rattle.trace_window.specs.Touched.{written_at, IsFirstFrom}
use Rattle.good_trace.specs.Traces.{WindowKept}
use Rattle.good_trace.proofs.Following.{change-is}
use Rattle.good_trace.proofs.window.TraceWindow.next_change.Goals as goal

pub returns : goal.returns
returns g c =
    let w = c.self.inside in
    let own = object_number c.args.object in
    subst
    (λ (k : WindowKept). IsFirstFrom (written_at (good_machine g.N.World.design) (window_events g.N.World.design g.N.World.plan k.before k.through) own)
    (length (window_events g.N.World.design g.N.World.plan k.before k.through)) c.args.moment c.next.result) c.self.view_is
    (change-is g.N.World.design g.N.World.plan w.begins w.ends w.before.values.items w.events own c.args.moment c.next.result c.self.invariant.window.events_are c.next.ensures)
