use Rattle.std.proofs.Common.{◌+◌, ◌≤◌, length, sym, ap, subst, ◌∙◌}
use Rattle.between_slots.specs.Between.{window_phases}
use Rattle.good_trace.specs.Traces.{WindowKept}
use Rattle.good_trace.proofs.Boundaries.{begins-there}
use Rattle.good_trace.proofs.window.TraceWindow.phases_before.Goals as goal

pub returns : goal.returns
returns g c =
    let w = c.self.inside in
    let own = c.self.invariant in
    let fits : w.begins + c.args.slot ≤ w.ends = subst (λ (k : WindowKept). k.before + c.args.slot ≤ k.through) (sym c.self.view_is) c.requires in
    (begins-there g.N.World.design g.N.World.plan w.begins w.ends c.args.slot own.window.events_are.accesses w.slots.beginnings.items c.index.result.now own.window.beginnings_are fits
    c.index.ensures).phases
    ∙ ap (λ (k : WindowKept). length (window_phases g.N.World.design g.N.World.plan k.before (k.before + c.args.slot))) c.self.view_is
