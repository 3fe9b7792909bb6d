use Rattle.std.proofs.Common.{◌≡◌, ◌+◌, ◌≤◌, length, ap, sym, subst, ◌∙◌, arith}
use Rattle.trace_window.specs.Moments.{window_events, window_values}
use Rattle.between_slots.specs.Between.{state_through}
use Rattle.good_trace.specs.Slots.{end_of}
use Rattle.good_trace.specs.Traces.{WindowKept}
use Rattle.good_trace.proofs.Following.{ends-within}
use Rattle.good_trace.proofs.Boundaries.{begins-there, values-at}
use Rattle.good_trace.proofs.window.TraceWindow.first_moment.Goals as goal

pub returns-clause-moment : goal.returns-clause-moment
returns-clause-moment g c =
    let w = c.self.inside in
    let own = c.self.invariant in
    let fits : w.begins + c.args.slot ≤ w.ends = subst (λ (k : WindowKept). k.before + c.args.slot ≤ k.through) (sym c.self.view_is) c.requires in
    (begins-there g.N.World.design g.N.World.plan w.begins w.ends c.args.slot own.window.events_are.accesses w.slots.beginnings.items c.index.result.now own.window.beginnings_are fits
    c.index.ensures).moment
    ∙ ap (λ (k : WindowKept). length (window_events g.N.World.design g.N.World.plan k.before (k.before + c.args.slot))) c.self.view_is

pub returns-clause-values : goal.returns-clause-values
returns-clause-values g c =
    let w = c.self.inside in
    let own = c.self.invariant in
    let fits : w.begins + c.args.slot ≤ w.ends = subst (λ (k : WindowKept). k.before + c.args.slot ≤ k.through) (sym c.self.view_is) c.requires in
    let within = ends-within g.N.World.design g.N.World.plan w.begins w.ends (end_of w.last) own.window.stands.window in
    let moment = c.index.result.now.moment in
    subst
    (λ (k : WindowKept). window_values g.N.World.design g.N.World.plan k.before k.through moment ≡ (state_through g.N.World.design g.N.World.plan (k.before + c.args.slot)).values) c.self.view_is
    (ap (window_values g.N.World.design g.N.World.plan w.begins w.ends)
    (begins-there g.N.World.design g.N.World.plan w.begins w.ends c.args.slot own.window.events_are.accesses w.slots.beginnings.items c.index.result.now own.window.beginnings_are fits
    c.index.ensures).moment
    ∙ values-at g.N.World.design g.N.World.plan w.begins (w.begins + c.args.slot) w.ends (omega arith) fits within.1)
