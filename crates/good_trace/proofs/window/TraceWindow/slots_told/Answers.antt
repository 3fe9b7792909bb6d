-- The slots are told.
use Rattle.std.proofs.Common.{◌≡◌, ◌<◌, ◌^◌, refl, arith}
use Rattle.good_trace.specs.Slots.{end_of}
use Rattle.good_trace.proofs.Following.{ends-within}
use Rattle.good_trace.proofs.Handing.{seen-tell}
use Rattle.good_trace.proofs.window.TraceWindow.slots_told.Goals as goal

pub returns : goal.returns
returns g c =
    let w = c.self.inside in
    let own = c.self.invariant in
    let fits : w.phases < 2 ^ 32 = omega arith in
    seen-tell c.codes_are_one.ensures.read g.N.World.design g.N.World.plan w.begins w.ends w.phases w.before.states.items w.slots.runs.items w.index w.slots.times.items
    own.window.events_are.accesses w.slots.beginnings.items own.has_runs own.window.times_are own.window.beginnings_are fits
    (ends-within g.N.World.design g.N.World.plan w.begins w.ends (end_of w.last) own.window.stands.window).1 _ c.deref.ensures.value c.deref-2.ensures.value refl c.deref-3.ensures.value
    c.args.self.now (end_of w.last) c.self.view_is
