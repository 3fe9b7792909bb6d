-- The runs of a phase are told.
use Rattle.std.proofs.Common.{◌≡◌, refl, sym, subst}
use Rattle.std.specs.Prelude.{Some, slice_get}
use Rattle.between_slots.specs.Between.{window_phases}
use Rattle.good_trace.specs.Traces.{WindowKept}
use Rattle.good_trace.proofs.Handing.{runs-told}
use Rattle.good_trace.proofs.window.TraceWindow.phase_runs.Goals as goal

pub returns : goal.returns
returns g c = λ before one at stands.
    let w = c.self.inside in
    runs-told c.codes_are_one.ensures.read g.N.World.design g.N.World.plan w.begins w.ends w.phases w.before.states.items w.slots.runs.items w.index before one c.self.invariant.has_runs
    (subst (λ (k : WindowKept). slice_get (window_phases g.N.World.design g.N.World.plan k.before k.through) before ≡ Some one) (sym c.self.view_is) stands) _ refl c.deref.ensures.value at
