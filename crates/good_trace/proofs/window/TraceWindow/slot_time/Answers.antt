use Rattle.std.proofs.Common.{◌+◌, ◌<◌, length, refl, ap, sym, subst, ◌∙◌, arith}
use Rattle.std.specs.Prelude.{slice_get}
use Rattle.std.proofs.lemmas.Option.{slice_get_read}
use Rattle.copy_laws.specs.Windows.{good_slots}
use Rattle.good_trace.specs.Traces.{WindowKept}
use Rattle.good_trace.proofs.Boundaries.{time-at}
use Rattle.good_trace.proofs.window.TraceWindow.slot_time.Goals as goal

pub returns : goal.returns
returns g c = λ one here.
    let w = c.self.inside in
    let own = c.self.invariant.window.times_are in
    let fits : w.begins + c.args.slot < w.ends = subst (λ (k : WindowKept). k.before + c.args.slot < k.through) (sym c.self.view_is) c.requires in
    time-at g.N.World.design g.N.World.plan (w.begins + c.args.slot) c.index.result.now one
    (own.each c.args.slot c.index.result.now (slice_get_read w.slots.times.items (length w.slots.times.items) c.args.slot c.index.result.now refl (omega (arith, fits, own.held)) c.index.ensures))
    (ap (λ (k : WindowKept). slice_get (good_slots g.N.World.design g.N.World.plan) (k.before + c.args.slot)) c.self.view_is ∙ here)
