use Rattle.std.proofs.Common.{◌≡◌, sym, ap, subst, ◌∙◌}
use Rattle.std.specs.Prelude.{Some, slice_get}
use Rattle.vf_base.specs.Base.{process_number}
use Rattle.run_ends.specs.RunEnds.{ends_of}
use Rattle.between_slots.specs.Between.{window_phases}
use Rattle.good_trace.specs.Traces.{WindowKept}
use Rattle.good_trace.proofs.Standing.{TellsRun-found}
use Rattle.good_trace.proofs.window.TraceWindow.run.Goals as goal

pub returns : goal.returns
returns g c = λ before one at stands.
    let w = c.self.inside in
    let process = process_number c.args.process in
    TellsRun-found c.codes_are_one.ensures.read g.N.World.design g.N.World.plan w.begins w.ends w.phases w.before.states.items w.slots.runs.items w.index process c.args.phase c.args.number before one _
    c.self.invariant.has_runs c.requires.process at
    (subst (λ (k : WindowKept). slice_get (window_phases g.N.World.design g.N.World.plan k.before k.through) before ≡ Some one) (sym c.self.view_is) stands)
    (c.run.ensures ∙ ap (λ l. slice_get (ends_of c.args.phase process l) c.args.number) c.deref.ensures.value)
