use Rattle.std.proofs.Common.{◌<◌, length, refl, subst, arith}
use Rattle.std.proofs.lemmas.Option.{slice_get_read}
use Rattle.vf_base.specs.Base.{process_number}
use Rattle.between_slots.specs.Between.{activity_through}
use Rattle.good_trace.specs.Traces.{WindowKept}
use Rattle.good_trace.specs.RunsKept.{Stands}
use Rattle.good_trace.proofs.Standing.{Stands-kept}
use Rattle.good_trace.proofs.window.TraceWindow.process_at_beginning.Goals as goal

pub returns : goal.returns
returns g c =
    let w = c.self.inside in
    let process = process_number c.args.process in
    let low : process < length w.before.states.items = omega (arith, c.requires, c.self.invariant.has_runs.kept.states_are.count) in
    subst (λ (k : WindowKept). Stands g.N.World.design process (activity_through g.N.World.design g.N.World.plan k.before process) c.index.result.now) c.self.view_is
    (Stands-kept c.codes_are_one.ensures.read g.N.World.design g.N.World.plan w.begins w.ends w.phases w.before.states.items w.slots.runs.items w.index process c.index.result.now c.self.invariant.has_runs
    c.requires (slice_get_read w.before.states.items (length w.before.states.items) process c.index.result.now refl low c.index.ensures))
