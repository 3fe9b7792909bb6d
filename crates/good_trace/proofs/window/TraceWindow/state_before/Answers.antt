use Rattle.std.proofs.Common.{◌≡◌, ◌+◌, ◌<◌, ◌≤◌, length, refl, ap, sym, subst, ◌∙◌, arith}
use Rattle.std.proofs.lemmas.Option.{slice_get_read}
use Rattle.vf_base.specs.Base.{process_number}
use Rattle.between_slots.specs.Between.{activity_through, window_phases}
use Rattle.window_runs.specs.Standing.{standing_after, last_run}
use Rattle.window_runs.specs.Through.{runs_through}
use Rattle.good_trace.specs.Slots.{end_of}
use Rattle.good_trace.specs.Traces.{WindowKept}
use Rattle.good_trace.specs.RunsKept.{Stands}
use Rattle.good_trace.proofs.Following.{ends-within}
use Rattle.good_trace.proofs.Boundaries.{Stands-before}
use Rattle.good_trace.proofs.window.TraceWindow.state_before.Goals as goal

pub returns : goal.returns
returns g c =
    let w = c.self.inside in
    let own = c.self.invariant in
    let process = process_number c.args.process in
    let low : process < length w.before.states.items = omega (arith, c.requires.process, own.has_runs.kept.states_are.count) in
    let fits : w.begins + c.args.slot ≤ w.ends = subst (λ (k : WindowKept). k.before + c.args.slot ≤ k.through) (sym c.self.view_is) c.requires.slot in
    let within = ends-within g.N.World.design g.N.World.plan w.begins w.ends (end_of w.last) own.window.stands.window in
    let phases : c.phases_before-phases.result ≡ length (window_phases g.N.World.design g.N.World.plan w.begins (w.begins + c.args.slot)) =
    subst (λ (k : WindowKept). c.phases_before-phases.result ≡ length (window_phases g.N.World.design g.N.World.plan k.before (k.before + c.args.slot))) (sym c.self.view_is)
    c.phases_before-phases.ensures in
    subst (λ (k : WindowKept). Stands g.N.World.design process (activity_through g.N.World.design g.N.World.plan (k.before + c.args.slot) process) c.standing_after.result.now) c.self.view_is
    (Stands-before c.codes_are_one.ensures.read c.runs_lead.ensures.runs c.ends_go_on.ensures.part c.ends_go_on.ensures.stand c.ends_go_on.ensures.lead g.N.World.design g.N.World.plan w.begins
    (w.begins + c.args.slot) w.ends w.phases c.phases_before-phases.result w.slots.times.items w.before.states.items w.slots.runs.items w.index process c.index-first.result.now c.standing_after.result.now
    own.window.events_are.rules own.window.times_are own.has_runs (omega arith) fits within.1 c.requires.process
    (slice_get_read w.before.states.items (length w.before.states.items) process c.index-first.result.now refl low c.index-first.ensures) phases
    (c.standing_after.ensures
    ∙ ap (standing_after c.index-first.result.now)
    (c.last_through.ensures ∙ ap (λ l. last_run process (runs_through c.phases_before-phases.result l)) c.deref.ensures.value)))
