use Rattle.std.proofs.Common.{◌≡◌, ◌∙◌, [], ap, subst, arith}
use Rattle.std.proofs.lemmas.List.{get_or_read}
use Rattle.vf_base.specs.Base.{object_number}
use Rattle.v_design.specs.Assignments.{value_at}
use Rattle.trace_window.specs.Moments.{window_values}
use Rattle.trace_window.specs.Writes.{latest}
use Rattle.good_trace.specs.Slots.{end_of}
use Rattle.good_trace.specs.Traces.{WindowKept}
use Rattle.good_trace.proofs.Following.{value-is}
use Rattle.good_trace.proofs.window.TraceWindow.value_at.Goals as goal

pub returns : goal.returns
returns g c =
    let w = c.self.inside in
    let object = object_number c.args.object in
    c.value_at.ensures
    ∙ ap (λ v. latest v object c.args.moment w.events.changes.writes)
    (get_or_read w.before.values.items object c.index-first.result.now (omega (arith, c.requires, c.self.invariant.window.events_are.values_count)) c.index-first.ensures [])
    ∙ subst (λ (k : WindowKept). latest (value_at w.before.values.items object) object c.args.moment w.events.changes.writes
    ≡ value_at (window_values g.N.World.design g.N.World.plan k.before k.through c.args.moment) object) c.self.view_is
    (value-is g.N.World.design g.N.World.plan w.begins w.ends w.before.values.items w.events (end_of w.last) c.self.invariant.window.stands.window c.self.invariant.window.events_are object c.args.moment
    c.requires)
