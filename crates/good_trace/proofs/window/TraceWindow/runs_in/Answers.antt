use Rattle.std.proofs.Common.{◌≡◌, ◌+◌, ◌<◌, ◌++◌, length, map, ap, sym, subst, ◌∙◌, arith}
use Rattle.run_ends.specs.RunEnds.{ender_told}
use Rattle.between_slots.specs.Between.{window_phases}
use Rattle.window_runs.specs.Through.{runs_through}
use Rattle.good_trace.specs.SlotsTold.{slot_run_ends}
use Rattle.good_trace.specs.Traces.{WindowKept}
use Rattle.good_trace.proofs.Boundaries.{run-ends-in, phases-rise}
use Rattle.good_trace.proofs.window.TraceWindow.runs_in.Goals as goal

pub returns : goal.returns
returns g c =
    let w = c.self.inside in
    let own = c.self.invariant in
    let fits : w.begins + c.args.slot < w.ends = subst (λ (k : WindowKept). k.before + c.args.slot < k.through) (sym c.self.view_is) c.requires in
    subst (λ (k : WindowKept). map ender_told c.runs_between.result.now ≡ slot_run_ends g.N.World.design g.N.World.plan k.before (k.before + c.args.slot)) c.self.view_is
    (run-ends-in c.ends_go_on.ensures.between own.has_runs.codes g.N.World.design g.N.World.plan w.begins (w.begins + c.args.slot) w.ends c.phases_before-after.result
    c.phases_before-through.result w.slots.runs.items c.runs_between.result.now (omega arith) fits own.has_runs.kept.runs_are
    (subst (λ (k : WindowKept). c.phases_before-after.result ≡ length (window_phases g.N.World.design g.N.World.plan k.before (k.before + c.args.slot))) (sym c.self.view_is)
    c.phases_before-after.ensures)
    (c.phases_before-through.ensures ∙ ap (λ (k : WindowKept). length (window_phases g.N.World.design g.N.World.plan k.before (k.before + (c.args.slot + 1)))) (sym c.self.view_is)
    ∙ (let e : w.begins + (c.args.slot + 1) ≡ w.begins + c.args.slot + 1 = omega arith in ap (λ n. length (window_phases g.N.World.design g.N.World.plan w.begins n)) e))
    (subst (λ l. runs_through c.phases_before-after.result l ++ c.runs_between.result.now ≡ runs_through c.phases_before-through.result l) c.deref.ensures.value c.runs_between.ensures))

pub runs_between-requires-clause-order : goal.runs_between-requires-clause-order
runs_between-requires-clause-order g c =
    let b = c.args.self.now.before in
    let rise = phases-rise g.N.World.design g.N.World.plan b (b + c.args.slot) (omega arith) in
    let next : length (window_phases g.N.World.design g.N.World.plan b (b + c.args.slot + 1)) ≡ length (window_phases g.N.World.design g.N.World.plan b (b + (c.args.slot + 1))) =
    (let e : b + c.args.slot + 1 ≡ b + (c.args.slot + 1) = omega arith in ap (λ n. length (window_phases g.N.World.design g.N.World.plan b n)) e) in
    omega (arith, rise, next, c.phases_before-after.ensures, c.phases_before-through.ensures)
