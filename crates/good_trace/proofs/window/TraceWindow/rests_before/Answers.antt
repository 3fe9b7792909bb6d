use Rattle.std.proofs.Common.{ℕ, ◌+◌, ◌≤◌, List, sym, subst, arith}
use Rattle.v_design.specs.Designs.{FlatDesign, TestPlan, good_machine}
use Rattle.v_design.specs.Laws.{HaveWidths}
use Rattle.between_slots.specs.Between.{state_through}
use Rattle.between_slots.specs.Updates.{Rests, LastIsFew}
use Rattle.copy_laws.specs.Windows.{WindowEnd}
use Rattle.good_trace.specs.Beginnings.{AreTimes}
use Rattle.good_trace.specs.Slots.{end_of}
use Rattle.good_trace.specs.Traces.{WindowKept, IsWindowOf}
use Rattle.good_trace.proofs.Following.{ends-within}
use Rattle.good_trace.proofs.Boundaries.{last-few}
use Rattle.good_trace.proofs.window.TraceWindow.rests_before.Goals as goal

-- the last slot before one of a window isn't hyperactive
few-there : (design : FlatDesign) (plan : TestPlan) (before through slot : ℕ) (ending : WindowEnd) (times : List ℕ) → IsWindowOf design plan before through ending →
    AreTimes design plan before through times → before + slot ≤ through → LastIsFew design plan (before + slot)
few-there design plan before through slot ending times stands are fits = last-few design plan before (before + slot) through times are stands.window.some (omega arith) fits

pub returns-clause-rests : goal.returns-clause-rests
returns-clause-rests g c =
    let w = c.self.inside in
    let own = c.self.invariant in
    let fits : w.begins + c.args.slot ≤ w.ends = subst (λ (k : WindowKept). k.before + c.args.slot ≤ k.through) (sym c.self.view_is) c.requires in
    let within = ends-within g.N.World.design g.N.World.plan w.begins w.ends (end_of w.last) own.window.stands.window in
    subst (λ (k : WindowKept). Rests g.N.World.design (state_through g.N.World.design g.N.World.plan (k.before + c.args.slot))) c.self.view_is
    (c.updates_pend.ensures.rest g.N.World.design g.N.World.plan (w.begins + c.args.slot) own.window.events_are.rules (omega (arith, fits, within.1))
    (few-there g.N.World.design g.N.World.plan w.begins w.ends c.args.slot (end_of w.last) w.slots.times.items own.window.stands own.window.times_are fits))

pub returns-clause-widths : goal.returns-clause-widths
returns-clause-widths g c =
    let w = c.self.inside in
    let own = c.self.invariant in
    let fits : w.begins + c.args.slot ≤ w.ends = subst (λ (k : WindowKept). k.before + c.args.slot ≤ k.through) (sym c.self.view_is) c.requires in
    let within = ends-within g.N.World.design g.N.World.plan w.begins w.ends (end_of w.last) own.window.stands.window in
    subst (λ (k : WindowKept). HaveWidths (good_machine g.N.World.design) (state_through g.N.World.design g.N.World.plan (k.before + c.args.slot)).values) c.self.view_is
    (c.updates_pend.ensures.widths g.N.World.design g.N.World.plan (w.begins + c.args.slot) own.window.events_are.rules (omega (arith, fits, within.1))
    (few-there g.N.World.design g.N.World.plan w.begins w.ends c.args.slot (end_of w.last) w.slots.times.items own.window.stands own.window.times_are fits))

pub returns-clause-told : goal.returns-clause-told
returns-clause-told g c = c.updates_pend.ensures.told

pub returns-clause-few : goal.returns-clause-few
returns-clause-few g c =
    let w = c.self.inside in
    let fits : w.begins + c.args.slot ≤ w.ends = subst (λ (k : WindowKept). k.before + c.args.slot ≤ k.through) (sym c.self.view_is) c.requires in
    subst (λ (k : WindowKept). LastIsFew g.N.World.design g.N.World.plan (k.before + c.args.slot)) c.self.view_is
    (few-there g.N.World.design g.N.World.plan w.begins w.ends c.args.slot (end_of w.last) w.slots.times.items c.self.invariant.window.stands c.self.invariant.window.times_are fits)
