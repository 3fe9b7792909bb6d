use Rattle.std.proofs.Common.{◌≡◌, suc, ◌+◌, ◌-◌, ◌≤◌, length, map, ap, sym, subst, ◌∙◌, arith}
use Rattle.std.specs.Prelude.{slice_get}
use Rattle.vf_base.specs.Base.{process_number}
use Rattle.v_design.specs.Plain.{due_of}
use Rattle.copy_laws.specs.Windows.{good_slots}
use Rattle.between_slots.specs.Between.{window_phases}
use Rattle.between_slots.specs.Updates.{updates_through}
use Rattle.window_runs.specs.Through.{pending_through}
use Rattle.good_trace.specs.Slots.{end_of}
use Rattle.good_trace.specs.Traces.{WindowKept}
use Rattle.good_trace.proofs.Following.{ends-within}
use Rattle.good_trace.proofs.Boundaries.{first-updates, pending-before}
use Rattle.good_trace.proofs.window.TraceWindow.updates_before.Goals as goal

pub returns-then-slot-eq0 : goal.returns-then-slot-eq0
returns-then-slot-eq0 g c =
    let w = c.self.inside in
    let process = process_number c.args.process in
    let first = first-updates g.N.World.design g.N.World.plan w.begins process w.before.updates.items c.as_slice-first.result.now c.index.result.now c.self.invariant.has_updates c.requires.process
    c.as_slice-first.ensures c.index.ensures in
    let begins = ap (λ (k : WindowKept). k.before) c.self.view_is in
    let e : w.begins ≡ c.args.self.now.before + c.args.slot = omega (arith, begins, c.if-slot-eq0.true) in
    ap (map due_of) c.in_ok-copy.ensures ∙ first ∙ ap (λ n. updates_through g.N.World.design g.N.World.plan n process) e

pub returns : goal.returns
returns g c =
    let w = c.self.inside in
    let own = c.self.invariant in
    let process = process_number c.args.process in
    let first = first-updates g.N.World.design g.N.World.plan w.begins process w.before.updates.items c.as_slice-first.result.now c.index.result.now own.has_updates c.requires.process
    c.as_slice-first.ensures c.index.ensures in
    let fits : w.begins + c.args.slot ≤ w.ends = subst (λ (k : WindowKept). k.before + c.args.slot ≤ k.through) (sym c.self.view_is) c.requires.slot in
    let within = ends-within g.N.World.design g.N.World.plan w.begins w.ends (end_of w.last) own.window.stands.window in
    let begins = ap (λ (k : WindowKept). k.before) c.self.view_is in
    let next : w.begins + c.args.slot ≡ suc (w.begins + (c.args.slot - 1)) = omega (arith, c.if-slot-eq0.false) in
    let there : suc (w.begins + (c.args.slot - 1)) ≡ c.args.self.now.before + c.args.slot = omega (arith, begins, c.if-slot-eq0.false) in
    c.in_ok-pending.ensures ∙ ap (λ l. pending_through process c.phases_before-phases.result c.slot_time-time.result (map due_of c.as_slice-first.result.now) l) c.deref.ensures.value
    ∙ pending-before c.updates_pend.ensures.updates c.ends_go_on.ensures.part c.ends_go_on.ensures.append own.has_runs.codes g.N.World.design g.N.World.plan w.begins
    (w.begins + (c.args.slot - 1)) w.ends c.phases_before-phases.result c.slot_time-time.result process w.slots.times.items w.slots.runs.items (map due_of c.as_slice-first.result.now)
    own.window.events_are.rules own.has_runs.kept.codes_are own.window.times_are own.has_runs.kept.runs_are (omega arith) (omega (arith, fits, c.if-slot-eq0.false)) within.1 c.requires.process
    (λ one here.
    c.slot_time-time.ensures one
    (ap (λ (k : WindowKept). slice_get (good_slots g.N.World.design g.N.World.plan) (k.before + (c.args.slot - 1))) (sym c.self.view_is) ∙ here))
    (c.phases_before-phases.ensures
    ∙ ap (λ (k : WindowKept). length (window_phases g.N.World.design g.N.World.plan k.before (k.before + c.args.slot))) (sym c.self.view_is)
    ∙ ap (λ n. length (window_phases g.N.World.design g.N.World.plan w.begins n)) next)
    first
    ∙ ap (λ n. updates_through g.N.World.design g.N.World.plan n process) there
