use Rattle.std.proofs.Common.{◌≡◌, ◌+◌, ◌<◌, List, length, map, ap, sym, subst, ◌∙◌, arith}
use Rattle.std.proofs.lemmas.List.{length-map}
use Rattle.v_design.specs.Assignments.{value_at}
use Rattle.v_design.specs.Designs.{good_machine}
use Rattle.between_slots.specs.Between.{state_through}
use Rattle.trace_window.specs.declared.change.Change.{Change}
use Rattle.trace_window.specs.Moments.{window_events}
use Rattle.trace_window.specs.Writes.{Written, written_of}
use Rattle.good_trace.specs.Slots.{end_of}
use Rattle.good_trace.specs.SlotsTold.{AreWritesOf}
use Rattle.good_trace.specs.Traces.{WindowKept}
use Rattle.good_trace.proofs.Following.{ends-within}
use Rattle.good_trace.proofs.Boundaries.{changes-bounds, changes-told}
use Rattle.good_trace.proofs.Unwritten.{unwritten-stays}
use Rattle.good_trace.proofs.window.TraceWindow.changes_in.Goals as goal

pub changes_between-requires-clause-order : goal.changes_between-requires-clause-order
changes_between-requires-clause-order g c =
    let w = c.self.inside in
    let own = c.self.invariant in
    let fits : w.begins + c.args.slot < w.ends = subst (λ (k : WindowKept). k.before + c.args.slot < k.through) (sym c.self.view_is) c.requires in
    (changes-bounds g.N.World.design g.N.World.plan w.begins c.args.slot w.ends w.events.changes.writes own.window.events_are.accesses w.slots.beginnings.items c.index.result.now c.index-2.result.now
    own.window.beginnings_are fits c.index.ensures c.index-2.ensures own.window.events_are.events_are.changes_are).0

pub changes_between-requires-clause-within : goal.changes_between-requires-clause-within
changes_between-requires-clause-within g c =
    let w = c.self.inside in
    let own = c.self.invariant in
    let fits : w.begins + c.args.slot < w.ends = subst (λ (k : WindowKept). k.before + c.args.slot < k.through) (sym c.self.view_is) c.requires in
    let within = (changes-bounds g.N.World.design g.N.World.plan w.begins c.args.slot w.ends w.events.changes.writes own.window.events_are.accesses w.slots.beginnings.items c.index.result.now
    c.index-2.result.now own.window.beginnings_are fits c.index.ensures c.index-2.ensures own.window.events_are.events_are.changes_are).1 in
    let long = ap (λ (l : List Written). length l) c.all.ensures in
    let mapped = length-map c.all.result.now written_of in
    omega (arith, within, long, mapped)

pub returns-clause-changes : goal.returns-clause-changes
returns-clause-changes g c =
    let w = c.self.inside in
    let own = c.self.invariant in
    let fits : w.begins + c.args.slot < w.ends = subst (λ (k : WindowKept). k.before + c.args.slot < k.through) (sym c.self.view_is) c.requires in
    subst
    (λ (k : WindowKept).
    AreWritesOf (good_machine g.N.World.design) (window_events g.N.World.design g.N.World.plan (k.before + c.args.slot) (k.before + c.args.slot + 1))
    (length (window_events g.N.World.design g.N.World.plan k.before (k.before + c.args.slot))) (map written_of c.changes_between.result.now)) c.self.view_is
    (subst
    (λ (l : List Change).
    AreWritesOf (good_machine g.N.World.design) (window_events g.N.World.design g.N.World.plan (w.begins + c.args.slot) (w.begins + c.args.slot + 1))
    (length (window_events g.N.World.design g.N.World.plan w.begins (w.begins + c.args.slot))) (map written_of l)) (sym c.changes_between.ensures)
    (changes-told g.N.World.design g.N.World.plan w.begins c.args.slot w.ends c.all.result.now own.window.events_are.accesses w.slots.beginnings.items c.index.result.now c.index-2.result.now
    own.window.beginnings_are fits own.window.events_are.listed c.index.ensures c.index-2.ensures (c.all.ensures ∙ own.window.events_are.events_are.changes_are)))

pub returns-clause-others : goal.returns-clause-others
returns-clause-others g c = λ object within none.
    let w = c.self.inside in
    let own = c.self.invariant in
    let fits : w.begins + c.args.slot < w.ends = subst (λ (k : WindowKept). k.before + c.args.slot < k.through) (sym c.self.view_is) c.requires in
    let ends = ends-within g.N.World.design g.N.World.plan w.begins w.ends (end_of w.last) own.window.stands.window in
    let told = changes-told g.N.World.design g.N.World.plan w.begins c.args.slot w.ends c.all.result.now own.window.events_are.accesses w.slots.beginnings.items c.index.result.now c.index-2.result.now
    own.window.beginnings_are fits own.window.events_are.listed c.index.ensures c.index-2.ensures (c.all.ensures ∙ own.window.events_are.events_are.changes_are) in
    subst
    (λ (k : WindowKept).
    value_at (state_through g.N.World.design g.N.World.plan (k.before + c.args.slot + 1)).values object
    ≡ value_at (state_through g.N.World.design g.N.World.plan (k.before + c.args.slot)).values object) c.self.view_is
    (unwritten-stays g.N.World.design g.N.World.plan w.begins (w.begins + c.args.slot) (length (window_events g.N.World.design g.N.World.plan w.begins (w.begins + c.args.slot))) w.before.values.items
    c.changes_between.result.now own.window.events_are.rules (omega arith) (omega (arith, fits, ends.1)) own.window.events_are.values_are own.window.events_are.values_count
    (subst
    (λ (l : List Change).
    AreWritesOf (good_machine g.N.World.design) (window_events g.N.World.design g.N.World.plan (w.begins + c.args.slot) (w.begins + c.args.slot + 1))
    (length (window_events g.N.World.design g.N.World.plan w.begins (w.begins + c.args.slot))) (map written_of l)) (sym c.changes_between.ensures) told) object within none)
