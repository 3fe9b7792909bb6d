use Rattle.std.proofs.Common.{sym, subst, ◌∙◌}
use Rattle.v_design.specs.Designs.{good_machine}
use Rattle.between_slots.specs.Between.{window_phases}
use Rattle.good_trace.specs.Pushes.{HasNoSlot}
use Rattle.good_trace.specs.Slots.{end_of}
use Rattle.good_trace.proofs.ClosedWindows.{window-kept, trace-kept}
use Rattle.good_trace.proofs.FewRuns.{runs-few}
use Rattle.good_trace.proofs.Keeping.{window-is}
use Rattle.good_trace.proofs.trace.Trace.close_window.Goals as goal

pub close_slots-requires-clause-rise : goal.close_slots-requires-clause-rise
close_slots-requires-clause-rise g c =
    let t = c.self.inside in
    (c.ends_go_on.ensures.ascend t.setup.now.codes (good_machine g.N.World.design) (window_phases g.N.World.design g.N.World.plan t.closed t.pushed) t.slots.table.runs.items
    c.self.invariant.runs_kept.runs_are).0

pub close_slots-requires-clause-few : goal.close_slots-requires-clause-few
close_slots-requires-clause-few g c =
    let t = c.self.inside in
    runs-few t.setup.now.codes g.N.World.design g.N.World.plan t.pushed t.closed t.steps t.phases t.before t.slots c.self.invariant

pub invariant_of-result : goal.invariant_of-result
invariant_of-result g c =
    let t = c.self.inside in
    window-kept t.setup.now.codes g.N.World.design g.N.World.plan t.pushed t.closed t.steps t.phases t.before c.replace-beginning.result t.slots c.replace-slots.result c.sizes-sizes.result
    c.in_ok-closed.closed (end_of c.args.last) c.sizes-sizes.ensures c.self.invariant
    (window-is t.setup.now.codes g.N.World.design g.N.World.plan t.pushed t.closed c.args.self.now (end_of c.args.last) c.self.view_is c.requires.last) c.in_ok-closed.ensures.closed
    c.replace-beginning.ensures.value (c.replace-slots.ensures.value ∙ c.in_ok-closed.ensures.table)

pub invariant_of-self-2 : goal.invariant_of-self-2
invariant_of-self-2 g c =
    let t = c.self.inside in
    trace-kept c.runs_lead.ensures.runs c.ends_go_on.ensures.stand c.ends_go_on.ensures.lead c.updates_pend.ensures.updates c.ends_go_on.ensures.part c.ends_go_on.ensures.append
    t.setup.now.codes g.N.World.design g.N.World.plan t.pushed t.closed t.steps t.phases t.before c.replace-beginning.new.dest t.slots
    (record { table = c.replace-slots.new.dest; list = c.close_slots.new.slots.list; own = c.close_slots.new.slots.own }) c.sizes-sizes.result c.in_ok-closed.closed (end_of c.args.last)
    c.sizes-sizes.ensures c.self.invariant
    (window-is t.setup.now.codes g.N.World.design g.N.World.plan t.pushed t.closed c.args.self.now (end_of c.args.last) c.self.view_is c.requires.last) c.in_ok-closed.ensures.closed
    c.replace-beginning.ensures.after (subst HasNoSlot (sym c.replace-slots.ensures.after) c.in_ok-spare.ensures.table) c.in_ok-closed.ensures.none
