use Rattle.std.proofs.Common.{map, sym, subst, List, ℕ}
use Rattle.v_design.specs.PlainDesigns.{design_of}
use Rattle.value_change.specs.Changes.{change_seen}
use Rattle.process_table.specs.Wakes.{HasWoken}
use Rattle.process_table.specs.Rows.{row_states}
use Rattle.process_table.specs.Arranged.{processes_of}
use Rattle.process_table.proofs.WaitCalls.{woken-candidates, ended-below, changes-indexed}
use Rattle.process_table.proofs.table.ProcessTable.wake.Goals as goal

pub list_candidates-requires : goal.list_candidates-requires
list_candidates-requires c =
    let t = c.args.self.now in
    changes-indexed (design_of t.design.now) t.time t.rows.items t.index t.ready t.lanes t.queue c.requires.kept c.args.changes.now c.requires.objects

pub wake_each-requires-clause-all : goal.wake_each-requires-clause-all
wake_each-requires-clause-all c =
    let t = c.args.self.now in
    subst (λ (numbers : List ℕ). HasWoken (map change_seen c.args.changes.now) (processes_of (row_states t.rows.items) t.queue) numbers) (sym c.deref.ensures.value)
    (woken-candidates (design_of t.design.now) t.time t.rows.items t.index t.ready t.lanes t.queue c.requires.kept
    (map change_seen c.args.changes.now) c.list_candidates.new.candidates.items c.in_ok-list_candidates.ensures.waiters)

pub returns-clause-ended : goal.returns-clause-ended
returns-clause-ended c old =
    let t = c.args.self.now in
    ended-below (map change_seen c.args.changes.now) (processes_of (row_states t.rows.items) t.queue) c.args.ended.now.items c.wake_each.new.ended.items c.in_ok-wake_each.ensures.woken.ended old
