use Rattle.std.proofs.Common.{rules, ◌≡◌, false, true, map, arith, subst, sym, ◌∙◌}
use Rattle.vf_base.specs.Base.{process_number}
use Rattle.v_design.specs.PlainDesigns.{design_of}
use Rattle.causal_monitor.specs.Notes.{noted_access}
use Rattle.value_change.specs.Changes.{change_seen}
use Rattle.process_table.specs.Rows.{row_states, state_at}
use Rattle.process_table.specs.Noted.{EndsWait}
use Rattle.process_table.proofs.TableCalls.{widths-at, wake-table}
use Rattle.process_table.proofs.WaitCalls.{entries-in, woken-past, woken-stays, woken-ends}
use Rattle.process_table.proofs.table.ProcessTable.wake_process.Goals as goal

pub returns-then-process-len-clause-woken : goal.returns-then-process-len-clause-woken
returns-then-process-len-clause-woken c =
    let t = c.args.self.now in
    woken-past (design_of t.design.now) t.time t.rows.items t.index t.ready t.lanes t.queue c.requires.kept (map change_seen c.args.changes.now) (map noted_access c.args.accesses.now.items)
    (map process_number c.args.ended.now.items)
    (process_number c.args.process) (omega (arith, c.if-process-len.true, c.len.ensures))

pub note_ended-requires-clause-widths : goal.note_ended-requires-clause-widths
note_ended-requires-clause-widths c =
    let t = c.args.self.now in
    widths-at (design_of t.design.now) t.time t.rows.items t.index t.ready t.lanes t.queue c.requires.kept (process_number c.args.process)

pub returns-then-not-branch-clause-woken : goal.returns-then-not-branch-clause-woken
returns-then-not-branch-clause-woken c =
    let t = c.args.self.now in
    let no : c.in_ok-note_ended.field-0 ≡ false = search (rules, c.if-not-branch.true) in
    woken-stays (design_of t.design.now) t.time t.rows.items t.index t.ready t.lanes t.queue c.requires.kept (map change_seen c.args.changes.now)
    (process_number c.args.process) c.args.accesses.now.items c.note_ended.new.accesses.items
    (map process_number c.args.ended.now.items)
    (subst
    (λ b. EndsWait (map change_seen c.args.changes.now) (process_number c.args.process) (state_at (row_states t.rows.items) (process_number c.args.process)).activity b c.args.accesses.now.items
    c.note_ended.new.accesses.items) no
    c.in_ok-note_ended.ensures)

pub returns-then-not-branch-clause-noted : goal.returns-then-not-branch-clause-noted
returns-then-not-branch-clause-noted c =
    let t = c.args.self.now in
    c.in_ok-note_ended.ensures.noted (design_of t.design.now) (entries-in (design_of t.design.now) t.time t.rows.items t.index t.ready t.lanes t.queue c.requires.kept (process_number c.args.process))

pub returns-clause-woken : goal.returns-clause-woken
returns-clause-woken c =
    let t = c.args.self.now in
    let yes : c.in_ok-note_ended.field-0 ≡ true = search (rules, c.if-not-branch.false) in
    woken-ends (design_of t.design.now) t.time t.rows.items t.index t.ready t.lanes t.queue c.requires.kept
    (map change_seen c.args.changes.now) c.args.process c.args.accesses.now.items c.note_ended.new.accesses.items
    c.args.ended.now.items c.push.new.self.items c.make_ready.new.rows.items
    (subst
    (λ b. EndsWait (map change_seen c.args.changes.now) (process_number c.args.process) (state_at (row_states t.rows.items) (process_number c.args.process)).activity b c.args.accesses.now.items
    c.note_ended.new.accesses.items) yes
    c.in_ok-note_ended.ensures)
    c.make_ready.ensures c.in_ok-push.ensures.items

pub returns-clause-noted : goal.returns-clause-noted
returns-clause-noted c =
    let t = c.args.self.now in
    c.in_ok-note_ended.ensures.noted (design_of t.design.now) (entries-in (design_of t.design.now) t.time t.rows.items t.index t.ready t.lanes t.queue c.requires.kept (process_number c.args.process))

pub returns-clause-kept : goal.returns-clause-kept
returns-clause-kept c =
    let t = c.args.self.now in
    let yes : c.in_ok-note_ended.field-0 ≡ true = search (rules, c.if-not-branch.false) in
    wake-table (design_of t.design.now) t.time t.rows.items t.index t.ready t.lanes t.queue c.requires.kept (map change_seen c.args.changes.now)
    (process_number c.args.process) c.make_ready.new.rows.items c.insert.new.self
    (sym c.in_ok-note_ended.ensures.told_is ∙ yes) c.make_ready.ensures c.insert.ensures
