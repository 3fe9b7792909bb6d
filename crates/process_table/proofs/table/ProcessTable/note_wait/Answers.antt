use Rattle.std.proofs.Common.{◌∙◌, ◌++◌, map, ap, sym, subst, arith, append-nil, List}
use Rattle.vf_base.specs.Base.{process_number}
use Rattle.vf_base.specs.declared.finding.AccessKind.TheVariants as kind
use Rattle.vf_base.specs.Lists.{AllHold}
use Rattle.v_design.specs.Trees.{Entry}
use Rattle.v_design.specs.PlainDesigns.{design_of}
use Rattle.v_design.specs.States.{ProcessState}
use Rattle.v_design.specs.Accesses.{await_accesses, waiting_entries}
use Rattle.causal_monitor.specs.Notes.{noted_access}
use Rattle.process_table.specs.Noted.{IsEntryIn}
use Rattle.process_table.proofs.WaitCalls.{entries-in, entries-row, activity-row, process-past}
use Rattle.process_table.proofs.NotedLaws.{access_of, accesses-behind, await-behind}
use Rattle.process_table.proofs.table.ProcessTable.note_wait.Goals as goal

pub returns-then-process-len-clause-accesses : goal.returns-then-process-len-clause-accesses
returns-then-process-len-clause-accesses c =
    let t = c.args.self.now in
    let p = process_number c.args.process in
    let xs = map noted_access c.args.accesses.now.items in
    sym (append-nil xs)
    ∙ ap (λ (process : ProcessState). xs ++ await_accesses p c.args.line process.activity)
    (sym (process-past (design_of t.design.now) t.time t.rows.items t.index t.ready t.lanes t.queue c.requires.kept p (omega (arith, c.if-process-len.true, c.len.ensures))))

pub returns-clause-accesses : goal.returns-clause-accesses
returns-clause-accesses c =
    let t = c.args.self.now in
    let p = process_number c.args.process in
    let xs = map noted_access c.args.accesses.now.items in
    accesses-behind kind.Await c.args.process c.args.line c.waits-entries.result.now c.args.accesses.now.items c.push_entries.new.accesses.items c.in_ok-push_entries.ensures
    ∙ ap (λ (es : List Entry). xs ++ map (access_of kind.Await p c.args.line) es)
    (entries-row (design_of t.design.now) t.time t.rows.items t.index t.ready t.lanes t.queue c.requires.kept p c.index-row.result.now c.waits-entries.result.now
    (omega (arith, c.if-process-len.false, c.len.ensures)) c.index-row.ensures c.waits-entries.ensures
    ∙ ap waiting_entries (sym (activity-row (design_of t.design.now) t.time t.rows.items t.index t.ready t.lanes t.queue c.requires.kept p)))

pub returns-clause-noted : goal.returns-clause-noted
returns-clause-noted c =
    let t = c.args.self.now in
    let p = process_number c.args.process in
    await-behind (design_of t.design.now) c.args.process c.args.line c.waits-entries.result.now c.args.accesses.now.items c.push_entries.new.accesses.items c.in_ok-push_entries.ensures
    (subst (AllHold (IsEntryIn (design_of t.design.now)))
    (sym (entries-row (design_of t.design.now) t.time t.rows.items t.index t.ready t.lanes t.queue c.requires.kept p c.index-row.result.now c.waits-entries.result.now
    (omega (arith, c.if-process-len.false, c.len.ensures)) c.index-row.ensures c.waits-entries.ensures))
    (entries-in (design_of t.design.now) t.time t.rows.items t.index t.ready t.lanes t.queue c.requires.kept p))
