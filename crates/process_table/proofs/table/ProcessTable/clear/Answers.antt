use Rattle.std.proofs.Common.{◌∙◌, ap, sym, subst, List, Bool, false, length}
use Rattle.v_design.specs.PlainDesigns.{design_of}
use Rattle.v_design.specs.States.{ProcessState}
use Rattle.event_queue.specs.Queues.{HeldProcess, nothing_held, repeated}
use Rattle.process_table.specs.Rows.{row_states}
use Rattle.process_table.specs.Arranged.{IsTable, processes_of}
use Rattle.process_table.specs.Tables.{TableState}
use Rattle.process_table.proofs.PutLaws.{cleared-table, cleared-processes}
use Rattle.process_table.proofs.table.ProcessTable.clear.Goals as goal

pub returns-clause-table : goal.returns-clause-table
returns-clause-table c =
    let t = c.args.self.now in
    let design = design_of t.design.now in
    let Table : List ProcessState → TableState = λ ps. record { design = design; time = c.args.time; processes = ps } in
    ap Table (ap (processes_of (row_states c.clear_rows.new.rows.items)) c.clear.ensures
    ∙ cleared-processes design t.time t.rows.items t.index t.ready t.lanes t.queue c.requires c.clear_rows.new.rows.items c.clear_rows.ensures)

pub returns-clause-kept : goal.returns-clause-kept
returns-clause-kept c =
    let t = c.args.self.now in
    let design = design_of t.design.now in
    let rows = c.clear_rows.new.rows.items in
    let Held : List HeldProcess → Type 0 = λ queue. IsTable design c.args.time rows t.index c.clear-2.new.self c.clear-3.new.self queue in
    let Ready : List Bool → Type 0 = λ ready. IsTable design c.args.time rows t.index ready c.clear-3.new.self (repeated nothing_held (length t.queue)) in
    let Busy : List Bool → Type 0 = λ lanes. IsTable design c.args.time rows t.index (repeated false (length t.ready)) lanes (repeated nothing_held (length t.queue)) in
    subst Held (sym c.clear.ensures) (subst Ready (sym c.clear-2.ensures) (subst Busy (sym c.clear-3.ensures)
    (cleared-table design t.time t.rows.items t.index t.ready t.lanes t.queue c.requires rows c.clear_rows.ensures c.args.time)))
