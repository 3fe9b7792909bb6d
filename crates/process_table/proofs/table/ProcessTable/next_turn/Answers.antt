use Rattle.std.proofs.Common.{◌∙◌, true, false, Some, None, sym, refl}
use Rattle.v_design.specs.PlainDesigns.{design_of}
use Rattle.process_table.proofs.TableCalls.{turn-table, turn-told}
use Rattle.process_table.proofs.table.ProcessTable.next_turn.Goals as goal

pub has_due-requires : goal.has_due-requires
has_due-requires c = c.requires.kept.after

pub returns-then-has_postponed : goal.returns-then-has_postponed
returns-then-has_postponed c = λ machine state of.
    let t = c.args.self.now in
    turn-told t.time t.queue true _ _ (sym c.if-has_postponed.true ∙ c.has_postponed.ensures) refl refl
    ∙ turn-table (design_of t.design.now) t.time t.rows.items t.index t.ready t.lanes t.queue c.requires.kept machine state of

pub returns-then-has_due : goal.returns-then-has_due
returns-then-has_due c = λ machine state of.
    let t = c.args.self.now in
    turn-told t.time t.queue false true _ (sym c.if-has_postponed.false ∙ c.has_postponed.ensures) (sym c.if-has_due.true ∙ c.has_due.ensures) refl
    ∙ turn-table (design_of t.design.now) t.time t.rows.items t.index t.ready t.lanes t.queue c.requires.kept machine state of

pub returns-in-Some : goal.returns-in-Some
returns-in-Some c = λ machine state of.
    let t = c.args.self.now in
    turn-told t.time t.queue false false (Some c.in-Some.time) (sym c.if-has_postponed.false ∙ c.has_postponed.ensures) (sym c.if-has_due.false ∙ c.has_due.ensures) c.in-Some.ensures
    ∙ turn-table (design_of t.design.now) t.time t.rows.items t.index t.ready t.lanes t.queue c.requires.kept machine state of

pub returns-in-None : goal.returns-in-None
returns-in-None c = λ machine state of.
    let t = c.args.self.now in
    turn-told t.time t.queue false false None (sym c.if-has_postponed.false ∙ c.has_postponed.ensures) (sym c.if-has_due.false ∙ c.has_due.ensures) c.in-None.ensures
    ∙ turn-table (design_of t.design.now) t.time t.rows.items t.index t.ready t.lanes t.queue c.requires.kept machine state of
