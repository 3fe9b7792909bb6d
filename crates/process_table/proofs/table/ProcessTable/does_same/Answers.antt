-- It stands at the point where it stands in the other table.
use Rattle.std.proofs.Common.{◌≡◌, ◌∙◌, ◌<◌, ℕ, length, ap, sym, subst, arith}
use Rattle.vf_base.specs.Base.{process_number}
use Rattle.v_design.specs.Designs.{FlatDesign}
use Rattle.v_design.specs.PlainDesigns.{design_of}
use Rattle.process_code.specs.declared.code.Code.{Code}
use Rattle.process_table.specs.declared.table.ProcessTable.{ProcessTable}
use Rattle.process_table.specs.Arranged.{IsKept, table_of}
use Rattle.run_ends.specs.RunEnds.{IsCodeAt}
use Rattle.process_table.proofs.CodesAt.{row-low, row-there, code-at}
use Rattle.process_table.proofs.TableCalls.{count-processes, count-texts}
use Rattle.process_table.proofs.table.ProcessTable.does_same.Goals as goal

-- a code of a process
code-of : (t : ProcessTable) → IsKept t → (p : ℕ) → p < length (table_of t).processes → (code : Code) × IsCodeAt (table_of t).design p code
code-of t kept p number =
    let low = row-low t kept p number in
    let r = row-there t.rows.items p low in
    (r.0.code, code-at t kept p r.0 low r.1)

-- as many processes as the design has
count : (t : ProcessTable) → IsKept t → length (table_of t).processes ≡ length (table_of t).design.processes
count t kept =
    count-processes (design_of t.design.now) t.time t.rows.items t.index t.ready t.lanes t.queue kept
    ∙ count-texts (design_of t.design.now) t.time t.rows.items t.index t.ready t.lanes t.queue kept

pub state_of-requires-clause-number : goal.state_of-requires-clause-number
state_of-requires-clause-number c =
    omega (
      arith,
      c.requires.number,
      count c.args.self.now c.requires.kept,
      count c.args.other.now c.requires.other_kept,
      ap (λ (d : FlatDesign). length d.processes) c.requires.design,
    )

pub returns-clause-activity : goal.returns-clause-activity
returns-clause-activity c = λ yes.
    let p = process_number c.args.process in
    let code = code-of c.args.self.now c.requires.kept p c.requires.number in
    c.stands_at.ensures.activity yes code.0 code.1 ∙ c.state_of.ensures.activity code.0 (subst (λ (d : FlatDesign). IsCodeAt d p code.0) (sym c.requires.design) code.1)

pub returns-clause-equal : goal.returns-clause-equal
returns-clause-equal c = λ differ.
    let p = process_number c.args.process in
    let code = code-of c.args.self.now c.requires.kept p c.requires.number in
    let there = subst (λ (d : FlatDesign). IsCodeAt d p code.0) (sym c.requires.design) code.1 in
    let does = c.state_of.ensures.activity code.0 there in
    let equal = c.stands_at.ensures.equal code.0 code.1 differ (c.state_of.ensures.state code.0 there) in
    ((λ yes. equal.0 yes ∙ does), (λ same. equal.1 (same ∙ sym does)))
