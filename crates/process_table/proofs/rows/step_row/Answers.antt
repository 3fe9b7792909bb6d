use Rattle.std.proofs.Common.{rules, ◌≡◌, ◌<◌, sym, ap, ◌∙◌, subst, length, arith, true, ℕ, List}
use Rattle.vf_base.specs.Base.{process_number}
use Rattle.v_design.specs.Designs.{FlatProcess}
use Rattle.v_design.specs.Reads.{named_by}
use Rattle.v_design.specs.States.{is_ready}
use Rattle.process_operands.specs.BoundsLaws.{AreBelow}
use Rattle.process_code.specs.Points.{said_by}
use Rattle.process_table.specs.declared.row.Row.{Row}
use Rattle.process_table.specs.Rows.{RowState, IsGoodRow, row_states, state_at}
use Rattle.process_table.proofs.Lists.{AllHold-at}
use Rattle.process_table.proofs.Changed.{rows-step, state-is, text-is, ready-low, rows-length}
use Rattle.process_table.proofs.rows.step_row.Goals as goal

-- a process that is ready has a row
low : (rows : List Row) (p : ℕ) → is_ready (state_at (row_states rows) p).activity ≡ true → p < length rows
low rows p ready = omega (arith, ready-low (row_states rows) p ready, rows-length rows)

pub index_mut-requires : goal.index_mut-requires
index_mut-requires g c = let there = low c.args.rows.now.items (process_number c.args.process) c.requires.ready in search rules

pub step-requires-clause-good : goal.step-requires-clause-good
step-requires-clause-good g c =
    AllHold-at IsGoodRow c.args.rows.now.items (process_number c.args.process) c.index_mut.result.now c.requires.good
    (low c.args.rows.now.items (process_number c.args.process) c.requires.ready) c.index_mut.ensures.value

pub step-requires-clause-ready : goal.step-requires-clause-ready
step-requires-clause-ready g c =
    ap (λ (r : RowState). is_ready r.activity)
    (sym (state-is c.args.rows.now.items (process_number c.args.process) c.index_mut.result.now (low c.args.rows.now.items (process_number c.args.process) c.requires.ready) c.index_mut.ensures.value))
    ∙ c.requires.ready

pub step-requires-clause-there : goal.step-requires-clause-there
step-requires-clause-there g c =
    subst (λ (text : FlatProcess). AreBelow (length (g.V.Values.values c.args.values.now)) (named_by text.body))
    (text-is c.args.rows.now.items (process_number c.args.process) c.index_mut.result.now (low c.args.rows.now.items (process_number c.args.process) c.requires.ready) c.index_mut.ensures.value)
    c.requires.there

pub returns-clause-step : goal.returns-clause-step
returns-clause-step g c =
    rows-step c.args.rows.now.items (process_number c.args.process) c.index_mut.result.now c.step.new.self c.args.now (g.V.Values.values c.args.values.now) c.step.result.0 (said_by c.step.result.1)
    (low c.args.rows.now.items (process_number c.args.process) c.requires.ready) c.index_mut.ensures.value c.step.ensures.step
