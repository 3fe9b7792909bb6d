use Rattle.std.proofs.Common.{◌≡◌, ◌<◌, ◌∙◌, ℕ, List, length, map, ap, sym, subst, arith, refl}
use Rattle.std.specs.Prelude.{Option, IfSome}
use Rattle.std.proofs.lemmas.List.{length-map}
use Rattle.vf_base.specs.Base.{process_number}
use Rattle.v_design.specs.Designs.{FlatProcess}
use Rattle.v_design.specs.PlainDesigns.{design_of}
use Rattle.v_design.specs.Reads.{named_by}
use Rattle.v_design.specs.RulesHold.{rules_hold}
use Rattle.process_operands.specs.BoundsLaws.{AreBelow}
use Rattle.process_code.specs.Points.{StepSaid, SaysRead, SaysWrite, SaysLater, SaysAwait, SaysSleep, SaysZero, SaysFinished, SaysInner, ReadsBelow, said_by}
use Rattle.process_table.specs.declared.row.Row.{Row}
use Rattle.process_table.specs.Rows.{row_states, row_text, row_state, state_at, text_at}
use Rattle.process_table.specs.Deeds.{read_said}
use Rattle.process_table.proofs.Bodies.{bodies-waitable, bodies-below}
use Rattle.process_table.proofs.Changed.{rows-length, holding-at}
use Rattle.process_table.proofs.TableCalls.{count-ready, count-queue, ready-free}
use Rattle.process_table.proofs.Known.{ready-row, low}
use Rattle.process_table.proofs.Steps.{table-step, is-step}
use Rattle.process_table.proofs.table.ProcessTable.step.Goals as goal

-- as many rows after a step
as-many : (old new : List Row) → map row_text new ≡ map row_text old → length (row_states new) ≡ length (row_states old)
as-many old new texts = length-map new row_state ∙ sym (length-map new row_text) ∙ ap length texts ∙ length-map old row_text ∙ sym (length-map old row_state)

-- the object that is read is there
reads-there : (count limit : ℕ) (said : StepSaid) (read : Option ℕ) → count ≡ limit → ReadsBelow count said → read ≡ read_said said → IfSome read (λ object. object < limit)
reads-there count limit said read same below is =
    subst (λ (r : Option ℕ). IfSome r (λ object. object < limit)) (sym is) (said-there said (subst (λ n. ReadsBelow n said) same below))
  where
    said-there : (said : StepSaid) → ReadsBelow limit said → IfSome (read_said said) (λ object. object < limit)
    said-there (SaysRead object) h = h
    said-there (SaysWrite update) h = tt
    said-there (SaysLater update time) h = tt
    said-there SaysAwait h = tt
    said-there (SaysSleep time) h = tt
    said-there SaysZero h = tt
    said-there SaysFinished h = tt
    said-there SaysInner h = tt

pub step_row-line-requires-clause-ready : goal.step_row-line-requires-clause-ready
step_row-line-requires-clause-ready g c = ready-row c.args.self.now c.requires.kept (process_number c.args.process) c.requires.ready

pub step_row-line-requires-clause-there : goal.step_row-line-requires-clause-there
step_row-line-requires-clause-there g c =
    let t = c.args.self.now in
    let design = design_of t.design.now in
    subst (λ (texts : List FlatProcess). AreBelow (length (g.V.Values.values c.args.values.now)) (named_by (text_at texts (process_number c.args.process)).body)) (sym c.requires.kept.texts)
    (subst (λ (n : ℕ). AreBelow n (named_by (text_at design.processes (process_number c.args.process)).body)) (sym c.requires.values)
    (bodies-below design (rules_hold design t.design.now.rules) (process_number c.args.process)))

pub standing_of-standing-requires : goal.standing_of-standing-requires
standing_of-standing-requires g c =
    let t = c.args.self.now in
    let p = process_number c.args.process in
    omega (arith, low t c.requires.kept p c.requires.ready, as-many t.rows.items c.step_row-line.new.rows.items c.step_row-line.ensures.step.rows.texts, rows-length c.step_row-line.new.rows.items)

pub keep-requires-clause-number : goal.keep-requires-clause-number
keep-requires-clause-number g c =
    let t = c.args.self.now in
    let p = process_number c.args.process in
    omega (arith, low t c.requires.kept p c.requires.ready, rows-length t.rows.items, count-queue (design_of t.design.now) t.time t.rows.items t.index t.ready t.lanes t.queue c.requires.kept)

pub keep-requires-clause-free : goal.keep-requires-clause-free
keep-requires-clause-free g c =
    let t = c.args.self.now in
    let p = process_number c.args.process in
    holding-at (design_of t.design.now) t.time t.rows.items t.index t.ready t.lanes t.queue c.requires.kept p
    ∙ ready-free (state_at (row_states t.rows.items) p).activity (ready-row t c.requires.kept p c.requires.ready)

pub mark-requires : goal.mark-requires
mark-requires g c =
    let t = c.args.self.now in
    let p = process_number c.args.process in
    omega (arith, low t c.requires.kept p c.requires.ready, rows-length t.rows.items, count-ready (design_of t.design.now) t.time t.rows.items t.index t.ready t.lanes t.queue c.requires.kept)

pub returns-clause-step : goal.returns-clause-step
returns-clause-step g c =
    let t = c.args.self.now in
    let design = design_of t.design.now in
    let p = process_number c.args.process in
    is-step design t.time t.rows.items t.index t.ready t.lanes t.queue c.requires.kept (bodies-waitable design (rules_hold design t.design.now.rules)) p (g.V.Values.values c.args.values.now)
    c.step_row-line.new.rows.items c.step_row-line.result.0 (said_by c.step_row-line.result.1) c.step_row-line.ensures.step c.standing_of-standing.result.stage c.standing_of-standing.result.ready
    c.standing_of-standing.result.waits c.keep.new.queue _
    c.standing_of-standing.ensures (low t c.requires.kept p c.requires.ready) c.in_ok-keep.ensures refl c.act_of.ensures.read c.act_of.ensures.write c.later_of.ensures refl refl

pub returns-clause-kept : goal.returns-clause-kept
returns-clause-kept g c =
    let t = c.args.self.now in
    let design = design_of t.design.now in
    let p = process_number c.args.process in
    table-step design t.time t.rows.items t.index t.ready t.lanes t.queue c.requires.kept (bodies-waitable design (rules_hold design t.design.now.rules)) p (g.V.Values.values c.args.values.now)
    c.step_row-line.new.rows.items c.step_row-line.result.0 (said_by c.step_row-line.result.1) c.step_row-line.ensures.step c.standing_of-standing.result.stage c.standing_of-standing.result.ready
    c.standing_of-standing.result.waits c.mark.new.set c.keep.new.queue
    c.standing_of-standing.ensures (low t c.requires.kept p c.requires.ready) c.mark.ensures c.in_ok-keep.ensures

pub returns-clause-reads : goal.returns-clause-reads
returns-clause-reads g c =
    reads-there (length (g.V.Values.values c.args.values.now)) (length (design_of c.args.self.now.design.now).objects) (said_by c.step_row-line.result.1) _ c.requires.values
    c.step_row-line.ensures.reads c.act_of.ensures.read
