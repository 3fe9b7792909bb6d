use Rattle.std.proofs.Common.{◌∙◌, ◌<◌, Bool, true, length, map, get_or, take, ap, sym, subst, arith, ℕ, List, take_all}
use Rattle.vf_base.specs.Base.{process_number}
use Rattle.vf_base.specs.declared.ids.ProcId.{ProcId}
use Rattle.vf_base.specs.Lists.{AllHold, change_at}
use Rattle.process_table.specs.declared.row.Row.{Row}
use Rattle.process_table.specs.Turned.{each_changed, ReadiesRows}
use Rattle.process_table.proofs.Numbers.{got-any}
use Rattle.process_table.proofs.Matching.{AllHold-image}
use Rattle.process_table.proofs.EachChanged.{each-push, each-length, images-more, as-many, readies-more}
use Rattle.process_table.proofs.turns.ready_each.Goals as goal

-- what stands for a process that isn't there
abbrev nobody : ProcId
nobody = record { 0 = 0 }

-- a process of the list has a row
low : (rows : List Row) (processes : List ProcId) (i : ℕ) → AllHold (λ n. n < length rows) (map process_number processes) → i < length processes →
    process_number (get_or processes i nobody) < length rows
low rows processes i below there = AllHold-image process_number (λ n. n < length rows) processes i (get_or processes i nobody) below there
    (got-any processes i nobody (get_or processes i nobody) there)

pub make_ready-requires : goal.make_ready-requires
make_ready-requires c =
    omega (
      arith,
      low c.args.rows.now.items c.args.processes.now c.processes.process-index c.requires.numbers c.processes-test.true,
      as-many c.args.rows.now.items c.processes.rows.items c.processes.invariant.rows.texts,
    )

pub insert-requires : goal.insert-requires
insert-requires c =
    omega (
      arith,
      low c.args.rows.now.items c.args.processes.now c.processes.process-index c.requires.numbers c.processes-test.true,
      c.requires.set,
      ap length c.processes.invariant.set,
      each-length (λ (member : Bool). true) (map process_number (take c.processes.process-index c.args.processes.now)) c.args.ready.now,
    )

pub processes-preserved : goal.processes-preserved
processes-preserved c =
    let ps = c.args.processes.now in
    let i = c.processes.process-index in
    let more = images-more process_number ps i nobody c.processes-test.true in
    record {
      rows =
          subst (λ ns. ReadiesRows c.args.rows.now.items c.make_ready.new.rows.items ns) (sym more)
          (readies-more c.args.rows.now.items c.processes.rows.items c.make_ready.new.rows.items (map process_number (take i ps))
          (process_number (get_or ps i nobody)) c.processes.invariant.rows c.make_ready.ensures);
      set =
          c.insert.ensures ∙ ap (λ (members : List Bool). change_at members (process_number (get_or ps i nobody)) (λ (member : Bool). true)) c.processes.invariant.set
          ∙ sym (ap (λ ns. each_changed (λ (member : Bool). true) ns c.args.ready.now) more
          ∙ each-push (λ (member : Bool). true) (map process_number (take i ps)) (process_number (get_or ps i nobody)) c.args.ready.now);
    }

pub returns-clause-rows : goal.returns-clause-rows
returns-clause-rows c =
    subst (λ (ps : List ProcId). ReadiesRows c.args.rows.now.items c.processes.rows.items (map process_number ps))
    (take_all c.processes.process-index c.args.processes.now c.processes-test.false) c.processes.invariant.rows

pub returns-clause-set : goal.returns-clause-set
returns-clause-set c =
    c.processes.invariant.set
    ∙ ap (λ (ps : List ProcId). each_changed (λ (member : Bool). true) (map process_number ps) c.args.ready.now) (take_all c.processes.process-index c.args.processes.now c.processes-test.false)
