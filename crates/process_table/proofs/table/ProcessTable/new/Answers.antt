use Rattle.std.proofs.Common.{◌≡◌, ◌∙◌, List, [], length, map, ap, sym, subst, arith, refl}
use Rattle.std.proofs.lemmas.List.{length-map}
use Rattle.v_design.specs.Plain.{process_of, statement_of}
use Rattle.v_design.specs.Designs.{FlatDesign, FlatProcess}
use Rattle.v_design.specs.PlainDesigns.{design_of}
use Rattle.v_design.specs.RulesHold.{rules_hold}
use Rattle.vf_base.specs.Lists.{AllHold}
use Rattle.v_design.specs.Sized.{IsSizedStatement}
use Rattle.v_design.specs.Processes as does
use Rattle.v_design.specs.Processes.{opened}
use Rattle.v_design.specs.declared.plan.Process.{Process}
use Rattle.event_queue.specs.Queues.{repeated, nothing_held}
use Rattle.process_table.specs.Rows.{RowState, new_state}
use Rattle.process_table.specs.Arranged.{processes_of}
use Rattle.process_table.proofs.Bodies.{bodies-waitable, sized-processes}
use Rattle.process_table.proofs.TableCalls.{table-new, start-processes}
use Rattle.process_table.proofs.table.ProcessTable.new.Goals as goal

pub new_rows-requires : goal.new_rows-requires
new_rows-requires c =
    let design = c.args.design.now in
    subst (AllHold (λ (process : Process). IsSizedStatement (statement_of process.body))) (sym c.as_slice-processes.ensures)
    (sized-processes (design_of design) design.processes (rules_hold (design_of design) design.rules).processes)

pub overflow_cast-count : goal.overflow_cast-count
overflow_cast-count c =
    let design = c.args.design.now in
    omega (arith, ap length c.as_slice-processes.ensures, length-map design.processes process_of, (rules_hold (design_of design) design.rules).few_processes)

-- as many as the design has
count : (processes list : List Process) → list ≡ processes → length list ≡ length (map process_of processes)
count processes list same = ap length same ∙ sym (length-map processes process_of)

pub returns-clause-does : goal.returns-clause-does
returns-clause-does c = λ machine same. record {
  design = same;
  time = refl;
  processes =
      let design = c.args.design.now in
      ap (λ (states : List RowState). processes_of states c.in_ok-queue.queue) (c.in_ok-rows.ensures.states
      ∙ ap (λ (list : List Process). map new_state (map process_of list)) c.as_slice-processes.ensures)
      ∙ ap (processes_of (map new_state (design_of design).processes)) (c.in_ok-queue.ensures
      ∙ ap (repeated nothing_held) (count design.processes c.as_slice-processes.result.now c.as_slice-processes.ensures))
      ∙ start-processes (design_of design).processes
      ∙ ap (λ (d : FlatDesign). map (λ (process : FlatProcess). record { activity = does.Ready (opened process.body []) []; later = []; lane = [] }) d.processes) same;
}

pub returns-clause-kept : goal.returns-clause-kept
returns-clause-kept c =
    let design = c.args.design.now in
    table-new (design_of design) c.in_ok-rows.rows.items c.in_ok-index.index c.in_ok-ready.ready c.in_ok-lanes.lanes c.in_ok-queue.queue (length c.as_slice-processes.result.now)
    (bodies-waitable (design_of design) (rules_hold (design_of design) design.rules)) (c.in_ok-rows.ensures.texts ∙ ap (map process_of) c.as_slice-processes.ensures) c.in_ok-rows.ensures.good
    (c.in_ok-rows.ensures.states ∙ ap (λ (list : List Process). map new_state (map process_of list)) c.as_slice-processes.ensures)
    c.in_ok-index.ensures c.in_ok-ready.ensures c.in_ok-lanes.ensures c.in_ok-queue.ensures (count design.processes c.as_slice-processes.result.now c.as_slice-processes.ensures)
