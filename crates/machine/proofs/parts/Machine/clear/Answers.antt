-- The parts of the cleared machine agree; a phase began in its record, with no event yet.
use Rattle.std.proofs.Common.{◌≡◌, ◌∙◌, List, [], length, map, refl, sym, ap, arith}
use Rattle.v_design.specs.Designs.{FlatDesign, FlatProcess, Machine}
use Rattle.v_design.specs.Plain.{fault_of}
use Rattle.v_design.specs.States.{ProcessState, idle_process}
use Rattle.std.specs.Prelude.{option_map}
use Rattle.net_state.specs.States.{machine_in, values_in, nodes_in}
use Rattle.process_table.specs.Arranged.{table_of}
use Rattle.process_table.specs.Tables.{TableState}
use Rattle.machine.specs.Standing.{machine_kept}
use Rattle.machine.proofs.Beginnings.{begun-room}
use Rattle.machine.proofs.PutLaws.{same-causes, begun-causes, over-stands}
use Rattle.machine.proofs.parts.Machine.clear.Goals as goal

pub begin_phase-requires-clause-number : goal.begin_phase-requires-clause-number
begin_phase-requires-clause-number c = omega (arith, c.in_ok-begin_slot.ensures.number)

pub begin_phase-requires-clause-room : goal.begin_phase-requires-clause-room
begin_phase-requires-clause-room c =
    begun-room c.args.self.now c.begin_slot.new.self c.begin_slot.new.log c.requires c.in_ok-begin_slot.ensures.begins c.in_ok-begin_slot.ensures.empty
    ∙ ap (λ (d : FlatDesign). length d.objects) (sym (ap (λ (t : TableState). t.design) c.clear.ensures.table ∙ c.requires.design))

pub returns-clause-machine : goal.returns-clause-machine
returns-clause-machine c = c.set_fault.ensures.machine ∙ ap (λ (k : Machine). record k { fault = option_map fault_of c.args.fault }) c.unmark_all.ensures.machine

pub returns-clause-state : goal.returns-clause-state
returns-clause-state c =
    let processes = ap (λ (t : TableState). t.processes) c.clear.ensures.table ∙ ap (λ (d : FlatDesign). map (λ (process : FlatProcess). idle_process) d.processes) c.requires.design in
    let values = c.set_fault.ensures.values ∙ c.unmark_all.ensures.values in
    let nodes = c.set_fault.ensures.nodes ∙ c.unmark_all.ensures.nodes in
    λ i. record { time = (c.clear.ensures.table i).time; values = values i; nodes = nodes i; processes = processes i }

pub returns-clause-cleared : goal.returns-clause-cleared
returns-clause-cleared c =
    let m = c.args.self.now in
    let same : (machine_in c.set_fault.new.self).design ≡ (machine_kept m).design =
    ap (λ (k : Machine). k.design) c.set_fault.ensures.machine ∙ ap (λ (k : Machine). k.design) c.unmark_all.ensures.machine in
    let design : (table_of c.clear.new.self).design ≡ (machine_kept m).design = ap (λ (t : TableState). t.design) c.clear.ensures.table ∙ c.requires.design in
    over-stands _ refl c.clear.ensures.kept (design ∙ sym same) (c.requires.graph ∙ sym same) []
    (same-causes (machine_kept m) (machine_in c.set_fault.new.self) _ same
    (begun-causes (machine_kept m)
    (record {
      time = (table_of c.clear.new.self).time;
      values = values_in c.set_fault.new.self;
      nodes = nodes_in c.set_fault.new.self;
      processes = (table_of c.clear.new.self).processes;
    })
    c.requires.earlier (table_of c.clear.new.self) c.begin_slot.new.log m.record c.begin_slot.new.self c.begin_phase.new.record c.requires.causes c.in_ok-begin_slot.ensures.begins
    c.in_ok-begin_slot.ensures.empty c.in_ok-begin_phase.ensures (record { design = design; time = refl; processes = refl })))
