-- The values, the nodes and the processes are those of the start.
use Rattle.std.proofs.Common.{◌≡◌, ◌∙◌, [], length, refl, sym, ap, subst}
use Rattle.std.proofs.lemmas.List.{length-map}
use Rattle.v_design.specs.Designs.{Machine}
use Rattle.v_design.specs.Plain.{process_of}
use Rattle.event_causes.specs.Causes.{AreCausesOf}
use Rattle.event_causes.specs.declared.causes.Causes.{Causes}
use Rattle.v_design.specs.PlainDesigns.{design_of}
use Rattle.v_design.specs.Views.{machine_with}
use Rattle.std.specs.Prelude.{Some}
use Rattle.v_design.specs.States.{State, start}
use Rattle.net_state.specs.declared.state.NetState.{NetState}
use Rattle.net_state.specs.States.{values_in, nodes_in}
use Rattle.process_table.specs.declared.table.ProcessTable.{ProcessTable}
use Rattle.process_table.specs.Arranged.{table_of}
use Rattle.machine_events.specs.Parts.{AreBothOf}
use Rattle.machine.proofs.Started.{start-stands}
use Rattle.machine.proofs.parts.Machine.new.Goals as goal

pub returns-clause-machine : goal.returns-clause-machine
returns-clause-machine c = c.in_ok-nets.ensures.machine

-- the state of these values, nodes and processes
abbrev state_in : NetState → ProcessTable → State
state_in nets table = record { time = (table_of table).time; values = values_in nets; nodes = nodes_in nets; processes = (table_of table).processes }

state-is : (machine : Machine) (state : State) (nets : NetState) (table : ProcessTable) → AreBothOf machine state nets table → Some (state_in nets table) ≡ Some state
state-is machine state nets table both = λ i. Some (record { time = both.table_is.time i; values = both.nets_are.values i; nodes = both.nets_are.nodes i; processes = both.table_is.processes i })

causes-of : (machine other : Machine) (causes : Causes) → machine ≡ other → AreCausesOf other [] causes → AreCausesOf machine [] causes
causes-of machine other causes same are = subst (λ k. AreCausesOf k [] causes) (sym same) are

pub returns-clause-begins : goal.returns-clause-begins
returns-clause-begins c =
    let machine = machine_with c.args.design.now c.args.fault in
    state-is machine (start machine) c.in_ok-nets.nets c.in_ok-table.table (record {
      machine_is = c.in_ok-nets.ensures.machine;
      nets_are = c.in_ok-nets.ensures.begins;
      table_is = c.in_ok-table.ensures.does machine refl;
    })

pub returns-clause-standing : goal.returns-clause-standing
returns-clause-standing c =
    let machine = machine_with c.args.design.now c.args.fault in
    let same = c.in_ok-nets.ensures.machine in
    let objects = sym (c.object_count.ensures.count ∙ c.object_count.ensures.all ∙ ap (λ (k : Machine). length k.design.objects) same) in
    start-stands c.nets.ensures.begin c.first_run_goes_on.ensures machine _ (record { machine_is = same; nets_are = c.in_ok-nets.ensures.begins; table_is = c.in_ok-table.ensures.does machine refl })
    refl
    c.in_ok-table.ensures.kept (ap design_of c.requires)
    (causes-of _ _ _ same (c.in_ok-record.ensures machine (length-map c.args.design.now.processes process_of ∙ sym (ap length c.as_slice-processes.ensures)) objects)) refl
