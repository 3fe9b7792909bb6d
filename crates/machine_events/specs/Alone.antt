-- Events of a machine of which no record is kept: what they do to the values, the nodes and the processes, and what they tell (IEEE 1364-2001, clause 5).
use Rattle.std.specs.Prelude.{◌≡◌, ℕ, ◌<◌, map, length}
use Rattle.std.specs.List.{All}
use Rattle.vf_base.specs.Base.{object_number, process_number}
use Rattle.v_design.specs.Designs.{Machine}
use Rattle.v_design.specs.States.{State, Event, Evaluation, NetUpdate, after}
use Rattle.causal_monitor.specs.Notes.{noted_access}
use Rattle.slot_record.specs.Records.{TellsUpdate}
use Rattle.net_state.specs.declared.state.NetState.{NetState}
use Rattle.net_state.specs.States.{machine_in}
use Rattle.process_table.specs.declared.table.ProcessTable.{ProcessTable}
use Rattle.process_table.specs.Arranged.{IsKept, table_of}
use Rattle.machine_events.specs.declared.told.Told.{Told}
use Rattle.machine_events.specs.Parts.{FitsDesign, AreBothOf, Happens}

-- the processes are arranged, and of the design of the values and the nodes: so both are of a state of the machine
pub record AreOfOne (nets : NetState) (table : ProcessTable) : Type 0 where
  pub kept : IsKept table
  pub design : (table_of table).design ≡ (machine_in nets).design

-- from whichever state both are of, an event happens to them and is told, with the line of its statement
pub record HappensTo (event : Event) (line : ℕ) (nets_old nets_new : NetState) (table_old table_new : ProcessTable) (told : Told) : Type 0 where
  pub one : AreOfOne nets_new table_new
  pub fits : FitsDesign (table_of table_old).design told
  pub happens : (machine : Machine) (state : State) → AreBothOf machine state nets_old table_old → Happens machine state event line nets_new table_new told

-- the same of the evaluation of a node and the update of its nets, whose changes are told
pub record NodeHappens (node : ℕ) (nets_old nets_new : NetState) (table_old table_new : ProcessTable) (told : Told) : Type 0 where
  pub one : AreOfOne nets_new table_new
  pub fits : FitsDesign (table_of table_old).design told
  pub objects : All (λ change. object_number change.object < length (machine_in nets_old).design.objects) told.net_changes.items
  pub widths : All (λ change. length change.old ≡ length change.new) told.net_changes.items
  pub both : (machine : Machine) (state : State) → AreBothOf machine state nets_old table_old →
      AreBothOf machine (after machine (after machine state (Evaluation node)) (NetUpdate node)) nets_new table_new
  pub tells : (machine : Machine) (state : State) → AreBothOf machine state nets_old table_old →
      TellsUpdate machine (after machine state (Evaluation node)) node told.net_changes.items (map noted_access told.accesses.items) (map process_number told.ended.items)
