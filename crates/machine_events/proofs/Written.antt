-- A write of an update, with the processes that it wakes (IEEE 1364-2001, clauses 5 and 9.7).
use Rattle.std.proofs.Common.{◌≡◌, ℕ, ◌<◌, List, [], ◌∷◌, map, length, sym, ap, subst, ◌∙◌}
use Rattle.four_value.specs.Values.{same_value}
use Rattle.vf_base.specs.Lists.{joined, map_numbered}
use Rattle.v_design.specs.Designs.{Machine}
use Rattle.v_design.specs.Assignments.{ValueUpdate, value_at}
use Rattle.v_design.specs.States.{State, written, value_written}
use Rattle.v_design.specs.Accesses.{ObjectAccess}
use Rattle.value_change.specs.Changes.{ObjectChange, woken_by, ended_by_changes}
use Rattle.value_change.specs.ChangeLaws.{write_of_change}
use Rattle.event_queue.specs.Queues.{numbers_where}
use Rattle.net_state.specs.declared.state.NetState.{NetState}
use Rattle.net_state.specs.States.{machine_in, values_in, AreNetsOf}
use Rattle.process_table.specs.Tables.{TableState, IsTableOf, is_woken}
use Rattle.process_table.specs.declared.table.ProcessTable.{ProcessTable}
use Rattle.process_table.specs.Arranged.{table_of}
use Rattle.machine_laws.specs.WriteTells.{change_by, object_if, TellsWrite, written-processes, write-told}
use Rattle.machine_events.specs.Parts.{AreBothOf}

-- the change that a write told, in a state that has these values
pub record IsChange (nets_old nets_new : NetState) (update : ValueUpdate) (change : ObjectChange) : Type 0 where
  pub machine_is : machine_in nets_new ≡ machine_in nets_old
  pub writes : (state : State) → AreNetsOf nets_old state → AreNetsOf nets_new (written (machine_in nets_old) update state)
  pub object : change.object ≡ update.object
  pub old : (state : State) → AreNetsOf nets_old state → change.old ≡ value_at state.values update.object
  pub new : (state : State) → AreNetsOf nets_old state → change.new ≡ value_written (machine_in nets_old) state update

change-is : (machine : Machine) (state : State) (nets_old nets_new : NetState) (update : ValueUpdate) (change : ObjectChange) → IsChange nets_old nets_new update change →
    machine_in nets_old ≡ machine → AreNetsOf nets_old state →
    change ≡ change_by machine state update
change-is machine state nets_old nets_new update change is same are =
    λ i. record { object = is.object i; old = is.old state are i; new = (is.new state are ∙ ap (λ m. value_written m state update) same) i }

woken-table : (machine : Machine) (state : State) (old new : TableState) (update : ValueUpdate) (change : ObjectChange) → change ≡ change_by machine state update → IsTableOf machine state old →
    new ≡ record old { processes = map (woken_by (change ∷ [])) old.processes } → IsTableOf machine (written machine update state) new
woken-table machine state old new update change is had woke = record {
  design = ap (λ (t : TableState). t.design) woke ∙ had.design;
  time = ap (λ (t : TableState). t.time) woke ∙ had.time;
  processes = ap (λ (t : TableState). t.processes) woke ∙ (λ i. map (woken_by (is i ∷ [])) (had.processes i)) ∙ written-processes machine state update;
}

-- the values, the nodes and the processes are those of the state after the write
pub both-written : (machine : Machine) (state : State) (nets_old nets_new : NetState) (table_old table_new : ProcessTable) (update : ValueUpdate) (change : ObjectChange) →
    IsChange nets_old nets_new update change →
    AreBothOf machine state nets_old table_old → table_of table_new ≡ record (table_of table_old) { processes = map (woken_by (change ∷ [])) (table_of table_old).processes } →
    AreBothOf machine (written machine update state) nets_new table_new
both-written machine state nets_old nets_new table_old table_new update change is both woke = record {
  machine_is = is.machine_is ∙ both.machine_is;
  nets_are = subst (λ m. AreNetsOf nets_new (written m update state)) both.machine_is (is.writes state both.nets_are);
  table_is = woken-table machine state (table_of table_old) (table_of table_new) update change
      (change-is machine state nets_old nets_new update change is both.machine_is both.nets_are) both.table_is woke;
}

-- what is told is what the write tells
pub told-written : (machine : Machine) (state : State) (nets_old nets_new : NetState) (table_old : ProcessTable) (update : ValueUpdate) (change : ObjectChange) (process line : ℕ)
    (accesses : List ObjectAccess) (changed ended : List ℕ) → IsChange nets_old nets_new update change → AreBothOf machine state nets_old table_old → update.object < length (values_in nets_old) →
    accesses ≡ write_of_change process line change ∷ joined (map_numbered (ended_by_changes (change ∷ [])) 0 (table_of table_old).processes) →
    changed ≡ object_if (same_value change.old change.new) change.object → ended ≡ numbers_where (is_woken (change ∷ [])) 0 (table_of table_old).processes →
    TellsWrite machine state update process line accesses changed ended
told-written machine state nets_old nets_new table_old update change process line accesses changed ended is both low acc chg end =
    let same : change ≡ change_by machine state update = change-is machine state nets_old nets_new update change is both.machine_is both.nets_are in
    let there : update.object < length state.values = subst (λ vs. update.object < length vs) both.nets_are.values low in
    subst (λ a. TellsWrite machine state update process line a changed ended)
    (sym (acc ∙ (λ i. write_of_change process line (same i) ∷ joined (map_numbered (ended_by_changes (same i ∷ [])) 0 (both.table_is.processes i)))))
    (subst (λ c. TellsWrite machine state update process line (write_of_change process line (change_by machine state update) ∷
    joined (map_numbered (ended_by_changes (change_by machine state update ∷ [])) 0 state.processes)) c ended)
    (sym (chg ∙ (λ i. object_if (same_value (same i).old (same i).new) (same i).object)))
    (subst
    (λ e. TellsWrite machine state update process line (write_of_change process line (change_by machine state update) ∷
    joined (map_numbered (ended_by_changes (change_by machine state update ∷ [])) 0 state.processes))
    (object_if (same_value (value_at state.values update.object) (value_written machine state update)) update.object) e)
    (sym (end ∙ (λ i. numbers_where (is_woken (same i ∷ [])) 0 (both.table_is.processes i))))
    (write-told machine state update process line there)))
