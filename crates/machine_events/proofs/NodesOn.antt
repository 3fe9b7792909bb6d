-- A node is evaluated, its nets get the values, and the processes that they wake are woken (IEEE 1364-2001, clauses 5 and 9.7).
use Rattle.std.proofs.Common.{◌≡◌, ℕ, zero, suc, ◌<◌, List, [], ◌∷◌, ◌++◌, not, ◌&&◌, map, length, refl, sym, ap, subst, ◌∙◌, arith}
use Rattle.std.specs.Prelude.{Option, Some, None, slice_get}
use Rattle.std.specs.List.{All}
use Rattle.vf_base.specs.Base.{object_number, process_number}
use Rattle.four_value.specs.Values.{LogicValue, same_value}
use Rattle.vf_base.specs.Lists.{has, AllHold, joined, map_numbered}
use Rattle.v_design.specs.Designs.{FlatNode, Machine}
use Rattle.v_design.specs.Assignments.{value_at}
use Rattle.v_design.specs.States.{State, Evaluation, NetUpdate, found_or, idle_process, is_ready, after, evaluated}
use Rattle.v_design.specs.Accesses.{ObjectAccess, is_waiting}
use Rattle.event_queue.specs.Queues.{numbers_where}
use Rattle.value_change.specs.declared.change.Change.{Change}
use Rattle.value_change.specs.Changes.{ObjectChange, change_seen, woken_by, ended_by_changes}
use Rattle.value_change.specs.ChangeLaws as seen
use Rattle.slot_record.specs.Records.{TellsUpdate, write_of_change}
use Rattle.slot_record.specs.declared.record.SlotRecord.{SlotRecord}
use Rattle.slot_record.specs.SlotRecords.{AddsNode, node_more, state_in}
use Rattle.net_state.specs.declared.state.NetState.{NetState}
use Rattle.net_state.specs.States.{machine_in, values_in, nodes_in, AreNetsOf}
use Rattle.net_state.specs.TellLaws.{WorkTells, work-tells}
use Rattle.process_table.specs.declared.table.ProcessTable.{ProcessTable}
use Rattle.process_table.specs.Tables.{TableState, IsTableOf, is_woken}
use Rattle.process_table.specs.Arranged.{table_of}
use Rattle.machine_laws.specs.WriteTells.{woken-numbers}
use Rattle.causal_monitor.specs.Notes.{noted_access}
use Rattle.machine_events.specs.declared.told.Told.{Told}
use Rattle.machine_events.specs.Alone.{NodeHappens}
use Rattle.machine_events.specs.Parts.{AreBothOf, Leads}
use Rattle.machine_events.specs.PartLaws.{happened-node}

-- a fact of each element, by its place
pub held-all : {A : Type 0} (P : A → Type 0) (xs : List A) → AllHold P xs → All P xs
held-all P [] h k d low = absurd (omega (arith, low))
held-all P (x ∷ xs) h zero d low = h.0
held-all P (x ∷ xs) h (suc k) d low = held-all P xs h.1 k d (omega (arith, low))

pub mapped-all : {A B : Type 0} (P : B → Type 0) (f : A → B) (xs : List A) → AllHold P (map f xs) → All (λ x. P (f x)) xs
mapped-all P f [] h k d low = absurd (omega (arith, low))
mapped-all P f (x ∷ xs) h zero d low = h.0
mapped-all P f (x ∷ xs) h (suc k) d low = mapped-all P f xs h.1 k d (omega (arith, low))

-- What an update of nets tells

seen-writes : (process line : ℕ) (changes : List Change) → map (write_of_change process line) changes ≡ map (seen.write_of_change process line) (map change_seen changes)
seen-writes process line [] = refl
seen-writes process line (c ∷ changes) = ap (λ l. write_of_change process line c ∷ l) (seen-writes process line changes)

seen-objects : (changes : List Change) → map (λ (c : Change). object_number c.object) changes ≡ map (λ (c : ObjectChange). c.object) (map change_seen changes)
seen-objects [] = refl
seen-objects (c ∷ changes) = ap (λ l. object_number c.object ∷ l) (seen-objects changes)

same-values : (machine : Machine) (node : ℕ) (o : Option FlatNode) (state : State) → (evaluated machine node o state).values ≡ state.values
same-values machine node None state = refl
same-values machine node (Some text) state = refl

same-processes : (machine : Machine) (node : ℕ) (o : Option FlatNode) (state : State) → (evaluated machine node o state).processes ≡ state.processes
same-processes machine node None state = refl
same-processes machine node (Some text) state = refl

-- the work on a node and the processes that it wakes tell its update
pub update-told : (machine : Machine) (state : State) (node : ℕ) (changes : List Change) (accesses : List ObjectAccess) (ended : List ℕ) → WorkTells machine state node (map change_seen changes) →
    accesses ≡ joined (map_numbered (ended_by_changes (map change_seen changes)) 0 state.processes) → ended ≡ numbers_where (is_woken (map change_seen changes)) 0 state.processes →
    TellsUpdate machine (after machine state (Evaluation node)) node changes accesses ended
update-told machine state node changes accesses ended work acc end =
    let last : State = after machine (after machine state (Evaluation node)) (NetUpdate node) in
    record {
      accesses_are = λ process line. (λ i. seen-writes process line changes i ++ acc i) ∙ sym (work.accesses process line);
      tells = record {
        objects = λ object low. ap (λ l. has l object) (seen-objects changes) ∙ work.objects object
            ∙ sym (ap (λ (vs : List LogicValue). not (same_value (value_at vs object) (value_at last.values object))) (same-values machine node (slice_get machine.design.nodes node) state));
        waits = λ process low. ap (λ l. has l process) end ∙ woken-numbers (map change_seen changes) state.processes process
            ∙ (λ i. is_waiting (found_or idle_process (slice_get (sym (same-processes machine node (slice_get machine.design.nodes node) state) i) process)).activity
            && is_ready (found_or idle_process (slice_get (sym work.processes i) process)).activity);
      };
    }

woken-table : (machine : Machine) (state last : State) (old new : TableState) (changes : List ObjectChange) → IsTableOf machine state old →
    new ≡ record old { processes = map (woken_by changes) old.processes } →
    last.time ≡ state.time → last.processes ≡ map (woken_by changes) state.processes → IsTableOf machine last new
woken-table machine state last old new changes had woke time processes = record {
  design = ap (λ (t : TableState). t.design) woke ∙ had.design;
  time = ap (λ (t : TableState). t.time) woke ∙ had.time ∙ sym time;
  processes = ap (λ (t : TableState). t.processes) woke ∙ ap (map (woken_by changes)) had.processes ∙ sym processes;
}

-- the work on a node, with the processes that it wakes, happens and is told
module _ (nets_old nets_new : NetState) (table_old table_new : ProcessTable) (node : ℕ) (changes : List Change) (accesses : List ObjectAccess) (ended : List ℕ)
    (low : node < length (nodes_in nets_old)) (same : machine_in nets_new ≡ machine_in nets_old)
    (nets : (state : State) → AreNetsOf nets_old state → AreNetsOf nets_new (after (machine_in nets_old) (after (machine_in nets_old) state (Evaluation node)) (NetUpdate node)))
    (told : (flat : FlatNode) → slice_get (machine_in nets_old).design.nodes node ≡ Some flat →
    map change_seen changes ≡ seen.net_changes (machine_in nets_old).design flat.outputs (values_in nets_old) (values_in nets_new))
    (woke : table_of table_new ≡ record (table_of table_old) { processes = map (woken_by (map change_seen changes)) (table_of table_old).processes })
    (machine : Machine) (state : State) (both : AreBothOf machine state nets_old table_old)
  where
    work : WorkTells machine state node (map change_seen changes)
    work =
        subst (λ (k : Machine). WorkTells k state node (map change_seen changes)) both.machine_is
        (work-tells nets_old nets_new state node (map change_seen changes) both.nets_are low (nets state both.nets_are) told)

    pub node-both : AreBothOf machine (after machine (after machine state (Evaluation node)) (NetUpdate node)) nets_new table_new
    node-both = record {
      machine_is = same ∙ both.machine_is;
      nets_are = subst (λ (k : Machine). AreNetsOf nets_new (after k (after k state (Evaluation node)) (NetUpdate node))) both.machine_is (nets state both.nets_are);
      table_is = woken-table machine state (after machine (after machine state (Evaluation node)) (NetUpdate node)) (table_of table_old) (table_of table_new) (map change_seen changes)
          both.table_is woke work.time work.processes;
    }

    pub node-told : accesses ≡ joined (map_numbered (ended_by_changes (map change_seen changes)) 0 (table_of table_old).processes) →
        ended ≡ numbers_where (is_woken (map change_seen changes)) 0 (table_of table_old).processes →
        TellsUpdate machine (after machine state (Evaluation node)) node changes accesses ended
    node-told acc end =
        update-told machine state node changes accesses ended work
        (acc ∙ ap (λ ps. joined (map_numbered (ended_by_changes (map change_seen changes)) 0 ps)) both.table_is.processes)
        (end ∙ ap (numbers_where (is_woken (map change_seen changes)) 0) both.table_is.processes)

-- the work on a node that is recorded leads on
pub node-leads : (nets_old nets_new : NetState) (table_old table_new : ProcessTable) (kept_old kept_new : SlotRecord) (node : ℕ) (text : FlatNode) (told : Told) →
    slice_get (machine_in nets_old).design.nodes node ≡ Some text → NodeHappens node nets_old nets_new table_old table_new told →
    (inputs : List ℕ) → text.inputs ≡ inputs →
    AddsNode node inputs told.net_changes.items (map noted_access told.accesses.items) (map process_number told.ended.items) kept_old kept_new →
    Leads (node_more node) nets_old nets_new table_old table_new kept_old kept_new
node-leads nets_old nets_new table_old table_new kept_old kept_new node text told here happens inputs own adds = λ machine first before phase log amid. record {
  both = subst (λ s. AreBothOf machine s nets_new table_new) (sym (happened-node machine phase node)) (happens.both machine (state_in machine phase) amid.both);
  arranged = happens.one.kept;
  recorded = adds machine first before phase log text amid.recorded (subst (λ (k : Machine). slice_get k.design.nodes node ≡ Some text) amid.both.machine_is here) own
      (happens.tells machine (state_in machine phase) amid.both);
}
