-- What holds of the parts of a machine in a slot, for who runs one (IEEE 1364-2001, clause 5).
use Rattle.std.proofs.Common.{◌≡◌, ℕ, zero, suc, ◌<◌, ◌≤◌, ◌⊎◌, inl, inr, get_or, List, [], ◌∷◌, ◌++◌, length, Bool, true, false, refl, sym, ap, ◌∙◌, arith}
use Rattle.std.specs.Prelude.{Some, None, slice_get}
use Rattle.std.proofs.lemmas.List.{length-map}
use Rattle.std.proofs.lemmas.Option.{slice_get_cases}
use Rattle.vf_base.specs.Lists.{joined, map_numbered}
use Rattle.v_design.specs.Designs.{FlatNode, Machine}
use Rattle.v_design.specs.States.{State, Event, Evaluation, NetUpdate, TurnKind, PostponedTurn, UpdatesTurn, TimeTurn, after, found_or, turned}
use Rattle.v_design.specs.Accesses.{held_by, held_accesses}
use Rattle.v_design.specs.Runs.{happened}
use Rattle.v_design.specs.Grades.{Phase}
use Rattle.event_queue.specs.Queues.{HeldProcess}
use Rattle.slot_record.specs.SlotRecords.{node_more, state_in}
use Rattle.net_state.specs.declared.state.NetState.{NetState}
use Rattle.net_state.specs.Held.{node_marked}
use Rattle.net_state.specs.States.{machine_in, nodes_in, AreNetsOf}
use Rattle.process_table.specs.Tables.{TableState, IsTableOf}
use Rattle.process_table.specs.declared.table.ProcessTable.{ProcessTable}
use Rattle.process_table.specs.Rows.{RowState, row_state, row_states, row_text}
use Rattle.process_table.specs.Arranged.{IsKept, table_of, processes_of, row_holding}
use Rattle.machine_events.specs.Turns.{held_in}

-- one event more
pub happened-more : (machine : Machine) (state : State) (events : List Event) (event : Event) → happened machine state (events ++ event ∷ []) ≡ after machine (happened machine state events) event
happened-more machine state [] event = refl
happened-more machine state (first ∷ events) event = happened-more machine (after machine state first) events event

-- a node's evaluation and the update of its nets more
pub happened-node : (machine : Machine) (phase : Phase) (node : ℕ) →
    state_in machine (node_more node phase) ≡ after machine (after machine (state_in machine phase) (Evaluation node)) (NetUpdate node)
happened-node machine phase node =
    happened-more machine phase.begins (phase.events ++ Evaluation node ∷ []) (NetUpdate node)
    ∙ ap (λ s. after machine s (NetUpdate node)) (happened-more machine phase.begins phase.events (Evaluation node))

zipped : (states : List RowState) (queue : List HeldProcess) → length queue ≡ length states → length (processes_of states queue) ≡ length states
zipped [] queue e = refl
zipped (s ∷ states) [] e = absurd (omega (arith, e))
zipped (s ∷ states) (h ∷ queue) e = ap suc (zipped states queue (omega (arith, e)))

-- a table keeps as many processes as its design has
pub table-count : (table : ProcessTable) → IsKept table → length (table_of table).processes ≡ length (table_of table).design.processes
table-count table kept =
    zipped (row_states table.rows.items) table.queue
    (sym (length-map table.queue (λ (h : HeldProcess). h.holding)) ∙ ap length kept.holdings ∙ length-map (row_states table.rows.items) row_holding)
    ∙ length-map table.rows.items row_state ∙ sym (length-map table.rows.items row_text) ∙ ap length kept.texts

-- what passes a test that the default fails is there
pub passes-there : {A : Type 0} (test : A → Bool) (default : A) (xs : List A) (n : ℕ) → test default ≡ false → test (found_or default (slice_get xs n)) ≡ true → n < length xs
passes-there test default [] n fails passes = let no : true ≡ false = sym passes ∙ fails in cc
passes-there test default (x ∷ xs) zero fails passes = omega arith
passes-there test default (x ∷ xs) (suc n) fails passes = omega (arith, passes-there test default xs n fails passes)

-- a turn changes no value and no node
pub turned-nets : (kind : TurnKind) (nets : NetState) (state : State) → AreNetsOf nets state → AreNetsOf nets (turned kind state)
turned-nets PostponedTurn nets state are = record { values = are.values; nodes = are.nodes }
turned-nets UpdatesTurn nets state are = record { values = are.values; nodes = are.nodes }
turned-nets (TimeTurn time) nets state are = record { values = are.values; nodes = are.nodes }

-- what a phase holds which begins with the processes of a state
pub held-is : (machine : Machine) (state : State) (table : TableState) → IsTableOf machine state table → held_in table ≡ held_accesses machine state
held-is machine state table is = λ i. joined (map_numbered (held_by (is.design i)) 0 (is.processes i))

-- a node with a mark is one of the design
pub node-low : (nets : NetState) (node : ℕ) → node < length (nodes_in nets) → node < length (machine_in nets).design.nodes
node-low nets node low = omega (arith, low, length-map nets.objects.settle.marks.items node_marked, nets.objects.settle.sized)

pub node-there : (nets : NetState) (node : ℕ) → node < length (nodes_in nets) → (text : FlatNode) × (slice_get (machine_in nets).design.nodes node ≡ Some text)
node-there nets node low = found (slice_get_cases (machine_in nets).design.nodes node).1
  where
    found : ((text : FlatNode) × (node < length (machine_in nets).design.nodes) × (slice_get (machine_in nets).design.nodes node ≡ Some text)
        × (get_or (machine_in nets).design.nodes node text ≡ text))
        ⊎ ((length (machine_in nets).design.nodes ≤ node) × (slice_get (machine_in nets).design.nodes node ≡ None)) →
        (text : FlatNode) × (slice_get (machine_in nets).design.nodes node ≡ Some text)
    found (inl there) = (there.0, there.2)
    found (inr past) = absurd (omega (arith, node-low nets node low, past.0))
