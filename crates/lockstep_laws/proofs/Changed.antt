-- Lockstep behind events that each machine took for itself, and what several events change.
use Rattle.std.proofs.Common.{◌≡◌, ℕ, zero, suc, ◌+◌, List, [], ◌∷◌, length, true, false, refl, sym, ap, subst, ◌∙◌, ◌⊎◌, inl, inr}
use Rattle.std.specs.Prelude.{Some, None, slice_get}
use Rattle.v_design.specs.Designs.{Machine, good_machine, faulty_machine}
use Rattle.v_design.specs.States.{State, NodeState, ProcessState, Event, after, process_at, node_at, found_or, idle_node}
use Rattle.v_design.specs.Runs.{work_of, happened}
use Rattle.copy_laws.specs.Moves.{Parts, ChangesOnly, MovesGoOn, parts_of, EventsChangeOnly}
use Rattle.copy_laws.specs.OwnRuns.{EventsTakeNoTime}
use Rattle.copy_laws.proofs.Parts.{decided}
use Rattle.lockstep_laws.specs.Lockstep.{DiffersInWrites}
use Rattle.lockstep_laws.proofs.Lists.{none-either}
use Rattle.lockstep_laws.proofs.Phases.{idle-parts}
use Rattle.lockstep_laws.specs.Blocks.{LockstepBlocks, with_all_nodes, LockstepRests, either_parts, parts_of_all, ChangesAddUp}

-- Lockstep

pub lockstep_blocks : MovesGoOn → EventsTakeNoTime → LockstepBlocks
lockstep_blocks moves no_time design fault parts good faulty good_events faulty_events old new l g f anew writes = record {
  within = moves parts good faulty (happened (good_machine design) good good_events) (happened (faulty_machine design fault) faulty faulty_events) old new l.within g f anew;
  time = no_time (good_machine design) good good_events ∙ l.time ∙ sym (no_time (faulty_machine design fault) faulty faulty_events);
  nodes = λ number. node number (decided (parts.nodes number));
  processes = λ process own e. one process own e (decided (parts.processes process));
}
  where
    node : (number : ℕ) → (parts.nodes number ≡ true) ⊎ (parts.nodes number ≡ false) → new.nodes number ≡ None
    node number (inl h) = writes.nodes number h
    node number (inr h) = anew.nodes_stay number h ∙ l.nodes number

    one : (process : ℕ) (own : ProcessState) → new.processes process ≡ Some own → (parts.processes process ≡ true) ⊎ (parts.processes process ≡ false) →
        DiffersInWrites (process_at (happened (good_machine design) good good_events) process) own
    one process own e (inl h) = writes.processes process own h e
    one process own e (inr h) =
        subst (λ (s : ProcessState). DiffersInWrites s own) (sym (g.processes process h)) (l.processes process own (sym (anew.processes_stay process h) ∙ e))

-- Nodes without work

idle-each : (start : ℕ) (nodes : List NodeState) (number : ℕ) → work_of start nodes ≡ None → found_or idle_node (slice_get nodes number) ≡ idle_node
idle-each start [] number e = refl
idle-each start (node ∷ nodes) zero e =
    let parts = idle-parts start node.marked node.pending (work_of (start + 1) nodes) e in λ i. record { marked = parts.0 i; pending = parts.1 i }
idle-each start (node ∷ nodes) (suc number) e = idle-each (start + 1) nodes number (idle-parts start node.marked node.pending (work_of (start + 1) nodes) e).2

pub lockstep_rests : LockstepBlocks → LockstepRests
lockstep_rests law design fault parts good faulty good_events faulty_events old new l g f good_rests own_rests anew =
    law design fault (with_all_nodes parts) good faulty good_events faulty_events old new l g f
    (record {
      values_stay = anew.values_stay;
      nodes_stay = λ number h. let no : true ≡ false = h in cc;
      processes_stay = anew.processes_stay;
      values = anew.values;
      nodes = λ number h. idle number ∙ ap (found_or (node_at (happened (good_machine design) good good_events) number)) (sym (anew.nodes number));
      processes = anew.processes;
    })
    (record { nodes = λ number h. anew.nodes number; processes = λ process own h e. anew.writes process own h e })
  where
    idle : (number : ℕ) → node_at (happened (faulty_machine design fault) faulty faulty_events) number ≡ node_at (happened (good_machine design) good good_events) number
    idle number =
        idle-each 0 (happened (faulty_machine design fault) faulty faulty_events).nodes number own_rests
        ∙ sym (idle-each 0 (happened (good_machine design) good good_events).nodes number good_rests)

-- Changes add up

wider : (parts more : Parts) (before later : State) → ChangesOnly parts before later → ((object : ℕ) → more.objects object ≡ false → parts.objects object ≡ false) →
    ((number : ℕ) → more.nodes number ≡ false → parts.nodes number ≡ false) → ((process : ℕ) → more.processes process ≡ false → parts.processes process ≡ false) →
    ChangesOnly more before later
wider parts more before later c objects nodes processes = record {
  value_count = c.value_count;
  node_count = c.node_count;
  process_count = c.process_count;
  values = λ object h. c.values object (objects object h);
  nodes = λ number h. c.nodes number (nodes number h);
  processes = λ process h. c.processes process (processes process h);
}

joined-changes : (parts : Parts) (before middle later : State) → ChangesOnly parts before middle → ChangesOnly parts middle later → ChangesOnly parts before later
joined-changes parts before middle later one other = record {
  value_count = other.value_count ∙ one.value_count;
  node_count = other.node_count ∙ one.node_count;
  process_count = other.process_count ∙ one.process_count;
  values = λ object h. other.values object h ∙ one.values object h;
  nodes = λ number h. other.nodes number h ∙ one.nodes number h;
  processes = λ process h. other.processes process h ∙ one.processes process h;
}

unchanged : (parts : Parts) (state : State) → ChangesOnly parts state state
unchanged parts state = record {
  value_count = refl;
  node_count = refl;
  process_count = refl;
  values = λ object h. refl;
  nodes = λ number h. refl;
  processes = λ process h. refl;
}

events-change : EventsChangeOnly → (machine : Machine) (state : State) (events : List Event) → length state.nodes ≡ length machine.design.nodes →
    ChangesOnly (parts_of_all machine state events) state (happened machine state events)
events-change law machine state [] fits = unchanged (parts_of_all machine state []) state
events-change law machine state (event ∷ events) fits =
    let first = law machine state event fits in
    let rest = events-change law machine (after machine state event) events (first.node_count ∙ fits) in
    let one : Parts = parts_of machine state event in
    let more : Parts = parts_of_all machine (after machine state event) events in
    joined-changes (either_parts one more) state (after machine state event) (happened machine (after machine state event) events)
    (wider one (either_parts one more) state (after machine state event) first (λ object h. (none-either (one.objects object) (more.objects object) h).0)
    (λ number h. (none-either (one.nodes number) (more.nodes number) h).0) (λ process h. (none-either (one.processes process) (more.processes process) h).0))
    (wider more (either_parts one more) (after machine state event) (happened machine (after machine state event) events) rest
    (λ object h. (none-either (one.objects object) (more.objects object) h).1) (λ number h. (none-either (one.nodes number) (more.nodes number) h).1)
    (λ process h. (none-either (one.processes process) (more.processes process) h).1))

pub changes_add_up : EventsChangeOnly → ChangesAddUp
changes_add_up law = record { wider = wider; more = joined-changes; events = events-change law }
