-- A machine that is put into a state between two slots (IEEE 1364-2001, clause 5.4).
use Rattle.std.proofs.Common.{◌≡◌, ◌∙◌, ℕ, ◌<◌, List, [], length, Bool, true, false, refl, sym, ap, subst}
use Rattle.std.specs.Prelude.{Option, Some, None}
use Rattle.v_design.specs.PlainDesigns.{design_of}
use Rattle.v_design.specs.Designs.{FlatDesign, Machine, StuckAt}
use Rattle.v_design.specs.States.{State, has_event, some_in, turn_of}
use Rattle.v_design.specs.Runs.{turn_in_slot}
use Rattle.v_design.specs.Laws as laws
use Rattle.v_design.specs.PhaseLogs.{NotedEvent}
use Rattle.causal_monitor.specs.declared.slot.Turn.TheVariants as turns
use Rattle.causal_monitor.specs.declared.slot.SlotLog.{SlotLog}
use Rattle.event_causes.specs.Causes.{AreCausesOf}
use Rattle.event_causes.specs.declared.causes.Causes.{Causes}
use Rattle.slot_record.specs.declared.record.SlotRecord.{SlotRecord}
use Rattle.slot_record.specs.SlotRecords.{BeginsSlot, BeginsPhase, IsEmptyLog}
use Rattle.net_state.specs.States.{machine_in, values_in, nodes_in}
use Rattle.process_table.specs.Arranged.{IsKept, table_of}
use Rattle.process_table.specs.Puts.{MayStand}
use Rattle.process_table.specs.Tables.{TableState, IsTableOf, process_in}
use Rattle.machine_events.specs.Turns.{held_in}
use Rattle.machine_events.specs.PartLaws.{held-is, table-count}
use Rattle.machine.specs.declared.parts.Stage.{Stage}
use Rattle.machine.specs.declared.parts.Stage.TheVariants.{Between, Over}
use Rattle.machine.specs.declared.parts.Machine.{Machine as Simulated}
use Rattle.machine.specs.Standing.{machine_kept, state_kept, slot_after, begins_at, begins_next, notes_runs, idle_nodes, BeginsInFirstRun, IsStanding, IsCleared, StandsBetween}

-- what tells the causes before the first event of a phase does so for each machine of the design
pub same-causes : (machine other : Machine) (causes : Causes) → other.design ≡ machine.design → AreCausesOf machine [] causes → AreCausesOf other [] causes
same-causes machine other causes same are = record {
  processes = are.processes ∙ ap (λ (d : FlatDesign). length d.processes) (sym same);
  lane_processes = are.lane_processes ∙ ap (λ (d : FlatDesign). length d.processes) (sym same);
  objects = are.objects ∙ ap (λ (d : FlatDesign). length d.objects) (sym same);
  some = are.some;
  counted = are.counted;
  steps = λ process low. record { below = (are.steps process low).below; tells = (are.steps process low).tells };
  lanes = λ process low. record { below = (are.lanes process low).below; tells = (are.lanes process low).tells };
  changes = λ object low. record { below = (are.changes object low).below; tells = (are.changes object low).tells };
  writers = are.writers;
}

-- a record in which a phase began tells the causes before its first event
pub begun-causes : (machine : Machine) (state : State) (earlier : List NotedEvent) (table : TableState) (log : SlotLog) (old between new : SlotRecord) → AreCausesOf machine earlier old.phase.causes →
    BeginsSlot old between → IsEmptyLog log → BeginsPhase turns.Start table.time (held_in table) between new → IsTableOf machine state table → AreCausesOf machine [] new.phase.causes
begun-causes machine state earlier table log old between new causes slot empty phase of =
    (phase machine turns.Start [] None state log (slot machine turns.Start earlier log causes empty) refl (sym of.time) (held-is machine state table of)).present.causes

-- a machine to which no slot is left stands, where its parts agree
pub over-stands : (m : Simulated) → m.stage ≡ Over → IsKept m.table → (table_of m.table).design ≡ (machine_kept m).design → design_of m.graph.now.design.now ≡ (machine_kept m).design →
    (earlier : List NotedEvent) → AreCausesOf (machine_kept m) earlier m.record.phase.causes → IsCleared m
over-stands m over table design graph earlier causes = record {
  over = over;
  standing = record {
    table = table;
    design = design;
    graph = graph;
    values = m.nets.objects.are.count;
    earlier = earlier;
    causes = causes;
    quiet = λ between. absurd (not-between between);
    nodes = λ between. absurd (not-between between);
    no_turn = λ between. absurd (not-between between);
    begins = λ begins next. absurd (no-next begins next);
    reached = λ begins next. absurd (no-next begins next);
    rests = λ begins next on. absurd (no-next begins next);
  };
}
  where
    not-between : m.stage ≡ Between → ⊥
    not-between between = let no : Over ≡ Between = sym over ∙ between in cc

    no-next : (begins : State) → begins_next m ≡ Some begins → ⊥
    no-next begins next = let no : None ≡ Some begins = sym (ap (λ stage. begins_at stage (state_kept m)) over) ∙ next in cc

-- a machine that was put into a state between two slots stands there
pub between-stands : (old new : Simulated) → IsCleared old → StandsBetween (machine_kept old) (state_kept old) → notes_runs old ≡ false → new.stage ≡ Between →
    new.nets ≡ old.nets → new.table ≡ old.table →
    new.record ≡ old.record → design_of new.graph.now.design.now ≡ design_of old.graph.now.design.now → notes_runs new ≡ notes_runs old → IsStanding new
between-stands old new clear between off stage nets table kept graph notes =
    let s = clear.standing in
    let machine : machine_kept new ≡ machine_kept old = ap machine_in nets in
    let state : state_kept new ≡ state_kept old =
    λ i. record { time = (table_of (table i)).time; values = values_in (nets i); nodes = nodes_in (nets i); processes = (table_of (table i)).processes } in
    let next : begins_next new ≡ slot_after (state_kept old) (turn_of (state_kept old)) = (λ i. begins_at (stage i) (state i)) in
    record {
      table = subst IsKept (sym table) s.table;
      design = ap (λ t. (table_of t).design) table ∙ s.design ∙ ap (λ (k : Machine). k.design) (sym machine);
      graph = graph ∙ s.graph ∙ ap (λ (k : Machine). k.design) (sym machine);
      values = ap (λ (t : State). length t.values) state ∙ s.values ∙ ap (λ (k : Machine). length k.design.objects) (sym machine);
      earlier = s.earlier;
      causes = subst (λ (k : Machine). AreCausesOf k s.earlier new.record.phase.causes) (sym machine)
          (subst (λ (r : SlotRecord). AreCausesOf (machine_kept old) s.earlier r.phase.causes) (sym kept) s.causes);
      quiet = λ is. ap (λ (t : State). some_in has_event t.processes) state ∙ between.quiet;
      nodes = λ is. ap (λ (t : State). t.nodes) state ∙ between.nodes ∙ ap (λ (k : Machine). idle_nodes k.design) (sym machine);
      no_turn = λ is. subst (λ (t : State). turn_in_slot (turn_of t) ≡ None) (sym state) between.no_turn;
      begins = λ begins e. subst (λ k. laws.BeginsPhase k begins) (sym machine) (between.begins begins (sym next ∙ e));
      reached = λ begins e. subst (λ k. BeginsInFirstRun k begins) (sym machine) (between.reached begins (sym next ∙ e));
      rests = λ begins e on. absurd (let no : true ≡ false = sym on ∙ notes ∙ off in cc);
    }

-- a machine that stands after a slot stands in a state into which one may be put
pub stands-between : (m : Simulated) → IsStanding m → m.stage ≡ Between → ((number : ℕ) → MayStand (table_of m.table).design (table_of m.table).time number (process_in (table_of m.table) number)) →
    StandsBetween (machine_kept m) (state_kept m)
stands-between m s stage may =
    let next : begins_next m ≡ slot_after (state_kept m) (turn_of (state_kept m)) = ap (λ at. begins_at at (state_kept m)) stage in
    record {
      values = s.values;
      widths = m.nets.objects.are.widths;
      nodes = s.nodes stage;
      count = table-count m.table s.table ∙ ap (λ (d : FlatDesign). length d.processes) s.design;
      quiet = s.quiet stage;
      no_turn = s.no_turn stage;
      processes = λ number. subst (λ d. MayStand d (table_of m.table).time number (process_in (table_of m.table) number)) s.design (may number);
      begins = λ begins e. s.begins begins (next ∙ e);
      reached = λ begins e. s.reached begins (next ∙ e);
    }
