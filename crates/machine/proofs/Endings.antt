-- A slot is at its end (IEEE 1364-2001, clause 5.4).
use Rattle.std.proofs.Common.{◌≡◌, ℕ, ◌+◌, List, [], ◌∷◌, map, length, Bool, true, false, refl, sym, ap, subst, ◌∙◌, arith}
use Rattle.std.specs.Prelude.{Some, None}
use Rattle.v_design.specs.PlainDesigns.{design_of}
use Rattle.v_design.specs.Designs.{FlatNode, Machine}
use Rattle.v_design.specs.States.{State, Evaluation, idle_node, time_turn, turn_of, has_event, some_in}
use Rattle.v_design.specs.Runs.{slot_end, is_hyper, turn_in_slot, work_of}
use Rattle.v_design.specs.Laws.{BeginsPhase}
use Rattle.v_design.specs.Grades as plain
use Rattle.v_design.specs.Grades.{SlotOutcome, slot_outcome}
use Rattle.causal_monitor.specs.declared.slot.Turn.{Turn}
use Rattle.causal_monitor.specs.declared.slot.SlotLog.{SlotLog}
use Rattle.causal_monitor.specs.declared.slot.Actor.{Actor}
use Rattle.event_causes.specs.Causes.{AreCausesOf}
use Rattle.slot_record.specs.Records.{event_of}
use Rattle.machine_laws.specs.SlotLoop.{present_phase, NextSlotsBegin, slot_from, phases_so_far}
use Rattle.slot_record.specs.declared.record.SlotRecord.{SlotRecord}
use Rattle.slot_record.specs.SlotRecords.{EndsPhase, RecordedSlot}
use Rattle.slot_record.specs.SlotEnds.{outcome_kept, outcome-recorded, log-recorded}
use Rattle.run_ends.specs.RunEnds.{HaveRunEnds}
use Rattle.run_record.specs.RunRecords.{IsAtRest, SlotsEndNotes}
use Rattle.run_record.specs.declared.record.RunRecord.{RunRecord}
use Rattle.net_state.specs.declared.state.NetState.{NetState}
use Rattle.net_state.specs.Held.{node_marked}
use Rattle.net_state.specs.States.{machine_in, values_in, nodes_in}
use Rattle.process_table.specs.Arranged.{IsKept, table_of}
use Rattle.machine.specs.declared.end.SlotEnd.{SlotEnd}
use Rattle.machine.specs.declared.parts.Stage.TheVariants.{Between}
use Rattle.machine.specs.declared.parts.Machine.{Machine as Simulated}
use Rattle.machine.specs.Standing.{machine_kept, state_kept, slot_after, begins_at, notes_runs, following, outcome_of, idle_nodes, BeginsInFirstRun, IsStanding, RunsSlot}
use Rattle.machine.specs.Phases.{EndsSlot, outcome_told, stage_after}
use Rattle.order_laws.specs.FirstRuns.{FirstRunsGoOn}
use Rattle.machine.proofs.Moved.{graph-of}
use Rattle.machine.proofs.Events.{rules-at}
use Rattle.machine.proofs.TurnsOn.{idle-processes, none-ready}
use Rattle.machine.proofs.Beginnings.{later-slot}
use Rattle.machine.proofs.InRun.{next-in-run}

told-kept : (hyper : Bool) (kept : SlotRecord) → outcome_told hyper kept.race ≡ outcome_kept hyper kept
told-kept true kept = refl
told-kept false kept = refl

next-is : (machine : Machine) (begins state : State) (hyper : Bool) → is_hyper (slot_from machine begins) ≡ hyper → state ≡ slot_end machine (slot_from machine begins) →
    begins_at (stage_after hyper) state ≡ following machine (slot_from machine begins)
next-is machine begins state true is same =
    sym (ap (λ b. elim b [ true ↦ None | false ↦ slot_after (slot_end machine (slot_from machine begins)) (turn_of (slot_end machine (slot_from machine begins))) ]) is)
next-is machine begins state false is same =
    ap (λ s. slot_after s (turn_of s)) same
    ∙ sym (ap (λ b. elim b [ true ↦ None | false ↦ slot_after (slot_end machine (slot_from machine begins)) (turn_of (slot_end machine (slot_from machine begins))) ]) is)

-- the last phase is recorded
pub ended-record : (machine : Machine) (first : Turn) (begins : State) (hyper : Bool) (old : Simulated) (log logged : SlotLog) (kept : SlotRecord)
    (ends : EndsSlot machine first begins hyper old log) →
    EndsPhase (design_of old.graph.now.design.now) old.record kept log logged → RecordedSlot machine first (phases_so_far ends.at) kept logged
ended-record machine first begins hyper old log logged kept ends phase = phase machine first ends.at.ended _ (sym (graph-of machine first ends.at old log ends.is)) ends.is.recorded

-- what the slot gives
pub slot-run : SlotsEndNotes → (machine : Machine) (first : Turn) (begins : State) (hyper : Bool) (end : SlotEnd) (old new : Simulated) (log logged timed : SlotLog) →
    EndsSlot machine first begins hyper old log →
    EndsPhase (design_of old.graph.now.design.now) old.record new.record log logged → outcome_of end ≡ outcome_told hyper new.record.race → state_kept new ≡ state_kept old →
    new.stage ≡ stage_after hyper →
    timed.phases ≡ logged.phases → timed.actors ≡ logged.actors → timed.turns ≡ logged.turns → timed.time ≡ (table_of old.table).time →
    new.runs ≡ old.runs → notes_runs new ≡ notes_runs old → RunsSlot machine begins first end new timed
slot-run law machine first begins hyper end old new log logged timed ends phase says same stage phases actors turns time noted notes =
    let recorded : RecordedSlot machine first (phases_so_far ends.at) new.record logged = ended-record machine first begins hyper old log logged new.record ends phase in
    let had = log-recorded machine hyper ends.at first new.record logged ends.ends recorded in
    subst (λ b. RunsSlot machine b first end new timed) ends.begins_is
    (record {
      outcome = says ∙ told-kept hyper new.record ∙ sym (outcome-recorded machine hyper ends.at first new.record logged ends.ends recorded);
      state = same ∙ ends.is.state_is ∙ sym ends.ends.end_is;
      between = λ few. stage ∙ ap stage_after (sym ends.ends.hyper_is ∙ few);
      next = ap (λ s. begins_at s (state_kept new)) stage ∙ next-is machine ends.at.begins (state_kept new) hyper ends.ends.hyper_is (same ∙ ends.is.state_is ∙ sym ends.ends.end_is);
      logged = record { phases_are = phases ∙ had.phases_are; actors_are = ap (map (λ (one : List Actor). map event_of one)) actors ∙ had.actors_are; turns_are = turns ∙ had.turns_are };
      log_time = time ∙ ap (λ (s : State). s.time) ends.is.state_is ∙ ends.is.comes.same_time;
      runs = λ on few.
          subst (λ (kept : RunRecord). HaveRunEnds machine (plain.phases machine (slot_from machine ends.at.begins)) kept.ended.items) (sym noted)
          (subst (λ l. HaveRunEnds machine l old.runs.ended.items) (sym ends.ends.phases_are)
          (law machine ends.at.ended (present_phase ends.at) old.runs (none-ready machine ends.at ends.is.comes (ends.idle (sym ends.ends.hyper_is ∙ few))) (ends.is.runs (sym notes ∙ on))).ends);
    })

between-not-hyper : (hyper : Bool) → stage_after hyper ≡ Between → hyper ≡ false
between-not-hyper true e = cc
between-not-hyper false e = refl

next-begins : NextSlotsBegin → (machine : Machine) (first : Turn) (begins next : State) (hyper : Bool) (old : Simulated) (log : SlotLog) → EndsSlot machine first begins hyper old log →
    begins_at (stage_after hyper) (state_kept old) ≡ Some next →
    BeginsPhase machine next
next-begins law machine first begins next true old log ends e = cc
next-begins law machine first begins next false old log ends e =
    let l = later-slot (state_kept old) next (turn_of (state_kept old)) e in
    subst (BeginsPhase machine) (ap (λ s. time_turn l.0 s) (sym ends.is.state_is) ∙ l.2)
    (law machine ends.at l.0 (rules-at machine first ends.at old log ends.is) ends.is.comes (ends.idle refl) (ap turn_of (sym ends.is.state_is) ∙ l.1))

-- no process is in a run
next-rests : SlotsEndNotes → (machine : Machine) (first : Turn) (begins next : State) (hyper : Bool) (old : Simulated) (log : SlotLog) → EndsSlot machine first begins hyper old log →
    begins_at (stage_after hyper) (state_kept old) ≡ Some next →
    notes_runs old ≡ true → IsAtRest (length machine.design.processes) old.runs
next-rests law machine first begins next true old log ends e on = cc
next-rests law machine first begins next false old log ends e on =
    (law machine ends.at.ended (present_phase ends.at) old.runs (none-ready machine ends.at ends.is.comes (ends.idle refl)) (ends.is.runs on)).rests

-- where no node has work, none is marked
idle-marks : (from : ℕ) (marks : List Bool) (nodes : List FlatNode) → length marks ≡ length nodes → work_of from (map node_marked marks) ≡ None →
    map node_marked marks ≡ map (λ (node : FlatNode). idle_node) nodes
idle-marks from [] [] long none = refl
idle-marks from [] (node ∷ nodes) long none = absurd (omega (arith, long))
idle-marks from (mark ∷ marks) [] long none = absurd (omega (arith, long))
idle-marks from (true ∷ marks) (node ∷ nodes) long none = absurd (let no : Some (Evaluation from) ≡ None = none in cc)
idle-marks from (false ∷ marks) (node ∷ nodes) long none = ap (λ rest. idle_node ∷ rest) (idle-marks (from + 1) marks nodes (omega (arith, long)) none)

marks-count : (nets : NetState) → length nets.objects.settle.marks.items ≡ length (machine_in nets).design.nodes
marks-count nets = omega (arith, nets.objects.settle.sized)

-- the machine stands between two slots
pub slot-stands : NextSlotsBegin → SlotsEndNotes → FirstRunsGoOn → (machine : Machine) (first : Turn) (begins : State) (hyper : Bool) (old new : Simulated) (log logged : SlotLog) →
    BeginsInFirstRun machine begins → EndsSlot machine first begins hyper old log →
    EndsPhase (design_of old.graph.now.design.now) old.record new.record log logged → new.nets ≡ old.nets → new.table ≡ old.table →
    design_of new.graph.now.design.now ≡ design_of old.graph.now.design.now → new.stage ≡ stage_after hyper →
    new.runs ≡ old.runs → notes_runs new ≡ notes_runs old → IsStanding new
slot-stands law quiet follows machine first begins hyper old new log logged within ends phase nets table graph stage noted notes =
    let recorded : RecordedSlot machine first (phases_so_far ends.at) new.record logged = ended-record machine first begins hyper old log logged new.record ends phase in
    let same : machine_kept new ≡ machine = ap machine_in nets ∙ ends.is.machine_is in
    record {
      table = subst IsKept (sym table) ends.is.parts.table;
      design = ap (λ t. (table_of t).design) table ∙ ends.is.parts.design ∙ ap (λ n. (machine_in n).design) (sym nets);
      graph = graph ∙ ends.is.parts.graph ∙ ap (λ n. (machine_in n).design) (sym nets);
      values = subst (λ n. length (values_in n) ≡ length (machine_in n).design.objects) (sym nets) ends.is.parts.values;
      earlier = recorded.earlier;
      causes = subst (λ k. AreCausesOf k recorded.earlier new.record.phase.causes) (sym same) recorded.causes;
      quiet = λ between.
          ap (λ t. some_in has_event (table_of t).processes) table ∙ ap (λ (s : State). some_in has_event s.processes) ends.is.state_is
          ∙ idle-processes ends.at.state (ends.idle (between-not-hyper hyper (sym stage ∙ between)));
      nodes = λ between.
          ap nodes_in nets
          ∙ idle-marks 0 old.nets.objects.settle.marks.items (machine_in old.nets).design.nodes (marks-count old.nets)
          (ap (λ (s : State). work_of 0 s.nodes) ends.is.state_is ∙ (ends.idle (between-not-hyper hyper (sym stage ∙ between))).0)
          ∙ ap (λ n. idle_nodes (machine_in n).design) (sym nets);
      no_turn = λ between.
          subst (λ s. turn_in_slot (turn_of s) ≡ None) (sym ends.is.state_is ∙ (λ i. record {
            time = (table_of (sym table i)).time;
            values = values_in (sym nets i);
            nodes = nodes_in (sym nets i);
            processes = (table_of (sym table i)).processes;
          })) (ends.no_turn (between-not-hyper hyper (sym stage ∙ between)));
      begins = λ next e. subst (λ k. BeginsPhase k next) (sym same)
          (next-begins law machine first begins next hyper old log ends
          ((λ i. begins_at (sym stage i) (record {
            time = (table_of (sym table i)).time;
            values = values_in (sym nets i);
            nodes = nodes_in (sym nets i);
            processes = (table_of (sym table i)).processes;
          })) ∙ e));
      reached = λ next e.
          subst (λ k. BeginsInFirstRun k next) (sym same)
          (next-in-run follows machine begins next (rules-at machine first ends.at old log ends.is) within
          (sym (next-is machine begins (state_kept old) hyper (subst (λ b. is_hyper (slot_from machine b) ≡ hyper) ends.begins_is ends.ends.hyper_is)
          (subst (λ b. state_kept old ≡ slot_end machine (slot_from machine b)) ends.begins_is (ends.is.state_is ∙ sym ends.ends.end_is)))
          ∙ (λ i. begins_at (sym stage i) (record {
            time = (table_of (sym table i)).time;
            values = values_in (sym nets i);
            nodes = nodes_in (sym nets i);
            processes = (table_of (sym table i)).processes;
          })) ∙ e));
      rests = λ next e on.
          subst (λ (kept : RunRecord). IsAtRest (length (machine_kept new).design.processes) kept) (sym noted)
          (subst (λ (k : Machine). IsAtRest (length k.design.processes) old.runs) (sym same)
          (next-rests quiet machine first begins next hyper old log ends
          ((λ i. begins_at (sym stage i) (record {
            time = (table_of (sym table i)).time;
            values = values_in (sym nets i);
            nodes = nodes_in (sym nets i);
            processes = (table_of (sym table i)).processes;
          })) ∙ e) (sym notes ∙ on)));
    }
