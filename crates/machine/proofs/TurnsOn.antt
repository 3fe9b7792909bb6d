-- A phase ends, and a turn within the slot begins the next one (IEEE 1364-2001, clauses 5.3 and 5.4).
use Rattle.std.proofs.Common.{◌≡◌, ℕ, zero, suc, ◌+◌, ◌≤◌, List, [], ◌∷◌, Bool, true, false, ◌||◌, length, refl, sym, subst, ◌∙◌, arith, ◌^◌, ◌<◌, ◌++◌, length-append}
use Rattle.std.specs.Prelude.{Option, Some, None, slice_get}
use Rattle.v_design.specs.PlainDesigns.{design_of}
use Rattle.vf_base.specs.Lists.{first_place, earlier_place}
use Rattle.v_design.specs.Designs.{Machine}
use Rattle.v_design.specs.States.{State, ProcessState, TurnKind, found_or, idle_process, turn_of, turned, has_event, some_in, is_ready, is_any}
use Rattle.v_design.specs.Runs.{most_steps, turned_by}
use Rattle.causal_monitor.specs.declared.slot.Turn.{Turn}
use Rattle.causal_monitor.specs.declared.slot.SlotLog.{SlotLog}
use Rattle.causal_monitor.specs.Phases.{IsLogOf}
use Rattle.slot_record.specs.Records.{object_count}
use Rattle.machine_laws.specs.SlotLoop.{Moment, ComesTo, present_phase, PhasesAreFew, TurnsGoOn, IsIdle, after_turn, phases_so_far}
use Rattle.slot_record.specs.declared.record.SlotRecord.{SlotRecord}
use Rattle.slot_record.specs.SlotRecords.{BeginsPhase, EndsPhase, RecordedSlot, state_in}
use Rattle.run_record.specs.RunRecords.{RecordsRuns, NoneReady, PhasesNoteNothing}
use Rattle.net_state.specs.States.{AreNetsOf}
use Rattle.process_table.specs.Tables.{IsTableOf}
use Rattle.process_table.specs.Arranged.{IsKept, table_of}
use Rattle.machine.specs.declared.parts.Machine.{Machine as Simulated}
use Rattle.machine.specs.Standing.{machine_kept, state_kept, notes_runs}
use Rattle.machine_events.specs.Parts.{AreBothOf}
use Rattle.machine_events.specs.Turns.{held_in, TellsTurn}
use Rattle.machine_events.specs.PartLaws.{turned-nets, held-is}
use Rattle.machine.specs.Moments.{IsMovingIn, moves_so_far}
use Rattle.runs_beside.specs.Beside.{RunsGoBeside}
use Rattle.machine.specs.declared.guide.Guide.{Guide}
use Rattle.machine.specs.Phases.{Runs}
use Rattle.machine.proofs.Moved.{both-at, moved, graph-of}
use Rattle.machine.proofs.Events.{rules-at}
use Rattle.machine.proofs.Counted.{counts-turn}
use Rattle.machine.proofs.MovesSoFar.{moves-turn}

-- No process has an event

none-placed : {A : Type 0} (test : A → Bool) (xs : List A) → first_place test xs ≡ None → some_in test xs ≡ false
none-placed test [] e = refl
none-placed test (x ∷ xs) e = go (test x) (first_place test xs) e (none-placed test xs)
  where
    go : (b : Bool) (o : Option ℕ) → earlier_place b o ≡ None → (o ≡ None → some_in test xs ≡ false) → (b || some_in test xs) ≡ false
    go true o h rest = cc
    go false None h rest = rest refl
    go false (Some m) h rest = cc

both-none : (xs : List ProcessState) → some_in (λ (p : ProcessState). is_any p.lane) xs ≡ false → some_in (λ (p : ProcessState). is_ready p.activity) xs ≡ false → some_in has_event xs ≡ false
both-none [] a b = refl
both-none (x ∷ xs) a b =
    let l = neither (is_any x.lane) (some_in (λ (p : ProcessState). is_any p.lane) xs) a in
    let r = neither (is_ready x.activity) (some_in (λ (p : ProcessState). is_ready p.activity) xs) b in
    λ i. (r.0 i || l.0 i) || both-none xs l.1 r.1 i
  where
    neither : (a b : Bool) → (a || b) ≡ false → (a ≡ false) × (b ≡ false)
    neither true b e = cc
    neither false b e = (refl, e)

-- where no event is possible, no process has one
pub idle-processes : (state : State) → IsIdle state → some_in has_event state.processes ≡ false
idle-processes state idle =
    both-none state.processes (none-placed (λ (p : ProcessState). is_any p.lane) state.processes idle.1) (none-placed (λ (p : ProcessState). is_ready p.activity) state.processes idle.2)

-- nor is one ready
none-at : {A : Type 0} (test : A → Bool) (default : A) (xs : List A) → first_place test xs ≡ None → test default ≡ false → (n : ℕ) → test (found_or default (slice_get xs n)) ≡ false
none-at test default [] e none n = none
none-at test default (x ∷ xs) e none zero = here (test x) (first_place test xs) e
  where
    here : (b : Bool) (o : Option ℕ) → earlier_place b o ≡ None → b ≡ false
    here true o h = cc
    here false o h = refl
none-at test default (x ∷ xs) e none (suc n) = none-at test default xs (later (test x) (first_place test xs) e) none n
  where
    later : (b : Bool) (o : Option ℕ) → earlier_place b o ≡ None → o ≡ None
    later true o h = cc
    later false None h = refl
    later false (Some m) h = cc

pub none-ready : (machine : Machine) (at : Moment) → ComesTo machine at → IsIdle at.state → NoneReady (state_in machine (present_phase at))
none-ready machine at comes idle = subst NoneReady comes.happened_so_far (none-at (λ (p : ProcessState). is_ready p.activity) idle_process at.state.processes idle.2 refl)

-- Turns

-- the log of the phase names objects of the graph's design
pub log-named : (m : Simulated) (log : SlotLog) → IsMovingIn m log → IsLogOf (design_of m.graph.now.design.now) m.record.phase.log.log
log-named m log moving = subst (λ d. IsLogOf d m.record.phase.log.log) (sym moving.is.parts.graph) moving.is.recorded.present.names

-- after it there is still room for as many objects as the design has
pub ended-room : (m : Simulated) (after : SlotRecord) (log logged : SlotLog) → IsMovingIn m log → EndsPhase (design_of m.graph.now.design.now) m.record after log logged →
    object_count after.phase ≡ length (machine_kept m).design.objects
ended-room m after log logged moving ends = (ends (machine_kept m) moving.first moving.at.ended _ (sym moving.is.parts.graph) moving.is.recorded).causes.objects

-- and a number for the next phase
pub next-number : PhasesAreFew → (m : Simulated) (after : SlotRecord) (log logged : SlotLog) → IsMovingIn m log → EndsPhase (design_of m.graph.now.design.now) m.record after log logged →
    after.number + 1 < 2 ^ 32
next-number law m after log logged moving ends =
    let at = moving.at in
    let few : length at.ended ≤ at.steps + 1 = law (machine_kept m) at moving.is.comes in
    let room : at.steps + moving.is.comes.steps_left ≡ 100001 = moving.is.comes.room in
    let numbered : after.number ≡ length (at.ended ++ present_phase at ∷ []) =
    (ends (machine_kept m) moving.first at.ended (present_phase at) (sym moving.is.parts.graph) moving.is.recorded).numbered in
    let count : length (at.ended ++ present_phase at ∷ []) ≡ length at.ended + 1 = length-append at.ended (present_phase at ∷ []) in
    omega (arith, few, room, numbered, count)

-- the turn leads to the next moment
pub turn-moved : RunsGoBeside → TurnsGoOn → PhasesNoteNothing → (machine : Machine) (first : Turn) (begins : State) (steps : ℕ) (guide : Guide) (before now moves : ℕ) (old new : Simulated) (log logged : SlotLog) (turn : Turn)
    (between : SlotRecord) → Runs machine first begins steps guide before now moves old log → steps ≤ most_steps →
    IsIdle (state_kept old) → TellsTurn (Some turn) (turn_of (state_kept old)) → EndsPhase (design_of old.graph.now.design.now) old.record between log logged →
    ((state : State) → IsTableOf machine state (table_of old.table) → IsTableOf machine (turned_by (turn_of state) state) (table_of new.table)) → IsKept new.table →
    AreNetsOf new.nets (state_kept old) →
    machine_kept new ≡ machine_kept old → design_of new.graph.now.design.now ≡ design_of old.graph.now.design.now →
    BeginsPhase turn (table_of new.table).time (held_in (table_of new.table)) between new.record → new.runs ≡ old.runs → notes_runs new ≡ notes_runs old → Runs machine first begins steps guide before now (moves + 1) new logged
turn-moved beside law quiet machine first begins steps guide before now moves old new log logged turn between runs few idle told ends turns kept nets same graph starts noted notes =
    go (turn_of runs.at.state) refl (subst (λ (s : State). TellsTurn (Some turn) (turn_of s)) runs.is.state_is told)
  where
    go : (found : Option TurnKind) → turn_of runs.at.state ≡ found → TellsTurn (Some turn) found → Runs machine first begins steps guide before now (moves + 1) new logged
    go None is tells = absurd tells
    go (Some kind) is tells =
        let at = runs.at in
        let next : State = turned kind at.state in
        let table : IsTableOf machine next (table_of new.table) =
        subst (λ o. IsTableOf machine (turned_by o at.state) (table_of new.table)) is (turns at.state (both-at machine first at old log runs.is).table_is) in
        let both : AreBothOf machine next new.nets new.table = record {
          machine_is = same ∙ runs.is.machine_is;
          nets_are = turned-nets kind new.nets at.state (subst (AreNetsOf new.nets) runs.is.state_is nets);
          table_is = table;
        } in
        let recorded : RecordedSlot machine first (phases_so_far at) between logged = ends machine first at.ended _ (sym (graph-of machine first at old log runs.is)) runs.is.recorded in
        let comes : ComesTo machine (after_turn kind at) =
        law machine at kind (rules-at machine first at old log runs.is) runs.is.comes (subst (λ n. n ≤ most_steps) (sym runs.steps_is) few) (subst IsIdle runs.is.state_is idle) is tells.0 in
        record {
          at = after_turn kind at;
          is = moved machine first (after_turn kind at) new logged comes
              both kept (graph ∙ graph-of machine first at old log runs.is)
              (starts machine first (phases_so_far at) (Some kind) next logged recorded (tells.1 first) (sym table.time) (held-is machine next (table_of new.table) table)) runs.is.in_time
              runs.is.writes
              (λ on.
              subst (RecordsRuns machine (phases_so_far at) (record { turn = Some kind; begins = next; events = [] })) (sym noted)
              (quiet machine at.ended (present_phase at) (Some kind) next old.runs (none-ready machine at runs.is.comes (subst IsIdle runs.is.state_is idle)) (runs.is.runs (sym notes ∙ on))));
          begins_is = runs.begins_is;
          steps_is = runs.steps_is;
          counts = counts-turn beside guide machine kind at before now comes runs.counts;
          moves_are = (let more : moves_so_far (after_turn kind at) ≡ moves_so_far at + 1 = moves-turn kind at in let had : moves ≤ moves_so_far at = runs.moves_are in omega (arith, more, had));
        }
