-- Two faulty machines of one design whose events lead to the same states, with the same accesses, grade their faults alike.
use Rattle.std.proofs.Common.{◌≡◌, ℕ, zero, suc, ◌+◌, Bool, true, false, ◌||◌, ◌&&◌, List, [], ◌∷◌, ◌++◌, map, Option, Some, None, refl, ap, ◌∙◌, cond, find}
use Rattle.std.specs.Prelude.{slice_get, nat_le}
use Rattle.four_value.specs.Values.{LogicValue}
use Rattle.four_value.specs.declared.logic.Bit.{Bit}
use Rattle.vf_base.specs.Base.{WatchedBit, ReportedPair}
use Rattle.vf_base.specs.Lists.{last_place, later_place}
use Rattle.v_design.specs.Designs.{FlatNode, FlatDesign, StuckAt, TestPlan, Machine, good_machine, faulty_machine}
use Rattle.v_design.specs.States.{State, Event, Step, LaneStep, Evaluation, NetUpdate, TurnKind, start, after, turn_of, process_at, is_ready}
use Rattle.v_design.specs.Runs.{Move, Happens, Turns, FirstSlot, slot_move, less_one_if, is_counted, made, all_made, slot_moves, first_moves, slot_end, is_hyper, next_slot, next_slot_at}
use Rattle.v_design.specs.Runs.{first_slots, first_run, most_moves, most_steps}
use Rattle.v_design.specs.Accesses.{ObjectAccess, accesses_of, held_accesses, is_waiting}
use Rattle.v_design.specs.Logs.{LoggedEvent, LoggedPhase, PhaseAccess, least_pair}
use Rattle.v_design.specs.PhaseLogs.{NotedEvent, changes_one, changes_input, may_cause, cause_of, noted_at, writer_process, writer_line, note_of, noted_from, noted_events, logged, log_of}
use Rattle.v_design.specs.PhaseLogs.{phase_race, is_step_of}
use Rattle.v_design.specs.Grades.{Phase, cut, phases, race_of, first_race, SlotOutcome, Fine, Race, Hyper, race_or_fine, slot_outcome, Stop, first_stop, samples, some_sample, values_after}
use Rattle.v_design.specs.Grades.{first_samples, first_strobe, is_hard, is_possible, verdict, verdict_by, graded, grade_of_runs, grade, full_grade_of_runs, full_of, full_grade}

find-same : (p q : ℕ → Bool) (xs : List ℕ) → ((x : ℕ) → p x ≡ q x) → find p xs ≡ find q xs
find-same p q [] same = refl
find-same p q (x ∷ xs) same = ap (λ b. cond b (Some x) (find p xs)) (same x) ∙ ap (λ o. cond (q x) (Some x) o) (find-same p q xs same)

abbrev rest_slots : ℕ → Machine → ℕ → Option State → List FirstSlot
rest_slots count machine time None = []
rest_slots count machine time (Some next) = first_slots count machine time next

module _ (design : FlatDesign) (f g : StuckAt) (same_start : start (faulty_machine design f) ≡ start (faulty_machine design g))
    (same_after : (state : State) (event : Event) → after (faulty_machine design f) state event ≡ after (faulty_machine design g) state event)
    (same_accesses : (process line : ℕ) (state : State) (event : Event) → accesses_of (faulty_machine design f) process line state event ≡ accesses_of
    (faulty_machine design g) process line state event) where
  made-same : (state : State) (move : Move) → made (faulty_machine design f) state move ≡ made (faulty_machine design g) state move
  made-same state (Happens event) = same_after state event
  made-same state Turns = refl

  all_made-same : (state : State) (moves : List Move) → all_made (faulty_machine design f) state moves ≡ all_made (faulty_machine design g) state moves
  all_made-same state [] = refl
  all_made-same state (move ∷ moves) =
      all_made-same (made (faulty_machine design f) state move) moves ∙ ap (λ s. all_made (faulty_machine design g) s moves) (made-same state move)

  slot_moves-same : (moves steps : ℕ) (state : State) → slot_moves moves steps (faulty_machine design f) state ≡ slot_moves moves steps (faulty_machine design g) state
  slot_moves-same zero steps state = refl
  slot_moves-same (suc moves) steps state =
      elim (slot_move steps state) as (λ o.
      elim o [ None ↦ [] | Some move ↦ move ∷ slot_moves moves (less_one_if (is_counted move) steps) (faulty_machine design f) (made (faulty_machine design f) state move) ]
      ≡ elim o [ None ↦ [] | Some move ↦ move ∷ slot_moves moves (less_one_if (is_counted move) steps) (faulty_machine design g) (made (faulty_machine design g) state move) ]) [
        | None ↦ refl
        | Some move ↦ ap (λ l. move ∷ l)
            (slot_moves-same moves (less_one_if (is_counted move) steps) (made (faulty_machine design f) state move)
            ∙ ap (λ s. slot_moves moves (less_one_if (is_counted move) steps) (faulty_machine design g) s) (made-same state move))
      ]

  first_moves-same : (state : State) → first_moves (faulty_machine design f) state ≡ first_moves (faulty_machine design g) state
  first_moves-same state = slot_moves-same (most_moves (faulty_machine design f)) (most_steps + 1) state

  slot_end-same : (slot : FirstSlot) → slot_end (faulty_machine design f) slot ≡ slot_end (faulty_machine design g) slot
  slot_end-same slot = all_made-same slot.begins slot.moves

  next_slot-same : (time : ℕ) (slot : FirstSlot) → next_slot (faulty_machine design f) time slot ≡ next_slot (faulty_machine design g) time slot
  next_slot-same time slot = ap (λ (state : State). elim (is_hyper slot) [ true ↦ None | false ↦ next_slot_at time state (turn_of state) ]) (slot_end-same slot)

  first_slots-same : (count time : ℕ) (state : State) → first_slots count (faulty_machine design f) time state ≡ first_slots count (faulty_machine design g) time state
  first_slots-same zero time state = refl
  first_slots-same (suc count) time state =
      let first : FirstSlot = record { begins = state; moves = first_moves (faulty_machine design f) state } in
      let other : FirstSlot = record { begins = state; moves = first_moves (faulty_machine design g) state } in
      let slots : first ≡ other = ap (λ (moves : List Move). record { begins = state; moves = moves }) (first_moves-same state) in
      ap (λ (slot : FirstSlot). slot ∷ rest_slots count (faulty_machine design f) time (next_slot (faulty_machine design f) time slot)) slots
      ∙ ap (λ (o : Option State). other ∷ rest_slots count (faulty_machine design f) time o) (next_slot-same time other)
      ∙ ap (λ (l : List FirstSlot). other ∷ l)
      (elim (next_slot (faulty_machine design g) time other) as (λ o. rest_slots count (faulty_machine design f) time o ≡ rest_slots count (faulty_machine design g) time o) [
        | None ↦ refl
        | Some next ↦ first_slots-same count time next
      ])

  first_run-same : (time : ℕ) → first_run (faulty_machine design f) time ≡ first_run (faulty_machine design g) time
  first_run-same time = first_slots-same (time + 1) time (start (faulty_machine design f)) ∙ ap (λ s. first_slots (time + 1) (faulty_machine design g) time s) same_start

  cut-same : (turn : Option TurnKind) (begins : State) (events : List Event) (state : State) (moves : List Move) →
      cut (faulty_machine design f) turn begins events state moves ≡ cut (faulty_machine design g) turn begins events state moves
  cut-same turn begins events state [] = refl
  cut-same turn begins events state (Happens event ∷ moves) =
      cut-same turn begins (events ++ event ∷ []) (after (faulty_machine design f) state event) moves
      ∙ ap (λ s. cut (faulty_machine design g) turn begins (events ++ event ∷ []) s moves) (same_after state event)
  cut-same turn begins events state (Turns ∷ moves) =
      ap (λ (l : List Phase). record { turn = turn; begins = begins; events = events } ∷ l)
      (cut-same (turn_of state) (made (faulty_machine design f) state Turns) [] (made (faulty_machine design f) state Turns) moves)

  changes_input-same : (node : Option FlatNode) (noted : NotedEvent) → changes_input (faulty_machine design f) node noted ≡ changes_input (faulty_machine design g) node noted
  changes_input-same None noted = refl
  changes_input-same (Some node) noted = ap (λ s. changes_one noted.before s node.inputs) (same_after noted.before noted.event)

  may_cause-same : (event : Event) (noted : NotedEvent) → may_cause (faulty_machine design f) event noted ≡ may_cause (faulty_machine design g) event noted
  may_cause-same (Step process) noted =
      ap (λ s. is_step_of process noted.event || (is_waiting (process_at noted.before process).activity && is_ready (process_at s process).activity)) (same_after noted.before noted.event)
  may_cause-same (LaneStep process) noted = refl
  may_cause-same (Evaluation node) noted = changes_input-same (slice_get design.nodes node) noted
  may_cause-same (NetUpdate node) noted = changes_input-same (slice_get design.nodes node) noted

  cause_of-same : (earlier : List NotedEvent) (event : Event) → cause_of (faulty_machine design f) earlier event ≡ cause_of (faulty_machine design g) earlier event
  cause_of-same [] event = refl
  cause_of-same (noted ∷ earlier) event =
      ap (λ b. later_place b (last_place (may_cause (faulty_machine design f) event) earlier)) (may_cause-same event noted)
      ∙ ap (λ o. later_place (may_cause (faulty_machine design g) event noted) o) (cause_of-same earlier event)

  note_of-same : (earlier : List NotedEvent) (state : State) (event : Event) → note_of (faulty_machine design f) earlier state event ≡ note_of (faulty_machine design g) earlier state event
  note_of-same earlier state event =
      ap (λ (cause : Option ℕ). record {
        event = event;
        before = state;
        cause = cause;
        process = writer_process event (noted_at earlier cause);
        line = writer_line (faulty_machine design f) state event (noted_at earlier cause);
      }) (cause_of-same earlier event)

  noted_from-same : (earlier : List NotedEvent) (state : State) (events : List Event) → noted_from (faulty_machine design f) earlier state events ≡ noted_from
      (faulty_machine design g) earlier state events
  noted_from-same earlier state [] = refl
  noted_from-same earlier state (event ∷ events) =
      noted_from-same (earlier ++ note_of (faulty_machine design f) earlier state event ∷ []) (after (faulty_machine design f) state event) events
      ∙ ap (λ (n : NotedEvent). noted_from (faulty_machine design g) (earlier ++ n ∷ []) (after (faulty_machine design f) state event) events) (note_of-same earlier state event)
      ∙ ap (λ s. noted_from (faulty_machine design g) (earlier ++ note_of (faulty_machine design g) earlier state event ∷ []) s events) (same_after state event)

  logged-same : (noted : List NotedEvent) → map (logged (faulty_machine design f)) noted ≡ map (logged (faulty_machine design g)) noted
  logged-same [] = refl
  logged-same (n ∷ noted) =
      ap (λ (accesses : List ObjectAccess). record { cause = n.cause; accesses = accesses } ∷ map (logged (faulty_machine design f)) noted) (same_accesses n.process n.line n.before n.event)
      ∙ ap (λ (l : List LoggedEvent). logged (faulty_machine design g) n ∷ l) (logged-same noted)

  log_of-same : (state : State) (events : List Event) → log_of (faulty_machine design f) state events ≡ log_of (faulty_machine design g) state events
  log_of-same state events =
      ap (λ (l : List LoggedEvent). record { held = held_accesses (faulty_machine design f) state; events = l })
      (logged-same (noted_events (faulty_machine design f) state events) ∙ ap (λ (l : List NotedEvent). map (logged (faulty_machine design g)) l) (noted_from-same [] state events))

  phase_race-same : (state : State) (events : List Event) → phase_race (faulty_machine design f) state events ≡ phase_race (faulty_machine design g) state events
  phase_race-same state events = ap (λ (log : LoggedPhase). least_pair design log) (log_of-same state events)

  first_race-same : (number : ℕ) (all : List Phase) → first_race (faulty_machine design f) number all ≡ first_race (faulty_machine design g) number all
  first_race-same number [] = refl
  first_race-same number (phase ∷ rest) =
      ap (λ (o : Option (PhaseAccess × PhaseAccess)). elim o [ None ↦ first_race (faulty_machine design f) (number + 1) rest | Some pair ↦ Some (race_of phase.begins.time number pair) ])
      (phase_race-same phase.begins phase.events)
      ∙ ap (λ (r : Option ReportedPair). elim (phase_race (faulty_machine design g) phase.begins phase.events) [ None ↦ r | Some pair ↦ Some (race_of phase.begins.time number pair) ])
      (first_race-same (number + 1) rest)

  slot_outcome-same : (slot : FirstSlot) → slot_outcome (faulty_machine design f) slot ≡ slot_outcome (faulty_machine design g) slot
  slot_outcome-same slot =
      ap (λ (r : Option ReportedPair). elim (is_hyper slot) [ true ↦ Hyper | false ↦ race_or_fine r ])
      (ap (λ (all : List Phase). first_race (faulty_machine design f) 1 all) (cut-same None slot.begins [] slot.begins slot.moves) ∙ first_race-same 1 (phases (faulty_machine design g) slot))

  first_stop-same : (slots : List FirstSlot) → first_stop (faulty_machine design f) slots ≡ first_stop (faulty_machine design g) slots
  first_stop-same [] = refl
  first_stop-same (slot ∷ slots) =
      ap (λ (o : SlotOutcome). elim o [
        | Fine ↦ first_stop (faulty_machine design f) slots
        | Race pair ↦ Some (record { time = slot.begins.time; outcome = Race pair })
        | Hyper ↦ Some (record { time = slot.begins.time; outcome = Hyper })
      ]) (slot_outcome-same slot)
      ∙ ap (λ (r : Option Stop). elim (slot_outcome (faulty_machine design g) slot) [
        | Fine ↦ r
        | Race pair ↦ Some (record { time = slot.begins.time; outcome = Race pair })
        | Hyper ↦ Some (record { time = slot.begins.time; outcome = Hyper })
      ]) (first_stop-same slots)

  values_after-same : (last : List LogicValue) (slots : List FirstSlot) (time : ℕ) → values_after (faulty_machine design f) last slots time ≡ values_after (faulty_machine design g) last slots time
  values_after-same last [] time = refl
  values_after-same last (slot ∷ slots) time =
      ap (λ (v : List LogicValue). elim (nat_le slot.begins.time time) [ true ↦ v | false ↦ last ])
      (values_after-same (slot_end (faulty_machine design f) slot).values slots time
      ∙ ap (λ (s : State). values_after (faulty_machine design g) s.values slots time) (slot_end-same slot))

  first_strobe-same : (test : Bit → Bit → Bool) (watched : List WatchedBit) (slots : List FirstSlot) (good : ℕ → List Bit) (strobes : List ℕ) →
      first_strobe test good (first_samples (faulty_machine design f) watched slots) strobes ≡ first_strobe test good (first_samples (faulty_machine design g) watched slots) strobes
  first_strobe-same test watched slots good strobes =
      find-same (λ strobe. some_sample test (good strobe) (first_samples (faulty_machine design f) watched slots strobe))
      (λ strobe. some_sample test (good strobe) (first_samples (faulty_machine design g) watched slots strobe)) strobes
      (λ strobe. ap (λ (v : List LogicValue). some_sample test (good strobe) (samples watched v)) (values_after-same [] slots strobe))

  verdict-same : (watched : List WatchedBit) (slots : List FirstSlot) (good : ℕ → List Bit) (strobes : List ℕ) →
      verdict good (first_samples (faulty_machine design f) watched slots) strobes ≡ verdict good (first_samples (faulty_machine design g) watched slots) strobes
  verdict-same watched slots good strobes =
      ap (λ (hard : Option ℕ). verdict_by hard (first_strobe is_possible good (first_samples (faulty_machine design f) watched slots) strobes)) (first_strobe-same is_hard watched slots good strobes)
      ∙ ap (λ (possible : Option ℕ). verdict_by (first_strobe is_hard good (first_samples (faulty_machine design g) watched slots) strobes) possible)
      (first_strobe-same is_possible watched slots good strobes)

  pub grade-same : (plan : TestPlan) → grade design plan f ≡ grade design plan g
  grade-same plan =
      let good : ℕ → List Bit = first_samples (good_machine design) plan.watched (first_run (good_machine design) plan.end) in
      let stop : Option Stop = first_stop (good_machine design) (first_run (good_machine design) plan.end) in
      let slots : List FirstSlot = first_run (faulty_machine design g) plan.end in
      ap (λ (s : List FirstSlot). grade_of_runs (good_machine design) (faulty_machine design f) plan (first_run (good_machine design) plan.end) s) (first_run-same plan.end)
      ∙ ap (λ (o : Option Stop). graded stop o (first_strobe is_hard good (first_samples (faulty_machine design f) plan.watched slots) plan.strobes)
      (verdict good (first_samples (faulty_machine design f) plan.watched slots) plan.strobes))
      (first_stop-same slots)
      ∙ ap (λ (hard : Option ℕ). graded stop (first_stop (faulty_machine design g) slots) hard (verdict good (first_samples (faulty_machine design f) plan.watched slots) plan.strobes))
      (first_strobe-same is_hard plan.watched slots good plan.strobes)
      ∙ ap (λ v. graded stop (first_stop (faulty_machine design g) slots) (first_strobe is_hard good (first_samples (faulty_machine design g) plan.watched slots) plan.strobes) v)
      (verdict-same plan.watched slots good plan.strobes)

  pub full-same : (plan : TestPlan) → full_grade design plan f ≡ full_grade design plan g
  full-same plan =
      let stop : Option Stop = first_stop (good_machine design) (first_run (good_machine design) plan.end) in
      let slots : List FirstSlot = first_run (faulty_machine design g) plan.end in
      ap (λ (s : List FirstSlot). full_grade_of_runs (good_machine design) (faulty_machine design f) plan (first_run (good_machine design) plan.end) s) (first_run-same plan.end)
      ∙ (λ i. full_of stop (first_stop-same slots i) (λ time. samples plan.watched (values_after-same [] slots time i)) plan.strobes)
