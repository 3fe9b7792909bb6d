-- Blocks, and what is told of them, in states that are alike but for what processes have yet to write.
use Rattle.std.proofs.Common.{◌≡◌, ℕ, zero, suc, ◌+◌, Bool, true, false, cond, List, [], ◌∷◌, ◌++◌, length, map, take, ◌||◌, ◌&&◌, nat_eq, refl, sym, ap, subst, ◌∙◌, ◌⊎◌, inl, inr, arith}
use Rattle.std.specs.Prelude.{Option, Some, None, filter, slice_get}
use Rattle.std.proofs.lemmas.List.{map-append}
use Rattle.four_value.specs.Values.{LogicValue, same_value}
use Rattle.vf_base.specs.Base.{process_number}
use Rattle.vf_base.specs.Lists.{AllHold, has, joined, map_numbered}
use Rattle.v_design.specs.Assignments.{ValueUpdate, value_at}
use Rattle.v_design.specs.Designs.{FlatDesign, FlatNode, Machine}
use Rattle.v_design.specs.Paths.{net_pieces}
use Rattle.v_design.specs.Processes.{Activity, Action, ReadsObject, WritesObject, AppendsUpdate, TouchesNothing, ProcessStep}
use Rattle.v_design.specs.States.{State, NodeState, ProcessState, Event, Step, LaneStep, Evaluation, NetUpdate, activity_step, after, found_or, idle_process, is_ready, node_at, process_at, step_of, value_written}
use Rattle.v_design.specs.Runs.{happened, work_of}
use Rattle.v_design.specs.Accesses.{ObjectAccess, Writing, accesses_of, action_accesses, await_accesses, ended_by, is_waiting, lane_accesses, net_accesses, net_ended_by, net_write, step_accesses}
use Rattle.v_design.specs.Accesses.{update_accesses, write_accesses}
use Rattle.v_design.specs.Logs.{LoggedEvent}
use Rattle.v_design.specs.PhaseLogs.{NotedEvent, is_lane_of, is_step_of, log_of, logged, note_of, noted_events}
use Rattle.copy_laws.specs.Beside.{AreFirst}
use Rattle.copy_laws.specs.Moves.{ChangesOnly}
use Rattle.copy_laws.specs.QuietPhases.{ends_its_wait}
use Rattle.order_laws.proofs.Notes.{new_notes, noted_events-new}
use Rattle.block_filter.specs.Blocks.{all_accesses, may_cause_later}
use Rattle.block_causes.specs.Caused.{IsFollowing}
use Rattle.block_changes.specs.Changes.{CausesAreTold, OnlyWokenChange, ends_wait_of, some_event, steps_lane, steps_process}
use Rattle.block_told.specs.Blocks.{AreBlock, IsBetweenRuns, in_run, in_run_after, in_run_from}
use Rattle.block_told.specs.Tells.{Seen, TellsBlock, access_seen, is_lane, parts_told}
use Rattle.block_told.specs.declared.told.BlockTold.{BlockTold}
use Rattle.unseen_writes.specs.Unseen.{AreAlike, IsAlike, StepsLane, WritesAreUnseen}
use Rattle.unseen_writes.proofs.Alike.{all-go, first, goes, lanes-alike, step-same}

-- Lists

all-take : {A : Type 0} (P : A → Type 0) (count : ℕ) (xs : List A) → AllHold P xs → AllHold P (take count xs)
all-take P zero [] all = tt
all-take P zero (x ∷ xs) all = tt
all-take P (suc count) [] all = tt
all-take P (suc count) (x ∷ xs) all = (all.0, all-take P count xs all.1)

-- what is made of each process by its number and by what it does
numbered-same : {B : Type 0} (f : ℕ → ProcessState → B) → ((n : ℕ) (x y : ProcessState) → y.activity ≡ x.activity → f n y ≡ f n x) → (start : ℕ) (xs ys : List ProcessState) →
    length ys ≡ length xs → ((n : ℕ) → (found_or idle_process (slice_get ys n)).activity ≡ (found_or idle_process (slice_get xs n)).activity) →
    map_numbered f start ys ≡ map_numbered f start xs
numbered-same f same start [] [] count each = refl
numbered-same f same start [] (y ∷ ys) count each = absurd (omega (arith, count))
numbered-same f same start (x ∷ xs) [] count each = absurd (omega (arith, count))
numbered-same f same start (x ∷ xs) (y ∷ ys) count each =
    λ i. same start x y (each 0) i ∷ numbered-same f same (start + 1) xs ys (omega (arith, count)) (λ n. each (suc n)) i

-- States

pub alike-sym : (parts : ℕ → Bool) (one other : State) → AreAlike parts one other → AreAlike parts other one
alike-sym parts one other alike = record {
  time = sym alike.time;
  values = sym alike.values;
  nodes = sym alike.nodes;
  count = sym alike.count;
  each = λ process.
      let is = alike.each process in
      record { activity = sym is.activity; lane = sym is.lane; kept = λ e. sym (is.kept e) };
}

-- Blocks

module _ (machine : Machine) (parts : ℕ → Bool) where
  after-run : (one other : State) (event : Event) (process : ℕ) (before : Bool) → AreAlike parts (after machine one event) (after machine other event) →
      in_run_after machine other event process before ≡ in_run_after machine one event process before
  after-run one other (Step number) process before next = ap (λ (a : Activity). cond (nat_eq process number) (is_ready a) before) (next.each process).activity
  after-run one other (LaneStep number) process before next = refl
  after-run one other (Evaluation node) process before next = refl
  after-run one other (NetUpdate node) process before next = refl

  run-same : (one other : State) (events : List Event) (process : ℕ) (before : Bool) → AreAlike parts one other → AllHold (StepsLane parts) events →
      in_run_from machine other events process before ≡ in_run_from machine one events process before
  run-same one other [] process before alike may = refl
  run-same one other (event ∷ events) process before alike may =
      let next = goes machine parts one other event alike may.0 in
      ap (in_run_from machine (after machine other event) events process) (after-run one other event process before next)
      ∙ run-same (after machine one event) (after machine other event) events process (in_run_after machine one event process before) next may.1

  behind : (one other : State) (events : List Event) → AreAlike parts one other → AllHold (StepsLane parts) events → AreAlike parts (happened machine one events) (happened machine other events)
  behind one other [] alike may = alike
  behind one other (event ∷ events) alike may =
      behind (after machine one event) (after machine other event) events (goes machine parts one other event alike may.0) may.1

  between : (one other : State) (events : List Event) → AreAlike parts one other → AllHold (StepsLane parts) events → IsBetweenRuns machine other events → IsBetweenRuns machine one events
  between one other events alike may is = record {
    nodes = ap (work_of 0) (sym (behind one other events alike may).nodes) ∙ is.nodes;
    runs = λ process. sym (run-same one other events process false alike may) ∙ is.runs process;
  }

  following : (one other : State) (begins : Event) (events : List Event) → AreAlike parts one other → AllHold (IsFollowing other begins) events → AllHold (IsFollowing one begins) events
  following one other begins [] alike all = tt
  following one other begins (event ∷ events) alike all = (one-follows event all.0, following one other begins events alike all.1)
    where
      one-follows : (event : Event) → IsFollowing other begins event → IsFollowing one begins event
      one-follows (Step process) (inl same) = inl same
      one-follows (Step process) (inr waits) = inr (ap is_ready (sym (alike.each process).activity) ∙ waits)
      one-follows (LaneStep process) is = is
      one-follows (Evaluation node) is = is
      one-follows (NetUpdate node) is = is

  pub block-too : (one other : State) (events : List Event) → AreAlike parts one other → AllHold (StepsLane parts) events → AreBlock machine other events → AreBlock machine one events
  block-too one other events alike may of =
      let all = subst (AllHold (StepsLane parts)) of.are may in
      record {
        first = of.first;
        rest = of.rest;
        are = of.are;
        block = record {
          in_order = (all-go machine parts one other (of.first ∷ of.rest) alike all of.block.in_order).0;
          begins = of.block.begins;
          follows = following one other of.first of.rest alike of.block.follows;
          ends = between one other (of.first ∷ of.rest) alike all of.block.ends;
          no_sooner = λ count some few ends.
              of.block.no_sooner count some few
              (between other one (take count (of.first ∷ of.rest)) (alike-sym parts one other alike) (all-take (StepsLane parts) count (of.first ∷ of.rest) all) ends);
        };
      }

  -- Accesses

  module _ (one other : State) (alike : AreAlike parts one other) where
    does-same : (n : ℕ) → (found_or idle_process (slice_get other.processes n)).activity ≡ (found_or idle_process (slice_get one.processes n)).activity
    does-same n = (alike.each n).activity

    ended-same : (object : ℕ) (old new : LogicValue) → map_numbered (ended_by object old new) 0 other.processes ≡ map_numbered (ended_by object old new) 0 one.processes
    ended-same object old new =
        numbered-same (ended_by object old new) (λ n x y e. λ i. ended_by object old new n (record x { activity = e i })) 0 one.processes other.processes alike.count does-same

    update-same : (process line : ℕ) (update : ValueUpdate) → update_accesses machine process line update other ≡ update_accesses machine process line update one
    update-same process line update =
        (λ i. write_accesses process line update.object (value_at (alike.values i) update.object) (value_written machine (record one { values = alike.values i }) update) other)
        ∙ ap (λ (l : List (List ObjectAccess)). record { act = Writing (value_at one.values update.object) (value_written machine one update); object = update.object; process = process; line = line } ∷ joined l)
        (ended-same update.object (value_at one.values update.object) (value_written machine one update))

    action-same : (process line : ℕ) (action : Action) → action_accesses machine process line action other ≡ action_accesses machine process line action one
    action-same process line (ReadsObject object) = refl
    action-same process line (WritesObject update) = update-same process line update
    action-same process line (AppendsUpdate delay update) = refl
    action-same process line TouchesNothing = refl

    lane-same : (process : ℕ) (lane : List ValueUpdate) → lane_accesses machine process lane other ≡ lane_accesses machine process lane one
    lane-same process [] = refl
    lane-same process (update ∷ rest) = update-same process update.line update

    net-same : (writer line : ℕ) (node : Option FlatNode) (one_next other_next : State) → other_next.values ≡ one_next.values →
        net_accesses machine.design writer line node other other_next ≡ net_accesses machine.design writer line node one one_next
    net-same writer line None one_next other_next values = refl
    net-same writer line (Some node) one_next other_next values =
        (λ i. net_accesses machine.design writer line (Some node) (record other { values = alike.values i }) (record one_next { values = values i }))
        ∙ ap (λ (l : List (List ObjectAccess)). joined (map (net_write writer line one one_next) (filter (has node.outputs) (net_pieces machine.design))) ++ joined l)
        (numbered-same (net_ended_by one one_next node.outputs) (λ n x y e. λ i. net_ended_by one one_next node.outputs n (record x { activity = e i })) 0 one.processes other.processes alike.count
        does-same)

    step-accesses : (process : ℕ) (step : ProcessStep) → step_accesses machine process step other ≡ step_accesses machine process step one
    step-accesses process step = ap (λ (l : List ObjectAccess). l ++ await_accesses process step.line step.next) (action-same process step.line step.action)

    next-step : (process : ℕ) → step_of machine other process ≡ step_of machine one process
    next-step process = ap (activity_step machine other process) (alike.each process).activity ∙ step-same machine one other process (process_at one process).activity alike.time

    accesses-same : (writer line : ℕ) (event : Event) → StepsLane parts event → accesses_of machine writer line other event ≡ accesses_of machine writer line one event
    accesses-same writer line (Step process) may =
        ap (λ (step : ProcessStep). step_accesses machine process step other) (next-step process) ∙ step-accesses process (step_of machine one process)
    accesses-same writer line (LaneStep process) may =
        ap (λ (p : ProcessState). lane_accesses machine process p.lane other) ((alike.each process).kept may) ∙ lane-same process (process_at one process).lane
    accesses-same writer line (Evaluation node) may = refl
    accesses-same writer line (NetUpdate node) may =
        net-same writer line (slice_get machine.design.nodes node) (after machine one (NetUpdate node)) (after machine other (NetUpdate node))
        (goes machine parts one other (NetUpdate node) alike tt).values

    wait-same : (event : Event) (process : ℕ) → StepsLane parts event → ends_its_wait machine other event process ≡ ends_its_wait machine one event process
    wait-same event process may =
        let next = goes machine parts one other event alike may in
        λ i. is_waiting ((alike.each process).activity i) && is_ready ((next.each process).activity i)

  -- Whose waits end

  waits-same : (one other : State) (events : List Event) (process : ℕ) → AreAlike parts one other → AllHold (StepsLane parts) events →
      ends_wait_of machine other events process ≡ ends_wait_of machine one events process
  waits-same one other [] process alike may = refl
  waits-same one other (event ∷ events) process alike may =
      let rest = waits-same (after machine one event) (after machine other event) events process (goes machine parts one other event alike may.0) may.1 in
      λ i. wait-same one other alike event process may.0 i || rest i

  -- What is seen of accesses, whoever is said to write

  abbrev seen_of : State → Event → List Seen
  seen_of state event = map access_seen (accesses_of machine 0 0 state event)

  abbrev all_seen : State → List Event → List Seen
  all_seen state [] = []
  all_seen state (event ∷ events) = seen_of state event ++ all_seen (after machine state event) events

  seen-same : (one other : State) (events : List Event) → AreAlike parts one other → AllHold (StepsLane parts) events → all_seen other events ≡ all_seen one events
  seen-same one other [] alike may = refl
  seen-same one other (event ∷ events) alike may =
      let rest = seen-same (after machine one event) (after machine other event) events (goes machine parts one other event alike may.0) may.1 in
      λ i. map access_seen (accesses-same one other alike 0 0 event may.0 i) ++ rest i

  write-seen : (writer line : ℕ) (same : Bool) (object : ℕ) (old new : LogicValue) →
      map access_seen (elim same [ true ↦ [] | false ↦ record { act = Writing old new; object = object; process = writer; line = line } ∷ [] ])
      ≡ map access_seen (elim same [ true ↦ [] | false ↦ record { act = Writing old new; object = object; process = 0; line = 0 } ∷ [] ])
  write-seen writer line true object old new = refl
  write-seen writer line false object old new = refl

  writes-seen : (writer line : ℕ) (state next : State) (objects : List ℕ) →
      map access_seen (joined (map (net_write writer line state next) objects)) ≡ map access_seen (joined (map (net_write 0 0 state next) objects))
  writes-seen writer line state next [] = refl
  writes-seen writer line state next (object ∷ objects) =
      let rest = writes-seen writer line state next objects in
      let here = write-seen writer line (same_value (value_at state.values object) (value_at next.values object)) object (value_at state.values object) (value_at next.values object) in
      map-append access_seen (net_write writer line state next object) (joined (map (net_write writer line state next) objects)) ∙ (λ i. here i ++ rest i)
      ∙ sym (map-append access_seen (net_write 0 0 state next object) (joined (map (net_write 0 0 state next) objects)))

  net-seen : (writer line : ℕ) (state next : State) (node : Option FlatNode) →
      map access_seen (net_accesses machine.design writer line node state next) ≡ map access_seen (net_accesses machine.design 0 0 node state next)
  net-seen writer line state next None = refl
  net-seen writer line state next (Some node) =
      let ends = joined (map_numbered (net_ended_by state next node.outputs) 0 state.processes) in
      let objects = filter (has node.outputs) (net_pieces machine.design) in
      map-append access_seen (joined (map (net_write writer line state next) objects)) ends
      ∙ ap (λ (l : List Seen). l ++ map access_seen ends) (writes-seen writer line state next objects)
      ∙ sym (map-append access_seen (joined (map (net_write 0 0 state next) objects)) ends)

  event-seen : (writer line : ℕ) (state : State) (event : Event) → map access_seen (accesses_of machine writer line state event) ≡ seen_of state event
  event-seen writer line state (Step process) = refl
  event-seen writer line state (LaneStep process) = refl
  event-seen writer line state (Evaluation node) = refl
  event-seen writer line state (NetUpdate node) = net-seen writer line state (after machine state (NetUpdate node)) (slice_get machine.design.nodes node)

  notes-seen : (earlier : List NotedEvent) (state : State) (events : List Event) →
      map access_seen (joined (map (λ (e : LoggedEvent). e.accesses) (map (logged machine) (new_notes machine earlier state events)))) ≡ all_seen state events
  notes-seen earlier state [] = refl
  notes-seen earlier state (event ∷ events) =
      let note = note_of machine earlier state event in
      let rest = notes-seen (earlier ++ note ∷ []) (after machine state event) events in
      let here = event-seen note.process note.line state event in
      map-append access_seen (logged machine note).accesses
      (joined (map (λ (e : LoggedEvent). e.accesses) (map (logged machine) (new_notes machine (earlier ++ note ∷ []) (after machine state event) events))))
      ∙ (λ i. here i ++ rest i)

  log-seen : (state : State) (events : List Event) → map access_seen (all_accesses (log_of machine state events)) ≡ all_seen state events
  log-seen state events =
      ap (λ (l : List NotedEvent). map access_seen (joined (map (λ (e : LoggedEvent). e.accesses) (map (logged machine) l)))) (noted_events-new machine state events) ∙ notes-seen [] state events

  -- What changes

  neither : (b c : Bool) → (b || c) ≡ false → (b ≡ false) × (c ≡ false)
  neither true c e = cc
  neither false c e = (refl, e)

  none-of : (b c d : Bool) → (b || c || d) ≡ false → ((b || c) ≡ false) × (d ≡ false)
  none-of true c d e = cc
  none-of false true d e = cc
  none-of false false d e = (refl, e)

  stays : OnlyWokenChange → (state : State) (events : List Event) (process : ℕ) → steps_process events process ≡ false → steps_lane events process ≡ false →
      ends_wait_of machine state events process ≡ false → process_at (happened machine state events) process ≡ process_at state process
  stays law state [] process steps lanes waits = refl
  stays law state (event ∷ events) process steps lanes waits =
      let step = neither (is_step_of process event) (steps_process events process) steps in
      let lane = neither (is_lane_of process event) (steps_lane events process) lanes in
      let wait = neither (ends_its_wait machine state event process) (ends_wait_of machine (after machine state event) events process) waits in
      stays law (after machine state event) events process step.1 lane.1 wait.1 ∙ law machine state event process step.0 lane.0 wait.0

  pub told-too : OnlyWokenChange → CausesAreTold → (one other : State) (events : List Event) (told : BlockTold) → AreAlike parts one other → AllHold (StepsLane parts) events →
      TellsBlock machine other events told → TellsBlock machine one events told
  told-too woken causes one other events told alike may of =
      let next = behind one other events alike may in
      record {
        accesses = of.accesses ∙ log-seen other events ∙ seen-same one other events alike may ∙ sym (log-seen one events);
        changes = record {
          value_count = ap (λ (l : List LogicValue). length l) (sym next.values) ∙ of.changes.value_count ∙ ap (λ (l : List LogicValue). length l) alike.values;
          node_count = ap (λ (l : List NodeState). length l) (sym next.nodes) ∙ of.changes.node_count ∙ ap (λ (l : List NodeState). length l) alike.nodes;
          process_count = sym next.count ∙ of.changes.process_count ∙ alike.count;
          values = λ object none. ap (λ (l : List LogicValue). value_at l object) (sym next.values) ∙ of.changes.values object none ∙ ap (λ (l : List LogicValue). value_at l object) alike.values;
          nodes = λ number none.
              ap (λ (l : List NodeState). node_at (record one { nodes = l }) number) (sym next.nodes) ∙ of.changes.nodes number none
              ∙ ap (λ (l : List NodeState). node_at (record one { nodes = l }) number) alike.nodes;
          processes = λ process none.
              let parts_none = none-of (has (map process_number told.stepped.items) process) (has (map process_number told.ended.items) process) (is_lane told.lane process) none in
              let acts = neither (steps_process events process) (ends_wait_of machine one events process) (steps-told process ∙ parts_none.0) in
              stays woken one events process acts.0 (lanes-told process ∙ parts_none.1) acts.1;
        };
        steps = λ process. causes.steps machine one events process ∙ steps-told process;
        lanes = λ process. causes.lanes machine one events process ∙ lanes-told process;
        count = of.count;
      }
    where
      steps-told : (process : ℕ) →
          (steps_process events process || ends_wait_of machine one events process) ≡ (has (map process_number told.stepped.items) process || has (map process_number told.ended.items) process)
      steps-told process =
          ap (λ (b : Bool). steps_process events process || b) (sym (waits-same one other events process alike may)) ∙ sym (causes.steps machine other events process) ∙ of.steps process

      lanes-told : (process : ℕ) → steps_lane events process ≡ is_lane told.lane process
      lanes-told process = sym (causes.lanes machine other events process) ∙ of.lanes process

pub writes_are_unseen : OnlyWokenChange → CausesAreTold → WritesAreUnseen
writes_are_unseen woken causes = record {
  lanes = lanes-alike;
  first = first;
  goes = goes;
  events = all-go;
  block = block-too;
  tells = λ machine parts. told-too machine parts woken causes;
}
