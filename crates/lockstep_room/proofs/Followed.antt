-- The states into which a runner comes.
use Rattle.std.proofs.Common.{◌≡◌, ℕ, ◌≤◌, List, [], length, cond, Bool, true, false, ◌||◌, refl, sym, ap, ◌∙◌, inl, inr, arith}
use Rattle.std.specs.Prelude.{Option, Some, None}
use Rattle.std.proofs.lemmas.Bool.{cases_lt, lt-ltb, le-ltb}
use Rattle.std.proofs.lemmas.List.{get_or_past, length-map}
use Rattle.std.proofs.lemmas.Option.{slice_get_past}
use Rattle.four_value.specs.Values.{LogicValue}
use Rattle.vf_base.specs.Lists.{has}
use Rattle.vf_base.specs.declared.ids.ProcId.{ProcId}
use Rattle.v_design.specs.Assignments.{value_at}
use Rattle.v_design.specs.Designs.{FlatDesign, FlatProcess}
use Rattle.v_design.specs.States.{State, NodeState, ProcessState, process_at, node_at, found_or, idle_process}
use Rattle.lockstep_exchange.specs.block_events.Runners.{cleared_state}
use Rattle.block_changes.specs.Changes.{WithinIsOne}
use Rattle.lockstep_exchange.specs.Putting.{ValuesArePut, ProcessesArePut}
use Rattle.lockstep_exchange.proofs.Whole.{put-nodes, put-process, put-process_count, put-time, put-value, put-value_count, same-state, same_within}
use Rattle.lockstep_room.specs.Rooms.{IsBrought, MayFollow, MayStandAt, processes_among, processes_below, values_among, values_below}
use Rattle.lockstep_exchange.specs.Putting.{lane_numbers}

-- A state that has changed in some parts

among-value : (b : Bool) (now good : LogicValue) → (b ≡ false → good ≡ now) → found_or now (cond b (Some good) None) ≡ good
among-value true now good same = refl
among-value false now good same = sym (same refl)

-- a process among some, or among others
among-process : (b c : Bool) (now middle new good : ProcessState) → middle ≡ found_or now (cond b (Some good) None) → new ≡ found_or middle (cond c (Some good) None) →
    new ≡ found_or now (cond (b || c) (Some good) None)
among-process true true now middle new good first second = second
among-process false true now middle new good first second = second
among-process true false now middle new good first second = second ∙ first
among-process false false now middle new good first second = second ∙ first

pub brought : (objects processes : List ℕ) (lane : Option ProcId) (good now middle last new : State) → ValuesArePut (values_among objects good) now middle →
    ProcessesArePut (processes_among processes good) middle last → ProcessesArePut (processes_among (lane_numbers lane) good) last new → IsBrought objects processes lane good now new
brought objects processes lane good now middle last new first second third =
    let values : new.values ≡ last.values = ap (λ (s : State). s.values) third.rest in
    record {
      time_is = ap (λ (s : State). s.time) third.rest ∙ put-time _ _ now middle last first second;
      nodes_are = ap (λ (s : State). s.nodes) third.rest ∙ put-nodes _ _ now middle last first second;
      value_count = ap length values ∙ put-value_count _ _ now middle last first second;
      process_count = third.count ∙ put-process_count _ _ now middle last first second;
      values = λ object. ap (λ l. value_at l object) values ∙ put-value _ _ now middle last first second object;
      processes = λ process.
          among-process (has processes process) (has (lane_numbers lane) process) (process_at now process) (process_at last process) (process_at new process) (process_at good process)
          (put-process _ _ now middle last first second process) (third.processes process);
    }

-- what isn't put is the same
found-same : (b : Bool) (now good : ProcessState) → (b ≡ false → good ≡ now) → found_or now (cond b (Some good) None) ≡ good
found-same true now good same = refl
found-same false now good same = sym (same refl)

pub followed : WithinIsOne → (design : FlatDesign) (shows : State → Type 0) (objects processes : List ℕ) (lane : Option ProcId) (now new : State)
    (of : MayFollow design shows objects processes lane now) → IsBrought objects processes lane of.stands.good now new → new ≡ of.stands.good
followed one design shows objects processes lane now new of is =
    let good = of.stands.good in
    one same_within good new good
    (record {
      value_count = is.value_count ∙ sym of.changes.value_count;
      node_count = ap length is.nodes_are ∙ sym of.changes.node_count;
      process_count = is.process_count ∙ sym of.changes.process_count;
      values = λ object. is.values object ∙ among-value (has objects object) (value_at now.values object) (value_at good.values object) (λ none. of.changes.values object none);
      nodes = λ number. ap (λ (l : List NodeState). node_at (record good { nodes = l }) number) is.nodes_are ∙ sym (of.changes.nodes number refl);
      processes = λ process.
          is.processes process
          ∙ found-same (has processes process || has (lane_numbers lane) process) (process_at now process) (process_at good process) (λ none. of.changes.processes process none);
    })
    (same-state good) (is.time_is ∙ sym of.stands.time_is)

-- A state anew

below-value : (count : ℕ) (now good : State) (object : ℕ) → length now.values ≤ count → length good.values ≤ count →
    found_or (value_at now.values object) (values_below count good object) ≡ value_at good.values object
below-value count now good object few all = elim (cases_lt object count) [
  | inl low ↦ ap (λ b. found_or (value_at now.values object) (cond b (Some (value_at good.values object)) None)) (lt-ltb object count low)
  | inr past ↦
      ap (λ b. found_or (value_at now.values object) (cond b (Some (value_at good.values object)) None)) (le-ltb object count past)
      ∙ get_or_past now.values object [] (omega (arith, past, few)) ∙ sym (get_or_past good.values object [] (omega (arith, past, all)))
]

below-process : (count : ℕ) (now good : State) (process : ℕ) → length now.processes ≤ count → length good.processes ≤ count →
    found_or (process_at now process) (processes_below count good process) ≡ process_at good process
below-process count now good process few all = elim (cases_lt process count) [
  | inl low ↦ ap (λ b. found_or (process_at now process) (cond b (Some (process_at good process)) None)) (lt-ltb process count low)
  | inr past ↦
      ap (λ b. found_or (process_at now process) (cond b (Some (process_at good process)) None)) (le-ltb process count past)
      ∙ ap (found_or idle_process) (slice_get_past now.processes process (omega (arith, past, few)))
      ∙ sym (ap (found_or idle_process) (slice_get_past good.processes process (omega (arith, past, all))))
]

pub stood : WithinIsOne → (design : FlatDesign) (shows : State → Type 0) (time : ℕ) (values : List LogicValue) (now middle new : State) (of : MayStandAt design shows time) →
    length values ≡ length design.objects → now ≡ cleared_state design time values → ValuesArePut (values_below (length design.objects) of.good) now middle →
    ProcessesArePut (processes_below (length design.processes) of.good) middle new → new ≡ of.good
stood one design shows time values now middle new of count is first second =
    let wide : length now.values ≡ length design.objects = ap (λ (s : State). length s.values) is ∙ count in
    let long : length now.processes ≡ length design.processes =
    ap (λ (s : State). length s.processes) is ∙ length-map design.processes (λ (process : FlatProcess). idle_process) in
    let nodes : new.nodes ≡ of.good.nodes = put-nodes _ _ now middle new first second ∙ ap (λ (s : State). s.nodes) is ∙ sym of.nodes in
    one same_within of.good new of.good
    (record {
      value_count = put-value_count _ _ now middle new first second ∙ wide ∙ sym of.value_count;
      node_count = ap length nodes;
      process_count = put-process_count _ _ now middle new first second ∙ long ∙ sym of.process_count;
      values = λ object.
          put-value _ _ now middle new first second object
          ∙ below-value (length design.objects) now of.good object (omega (arith, wide)) (omega (arith, of.value_count));
      nodes = λ number. ap (λ (l : List NodeState). node_at (record of.good { nodes = l }) number) nodes;
      processes = λ process.
          put-process _ _ now middle new first second process
          ∙ below-process (length design.processes) now of.good process (omega (arith, long)) (omega (arith, of.process_count));
    })
    (same-state of.good) (put-time _ _ now middle new first second ∙ ap (λ (s : State). s.time) is ∙ sym of.time_is)
