-- What is told of a block grows event by event (IEEE 1364-2001, clause 5).
use Rattle.std.proofs.Common.{◌≡◌, ℕ, ◌+◌, List, [], ◌∷◌, ◌++◌, length, map, Bool, true, false, ◌||◌, refl, sym, ap, subst, ◌∙◌, arith, nat_eq, sum_by}
use Rattle.std.proofs.lemmas.List.{map-append}
use Rattle.std.proofs.lemmas.List.Sums.{sum_by-append}
use Rattle.std.proofs.lemmas.Bool.{eq-eqb}
use Rattle.graph_order.specs.ListLaws.{has-append}
use Rattle.vf_base.specs.Base.{object_number, process_number}
use Rattle.vf_base.specs.Lists.{has}
use Rattle.v_design.specs.Designs.{Machine}
use Rattle.v_design.specs.States.{State, Event, Step, LaneStep, Evaluation, NetUpdate, after}
use Rattle.v_design.specs.Runs.{happened}
use Rattle.v_design.specs.PhaseLogs.{NotedEvent, is_step_of, is_lane_of, note_of, noted_events, log_of}
use Rattle.machine_laws.specs.SlotLoop.{NotesGoOn, steps_of}
use Rattle.copy_laws.specs.Moves.{ChangesOnly, EventsChangeOnly, parts_of}
use Rattle.block_filter.specs.Blocks.{all_accesses}
use Rattle.order_laws.proofs.ToFront.{happened-append}
use Rattle.block_told.specs.declared.told.BlockTold.{BlockTold}
use Rattle.block_told.specs.Tells.{Seen, access_seen, noted_seen, is_lane, parts_told, TellsBlock, IsUntold}
use Rattle.block_told.specs.Stays.{process-stays}
use Rattle.block_told.specs.Prefixes.{step-causes-more, lane-causes-more, accesses-more}
use Rattle.block_told.specs.EventTells.{TellsEvent}

-- Nothing is told

pub tells-nothing : (machine : Machine) (state : State) (told : BlockTold) → IsUntold told → TellsBlock machine state [] told
tells-nothing machine state told none = record {
  accesses = ap (map noted_seen) none.accesses;
  changes = record {
    value_count = refl;
    node_count = refl;
    process_count = refl;
    values = λ object fails. refl;
    nodes = λ number fails. refl;
    processes = λ process fails. refl;
  };
  steps = λ process. sym (λ i. has (map process_number (none.stepped i)) process || has (map process_number (none.ended i)) process);
  lanes = λ process. sym (ap (λ l. is_lane l process) none.lane);
  count = none.steps;
}

-- One event more

-- what is told of an event is added
pub record Adds (event : Event) (seen : List Seen) (changed ended : List ℕ) (old new : BlockTold) : Type 0 where
  pub accesses : map noted_seen new.accesses.items ≡ map noted_seen old.accesses.items ++ seen
  pub changed_more : map object_number new.changed.items ≡ map object_number old.changed.items ++ changed
  pub ended_more : map process_number new.ended.items ≡ map process_number old.ended.items ++ ended
  pub stepped : (process : ℕ) → has (map process_number new.stepped.items) process ≡ (has (map process_number old.stepped.items) process || is_step_of process event)
  pub lane : (process : ℕ) → is_lane new.lane process ≡ (is_lane old.lane process || is_lane_of process event)
  pub count : new.steps ≡ old.steps + steps_of event

neither : (b c : Bool) → (b || c) ≡ false → (b ≡ false) × (c ≡ false)
neither true c e = cc
neither false c e = (refl, e)

parted : (a b c d : Bool) → ((a || b) || (c || d)) ≡ ((a || c) || (b || d))
parted true b c d = refl
parted false true true d = refl
parted false true false d = refl
parted false false c d = refl

not-step : (process : ℕ) (event : Event) → is_step_of process event ≡ false → Step process ≡ event → ⊥
not-step process (Step number) fails e = let same : process ≡ number = cc in let holds : nat_eq process number ≡ true = eq-eqb process number same in let z : true ≡ false = sym holds ∙ fails in cc
not-step process (LaneStep number) fails e = cc
not-step process (Evaluation node) fails e = cc
not-step process (NetUpdate node) fails e = cc

not-lane : (process : ℕ) (event : Event) → is_lane_of process event ≡ false → LaneStep process ≡ event → ⊥
not-lane process (LaneStep number) fails e = let same : process ≡ number = cc in let holds : nat_eq process number ≡ true = eq-eqb process number same in let z : true ≡ false = sym holds ∙ fails in cc
not-lane process (Step number) fails e = cc
not-lane process (Evaluation node) fails e = cc
not-lane process (NetUpdate node) fails e = cc

-- the parts outside which nothing changed
changes-more : EventsChangeOnly → (machine : Machine) (begins : State) (events : List Event) (event : Event) (seen : List Seen) (changed ended : List ℕ) (old new : BlockTold) →
    length (happened machine begins events).nodes ≡ length machine.design.nodes → TellsEvent machine (happened machine begins events) event seen changed ended → Adds event seen changed ended old new →
    ChangesOnly (parts_told old) begins (happened machine begins events) → ChangesOnly (parts_told new) begins (happened machine begins (events ++ event ∷ []))
changes-more law machine begins events event seen changed ended old new nodes tells adds before =
    subst (ChangesOnly (parts_told new) begins) (sym (happened-append machine begins events (event ∷ [])))
    (record {
      value_count = here.value_count ∙ before.value_count;
      node_count = here.node_count ∙ before.node_count;
      process_count = here.process_count ∙ before.process_count;
      values = λ object fails.
          let parts = neither (has (map object_number old.changed.items) object) (has changed object)
          (sym (ap (λ l. has l object) adds.changed_more ∙ has-append (map object_number old.changed.items) changed object) ∙ fails) in
          tells.changes object parts.1 ∙ before.values object parts.0;
      nodes = λ number fails. let z : true ≡ false = fails in cc;
      processes = λ process fails.
          let outer = neither _ (is_lane new.lane process) fails in
          let inner = neither (has (map process_number new.stepped.items) process) (has (map process_number new.ended.items) process) outer.0 in
          let stepped = neither (has (map process_number old.stepped.items) process) (is_step_of process event) (sym (adds.stepped process) ∙ inner.0) in
          let lane = neither (is_lane old.lane process) (is_lane_of process event) (sym (adds.lane process) ∙ outer.1) in
          let waits = neither (has (map process_number old.ended.items) process) (has ended process)
          (sym (ap (λ l. has l process) adds.ended_more ∙ has-append (map process_number old.ended.items) ended process) ∙ inner.1) in
          process-stays machine state event process (not-step process event stepped.1) (not-lane process event lane.1) (sym (tells.waits process) ∙ waits.1)
          ∙ before.processes process (λ i. (stepped.0 i || waits.0 i) || lane.0 i);
    })
  where
    state : State
    state = happened machine begins events

    here : ChangesOnly (parts_of machine state event) state (after machine state event)
    here = law machine state event nodes

pub tells-more : NotesGoOn → EventsChangeOnly → (machine : Machine) (begins : State) (events : List Event) (event : Event) (seen : List Seen) (changed ended : List ℕ) (old new : BlockTold) →
    length (happened machine begins events).nodes ≡ length machine.design.nodes → TellsEvent machine (happened machine begins events) event seen changed ended → Adds event seen changed ended old new →
    TellsBlock machine begins events old → TellsBlock machine begins (events ++ event ∷ []) new
tells-more notes law machine begins events event seen changed ended old new nodes tells adds before = record {
  accesses =
      adds.accesses ∙ (λ i. before.accesses i ++ tells.accesses note.process note.line i)
      ∙ sym (ap (map access_seen) (accesses-more notes machine begins events event)
      ∙ map-append access_seen (all_accesses (log_of machine begins events)) _);
  changes = changes-more law machine begins events event seen changed ended old new nodes tells adds before.changes;
  steps = λ process.
      step-causes-more notes machine begins events event process
      ∙ (λ i. before.steps process i || (is_step_of process event || sym (tells.waits process) i))
      ∙ parted (has (map process_number old.stepped.items) process) (has (map process_number old.ended.items) process) (is_step_of process event) (has ended process)
      ∙ (λ i. sym (adds.stepped process) i || sym (ap (λ l. has l process) adds.ended_more ∙ has-append (map process_number old.ended.items) ended process) i);
  lanes = λ process.
      lane-causes-more notes machine begins events event process ∙ ap (λ b. b || is_lane_of process event) (before.lanes process) ∙ sym (adds.lane process);
  count = adds.count ∙ ap (λ n. n + steps_of event) before.count ∙ plus-zero events;
}
  where
    note : NotedEvent
    note = note_of machine (noted_events machine begins events) (happened machine begins events) event

    plus-zero : (events : List Event) → sum_by steps_of events + steps_of event ≡ sum_by steps_of (events ++ event ∷ [])
    plus-zero events =
        let e : sum_by steps_of (event ∷ []) ≡ steps_of event = omega arith in
        sym (sum_by-append steps_of events (event ∷ []) ∙ ap (λ n. sum_by steps_of events + n) e)
