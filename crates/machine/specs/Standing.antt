-- Where a machine stands in its first run, and what the run of a slot gives (slots and phases by IEEE 1364-2001, clause 5).
use Rattle.std.specs.Prelude.{◌≡◌, ℕ, ◌<◌, ◌≤◌, Bool, true, false, Option, Some, None, IsTrue, IsSomeAnd, nat_le, slice_get, List, length, map}
use Rattle.std.specs.Option.{option_map}
use Rattle.std.proofs.Common.{refl, subst}
use Rattle.vf_base.specs.Base.{reported_pair}
use Rattle.four_value.specs.Values.{LogicValue}
use Rattle.v_design.specs.PlainDesigns.{design_of}
use Rattle.v_design.specs.Designs.{FlatDesign, FlatNode, FlatProcess, Machine, width_in}
use Rattle.v_design.specs.Assignments.{value_at}
use Rattle.v_design.specs.States.{State, NodeState, TurnKind, PostponedTurn, UpdatesTurn, TimeTurn, idle_node, idle_process, process_at, turn_of, time_turn, has_event, some_in}
use Rattle.v_design.specs.Runs.{Move, FirstSlot, Leads, ends_by, only_if, first_run, slot_end, is_hyper, next_slot, next_slot_at, turn_in_slot}
use Rattle.v_design.specs.Laws.{BeginsPhase}
use Rattle.v_design.specs.PhaseLogs.{NotedEvent}
use Rattle.v_design.specs.Grades.{SlotOutcome, Fine, Race, Hyper, phases, slot_outcome}
use Rattle.machine_laws.specs.SlotLoop.{slot_from}
use Rattle.event_causes.specs.Causes.{AreCausesOf}
use Rattle.causal_monitor.specs.declared.slot.Turn.{Turn}
use Rattle.causal_monitor.specs.declared.slot.Turn.TheVariants as turn
use Rattle.causal_monitor.specs.declared.slot.SlotLog.{SlotLog}
use Rattle.slot_record.specs.SlotLogs.{IsSlotLog}
use Rattle.process_code.specs.declared.state.RunEnd.{RunEnd}
use Rattle.run_ends.specs.RunEnds.{HaveRunEnds}
use Rattle.run_record.specs.RunRecords.{IsAtRest}
use Rattle.net_state.specs.States.{machine_in, values_in, nodes_in}
use Rattle.process_table.specs.Arranged.{IsKept, table_of}
use Rattle.process_table.specs.Puts.{MayStand}
use Rattle.machine.specs.declared.end.SlotEnd.{SlotEnd}
use Rattle.machine.specs.declared.end.SlotEnd.TheVariants as ends
use Rattle.machine.specs.declared.parts.Stage.{Stage}
use Rattle.machine.specs.declared.parts.Stage.TheVariants as at
use Rattle.machine.specs.declared.parts.Machine.{Machine as Simulated}

-- What a machine stands for

-- the design and its fault
abbrev pub machine_kept : Simulated → Machine
machine_kept m = machine_in m.nets

-- the state: the present time, the value of each object, and the state of each node and each process
abbrev pub state_kept : Simulated → State
state_kept m = record {
  time = (table_of m.table).time;
  values = values_in m.nets;
  nodes = nodes_in m.nets;
  processes = (table_of m.table).processes;
}

-- whether the ends of process runs are noted, and those of the slot that was run last, as long as they aren't taken
abbrev pub notes_runs : Simulated → Bool
notes_runs m = m.noting

abbrev pub runs_kept : Simulated → List RunEnd
runs_kept m = m.runs.ended.items

-- Slots

-- the state in which the slot after a turn begins, where the turn leads to a later time
abbrev pub slot_after : State → Option TurnKind → Option State
slot_after state None = None
slot_after state (Some PostponedTurn) = None
slot_after state (Some UpdatesTurn) = None
slot_after state (Some (TimeTurn time)) = Some (time_turn time state)

-- the state in which the slot after this one begins, at whatever time; none comes after a slot that is hyperactive
abbrev pub following : Machine → FirstSlot → Option State
following machine slot = elim (is_hyper slot) [ true ↦ None | false ↦ slot_after (slot_end machine slot) (turn_of (slot_end machine slot)) ]

-- a beginning up to a time
abbrev pub begun_within : ℕ → Option State → Option State
begun_within time None = None
begun_within time (Some begins) = only_if (nat_le begins.time time) begins

-- the state in which the next slot begins
abbrev pub begins_at : Stage → State → Option State
begins_at at.Start state = Some state
begins_at at.Between state = slot_after state (turn_of state)
begins_at at.Over state = None

-- the same of a machine
abbrev pub begins_next : Simulated → Option State
begins_next m = begins_at m.stage (state_kept m)

-- a slot is left and begins early enough, where its time is known and is early enough
pub left-at : (m : Simulated) (time limit : ℕ) → Some time ≡ option_map (λ (s : State). s.time) (begins_next m) → time ≤ limit → IsSomeAnd (begins_next m) (λ (begins : State). begins.time ≤ limit)
left-at m time limit known early = go (begins_next m) known
  where
    some-is : (one other : ℕ) → Some one ≡ Some other → one ≡ other
    some-is one other e = cc

    go : (next : Option State) → Some time ≡ option_map (λ (s : State). s.time) next → IsSomeAnd next (λ (begins : State). begins.time ≤ limit)
    go None e = cc
    go (Some begins) e = subst (λ t. t ≤ limit) (some-is time begins.time e) early

-- the turn before the first phase of the next slot
abbrev pub first_turn : Stage → Turn
first_turn at.Start = turn.Start
first_turn at.Between = turn.Time
first_turn at.Over = turn.Time

-- the slot that a state begins is one of the first run: it has its place in each that goes to its time
pub record BeginsInFirstRun (machine : Machine) (begins : State) : Type 0 where
  pub number : ℕ
  pub stands : (time : ℕ) → begins.time ≤ time → slice_get (first_run machine time) number ≡ Some (slot_from machine begins)

-- no node has work
abbrev pub idle_nodes : FlatDesign → List NodeState
idle_nodes design = map (λ (node : FlatNode). idle_node) design.nodes

-- a state between two slots of a machine's first run, into which a machine may be put: each value is as wide as its object, no event and no turn within a slot is possible, each process may stand
-- where it stands, and the slot to whose time the turn leads begins as the laws ask and is one of the first run
pub record StandsBetween (machine : Machine) (state : State) : Type 0 where
  pub values : length state.values ≡ length machine.design.objects
  pub widths : (object : ℕ) → object < length state.values → length (value_at state.values object) ≡ width_in machine.design object
  pub nodes : state.nodes ≡ idle_nodes machine.design
  pub count : length state.processes ≡ length machine.design.processes
  pub quiet : some_in has_event state.processes ≡ false
  pub no_turn : turn_in_slot (turn_of state) ≡ None
  pub processes : (number : ℕ) → MayStand machine.design state.time number (process_at state number)
  pub begins : (begins : State) → slot_after state (turn_of state) ≡ Some begins → BeginsPhase machine begins
  pub reached : (begins : State) → slot_after state (turn_of state) ≡ Some begins → BeginsInFirstRun machine begins

-- a machine stands between two slots of its first run, and its parts agree
pub record IsStanding (m : Simulated) : Type 0 where
  pub table : IsKept m.table
  pub design : (table_of m.table).design ≡ (machine_kept m).design
  pub graph : design_of m.graph.now.design.now ≡ (machine_kept m).design
  pub values : length (state_kept m).values ≡ length (machine_kept m).design.objects
  pub earlier : List NotedEvent
  pub causes : AreCausesOf (machine_kept m) earlier m.record.phase.causes
  -- no event is possible between two slots
  pub quiet : m.stage ≡ at.Between → some_in has_event (table_of m.table).processes ≡ false
  pub nodes : m.stage ≡ at.Between → (state_kept m).nodes ≡ idle_nodes (machine_kept m).design
  pub no_turn : m.stage ≡ at.Between → turn_in_slot (turn_of (state_kept m)) ≡ None
  -- the next slot begins as the laws ask
  pub begins : (begins : State) → begins_next m ≡ Some begins → BeginsPhase (machine_kept m) begins
  -- and is one of the first run
  pub reached : (begins : State) → begins_next m ≡ Some begins → BeginsInFirstRun (machine_kept m) begins
  -- where runs are noted, no process is in one
  pub rests : (begins : State) → begins_next m ≡ Some begins → notes_runs m ≡ true → IsAtRest (length (machine_kept m).design.processes) m.runs

-- no slot is left to a machine, whose parts agree: it may be put into a state
pub record IsCleared (m : Simulated) : Type 0 where
  pub standing : IsStanding m
  pub over : m.stage ≡ at.Over

-- the state of a machine that is cleared at a time: its values stay, no node has work, and each process is done
abbrev pub cleared_state : FlatDesign → ℕ → List LogicValue → State
cleared_state design time values = record { time = time; values = values; nodes = idle_nodes design; processes = map (λ (process : FlatProcess). idle_process) design.processes }

-- a machine still stands where it stood
pub record StaysStanding (old new : Simulated) : Type 0 where
  pub machine_is : machine_kept new ≡ machine_kept old
  pub state_is : state_kept new ≡ state_kept old
  pub begins_is : begins_next new ≡ begins_next old
  pub turn_is : first_turn new.stage ≡ first_turn old.stage
  pub standing : IsStanding new

-- How a slot ends

-- the outcome that the end of a slot tells
abbrev pub outcome_of : SlotEnd → SlotOutcome
outcome_of ends.Fine = Fine
outcome_of (ends.Race pair) = Race (reported_pair pair)
outcome_of ends.Hyper = Hyper

-- a slot that a state begins was run: its outcome, the state at its end, the next slot, the log of its phases, the first of which comes after a turn, and, where they are
-- noted, the ends of its process runs, unless it is hyperactive, so that some runs are cut off
pub record RunsSlot (machine : Machine) (begins : State) (first : Turn) (end : SlotEnd) (m : Simulated) (log : SlotLog) : Type 0 where
  pub outcome : outcome_of end ≡ slot_outcome machine (slot_from machine begins)
  pub state : state_kept m ≡ slot_end machine (slot_from machine begins)
  pub next : begins_next m ≡ following machine (slot_from machine begins)
  pub between : is_hyper (slot_from machine begins) ≡ false → m.stage ≡ at.Between
  pub logged : IsSlotLog machine first (phases machine (slot_from machine begins)) log
  pub log_time : log.time ≡ begins.time
  pub runs : notes_runs m ≡ true → is_hyper (slot_from machine begins) ≡ false → HaveRunEnds machine (phases machine (slot_from machine begins)) (runs_kept m)

-- where a slot is fine, every legal run of it ends in the state in which the machine stands
abbrev pub EveryOrderEndsHere : (machine : Machine) (begins : State) (m : Simulated) → Type 0
EveryOrderEndsHere machine begins m =
    slot_outcome machine (slot_from machine begins) ≡ Fine → (moves : List Move) (final : State) → Leads machine begins.time begins moves final → IsTrue (ends_by begins.time final) →
    final ≡ state_kept m

-- the next slot of the first run up to a time is the following one, if it begins by then
pub next-is-following : (machine : Machine) (time : ℕ) (slot : FirstSlot) → next_slot machine time slot ≡ begun_within time (following machine slot)
next-is-following machine time slot = go (is_hyper slot) (turn_of (slot_end machine slot))
  where
    go : (hyper : Bool) (turn : Option TurnKind) →
        elim hyper [ true ↦ None | false ↦ next_slot_at time (slot_end machine slot) turn ] ≡ begun_within time (elim hyper [ true ↦ None | false ↦ slot_after (slot_end machine slot) turn ])
    go true turn = refl
    go false None = refl
    go false (Some PostponedTurn) = refl
    go false (Some UpdatesTurn) = refl
    go false (Some (TimeTurn later)) = refl
