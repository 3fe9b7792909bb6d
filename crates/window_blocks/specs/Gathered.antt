-- What is gathered of blocks event by event: by law the events of a phase tell where its blocks begin (IEEE 1364-2001, clause 5).
use Rattle.std.specs.Prelude.{◌≡◌, ℕ, ◌+◌, Bool, true, false, not, List, [], ◌∷◌, ◌++◌, map, length, Option, Some, None, nat_le}
use Rattle.v_design.specs.Grades.{Phase}
use Rattle.v_design.specs.Laws.{place_if}
use Rattle.v_design.specs.States.{Event, Step, LaneStep, Evaluation, NetUpdate, some_in}
use Rattle.causal_monitor.specs.declared.slot.Actor.{Actor}
use Rattle.causal_monitor.specs.declared.slot.SlotLog.{SlotLog}
use Rattle.slot_record.specs.Records.{event_of}
use Rattle.phase_blocks.specs.Blocks.{is_step_from, begins_block}
use Rattle.window_blocks.specs.declared.table.BlockTable.{BlockTable}

-- The greatest process that took a step

-- whether it is at least this one, if there is one
abbrev pub reaches : Option ℕ → ℕ → Bool
reaches None process = false
reaches (Some greatest) process = nat_le process greatest

-- it is the greatest of those that took a step among some events
abbrev pub IsGreatest : Option ℕ → List Event → Type 0
IsGreatest greatest events = (process : ℕ) → some_in (is_step_from process) events ≡ reaches greatest process

-- by it, whether a block begins with an event
abbrev pub begins_by : Option ℕ → Event → Bool
begins_by greatest (Step process) = not (reaches greatest process)
begins_by greatest (LaneStep process) = true
begins_by greatest (Evaluation node) = false
begins_by greatest (NetUpdate node) = false

-- and which it is with the event
abbrev pub greater_of : Bool → Option ℕ → ℕ → Option ℕ
greater_of true greatest process = greatest
greater_of false greatest process = Some process

abbrev pub greatest_by : Option ℕ → Event → Option ℕ
greatest_by greatest (Step process) = greater_of (reaches greatest process) greatest process
greatest_by greatest (LaneStep process) = greatest
greatest_by greatest (Evaluation node) = greatest
greatest_by greatest (NetUpdate node) = greatest

-- Moments

-- those of the events of a phase, behind earlier ones, with which blocks begin; the first of them has a moment
abbrev pub beginnings_from : List Event → ℕ → List Event → List ℕ
beginnings_from earlier moment [] = []
beginnings_from earlier moment (event ∷ events) = place_if (begins_block earlier event) moment (beginnings_from (earlier ++ event ∷ []) (moment + 1) events)

-- those of several phases
abbrev pub all_beginnings : ℕ → List (List Event) → List ℕ
all_beginnings moment [] = []
all_beginnings moment (events ∷ rest) = beginnings_from [] moment events ++ all_beginnings (moment + length events) rest

-- the events themselves with which blocks begin
abbrev pub one_if : {A : Type 0} → Bool → A → List A → List A
one_if true x rest = x ∷ rest
one_if false x rest = rest

abbrev pub firsts_from : List Event → List Event → List Event
firsts_from earlier [] = []
firsts_from earlier (event ∷ events) = one_if (begins_block earlier event) event (firsts_from (earlier ++ event ∷ []) events)

abbrev pub all_firsts : List (List Event) → List Event
all_firsts [] = []
all_firsts (events ∷ rest) = firsts_from [] events ++ all_firsts rest

-- where each of several phases ends
abbrev pub all_ends : ℕ → List (List Event) → List ℕ
all_ends moment [] = []
all_ends moment (events ∷ rest) = (moment + length events) ∷ all_ends (moment + length events) rest

-- the moment behind them
abbrev pub moment_behind : ℕ → List (List Event) → ℕ
moment_behind moment [] = moment
moment_behind moment (events ∷ rest) = moment_behind (moment + length events) rest

-- the events of each phase of a slot, by who acts in them, and of some phases
abbrev pub slot_events : SlotLog → List (List Event)
slot_events log = map (λ (actors : List Actor). map event_of actors) log.actors

abbrev pub phase_events : List Phase → List (List Event)
phase_events phases = map (λ (phase : Phase). phase.events) phases

-- a table has some phases more, which have these events
pub record GathersBlocks (phases : List (List Event)) (old new : BlockTable) : Type 0 where
  pub moments : new.moments.items ≡ old.moments.items ++ all_beginnings old.moment phases
  pub firsts : map event_of new.actors.items ≡ map event_of old.actors.items ++ all_firsts phases
  pub ends : new.ends.items ≡ old.ends.items ++ all_ends old.moment phases
  pub moment : new.moment ≡ moment_behind old.moment phases

-- a table of no phase
pub record HasNoBlock (table : BlockTable) : Type 0 where
  pub moments : table.moments.items ≡ []
  pub actors : table.actors.items ≡ []
  pub ends : table.ends.items ≡ []
  pub moment : table.moment ≡ 0
