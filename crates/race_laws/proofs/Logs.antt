-- What the log of a phase names is of the design.
use Rattle.std.proofs.Common.{◌≡◌, ℕ, ◌+◌, ◌<◌, Bool, true, false, List, [], ◌∷◌, map, filter, length, arith}
use Rattle.std.specs.Prelude.{Option, Some, None, slice_get}
use Rattle.four_value.specs.Values.{LogicValue, same_value}
use Rattle.vf_base.specs.Lists.{joined, map_numbered, has, AllHold}
use Rattle.v_design.specs.Trees.{Entry}
use Rattle.v_design.specs.Paths.{numbers_of, net_pieces, is_net}
use Rattle.v_design.specs.Designs.{FlatObject, FlatNode, FlatDesign, Machine}
use Rattle.v_design.specs.Assignments.{ValueUpdate, value_at}
use Rattle.v_design.specs.Processes.{Action, ReadsObject, WritesObject, AppendsUpdate, TouchesNothing, ProcessStep}
use Rattle.v_design.specs.States.{State, Event, Step, LaneStep, Evaluation, NetUpdate, after, step_of, process_at, value_written}
use Rattle.v_design.specs.Writers.{lane_objects}
use Rattle.v_design.specs.Accesses.{AccessAct, Reading, Writing, Awaiting, Ending, Holding, Settling, ObjectAccess, waiting_entries, without_first, ended_of, ended_by, write_accesses}
use Rattle.v_design.specs.Accesses.{await_accesses, action_accesses, step_accesses, lane_accesses, net_write, net_ended_by, net_accesses, accesses_of, held_by, held_accesses}
use Rattle.v_design.specs.Logs.{LoggedEvent, LoggedPhase, PhaseAccess, change_of, phase_changes, counts, settles_of, counted_accesses, event_accesses, log_accesses}
use Rattle.race_laws.proofs.Lists.{both, mapped, mapped-each, filtered, joined-each, joined-numbered, joined-numbered-each}
use Rattle.race_laws.proofs.Writers.{Clear, ActionClear, StepClear, step_of-clear, BodiesClear}
use Rattle.race_laws.proofs.Named.{IsObject}
use Rattle.race_laws.proofs.States.{IsOf, IsBelow}

-- the object of a write or a settling is of the design
abbrev pub IsActOf : FlatDesign → AccessAct → ℕ → Type 0
IsActOf design Reading object = Unit {0}
IsActOf design (Writing old new) object = IsObject design object
IsActOf design (Awaiting entry) object = Unit {0}
IsActOf design (Ending entry) object = Unit {0}
IsActOf design (Holding entry) object = Unit {0}
IsActOf design Settling object = IsObject design object

-- an access is of a process of the design, and what it writes or settles is of the design
pub record IsOfParts (design : FlatDesign) (access : ObjectAccess) : Type 0 where
  pub object : IsActOf design access.act access.object
  pub process : access.process < length design.processes

-- several accesses are
abbrev pub AreOfParts : FlatDesign → List ObjectAccess → Type 0
AreOfParts design accesses = AllHold (IsOfParts design) accesses

-- The accesses of an event

ended-of : (design : FlatDesign) (ends : Bool) (test : Entry → Bool) (process line : ℕ) (entries : List Entry) → process < length design.processes →
    AreOfParts design (ended_of ends test process line entries)
ended-of design false test process line entries low = tt
ended-of design true test process line entries low = mapped (IsOfParts design) _ (without_first test entries) (λ entry. record { object = tt; process = low })

write-of : (design : FlatDesign) (process line object : ℕ) (old new : LogicValue) (state : State) → length state.processes ≡ length design.processes → object < length design.objects →
    process < length design.processes → AreOfParts design (write_accesses process line object old new state)
write-of design process line object old new state count there low = (
  record { object = there; process = low },
  joined-numbered (IsOfParts design) (ended_by object old new) 0 (length design.processes) state.processes (omega (arith, count))
      (λ n waiting small. ended-of design _ _ n _ (waiting_entries waiting.activity) small),
)

action-of : (machine : Machine) (process line : ℕ) (action : Action) (state : State) → length state.processes ≡ length machine.design.processes → ActionClear (IsObject machine.design) action →
    process < length machine.design.processes → AreOfParts machine.design (action_accesses machine process line action state)
action-of machine process line (ReadsObject object) state count clear low = (record { object = tt; process = low }, tt)
action-of machine process line (WritesObject update) state count clear low =
    write-of machine.design process line update.object (value_at state.values update.object) (value_written machine state update) state count clear low
action-of machine process line (AppendsUpdate delay update) state count clear low = tt
action-of machine process line TouchesNothing state count clear low = tt

step-of : (machine : Machine) (process : ℕ) (step : ProcessStep) (state : State) → length state.processes ≡ length machine.design.processes → StepClear (IsObject machine.design) step →
    process < length machine.design.processes → AreOfParts machine.design (step_accesses machine process step state)
step-of machine process step state count clear low =
    both (IsOfParts machine.design) (action_accesses machine process step.line step.action state) (await_accesses process step.line step.next)
    (action-of machine process step.line step.action state count clear.0 low)
    (mapped (IsOfParts machine.design) _ (waiting_entries step.next) (λ entry. record { object = tt; process = low }))

lane-of : (machine : Machine) (process : ℕ) (lane : List ValueUpdate) (state : State) → length state.processes ≡ length machine.design.processes →
    Clear (IsObject machine.design) (lane_objects lane) → process < length machine.design.processes → AreOfParts machine.design (lane_accesses machine process lane state)
lane-of machine process [] state count clear low = tt
lane-of machine process (first ∷ rest) state count clear low =
    write-of machine.design process first.line first.object (value_at state.values first.object) (value_written machine state first) state count clear.0 low

-- net pieces are objects of the design
numbers-below : (test : FlatObject → Bool) (start end : ℕ) (objects : List FlatObject) → start + length objects ≡ end → AllHold (λ (object : ℕ). object < end) (numbers_of test start objects)
numbers-below test start end [] e = tt
numbers-below test start end (object ∷ objects) e = go (test object) (numbers-below test (start + 1) end objects (omega (arith, e)))
  where
    go : (b : Bool) → AllHold (λ (object : ℕ). object < end) (numbers_of test (start + 1) objects) →
        AllHold (λ (object : ℕ). object < end) (elim b [ true ↦ start ∷ numbers_of test (start + 1) objects | false ↦ numbers_of test (start + 1) objects ])
    go true h = (omega (arith, e), h)
    go false h = h

nets-below : (design : FlatDesign) → AllHold (IsObject design) (net_pieces design)
nets-below design = numbers-below (λ object. is_net object.kind) 0 (length design.objects) design.objects (omega arith)

piece-of : (design : FlatDesign) (process line : ℕ) (state next : State) (object : ℕ) → process < length design.processes → object < length design.objects →
    AreOfParts design (net_write process line state next object)
piece-of design process line state next object low there =
    elim (same_value (value_at state.values object) (value_at next.values object)) as (λ b. AreOfParts design (elim b [
      | true ↦ []
      | false ↦ record { act = Writing (value_at state.values object) (value_at next.values object); object = object; process = process; line = line } ∷ []
    ])) [
      | true ↦ tt
      | false ↦ (record { object = there; process = low }, tt)
    ]

nets-of : (design : FlatDesign) (process line : ℕ) (node : Option FlatNode) (state next : State) → length state.processes ≡ length design.processes → process < length design.processes →
    AreOfParts design (net_accesses design process line node state next)
nets-of design process line None state next count low = tt
nets-of design process line (Some node) state next count low =
    both (IsOfParts design) (joined (map (net_write process line state next) (filter (has node.outputs) (net_pieces design))))
    (joined (map_numbered (net_ended_by state next node.outputs) 0 state.processes))
    (joined-each (IsObject design) (IsOfParts design) (net_write process line state next) (filter (has node.outputs) (net_pieces design))
    (filtered (IsObject design) (has node.outputs) (net_pieces design) (nets-below design)) (λ object there. piece-of design process line state next object low there))
    (joined-numbered (IsOfParts design) (net_ended_by state next node.outputs) 0 (length design.processes) state.processes (omega (arith, count))
    (λ n old small. ended-of design _ _ n _ (waiting_entries old.activity) small))

-- a net's update is given a process of the design
pub event-of : (machine : Machine) (writer line : ℕ) (state : State) (event : Event) → BodiesClear (IsObject machine.design) machine → IsOf machine state →
    writer < length machine.design.processes → IsBelow (length machine.design.processes) event → AreOfParts machine.design (accesses_of machine writer line state event)
event-of machine writer line state (Step process) bodies is low own =
    step-of machine process (step_of machine state process) state is.count (step_of-clear (IsObject machine.design) machine state process bodies is.writes) own
event-of machine writer line state (LaneStep process) bodies is low own = lane-of machine process (process_at state process).lane state is.count (is.writes process).1.1 own
event-of machine writer line state (Evaluation node) bodies is low own = tt
event-of machine writer line state (NetUpdate node) bodies is low own =
    nets-of machine.design writer line (slice_get machine.design.nodes node) state (after machine state (NetUpdate node)) is.count low

-- what a phase holds from its beginning
pub held-of : (machine : Machine) (state : State) → length state.processes ≡ length machine.design.processes → AreOfParts machine.design (held_accesses machine state)
held-of machine state count =
    joined-numbered (IsOfParts machine.design) (held_by machine.design) 0 (length machine.design.processes) state.processes (omega (arith, count))
    (λ n waiting small. mapped (IsOfParts machine.design) _ (filter (λ entry. has (net_pieces machine.design) entry.object) (waiting_entries waiting.activity))
    (λ entry. record { object = tt; process = small }))

-- The accesses of a log

settles-of : (design : FlatDesign) (changes : List ℕ) (access : ObjectAccess) → IsOfParts design access → AreOfParts design (settles_of design changes access)
settles-of design changes access h =
    joined-each (λ (changed : ℕ). Unit {0}) (IsOfParts design) _ (change_of design access.act access.object) (each (change_of design access.act access.object))
    (λ changed u. mapped-each (IsObject design) (IsOfParts design) _ _ (filtered (IsObject design) _ (net_pieces design) (nets-below design))
    (λ net there. record { object = there; process = h.process }))
  where
    each : (xs : List ℕ) → AllHold (λ (changed : ℕ). Unit {0}) xs
    each [] = tt
    each (x ∷ xs) = (tt, each xs)

counted-of : (design : FlatDesign) (changes : List ℕ) (accesses : List ObjectAccess) → AreOfParts design accesses → AreOfParts design (counted_accesses design changes accesses)
counted-of design changes accesses h =
    both (IsOfParts design) (filter (counts design changes) accesses) (joined (map (settles_of design changes) accesses)) (filtered (IsOfParts design) (counts design changes) accesses h)
    (joined-each (IsOfParts design) (IsOfParts design) (settles_of design changes) accesses h (settles-of design changes))

-- a numbered access is
abbrev pub IsNumberedOf : FlatDesign → PhaseAccess → Type 0
IsNumberedOf design numbered = IsOfParts design numbered.access

-- all numbered accesses of a log are, where what it holds and the accesses of its events are
pub log-of : (design : FlatDesign) (log : LoggedPhase) → AreOfParts design log.held → AllHold (λ (event : LoggedEvent). AreOfParts design event.accesses) log.events →
    AllHold (IsNumberedOf design) (log_accesses design log)
log-of design log held events =
    both (IsNumberedOf design) _ (joined (map_numbered (event_accesses design (phase_changes design log)) 0 log.events))
    (mapped-each (IsOfParts design) (IsNumberedOf design) _ log.held held (λ access h. h))
    (joined-numbered-each (λ (event : LoggedEvent). AreOfParts design event.accesses) (IsNumberedOf design) (event_accesses design (phase_changes design log)) 0 log.events events
    (λ n event h. mapped-each (IsOfParts design) (IsNumberedOf design) _ (counted_accesses design (phase_changes design log) event.accesses)
    (counted-of design (phase_changes design log) event.accesses h) (λ access i. i)))
