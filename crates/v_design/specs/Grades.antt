-- How a slot of a first run ends, what the strobes see, and the grade of a fault (slots and phases by IEEE 1364-2001, clause 5).
use Rattle.std.specs.Prelude.{ℕ, ◌+◌, Bool, true, false, ◌&&◌, ◌||◌, List, [], ◌∷◌, ◌++◌, map, filter, Option, Some, None, nat_le, nat_lt, find}
use Rattle.four_value.specs.Bits.{is_zero, is_one, is_unknown}
use Rattle.four_value.specs.Values.{LogicValue, bit_at}
use Rattle.vf_base.specs.Base.{WatchedBit, ReportedAccess, ReportedPair}
use Rattle.v_design.specs.Designs.{FlatDesign, Machine, StuckAt, TestPlan, good_machine, faulty_machine}
use Rattle.v_design.specs.Assignments.{value_at}
use Rattle.v_design.specs.States.{State, Event, TurnKind, turn_of, turned, after}
use Rattle.v_design.specs.Runs.{Move, Happens, Turns, FirstSlot, first_run, slot_end, is_hyper, made, stays_within}
use Rattle.v_design.specs.Accesses.{AccessAct, Reading, Writing, Awaiting, Ending, Holding, Settling}
use Rattle.v_design.specs.Logs.{PhaseAccess}
use Rattle.v_design.specs.PhaseLogs.{phase_race}
use Rattle.four_value.specs.declared.logic.Bit.{Bit}
use Rattle.vf_base.specs.declared.finding.Side.{Side}
use Rattle.vf_base.specs.declared.finding.Side.TheVariants.{Good, Faulty}
use Rattle.vf_base.specs.declared.finding.AccessKind.{AccessKind}
use Rattle.vf_base.specs.declared.finding.AccessKind.TheVariants.{Read, Write, Await, Ended, Held, Settle}

-- Phases

-- a phase of a slot: the turn that it begins with (none for the first), the state then, and its events
pub record Phase : Type 0 where
  pub turn : Option TurnKind
  pub begins : State
  pub events : List Event

-- the phases of some moves, from a phase that has begun
abbrev pub cut : Machine → Option TurnKind → State → List Event → State → List Move → List Phase
cut machine turn begins events state [] = record { turn = turn; begins = begins; events = events } ∷ []
cut machine turn begins events state (Happens event ∷ moves) = cut machine turn begins (events ++ event ∷ []) (after machine state event) moves
cut machine turn begins events state (Turns ∷ moves) =
    record { turn = turn; begins = begins; events = events } ∷ cut machine (turn_of state) (made machine state Turns) [] (made machine state Turns) moves

-- a slot is cut into its phases by the turns
abbrev pub phases : Machine → FirstSlot → List Phase
phases machine slot = cut machine None slot.begins [] slot.begins slot.moves

-- Races

-- the kind of an access, as a report names it
abbrev pub kind_of : AccessAct → AccessKind
kind_of Reading = Read
kind_of (Writing old new) = Write
kind_of (Awaiting entry) = Await
kind_of (Ending entry) = Ended
kind_of (Holding entry) = Held
kind_of Settling = Settle

-- an access, as a report names it
abbrev pub reported : PhaseAccess → ReportedAccess
reported numbered =
    record { kind = kind_of numbered.access.act; object = numbered.access.object; process = numbered.access.process; line = numbered.access.line }

-- two conflicting accesses, as a report names them
abbrev pub race_of : ℕ → ℕ → PhaseAccess × PhaseAccess → ReportedPair
race_of time phase pair = record { time = time; phase = phase; first = reported pair.0; second = reported pair.1 }

-- the least pair of the first phase that has one, the phases numbered from 1
abbrev pub first_race : Machine → ℕ → List Phase → Option ReportedPair
first_race machine number [] = None
first_race machine number (phase ∷ rest) =
    elim (phase_race machine phase.begins phase.events) [
      | None ↦ first_race machine (number + 1) rest
      | Some pair ↦ Some (race_of phase.begins.time number pair)
    ]

-- how a slot of a first run ends
pub data SlotOutcome : Type 0 where
  Fine : SlotOutcome
  Race : (pair : ReportedPair) → SlotOutcome
  Hyper : SlotOutcome

-- the outcome of a slot that isn't hyperactive
abbrev pub race_or_fine : Option ReportedPair → SlotOutcome
race_or_fine None = Fine
race_or_fine (Some pair) = Race pair

-- hyperactive, else the race of its first phase that has one, else fine
abbrev pub slot_outcome : Machine → FirstSlot → SlotOutcome
slot_outcome machine slot = elim (is_hyper slot) [ true ↦ Hyper | false ↦ race_or_fine (first_race machine 1 (phases machine slot)) ]

-- Strobes

-- what the strobes see: the watched bits at each time
abbrev pub Samples : Type 0
Samples = ℕ → List Bit

-- the watched bits of some values
abbrev pub samples : List WatchedBit → List LogicValue → List Bit
samples watched values = map (λ (w : WatchedBit). bit_at (value_at values w.object) w.bit) watched

-- good 0 or 1 and the faulty bit opposite
abbrev pub is_hard : Bit → Bit → Bool
is_hard good faulty = (is_zero good && is_one faulty) || (is_one good && is_zero faulty)

-- good 0 or 1 and the faulty bit x or z
abbrev pub is_possible : Bit → Bit → Bool
is_possible good faulty = (is_zero good || is_one good) && is_unknown faulty

-- whether some watched bit passes a test of its good and its faulty value
abbrev pub some_sample : (Bit → Bit → Bool) → List Bit → List Bit → Bool
some_sample test [] faulty = false
some_sample test (good ∷ more) [] = false
some_sample test (good ∷ more) (faulty ∷ rest) = test good faulty || some_sample test more rest

-- what the strobes say of a fault
pub data Verdict : Type 0 where
  Detected : (time : ℕ) → Verdict
  Possible : (time : ℕ) → Verdict
  Undetected : Verdict

-- the verdict by the first hard strobe and the first possible one
abbrev pub verdict_by : Option ℕ → Option ℕ → Verdict
verdict_by None None = Undetected
verdict_by None (Some possible) = Possible possible
verdict_by (Some hard) possible = Detected hard

-- the first strobe at which some watched bit passes a test
abbrev pub first_strobe : (Bit → Bit → Bool) → Samples → Samples → List ℕ → Option ℕ
first_strobe test good faulty strobes = find (λ strobe. some_sample test (good strobe) (faulty strobe)) strobes

-- the first strobe with a hard detection, else the first with a possible one
abbrev pub verdict : Samples → Samples → List ℕ → Verdict
verdict good faulty strobes = verdict_by (first_strobe is_hard good faulty strobes) (first_strobe is_possible good faulty strobes)

-- the values after all slots of the first run up to a time
abbrev pub values_after : Machine → List LogicValue → List FirstSlot → ℕ → List LogicValue
values_after machine last [] time = last
values_after machine last (slot ∷ slots) time =
    elim (nat_le slot.begins.time time) [ true ↦ values_after machine (slot_end machine slot).values slots time | false ↦ last ]

-- the samples of a first run
abbrev pub first_samples : Machine → List WatchedBit → List FirstSlot → Samples
first_samples machine watched slots time = samples watched (values_after machine [] slots time)

-- the state of a run after all its slots up to a time
abbrev pub state_after_slots : Machine → ℕ → State → List Move → State
state_after_slots machine time state [] = state
state_after_slots machine time state (Happens event ∷ moves) = state_after_slots machine time (after machine state event) moves
state_after_slots machine time state (Turns ∷ moves) =
    elim (turn_of state) [
      | None ↦ state
      | Some turn ↦ elim (stays_within time turn) [ true ↦ state_after_slots machine time (turned turn state) moves | false ↦ state ]
    ]

-- The grade of a fault

-- what a report says of a fault: the strobes' verdict, a race of one side, or a loop of the faulty machine
pub data FaultGrade : Type 0 where
  Judged : (verdict : Verdict) → FaultGrade
  Raced : (side : Side) (pair : ReportedPair) → FaultGrade
  Looped : (time : ℕ) → FaultGrade

-- the first slot that isn't fine: its time, and how it ends
pub record Stop : Type 0 where
  pub time : ℕ
  pub outcome : SlotOutcome

-- the first slot that isn't fine
abbrev pub first_stop : Machine → List FirstSlot → Option Stop
first_stop machine [] = None
first_stop machine (slot ∷ slots) =
    elim (slot_outcome machine slot) [
      | Fine ↦ first_stop machine slots
      | Race pair ↦ Some (record { time = slot.begins.time; outcome = Race pair })
      | Hyper ↦ Some (record { time = slot.begins.time; outcome = Hyper })
    ]

-- the time of a stop
abbrev pub stop_time : Option Stop → Option ℕ
stop_time None = None
stop_time (Some stop) = Some stop.time

-- whether a time isn't after another, if that is there
abbrev pub by_then : ℕ → Option ℕ → Bool
by_then time None = true
by_then time (Some other) = nat_le time other

-- a race of the good machine ends the grading; where it is hyperactive there is no grade
abbrev pub good_ending : SlotOutcome → Option FaultGrade
good_ending Fine = None
good_ending (Race pair) = Some (Raced Good pair)
good_ending Hyper = None

-- how a stop of the faulty machine ends the grading
abbrev pub faulty_ending : ℕ → SlotOutcome → Option FaultGrade
faulty_ending time Fine = None
faulty_ending time (Race pair) = Some (Raced Faulty pair)
faulty_ending time Hyper = Some (Looped time)

-- the good machine's ending, where its stop comes first
abbrev pub good_or : Bool → Stop → Option FaultGrade → Option FaultGrade
good_or true stop other = good_ending stop.outcome
good_or false stop other = other

-- the faulty machine's ending, where its stop comes first
abbrev pub faulty_or : Bool → Stop → Option FaultGrade → Option FaultGrade
faulty_or true stop other = faulty_ending stop.time stop.outcome
faulty_or false stop other = other

-- the grade where the good machine doesn't stop before the faulty one
abbrev pub graded_faulty : Option Stop → Option ℕ → Verdict → Option FaultGrade
graded_faulty None hard otherwise = Some (Judged otherwise)
graded_faulty (Some stop) hard otherwise = faulty_or (by_then stop.time hard) stop (Some (Judged otherwise))

-- what comes first: a stop of the good machine, else one of the faulty machine, else a hard strobe; at the end the verdict
abbrev pub graded : Option Stop → Option Stop → Option ℕ → Verdict → Option FaultGrade
graded None faulty hard otherwise = graded_faulty faulty hard otherwise
graded (Some stop) faulty hard otherwise =
    good_or (by_then stop.time (stop_time faulty) && by_then stop.time hard) stop (graded_faulty faulty hard otherwise)

-- the grade by the slots of both first runs
abbrev pub grade_of_runs : Machine → Machine → TestPlan → List FirstSlot → List FirstSlot → Option FaultGrade
grade_of_runs good faulty plan good_slots faulty_slots =
    graded (first_stop good good_slots) (first_stop faulty faulty_slots)
    (first_strobe is_hard (first_samples good plan.watched good_slots) (first_samples faulty plan.watched faulty_slots) plan.strobes)
    (verdict (first_samples good plan.watched good_slots) (first_samples faulty plan.watched faulty_slots) plan.strobes)

-- the grade of a fault, over both first runs, run apart
abbrev pub grade : FlatDesign → TestPlan → StuckAt → Option FaultGrade
grade design plan fault =
    grade_of_runs (good_machine design) (faulty_machine design fault) plan
    (first_run (good_machine design) plan.end) (first_run (faulty_machine design fault) plan.end)

-- The grade without the end that a hard strobe brings

-- the watched bits at one strobe
pub record Sample : Type 0 where
  pub time : ℕ
  pub bits : List Bit

-- how the grading ends by a race or a loop, if it does, and the faulty samples at the strobes before that
pub record FullGrade : Type 0 where
  pub end : Option FaultGrade
  pub samples : List Sample

-- the samples at some strobes
abbrev pub samples_at : Samples → List ℕ → List Sample
samples_at seen strobes = map (λ strobe. record { time = strobe; bits = seen strobe }) strobes

-- a full grade with an end at a time, and the samples before it
abbrev pub ended_in_full : ℕ → Option FaultGrade → Samples → List ℕ → FullGrade
ended_in_full time end seen strobes = record { end = end; samples = samples_at seen (filter (λ strobe. nat_lt strobe time) strobes) }

-- where the good machine is hyperactive there is no grade
abbrev pub ended_by_good : ℕ → Option FaultGrade → Samples → List ℕ → Option FullGrade
ended_by_good time None seen strobes = None
ended_by_good time (Some end) seen strobes = Some (ended_in_full time (Some end) seen strobes)

-- the full grade where the good machine doesn't stop before the faulty one
abbrev pub full_faulty : Option Stop → Samples → List ℕ → FullGrade
full_faulty None seen strobes = record { end = None; samples = samples_at seen strobes }
full_faulty (Some stop) seen strobes = ended_in_full stop.time (faulty_ending stop.time stop.outcome) seen strobes

-- the full grade by the first stops of both machines
abbrev pub full_of : Option Stop → Option Stop → Samples → List ℕ → Option FullGrade
full_of None faulty seen strobes = Some (full_faulty faulty seen strobes)
full_of (Some stop) faulty seen strobes =
    elim (by_then stop.time (stop_time faulty)) [
      | true ↦ ended_by_good stop.time (good_ending stop.outcome) seen strobes
      | false ↦ Some (full_faulty faulty seen strobes)
    ]

-- the full grade by the slots of both first runs
abbrev pub full_grade_of_runs : Machine → Machine → TestPlan → List FirstSlot → List FirstSlot → Option FullGrade
full_grade_of_runs good faulty plan good_slots faulty_slots =
    full_of (first_stop good good_slots) (first_stop faulty faulty_slots) (first_samples faulty plan.watched faulty_slots) plan.strobes

-- the full grade of a fault, over both first runs, run apart
abbrev pub full_grade : FlatDesign → TestPlan → StuckAt → Option FullGrade
full_grade design plan fault =
    full_grade_of_runs (good_machine design) (faulty_machine design fault) plan
    (first_run (good_machine design) plan.end) (first_run (faulty_machine design fault) plan.end)
