-- Faults that go through a phase beside one another, over one room (phases and blocks by IEEE 1364-2001, clause 5).
use Rattle.std.specs.Prelude.{◌≡◌, ℕ, ◌+◌, ◌<◌, ◌≤◌, List, length, true, false, if◌then◌else◌, min}
use Rattle.std.specs.List.{AllZip}
use Rattle.vf_base.specs.Lists.{AllHold}
use Rattle.v_design.specs.Designs.{FlatDesign, StuckAt, TestPlan}
use Rattle.v_design.specs.Plain.{fault_of, site_of}
use Rattle.v_design.specs.Runs.{FirstSlot}
use Rattle.v_design.specs.States.{State}
use Rattle.machine_laws.specs.SlotLoop.{Moment}
use Rattle.trace_window.specs.Moments.{window_events}
use Rattle.slot_laws.specs.block_events.declared.runner.Runner.{Runner}
use Rattle.block_filter.specs.Blocks.{BlockPair}
use Rattle.slot_laws.specs.block_skip.Blocks.{AreProcesses, LeftAlone}
use Rattle.slot_laws.specs.copy_skip.Limits.{AreThere, SiteIsThere}
use Rattle.slot_laws.specs.lockstep_block.Blocks.{FaultGoes, TriedInSlot}
use Rattle.slot_laws.specs.lockstep_block.Own.{MayRunOwn}
use Rattle.slot_laws.specs.lockstep_block.Rooms.{IsRunnerAt}
use Rattle.slot_laws.specs.lockstep_copy.declared.own.LockstepCopy.{LockstepCopy}
use Rattle.slot_laws.specs.lockstep_filter.Phases.{IsPhaseNoted}
use Rattle.slot_laws.specs.lockstep_notes.Notes.{marks_of}
use Rattle.slot_laws.specs.lockstep_room.declared.counts.Counts.{Counts}
use Rattle.slot_laws.specs.lockstep_room.Rooms.{AreCounts}
use Rattle.slot_laws.specs.lockstep_slots.Pairs.{LeavesNoConflict}
use Rattle.slot_laws.specs.lockstep_slots.Places.{Place, behind_events}
use Rattle.slot_laws.specs.moment_laws.Places.{IsShownAt}
use Rattle.slot_laws.specs.moment_laws.Shown.{MomentKept}
use Rattle.slot_laws.specs.Slots.{HasComeOn, IsRoomIn, IsStop, KeepsRest, PhaseEndsAt, PhaseIsThrough, SlotGoesOn, SlotMayGoOn, further}
use Rattle.phase_faults.specs.declared.beside.FaultBeside.{FaultBeside}

-- A room and faults beside it

-- a room is at some place
pub record IsRoomSomewhere (design : FlatDesign) (plan : TestPlan) (from until : ℕ) (runner : Runner) (before behind : MomentKept) : Type 0 where
  pub number : ℕ
  pub place : Place
  pub room : IsRoomIn design plan from until number place runner before behind

-- how many process steps a fault took itself in its slot so far
abbrev pub ticked_of : FaultBeside → ℕ
ticked_of each = length each.one.tried.items

-- a fault's site is one of the design
abbrev pub HasSite : FlatDesign → FaultBeside → Type 0
HasSite design each = SiteIsThere design (site_of each.fault.site)

-- a fault that still goes may go on at the room's place
abbrev pub MayGoOnIf : FlatDesign → TestPlan → ℕ → ℕ → Runner → MomentKept → MomentKept → FaultBeside → Type 0
MayGoOnIf design plan from until runner before behind each =
    each.goes ≡ true → SlotMayGoOn design plan (fault_of each.fault) from until runner before behind each.one.notes each.one.own each.one.spare each.one.tried.items each.one.apart.items

-- what is kept of it is of objects and processes that are there
pub record IsThere (design : FlatDesign) (own : LockstepCopy) : Type 0 where
  pub objects : AreThere design own.copy.values
  pub processes : AreProcesses design own.copy.updates

abbrev pub IsThereIf : FlatDesign → FaultBeside → Type 0
IsThereIf design each = each.goes ≡ true → IsThere design each.one.own

-- of a fault that still goes the fault and what of its copy stays stay, and it went on before; one that didn't go took no more steps
pub record StaysBeside (old new : FaultBeside) : Type 0 where
  pub fault : new.fault ≡ old.fault
  pub before : new.goes ≡ true → old.goes ≡ true
  pub rest : new.goes ≡ true → KeepsRest old.one.own new.one.own
  pub left : old.goes ≡ false → new.one.tried.items ≡ old.one.tried.items

-- and it came to the phase's end, which has no race in the faulty machine; if not, the steps that it took itself are those of some moment of its slot
pub record ComesThroughPhase (design : FlatDesign) (plan : TestPlan) (from until : ℕ) (runner : Runner) (before behind : MomentKept) (runner_new : Runner) (before_new behind_new : MomentKept)
    (old new : FaultBeside) : Type 0 where
  pub stays : StaysBeside old new
  pub through : new.goes ≡ true → (number : ℕ) (slot : FirstSlot) (begins : State) (place : Place) →
      SlotGoesOn design plan (fault_of old.fault) slot begins from until number place runner before behind old.one.notes old.one.own old.one.spare old.one.tried.items old.one.apart.items →
      PhaseIsThrough design plan (fault_of old.fault) slot begins from until number place runner_new before_new behind_new new.one.notes new.one.own new.one.spare new.one.tried.items
      new.one.apart.items
  pub most : old.goes ≡ true → (number : ℕ) (slot : FirstSlot) (begins : State) (place : Place) →
      SlotGoesOn design plan (fault_of old.fault) slot begins from until number place runner before behind old.one.notes old.one.own old.one.spare old.one.tried.items old.one.apart.items →
      TriedInSlot design (fault_of old.fault) slot begins new.one.tried.items

-- Looking ahead

-- from a moment of a phase on, up to its stop, events leave alone what is kept of a fault
pub record IsAhead (design : FlatDesign) (plan : TestPlan) (from until : ℕ) (moments : List ℕ) (moment end : ℕ) (each : FaultBeside) : Type 0 where
  pub stop : IsStop moments moment end each.until
  pub alone : LeftAlone design (site_of each.fault.site) each.one.own.copy (window_events design plan from until) moment each.until

abbrev pub IsAheadIf : FlatDesign → TestPlan → ℕ → ℕ → List ℕ → ℕ → ℕ → FaultBeside → Type 0
IsAheadIf design plan from until moments moment end each = each.goes ≡ true → IsAhead design plan from until moments moment end each

-- only the stop of a fault changed, and is ahead now
pub record LooksAhead (design : FlatDesign) (plan : TestPlan) (from until : ℕ) (moments : List ℕ) (moment end : ℕ) (old new : FaultBeside) : Type 0 where
  pub same : new ≡ record { fault = old.fault; one = old.one; until = new.until; goes = old.goes }
  pub ahead : IsAheadIf design plan from until moments moment end new

-- the stop of a fault in a phase that ends with a moment; one that goes no longer has none before the end
abbrev pub stop_of : ℕ → FaultBeside → ℕ
stop_of end each = if each.goes then each.until else end

-- the sooner one of two moments
abbrev pub sooner : ℕ → ℕ → ℕ
sooner least stop = min stop least

-- the sooner one of a moment and the stop of a fault that still goes
abbrev pub sooner_of : ℕ → FaultBeside → ℕ
sooner_of least each = if each.goes then min each.until least else least

-- A block

-- a fault that still goes, and whose stop isn't ahead, took a block of its own
pub record TakesOwn (design : FlatDesign) (plan : TestPlan) (from until : ℕ) (moments : List ℕ) (end : ℕ) (runner : Runner) (before behind : MomentKept) (counts : Counts)
    (old new : FaultBeside) : Type 0 where
  pub stays : StaysBeside old new
  pub late : before.moment < old.until → new ≡ old
  pub took : old.until ≤ before.moment → new.goes ≡ true →
      (of : MayRunOwn design plan (fault_of old.fault) from until runner before behind counts old.one.notes old.one.own old.one.spare old.one.tried.items old.one.apart.items) →
      FaultGoes design plan (fault_of old.fault) of.slot of.begins from until behind.moment (behind_events of.block of.rest of.place) new.one.notes new.one.own new.one.spare
      new.one.tried.items new.one.apart.items
  pub most : old.until ≤ before.moment → old.goes ≡ true →
      (of : MayRunOwn design plan (fault_of old.fault) from until runner before behind counts old.one.notes old.one.own old.one.spare old.one.tried.items old.one.apart.items) →
      TriedInSlot design (fault_of old.fault) of.slot of.begins new.one.tried.items
  pub ahead : old.until ≤ before.moment → IsAheadIf design plan from until moments behind.moment end new

-- a room stays before a block: its runner is again wherever it was
pub record RoomWaits (design : FlatDesign) (plan : TestPlan) (time : ℕ) (runner : Runner) (before behind : MomentKept) (counts : Counts) (runner_new : Runner) (before_new behind_new : MomentKept)
    (counts_new : Counts) : Type 0 where
  pub before_is : before_new ≡ before
  pub behind_is : behind_new ≡ behind
  pub counts_is : counts_new ≡ counts
  pub runs : (place : Place) → IsShownAt design plan place before → before.time ≡ time → IsRunnerAt design place runner → IsRunnerAt design place runner_new

-- On in the phase

-- a fault that still goes may go on at a place of the room in the phase that ends with a moment
pub record PhaseGoesOn (design : FlatDesign) (plan : TestPlan) (from until end : ℕ) (runner : Runner) (before behind : MomentKept) (each : FaultBeside) : Type 0 where
  pub may : SlotMayGoOn design plan (fault_of each.fault) from until runner before behind each.one.notes each.one.own each.one.spare each.one.tried.items each.one.apart.items
  pub ends : PhaseEndsAt before.moment may.place end

abbrev pub PhaseGoesOnIf : FlatDesign → TestPlan → ℕ → ℕ → ℕ → Runner → MomentKept → MomentKept → FaultBeside → Type 0
PhaseGoesOnIf design plan from until end runner before behind each = each.goes ≡ true → PhaseGoesOn design plan from until end runner before behind each

-- room and faults may go on in the phase
pub record FaultsMayGo (design : FlatDesign) (plan : TestPlan) (from until time : ℕ) (moments : List ℕ) (end : ℕ) (runner : Runner) (before behind : MomentKept) (counts : Counts)
    (faults : List FaultBeside) : Type 0 where
  pub at : IsRoomSomewhere design plan from until runner before behind
  pub ends : PhaseEndsAt before.moment at.place end
  pub time_is : before.time ≡ time
  pub counts_are : AreCounts design counts
  pub sites : AllHold (HasSite design) faults
  pub go : AllHold (PhaseGoesOnIf design plan from until end runner before behind) faults
  pub ahead : AllHold (IsAheadIf design plan from until moments before.moment end) faults

-- so far the room has come
pub record RoomHasCome (design : FlatDesign) (plan : TestPlan) (from until number : ℕ) (place : Place) (moment : ℕ) (runner : Runner) (before behind : MomentKept) : Type 0 where
  pub count : ℕ
  pub within : count ≤ length place.left
  pub moment_is : before.moment ≡ moment + count
  pub room : IsRoomIn design plan from until number (further count place) runner before behind

-- and a fault with it
pub record HasComeBeside (design : FlatDesign) (plan : TestPlan) (from until : ℕ) (moments : List ℕ) (end : ℕ) (runner : Runner) (before behind : MomentKept) (runner_new : Runner)
    (before_new behind_new : MomentKept) (old new : FaultBeside) : Type 0 where
  pub stays : StaysBeside old new
  pub come : new.goes ≡ true → (number : ℕ) (slot : FirstSlot) (begins : State) (place : Place) →
      SlotGoesOn design plan (fault_of old.fault) slot begins from until number place runner before behind old.one.notes old.one.own old.one.spare old.one.tried.items old.one.apart.items →
      PhaseEndsAt before.moment place end →
      HasComeOn design plan (fault_of old.fault) slot begins from until number place before.moment runner_new before_new behind_new new.one.notes new.one.own new.one.spare
      new.one.tried.items new.one.apart.items
  pub most : old.goes ≡ true → (number : ℕ) (slot : FirstSlot) (begins : State) (place : Place) →
      SlotGoesOn design plan (fault_of old.fault) slot begins from until number place runner before behind old.one.notes old.one.own old.one.spare old.one.tried.items old.one.apart.items →
      PhaseEndsAt before.moment place end → TriedInSlot design (fault_of old.fault) slot begins old.one.tried.items → TriedInSlot design (fault_of old.fault) slot begins new.one.tried.items
  pub ahead : IsAheadIf design plan from until moments before_new.moment end new

-- room and faults have
pub record HaveGoneOn (design : FlatDesign) (plan : TestPlan) (from until : ℕ) (moments : List ℕ) (end : ℕ) (runner : Runner) (before behind : MomentKept) (counts : Counts)
    (faults : List FaultBeside) (runner_new : Runner) (before_new behind_new : MomentKept) (counts_new : Counts) (faults_new : List FaultBeside) : Type 0 where
  pub room : (number : ℕ) (place : Place) → IsRoomIn design plan from until number place runner before behind → PhaseEndsAt before.moment place end →
      RoomHasCome design plan from until number place before.moment runner_new before_new behind_new
  pub counts_is : counts_new ≡ counts
  pub each : AllZip (HasComeBeside design plan from until moments end runner before behind runner_new before_new behind_new) faults faults_new

-- The end of the phase

-- the filter was asked of a fault
pub record AsksFilter (design : FlatDesign) (plan : TestPlan) (from until end : ℕ) (old new : FaultBeside) : Type 0 where
  pub same : new ≡ record { fault = old.fault; one = old.one; until = old.until; goes = new.goes }
  pub before : new.goes ≡ true → old.goes ≡ true
  pub free : new.goes ≡ true → (fault : StuckAt) (place : Place) (own : Moment) (pairs : List BlockPair) → IsPhaseNoted design plan fault from until end place own pairs new.one.notes →
      LeavesNoConflict design fault (marks_of design new.one.notes) own.phase_begins pairs
