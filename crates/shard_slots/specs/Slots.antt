-- The faults of a shard at a slot of a window (strobes by the plan; slots by IEEE 1364-2001, clause 5).
use Rattle.std.specs.Prelude.{◌≡◌, ◌⊎◌, ℕ, ◌+◌, ◌<◌, ◌≤◌, Bool, true, List, [], ◌∷◌, length, map, Option, None, Some, is_some, slice_get}
use Rattle.v_design.specs.Designs.{FlatDesign, StuckAt, TestPlan}
use Rattle.v_design.specs.Plain.{fault_of}
use Rattle.v_design.specs.Runs.{FirstSlot}
use Rattle.copy_laws.specs.Windows.{good_slots}
use Rattle.copy_lockstep.specs.copy_window.declared.fault.ShardFault.{ShardFault}
use Rattle.copy_lockstep.specs.lockstep_block.Blocks.{TriedInSlot}
use Rattle.copy_lockstep.specs.lockstep_copies.Copies.{IsCopyInLockstep}
use Rattle.copy_lockstep.specs.slot_laws.Copies.{MayBeginSlot, lockstep_differences}
use Rattle.copy_state.specs.Kept.{CopyKept}
use Rattle.good_runs.specs.declared.tried.TriedStep.{TriedStep}
use Rattle.copy_lockstep.specs.phase_faults.declared.beside.FaultBeside.{FaultBeside}
use Rattle.copy_lockstep.specs.lockstep_slot.Beside.{BeginsSlot}
use Rattle.copy_lockstep.specs.Entered.{EntersSlot}
use Rattle.copy_lockstep.specs.Stops.{NoStopThrough}
use Rattle.copy_lockstep.specs.window_faults.Within.{IsWithin}
use Rattle.copy_lockstep.specs.window_faults.declared.at.FaultAt.{FaultAt}

-- whether a fault goes in a slot in lockstep
abbrev pub goes_beside : FaultBeside → Bool
goes_beside beside = beside.goes

-- a fault enters a slot behind others, where it was in lockstep, or the first slot
abbrev pub EntersAt : FlatDesign → TestPlan → StuckAt → ℕ → ShardFault → FaultAt → Type 0
EntersAt design plan fault gone own at = EntersSlot design plan fault gone at.passed own at.seen at.possible ⊎ (gone ≡ 0)

-- a fault goes in the slot of a number of a window beside others: it has come to it, it isn't the good machine's stop, and so many strobes were seen before it
pub record GoesBeside (design : FlatDesign) (plan : TestPlan) (before slot : ℕ) (own : ShardFault) (at : FaultAt) (beside : FaultBeside) : Type 0 where
  pub slot_is : at.slot ≡ slot
  pub fine : NoStopThrough design plan (before + slot + 1)
  pub none : own.end ≡ None
  pub enters : EntersAt design plan (fault_of beside.fault) (before + slot) own at
  pub place : beside.one.own.copy.fault ≡ own.copy.fault
  pub states : beside.one.own.copy.states ≡ []

-- a fault before a slot: it has come to the slot, unless its grading ended; it took no own step in the slot so far; and where it enters it in lockstep, it may go through it
pub record Enters (design : FlatDesign) (plan : TestPlan) (before through slot : ℕ) (own : ShardFault) (at : FaultAt) (beside : FaultBeside) : Type 0 where
  pub within : IsWithin design plan before through own at
  pub come : own.end ≡ None → slot ≤ at.slot
  pub listed : slice_get plan.faults own.copy.fault ≡ Some (fault_of beside.fault)
  pub tried : beside.one.tried.items ≡ []
  pub goes : beside.goes ≡ true → GoesBeside design plan before slot own at beside
  pub begins : beside.goes ≡ true → BeginsSlot design plan (fault_of beside.fault) before through slot beside.one

-- a fault of which nothing was found entered a slot behind so many, and took these own steps there
pub record TookOwn (design : FlatDesign) (plan : TestPlan) (fault : StuckAt) (gone : ℕ) (own : ShardFault) (at : FaultAt) (tried : List TriedStep) : Type 0 where
  pub copy : CopyKept
  pub none : own.end ≡ None
  pub enters : EntersAt design plan fault gone own at
  pub may : MayBeginSlot design plan fault gone copy
  pub in_slot : TriedInSlot design fault may.slot may.begins tried

-- a fault behind a slot that others went through beside it: where it went through it in lockstep, what is kept of it stands in lockstep behind the slot; where it took own steps, it
-- had entered the slot
pub record WentThrough (design : FlatDesign) (plan : TestPlan) (before through slot : ℕ) (own : ShardFault) (at : FaultAt) (beside : FaultBeside) : Type 0 where
  pub within : IsWithin design plan before through own at
  pub come : own.end ≡ None → slot ≤ at.slot
  pub listed : slice_get plan.faults own.copy.fault ≡ Some (fault_of beside.fault)
  pub tried : (beside.one.tried.items ≡ []) ⊎ ((at.slot ≡ slot) × TookOwn design plan (fault_of beside.fault) (before + slot) own at beside.one.tried.items)
  pub goes : beside.goes ≡ true → GoesBeside design plan before slot own at beside
  pub through_it : beside.goes ≡ true → (first : FirstSlot) → slice_get (good_slots design plan) (before + slot) ≡ Some first →
      IsCopyInLockstep design plan (fault_of beside.fault) (before + slot) first.begins.time (lockstep_differences beside.one.own.copy)

-- a fault rests before a slot of a window that isn't the first one: it doesn't go through it in lockstep
pub record Rests (design : FlatDesign) (plan : TestPlan) (before through slot : ℕ) (own : ShardFault) (at : FaultAt) : Type 0 where
  pub later : 0 < before
  pub within : IsWithin design plan before through own at
  pub come : own.end ≡ None → slot ≤ at.slot

-- a fault before a slot with what goes on of it there, if it enters it, and behind the slot
abbrev pub EntersIf : FlatDesign → TestPlan → ℕ → ℕ → ℕ → ShardFault → FaultAt → Option FaultBeside → Type 0
EntersIf design plan before through slot own at None = Rests design plan before through slot own at
EntersIf design plan before through slot own at (Some beside) = Enters design plan before through slot own at beside

abbrev pub WentIf : FlatDesign → TestPlan → ℕ → ℕ → ℕ → ShardFault → FaultAt → Option FaultBeside → Type 0
WentIf design plan before through slot own at None = Rests design plan before through slot own at
WentIf design plan before through slot own at (Some beside) = WentThrough design plan before through slot own at beside

-- how many own steps were tried of a fault that may have entered a slot
abbrev pub tried_if : Option FaultBeside → ℕ
tried_if None = 0
tried_if (Some beside) = length beside.one.tried.items

-- so it is of all faults with what goes on of them in a slot, one by one
pub record AreBeside {C : Type 0} (R : ShardFault → FaultAt → C → Type 0) (faults : List ShardFault) (ats : List FaultAt) (besides : List C) : Type 0 where
  pub count : length ats ≡ length faults
  pub beside : length besides ≡ length faults
  pub each : (place : ℕ) (own : ShardFault) (at : FaultAt) (beside : C) → slice_get faults place ≡ Some own → slice_get ats place ≡ Some at →
      slice_get besides place ≡ Some beside → R own at beside

-- those of some that are there
abbrev pub somes : {C : Type 0} → List (Option C) → List C
somes [] = []
somes (None ∷ founds) = somes founds
somes (Some one ∷ founds) = one ∷ somes founds

-- of each fault it is told whether it entered a slot, and those that did have what goes on of them in one list
pub record AreEntrants (R : ShardFault → FaultAt → Option FaultBeside → Type 0) (faults : List ShardFault) (ats : List FaultAt) (entered : List Bool) (besides : List FaultBeside) : Type 0 where
  pub founds : List (Option FaultBeside)
  pub are : AreBeside R faults ats founds
  pub entered_are : entered ≡ map is_some founds
  pub besides_are : besides ≡ somes founds

abbrev pub AllEntered : FlatDesign → TestPlan → ℕ → ℕ → ℕ → List ShardFault → List FaultAt → List FaultBeside → Type 0
AllEntered design plan before through slot = AreBeside (Enters design plan before through slot)

abbrev pub HaveEntered : FlatDesign → TestPlan → ℕ → ℕ → ℕ → List ShardFault → List FaultAt → List Bool → List FaultBeside → Type 0
HaveEntered design plan before through slot = AreEntrants (EntersIf design plan before through slot)

abbrev pub HaveGone : FlatDesign → TestPlan → ℕ → ℕ → ℕ → List ShardFault → List FaultAt → List Bool → List FaultBeside → Type 0
HaveGone design plan before through slot = AreEntrants (WentIf design plan before through slot)

-- a fault before the first slot enters it: what goes on of it there, if it goes, may go through the slot
pub record EntersFirst (design : FlatDesign) (plan : TestPlan) (through : ℕ) (own : ShardFault) (beside : FaultBeside) : Type 0 where
  pub listed : slice_get plan.faults own.copy.fault ≡ Some (fault_of beside.fault)
  pub tried : beside.one.tried.items ≡ []
  pub place : beside.goes ≡ true → beside.one.own.copy.fault ≡ own.copy.fault
  pub states : beside.goes ≡ true → beside.one.own.copy.states ≡ []
  pub begins : beside.goes ≡ true → BeginsSlot design plan (fault_of beside.fault) 0 through 0 beside.one

-- so does each of some faults
pub record HaveEnteredFirst (design : FlatDesign) (plan : TestPlan) (through : ℕ) (faults : List ShardFault) (besides : List FaultBeside) : Type 0 where
  pub beside : length besides ≡ length faults
  pub each : (place : ℕ) (own : ShardFault) (one : FaultBeside) → slice_get faults place ≡ Some own → slice_get besides place ≡ Some one → EntersFirst design plan through own one
