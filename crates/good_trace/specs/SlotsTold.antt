-- What a window tells of its slots (slots and phases by IEEE 1364-2001, clause 5).
use Rattle.std.specs.Prelude.{◌≡◌, ℕ, ◌+◌, false, List, length, nat_eq}
use Rattle.vf_base.specs.Base.{object_number}
use Rattle.vf_base.specs.Lists.{joined, map_numbered, AllHold}
use Rattle.v_design.specs.Accesses.{ObjectAccess}
use Rattle.v_design.specs.Designs.{FlatDesign, Machine, TestPlan, good_machine}
use Rattle.run_ends.specs.RunEnds.{Ender, phase_enders}
use Rattle.between_slots.specs.Between.{window_phases}
use Rattle.trace_window.specs.declared.change.Change.{Change}
use Rattle.trace_window.specs.Listed.{AreListed}
use Rattle.trace_window.specs.Moments.{Seen}
use Rattle.trace_window.specs.Writes.{Written, writes_from}

-- some writes are those of some events, the first of which has a number
pub record AreWritesOf (machine : Machine) (seen : List Seen) (number : ℕ) (writes : List Written) : Type 0 where
  pub accesses : List (List ObjectAccess)
  pub listed : AreListed machine seen accesses
  pub are : writes ≡ writes_from number accesses

-- none of some changes is of an object
abbrev pub IsUnwritten : ℕ → List Change → Type 0
IsUnwritten object changes = AllHold (λ (change : Change). nat_eq (object_number change.object) object ≡ false) changes

-- the runs that end in the slot of a number, each by its process and phase, where the phases are numbered through from the first slot of a window on
abbrev pub slot_run_ends : FlatDesign → TestPlan → ℕ → ℕ → List Ender
slot_run_ends design plan before number =
    joined (map_numbered (phase_enders (good_machine design)) (length (window_phases design plan before number) + 1) (window_phases design plan number (number + 1)))
