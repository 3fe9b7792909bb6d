-- The next block from a moment on, by the moments with which blocks begin and at which phases end (blocks and phases by IEEE 1364-2001, clause 5).
use Rattle.std.specs.Prelude.{◌≡◌, ◌⊎◌, ℕ, ◌<◌, ◌≤◌, true, false, List, Some, slice_get}
use Rattle.vf_base.specs.Lists.{has}
use Rattle.v_design.specs.Grades.{Phase}
use Rattle.causal_monitor.specs.declared.slot.Actor.{Actor}
use Rattle.slot_record.specs.Records.{event_of}
use Rattle.window_blocks.specs.Blocks.{events_of}

-- a block begins at a moment and ends before its phase's end or there, where the next one begins or the phase ends; this acts in its first event
pub record IsAhead (phases : List Phase) (moments : List ℕ) (phase_end moment end : ℕ) (actor : Actor) : Type 0 where
  pub some : moment < end
  pub within : end ≤ phase_end
  pub stops : (end ≡ phase_end) ⊎ (has moments end ≡ true)
  pub none : (other : ℕ) → moment < other → other < end → has moments other ≡ false
  pub acts : slice_get (events_of phases) moment ≡ Some (event_of actor)
