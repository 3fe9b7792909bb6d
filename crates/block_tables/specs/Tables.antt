-- Events that leave a copy alone, in the words of a window's tables (events by IEEE 1364-2001, clause 5; nonblocking updates by clause 9.2.2).
use Rattle.std.specs.Prelude.{◌≡◌, ℕ, List, is_some}
use Rattle.v_design.specs.Designs.{FlatDesign, StuckAt}
use Rattle.copy_laws.specs.Differences.{own_of}
use Rattle.trace_window.specs.Moments.{Seen}
use Rattle.copy_state.specs.Kept.{CopyKept}
use Rattle.copy_skip.specs.Limits.{AreThere}
use Rattle.block_skip.specs.Blocks.{AreProcesses, LeftAlone}
use Rattle.lockstep_slots.specs.Kept.{LockstepKept}
use Rattle.window_places.specs.Windows.{TablesLeave}

-- a copy keeps values of just the objects that have own ones in lockstep, and updates of just the processes that have own ones
pub record KeepsLikewise (copy : CopyKept) (kept : LockstepKept) : Type 0 where
  pub values : (object : ℕ) → is_some (kept.values object) ≡ is_some (own_of copy.values object)
  pub writes : (process : ℕ) → is_some (kept.writes process) ≡ is_some (own_of copy.updates process)

-- events that leave the copy alone leave what is kept alone
abbrev pub SearchesTellTables : Type 0
SearchesTellTables =
    (design : FlatDesign) (fault : StuckAt) (copy : CopyKept) (kept : LockstepKept) (events : List Seen) (first limit : ℕ) → AreThere design copy.values → AreProcesses design copy.updates →
    KeepsLikewise copy kept → LeftAlone design fault.site copy events first limit → TablesLeave design fault kept events first limit
