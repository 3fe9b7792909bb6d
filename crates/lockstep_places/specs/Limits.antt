-- Moments before which no event touches a copy, as what is kept in lockstep asks for them (events by IEEE 1364-2001, clause 5; nonblocking updates by clause 9.2.2).
use Rattle.std.specs.Prelude.{◌≡◌, ℕ, List, is_some}
use Rattle.v_design.specs.Designs.{FlatDesign, StuckAt}
use Rattle.copy_laws.specs.Differences.{own_of}
use Rattle.copy_state.specs.Kept.{CopyKept}
use Rattle.copy_skip.specs.Limits.{AreThere}
use Rattle.trace_window.specs.Moments.{Seen}
use Rattle.block_skip.specs.Blocks.{AreProcesses, LeftAlone}
use Rattle.lockstep_slots.specs.Kept.{LockstepKept}
use Rattle.window_places.specs.Windows.{TablesLeave}

-- what is kept in lockstep has the values of a copy, and own updates where the copy has
pub record IsKeptAs (copy : CopyKept) (kept : LockstepKept) : Type 0 where
  pub values : (object : ℕ) → kept.values object ≡ own_of copy.values object
  pub writes : (process : ℕ) → is_some (kept.writes process) ≡ is_some (own_of copy.updates process)

-- The law: what leaves a copy alone leaves that alone
abbrev pub LimitsTell : Type 0
LimitsTell =
    (design : FlatDesign) (fault : StuckAt) (copy : CopyKept) (kept : LockstepKept) (events : List Seen) (first limit : ℕ) → IsKeptAs copy kept → AreThere design copy.values →
    AreProcesses design copy.updates → LeftAlone design fault.site copy events first limit → TablesLeave design fault kept events first limit
