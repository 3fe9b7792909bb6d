-- When no two accesses of a met object that are left conflict: nothing writes it from the first block of the faulty machine's own on that accesses it (conflicts by IEEE 1364-2001, clause 5).
use Rattle.std.specs.Prelude.{◌≡◌, ℕ, false, List, [], ◌∷◌, ◌++◌}
use Rattle.v_design.specs.Designs.{Machine}
use Rattle.v_design.specs.States.{State}
use Rattle.v_design.specs.Runs.{happened}
use Rattle.v_design.specs.Logs.{PhaseAccess, log_accesses, conflict}
use Rattle.v_design.specs.PhaseLogs.{log_of}
use Rattle.copy_laws.specs.Filter.{IsIn}
use Rattle.block_filter.specs.Likes.{Marks}
use Rattle.block_filter.specs.Blocks.{BlockPair, Alike, Unlike, faulty_phase}
use Rattle.block_filter.specs.Suffice.{AreLeft}
use Rattle.free_objects.specs.Stretches.{IsUnused, IsUnwritten}
use Rattle.free_objects.specs.FreeObjects.{is_wild_net}

-- the blocks with events of their own make no access of an object
abbrev pub UnlikesLeave : Machine → State → List BlockPair → ℕ → Type 0
UnlikesLeave machine state [] object = Unit {0}
UnlikesLeave machine state (Alike events ∷ blocks) object = UnlikesLeave machine (happened machine state events) blocks object
UnlikesLeave machine state (Unlike first good faulty ∷ blocks) object =
    IsUnused machine state (first ∷ faulty) object × UnlikesLeave machine (happened machine state (first ∷ faulty)) blocks object

-- two accesses that are left, of an object that isn't a wild net piece, don't conflict where the blocks up to some moment leave the object, and nothing behind them writes it
abbrev pub MetReadsAreFree : Type 0
MetReadsAreFree =
    (machine : Machine) (marks : Marks) (state : State) (before after : List BlockPair) (object : ℕ) →
    is_wild_net machine.design (log_of machine state (faulty_phase (before ++ after))) object ≡ false → UnlikesLeave machine state before object →
    IsUnwritten machine (happened machine state (faulty_phase before)) (faulty_phase after) object →
    (first second : PhaseAccess) → IsIn first (log_accesses machine.design (log_of machine state (faulty_phase (before ++ after)))) →
    IsIn second (log_accesses machine.design (log_of machine state (faulty_phase (before ++ after)))) → first.access.object ≡ object →
    AreLeft marks (before ++ after) first second → conflict (log_of machine state (faulty_phase (before ++ after))) first second ≡ false
