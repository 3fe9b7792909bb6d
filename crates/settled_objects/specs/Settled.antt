-- When no two accesses of a met object that are left conflict, whatever the phase did to it before: from the first block of the faulty machine's own on that accesses it nothing writes it, and no change
-- reaches it (conflicts by IEEE 1364-2001, clause 5; continuous assignments and gates by clauses 6 and 7).
use Rattle.std.specs.Prelude.{◌≡◌, ℕ, Bool, false, List, [], ◌∷◌, ◌++◌, nat_eq}
use Rattle.v_design.specs.Designs.{Machine}
use Rattle.v_design.specs.States.{State}
use Rattle.v_design.specs.Runs.{happened}
use Rattle.v_design.specs.Accesses.{AccessAct}
use Rattle.v_design.specs.Logs.{PhaseAccess, log_accesses, conflict}
use Rattle.v_design.specs.PhaseLogs.{log_of}
use Rattle.copy_laws.specs.Filter.{IsIn}
use Rattle.block_filter.specs.Likes.{Marks}
use Rattle.block_filter.specs.Blocks.{BlockPair, Alike, Unlike, faulty_phase}
use Rattle.block_filter.specs.Suffice.{AreLeft}
use Rattle.free_objects.specs.Stretches.{NonePasses, IsUnwritten}
use Rattle.lockstep_race.specs.Nets.{reaches_by_write, IsUnreached}

-- no access of the blocks with events of their own passes a test of its object and its act
abbrev pub UnlikesPassNone : (ℕ → AccessAct → Bool) → Machine → State → List BlockPair → Type 0
UnlikesPassNone test machine state [] = Unit {0}
UnlikesPassNone test machine state (Alike events ∷ blocks) = UnlikesPassNone test machine (happened machine state events) blocks
UnlikesPassNone test machine state (Unlike first good faulty ∷ blocks) =
    NonePasses test machine state (first ∷ faulty) × UnlikesPassNone test machine (happened machine state (first ∷ faulty)) blocks

-- an object is settled from some blocks on: the blocks with events of their own before them leave it alone and reach it by no change, and nothing behind writes it or reaches it
pub record IsSettled (machine : Machine) (state : State) (before after : List BlockPair) (object : ℕ) : Type 0 where
  pub left : UnlikesPassNone (λ other act. nat_eq other object) machine state before
  pub apart : UnlikesPassNone (reaches_by_write machine.design object) machine state before
  pub unwritten : IsUnwritten machine (happened machine state (faulty_phase before)) (faulty_phase after) object
  pub unreached : IsUnreached machine (happened machine state (faulty_phase before)) (faulty_phase after) object

-- The law: two accesses that are left, of an object that is settled from some blocks on, don't conflict
abbrev pub SettledObjectsAreFree : Type 0
SettledObjectsAreFree =
    (machine : Machine) (marks : Marks) (state : State) (before after : List BlockPair) (object : ℕ) → IsSettled machine state before after object →
    (first second : PhaseAccess) → IsIn first (log_accesses machine.design (log_of machine state (faulty_phase (before ++ after)))) →
    IsIn second (log_accesses machine.design (log_of machine state (faulty_phase (before ++ after)))) → first.access.object ≡ object →
    AreLeft marks (before ++ after) first second → conflict (log_of machine state (faulty_phase (before ++ after))) first second ≡ false
