-- When a net piece isn't wild in a phase: no change of the phase reaches it (paths of continuous assignments and gates by IEEE 1364-2001, clauses 6 and 7).
use Rattle.std.specs.Prelude.{◌≡◌, ◌&&◌, ℕ, Bool, false, List, nat_lt}
use Rattle.vf_base.specs.Lists.{has}
use Rattle.v_design.specs.Paths.{paths, net_pieces}
use Rattle.v_design.specs.Designs.{FlatDesign, Machine}
use Rattle.v_design.specs.States.{State, Event}
use Rattle.v_design.specs.Accesses.{AccessAct}
use Rattle.v_design.specs.Logs.{LoggedPhase, is_write}
use Rattle.v_design.specs.PhaseLogs.{log_of}
use Rattle.free_objects.specs.FreeObjects.{is_wild_net}
use Rattle.free_objects.specs.Stretches.{NonePasses}

-- whether an access writes an object from which paths lead to a net piece
abbrev pub reaches_by_write : FlatDesign → ℕ → ℕ → AccessAct → Bool
reaches_by_write design net object act = is_write act && nat_lt 0 (paths design object net)

-- no access of some events does: no change of them reaches the net piece
abbrev pub IsUnreached : Machine → State → List Event → ℕ → Type 0
IsUnreached machine state events net = NonePasses (reaches_by_write machine.design net) machine state events

-- The laws

-- so the net piece isn't wild there
abbrev pub UnreachedNetsAreNotWild : Type 0
UnreachedNetsAreNotWild =
    (machine : Machine) (state : State) (events : List Event) (net : ℕ) → IsUnreached machine state events net → is_wild_net machine.design (log_of machine state events) net ≡ false

-- and no other object is wild
abbrev pub VariablesAreNotWild : Type 0
VariablesAreNotWild = (design : FlatDesign) (log : LoggedPhase) (object : ℕ) → has (net_pieces design) object ≡ false → is_wild_net design log object ≡ false
