-- Behind a block no process that took a step in it is ready.
use Rattle.std.proofs.Common.{◌≡◌, ℕ, List, true, false, arith}
use Rattle.std.proofs.lemmas.Bool.{eqb-true, le-leb}
use Rattle.v_design.specs.Designs.{Machine}
use Rattle.v_design.specs.States.{State, Event, Step, LaneStep, Evaluation, NetUpdate, process_at, is_ready, some_in}
use Rattle.v_design.specs.Runs.{happened}
use Rattle.v_design.specs.PhaseLogs.{is_step_of}
use Rattle.phase_blocks.specs.Blocks.{IsWholeBlock, is_step_from}
use Rattle.phase_blocks.proofs.Lists.{some-weaker}
use Rattle.phase_blocks.proofs.Going.{RunLaws}
use Rattle.phase_blocks.proofs.Kept.{follows-order}

step-from : (p : ℕ) (event : Event) → is_step_of p event ≡ true → is_step_from p event ≡ true
step-from p (Step q) e = let same : p ≡ q = eqb-true p q e in le-leb p q (omega (arith, same))
step-from p (LaneStep q) e = cc
step-from p (Evaluation node) e = cc
step-from p (NetUpdate node) e = cc

pub stepped-rest : RunLaws → (machine : Machine) (begins : State) (events : List Event) (p : ℕ) → IsWholeBlock machine begins events → some_in (is_step_of p) events ≡ true →
    is_ready (process_at (happened machine begins events) p).activity ≡ false
stepped-rest laws machine begins events p whole steps =
    ((follows-order laws machine begins events whole.first).rests p (some-weaker (is_step_of p) (is_step_from p) events (step-from p) steps) (λ q h. whole.ends.runs q)).1 p (omega arith)
