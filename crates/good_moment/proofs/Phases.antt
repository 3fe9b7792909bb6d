-- A phase more of a window fits among its phases (turns by IEEE 1364-2001, clauses 5.3 and 5.4).
use Rattle.std.proofs.Common.{◌≡◌, ℕ, ◌+◌, ◌<◌, length, ap, arith}
use Rattle.v_design.specs.Designs.{FlatDesign, TestPlan}
use Rattle.between_slots.specs.Between.{window_phases}
use Rattle.passed_blocks.specs.moment_laws.Passing.{HasTurn}
use Rattle.passed_blocks.specs.moment_laws.Places.{IsInWindow}
use Rattle.passed_blocks.specs.moment_laws.Shown.{MomentKept}
use Rattle.passed_blocks.specs.moment_laws.Turns.{TurnsAreShown}

pub phase-fits : TurnsAreShown → (design : FlatDesign) (plan : TestPlan) (before through count : ℕ) (kept old : MomentKept) → kept ≡ old → IsInWindow before through old → HasTurn design plan old →
    count ≡ length (window_phases design plan before through) → kept.phase + 1 < count
phase-fits law design plan before through count kept old same window turn is =
    let fits : old.phase + 1 < length (window_phases design plan old.before old.through) = law.fits design plan old turn in
    let own : length (window_phases design plan old.before old.through) ≡ length (window_phases design plan before through) =
    (λ i. length (window_phases design plan (window.before_is i) (window.through_is i))) in
    let phase : kept.phase ≡ old.phase = ap (λ (k : MomentKept). k.phase) same in
    omega (arith, fits, own, phase, is)
