-- Processes between runs.
use Rattle.std.proofs.Common.{true}
use Rattle.std.specs.Prelude.{◌≡◌, false}
use Rattle.v_design.specs.States.{process_at, is_ready}
use Rattle.v_design.specs.Runs.{happened}
use Rattle.v_design.specs.PhaseLogs.{is_step_of}
use Rattle.between_slots.specs.Between.{SlotsLeave}
use Rattle.phase_blocks.specs.Blocks.{is_step_from}
use Rattle.phase_blocks.proofs.Lists.{some-weaker}
use Rattle.phase_blocks.proofs.Going.{RunLaws}
use Rattle.block_changes.specs.Changes.{steps_process}
use Rattle.block_states.proofs.Woken.{stays-so, becomes-ready}
use Rattle.block_states.proofs.Left.{runs-leave}
use Rattle.boundary_laws.specs.Boundaries.{ProcessAtBoundary, LesserRest}
use Rattle.boundary_laws.proofs.Steps.{own-from, rests-below}

pub process_at_boundary : RunLaws → SlotsLeave → ProcessAtBoundary
process_at_boundary laws law machine begins before p first between = record {
  stepped = λ steps. (rests steps, runs-leave law machine begins before p (rests steps));
  stays = λ steps waits. stays-so machine begins before p steps waits;
  woken = λ steps waits. becomes-ready machine begins before p steps waits;
}
  where
    rests : steps_process before p ≡ true → is_ready (process_at (happened machine begins before) p).activity ≡ false
    rests steps = rests-below laws machine begins before p first between (some-weaker (is_step_of p) (is_step_from p) before (own-from p) steps)

pub lesser_rest : RunLaws → LesserRest
lesser_rest laws machine begins before p first between some = rests-below laws machine begins before p first between some
