use Rattle.machine_laws.specs.StepTells.{write-step-told, quiet-step-told, lane-told}
use Rattle.machine_laws.proofs.steps_tell.Goals as goal

pub returns : goal.returns
returns c = record { writes = write-step-told; quiet = quiet-step-told; lanes = lane-told }
