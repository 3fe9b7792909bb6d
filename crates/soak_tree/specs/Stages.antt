-- What the stages of the generated design keep (the generator is this program's own).
use Rattle.std.specs.Prelude.{◌≡◌, ℕ, ◌<◌, ◌≤◌, length}
use Rattle.vf_base.specs.Lists.{AllHold}
use Rattle.soak_text.specs.declared.draws.Stage.{Stage}
use Rattle.soak_text.specs.Soak.{stages_of}

-- a stage whose numbers are written out
pub record IsStage (stage : Stage) : Type 0 where
  pub number : stage.number < 4000
  pub left : stage.left < 4000
  pub right : stage.right < 4000
  pub first : stage.first < 2

-- the stages of each number and size are as many as the size says, and their numbers are written out
pub record AreStages (number size : ℕ) : Type 0 where
  pub each : AllHold IsStage (stages_of number size)
  pub count : length (stages_of number size) ≡ size

abbrev pub StagesFit : Type 0
StagesFit = (number size : ℕ) → 1 ≤ size → size ≤ 4000 → AreStages number size
