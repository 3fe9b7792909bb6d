-- The stages of each number and size (the generator is this program's own).
use Rattle.std.proofs.Common.{◌≡◌, ℕ, zero, suc, ◌+◌, ◌≤◌, length, map, ◌∙◌, arith}
use Rattle.std.specs.List.{range_with_len}
use Rattle.std.proofs.lemmas.List.{length-map}
use Rattle.std.proofs.lemmas.List.FromFn.{length-range_with_len}
use Rattle.vf_base.specs.Lists.{AllHold}
use Rattle.soak_text.specs.Soak.{stage_of, stages_of}
use Rattle.soak_tree.specs.Stages.{IsStage, StagesFit}

stages-good : (seed size a n : ℕ) → 1 ≤ size → size ≤ 4000 → a + n ≤ size → AllHold IsStage (map (stage_of seed size) (range_with_len a n))
stages-good seed size a zero low high within = tt
stages-good seed size a (suc n) low high within =
    (record { number = omega arith; left = omega arith; right = omega arith; first = omega arith }, stages-good seed size (a + 1) n low high (omega arith))

pub stages-are : (number size : ℕ) → 1 ≤ size → size ≤ 4000 → AllHold IsStage (stages_of number size)
stages-are number size low high = stages-good number size 0 size low high (omega arith)

pub stages-count : (number size : ℕ) → length (stages_of number size) ≡ size
stages-count number size = length-map (range_with_len 0 size) (stage_of number size) ∙ length-range_with_len 0 size

pub stages-fit : StagesFit
stages-fit number size low high = record { each = stages-are number size low high; count = stages-count number size }
