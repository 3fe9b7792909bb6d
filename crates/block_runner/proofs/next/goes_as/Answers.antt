-- In the midst of a run it is known to go so; else it begins as the process stands, or otherwise.
use Rattle.std.proofs.Common.{◌≡◌, ℕ, zero, suc, List, [], ◌∷◌, length, refl, arith}
use Rattle.v_design.specs.OwnSteps.{StepSeen}
use Rattle.block_runner.proofs.next.goes_as.Goals as goal

none-of : (steps : List StepSeen) → length steps ≡ 0 → steps ≡ []
none-of [] e = refl
none-of (seen ∷ steps) e = absurd (cc)

pub returns-clause-no : goal.returns-clause-no
returns-clause-no c = λ fails good run is.
    c.begins_as.ensures.no fails good run is.tells is.in_run (none-of run.steps (omega (arith, is.place_is, c.if-place-gt0.false)))
