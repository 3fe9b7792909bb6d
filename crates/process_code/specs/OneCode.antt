-- Codes of one process are one: each reads a state as the other does (nothing of the language).
use Rattle.std.specs.Prelude.{◌≡◌, ◌↔◌, ℕ, List}
use Rattle.four_value.specs.Values.{LogicValue}
use Rattle.v_design.specs.Plain.{statement_of, process_of}
use Rattle.v_design.specs.Places.{PlacesDiffer}
use Rattle.process_code.specs.Codes.{IsCodeOf, rests_in_code}
use Rattle.process_code.specs.Points.{point_of, activity_of, said_by}
use Rattle.process_code.specs.RunEnds.{told_by}
use Rattle.process_code.specs.Sameness.{IsSamePoint}
use Rattle.process_code.specs.StatesOf.{IsStateOf, StepsAsDefined}
use Rattle.process_code.specs.declared.code.Code.{Code}
use Rattle.process_code.specs.declared.state.Did.{Did}
use Rattle.process_code.specs.declared.state.ProcState.{ProcState}
use Rattle.process_code.specs.declared.state.RunEnd.{RunEnd}
use Rattle.process_code.specs.declared.state.Stage.TheVariants.{Ready}

-- two codes are codes of one process, as the definition sees it
pub record AreCodesOfOne (one other : Code) : Type 0 where
  pub same : process_of one.process.now ≡ process_of other.process.now
  pub first : IsCodeOf one.process.now one
  pub second : IsCodeOf other.process.now other

-- one code has at each position what another has: a state does the same in both, a state of the one is a state of the other, a step of the one is a step of the other,
-- and the end of a run tells the same
pub record ReadsAlike (one other : Code) : Type 0 where
  pub rests : rests_in_code one ≡ rests_in_code other
  pub repeats : one.repeats ≡ other.repeats
  pub activity : (state : ProcState) → activity_of one state ≡ activity_of other state
  pub states : (state : ProcState) → IsStateOf one state → IsStateOf other state
  pub steps : (now : ℕ) (values : List LogicValue) (old new : ProcState) (did : Did) → StepsAsDefined now values one old new did → StepsAsDefined now values other old new did
  pub told : (run : RunEnd) → told_by one run ≡ told_by other run

-- codes of one process read each state alike
abbrev pub CodesReadAlike : Type 0
CodesReadAlike = (one other : Code) → AreCodesOfOne one other → ReadsAlike one other

-- a state of one code and a state of another do the same just where both stand at one point, if no two statements of the process stand at one place
abbrev pub CodesCompareAlike : Type 0
CodesCompareAlike =
    (one other : Code) (first second : ProcState) → AreCodesOfOne one other → PlacesDiffer (statement_of one.process.now.body) → IsStateOf one first → IsStateOf other second →
    (activity_of one first ≡ activity_of other second ↔ IsSamePoint (point_of first) (point_of second))

-- where a state of one code does what a state of another does, and is ready, a step over the same values says the same from both, and leaves both doing the same
abbrev pub CodesStepAlike : Type 0
CodesStepAlike =
    (one other : Code) (now : ℕ) (values : List LogicValue) (first first_after second second_after : ProcState) (did also : Did) → AreCodesOfOne one other →
    first.stage ≡ Ready → activity_of one first ≡ activity_of other second →
    StepsAsDefined now values one first first_after did → StepsAsDefined now values other second second_after also →
    (activity_of one first_after ≡ activity_of other second_after) × (said_by did ≡ said_by also)
