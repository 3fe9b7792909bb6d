-- Which runs end, by the events alone.
use Rattle.std.proofs.Common.{◌≡◌, List, [], ◌∷◌, ◌++◌, refl, sym, ap, subst, ◌∙◌, append_assoc}
use Rattle.v_design.specs.Designs.{Machine}
use Rattle.v_design.specs.States.{State, Event, Step, LaneStep, Evaluation, NetUpdate, after}
use Rattle.v_design.specs.Runs.{happened}
use Rattle.copy_laws.specs.Beside.{AreFirst}
use Rattle.run_ends.specs.RunEnds.{ender_if, enders_in}
use Rattle.phase_blocks.specs.Blocks.{IsBetweenRuns}
use Rattle.phase_blocks.proofs.Lists.{happened-append}
use Rattle.boundary_laws.specs.Ends.{steps_further, StepsTellEnds}
use Rattle.boundary_ends.specs.Enders.{last_steppers, EventsTellEnders}

-- behind some events
abbrev Tells : Machine → State → List Event → List Event → Type 0
Tells machine begins before behind =
    AreFirst machine begins (before ++ behind) → IsBetweenRuns machine begins (before ++ behind) → enders_in machine (happened machine begins before) behind ≡ last_steppers behind

enders-behind : StepsTellEnds → (machine : Machine) (begins : State) (before behind : List Event) → Tells machine begins before behind
enders-behind law machine begins before [] first between = refl
enders-behind law machine begins before (event ∷ behind) first between =
    go event first between
    (ap (λ s. enders_in machine s behind) (sym (happened-append machine begins before (event ∷ [])))
    ∙ enders-behind law machine begins (before ++ event ∷ []) behind (subst (AreFirst machine begins) (sym joined) first) (subst (IsBetweenRuns machine begins) (sym joined) between))
  where
    joined : (before ++ event ∷ []) ++ behind ≡ before ++ event ∷ behind
    joined = append_assoc before (event ∷ []) behind

    go : (event : Event) → AreFirst machine begins (before ++ event ∷ behind) → IsBetweenRuns machine begins (before ++ event ∷ behind) →
        enders_in machine (after machine (happened machine begins before) event) behind ≡ last_steppers behind → enders_in machine (happened machine begins before) (event ∷ behind) ≡ last_steppers
        (event ∷ behind)
    go (Step p) f b rest =
        ap (λ c. ender_if c p ++ enders_in machine (after machine (happened machine begins before) (Step p)) behind) (law machine begins before p behind f b)
        ∙ ap (λ l. ender_if (steps_further p behind) p ++ l) rest
    go (LaneStep p) f b rest = rest
    go (Evaluation node) f b rest = rest
    go (NetUpdate node) f b rest = rest

pub events_tell_enders : StepsTellEnds → EventsTellEnders
events_tell_enders law machine begins events first between = enders-behind law machine begins [] events first between
