-- What the steps of a run tell, place by place.
use Rattle.std.proofs.Common.{◌≡◌, ℕ, ◌+◌, ◌<◌, List, [], ◌∷◌, ◌++◌, length, map, refl, sym, ap, subst, ◌∙◌}
use Rattle.std.specs.Prelude.{Option, Some, None, slice_get}
use Rattle.std.specs.List.{All}
use Rattle.std.specs.Option.{option_map}
use Rattle.std.proofs.lemmas.Option.{get_or_from_slice_get, slice_get-map, slice_get_within}
use Rattle.v_design.specs.Designs.{FlatProcess, Machine}
use Rattle.v_design.specs.Processes.{Activity, Ready, Waiting, Asleep, Postponed, Done, Action, ReadsObject, WritesObject, AppendsUpdate, TouchesNothing}
use Rattle.v_design.specs.States.{State, activity_step, source_at}
use Rattle.v_design.specs.OwnSteps.{StepSeen, value_read}
use Rattle.process_code.specs.RunEnds.{StepTold, act_of}
use Rattle.run_ends.specs.RunEnds.{step_told, steps_told}
use Rattle.copy_laws.specs.SharedRuns.{AreStepsFrom, activity_after, activity_at_end, step_from}
use Rattle.known_steps.specs.Known.{read_now}

-- Lists

pub all-at : {A : Type 0} (P : A → Type 0) (xs : List A) (n : ℕ) (x : A) → All P xs → slice_get xs n ≡ Some x → P x
all-at P xs n x all is = subst P (get_or_from_slice_get xs n x x is) (all n x (slice_get_within xs n x is))

-- Texts

-- the step of a process is that of its text
pub text-step : (machine : Machine) (state : State) (process : ℕ) (activity : Activity) → activity_step machine state process activity ≡ step_from (source_at machine process) state.time activity
text-step machine state process (Ready tasks operands) = refl
text-step machine state process (Waiting place entries tasks) = refl
text-step machine state process (Asleep wakes tasks) = refl
text-step machine state process (Postponed tasks) = refl
text-step machine state process Done = refl

-- what a step reads, as it is told
pub read-told : (state : State) (time : ℕ) (action : Action) → read_now state.values (act_of time action) ≡ value_read state action
read-told state time (ReadsObject object) = refl
read-told state time (WritesObject update) = refl
read-told state time (AppendsUpdate delay update) = refl
read-told state time TouchesNothing = refl

-- Steps one behind the other

-- what the last step leaves the process doing
pub end-push : (activity : Activity) (prior : List StepSeen) (seen : StepSeen) → activity_at_end activity (prior ++ seen ∷ []) ≡ activity_after seen
end-push activity [] seen = refl
end-push activity (one ∷ prior) seen = end-push (activity_after one) prior seen

-- the step behind others is that of the text, from where these lead
pub step-behind : (source : FlatProcess) (time : ℕ) (activity : Activity) (prior : List StepSeen) (other : StepSeen) (rest : List StepSeen) →
    AreStepsFrom source time activity (prior ++ other ∷ rest) → other.step ≡ step_from source time (activity_at_end activity prior)
step-behind source time activity [] other [] are = are
step-behind source time activity [] other (next ∷ rest) are = are.0
step-behind source time activity (one ∷ []) other rest are = step-behind source time (activity_after one) [] other rest are.2
step-behind source time activity (one ∷ two ∷ prior) other rest are = step-behind source time (activity_after one) (two ∷ prior) other rest are.2

-- what is told of it
pub told-at : (time : ℕ) (activity : Activity) (prior : List StepSeen) (other : StepSeen) (rest : List StepSeen) →
    slice_get (steps_told time activity (prior ++ other ∷ rest)) (length prior) ≡ Some (step_told time (activity_at_end activity prior) other)
told-at time activity [] other rest = refl
told-at time activity (one ∷ prior) other rest = told-at time (activity_after one) prior other rest

-- behind the last one nothing is told
pub told-none : (time : ℕ) (activity : Activity) (prior : List StepSeen) → slice_get (steps_told time activity prior) (length prior) ≡ None
told-none time activity [] = refl
told-none time activity (one ∷ prior) = told-none time (activity_after one) prior

-- the told step of a place is told of the kept one
pub kept-at : {A : Type 0} (f : A → StepTold) (kept : List A) (told : List StepTold) (place : ℕ) → map f kept ≡ told → slice_get told place ≡ option_map f (slice_get kept place)
kept-at f kept told place same = ap (λ l. slice_get l place) (sym same) ∙ slice_get-map f kept place
