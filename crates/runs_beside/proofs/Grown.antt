-- Runs that grow by a step.
use Rattle.std.proofs.Common.{◌≡◌, ℕ, suc, ◌+◌, Bool, true, false, List, [], ◌∷◌, ◌++◌, length, refl, sym, ap, subst, ◌∙◌, arith}
use Rattle.std.specs.Prelude.{Option, Some, None, if◌then◌else◌, slice_get}
use Rattle.std.proofs.lemmas.Bool.{true≢false}
use Rattle.v_design.specs.Processes.{Activity}
use Rattle.v_design.specs.States.{is_ready}
use Rattle.v_design.specs.OwnSteps.{ProcessRun, StepSeen}
use Rattle.copy_laws.specs.OwnRuns.{grow, grown, is_going, last_goes_on}
use Rattle.copy_overlay.specs.Statuses.{AllCount, gone_on}
use Rattle.own_counts.specs.Counts.{OwnLast, behind_first, first_of}
use Rattle.good_runs.specs.Kept.{StepPlace, next_place}

-- The last run

pub last-going : (before : List ProcessRun) (run : ProcessRun) → last_goes_on (before ++ run ∷ []) ≡ is_going run.steps
last-going [] run = refl
last-going (first ∷ []) run = refl
last-going (first ∷ next ∷ before) run = last-going (next ∷ before) run

pub going-push : (steps : List StepSeen) (seen : StepSeen) → is_going (steps ++ seen ∷ []) ≡ is_ready seen.step.next
going-push [] seen = refl
going-push (one ∷ []) seen = refl
going-push (one ∷ next ∷ steps) seen = going-push (next ∷ steps) seen

pub going-some : (steps : List StepSeen) → is_going steps ≡ true → length steps ≡ 0 → ⊥
going-some [] going none = true≢false (sym going)
going-some (one ∷ steps) going none = omega (arith, none)

-- a run that goes on grows, else a new one begins
pub grow-on : (before : List ProcessRun) (run : ProcessRun) (step : Activity × StepSeen) → is_going run.steps ≡ true →
    grow (before ++ run ∷ []) step ≡ before ++ gone_on run (step.1 ∷ []) ∷ []
grow-on [] run step going = ap (λ (b : Bool). grown b run step) going
grow-on (first ∷ []) run step going = ap (λ (l : List ProcessRun). first ∷ l) (grow-on [] run step going)
grow-on (first ∷ next ∷ before) run step going = ap (λ (l : List ProcessRun). first ∷ l) (grow-on (next ∷ before) run step going)

pub grow-new : (runs : List ProcessRun) (step : Activity × StepSeen) → last_goes_on runs ≡ false → grow runs step ≡ runs ++ record { begins = step.0; steps = step.1 ∷ [] } ∷ []
grow-new [] step rests = refl
grow-new (run ∷ []) step rests = ap (λ (b : Bool). grown b run step) rests
grow-new (run ∷ next ∷ runs) step rests = ap (λ (l : List ProcessRun). run ∷ l) (grow-new (next ∷ runs) step rests)

-- Places

-- the place of the next step where no run goes on
pub place-new : (number : ℕ) (runs : List ProcessRun) → last_goes_on runs ≡ false → next_place number runs ≡ record { number = number + length runs; taken = 0 }
place-new number [] rests = let e : number ≡ number + 0 = omega arith in ap (λ (n : ℕ). record { number = n; taken = 0 }) e
place-new number (run ∷ []) rests =
    ap (λ (b : Bool). if b then record { number = number; taken = length run.steps } else record { number = number + 1; taken = 0 }) rests
place-new number (run ∷ next ∷ runs) rests =
    place-new (number + 1) (next ∷ runs) rests
    ∙ (let e : number + 1 + length (next ∷ runs) ≡ number + length (run ∷ next ∷ runs) = omega arith in ap (λ (n : ℕ). record { number = n; taken = 0 }) e)

-- and where one does
pub place-on : (number : ℕ) (before : List ProcessRun) (run : ProcessRun) → is_going run.steps ≡ true →
    next_place number (before ++ run ∷ []) ≡ record { number = number + length before; taken = length run.steps }
place-on number [] run going =
    ap (λ (b : Bool). if b then record { number = number; taken = length run.steps } else record { number = number + 1; taken = 0 }) going
    ∙ (let e : number ≡ number + 0 = omega arith in ap (λ (n : ℕ). record { number = n; taken = length run.steps }) e)
place-on number (first ∷ []) run going =
    place-on (number + 1) [] run going
    ∙ (let e : number + 1 + length {A = ProcessRun} [] ≡ number + length (first ∷ []) = omega arith in ap (λ (n : ℕ). record { number = n; taken = length run.steps }) e)
place-on number (first ∷ next ∷ before) run going =
    place-on (number + 1) (next ∷ before) run going
    ∙ (let e : number + 1 + length (next ∷ before) ≡ number + length (first ∷ next ∷ before) = omega arith in ap (λ (n : ℕ). record { number = n; taken = length run.steps }) e)

-- Own runs

get-behind : (good : List ProcessRun) (n : ℕ) → slice_get (behind_first good) n ≡ slice_get good (suc n)
get-behind [] n = refl
get-behind (run ∷ good) n = refl

get-first : (good : List ProcessRun) → first_of good ≡ slice_get good 0
get-first [] = refl
get-first (run ∷ good) = refl

-- the last run counts as own by its number
pub own-last : (own before : List ProcessRun) (run : ProcessRun) → OwnLast own (before ++ run ∷ []) → AllCount (slice_get own (length before)) run
own-last own [] run counts = subst (λ (g : Option ProcessRun). AllCount g run) (get-first own) counts
own-last own (first ∷ []) run counts = subst (λ (g : Option ProcessRun). AllCount g run) (get-first (behind_first own) ∙ get-behind own 0) counts
own-last own (first ∷ next ∷ before) run counts =
    subst (λ (g : Option ProcessRun). AllCount g run) (get-behind own (length (next ∷ before))) (own-last (behind_first own) (next ∷ before) run counts)
