-- What the calls of a record need of its lists (nothing of the language).
use Rattle.std.proofs.Common.{◌≡◌, ℕ, zero, suc, ◌+◌, ◌<◌, List, [], ◌∷◌, ◌++◌, map, length, get_or, set, false, true, refl, sym, ap, subst, ◌∙◌}
use Rattle.std.proofs.lemmas.List.{get_or-map, get_or-set_same, map-set}
use Rattle.v_design.specs.Designs.{Machine}
use Rattle.v_design.specs.States.{Step, step_of, is_ready}
use Rattle.v_design.specs.Grades.{Phase}
use Rattle.process_code.specs.declared.state.ProcState.{ProcState}
use Rattle.process_code.specs.declared.state.RunEnd.{RunEnd}
use Rattle.process_code.specs.declared.state.StepTaken.{StepTaken}
use Rattle.slot_record.specs.SlotRecords.{one_more, state_in}
use Rattle.run_record.specs.Notes.{SoFar, nothing_so_far, with_step, StepSays, StandsAfter, AreNotes}
use Rattle.run_record.specs.RunRecords.{so_far, IsEndOf}
use Rattle.run_record.specs.declared.record.RunSoFar.{RunSoFar}
use Rattle.run_record.proofs.Growing.{Laws}
use Rattle.run_record.proofs.Noted.{step-noted, end-noted}

set-twice : {A : Type 0} (xs : List A) (n : ℕ) (x y : A) → set (set xs n x) n y ≡ set xs n y
set-twice [] n x y = refl
set-twice (z ∷ xs) zero x y = refl
set-twice (z ∷ xs) (suc n) x y = ap (λ l. z ∷ l) (set-twice xs n x y)

-- what is kept of a run that changed, and what was kept of it before
pub run-at : (runs : List RunSoFar) (n : ℕ) (old : RunSoFar) → n < length runs → old ≡ get_or runs n old → so_far old ≡ get_or (map so_far runs) n nothing_so_far
run-at runs n old low is = ap so_far is ∙ sym (get_or-map so_far runs n old nothing_so_far low)

pub run-set : (runs : List RunSoFar) (n : ℕ) (old new : RunSoFar) (change : SoFar → SoFar) → n < length runs → old ≡ get_or runs n old → so_far new ≡ change (so_far old) →
    map so_far (set runs n new) ≡ set (map so_far runs) n (change (get_or (map so_far runs) n nothing_so_far))
run-set runs n old new change low is told = map-set so_far runs n new ∙ ap (set (map so_far runs) n) (told ∙ ap change (run-at runs n old low is))

-- a step after which the process is ready
pub step-called : Laws → (process : ℕ) (step : StepTaken) (old new : List SoFar) (ended : List RunEnd) → process < length old →
    new ≡ set old process (with_step step (get_or old process nothing_so_far)) → (machine : Machine) (before : List Phase) (phase : Phase) → AreNotes machine before phase old ended →
    StepSays machine (state_in machine phase) process step → is_ready (step_of machine (state_in machine phase) process).next ≡ true →
    AreNotes machine before (one_more (Step process) phase) new ended
step-called laws process step old new ended there is machine before phase notes says ready =
    subst (λ l. AreNotes machine before (one_more (Step process) phase) l ended) (sym is) (step-noted laws machine before phase process old ended there notes step says ready)

-- one that ends the process's run
pub end-called : Laws → (number process : ℕ) (step : StepTaken) (stands : ProcState) (old mid new : List SoFar) (ended now : List RunEnd) (run : RunEnd) →
    process < length old →
    mid ≡ set old process (with_step step (get_or old process nothing_so_far)) → new ≡ set mid process nothing_so_far → IsEndOf number process stands (get_or mid process nothing_so_far) run →
    now ≡ ended ++ run ∷ [] → (machine : Machine) (before : List Phase) (phase : Phase) → AreNotes machine before phase old ended → StepSays machine (state_in machine phase) process step →
    is_ready (step_of machine (state_in machine phase) process).next ≡ false → number ≡ length before + 1 → StandsAfter machine (state_in machine phase) process stands →
    AreNotes machine before (one_more (Step process) phase) new now
end-called laws number process step stands old mid new ended now run there is next end pushed machine before phase notes says stops numbered after =
    let told : SoFar = with_step step (get_or old process nothing_so_far) in
    let here : IsEndOf (length before + 1) process stands told run =
    subst (λ n. IsEndOf n process stands told run) numbered
    (subst (λ t. IsEndOf number process stands t run) (ap (λ l. get_or l process nothing_so_far) is ∙ get_or-set_same old process told nothing_so_far there) end) in
    subst (λ l. AreNotes machine before (one_more (Step process) phase) l now) (sym (next ∙ ap (λ l. set l process nothing_so_far) is ∙ set-twice old process told nothing_so_far))
    (subst (λ l. AreNotes machine before (one_more (Step process) phase) (set old process nothing_so_far) l) (sym pushed)
    (end-noted laws machine before phase process old ended there notes step stands run says stops after here))
