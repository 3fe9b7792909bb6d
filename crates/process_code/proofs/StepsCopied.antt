-- Copies of steps tell the same, by each code.
use Rattle.std.proofs.Common.{◌≡◌, ℕ, ◌<◌, ◌+◌, List, [], ◌∷◌, ◌++◌, length, get_or, take, map, refl, ap, sym, subst, ◌∙◌}
use Rattle.std.specs.List.{AllZip}
use Rattle.std.proofs.lemmas.List.{take_more}
use Rattle.std.proofs.lemmas.List.Elements.{AllZip-push, AllZip-get_or, length_all_zip}
use Rattle.process_code.specs.Codes.{rests_in_code}
use Rattle.process_code.specs.Points.{activity_at}
use Rattle.process_code.specs.RunEnds.{IsSameStep, StepTold, StepsStandIn, act_by, step_told_by}
use Rattle.process_code.specs.declared.code.Code.{Code}
use Rattle.process_code.specs.declared.state.StepTaken.{StepTaken}

-- one step more
pub same-more : (steps copies more : List StepTaken) (i : ℕ) (x y : StepTaken) → i < length steps → x ≡ get_or steps i x → more ≡ copies ++ y ∷ [] → IsSameStep x y →
    AllZip IsSameStep (take i steps) copies → AllZip IsSameStep (take (i + 1) steps) more
same-more steps copies more i x y low is pushed same h =
    let longer : take (i + 1) steps ≡ take i steps ++ x ∷ [] = take_more steps i x low ∙ ap (λ s. take i steps ++ s ∷ []) (sym is) in
    subst (λ l. AllZip IsSameStep l more) (sym longer) (subst (AllZip IsSameStep (take i steps ++ x ∷ [])) (sym pushed) (AllZip-push IsSameStep (take i steps) copies x y h same))

step-same : (code : Code) (x y : StepTaken) → IsSameStep x y → step_told_by code y ≡ step_told_by code x
step-same code x y h = λ i. record { stands = activity_at (rests_in_code code) (h.point i); line = h.line i; act = act_by (h.act i); read = h.read i }

pub told-same : (code : Code) (steps copies : List StepTaken) → AllZip IsSameStep steps copies → map (step_told_by code) copies ≡ map (step_told_by code) steps
told-same code [] [] h = refl
told-same code [] (y ∷ copies) h = absurd h
told-same code (x ∷ steps) [] h = absurd h
told-same code (x ∷ steps) (y ∷ copies) h = λ i. step-same code x y h.0 i ∷ told-same code steps copies h.1 i

-- and stand in states of the same codes
pub stand-same : (code : Code) (steps copies : List StepTaken) → AllZip IsSameStep steps copies → StepsStandIn code steps → StepsStandIn code copies
stand-same code steps copies h all = λ k d low.
    let there : k < length steps = subst (λ n. k < n) (sym (length_all_zip IsSameStep steps copies h)) low in
    (AllZip-get_or IsSameStep steps copies k d d h there).state code (all k d there)
