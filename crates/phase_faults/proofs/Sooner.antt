-- The least stop of some faults.
use Rattle.std.proofs.Common.{◌≡◌, ℕ, ◌≤◌, Bool, true, false, List, [], ◌∷◌, map, refl, ap, subst, ◌∙◌, inl, inr, arith}
use Rattle.std.specs.Prelude.{if◌then◌else◌, min}
use Rattle.std.specs.List.{fold}
use Rattle.std.proofs.lemmas.Bool.{cases_lt}
use Rattle.vf_base.specs.Lists.{AllHold}
use Rattle.slot_laws.specs.Slots.{IsStop}
use Rattle.phase_faults.specs.Beside.{sooner, sooner_of, stop_of}
use Rattle.phase_faults.specs.declared.beside.FaultBeside.{FaultBeside}

sooner-low : (goes : Bool) (until least : ℕ) → (if goes then min until least else least) ≤ least
sooner-low true until least = omega arith
sooner-low false until least = omega arith

sooner-own : (goes : Bool) (until least : ℕ) → goes ≡ true → (if goes then min until least else least) ≤ until
sooner-own true until least e = omega arith
sooner-own false until least e = (let no : ⊥ = cc in absurd no)

min-stop : (moments : List ℕ) (moment end until least : ℕ) → IsStop moments moment end until → IsStop moments moment end least → IsStop moments moment end (min until least)
min-stop moments moment end until least one other = elim (cases_lt until least) [
  | inl less ↦ let same : until ≡ min until least = omega (arith, less) in subst (IsStop moments moment end) same one
  | inr more ↦ let same : least ≡ min until least = omega (arith, more) in subst (IsStop moments moment end) same other
]

sooner-stop : (moments : List ℕ) (moment end : ℕ) (goes : Bool) (until least : ℕ) → (goes ≡ true → IsStop moments moment end until) → IsStop moments moment end least →
    IsStop moments moment end (if goes then min until least else least)
sooner-stop moments moment end true until least one other = min-stop moments moment end until least (one refl) other
sooner-stop moments moment end false until least one other = other

fold-low : (least : ℕ) (faults : List FaultBeside) → fold sooner_of least faults ≤ least
fold-low least [] = omega arith
fold-low least (each ∷ faults) =
    let one = sooner-low each.goes each.until least in
    let rest = fold-low (sooner_of least each) faults in
    omega (arith, one, rest)

-- it isn't behind the stop of a fault that still goes
pub fold-least : (least : ℕ) (faults : List FaultBeside) → AllHold (λ (each : FaultBeside). each.goes ≡ true → fold sooner_of least faults ≤ each.until) faults
fold-least least [] = tt
fold-least least (each ∷ faults) = (
  λ goes. (let one = sooner-own each.goes each.until least goes in let rest = fold-low (sooner_of least each) faults in omega (arith, one, rest)),
  fold-least (sooner_of least each) faults,
)

-- and is a stop itself
pub fold-stop : (moments : List ℕ) (moment end least : ℕ) (faults : List FaultBeside) → IsStop moments moment end least →
    AllHold (λ (each : FaultBeside). each.goes ≡ true → IsStop moments moment end each.until) faults → IsStop moments moment end (fold sooner_of least faults)
fold-stop moments moment end least [] stop all = stop
fold-stop moments moment end least (each ∷ faults) stop all =
    fold-stop moments moment end (sooner_of least each) faults (sooner-stop moments moment end each.goes each.until least all.0 stop) all.1

-- it is the least of their stops
pub least-stops : (end least : ℕ) (faults : List FaultBeside) → least ≤ end → fold sooner least (map (stop_of end) faults) ≡ fold sooner_of least faults
least-stops end least [] low = refl
least-stops end least (each ∷ faults) low =
    ap (λ n. fold sooner n (map (stop_of end) faults)) (one each.goes)
    ∙ least-stops end (sooner_of least each) faults (let lower = sooner-low each.goes each.until least in omega (arith, low, lower))
  where
    one : (goes : Bool) → min (if goes then each.until else end) least ≡ (if goes then min each.until least else least)
    one true = refl
    one false = omega (arith, low)
