-- What is kept of each process.
use Rattle.std.proofs.Common.{◌≡◌, ℕ, zero, suc, ◌+◌, ◌<◌, ◌≤◌, Bool, true, false, cond, List, [], ◌∷◌, length, refl, sym, ap, subst, ◌∙◌, arith}
use Rattle.std.specs.Prelude.{Option, Some, None, nat_eq, slice_get, slice_set}
use Rattle.std.proofs.lemmas.Bool.{eq-eqb, eqb-true, ne_eqb}
use Rattle.std.proofs.lemmas.Option.{same_Some}
use Rattle.vf_base.specs.Lists.{AllHold}
use Rattle.runs_beside.specs.Runs.{behind_step, kept_in, no_run, run_at}
use Rattle.runs_beside.specs.declared.run.RunSoFar.{RunSoFar}

-- Lists

pub holds-at : {A : Type 0} (P : A → Type 0) (xs : List A) (n : ℕ) (x : A) → AllHold P xs → slice_get xs n ≡ Some x → P x
holds-at P [] n x all is = absurd (let no : None ≡ Some x = is in cc)
holds-at P (y ∷ xs) zero x all is = subst P (same_Some y x is) all.0
holds-at P (y ∷ xs) (suc n) x all is = holds-at P xs n x all.1 is

pub get-low : {A : Type 0} (xs : List A) (n : ℕ) → n < length xs → (x : A) × (slice_get xs n ≡ Some x)
get-low [] n low = absurd (omega (arith, low))
get-low (x ∷ xs) zero low = (x, refl)
get-low (x ∷ xs) (suc n) low = get-low xs n (omega (arith, low))

pub set-here : {A : Type 0} (xs : List A) (n : ℕ) (x : A) → n < length xs → slice_get (slice_set xs n x) n ≡ Some x
set-here [] n x low = absurd (omega (arith, low))
set-here (y ∷ xs) zero x low = refl
set-here (y ∷ xs) (suc n) x low = set-here xs n x (omega (arith, low))

pub set-there : {A : Type 0} (xs : List A) (n other : ℕ) (x : A) → (other ≡ n → ⊥) → slice_get (slice_set xs n x) other ≡ slice_get xs other
set-there [] n other x ne = refl
set-there (y ∷ xs) zero zero x ne = absurd (ne refl)
set-there (y ∷ xs) zero (suc other) x ne = refl
set-there (y ∷ xs) (suc n) zero x ne = refl
set-there (y ∷ xs) (suc n) (suc other) x ne = set-there xs n other x (λ e. ne (ap (λ k. suc k) e))

pub set-length : {A : Type 0} (xs : List A) (n : ℕ) (x : A) → length (slice_set xs n x) ≡ length xs
set-length [] n x = refl
set-length (y ∷ xs) zero x = refl
set-length (y ∷ xs) (suc n) x = ap (λ k. suc k) (set-length xs n x)

-- Phases

-- what is kept in a phase is of it
pub kept-phase : (phase : ℕ) (found : Option RunSoFar) → (kept_in phase found).phase ≡ phase
kept-phase phase None = refl
kept-phase phase (Some run) = go (nat_eq run.phase phase) refl
  where
    go : (b : Bool) → nat_eq run.phase phase ≡ b → (cond b run (no_run phase)).phase ≡ phase
    go true is = eqb-true run.phase phase is
    go false is = refl

-- behind a step of a run it is still of that phase
pub step-phase : (run : RunSoFar) (ready follows : Bool) → (behind_step run ready follows).phase ≡ run.phase
step-phase run true follows = refl
step-phase run false follows = refl

-- what was kept just now is found
pub kept-now : (phase : ℕ) (run : RunSoFar) → run.phase ≡ phase → kept_in phase (Some run) ≡ run
kept-now phase run is = ap (λ (b : Bool). cond b run (no_run phase)) (eq-eqb run.phase phase is)

-- what was kept in an earlier phase isn't
pub kept-before : (phase : ℕ) (run : RunSoFar) → run.phase < phase → kept_in phase (Some run) ≡ no_run phase
kept-before phase run early = ap (λ (b : Bool). cond b run (no_run phase)) (ne_eqb run.phase phase (λ e. omega (arith, e, early)))

-- so each process begins a later phase with no run
pub begins-none : (phase : ℕ) (runs : List RunSoFar) → ((process : ℕ) (run : RunSoFar) → slice_get runs process ≡ Some run → run.phase < phase) → (process : ℕ) → run_at phase runs process ≡ no_run phase
begins-none phase runs early process = go (slice_get runs process) refl
  where
    go : (found : Option RunSoFar) → slice_get runs process ≡ found → kept_in phase found ≡ no_run phase
    go None is = refl
    go (Some run) is = kept-before phase run (early process run is)
