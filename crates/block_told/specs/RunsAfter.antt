-- The processes in the midst of a run, the innermost first (nothing of the language).
use Rattle.std.proofs.Common.{◌≡◌, ◌≢◌, ℕ, ◌<◌, ◌≤◌, ◌-◌, ◌+◌, List, [], ◌∷◌, ◌++◌, map, reverse, Bool, true, false}
use Rattle.std.proofs.Common.{◌||◌, cond, refl, sym, ap, subst, ◌∙◌, arith, nat_eq}
use Rattle.std.proofs.lemmas.List.{map-append, reverse-append}
use Rattle.std.proofs.lemmas.Bool.{eqb-true, eqb-false, eq-eqb, ne_eqb}
use Rattle.vf_base.specs.Base.{process_number}
use Rattle.vf_base.specs.Lists.{AllHold, has}
use Rattle.vf_base.specs.declared.ids.ProcId.{ProcId}
use Rattle.event_queue.specs.Arranged.{Ascends}
use Rattle.block_told.specs.Running.{running_of, is_innermost, outer_runs, innermost_after, begun_after, runs_after}

-- The list that the code keeps

-- one more at the end is the innermost
pub running-push : (running : List ProcId) (process : ProcId) → running_of (running ++ process ∷ []) ≡ process_number process ∷ running_of running
running-push running process = ap reverse (map-append process_number running (process ∷ [])) ∙ reverse-append (map process_number running) (process_number process ∷ [])

-- no run where the list is empty alone
pub running-empty : (running : List ProcId) → running_of running ≡ [] → running ≡ []
running-empty [] e = refl
running-empty (x ∷ running) e =
    let split = reverse-append (process_number x ∷ []) (map process_number running) in
    let z : process_number x ∷ [] ≡ [] = none-right (reverse (map process_number running)) (process_number x ∷ []) (sym split ∙ e) in cc
  where
    none-right : (xs ys : List ℕ) → xs ++ ys ≡ [] → ys ≡ []
    none-right [] ys e = e
    none-right (x ∷ xs) ys e = cc

-- Which runs are there after a step

-- a number below all
all-above : (process : ℕ) (runs : List ℕ) → AllHold (λ other. process < other) runs → has runs process ≡ false
all-above process [] h = refl
all-above process (x ∷ runs) h = (λ i. ne_eqb x process (λ e. absurd (omega (arith, h.0, e))) i || all-above process runs h.1 i)

weaker : (P Q : ℕ → Type 0) (xs : List ℕ) → ((x : ℕ) → P x → Q x) → AllHold P xs → AllHold Q xs
weaker P Q [] f h = tt
weaker P Q (x ∷ xs) f h = (f x h.0, weaker P Q xs f h.1)

-- where the process is the least of those in the midst of a run, it is the innermost or in no run
strictly-above : (process : ℕ) (runs : List ℕ) → Ascends runs → AllHold (λ other. process ≤ other) runs → is_innermost runs process ≡ false → AllHold (λ other. process < other) runs
strictly-above process [] up low fails = tt
strictly-above process (x ∷ runs) up low fails =
    let first : process < x = below x low.0 fails in
    (first, weaker (λ y. x < y) (λ y. process < y) runs (λ y h. omega (arith, first, h)) up.0)
  where
    below : (x : ℕ) → process ≤ x → nat_eq x process ≡ false → process < x
    below x le fails = omega (arith, le, eqb-false x process fails)

or-false : (b : Bool) → (b || false) ≡ b
or-false true = refl
or-false false = refl

-- the process of the step is in the midst of a run where the step left it ready
pub own-after : (process : ℕ) (ready : Bool) (runs : List ℕ) → Ascends runs → AllHold (λ other. process ≤ other) runs → has (runs_after process ready runs) process ≡ ready
own-after process ready runs up low = go (is_innermost runs process) refl ready
  where
    outer : (runs : List ℕ) → Ascends runs → is_innermost runs process ≡ true → has (outer_runs runs) process ≡ false
    outer [] up is = refl
    outer (x ∷ runs) up is = all-above process runs (weaker (λ y. x < y) (λ y. process < y) runs (λ y h. omega (arith, h, eqb-true x process is)) up.0)

    there : (runs : List ℕ) → is_innermost runs process ≡ true → has runs process ≡ true
    there [] is = cc
    there (x ∷ runs) is = ap (λ b. b || has runs process) is

    go : (inner : Bool) → is_innermost runs process ≡ inner → (ready : Bool) → has (cond inner (innermost_after ready runs) (begun_after process ready runs)) process ≡ ready
    go true is true = there runs is
    go true is false = outer runs up is
    go false is true = ap (λ b. b || has runs process) (eq-eqb process process refl)
    go false is false = all-above process runs (strictly-above process runs up low is)

-- every other process is in the midst of a run as before
pub others-after : (process : ℕ) (ready : Bool) (runs : List ℕ) (other : ℕ) → other ≢ process → has (runs_after process ready runs) other ≡ has runs other
others-after process ready runs other fails = go (is_innermost runs process) refl ready
  where
    outer : (runs : List ℕ) → is_innermost runs process ≡ true → has (outer_runs runs) other ≡ has runs other
    outer [] is = refl
    outer (x ∷ runs) is = sym (ap (λ b. b || has runs other) (ne_eqb x other (λ e. fails (sym e ∙ eqb-true x process is))))

    go : (inner : Bool) → is_innermost runs process ≡ inner → (ready : Bool) → has (cond inner (innermost_after ready runs) (begun_after process ready runs)) other ≡ has runs other
    go true is true = refl
    go true is false = outer runs is
    go false is true = ap (λ b. b || has runs other) (ne_eqb process other (λ e. fails (sym e)))
    go false is false = refl

-- they still ascend
pub after-ascends : (process : ℕ) (ready : Bool) (runs : List ℕ) → Ascends runs → AllHold (λ other. process ≤ other) runs → Ascends (runs_after process ready runs)
after-ascends process ready runs up low = go (is_innermost runs process) refl ready
  where
    outer : (runs : List ℕ) → Ascends runs → Ascends (outer_runs runs)
    outer [] up = tt
    outer (x ∷ runs) up = up.1

    go : (inner : Bool) → is_innermost runs process ≡ inner → (ready : Bool) → Ascends (cond inner (innermost_after ready runs) (begun_after process ready runs))
    go true is true = up
    go true is false = outer runs up
    go false is true = (strictly-above process runs up low is, up)
    go false is false = up

-- what holds of all and of the process holds of all after its step
pub after-hold : (P : ℕ → Type 0) (process : ℕ) (ready : Bool) (runs : List ℕ) → AllHold P runs → (ready ≡ true → P process) → AllHold P (runs_after process ready runs)
after-hold P process ready runs all own = go (is_innermost runs process) ready own
  where
    outer : (runs : List ℕ) → AllHold P runs → AllHold P (outer_runs runs)
    outer [] h = tt
    outer (x ∷ runs) h = h.1

    go : (inner ready : Bool) → (ready ≡ true → P process) → AllHold P (cond inner (innermost_after ready runs) (begun_after process ready runs))
    go true true own = all
    go true false own = outer runs all
    go false true own = (own refl, all)
    go false false own = all

-- a fact of all is one of each
pub held-at : (P : ℕ → Type 0) (runs : List ℕ) (process : ℕ) → AllHold P runs → has runs process ≡ true → P process
held-at P [] process h e = cc
held-at P (x ∷ runs) process h e = go (nat_eq x process) refl e (held-at P runs process h.1)
  where
    go : (b : Bool) → nat_eq x process ≡ b → (b || has runs process) ≡ true → (has runs process ≡ true → P process) → P process
    go true is e rest = subst P (eqb-true x process is) h.0
    go false is e rest = rest e

-- and the other way round
pub each-held : (P : ℕ → Type 0) (runs : List ℕ) → ((process : ℕ) → has runs process ≡ true → P process) → AllHold P runs
each-held P [] f = tt
each-held P (x ∷ runs) f = (f x (ap (λ b. b || has runs x) (eq-eqb x x refl)), each-held P runs (λ process e. f process (ap (λ b. nat_eq x process || b) e ∙ or-true (nat_eq x process))))
  where
    or-true : (b : Bool) → (b || true) ≡ true
    or-true true = refl
    or-true false = refl
