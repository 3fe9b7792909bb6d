-- A stop is a race or a loop, and what comes before a time.
use Rattle.std.proofs.Common.{◌≡◌, ℕ, ◌≤◌, List, [], ◌∷◌, true, refl, subst}
use Rattle.std.specs.Prelude.{Option, Some, None}
use Rattle.std.specs.List.{AllZip}
use Rattle.std.proofs.lemmas.Bool.{le-leb, leb-true}
use Rattle.v_design.specs.Designs.{Machine}
use Rattle.v_design.specs.Runs.{FirstSlot}
use Rattle.v_design.specs.Grades.{SlotOutcome, Fine, Race, Hyper, slot_outcome, Stop, first_stop, stop_time, by_then}
use Rattle.grade_laws.specs.Decisions.{NotBefore}

-- there is one
abbrev pub Has : {A : Type 0} → Option A → Type 0
Has {A} found = (x : A) × (found ≡ Some x)

some-eq : {A : Type 0} (one other : A) → Some one ≡ Some other → one ≡ other
some-eq one other e = cc

pub has-some : {A B : Type 0} (found : Option A) → Has found → found ≡ None → B
has-some found h e = cc

-- Stops

-- a stop isn't fine, if there is one
abbrev pub NotFine : Option Stop → Type 0
NotFine None = Unit {0}
NotFine (Some stop) = stop.outcome ≡ Fine → ⊥

pub stop-not-fine : (machine : Machine) (slots : List FirstSlot) → NotFine (first_stop machine slots)
stop-not-fine machine [] = tt
stop-not-fine machine (slot ∷ slots) = go (slot_outcome machine slot) (stop-not-fine machine slots)
  where
    go : (outcome : SlotOutcome) → NotFine (first_stop machine slots) →
        NotFine (elim outcome [
          | Fine ↦ first_stop machine slots
          | Race pair ↦ Some (record { time = slot.begins.time; outcome = Race pair })
          | Hyper ↦ Some (record { time = slot.begins.time; outcome = Hyper })
        ])
    go Fine rest = rest
    go (Race pair) rest = λ e. cc
    go Hyper rest = λ e. cc

-- What comes before a time

pub stop-since : (time : ℕ) (stop : Option Stop) → by_then time (stop_time stop) ≡ true → NotBefore time stop
stop-since time None e = tt
stop-since time (Some stop) e = leb-true time stop.time e

pub since-stop : (time : ℕ) (stop : Option Stop) → NotBefore time stop → by_then time (stop_time stop) ≡ true
since-stop time None h = refl
since-stop time (Some stop) h = le-leb time stop.time h

pub strobe-since : (time : ℕ) (found : Option ℕ) → by_then time found ≡ true → (strobe : ℕ) → found ≡ Some strobe → time ≤ strobe
strobe-since time None e strobe f = cc
strobe-since time (Some other) e strobe f = subst (λ x. time ≤ x) (some-eq other strobe f) (leb-true time other e)

pub since-strobe : (time : ℕ) (found : Option ℕ) → ((strobe : ℕ) → found ≡ Some strobe → time ≤ strobe) → by_then time found ≡ true
since-strobe time None h = refl
since-strobe time (Some strobe) h = le-leb time strobe (h strobe refl)

-- Lists

-- where each element has one, a list has its list
pub list-has : {A B : Type 0} (find : A → Option B) → ((x : A) → Has (find x)) → (xs : List A) → (ys : List B) × AllZip (λ x y. find x ≡ Some y) xs ys
list-has find h [] = ([], tt)
list-has find h (x ∷ xs) = let rest = list-has find h xs in ((h x).0 ∷ rest.0, ((h x).1, rest.1))
