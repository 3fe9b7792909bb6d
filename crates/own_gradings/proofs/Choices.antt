-- Numbers that are there as far as any bound is concerned (nothing of the language).
use Rattle.std.proofs.Common.{◌≡◌, ℕ, zero, suc, ◌+◌, ◌<◌, ◌≤◌, Bool, true, false, cond, [], ◌∷◌, length, refl, sym, ap, subst, ◌∙◌, inl, inr, arith}
use Rattle.std.specs.Prelude.{Option, Some, None, nat_eq, nat_le, slice_get}
use Rattle.std.proofs.lemmas.Bool.{cases_lt, eqb-true, eqb-false, leb-true, leb-false}
use Rattle.std.proofs.lemmas.List.Sums.{sum_by-cons}
use Rattle.std.proofs.lemmas.Option.{slice_get_cases, slice_get_past, slice_get_within}
use Rattle.v_design.specs.Designs.{FlatDesign, StuckAt, TestPlan}
use Rattle.v_design.specs.OwnSteps.{CountsOwn, ProcessRun, runs_beside}
use Rattle.v_design.specs.Runs.{FirstSlot}
use Rattle.copy_laws.specs.Windows.{good_slots, runs_between, time_at}
use Rattle.fault_strobes.specs.Said.{plan_by}
use Rattle.own_gradings.specs.Numbers.{AreOwnSteps, OwnStepsOf, runs_to}
use Rattle.own_gradings.proofs.Counts.{Pairs, no-steps}

-- it isn't so that there is none
abbrev pub NotNone : Type 0 → Type 0
NotNone A = (A → ⊥) → ⊥

-- a bound that can't fail holds
pub bound-holds : (low high : ℕ) → NotNone (low ≤ high) → low ≤ high
bound-holds low high holds = elim (cases_lt high low) [
  | inl less ↦ absurd (holds (λ by. omega (arith, less, by)))
  | inr by ↦ by
]

-- Counts

pub record Counted (pairs : Pairs) : Type 0 where
  pub steps : ℕ
  pub own : AreOwnSteps pairs steps

counted-more : (pair : Option ProcessRun × ProcessRun) (pairs : Pairs) (count : ℕ) → CountsOwn pair count → Counted pairs → Counted (pair ∷ pairs)
counted-more pair pairs count counts rest = record {
  steps = count + rest.steps;
  own = record {
    counts = count ∷ rest.own.counts;
    each = (counts, rest.own.each);
    total = (let sums = sum_by-cons (λ (n : ℕ). n) count rest.own.counts in let total = rest.own.total in omega (arith, sums, total));
  };
}

pub counted : (pairs : Pairs) → NotNone (Counted pairs)
counted [] none = none (record { steps = 0; own = no-steps })
counted (pair ∷ pairs) none =
    counted pairs
    (λ rest. none
    (counted-more pair pairs (length pair.1.steps)
    (inr ((λ same. none (counted-more pair pairs 0 (inl (same, refl)) rest)), refl)) rest))

-- Choices

-- what is there of each number below a bound, at once
pub record Chosen {B : Type 0} (P : ℕ → B → Type 0) (bound : ℕ) : Type 0 where
  pub at : ℕ → B
  pub each : (k : ℕ) → k < bound → P k (at k)

pub record Some_of {B : Type 0} (P : ℕ → B → Type 0) (k : ℕ) : Type 0 where
  pub choice : B
  pub holds : P k choice

module _ {B : Type 0} (P : ℕ → B → Type 0) where
  chosen-more : (bound : ℕ) → Chosen P bound → Some_of P bound → Chosen P (suc bound)
  chosen-more bound so_far one = record {
    at = λ k. cond (nat_eq k bound) one.choice (so_far.at k);
    each = λ k low. go k low (nat_eq k bound) refl;
  }
    where
      go : (k : ℕ) → k < suc bound → (b : Bool) → nat_eq k bound ≡ b → P k (cond b one.choice (so_far.at k))
      go k low true e = subst (λ (n : ℕ). P n one.choice) (sym (eqb-true k bound e)) one.holds
      go k low false e =
          so_far.each k
          (elim (cases_lt k bound) [ inl less ↦ less | inr by ↦ (let same : k ≡ bound = omega (arith, low, by) in absurd (eqb-false k bound e same)) ])

  pub chosen : B → (bound : ℕ) → ((k : ℕ) → NotNone (Some_of P k)) → NotNone (Chosen P bound)
  chosen other zero each none = none (record { at = λ k. other; each = λ k low. absurd (omega (arith, low)) })
  chosen other (suc bound) each none = chosen other bound each (λ so_far. each bound (λ one. none (chosen-more bound so_far one)))

-- Times

-- behind all slots the time stays
abbrev pub time-of : TestPlan → Option FirstSlot → Option FirstSlot → Option ℕ
time-of plan next last = elim next [ None ↦ Some plan.end | Some later ↦ elim last [ None ↦ Some plan.end | Some slot ↦ Some slot.begins.time ] ]

time-past : (design : FlatDesign) (plan : TestPlan) (count : ℕ) → length (good_slots design plan) ≤ suc count → time_at design plan (suc count) ≡ Some plan.end
time-past design plan count past = ap (λ (next : Option FirstSlot). time-of plan next (slice_get (good_slots design plan) count)) (slice_get_past (good_slots design plan) (suc count) past)

time-last : (design : FlatDesign) (plan : TestPlan) (gone : ℕ) → length (good_slots design plan) < gone → time_at design plan (suc (length (good_slots design plan))) ≡ time_at design plan gone
time-last design plan zero past = absurd (omega (arith, past))
time-last design plan (suc count) past =
    time-past design plan (length (good_slots design plan)) (omega arith) ∙ sym (time-past design plan count (omega (arith, past)))

-- The numbers of a fault

module _ (design : FlatDesign) (plan : TestPlan) where
  abbrev last : ℕ
  last = suc (length (good_slots design plan))

  abbrev IsRow : StuckAt → Bool → (ℕ → ℕ) → Type 0
  IsRow fault kept row = (gone : ℕ) → AreOwnSteps (runs_to design plan kept gone fault) (row gone)

  record Row (fault : StuckAt) (kept : Bool) : Type 0 where
    at : ℕ → ℕ
    are : IsRow fault kept at

  row-by : (fault : StuckAt) (kept : Bool) → Chosen (λ (gone steps : ℕ). AreOwnSteps (runs_to design plan kept gone fault) steps) (suc last) → Row fault kept
  row-by fault kept found = record { at = λ gone. cond (nat_le gone last) (found.at gone) (found.at last); are = λ gone. go gone (nat_le gone last) refl }
    where
      go : (gone : ℕ) (b : Bool) → nat_le gone last ≡ b → AreOwnSteps (runs_to design plan kept gone fault) (cond b (found.at gone) (found.at last))
      go gone true e = found.each gone (let by : gone ≤ last = leb-true gone last e in omega (arith, by))
      go gone false e =
          let past : last < gone = leb-false gone last e in
          subst (λ (t : Option ℕ). AreOwnSteps (runs_between design (plan_by kept plan) None t fault) (found.at last))
          (time-last design plan gone (omega (arith, past)))
          (found.each last (omega arith))

  row : (fault : StuckAt) (kept : Bool) → NotNone (Row fault kept)
  row fault kept none =
      chosen (λ (gone steps : ℕ). AreOwnSteps (runs_to design plan kept gone fault) steps) 0 (suc last)
      (λ gone none. counted (runs_to design plan kept gone fault) (λ found. none (record { choice = found.steps; holds = found.own })))
      (λ found. none (row-by fault kept found))

  -- what a fault takes in all, too
  record Numbers (fault : StuckAt) (kept : Bool) : Type 0 where
    row : Row fault kept
    all : ℕ
    in_all : AreOwnSteps (runs_beside design (plan_by kept plan) fault) all

  numbers : (fault : StuckAt) (kept : Bool) → NotNone (Numbers fault kept)
  numbers fault kept none =
      row fault kept (λ found. counted (runs_beside design (plan_by kept plan) fault) (λ whole. none (record { row = found; all = whole.steps; in_all = whole.own })))

  -- of the fault of a number, if it is listed
  record Choice : Type 0 where
    steps : Bool → ℕ → ℕ
    all : Bool → ℕ

  record AreOf (fault : StuckAt) (kept : Bool) (choice : Choice) : Type 0 where
    are : IsRow fault kept (choice.steps kept)
    in_all : AreOwnSteps (runs_beside design (plan_by kept plan) fault) (choice.all kept)

  abbrev IsOf : ℕ → Choice → Type 0
  IsOf number choice = (fault : StuckAt) → slice_get plan.faults number ≡ Some fault → (kept : Bool) → AreOf fault kept choice

  of-fault : (number : ℕ) (fault : StuckAt) → slice_get plan.faults number ≡ Some fault → Numbers fault true → Numbers fault false → Some_of IsOf number
  of-fault number fault is kept-ones judged-ones = record { choice = both; holds = λ named named-is kept. go named (some-is fault named (sym is ∙ named-is)) kept }
    where
      both : Choice
      both = record { steps = λ kept. cond kept kept-ones.row.at judged-ones.row.at; all = λ kept. cond kept kept-ones.all judged-ones.all }

      some-is : (one other : StuckAt) → Some one ≡ Some other → one ≡ other
      some-is one other same = cc

      by-fault : (kept : Bool) → AreOf fault kept both
      by-fault true = record { are = kept-ones.row.are; in_all = kept-ones.in_all }
      by-fault false = record { are = judged-ones.row.are; in_all = judged-ones.in_all }

      go : (named : StuckAt) → fault ≡ named → (kept : Bool) → AreOf named kept both
      go named same kept = subst (λ (f : StuckAt). AreOf f kept both) same (by-fault kept)

  of-none : (number : ℕ) → slice_get plan.faults number ≡ None → Some_of IsOf number
  of-none number none = record { choice = record { steps = λ kept gone. 0; all = λ kept. 0 }; holds = λ named is. absurd (no-one named (sym none ∙ is)) }
    where
      no-one : (named : StuckAt) → None ≡ Some named → ⊥
      no-one named same = cc

  listed : (number : ℕ) → NotNone (Some_of IsOf number)
  listed number none = elim (slice_get_cases plan.faults number).1 [
    | inl found ↦ numbers found.0 true (λ one. numbers found.0 false (λ other. none (of-fault number found.0 found.2 one other)))
    | inr past ↦ none (of-none number past.1)
  ]

  pub exist : NotNone (OwnStepsOf design plan)
  exist none =
      chosen IsOf (record { steps = λ kept gone. 0; all = λ kept. 0 }) (length plan.faults) listed
      (λ found. none (record {
        steps = λ number. (found.at number).steps;
        are = λ number fault kept gone is. (found.each number (slice_get_within plan.faults number fault is) fault is kept).are gone;
        all = λ number. (found.at number).all;
        in_all = λ number fault kept is. (found.each number (slice_get_within plan.faults number fault is) fault is kept).in_all;
      }))
