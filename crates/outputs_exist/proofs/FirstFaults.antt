-- It can't be that a fault has no first one of its class, and so not that a design has no list of its faults. Whether two faults are of one class is asked of no test.
use Rattle.std.proofs.Common.{◌≡◌, ℕ, zero, suc, ◌<◌, ◌≤◌, List, [], ◌∷◌, Option, Some, None, refl, sym, subst, ◌∙◌, ◌⊎◌, inl, inr, arith}
use Rattle.std.specs.Prelude.{slice_get}
use Rattle.std.proofs.lemmas.Bool.{cases_order}
use Rattle.v_design.specs.Designs.{FlatDesign, StuckAt}
use Rattle.v_design.specs.Sites.{faults_of, AreOneClass, same_fault}
use Rattle.fault_list.specs.Classes.{IsFirstOfClass, AreClasses}
use Rattle.design_report.specs.Texts.{class_lines}
use Rattle.outputs_exist.specs.Existing.{FaultsTextsExist}

-- it can't be that there is none
abbrev NotNone : Type 0 → Type 0
NotNone A = (A → ⊥) → ⊥

-- it can't be that a fact neither holds nor doesn't
either : (A : Type 0) → NotNone (A ⊎ (A → ⊥))
either A none = none (inr (λ a. none (inl a)))

same-found : {A : Type 0} (found : Option A) (one other : A) → found ≡ Some one → found ≡ Some other → one ≡ other
same-found found one other e f = let same : Some one ≡ Some other = sym e ∙ f in cc

never-found : {A : Type 0} (found : Option A) (one : A) → found ≡ None → found ≡ Some one → ⊥
never-found found one e f = let same : None ≡ Some one = sym e ∙ f in cc

-- The first fault of a class

module _ (design : FlatDesign) (faults : List StuckAt) (fault : StuckAt) where
  -- none before a place is of the fault's class
  abbrev NoneBefore : ℕ → Type 0
  NoneBefore place = (earlier : ℕ) (other : StuckAt) → earlier < place → slice_get faults earlier ≡ Some other → AreOneClass design other fault → ⊥

  -- the first one of the fault's class stands before a place
  abbrev HasFirst : ℕ → Type 0
  HasFirst most = (place : ℕ) × (place < most) × IsFirstOfClass design faults fault place

  none-more : (n : ℕ) → NoneBefore n → ((other : StuckAt) → slice_get faults n ≡ Some other → AreOneClass design other fault → ⊥) → NoneBefore (suc n)
  none-more n before here earlier other low at alike =
      elim (cases_order earlier n) [
        | inl same ↦ here other (subst (λ i. slice_get faults i ≡ Some other) same at) alike
        | inr (inl less) ↦ before earlier other less at alike
        | inr (inr more) ↦ omega (arith, low, more)
      ]

  next-place : (n : ℕ) (found : Option StuckAt) → slice_get faults n ≡ found → NoneBefore n → NotNone (HasFirst (suc n) ⊎ NoneBefore (suc n))
  next-place n None at before none = none (inr (none-more n before (λ other here alike. never-found (slice_get faults n) other at here)))
  next-place n (Some found) at before none =
      either (AreOneClass design found fault) (λ decided. elim decided [
        | inl alike ↦ none (inl (n, omega arith, record { first = found; stands = at; alike = alike; least = before }))
        | inr apart ↦
            none (inr (none-more n before (λ other here alike.
            apart (subst (λ f. AreOneClass design f fault) (same-found (slice_get faults n) other found here at) alike))))
      ])

  least-place : (n : ℕ) → NotNone (HasFirst n ⊎ NoneBefore n)
  least-place zero none = none (inr (λ earlier other low at alike. omega (arith, low)))
  least-place (suc n) none =
      least-place n (λ so_far. elim so_far [
        | inl first ↦ none (inl (first.0, omega (arith, first.1), first.2))
        | inr before ↦ next-place n (slice_get faults n) refl before none
      ])

  -- a fault of the list has one, at its own place at the latest
  first-there : (number : ℕ) → slice_get faults number ≡ Some fault → NotNone ((place : ℕ) × ((place ≤ number) × IsFirstOfClass design faults fault place))
  first-there number at none =
      least-place (suc number) (λ found. elim found [
        | inl first ↦ none (first.0, (omega (arith, first.1), first.2))
        | inr before ↦ before number fault (omega arith) at (same_fault fault)
      ])

-- A number for each element of a list

-- the numbers are each related to the element at their place
abbrev AreChosen : {A : Type 0} → List A → (ℕ → A → ℕ → Type 0) → List ℕ → Type 0
AreChosen {A} xs Related ns = (i : ℕ) (x : A) → slice_get xs i ≡ Some x → (n : ℕ) × (slice_get ns i ≡ Some n) × Related i x n

chosen-more : {A : Type 0} (y : A) (ys : List A) (Related : ℕ → A → ℕ → Type 0) (n : ℕ) (ns : List ℕ) → Related zero y n → AreChosen ys (λ i. Related (suc i)) ns →
    AreChosen (y ∷ ys) Related (n ∷ ns)
chosen-more y ys Related n ns first rest zero x at = (n, refl, subst (λ z. Related zero z n) (same-found (Some y) y x refl at) first)
chosen-more y ys Related n ns first rest (suc i) x at = rest i x at

choose : {A : Type 0} (xs : List A) (Related : ℕ → A → ℕ → Type 0) → ((i : ℕ) (x : A) → slice_get xs i ≡ Some x → NotNone ((n : ℕ) × Related i x n)) →
    NotNone ((ns : List ℕ) × AreChosen xs Related ns)
choose [] Related each none = none ([], λ i x at. absurd (never-found None x refl at))
choose (y ∷ ys) Related each none =
    each zero y refl (λ first.
    choose ys (λ i. Related (suc i)) (λ i x at. each (suc i) x at) (λ rest.
    none (first.0 ∷ rest.0, chosen-more y ys Related first.0 rest.0 first.1 rest.1)))

-- The law

classes-there : (design : FlatDesign) (faults : List StuckAt) → NotNone ((places : List ℕ) × AreClasses design faults places)
classes-there design faults none =
    choose faults (λ number fault place. (place ≤ number) × IsFirstOfClass design faults fault place) (λ number fault at. first-there design faults fault number at)
    (λ chosen. none (chosen.0, λ number fault at. let c = chosen.1 number fault at in (c.0, c.1, c.2.0, c.2.1)))

pub faults-texts-exist : FaultsTextsExist
faults-texts-exist design none =
    classes-there design (faults_of design) (λ found.
    none (class_lines design (faults_of design) found.0) (record { places = found.0; classes = found.1; text_is = refl }))
