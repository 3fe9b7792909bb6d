-- The findings on all listed faults, from those on the representatives.
use Rattle.std.proofs.Common.{◌≡◌, ℕ, zero, suc, ◌+◌, ◌<◌, List, [], ◌∷◌, ◌++◌, length, take, get_or, set, replicate, All, Contains, arith, sym, ap, subst, ◌∙◌, ◌⊎◌, ⊎_elim, inl, inr, refl}
use Rattle.std.proofs.Common.{length-set}
use Rattle.std.specs.Prelude.{Some, slice_get}
use Rattle.std.specs.List.{AllZip}
use Rattle.std.proofs.lemmas.Bool.{cases_eq}
use Rattle.std.proofs.lemmas.List.{length-replicate, length_push, map_push, take_more, get_or-set_same}
use Rattle.std.proofs.lemmas.List.Elements.{Contains-push, Contains-push_cases, Contains-append_left, All-contains}
use Rattle.std.proofs.lemmas.Option.{same_Some, slice_get-get_or}
use Rattle.vf_base.specs.Base.{fault_number}
use Rattle.vf_base.specs.declared.finding.End.{End}
use Rattle.vf_base.specs.declared.finding.Finding.{Finding}
use Rattle.v_design.specs.Designs.{FlatDesign, TestPlan, StuckAt}
use Rattle.v_design.specs.Expressions.{up_from}
use Rattle.v_design.specs.Grades.{grade}
use Rattle.v_design.specs.Laws.{ClassesAgree}
use Rattle.v_design.specs.Plain.{grade_of}
use Rattle.v_design.specs.WellFormed.{KeepsRules}
use Rattle.order_laws.specs.Reports.{AreGrades}
use Rattle.v_design.specs.Findings.{grades_of, AreInOrder}
use Rattle.fault_list.specs.Classes.{AreClasses}
use Rattle.fault_shards.specs.Found.{IsFinding, AreFound, found_faults, IsFoundEnd, HasEnds}
use Rattle.fault_shards.proofs.Representing.{place-represents}

-- Ends by the numbers of the faults

slice_get-set_same : {A : Type 0} (xs : List A) (i : ℕ) (x : A) → i < length xs → slice_get (set xs i x) i ≡ Some x
slice_get-set_same xs i x below =
    let size : length (set xs i x) ≡ length xs = length-set xs i x in
    slice_get-get_or (set xs i x) i x (omega (arith, size, below)) ∙ ap Some (get_or-set_same xs i x x below)

slice_get-set_other : {A : Type 0} (xs : List A) (i j : ℕ) (x : A) → (j ≡ i → ⊥) → slice_get (set xs i x) j ≡ slice_get xs j
slice_get-set_other [] i j x other = refl
slice_get-set_other (y ∷ xs) zero zero x other = absurd (other refl)
slice_get-set_other (y ∷ xs) zero (suc j) x other = refl
slice_get-set_other (y ∷ xs) (suc i) zero x other = refl
slice_get-set_other (y ∷ xs) (suc i) (suc j) x other = slice_get-set_other xs i j x (λ same. other (ap suc same))

-- before the first finding
pub ends-start : (count : ℕ) (found : List Finding) (end : End) → HasEnds count (take 0 found) (replicate count end)
ends-start count found end = record { counted = length-replicate count end; each = λ number c. absurd (omega (arith, c.1)) }

ends-push : (count : ℕ) (taken : List Finding) (ends : List End) (finding : Finding) → fault_number finding.fault < count → HasEnds count taken ends →
    HasEnds count (taken ++ finding ∷ []) (set ends (fault_number finding.fault) finding.end)
ends-push count taken ends finding below h = record {
  counted = length-set ends (fault_number finding.fault) finding.end ∙ h.counted;
  each = λ number c. ⊎_elim (this number) (λ (other : number ≡ fault_number finding.fault → ⊥). earlier number other c) (cases_eq number (fault_number finding.fault));
}
  where
    Tells : ℕ → Type 0
    Tells number = (end : End) × (slice_get (set ends (fault_number finding.fault) finding.end) number ≡ Some end) × IsFoundEnd (taken ++ finding ∷ []) number end

    this : (number : ℕ) → number ≡ fault_number finding.fault → (end : End) × (slice_get (set ends (fault_number finding.fault) finding.end) number ≡ Some end)
        × IsFoundEnd (taken ++ finding ∷ []) number end
    this number same =
        let size : length ends ≡ count = h.counted in (
          finding.end,
          ap (slice_get (set ends (fault_number finding.fault) finding.end)) same ∙ slice_get-set_same ends (fault_number finding.fault) finding.end (omega (arith, size, below)),
          record { finding = finding; there = Contains-push taken finding; fault = sym same; tells = refl },
        )

    earlier : (number : ℕ) → (number ≡ fault_number finding.fault → ⊥) → Contains (found_faults (taken ++ finding ∷ [])) number →
        (end : End) × (slice_get (set ends (fault_number finding.fault) finding.end) number ≡ Some end) × IsFoundEnd (taken ++ finding ∷ []) number end
    earlier number other c =
        let P : List ℕ → Type 0 = λ (l : List ℕ). Contains l number in
        let pushed : Contains (found_faults taken ++ fault_number finding.fault ∷ []) number = subst P (map_push (λ (f : Finding). fault_number f.fault) taken finding) c in
        let before : Contains (found_faults taken) number = ⊎_elim (λ (l : Contains (found_faults taken) number). l) (λ (r : fault_number finding.fault ≡ number). absurd (other (sym r)))
        (Contains-push_cases (found_faults taken) (fault_number finding.fault) number pushed) in
        let e = h.each number before in (
          e.0,
          slice_get-set_other ends (fault_number finding.fault) number finding.end other ∙ e.1,
          record { finding = e.2.finding; there = Contains-append_left taken (finding ∷ []) e.2.finding e.2.there; fault = e.2.fault; tells = e.2.tells },
        )

-- a finding more
pub ends-more : (count : ℕ) (found : List Finding) (ends : List End) (index : ℕ) (d : Finding) → index < length found → All (λ (finding : Finding). fault_number finding.fault < count) found →
    HasEnds count (take index found) ends →
    HasEnds count (take (index + 1) found) (set ends (fault_number (get_or found index d).fault) (get_or found index d).end)
ends-more count found ends index d below listed h =
    let P : List Finding → Type 0 = λ (l : List Finding). HasEnds count l (set ends (fault_number (get_or found index d).fault) (get_or found index d).end) in
    subst P (sym (take_more found index d below)) (ends-push count (take index found) ends (get_or found index d) (listed index d below) h)

-- The list

-- so many of the listed faults have their findings, each with the end at the fault that stands for it
pub record ListedSoFar (standing : List ℕ) (ends : List End) (count : ℕ) (findings : List Finding) : Type 0 where
  pub counted : length findings ≡ count
  pub in_order : AreInOrder count findings
  pub each : (number : ℕ) (finding : Finding) → slice_get findings number ≡ Some finding → (place : ℕ) × (slice_get standing number ≡ Some place) × (slice_get ends place ≡ Some finding.end)

up_from-more : (start count : ℕ) → up_from start (count + 1) ≡ up_from start count ++ (start + count) ∷ []
up_from-more start count = subst (λ n. up_from start n ≡ up_from start count ++ (start + count) ∷ []) (suc-is count) (go start count)
  where
    suc-is : (n : ℕ) → suc n ≡ n + 1
    suc-is n = omega arith

    go : (from n : ℕ) → up_from from (suc n) ≡ up_from from n ++ (from + n) ∷ []
    go from zero = ap (λ x. x ∷ []) (omega arith)
    go from (suc n) = ap (λ xs. from ∷ xs) (go (from + 1) n ∙ ap (λ x. up_from (from + 1) n ++ x ∷ []) (omega arith))

slice_get-push : {A : Type 0} (xs : List A) (x y : A) (number : ℕ) → slice_get (xs ++ x ∷ []) number ≡ Some y → (slice_get xs number ≡ Some y) ⊎ ((number ≡ length xs) × (x ≡ y))
slice_get-push [] x y zero e = inr (refl, same_Some x y e)
slice_get-push [] x y (suc number) e = cc
slice_get-push (z ∷ xs) x y zero e = inl e
slice_get-push (z ∷ xs) x y (suc number) e = elim (slice_get-push xs x y number e) [ inl h ↦ inl h | inr h ↦ inr (let k : number ≡ length xs = h.0 in omega (arith, k), h.1) ]

-- before the first fault
pub listed-start : (standing : List ℕ) (ends : List End) → ListedSoFar standing ends 0 []
listed-start standing ends = record { counted = refl; in_order = refl; each = λ number finding at. cc }

-- one fault more
pub listed-more : (standing : List ℕ) (ends : List End) (count : ℕ) (findings : List Finding) (finding : Finding) (place : ℕ) → ListedSoFar standing ends count findings →
    fault_number finding.fault ≡ count → slice_get standing count ≡ Some place →
    slice_get ends place ≡ Some finding.end → ListedSoFar standing ends (count + 1) (findings ++ finding ∷ [])
listed-more standing ends count findings finding place so own stands tells = record {
  counted = (let c : length findings ≡ count = so.counted in length_push findings finding ∙ ap (λ n. n + 1) c);
  in_order =
      map_push (λ (f : Finding). fault_number f.fault) findings finding ∙ (λ i. so.in_order i ++ own i ∷ [])
      ∙ sym (up_from-more 0 count ∙ ap (λ n. up_from 0 count ++ n ∷ []) (omega arith));
  each = λ number found at. elim (slice_get-push findings finding found number at) [
    | inl earlier ↦ so.each number found earlier
    | inr this ↦ (place, ap (slice_get standing) (this.0 ∙ so.counted) ∙ stands, tells ∙ ap (λ (f : Finding). Some f.end) this.1)
  ];
}

-- All faults

zip-all : (design : FlatDesign) (plan : TestPlan) (faults : List StuckAt) (findings : List Finding) → length findings ≡ length faults →
    ((number : ℕ) (fault : StuckAt) (finding : Finding) → slice_get faults number ≡ Some fault → slice_get findings number ≡ Some finding → grade design plan fault ≡ Some (grade_of finding.end)) →
    AllZip (λ fault line. grade design plan fault ≡ Some line) faults (grades_of findings)
zip-all design plan [] [] e h = tt
zip-all design plan [] (finding ∷ findings) e h = absurd (omega (arith, e))
zip-all design plan (fault ∷ faults) [] e h = absurd (omega (arith, e))
zip-all design plan (fault ∷ faults) (finding ∷ findings) e h =
    (h 0 fault finding refl refl, zip-all design plan faults findings (omega (arith, e)) (λ number other found there kept. h (suc number) other found there kept))

-- the grade of a fault, by what was found of the one that stands for it
grade-by-class : (design : FlatDesign) (plan : TestPlan) (places : List ℕ) (found : List Finding) (ends : List End) (count number place : ℕ) (fault : StuckAt) (end : End) → ClassesAgree →
    KeepsRules design → AreClasses design plan.faults places →
    AreFound design plan found → HasEnds count found ends → slice_get plan.faults number ≡ Some fault → slice_get places number ≡ Some place → slice_get ends place ≡ Some end →
    grade design plan fault ≡ Some (grade_of end)
grade-by-class design plan places found ends count number place fault end law rules classes complete has at stands told =
    let first = place-represents design plan.faults places classes number fault place at stands in
    let e = has.each place (complete.complete place first.0) in
    let g : IsFinding design plan e.2.finding = All-contains (IsFinding design plan) found e.2.finding complete.graded e.2.there in
    let same_fault : g.fault ≡ first.0.fault = same_Some g.fault first.0.fault (sym g.listed ∙ ap (slice_get plan.faults) e.2.fault ∙ first.0.listed) in
    let same_end : e.0 ≡ end = same_Some e.0 end (sym e.1 ∙ told) in
    sym (law design plan first.0.fault fault rules first.1) ∙ ap (grade design plan) (sym same_fault) ∙ g.graded ∙ ap (λ (one : End). Some (grade_of one)) (e.2.tells ∙ same_end)

-- the findings on all listed faults are their grades
pub listed-grades : (design : FlatDesign) (plan : TestPlan) (standing : List ℕ) (found : List Finding) (ends : List End) (count number : ℕ) (findings : List Finding) → ClassesAgree →
    KeepsRules design → length standing ≡ length plan.faults →
    AreClasses design plan.faults standing → AreFound design plan found → HasEnds count found ends → number ≡ length standing → ListedSoFar standing ends number findings →
    AreGrades design plan (grades_of findings)
listed-grades design plan standing found ends count number findings law rules counted classes complete has all so =
    zip-all design plan plan.faults findings (so.counted ∙ all ∙ counted)
    (λ k fault finding at kept. let e = so.each k finding kept in grade-by-class design plan standing found ends count k e.0 fault finding.end law rules classes complete has at e.1 e.2)
