-- The lines of the faults so far (nothing of the language).
use Rattle.std.proofs.Common.{◌≡◌, ℕ, zero, suc, ◌+◌, ◌<◌, ◌≤◌, List, [], ◌∷◌, ◌++◌, length, get_or, take, Some, refl, ap, sym, ◌∙◌, subst, arith, append_assoc, append-nil, take_all, ◌⊎◌, inl, inr}
use Rattle.std.specs.Prelude.{slice_get}
use Rattle.std.specs.Option.{option_map}
use Rattle.std.proofs.lemmas.List.{take_more, map_push, length-map, length-take-le}
use Rattle.std.proofs.lemmas.Bool.{cases_order}
use Rattle.std.proofs.lemmas.Option.{slice_get_cases, slice_get_within, slice_get-map, none-some, same_Some}
use Rattle.vf_base.specs.Lists.{joined, zip_with}
use Rattle.v_design.specs.Designs.{FlatDesign, StuckAt}
use Rattle.v_design.specs.Sites.{faults_of}
use Rattle.v_design.specs.Plain.{fault_of}
use Rattle.v_design.specs.declared.plan.Fault.{Fault}
use Rattle.fault_list.specs.Listed.{stuck}
use Rattle.fault_list.specs.Classes.{IsFirstOfClass, AreClasses}
use Rattle.design_report.specs.Texts.{class_line, class_lines, IsFaultsText, IsTheFaultsText}

lines-push : {A B C : Type 0} (f : A → B → List C) (xs : List A) (ys : List B) (x : A) (y : B) → length xs ≡ length ys →
    joined (zip_with f (xs ++ x ∷ []) (ys ++ y ∷ [])) ≡ joined (zip_with f xs ys) ++ f x y
lines-push f [] [] x y same = append-nil (f x y)
lines-push f [] (b ∷ bs) x y same = absurd (omega arith)
lines-push f (a ∷ as') [] x y same = absurd (omega arith)
lines-push f (a ∷ as') (b ∷ bs) x y same = ap (λ l. f a b ++ l) (lines-push f as' bs x y (omega arith)) ∙ sym (append_assoc (f a b) (joined (zip_with f as' bs)) (f x y))

-- one more line
pub lines-more : (design : FlatDesign) (faults : List Fault) (places : List ℕ) (n : ℕ) (d : Fault) (e : ℕ) (out more : List ℕ) → n < length faults → n < length places →
    out ≡ class_lines design (stuck (take n faults)) (take n places) → more ≡ out ++ class_line design (fault_of (get_or faults n d)) (get_or places n e) →
    more ≡ class_lines design (stuck (take (n + 1) faults)) (take (n + 1) places)
lines-more design faults places n d e out more low within had added =
    let left : stuck (take (n + 1) faults) ≡ stuck (take n faults) ++ fault_of (get_or faults n d) ∷ [] = ap stuck (take_more faults n d low) ∙ map_push fault_of (take n faults) (get_or faults n d) in
    let count : length (stuck (take n faults)) ≡ length (take n places) =
    length-map (take n faults) fault_of ∙ (length-take-le n faults (omega arith) ∙ sym (length-take-le n places (omega arith))) in
    added ∙ (ap (λ l. l ++ class_line design (fault_of (get_or faults n d)) (get_or places n e)) had
    ∙ (sym (lines-push (class_line design) (stuck (take n faults)) (take n places) (fault_of (get_or faults n d)) (get_or places n e) count)
    ∙ (ap (λ l. class_lines design l (take n places ++ get_or places n e ∷ [])) (sym left) ∙ ap (λ l. class_lines design (stuck (take (n + 1) faults)) l) (sym (take_more places n e within)))))

-- each listed fault has a place
pub has-place : (design : FlatDesign) (faults : List Fault) (places : List ℕ) (n : ℕ) → AreClasses design (stuck faults) places → n < length faults → n < length places
has-place design faults places n are low =
    elim (slice_get_cases faults n).1 [
      | inl here ↦
          let place = are n (fault_of here.0) (slice_get-map fault_of faults n ∙ ap (option_map fault_of) here.2) in
          slice_get_within places n place.0 place.1
      | inr past ↦ absurd (omega (arith, past.0))
    ]

zip-short : {A B C : Type 0} (f : A → B → C) (xs : List A) (ys : List B) (n : ℕ) → length xs ≤ n → zip_with f xs (take n ys) ≡ zip_with f xs ys
zip-short f [] ys n low = refl
zip-short f (x ∷ xs) [] n low = ap (zip_with f (x ∷ xs)) (take_all n [] (omega arith))
zip-short f (x ∷ xs) (y ∷ ys) zero low = absurd (omega (arith, low))
zip-short f (x ∷ xs) (y ∷ ys) (suc n) low = ap (λ l. f x y ∷ l) (zip-short f xs ys n (omega (arith, low)))

-- Each design has one text

-- the first listed fault of a class has one place
same-place : (design : FlatDesign) (faults : List StuckAt) (fault : StuckAt) (one other : ℕ) → IsFirstOfClass design faults fault one → IsFirstOfClass design faults fault other → one ≡ other
same-place design faults fault one other h k = by (cases_order one other)
  where
    by : (one ≡ other) ⊎ ((one < other) ⊎ (other < one)) → one ≡ other
    by (inl same) = same
    by (inr (inl low)) = absurd (k.least one h.first low h.stands h.alike)
    by (inr (inr high)) = absurd (h.least other k.first high k.stands k.alike)

-- what stands beside the same elements is the same
zip-same : {A B C : Type 0} (f : A → B → C) (xs : List A) (ys zs : List B) →
    ((n : ℕ) (x : A) → slice_get xs n ≡ Some x → (y : B) × (slice_get ys n ≡ Some y) × (slice_get zs n ≡ Some y)) → zip_with f xs ys ≡ zip_with f xs zs
zip-same f [] ys zs alike = refl
zip-same f (x ∷ xs) [] zs alike = let h = alike 0 x refl in absurd (none-some h.0 h.1)
zip-same f (x ∷ xs) (y ∷ ys) [] alike = let h = alike 0 x refl in absurd (none-some h.0 h.2)
zip-same f (x ∷ xs) (y ∷ ys) (z ∷ zs) alike =
    let h = alike 0 x refl in
    let same : y ≡ z = same_Some y h.0 h.1 ∙ sym (same_Some z h.0 h.2) in
    ap (λ v. f x v ∷ zip_with f xs ys) same ∙ ap (λ l. f x z ∷ l) (zip-same f xs ys zs (λ n v e. alike (suc n) v e))

pub one-text : (design : FlatDesign) (one other : List ℕ) → IsFaultsText design one → IsFaultsText design other → other ≡ one
one-text design one other h k = k.text_is ∙ (ap joined (zip-same (class_line design) (faults_of design) k.places h.places alike) ∙ sym h.text_is)
  where
    alike : (n : ℕ) (fault : StuckAt) → slice_get (faults_of design) n ≡ Some fault → (place : ℕ) × (slice_get k.places n ≡ Some place) × (slice_get h.places n ≡ Some place)
    alike n fault e =
        let a = k.classes n fault e in let b = h.classes n fault e in
        (a.0, a.1, b.1 ∙ ap Some (same-place design (faults_of design) fault b.0 a.0 b.3 a.3))

-- after the last line
pub lines-done : (design : FlatDesign) (faults : List Fault) (places : List ℕ) (n : ℕ) (out : List ℕ) → stuck faults ≡ faults_of design → AreClasses design (stuck faults) places → length faults ≤ n →
    out ≡ class_lines design (stuck (take n faults)) (take n places) → IsTheFaultsText design out
lines-done design faults places n out listed are past had = record { is = is; only = λ other h. one-text design out other is h }
  where
    is : IsFaultsText design out
    is = record {
      places = places;
      classes = subst (λ l. AreClasses design l places) listed are;
      text_is =
          had ∙ (ap (λ l. class_lines design (stuck l) (take n places)) (take_all n faults past)
          ∙ (ap joined (zip-short (class_line design) (stuck faults) places n (let l = length-map faults fault_of in omega (arith, l, past))) ∙ ap (λ l. class_lines design l places) listed));
    }
