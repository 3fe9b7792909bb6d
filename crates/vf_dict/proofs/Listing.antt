-- What is kept of the listed faults, one by one.
use Rattle.std.proofs.Common.{◌≡◌, ℕ, zero, suc, ◌+◌, ◌<◌, ◌≤◌, List, [], ◌∷◌, ◌++◌, length, take, map, refl, sym, ap, subst, ◌∙◌, arith, length-take-le}
use Rattle.std.specs.Prelude.{Some, slice_get}
use Rattle.std.specs.List.{AllZip}
use Rattle.std.specs.Option.{option_map}
use Rattle.std.proofs.lemmas.List.{length_push, map_push, take_all, take_more}
use Rattle.std.proofs.lemmas.Option.{same_Some, get_or_from_slice_get, slice_get_within}
use Rattle.vf_base.specs.Base.{fault_number}
use Rattle.vf_base.specs.declared.ids.FaultId.{FaultId}
use Rattle.v_design.specs.Designs.{FlatDesign, StuckAt, TestPlan}
use Rattle.v_design.specs.Expressions.{up_from}
use Rattle.v_design.specs.Plain.{grade_of}
use Rattle.v_design.specs.Sites.{AreOneClass}
use Rattle.v_design.specs.WellFormed.{KeepsRules}
use Rattle.fault_list.specs.FullGrades.{FullGradesAgree}
use Rattle.kept_samples.specs.Plain.{sample_of}
use Rattle.kept_samples.specs.Kept.{Keeps}
use Rattle.kept_samples.specs.declared.kept.Kept.{Kept}
use Rattle.vf_dict.specs.Listings.{AreKept}

-- Two lists, place by place

pub zip-push : {A B : Type 0} (P : A → B → Type 0) (xs : List A) (ys : List B) (x : A) (y : B) → AllZip P xs ys → P x y → AllZip P (xs ++ x ∷ []) (ys ++ y ∷ [])
zip-push P [] [] x y h p = (p, tt)
zip-push P [] (z ∷ ys) x y h p = absurd h
zip-push P (w ∷ xs) [] x y h p = absurd h
zip-push P (w ∷ xs) (z ∷ ys) x y h p = (h.0, zip-push P xs ys x y h.1 p)

-- what holds of the first so many elements and of those of another list holds at each place of that one
pub zip-at : {A B : Type 0} (P : A → B → Type 0) (count : ℕ) (xs : List A) (ys : List B) (k : ℕ) (x : A) (y : B) → AllZip P (take count xs) ys → slice_get xs k ≡ Some x → slice_get ys k ≡ Some y →
    P x y
zip-at P zero xs [] k x y h e f = cc
zip-at P zero xs (z ∷ ys) k x y h e f = absurd h
zip-at P (suc count) [] ys k x y h e f = cc
zip-at P (suc count) (w ∷ xs) [] k x y h e f = cc
zip-at P (suc count) (w ∷ xs) (z ∷ ys) zero x y h e f = subst (λ a. P a y) (same_Some w x e) (subst (P w) (same_Some z y f) h.0)
zip-at P (suc count) (w ∷ xs) (z ∷ ys) (suc k) x y h e f = zip-at P count xs ys k x y h.1 e f

up_from-more : (start count : ℕ) → up_from start (count + 1) ≡ up_from start count ++ (start + count) ∷ []
up_from-more start count = subst (λ n. up_from start n ≡ up_from start count ++ (start + count) ∷ []) (suc-is count) (go start count)
  where
    suc-is : (n : ℕ) → suc n ≡ n + 1
    suc-is n = omega arith

    go : (from n : ℕ) → up_from from (suc n) ≡ up_from from n ++ (from + n) ∷ []
    go from zero = ap (λ x. x ∷ []) (omega arith)
    go from (suc n) = ap (λ xs. from ∷ xs) (go (from + 1) n ∙ ap (λ x. up_from (from + 1) n ++ x ∷ []) (omega arith))

-- The listed faults

-- one fault more
pub kept-more : (design : FlatDesign) (plan : TestPlan) (faults : List StuckAt) (kept : List Kept) (count : ℕ) (fault : StuckAt) (own : Kept) → slice_get faults count ≡ Some fault →
    AreKept design plan (take count faults) kept →
    Keeps design plan fault own → fault_number own.fault ≡ count → AreKept design plan (take (count + 1) faults) (kept ++ own ∷ [])
kept-more design plan faults kept count fault own at so keeps number =
    subst (λ listed. AreKept design plan listed (kept ++ own ∷ [])) (sym (take_more faults count fault below
    ∙ ap (λ f. take count faults ++ f ∷ []) (get_or_from_slice_get faults count fault fault at))) (record {
      each = zip-push (Keeps design plan) (take count faults) kept fault own so.each keeps;
      numbered =
          map_push (λ (one : Kept). fault_number one.fault) kept own
          ∙ (λ i. so.numbered i ++ number i ∷ [])
          ∙ sym (ap (up_from 0) (length_push (take count faults) fault) ∙ up_from-more 0 (length (take count faults)) ∙ ap (λ n. up_from 0 (length (take count faults)) ++ n ∷ []) size);
    })
  where
    below : count < length faults
    below = slice_get_within faults count fault at

    size : 0 + length (take count faults) ≡ count
    size = let taken : length (take count faults) ≡ count = length-take-le count faults (omega (arith, below)) in omega (arith, taken)

-- all of them
pub kept-whole : (design : FlatDesign) (plan : TestPlan) (faults : List StuckAt) (kept : List Kept) (count : ℕ) → length faults ≤ count → AreKept design plan (take count faults) kept →
    AreKept design plan faults kept
kept-whole design plan faults kept count past so = subst (λ listed. AreKept design plan listed kept) (take_all count faults past) so

-- what is kept of a fault is kept of each one of its class
pub kept-copied : (design : FlatDesign) (plan : TestPlan) (one other : StuckAt) (same own : Kept) (number : FaultId) → FullGradesAgree → KeepsRules design → AreOneClass design one other →
    Keeps design plan one same → own ≡ record same { fault = number } →
    Keeps design plan other own
kept-copied design plan one other same own number law rules alike k is = (
  k.0,
  sym (law design plan one other rules alike) ∙ k.1,
  record { end = ap (λ (x : Kept). option_map grade_of x.end) is ∙ k.2.end; differs = ap (λ (x : Kept). map sample_of x.differs) is ∙ k.2.differs },
)

-- a list has an element at each place below its length
pub element-at : {A : Type 0} (xs : List A) (k : ℕ) → k < length xs → (x : A) × (slice_get xs k ≡ Some x)
element-at [] k below = absurd (omega (arith, below))
element-at (x ∷ xs) zero below = (x, refl)
element-at (x ∷ xs) (suc k) below = element-at xs k (omega (arith, below))

-- lists that agree place by place are as long as each other
zip-length : {A B : Type 0} (P : A → B → Type 0) (xs : List A) (ys : List B) → AllZip P xs ys → length xs ≡ length ys
zip-length P [] [] h = refl
zip-length P [] (y ∷ ys) h = absurd h
zip-length P (x ∷ xs) [] h = absurd h
zip-length P (x ∷ xs) (y ∷ ys) h = let rest : length xs ≡ length ys = zip-length P xs ys h.1 in omega (arith, rest)

-- so many faults are kept
pub kept-count : (design : FlatDesign) (plan : TestPlan) (faults : List StuckAt) (kept : List Kept) (count : ℕ) → count < length faults → AreKept design plan (take count faults) kept →
    length kept ≡ count
kept-count design plan faults kept count below so =
    sym (zip-length (Keeps design plan) (take count faults) kept so.each) ∙ length-take-le count faults (omega (arith, below))
