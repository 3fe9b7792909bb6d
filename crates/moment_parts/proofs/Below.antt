-- Elements of a list that are put one after another (nothing of the language), and states of processes among them (processes by IEEE 1364-2001, clause 9).
use Rattle.std.proofs.Common.{◌≡◌, ℕ, zero, suc, ◌+◌, ◌<◌, ◌≤◌, List, [], ◌∷◌, map, length, get_or, set, Vec, Global, refl, sym, ap, subst, ◌∙◌, inl, inr, arith}
use Rattle.std.specs.Prelude.{Some, slice_get}
use Rattle.std.proofs.lemmas.Bool.{cases_eq}
use Rattle.std.proofs.lemmas.List.{length-set, get_or-set_same, get_or-set_other}
use Rattle.std.proofs.lemmas.Option.{slice_get_within, slice_get-get_or, get_or_from_slice_get}
use Rattle.v_design.specs.Designs.{FlatDesign}
use Rattle.v_design.specs.Plain.{due_of}
use Rattle.v_design.specs.Processes.{Activity}
use Rattle.v_design.specs.States.{LaterUpdate}
use Rattle.v_design.specs.declared.plan.Due.{Due}
use Rattle.process_code.specs.Codes.{rests_in_code}
use Rattle.process_code.specs.Points.{point_of, activity_at}
use Rattle.process_code.specs.StatesOf.{IsStateOf}
use Rattle.process_code.specs.declared.code.Code.{Code}
use Rattle.process_code.specs.declared.state.ProcState.{ProcState}
use Rattle.run_ends.specs.RunEnds.{IsCodeAt}
use Rattle.good_trace.specs.RunsKept.{Stands}
use Rattle.moment_parts.specs.Lanes.{lane_left, lanes_left, later_lists}
use Rattle.moment_parts.specs.StatesKept.{AreStatesOf}
use Rattle.moment_parts.specs.declared.lane.Lane.{Lane}

-- what is said of the elements below a place
pub record AreBelow (A : Type 0) (said : ℕ → A → Type 0) (limit count : ℕ) (items : List A) : Type 0 where
  pub count_is : length items ≡ count
  pub below : (n : ℕ) (x : A) → n < limit → slice_get items n ≡ Some x → said n x

pub below-none : (A : Type 0) (said : ℕ → A → Type 0) (count : ℕ) (items : List A) → length items ≡ count → AreBelow A said 0 count items
below-none A said count items is = record { count_is = is; below = λ n x low here. absurd (omega (arith, low)) }

pub at-place : {A : Type 0} (items : List A) (n : ℕ) (x : A) → n < length items → x ≡ get_or items n x → slice_get items n ≡ Some x
at-place items n x low is = slice_get-get_or items n x low ∙ ap Some (sym is)

put-same : {A : Type 0} (items : List A) (place : ℕ) (x own : A) → place < length items → slice_get (set items place x) place ≡ Some own → own ≡ x
put-same items place x own low here = sym (get_or_from_slice_get (set items place x) place own x here) ∙ get_or-set_same items place x x low

put-other : {A : Type 0} (items : List A) (place q : ℕ) (x own : A) → (q ≡ place → ⊥) → slice_get (set items place x) q ≡ Some own → slice_get items q ≡ Some own
put-other items place q x own apart here =
    let low : q < length items = (let l = slice_get_within (set items place x) q own here in let e : length (set items place x) ≡ length items = length-set items place x in omega (arith, l, e)) in
    slice_get-get_or items q own low ∙ ap Some (sym (get_or-set_other items place q x own apart) ∙ get_or_from_slice_get (set items place x) q own own here)

-- one element more
pub below-more : (A : Type 0) (said : ℕ → A → Type 0) (limit count : ℕ) (items made : List A) (x : A) → limit < length items → said limit x → made ≡ set items limit x →
    AreBelow A said limit count items → AreBelow A said (limit + 1) count made
below-more A said limit count items made x low own put are = record {
  count_is = ap length put ∙ length-set items limit x ∙ are.count_is;
  below = λ n y less here. elim (cases_eq n limit) [
    | inl same ↦
        let is : y ≡ x = put-same items limit x y low (subst (λ k. slice_get (set items limit x) k ≡ Some y) same (subst (λ l. slice_get l n ≡ Some y) put here)) in
        subst (λ z. said n z) (sym is) (subst (λ k. said k x) (sym same) own)
    | inr apart ↦
        are.below n y (low-left n limit less apart) (put-other items limit n x y apart (subst (λ l. slice_get l n ≡ Some y) put here))
  ];
}
  where
    low-left : (n limit : ℕ) → n < limit + 1 → (n ≡ limit → ⊥) → n < limit
    low-left zero zero less apart = absurd (apart refl)
    low-left zero (suc limit) less apart = omega arith
    low-left (suc n) zero less apart = absurd (omega (arith, less))
    low-left (suc n) (suc limit) less apart = let more : n < limit = low-left n limit (omega (arith, less)) (λ same. apart (ap suc same)) in omega (arith, more)

-- all of them
pub below-all : (A : Type 0) (said : ℕ → A → Type 0) (limit count : ℕ) (items : List A) (n : ℕ) (x : A) → count ≤ limit → AreBelow A said limit count items → slice_get items n ≡ Some x → said n x
below-all A said limit count items n x all are here =
    are.below n x (let l : n < length items = slice_get_within items n x here in let e : length items ≡ count = are.count_is in omega (arith, l, e, all)) here

-- Values

pub value-all : (A : Type 0) (f : ℕ → A) (limit count : ℕ) (items : List A) (nothing : A) (n : ℕ) → count ≤ limit → AreBelow A (λ k x. x ≡ f k) limit count items → n < count →
    get_or items n nothing ≡ f n
value-all A f limit count items nothing n all are low =
    below-all A (λ k x. x ≡ f k) limit count items n (get_or items n nothing) all are
    (slice_get-get_or items n nothing (let e : length items ≡ count = are.count_is in omega (arith, e, low)))

-- Pending updates

later-inside : (lists : List (Vec Due Global)) (n : ℕ) → n < length lists → (x : Vec Due Global) × ((slice_get lists n ≡ Some x) × (get_or (later_lists lists) n [] ≡ map due_of x.items))
later-inside [] n low = absurd (omega (arith, low))
later-inside (x ∷ lists) zero low = (x, (refl, refl))
later-inside (x ∷ lists) (suc n) low = later-inside lists n (omega (arith, low))

pub later-all : (f : ℕ → List LaterUpdate) (limit count : ℕ) (lists : List (Vec Due Global)) (n : ℕ) → count ≤ limit →
    AreBelow (Vec Due Global) (λ k x. map due_of x.items ≡ f k) limit count lists → n < count → get_or (later_lists lists) n [] ≡ f n
later-all f limit count lists n all are low =
    let there = later-inside lists n (let e : length lists ≡ count = are.count_is in omega (arith, e, low)) in
    there.1.1 ∙ below-all (Vec Due Global) (λ k x. map due_of x.items ≡ f k) limit count lists n there.0 all are there.1.0

-- Lanes

pub lanes-none : (limit count : ℕ) (lanes : List Lane) (n : ℕ) → count ≤ limit → AreBelow Lane (λ k x. lane_left x ≡ []) limit count lanes → get_or (lanes_left lanes) n [] ≡ []
lanes-none limit count lanes n all are = each lanes (λ k x here. below-all Lane (λ j y. lane_left y ≡ []) limit count lanes k x all are here) n
  where
    each : (ls : List Lane) → ((k : ℕ) (x : Lane) → slice_get ls k ≡ Some x → lane_left x ≡ []) → (n : ℕ) → get_or (lanes_left ls) n [] ≡ []
    each [] none n = refl
    each (x ∷ ls) none zero = none 0 x refl
    each (x ∷ ls) none (suc n) = each ls (λ k y here. none (suc k) y here) n

-- States

-- a copy of a state stands where that does
pub stand-copied : (design : FlatDesign) (p : ℕ) (activity : Activity) (old other made : ProcState) (states : List ProcState) → p < length states → old ≡ get_or states p old → AreStatesOf design states →
    Stands design p activity other → point_of made ≡ point_of other → ((code : Code) → IsStateOf code old → IsStateOf code other → IsStateOf code made) → Stands design p activity made
stand-copied design p activity old other made states low is are stands point state_of = record {
  state_of = λ code at. state_of code (are p old code (at-place states p old low is) at) (stands.state_of code at);
  does = λ code at. ap (activity_at (rests_in_code code)) point ∙ stands.does code at;
}

-- and all are states of their codes still
pub states-stay : (design : FlatDesign) (p : ℕ) (activity : Activity) (made : ProcState) (states new : List ProcState) → p < length states → Stands design p activity made → new ≡ set states p made →
    AreStatesOf design states → AreStatesOf design new
states-stay design p activity made states new low stands put are q own code here at = elim (cases_eq q p) [
  | inl same ↦
      let is : own ≡ made = put-same states p made own low (subst (λ k. slice_get (set states p made) k ≡ Some own) same (subst (λ l. slice_get l q ≡ Some own) put here)) in
      subst (λ s. IsStateOf code s) (sym is) (stands.state_of code (subst (λ k. IsCodeAt design k code) same at))
  | inr apart ↦ are q own code (put-other states p q made own apart (subst (λ l. slice_get l q ≡ Some own) put here)) at
]
