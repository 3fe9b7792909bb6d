-- What is kept of one process.
use Rattle.std.proofs.Common.{◌≡◌, ◌≢◌, ℕ, ◌<◌, List, length, get_or, map, refl, ap, sym, subst, ◌∙◌, arith}
use Rattle.std.specs.Prelude.{Option, Some, None}
use Rattle.std.proofs.lemmas.List.{get_or-map}
use Rattle.std.proofs.lemmas.Option.{same_Some}
use Rattle.process_code.specs.Points.{point_of, activity_at, activity_of}
use Rattle.process_code.specs.Positions.{rests_of}
use Rattle.process_code.specs.StatesOf.{IsStateOf}
use Rattle.process_code.specs.declared.code.Code.{Code}
use Rattle.process_code.specs.declared.state.ProcState.{ProcState}
use Rattle.copy_state.specs.Entries.{with_entry, without_entry}
use Rattle.copy_state.specs.EntryLaws.{own-with_same, own-with_other, own-without_same, own-without_other}
use Rattle.copy_state.specs.Kept.{AreOfCode}
use Rattle.copy_between.specs.Differing.{IsDifference, IsOwnState, IsKeptAt}
use Rattle.copy_between.specs.DifferingLaws.{none-differs}

-- an entry of its own, or none
pub kept-with : {A : Type 0} (R : Option A → Type 0) (number : ℕ) (x : A) (old : List (ℕ × A)) → R (Some x) → IsKeptAt R number old (with_entry number x old)
kept-with R number x old right = record {
  here = subst R (sym (own-with_same number x old)) right;
  others = λ other differ. own-with_other number other x old differ;
}

pub kept-without : {A : Type 0} (R : Option A → Type 0) (number : ℕ) (old : List (ℕ × A)) → R None → IsKeptAt R number old (without_entry number old)
kept-without R number old right = record {
  here = subst R (sym (own-without_same number old)) right;
  others = λ other differ. own-without_other number other old differ;
}

-- where both aren't the same the own one is kept
pub own-differs : {A : Type 0} (good own : A) → own ≢ good → IsDifference good own (Some own)
own-differs {A} good own differ = record { tells = refl; differs = λ kept is same. differ (let found : own ≡ kept = cc in found ∙ same) }

-- Processes

pub none-state : (good own : ProcState) → ((code : Code) → activity_of code own ≡ activity_of code good) → IsOwnState good own None
none-state good own same = record {
  does = λ code of. none-differs (activity_of code good) (activity_of code own) (same code);
  state_of = λ code state of is. cc;
}

pub own-state : (good own kept : ProcState) → point_of kept ≡ point_of own → ((code : Code) → IsStateOf code own → IsStateOf code kept) →
    ((code : Code) → AreOfCode code good own → activity_of code own ≢ activity_of code good) → IsOwnState good own (Some kept)
own-state good own kept point states differ = record {
  does = λ code of.
      let same : activity_of code own ≡ activity_of code kept = ap (activity_at (rests_of code.spots.items)) (sym point) in
      subst (λ a. IsDifference (activity_of code good) (activity_of code own) (Some a)) same (own-differs (activity_of code good) (activity_of code own) (differ code of));
  state_of = λ code state of is. subst (IsStateOf code) (same_Some kept state is) (states code of);
}

-- Lists

-- lists that are equal are equal at each place
pub element-same : {A B : Type 0} (f : A → B) (xs ys : List A) (i : ℕ) (x y : A) → i < length xs → length xs ≡ length ys → x ≡ get_or xs i x → y ≡ get_or ys i y →
    map f xs ≡ map f ys → f x ≡ f y
element-same f xs ys i x y low lengths here there same =
    ap f here ∙ sym (get_or-map f xs i x (f x) low) ∙ ap (λ l. get_or l i (f x)) same ∙ get_or-map f ys i y (f x) (omega (arith, low, lengths)) ∙ ap f (sym there)
