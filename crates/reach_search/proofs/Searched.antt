-- The search of what an object reaches, before a place of the set.
use Rattle.std.proofs.Common.{◌≡◌, ℕ, ◌+◌, ◌<◌, ◌≤◌, true, false, List, [], ◌∷◌, ◌++◌, length, get_or, drop, refl, ap, sym, ◌∙◌, subst, inl, inr, arith}
use Rattle.std.specs.Prelude.{Some, None, slice_get, nat_eq, ◌||◌}
use Rattle.std.proofs.lemmas.Bool.{cases_Bool, cases_eq, or_cases, or_left, or_right, or_parts, both_ways, eqb-true, eq-eqb, ne_eqb, cond-true, cond-false, cases_lt}
use Rattle.std.proofs.lemmas.List.{drop_more, drop_all, drop_at, drop-append-le, length-append}
use Rattle.std.proofs.lemmas.Option.{slice_get_within, get_or_from_slice_get, slice_get-get_or}
use Rattle.vf_base.specs.Lists.{has}
use Rattle.v_design.specs.Designs.{FlatDesign}
use Rattle.v_design.specs.WellFormed.{KeepsRules}
use Rattle.graph_order.specs.ListLaws.{has-get_or, has-append}
use Rattle.object_set.specs.Ordered.{with_object, with_objects}
use Rattle.object_set.specs.OrderLaws.{has-with_object, has-with_objects, with_objects-behind}
use Rattle.reach_search.specs.Reach.{reaches, successors, IsClosed}
use Rattle.reach_search.proofs.Steps.{reaches-itself, reaches-step, closed-reaches, bools_agree}

-- with each object but for some what the nodes that read it drive
abbrev IsClosedBut : FlatDesign → List ℕ → List ℕ → Type 0
IsClosedBut design objects left = (from to : ℕ) → has objects from ≡ true → has left from ≡ false → has (successors design from) to ≡ true → has objects to ≡ true

-- the search from an object, before a place: what was there, and what the object reaches; what is from the place on is still to be gone through
pub record IsSearched (design : FlatDesign) (object : ℕ) (old : List ℕ) (at : ℕ) (found : List ℕ) : Type 0 where
  pub within : at ≤ length found
  pub kept : (o : ℕ) → has old o ≡ true → has found o ≡ true
  pub begun : has found object ≡ true
  pub only : (o : ℕ) → has found o ≡ true → (has old o || reaches design object o) ≡ true
  pub closed : IsClosedBut design found (drop at found)

-- the object is put in
pub IsSearched-start : (design : FlatDesign) (object : ℕ) (old : List ℕ) → IsClosed design old → IsSearched design object old (length old) (with_object old object)
IsSearched-start design object old closed = record {
  within = let behind = with_objects-behind old (object ∷ []) in omega (arith, ap length behind.1, length-append old behind.0);
  kept = λ o there. has-with_object old object o ∙ or_left (has old o) (nat_eq object o) there;
  begun = has-with_object old object object ∙ or_right (has old object) (nat_eq object object) (eq-eqb object object refl);
  only = λ o there.
      elim (or_cases (has old o) (nat_eq object o) (sym (has-with_object old object o) ∙ there)) [
        | inl before ↦ or_left (has old o) (reaches design object o) before
        | inr same ↦ or_right (has old o) (reaches design object o) (subst (λ x. reaches design object x ≡ true) (eqb-true object o same) (reaches-itself design object))
      ];
  closed = λ from to there done drives. has-with_object old object to ∙ or_left (has old to) (nat_eq object to) (closed from to (before from there done) drives);
}
  where
    -- what is in and isn't still to be gone through was in before
    before : (from : ℕ) → has (with_object old object) from ≡ true → has (drop (length old) (with_object old object)) from ≡ false → has old from ≡ true
    before from there done =
        elim (cases_Bool (has old object)) [
          | inl had ↦ ap (λ l. has l from) (sym (cond-true (has old object) old (old ++ object ∷ []) had)) ∙ there
          | inr new ↦
              let is : with_object old object ≡ old ++ object ∷ [] = cond-false (has old object) old (old ++ object ∷ []) new in
              let rest : drop (length old) (with_object old object) ≡ object ∷ [] = ap (drop (length old)) is ∙ drop_at old (object ∷ []) (length old) refl in
              elim (or_cases (has old from) (has (object ∷ []) from) (sym (has-append old (object ∷ []) from) ∙ ap (λ l. has l from) (sym is) ∙ there)) [
                | inl old_one ↦ old_one
                | inr last ↦ absurd (both_ways (has (object ∷ []) from) (ap (λ l. has l from) (sym rest) ∙ done) last)
              ]
        ]

-- one more object is gone through
pub IsSearched-more : (design : FlatDesign) → ∥ KeepsRules design ∥₁ → (object : ℕ) (old : List ℕ) (at : ℕ) (found : List ℕ) (next : ℕ) → IsClosed design old → slice_get found at ≡ Some next →
    IsSearched design object old at found → IsSearched design object old (at + 1) (with_objects found (successors design next))
IsSearched-more design rules object old at found next closed is had = record {
  within = omega (arith, low, ap length behind.1, length-append found behind.0);
  kept = λ o there. stays o (had.kept o there);
  begun = stays object had.begun;
  only = λ o there.
      elim (or_cases (has found o) (has (successors design next) o) (sym (has-with_objects found (successors design next) o) ∙ there)) [
        | inl before ↦ had.only o before
        | inr new ↦
            elim (or_cases (has old next) (reaches design object next) (had.only next is_in)) [
              | inl was ↦ or_left (has old o) (reaches design object o) (closed next o was new)
              | inr reached ↦ or_right (has old o) (reaches design object o) (reaches-step design rules object next o reached new)
            ]
      ];
  closed = λ from to there done drives.
      elim (cases_eq next from) [
        | inl same ↦
            has-with_objects found (successors design next) to
            ∙ or_right (has found to) (has (successors design next) to) (subst (λ x. has (successors design x) to ≡ true) (sym same) drives)
        | inr other ↦
            let parts = or_parts (has (drop (at + 1) found) from) (has behind.0 from)
            (sym (has-append (drop (at + 1) found) behind.0 from) ∙ ap (λ l. has l from) (sym rest) ∙ done) in
            stays to
            (had.closed from to (before from there parts.1) (ap (λ l. has l from) here ∙ ap (λ b. b || has (drop (at + 1) found) from) (ne_eqb next from other) ∙ parts.0) drives)
      ];
}
  where
    behind : (more : List ℕ) × (with_objects found (successors design next) ≡ found ++ more)
    behind = with_objects-behind found (successors design next)

    low : at < length found
    low = slice_get_within found at next is

    is_in : has found next ≡ true
    is_in = ap (has found) (sym (get_or_from_slice_get found at next 0 is)) ∙ has-get_or found at 0 low

    stays : (o : ℕ) → has found o ≡ true → has (with_objects found (successors design next)) o ≡ true
    stays o there = has-with_objects found (successors design next) o ∙ or_left (has found o) (has (successors design next) o) there

    here : drop at found ≡ next ∷ drop (at + 1) found
    here = drop_more found at 0 low ∙ ap (λ x. x ∷ drop (at + 1) found) (get_or_from_slice_get found at next 0 is)

    rest : drop (at + 1) (with_objects found (successors design next)) ≡ drop (at + 1) found ++ behind.0
    rest = ap (drop (at + 1)) behind.1 ∙ drop-append-le (at + 1) found behind.0 (omega (arith, low))

    before : (from : ℕ) → has (with_objects found (successors design next)) from ≡ true → has behind.0 from ≡ false → has found from ≡ true
    before from there none =
        elim (or_cases (has found from) (has behind.0 from) (sym (has-append found behind.0 from) ∙ ap (λ l. has l from) (sym behind.1) ∙ there)) [
          | inl old_one ↦ old_one
          | inr new ↦ absurd (both_ways (has behind.0 from) none new)
        ]

-- all are gone through
past_all : (found : List ℕ) (at : ℕ) → None ≡ slice_get found at → length found ≤ at
past_all found at none =
    elim (cases_lt at (length found)) [
      | inl low ↦ absurd (let is : slice_get found at ≡ Some (get_or found at 0) = slice_get-get_or found at 0 low in cc)
      | inr past ↦ past
    ]

pub IsSearched-closed : (design : FlatDesign) (object : ℕ) (old : List ℕ) (at : ℕ) (found : List ℕ) → None ≡ slice_get found at → IsSearched design object old at found → IsClosed design found
IsSearched-closed design object old at found none had from to there drives =
    had.closed from to there (ap (λ l. has l from) (drop_all at found (past_all found at none))) drives

pub IsSearched-all : (design : FlatDesign) → ∥ KeepsRules design ∥₁ → (object : ℕ) (old : List ℕ) (at : ℕ) (found : List ℕ) → None ≡ slice_get found at → IsSearched design object old at found →
    (other : ℕ) → has found other ≡ (has old other || reaches design object other)
IsSearched-all design rules object old at found none had other =
    bools_agree (has found other) (has old other || reaches design object other) (had.only other)
    (λ either. elim (or_cases (has old other) (reaches design object other) either) [
      | inl before ↦ had.kept other before
      | inr reached ↦ closed-reaches design rules found (IsSearched-closed design object old at found none had) object other had.begun reached
    ])
