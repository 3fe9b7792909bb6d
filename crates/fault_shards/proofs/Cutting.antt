-- The numbers that stand for themselves, so far.
use Rattle.std.proofs.Common.{◌≡◌, ℕ, ◌+◌, ◌<◌, ◌≤◌, List, [], ◌∷◌, ◌++◌, length, get_or, map, Contains, arith, sym, ap, subst, ◌∙◌, ◌⊎◌, ⊎_elim}
use Rattle.std.specs.Prelude.{Some, slice_get}
use Rattle.std.specs.List.Sorted.{IsStrictlyIncreasing}
use Rattle.std.specs.Option.{option_map}
use Rattle.std.proofs.lemmas.List.{length_push, get_or_append_left, get_or_push, map_push, get_or-map}
use Rattle.std.proofs.lemmas.List.Elements.{Contains-push, Contains-push_cases, Contains-append_left, Contains-get_or}
use Rattle.std.proofs.lemmas.Option.{same_Some, slice_get-get_or, slice_get_within, slice_get-map}
use Rattle.vf_base.specs.Base.{fault_number}
use Rattle.vf_base.specs.declared.ids.FaultId.{FaultId}
use Rattle.fault_shards.specs.Representatives.{StandForThemselves}

-- those below a number that stand for themselves, in order
pub record OwnBelow (standing own : List ℕ) (end : ℕ) : Type 0 where
  pub ascend : IsStrictlyIncreasing own
  pub few : length own ≤ end
  pub there : (number : ℕ) → Contains own number → (number < end) × (slice_get standing number ≡ Some number)
  pub all : (number : ℕ) → number < end → slice_get standing number ≡ Some number → Contains own number

pub below-or-at : (k n : ℕ) → k < n + 1 → (k < n) ⊎ (k ≡ n)
below-or-at k n h = grind arith

increasing-push : (own : List ℕ) (x : ℕ) → IsStrictlyIncreasing own → ((k : ℕ) → Contains own k → k < x) → IsStrictlyIncreasing (own ++ x ∷ [])
increasing-push own x rises below k inside =
    let size : length (own ++ x ∷ []) ≡ length own + 1 = length_push own x in
    let first : k < length own = omega arith in
    let at : k + 1 < length own + 1 = omega arith in
    let here : get_or (own ++ x ∷ []) k 0 ≡ get_or own k 0 = get_or_append_left own (x ∷ []) 0 k first in
    ⊎_elim (λ (inner : k + 1 < length own).
    let next : get_or (own ++ x ∷ []) (k + 1) 0 ≡ get_or own (k + 1) 0 = get_or_append_left own (x ∷ []) 0 (k + 1) inner in
    let rise : get_or own k 0 < get_or own (k + 1) 0 = rises k inner in
    omega arith)
    (λ (last : k + 1 ≡ length own).
    let next : get_or (own ++ x ∷ []) (k + 1) 0 ≡ x = get_or_push own x 0 (k + 1) (sym last) in
    let rise : get_or own k 0 < x = below (get_or own k 0) (Contains-get_or own k 0 first) in
    omega arith)
    (below-or-at (k + 1) (length own) at)

-- before the first number
pub own-start : (standing : List ℕ) → OwnBelow standing [] 0
own-start standing = record {
  ascend = λ k inside. absurd (omega (arith, inside));
  few = omega arith;
  there = λ number c. absurd (omega (arith, c.1));
  all = λ number below stands. absurd (omega (arith, below));
}

-- a number more, which stands for itself
own-yes : (standing own : List ℕ) (end x : ℕ) → slice_get standing end ≡ Some x → x ≡ end → OwnBelow standing own end → OwnBelow standing (own ++ x ∷ []) (end + 1)
own-yes standing own end x stands is h = record {
  ascend = increasing-push own x h.ascend (λ k c. let below : k < end = (h.there k c).0 in omega (arith, below, is));
  few = (let size : length (own ++ x ∷ []) ≡ length own + 1 = length_push own x in let before : length own ≤ end = h.few in omega (arith, size, before));
  there = λ number c. ⊎_elim (λ (before : Contains own number). let p = h.there number before in let below : number < end = p.0 in (omega (arith, below), p.1))
      (λ (this : x ≡ number). (omega (arith, this, is), ap (slice_get standing) (sym this ∙ is) ∙ stands ∙ ap (λ (n : ℕ). Some n) this)) (Contains-push_cases own x number c);
  all = λ number below itself. ⊎_elim (λ (before : number < end). Contains-append_left own (x ∷ []) number (h.all number before itself))
      (λ (at : number ≡ end). let P : ℕ → Type 0 = λ n. Contains (own ++ x ∷ []) n in let here : P x = Contains-push own x in subst P (is ∙ sym at) here) (below-or-at number end below);
}

-- a number more, for which another one stands
own-no : (standing own : List ℕ) (end x : ℕ) → slice_get standing end ≡ Some x → (x ≡ end → ⊥) → OwnBelow standing own end → OwnBelow standing own (end + 1)
own-no standing own end x stands other h = record {
  ascend = h.ascend;
  few = (let before : length own ≤ end = h.few in omega (arith, before));
  there = λ number c. let p = h.there number c in let below : number < end = p.0 in (omega (arith, below), p.1);
  all = λ number below itself. ⊎_elim (λ (before : number < end). h.all number before itself)
      (λ (at : number ≡ end). absurd (other (same_Some x end (sym stands ∙ ap (slice_get standing) (sym at) ∙ itself ∙ ap (λ (n : ℕ). Some n) at)))) (below-or-at number end below);
}

-- the number at a place
pub number-at : (standing : List FaultId) (number : ℕ) (d : FaultId) → number < length standing → slice_get (map fault_number standing) number ≡ Some (fault_number (get_or standing number d))
number-at standing number d below = slice_get-map fault_number standing number ∙ ap (option_map fault_number) (slice_get-get_or standing number d below)

-- a fault more, which stands for itself
pub own-more : (standing own : List FaultId) (number : ℕ) (d : FaultId) → number < length standing → fault_number (get_or standing number d) ≡ number →
    OwnBelow (map fault_number standing) (map fault_number own) number →
    OwnBelow (map fault_number standing) (map fault_number (own ++ get_or standing number d ∷ [])) (number + 1)
own-more standing own number d below is h =
    let P : List ℕ → Type 0 = λ (l : List ℕ). OwnBelow (map fault_number standing) l (number + 1) in
    subst P (sym (map_push fault_number own (get_or standing number d)))
    (own-yes (map fault_number standing) (map fault_number own) number (fault_number (get_or standing number d)) (number-at standing number d below) is h)

-- a fault more, for which another one stands
pub own-other : (standing own : List FaultId) (number : ℕ) (d : FaultId) → number < length standing → (fault_number (get_or standing number d) ≡ number → ⊥) →
    OwnBelow (map fault_number standing) (map fault_number own) number →
    OwnBelow (map fault_number standing) (map fault_number own) (number + 1)
own-other standing own number d below other h = own-no (map fault_number standing) (map fault_number own) number (fault_number (get_or standing number d)) (number-at standing number d below) other h

-- all numbers
pub own-all : (standing own : List ℕ) (end : ℕ) → length standing ≤ end → OwnBelow standing own end → StandForThemselves standing own
own-all standing own end past h = record {
  ascend = h.ascend;
  each = λ number. (
    (λ c. (h.there number c).1),
    (λ itself. h.all number (let within : number < length standing = slice_get_within standing number number itself in omega (arith, within, past))
        itself),
  );
}

-- the fault that stands for a listed one is listed
pub first-below : (standing : List FaultId) (number : ℕ) (d : FaultId) → number < length standing → ((k : ℕ) → k < length standing → get_or (map fault_number standing) k 0 < length standing) →
    fault_number (get_or standing number d) < length standing
first-below standing number d below within =
    let place : get_or (map fault_number standing) number 0 < length standing = within number below in
    let same : get_or (map fault_number standing) number 0 ≡ fault_number (get_or standing number d) = get_or-map fault_number standing number d 0 below in
    omega (arith, place, same)
