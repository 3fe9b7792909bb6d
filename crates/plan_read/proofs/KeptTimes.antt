-- The times of a sorted list, each once.
use Rattle.std.proofs.Common.{◌≡◌, ◌≢◌, ℕ, suc, ◌+◌, ◌≤◌, ◌<◌, ◌↔◌, List, [], ◌∷◌, ◌++◌, length, take, get_or, slice_index, Contains, All, Option, Some, None, IfSome, arith, refl, sym, ◌∙◌, ap}
use Rattle.std.proofs.Common.{subst, ◌⊎◌, inl, inr, ⊎_elim, length-append, length-take-le, IsTrue}
use Rattle.std.specs.List.Sorted.{IsNonDecreasing}
use Rattle.std.proofs.Math.ListN.{get_or-append}
use Rattle.std.proofs.Math.Seq.{get_or-append_seam}
use Rattle.std.proofs.lemmas.List.{take_more, get_or-take, get_or_default}
use Rattle.std.proofs.lemmas.List.Elements.{Contains-push, Contains-append_left, Contains-append_right, Contains-append_cases, Contains-get_or}
use Rattle.plan_read.specs.Steps.{IsPast}

-- a time is up to the last one
abbrev pub IsUpTo : Option ℕ → ℕ → Type 0
IsUpTo None time = ⊥
IsUpTo (Some last) time = time ≤ last

-- the times that were kept of the ones so far
pub record Keeps (taken kept : List ℕ) (last : Option ℕ) : Type 0 where
  pub ordered : (i j : ℕ) → i < j → j < length kept → get_or kept i 0 < get_or kept j 0
  pub up_to : (k : ℕ) → k < length kept → IsUpTo last (get_or kept k 0)
  pub there : (time : ℕ) → Contains kept time → Contains taken time
  pub all : (time : ℕ) → Contains taken time → Contains kept time
  pub last_there : IfSome last (λ time. Contains taken time)
  pub few : length kept ≤ length taken

less-than : (last : Option ℕ) (t x : ℕ) → IsUpTo last x → IsPast last t → x < t
less-than None t x up past = absurd up
less-than (Some l) t x up past = omega arith

here-or-before : (j n : ℕ) → j < n + 1 → (j < n) ⊎ (j ≡ n)
here-or-before j n h = grind arith

ordered-more : (kept : List ℕ) (t : ℕ) → ((i j : ℕ) → i < j → j < length kept → get_or kept i 0 < get_or kept j 0) → ((k : ℕ) → k < length kept → get_or kept k 0 < t) → (i j : ℕ) → i < j →
    j < length (kept ++ t ∷ []) → get_or (kept ++ t ∷ []) i 0 < get_or (kept ++ t ∷ []) j 0
ordered-more kept t ordered less i j lt inside =
    let size : length (kept ++ t ∷ []) ≡ length kept + 1 = length-append kept (t ∷ []) in
    let at : j < length kept + 1 = omega arith in
    let before : i < length kept = omega arith in
    let ei : get_or (kept ++ t ∷ []) i 0 ≡ get_or kept i 0 = get_or-append kept (t ∷ []) 0 i before in
    ⊎_elim (λ (jl : j < length kept). let ej : get_or (kept ++ t ∷ []) j 0 ≡ get_or kept j 0 = get_or-append kept (t ∷ []) 0 j jl in let h : get_or kept i 0 < get_or kept j 0 = ordered i j lt jl in
    omega arith)
    (λ (jr : j ≡ length kept). let ej : get_or (kept ++ t ∷ []) j 0 ≡ t = ap (λ n. get_or (kept ++ t ∷ []) n 0) jr ∙ get_or-append_seam kept t [] 0 in let h : get_or kept i 0 < t = less i before in
    omega arith) (here-or-before j (length kept) at)

up_to-more : (kept : List ℕ) (t : ℕ) → ((k : ℕ) → k < length kept → get_or kept k 0 < t) → (k : ℕ) → k < length (kept ++ t ∷ []) → get_or (kept ++ t ∷ []) k 0 ≤ t
up_to-more kept t less k inside =
    let size : length (kept ++ t ∷ []) ≡ length kept + 1 = length-append kept (t ∷ []) in
    let at : k < length kept + 1 = omega arith in
    ⊎_elim (λ (kl : k < length kept). let ek : get_or (kept ++ t ∷ []) k 0 ≡ get_or kept k 0 = get_or-append kept (t ∷ []) 0 k kl in let h : get_or kept k 0 < t = less k kl in omega arith)
    (λ (kr : k ≡ length kept). let ek : get_or (kept ++ t ∷ []) k 0 ≡ t = ap (λ n. get_or (kept ++ t ∷ []) n 0) kr ∙ get_or-append_seam kept t [] 0 in omega arith) (here-or-before k (length kept) at)

taken-more : (sorted : List ℕ) (index t : ℕ) → index < length sorted → t ≡ get_or sorted index 0 → take (index + 1) sorted ≡ take index sorted ++ t ∷ []
taken-more sorted index t below at = take_more sorted index 0 below ∙ ap (λ x. take index sorted ++ x ∷ []) (sym at)

-- a later time is kept
pub Keeps-past : (sorted kept : List ℕ) (last : Option ℕ) (index t : ℕ) → index < length sorted → t ≡ get_or sorted index 0 → IsPast last t → Keeps (take index sorted) kept last →
    Keeps (take (index + 1) sorted) (kept ++ t ∷ []) (Some t)
Keeps-past sorted kept last index t below at past h =
    let less : (k : ℕ) → k < length kept → get_or kept k 0 < t = λ k lt. less-than last t (get_or kept k 0) (h.up_to k lt) past in
    let P : List ℕ → Type 0 = λ (l : List ℕ). Keeps l (kept ++ t ∷ []) (Some t) in
    let here : P (take index sorted ++ t ∷ []) = record {
      ordered = ordered-more kept t h.ordered less;
      up_to = up_to-more kept t less;
      there = λ time c. ⊎_elim (λ l. Contains-append_left (take index sorted) (t ∷ []) time (h.there time l)) (λ r. Contains-append_right (take index sorted) (t ∷ []) time r)
          (Contains-append_cases kept (t ∷ []) time c);
      all = λ time c. ⊎_elim (λ l. Contains-append_left kept (t ∷ []) time (h.all time l)) (λ r. Contains-append_right kept (t ∷ []) time r)
          (Contains-append_cases (take index sorted) (t ∷ []) time c);
      last_there = Contains-push (take index sorted) t;
      few = let h : length kept ≤ length (take index sorted) = h.few in simp length-append (omega arith);
    } in
    subst P (sym (taken-more sorted index t below at)) here

-- a time that isn't past the last one is the last one
is-last : (sorted : List ℕ) (last : Option ℕ) (index t : ℕ) → IsNonDecreasing sorted → index < length sorted → t ≡ get_or sorted index 0 → (IsPast last t → ⊥) →
    IfSome last (λ time. Contains (take index sorted) time) → Contains (take index sorted) t
is-last sorted None index t rises below at never there = absurd (never tt)
is-last sorted (Some l) index t rises below at never there =
    let size : length (take index sorted) ≡ index = length-take-le index sorted (omega arith) in
    let inside : there.0 < length (take index sorted) = there.1 in
    let before : there.0 < index = omega arith in
    let found : get_or sorted there.0 l ≡ l = sym (get_or-take index sorted there.0 l before) ∙ there.2 in
    let same : get_or sorted index l ≡ get_or sorted index 0 = get_or_default sorted index l 0 below in
    let up : get_or sorted there.0 l ≤ get_or sorted index l = rises there.0 index l (omega arith) below in
    let down : t ≤ l = at-most l t never in
    let e : l ≡ t = omega arith in
    let P : ℕ → Type 0 = λ x. Contains (take index sorted) x in
    let here : P l = there in
    subst P e here
  where
    at-most : (l t : ℕ) → (l < t → ⊥) → t ≤ l
    at-most l t never = ⊎_elim (λ (lt : l < t). absurd (never lt)) (λ (le : t ≤ l). le) (either l t)
      where
        either : (a b : ℕ) → (a < b) ⊎ (b ≤ a)
        either a b = grind arith

-- a time that isn't later is there already
pub Keeps-same : (sorted kept : List ℕ) (last : Option ℕ) (index t : ℕ) → IsNonDecreasing sorted → index < length sorted → t ≡ get_or sorted index 0 → (IsPast last t → ⊥) →
    Keeps (take index sorted) kept last → Keeps (take (index + 1) sorted) kept last
Keeps-same sorted kept last index t rises below at never h =
    let there : Contains (take index sorted) t = is-last sorted last index t rises below at never h.last_there in
    let P : List ℕ → Type 0 = λ (l : List ℕ). Keeps l kept last in
    let here : P (take index sorted ++ t ∷ []) = record {
      ordered = h.ordered;
      up_to = h.up_to;
      there = λ time c. Contains-append_left (take index sorted) (t ∷ []) time (h.there time c);
      all = λ time c. ⊎_elim (λ l. h.all time l) (λ r. let e : time ≡ t = only t time r in let P : ℕ → Type 0 = λ x. Contains kept x in let here : P t = h.all t there in subst P (sym e) here)
          (Contains-append_cases (take index sorted) (t ∷ []) time c);
      last_there = last-more last h.last_there;
      few = let h : length kept ≤ length (take index sorted) = h.few in simp length-append (omega arith);
    } in
    subst P (sym (taken-more sorted index t below at)) here
  where
    only : (t time : ℕ) → Contains (t ∷ []) time → time ≡ t
    only t time c = let z : c.0 ≡ 0 = omega arith in let e : get_or (t ∷ []) c.0 time ≡ time = c.2 in sym (ap (λ n. get_or (t ∷ []) n time) (sym z) ∙ e)

    last-more : (last : Option ℕ) → IfSome last (λ time. Contains (take index sorted) time) → IfSome last (λ time. Contains (take index sorted ++ t ∷ []) time)
    last-more None f = tt
    last-more (Some l) f = Contains-append_left (take index sorted) (t ∷ []) l f

-- what is kept of some times is up to a time that they are up to
pub kept-within : (kept times : List ℕ) (end : ℕ) → ((time : ℕ) → Contains kept time → Contains times time) → All (λ time. time ≤ end) times → All (λ time. time ≤ end) kept
kept-within kept times end from all k d lt =
    let c : Contains times (get_or kept k d) = from (get_or kept k d) (Contains-get_or kept k d lt) in
    let le : get_or times c.0 (get_or kept k d) ≤ end = all c.0 (get_or kept k d) c.1 in
    let same : get_or times c.0 (get_or kept k d) ≡ get_or kept k d = c.2 in
    omega arith
