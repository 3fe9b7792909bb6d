-- Those of some that are there, and lists that go with them (nothing of the language).
use Rattle.std.proofs.Common.{◌≡◌, ℕ, zero, suc, ◌+◌, ◌<◌, Bool, true, false, List, [], ◌∷◌, ◌++◌, map, length, refl, sym, ap, subst, ◌∙◌, arith}
use Rattle.std.specs.Prelude.{Option, Some, None, IsSome, is_some, option_to_list, replicate, slice_get, sum_by}
use Rattle.std.specs.List.{AllZip}
use Rattle.std.proofs.lemmas.List.{append-nil, length_push}
use Rattle.std.proofs.lemmas.Option.{same_Some}
use Rattle.vf_base.specs.Lists.{AllHold}
use Rattle.copy_lockstep.proofs.window_faults.Lists.{sum-push}
use Rattle.shard_slots.specs.Slots.{somes}

-- Lists with an element at the end

module _ {A : Type 0} where
  nil-push : (xs : List A) (x : A) → [] ≡ xs ++ x ∷ [] → ⊥
  nil-push [] x e = cc
  nil-push (y ∷ xs) x e = cc

  pub same-push : (xs ys : List A) (x y : A) → xs ++ x ∷ [] ≡ ys ++ y ∷ [] → (xs ≡ ys) × (x ≡ y)
  same-push [] [] x y e = (let same : x ≡ y = cc in (refl, same))
  same-push [] (z ∷ ys) x y e = (let rest : [] ≡ ys ++ y ∷ [] = cc in absurd (nil-push ys y rest))
  same-push (z ∷ xs) [] x y e = (let rest : [] ≡ xs ++ x ∷ [] = cc in absurd (nil-push xs x rest))
  same-push (z ∷ xs) (w ∷ ys) x y e =
      let rest : xs ++ x ∷ [] ≡ ys ++ y ∷ [] = cc in
      let head : z ≡ w = cc in
      let same = same-push xs ys x y rest in
      ((λ i. head i ∷ same.0 i), same.1)

-- Some that are there

module _ {C : Type 0} where
  pub somes-push : (founds : List (Option C)) (one : Option C) → somes (founds ++ one ∷ []) ≡ somes founds ++ option_to_list one
  somes-push [] None = refl
  somes-push [] (Some x) = refl
  somes-push (None ∷ founds) one = somes-push founds one
  somes-push (Some x ∷ founds) one = ap (λ (l : List C). x ∷ l) (somes-push founds one)

  pub all-somes : (P : C → Type 0) (founds : List (Option C)) → ((i : ℕ) (x : C) → slice_get founds i ≡ Some (Some x) → P x) → AllHold P (somes founds)
  all-somes P [] each = tt
  all-somes P (None ∷ founds) each = all-somes P founds (λ i x here. each (suc i) x here)
  all-somes P (Some x ∷ founds) each = (each 0 x refl, all-somes P founds (λ i y here. each (suc i) y here))

  -- of a list of which it is told by element which are there, the last one
  pub record Last (founds : List (Option C)) (before : List Bool) (flag : Bool) : Type 0 where
    pub front : List (Option C)
    pub last : Option C
    pub all : founds ≡ front ++ last ∷ []
    pub before_are : before ≡ map is_some front
    pub flag_is : flag ≡ is_some last

  pub last-of : (founds : List (Option C)) (before : List Bool) (flag : Bool) → map is_some founds ≡ before ++ flag ∷ [] → Last founds before flag
  last-of [] before flag e = absurd (nil-push before flag e)
  last-of (one ∷ []) before flag e =
      let same = same-push [] before (is_some one) flag e in
      record { front = []; last = one; all = refl; before_are = sym same.0; flag_is = sym same.1 }
  last-of (one ∷ next ∷ founds) [] flag e = cc
  last-of (one ∷ next ∷ founds) (told ∷ before) flag e =
      let rest : map is_some (next ∷ founds) ≡ before ++ flag ∷ [] = cc in
      let head : told ≡ is_some one = cc in
      let last = last-of (next ∷ founds) before flag rest in
      record {
        front = one ∷ last.front;
        last = last.last;
        all = ap (λ (l : List (Option C)). one ∷ l) last.all;
        before_are = λ i. head i ∷ last.before_are i;
        flag_is = last.flag_is;
      }

  -- what is taken off the end of those that are there, if the last one is
  pub last-found : (front : List (Option C)) (last taken : Option C) (old new : List C) → old ≡ somes (front ++ last ∷ []) → old ≡ new ++ option_to_list taken →
      (is_some last ≡ false → taken ≡ None) → (is_some last ≡ true → 0 < length old → IsSome taken) → (taken ≡ last) × (new ≡ somes front)
  last-found front None taken old new is split none some =
      let nothing : taken ≡ None = none refl in
      let same : new ++ option_to_list taken ≡ somes front ++ [] = sym split ∙ is ∙ somes-push front None in
      let rest : new ++ [] ≡ somes front ++ [] = subst (λ (o : Option C). new ++ option_to_list o ≡ somes front ++ []) nothing same in
      (nothing, sym (append-nil new) ∙ rest ∙ append-nil (somes front))
  last-found front (Some x) taken old new is split none some = go taken refl
    where
      all : old ≡ somes front ++ x ∷ []
      all = is ∙ somes-push front (Some x)

      low : 0 < length old
      low = (let size = length_push (somes front) x in let count : length old ≡ length (somes front ++ x ∷ []) = ap length all in omega (arith, size, count))

      go : (t : Option C) → taken ≡ t → (taken ≡ Some x) × (new ≡ somes front)
      go None e = absurd (let no : false ≡ true = subst (λ (o : Option C). is_some o ≡ true) e (some refl low) in cc)
      go (Some y) e =
          let same : new ++ y ∷ [] ≡ somes front ++ x ∷ [] = subst (λ (o : Option C). new ++ option_to_list o ≡ somes front ++ x ∷ []) e (sym split ∙ all) in
          let parts = same-push new (somes front) y x same in
          (e ∙ ap (λ (z : C). Some z) parts.1, parts.0)

  -- numbers of those that are there
  pub sum-last : (f : C → ℕ) (h : Option C → ℕ) → h None ≡ 0 → ((x : C) → h (Some x) ≡ f x) → (front : List (Option C)) (last : Option C) →
      sum_by f (somes (front ++ last ∷ [])) ≡ sum_by f (somes front) + h last
  sum-last f h none some front None =
      let all : sum_by f (somes (front ++ None ∷ [])) ≡ sum_by f (somes front) = ap (sum_by f) (somes-push front None ∙ append-nil (somes front)) in
      omega (arith, all, none)
  sum-last f h none some front (Some x) =
      let all : sum_by f (somes (front ++ Some x ∷ [])) ≡ sum_by f (somes front ++ x ∷ []) = ap (sum_by f) (somes-push front (Some x)) in
      let push = sum-push f (somes front) x in
      let one = some x in
      omega (arith, all, push, one)

  -- All of them are there

  pub all-there : (xs : List C) → somes (map (λ (x : C). Some x) xs) ≡ xs
  all-there [] = refl
  all-there (x ∷ xs) = ap (λ (l : List C). x ∷ l) (all-there xs)

  pub all-told : (xs : List C) → replicate (length xs) true ≡ map is_some (map (λ (x : C). Some x) xs)
  all-told [] = refl
  all-told (x ∷ xs) = ap (λ (l : List Bool). true ∷ l) (all-told xs)

  pub some-at : (xs : List C) (place : ℕ) (found : Option C) → slice_get (map (λ (x : C). Some x) xs) place ≡ Some found → (x : C) × (slice_get xs place ≡ Some x) × (Some x ≡ found)
  some-at [] place found here = cc
  some-at (x ∷ xs) zero found here = (x, refl, same_Some (Some x) found here)
  some-at (x ∷ xs) (suc place) found here = some-at xs place found here

-- What those that are there become

module _ {C : Type 0} (R : C → C → Type 0) where
  abbrev pub BothIf : Option C → Option C → Type 0
  BothIf None None = Unit {0}
  BothIf None (Some y) = ⊥
  BothIf (Some x) None = ⊥
  BothIf (Some x) (Some y) = R x y

  pub record Spread (olds : List (Option C)) (news : List C) : Type 0 where
    pub founds : List (Option C)
    pub same : map is_some founds ≡ map is_some olds
    pub items : somes founds ≡ news
    pub count : length founds ≡ length olds
    pub back : (place : ℕ) (new : Option C) → slice_get founds place ≡ Some new → (old : Option C) × (slice_get olds place ≡ Some old) × BothIf old new

  none-back : (place : ℕ) (new : Option C) → slice_get {X = Option C} [] place ≡ Some new → (old : Option C) × (slice_get {X = Option C} [] place ≡ Some old) × BothIf old new
  none-back place new here = cc

  more-back : (one other : Option C) (olds founds : List (Option C)) → BothIf one other →
      ((place : ℕ) (new : Option C) → slice_get founds place ≡ Some new → (old : Option C) × (slice_get olds place ≡ Some old) × BothIf old new) →
      (place : ℕ) (new : Option C) → slice_get (other ∷ founds) place ≡ Some new → (old : Option C) × (slice_get (one ∷ olds) place ≡ Some old) × BothIf old new
  more-back one other olds founds both back zero new here = (one, refl, subst (BothIf one) (same_Some other new here) both)
  more-back one other olds founds both back (suc place) new here = back place new here

  pub spread : (olds : List (Option C)) (news : List C) → AllZip R (somes olds) news → Spread olds news
  spread [] [] zip = record { founds = []; same = refl; items = refl; count = refl; back = none-back }
  spread [] (y ∷ news) zip = absurd zip
  spread (None ∷ olds) news zip =
      let rest = spread olds news zip in
      record {
        founds = None ∷ rest.founds;
        same = ap (λ (l : List Bool). false ∷ l) rest.same;
        items = rest.items;
        count = ap suc rest.count;
        back = more-back None None olds rest.founds tt rest.back;
      }
  spread (Some x ∷ olds) [] zip = absurd zip
  spread (Some x ∷ olds) (y ∷ news) zip =
      let rest = spread olds news zip.1 in
      record {
        founds = Some y ∷ rest.founds;
        same = ap (λ (l : List Bool). true ∷ l) rest.same;
        items = ap (λ (l : List C). y ∷ l) rest.items;
        count = ap suc rest.count;
        back = more-back (Some x) (Some y) olds rest.founds zip.0 rest.back;
      }
