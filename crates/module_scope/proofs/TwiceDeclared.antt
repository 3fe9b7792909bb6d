-- Earlier declarations of a name, one more at a time.
use Rattle.std.proofs.Common.{◌≡◌, ℕ, Bool, true, false, not, ◌||◌, cond, List, [], ◌∷◌, map, filter, drop, get_or, length, ◌+◌, ◌<◌, ◌≤◌, Option, Some, is_some, refl, sym, ap, ap₂}
use Rattle.std.proofs.Common.{subst, ◌∙◌}
use Rattle.v_tree.specs.Trees.{Identifier, NamedPlace, same_name}
use Rattle.v_names.specs.Faults.{Fault, DeclaredTwice, fault_if}
use Rattle.v_names.specs.Scopes.{Scope}
use Rattle.v_names.specs.Names.{Declaration, of_name, may_follow, twice_faults, head_faults}
use Rattle.v_names.specs.Readings.{is_empty}
use Rattle.name_checks.specs.Noted.{noted, noted_append}
use Rattle.module_scope.proofs.Maps.{same-equal}
use Rattle.name_checks.specs.Rows.{drop-step, drop-past}
use Rattle.module_scope.specs.Earlier.{EarlierOnes, earlier_ones, earlier_with, may_follow_earlier, twice_fault_of, head_fault_of}

-- what is known of the earlier declarations, and what was noted and is to be noted is what is wrong with all
pub record AreNoted (known : Identifier → Option EarlierOnes) (scope : Scope) (first whole : Option Fault) (rest : List Declaration) : Type 0 where
  pub earlier : List Declaration
  pub are_known : (name : Identifier) → known name ≡ earlier_ones (of_name name earlier)
  pub are_noted : noted first (twice_faults scope earlier rest) ≡ whole

follow-is : (scope : Scope) (earlier : List Declaration) (d : Declaration) → may_follow scope earlier d ≡ may_follow_earlier scope (earlier_ones earlier) d
follow-is scope [] d = refl
follow-is scope (port ∷ []) d = refl
follow-is scope (d' ∷ d'' ∷ rest) d = refl

with-more : (d : Declaration) (earlier : List Declaration) → Some (earlier_with (earlier_ones earlier) d) ≡ earlier_ones (d ∷ earlier)
with-more d [] = refl
with-more d (d' ∷ []) = refl
with-more d (d' ∷ d'' ∷ rest) = refl

ones-same : (d : Declaration) (earlier : List Declaration) (name : Identifier) → same_name d.name name ≡ true → of_name d.name earlier ≡ of_name name earlier
    → Some (earlier_with (earlier_ones (of_name d.name earlier)) d) ≡ earlier_ones (of_name name (d ∷ earlier))
ones-same d earlier name e s = rw e (ap (λ ds. Some (earlier_with (earlier_ones ds) d)) s ∙ with-more d (of_name name earlier))

ones-other : (d : Declaration) (earlier : List Declaration) (name : Identifier) → same_name d.name name ≡ false → earlier_ones (of_name name earlier) ≡ earlier_ones (of_name name (d ∷ earlier))
ones-other d earlier name e = rw e refl

ones-by : (d : Declaration) (earlier : List Declaration) (name : Identifier) (same : Bool) → same_name d.name name ≡ same → (same ≡ true → d.name ≡ name)
    → cond same (Some (earlier_with (earlier_ones (of_name d.name earlier)) d)) (earlier_ones (of_name name earlier)) ≡ earlier_ones (of_name name (d ∷ earlier))
ones-by d earlier name true e s = ones-same d earlier name e (ap (λ n. of_name n earlier) (s refl))
ones-by d earlier name false e s = ones-other d earlier name e

pub twice-turn : (known new : Identifier → Option EarlierOnes) (scope : Scope) (first more whole : Option Fault) (d : Declaration) (rest : List Declaration) →
    AreNoted known scope first whole (d ∷ rest)
    → ((name : Identifier) → same_name d.name name ≡ true → d.name ≡ name)
    → more ≡ noted first (twice_fault_of scope (known d.name) d)
    → ((name : Identifier) → new name ≡ cond (same_name d.name name) (Some (earlier_with (known d.name) d)) (known name)) → AreNoted new scope more whole rest
twice-turn known new scope first more whole d rest before equal notes news = record {
  earlier = d ∷ before.earlier;
  are_known = λ name.
      news name ∙ ap₂ (λ k n. cond (same_name d.name name) (Some (earlier_with k d)) n) (before.are_known d.name) (before.are_known name)
      ∙ ones-by d before.earlier name (same_name d.name name) refl (equal name);
  are_noted =
      ap (λ m. noted m (twice_faults scope (d ∷ before.earlier) rest)) (notes ∙ ap (λ k. noted first (twice_fault_of scope k d)) (before.are_known d.name))
      ∙ ap (λ (b : Bool). noted (noted first (fault_if (not b) d.place DeclaredTwice)) (twice_faults scope (d ∷ before.earlier) rest)) (sym (follow-is scope (of_name d.name before.earlier) d))
      ∙ sym (noted_append first (fault_if (not (may_follow scope (of_name d.name before.earlier) d)) d.place DeclaredTwice) (twice_faults scope (d ∷ before.earlier) rest))
      ∙ before.are_noted;
}

-- The list of ports

abbrev pub of_head : Identifier → List NamedPlace → List NamedPlace
of_head name heads = filter (λ (n : NamedPlace). same_name n.name name) heads

pub record HeadsNoted {V : Type 0} (seen : Identifier → Option V) (scope : Scope) (first whole : Option Fault) (rest : List NamedPlace) : Type 0 where
  pub earlier : List NamedPlace
  pub are_seen : (name : Identifier) → is_some (seen name) ≡ not (is_empty (of_head name earlier))
  pub are_noted : noted first (head_faults scope earlier rest) ≡ whole

head-by : (head : NamedPlace) (earlier : List NamedPlace) (name : Identifier) (same : Bool) → same_name head.name name ≡ same →
    (same || not (is_empty (of_head name earlier))) ≡ not (is_empty (of_head name (head ∷ earlier)))
head-by head earlier name true e = rw e refl
head-by head earlier name false e = rw e refl

pub head-turn : {V : Type 0} (seen new : Identifier → Option V) (scope : Scope) (first more whole : Option Fault) (head : NamedPlace) (rest : List NamedPlace) →
    HeadsNoted seen scope first whole (head ∷ rest)
    → more ≡ noted first (head_fault_of scope (is_some (seen head.name)) head)
    → ((name : Identifier) → is_some (new name) ≡ (same_name head.name name || is_some (seen name))) → HeadsNoted new scope more whole rest
head-turn seen new scope first more whole head rest before notes news = record {
  earlier = head ∷ before.earlier;
  are_seen = λ name. news name ∙ ap (λ b. same_name head.name name || b) (before.are_seen name) ∙ head-by head before.earlier name (same_name head.name name) refl;
  are_noted =
      ap (λ m. noted m (head_faults scope (head ∷ before.earlier) rest)) (notes ∙ ap (λ b. noted first (head_fault_of scope b head)) (before.are_seen head.name))
      ∙ sym (noted_append first (head_fault_of scope (not (is_empty (of_head head.name before.earlier))) head) (head_faults scope (head ∷ before.earlier) rest))
      ∙ before.are_noted;
}

pub twice-step : {A : Type 0} (view : A → Declaration) (xs : List A) (i : ℕ) (x : A) (known new : Identifier → Option EarlierOnes) (scope : Scope) (first more whole : Option Fault) → i < length xs →
    x ≡ get_or xs i x
    → AreNoted known scope first whole (map view (drop i xs)) → more ≡ noted first (twice_fault_of scope (known (view x).name) (view x))
    → ((name : Identifier) → new name ≡ cond (same_name (view x).name name) (Some (earlier_with (known (view x).name) (view x))) (known name)) →
    AreNoted new scope more whole (map view (drop (i + 1) xs))
twice-step {A} view xs i x known new scope first more whole below at before notes news =
    let P : List A → Type 0 = λ ys. AreNoted known scope first whole (map view ys) in
    twice-turn known new scope first more whole (view x) (map view (drop (i + 1) xs)) (subst P (drop-step xs i x below at) before) (same-equal (view x).name) notes news

pub twice-end : {A : Type 0} (view : A → Declaration) (xs : List A) (i : ℕ) (known : Identifier → Option EarlierOnes) (scope : Scope) (first whole : Option Fault) → length xs ≤ i →
    AreNoted known scope first whole (map view (drop i xs)) → first ≡ whole
twice-end {A} view xs i known scope first whole past before =
    let P : List A → Type 0 = λ ys. AreNoted known scope first whole (map view ys) in
    (subst P (drop-past xs i past) before).are_noted

pub head-step : {A V : Type 0} (view : A → NamedPlace) (xs : List A) (i : ℕ) (x : A) (seen new : Identifier → Option V) (scope : Scope) (first more whole : Option Fault) → i < length xs →
    x ≡ get_or xs i x
    → HeadsNoted seen scope first whole (map view (drop i xs)) → more ≡ noted first (head_fault_of scope (is_some (seen (view x).name)) (view x))
    → ((name : Identifier) → is_some (new name) ≡ (same_name (view x).name name || is_some (seen name))) → HeadsNoted new scope more whole (map view (drop (i + 1) xs))
head-step {A} view xs i x seen new scope first more whole below at before notes news =
    let P : List A → Type 0 = λ ys. HeadsNoted seen scope first whole (map view ys) in
    head-turn seen new scope first more whole (view x) (map view (drop (i + 1) xs)) (subst P (drop-step xs i x below at) before) notes news

pub head-end : {A V : Type 0} (view : A → NamedPlace) (xs : List A) (i : ℕ) (seen : Identifier → Option V) (scope : Scope) (first whole : Option Fault) → length xs ≤ i →
    HeadsNoted seen scope first whole (map view (drop i xs)) → first ≡ whole
head-end {A} view xs i seen scope first whole past before =
    let P : List A → Type 0 = λ ys. HeadsNoted seen scope first whole (map view ys) in
    (subst P (drop-past xs i past) before).are_noted
