-- Sums over the views and facts of each view, after one view has changed.
use Rattle.std.proofs.Common.{◌≡◌, ◌≢◌, ℕ, zero, suc, ◌+◌, ◌<◌, ◌≤◌, ◌==◌, min, cond, List, [], ◌∷◌, ◌++◌, length, set, sum_by, sym, refl, ap, subst, ◌∙◌, ◌&&◌, ⊎_elim, arith}
use Rattle.std.proofs.lemmas.Bool.Decides.{nat_tests}
use Rattle.std.proofs.lemmas.List.Sums.{sum_by-cons, sum_by_push, sum_by-append}
use mathlib.Core.Option.{some, some-injective, some-ne-none}
use lib.ListN.{get_elem?}
use native.Mathlib.Decide.{ℕ_discrete}
use Rattle.std.proofs.Common.{slice_index}
use Rattle.std.proofs.lemmas.List.{get_or_push, get_or_append_left}
use Rattle.atomic_table.proofs.Lists.{at_set, at_snoc}
use Rattle.verdict_words.proofs.Sums.{part_le}
use Rattle.verdict_words.specs.declared.view.View.{View}
use Rattle.verdict_words.specs.declared.view.Mark.{Mark}
use Rattle.vf_base.specs.Base.{fault_number}
use Rattle.verdict_words.specs.Views.{mark, spent_view}
use Rattle.verdict_words.specs.Rule.{times, marks, marks_with, once_below, Within, EachView}

-- what holds of each view still does where one is changed to a view of which it holds
pub each_set : (P : View → Type 0) (views : List View) (id : ℕ) (w : View) → EachView P views → P w → EachView P (set views id w)
each_set P views id w all here j u e = ⊎_elim (λ (t : (j ≡ id) × (w ≡ u)). subst P t.1 here) (λ (t : (j ≢ id) × (get_elem? views j ≡ some u)). all j u t.1) (at_set views id j w u e)

-- and where one more comes
pub each_push : (P : View → Type 0) (views : List View) (w : View) → EachView P views → P w → EachView P (views ++ w ∷ [])
each_push P views w all here j u e = ⊎_elim (λ t. all j u t) (λ (t : w ≡ u). subst P t here) (at_snoc views w u j e)

-- and of a weaker fact
pub each_weaker : (P Q : View → Type 0) (views : List View) → ((v : View) → P v → Q v) → EachView P views → EachView Q views
each_weaker P Q views f all j u e = f u (all j u e)

-- counts in a list that grew by one, or of two lists
pub times_push : (x y : ℕ) (xs : List ℕ) → times x (xs ++ y ∷ []) ≡ times x xs + cond (y == x) 1 0
times_push x y xs = sum_by_push (λ (z : ℕ). cond (z == x) 1 0) xs y

pub times-append : (x : ℕ) (xs ys : List ℕ) → times x (xs ++ ys) ≡ times x xs + times x ys
times-append x xs ys = sum_by-append (λ (z : ℕ). cond (z == x) 1 0) xs ys

-- a claim that is drawn is the one number that is new below the counter
pub once_more : (x n claims : ℕ) → n < claims → once_below x (min n claims) + cond (n == x) 1 0 ≡ once_below x (min (n + 1) claims)
once_more x n claims h = grind (arith, nat_tests)

-- past the claims no number is new
pub once_no_more : (x n claims : ℕ) → claims ≤ n → once_below x (min n claims) ≡ once_below x (min (n + 1) claims)
once_no_more x n claims h = grind (arith, nat_tests)

-- what is at most so much in each view is so in the sum
pub sum_le : (f g : View → ℕ) (views : List View) → EachView (λ (v : View). f v ≤ g v) views → sum_by f views ≤ sum_by g views
sum_le f g [] all = omega arith
sum_le f g (x ∷ xs) all = let here : f x ≤ g x = all 0 x refl in let r = sum_le f g xs (λ j u e. all (suc j) u e) in omega (arith, sum_by-cons f x xs, sum_by-cons g x xs)

-- where no view has a share, all are spent, and they add nothing
pub none_left : (f : View → ℕ) → f spent_view ≡ 0 → (views : List View) → EachView Within views → sum_by (λ (v : View). v.share) views ≡ 0 → sum_by f views ≡ 0
none_left f z [] all none = refl
none_left f z (x ∷ xs) all none = let s = sum_by-cons (λ (v : View). v.share) x xs in let no : x.share ≡ 0 = omega arith in let here : f x ≡ 0 = ap f ((all 0 x refl).1 no) ∙ z in
    let r = none_left f z xs (λ j u e. all (suc j) u e) (omega arith) in omega (arith, sum_by-cons f x xs)

-- where one view has the whole share, all others are spent
pub alone : (f : View → ℕ) → f spent_view ≡ 0 → (views : List View) (id : ℕ) (v : View) → get_elem? views id ≡ some v → EachView Within views → sum_by (λ (u : View). u.share) views ≡ v.share →
    sum_by f views ≡ f v
alone f z [] id v e all whole = absurd (some-ne-none v (sym e))
alone f z (x ∷ xs) zero v e all whole = let same : x ≡ v = some-injective x v e in let shares : x.share ≡ v.share = ap (λ (u : View). u.share) same in let is : f x ≡ f v = ap f same in
    let s = sum_by-cons (λ (u : View). u.share) x xs in let r = none_left f z xs (λ j u e. all (suc j) u e) (omega arith) in omega (arith, sum_by-cons f x xs)
alone f z (x ∷ xs) (suc id) v e all whole = let s = sum_by-cons (λ (u : View). u.share) x xs in let p = part_le (λ (u : View). u.share) xs id v e in let no : x.share ≡ 0 = omega arith in
    let here : f x ≡ 0 = ap f ((all 0 x refl).1 no) ∙ z in let r = alone f z xs id v e (λ j u e. all (suc j) u e) (omega arith) in omega (arith, sum_by-cons f x xs)

pub marks_push : (f g c : ℕ) (ms : List Mark) → marks f (ms ++ mark g c ∷ []) ≡ marks f ms + cond (g == f) 1 0
marks_push f g c ms = sum_by_push (λ (m : Mark). cond (fault_number m.fault == f) 1 0) ms (mark g c)

pub marks-append : (f : ℕ) (ms ns : List Mark) → marks f (ms ++ ns) ≡ marks f ms + marks f ns
marks-append f ms ns = sum_by-append (λ (m : Mark). cond (fault_number m.fault == f) 1 0) ms ns

pub marks_with_push : (f d g c : ℕ) (ms : List Mark) → marks_with f d (ms ++ mark g c ∷ []) ≡ marks_with f d ms + cond ((g == f) && (c == d)) 1 0
marks_with_push f d g c ms = sum_by_push (λ (m : Mark). cond ((fault_number m.fault == f) && (m.code == d)) 1 0) ms (mark g c)

pub marks_with-append : (f d : ℕ) (ms ns : List Mark) → marks_with f d (ms ++ ns) ≡ marks_with f d ms + marks_with f d ns
marks_with-append f d ms ns = sum_by-append (λ (m : Mark). cond ((fault_number m.fault == f) && (m.code == d)) 1 0) ms ns

-- a fault stands in a list at least as often as with one code
pub marks_with_le : (f d : ℕ) (ms : List Mark) → marks_with f d ms ≤ marks f ms
marks_with_le f d [] = omega arith
marks_with_le f d (m ∷ ms) = let r = marks_with_le f d ms in let h : cond ((fault_number m.fault == f) && (m.code == d)) 1 0 ≤ cond (fault_number m.fault == f) 1 0 = grind (arith, nat_tests) in
    omega (arith, sum_by-cons (λ (m : Mark). cond ((fault_number m.fault == f) && (m.code == d)) 1 0) m ms, sum_by-cons (λ (m : Mark). cond (fault_number m.fault == f) 1 0) m ms)

-- an element of a list of numbers, read by both words
pub read_at : (l : List ℕ) (i a : ℕ) → get_elem? l i ≡ some a → slice_index l i ≡ a
read_at [] i a e = absurd (some-ne-none a (sym e))
read_at (x ∷ xs) zero a e = some-injective x a e
read_at (x ∷ xs) (suc i) a e = read_at xs i a e

-- one more word was copied
pub copied_more : (ws vs : List ℕ) (i x : ℕ) → length vs ≡ i → get_elem? ws (i + 1) ≡ some x → ((f : ℕ) → f < i → slice_index vs f ≡ slice_index ws (f + 1))
    → (f : ℕ) → f < i + 1 → slice_index (vs ++ x ∷ []) f ≡ slice_index ws (f + 1)
copied_more ws vs i x long is before f h = elim (ℕ_discrete f i) [
  | yes e ↦ (subst (λ (k : ℕ). slice_index (vs ++ x ∷ []) k ≡ slice_index ws (k + 1)) (sym e) (get_or_push vs x 0 i long ∙ sym (read_at ws (i + 1) x is)))
  | no n ↦ get_or_append_left vs (x ∷ []) 0 f (omega arith) ∙ before f (omega arith)
]
