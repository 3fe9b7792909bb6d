-- The counts of runs, list by list.
use Rattle.std.proofs.Common.{◌≡◌, ℕ, ◌+◌, ◌≤◌, Bool, true, false, cond, List, [], ◌∷◌, ◌++◌, map, refl, sym, subst, ◌∙◌, inl, inr, arith}
use Rattle.std.specs.Prelude.{Option, filter}
use Rattle.std.specs.List.{AllZip, sum}
use Rattle.std.proofs.lemmas.List.Sums.{sum_by-append, sum_by-cons}
use Rattle.vf_base.specs.Lists.{joined}
use Rattle.v_design.specs.OwnSteps.{CountsOwn, ProcessRun}
use Rattle.own_gradings.specs.Numbers.{AreOwnSteps}

abbrev pub Pairs : Type 0
Pairs = List (Option ProcessRun × ProcessRun)

sum-cons : (x : ℕ) (xs : List ℕ) → sum (x ∷ xs) ≡ x + sum xs
sum-cons x xs = sum_by-cons (λ (n : ℕ). n) x xs

sum-append : (xs ys : List ℕ) → sum (xs ++ ys) ≡ sum xs + sum ys
sum-append xs ys = sum_by-append (λ (n : ℕ). n) xs ys

-- One list

-- a run counts one number alone
one-count : (pair : Option ProcessRun × ProcessRun) (one other : ℕ) → CountsOwn pair one → CountsOwn pair other → one ≡ other
one-count pair one other (inl a) (inl b) = a.1 ∙ sym b.1
one-count pair one other (inl a) (inr b) = absurd (b.0 a.0)
one-count pair one other (inr a) (inl b) = absurd (a.0 b.0)
one-count pair one other (inr a) (inr b) = a.1 ∙ sym b.1

same-sums : (pairs : Pairs) (one other : List ℕ) → AllZip CountsOwn pairs one → AllZip CountsOwn pairs other → sum one ≡ sum other
same-sums [] [] [] a b = refl
same-sums [] [] (y ∷ ys) a b = absurd b
same-sums [] (x ∷ xs) ys a b = absurd a
same-sums (pair ∷ pairs) [] ys a b = absurd a
same-sums (pair ∷ pairs) (x ∷ xs) [] a b = absurd b
same-sums (pair ∷ pairs) (x ∷ xs) (y ∷ ys) a b =
    let first : x ≡ y = one-count pair x y a.0 b.0 in
    let rest : sum xs ≡ sum ys = same-sums pairs xs ys a.1 b.1 in
    let here = sum-cons x xs in
    let there = sum-cons y ys in
    omega (arith, first, rest, here, there)

pub same-steps : (pairs : Pairs) (one other : ℕ) → AreOwnSteps pairs one → AreOwnSteps pairs other → one ≡ other
same-steps pairs one other a b = sym a.total ∙ same-sums pairs a.counts b.counts a.each b.each ∙ b.total

pub no-steps : AreOwnSteps [] 0
no-steps = record { counts = []; each = tt; total = refl }

-- Two lists

pub record Parted (one other : Pairs) (steps : ℕ) : Type 0 where
  pub left : ℕ
  pub right : ℕ
  pub first : AreOwnSteps one left
  pub rest : AreOwnSteps other right
  pub total : steps ≡ left + right

zip-parts : (one other : Pairs) (counts : List ℕ) → AllZip CountsOwn (one ++ other) counts → Parted one other (sum counts)
zip-parts [] other counts all = record { left = 0; right = sum counts; first = no-steps; rest = record { counts = counts; each = all; total = refl }; total = omega arith }
zip-parts (pair ∷ one) other [] all = absurd all
zip-parts (pair ∷ one) other (count ∷ counts) all =
    let more : Parted one other (sum counts) = zip-parts one other counts all.1 in
    let sums = sum-cons count counts in
    let own = sum-cons count more.first.counts in
    let total = more.total in
    let rest = more.first.total in
    record {
      left = count + more.left;
      right = more.right;
      first = record { counts = count ∷ more.first.counts; each = (all.0, more.first.each); total = omega (arith, own, rest) };
      rest = more.rest;
      total = omega (arith, sums, total);
    }

pub parts : (one other : Pairs) (steps : ℕ) → AreOwnSteps (one ++ other) steps → Parted one other steps
parts one other steps own = subst (λ (n : ℕ). Parted one other n) own.total (zip-parts one other own.counts own.each)

zip-both : (one other : Pairs) (left right : List ℕ) → AllZip CountsOwn one left → AllZip CountsOwn other right → AllZip CountsOwn (one ++ other) (left ++ right)
zip-both [] other [] right first rest = rest
zip-both [] other (count ∷ left) right first rest = absurd first
zip-both (pair ∷ one) other [] right first rest = absurd first
zip-both (pair ∷ one) other (count ∷ left) right first rest = (first.0, zip-both one other left right first.1 rest)

pub both : (one other : Pairs) (left right : ℕ) → AreOwnSteps one left → AreOwnSteps other right → AreOwnSteps (one ++ other) (left + right)
both one other left right first rest = record {
  counts = first.counts ++ rest.counts;
  each = zip-both one other first.counts rest.counts first.each rest.each;
  total =
      let sums = sum-append first.counts rest.counts in
      let here = first.total in
      let there = rest.total in
      omega (arith, sums, here, there);
}

-- The runs of elements that pass one of two tests

-- one of two tests is passed where a third one is, and none where it isn't
abbrev pub Part : Bool → Bool → Bool → Type 0
Part true true true = ⊥
Part true true false = Unit {0}
Part true false true = Unit {0}
Part true false false = ⊥
Part false true other = ⊥
Part false false true = ⊥
Part false false false = Unit {0}

module _ {A : Type 0} (f : A → Pairs) where
  abbrev pub runs_in : List A → Pairs
  runs_in elements = joined (map f elements)

  part-one : (a b c : Bool) → Part a b c → (x : A) (all one other : List A) (steps : ℕ) → ((n : ℕ) → AreOwnSteps (runs_in all) n → Parted (runs_in one) (runs_in other) n) →
      AreOwnSteps (runs_in (cond a (x ∷ all) all)) steps → Parted (runs_in (cond b (x ∷ one) one)) (runs_in (cond c (x ∷ other) other)) steps
  part-one true true true part x all one other steps rest own = absurd part
  part-one true true false part x all one other steps rest own =
      let cut : Parted (f x) (runs_in all) steps = parts (f x) (runs_in all) steps own in
      let more : Parted (runs_in one) (runs_in other) cut.right = rest cut.right cut.rest in
      let here = cut.total in
      let there = more.total in
      record { left = cut.left + more.left; right = more.right; first = both (f x) (runs_in one) cut.left more.left cut.first more.first; rest = more.rest; total = omega (arith, here, there) }
  part-one true false true part x all one other steps rest own =
      let cut : Parted (f x) (runs_in all) steps = parts (f x) (runs_in all) steps own in
      let more : Parted (runs_in one) (runs_in other) cut.right = rest cut.right cut.rest in
      let here = cut.total in
      let there = more.total in
      record { left = more.left; right = cut.left + more.right; first = more.first; rest = both (f x) (runs_in other) cut.left more.right cut.first more.rest; total = omega (arith, here, there) }
  part-one true false false part x all one other steps rest own = absurd part
  part-one false true c part x all one other steps rest own = absurd part
  part-one false false true part x all one other steps rest own = absurd part
  part-one false false false part x all one other steps rest own = rest steps own

  pub filtered : (all one other : A → Bool) → ((x : A) → Part (all x) (one x) (other x)) → (elements : List A) (steps : ℕ) → AreOwnSteps (runs_in (filter all elements)) steps →
      Parted (runs_in (filter one elements)) (runs_in (filter other elements)) steps
  filtered all one other law [] steps own = record { left = 0; right = steps; first = no-steps; rest = own; total = omega arith }
  filtered all one other law (x ∷ elements) steps own =
      part-one (all x) (one x) (other x) (law x) x (filter all elements) (filter one elements) (filter other elements) steps (filtered all one other law elements) own

  -- where no element passes there are none
  pub none-in : (test : A → Bool) → ((x : A) → test x ≡ false) → (elements : List A) (steps : ℕ) → AreOwnSteps (runs_in (filter test elements)) steps → steps ≡ 0
  none-in test none [] steps own = same-steps [] steps 0 own no-steps
  none-in test none (x ∷ elements) steps own =
      none-in test none elements steps (subst (λ (b : Bool). AreOwnSteps (runs_in (cond b (x ∷ filter test elements) (filter test elements))) steps) (none x) own)

  -- an element that passes counts no more than all
  pub one-in : (test : A → Bool) (behind ahead : List A) (x : A) (steps low : ℕ) → test x ≡ true → AreOwnSteps (runs_in (filter test (behind ++ x ∷ ahead))) steps →
      ((n : ℕ) → AreOwnSteps (f x) n → low ≤ n) → low ≤ steps
  one-in test [] ahead x steps low passes own least =
      let here : AreOwnSteps (f x ++ runs_in (filter test ahead)) steps = subst (λ (b : Bool). AreOwnSteps (runs_in (cond b (x ∷ filter test ahead) (filter test ahead))) steps) passes own in
      let cut : Parted (f x) (runs_in (filter test ahead)) steps = parts (f x) (runs_in (filter test ahead)) steps here in
      let first : low ≤ cut.left = least cut.left cut.first in
      let total = cut.total in
      omega (arith, first, total)
  one-in test (y ∷ behind) ahead x steps low passes own least = go (test y) own (λ n rest. one-in test behind ahead x n low passes rest least)
    where
      go : (b : Bool) → AreOwnSteps (runs_in (cond b (y ∷ filter test (behind ++ x ∷ ahead)) (filter test (behind ++ x ∷ ahead)))) steps →
          ((n : ℕ) → AreOwnSteps (runs_in (filter test (behind ++ x ∷ ahead))) n → low ≤ n) → low ≤ steps
      go true here rest =
          let cut : Parted (f y) (runs_in (filter test (behind ++ x ∷ ahead))) steps = parts (f y) (runs_in (filter test (behind ++ x ∷ ahead))) steps here in
          let most : low ≤ cut.right = rest cut.right cut.rest in
          let total = cut.total in
          omega (arith, most, total)
      go false here rest = rest steps here
