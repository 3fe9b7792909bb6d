-- Sums over shards each of which was drawn once (nothing of the language).
use Rattle.std.proofs.Common.{◌≡◌, ℕ, zero, suc, ◌+◌, ◌*◌, ◌<◌, ◌≤◌, ◌==◌, Bool, true, false, cond, List, [], ◌∷◌, length, take, drop, refl, sym, ap, subst, ◌∙◌, ⊎_elim, arith}
use Rattle.std.specs.Prelude.{sum_by, nat_lt, if◌then◌else◌}
use Rattle.std.proofs.lemmas.Bool.{cases_lt, eq-eqb, eqb-true, lt-ltb, ltb-true}
use Rattle.std.proofs.lemmas.List.{drop-drop, drop_all}
use Rattle.std.proofs.lemmas.List.Sums.{sum_by-cons, sum_by-take-drop}
use Rattle.fault_shards.specs.Cuts.{shard, shard_count}
use Rattle.verdict_words.specs.Rule.{once_below, times}
use Rattle.shard_turns.specs.Backups.{AddUp}

-- How often a number stands in a list

times-cons : (x y : ℕ) (xs : List ℕ) → times y (x ∷ xs) ≡ cond {A = ℕ} (x == y) 1 0 + times y xs
times-cons x y xs = sum_by-cons (λ c. cond {A = ℕ} (c == y) 1 0) x xs

times-by : (x y : ℕ) (xs : List ℕ) (b : Bool) → (x == y) ≡ b → times y (x ∷ xs) ≡ cond {A = ℕ} b 1 0 + times y xs
times-by x y xs b is = times-cons x y xs ∙ ap (λ (c : Bool). cond {A = ℕ} c 1 0 + times y xs) is

once-low : (x bound : ℕ) → x < bound → once_below x bound ≡ 1
once-low x bound low = ap (λ (b : Bool). if b then 1 else 0) (lt-ltb x bound low)

once-past : (x bound : ℕ) → bound ≤ x → once_below x bound ≡ 0
once-past x bound past = go (nat_lt x bound) refl
  where
    go : (b : Bool) → nat_lt x bound ≡ b → cond {A = ℕ} b 1 0 ≡ 0
    go true e = absurd (let low = ltb-true x bound e in omega (arith, past, low))
    go false e = refl

-- the list without a number
abbrev without : ℕ → List ℕ → List ℕ
without n [] = []
without n (x ∷ xs) = cond (x == n) (without n xs) (x ∷ without n xs)

without-by : (n x : ℕ) (xs : List ℕ) (b : Bool) → (x == n) ≡ b → without n (x ∷ xs) ≡ cond b (without n xs) (x ∷ without n xs)
without-by n x xs b is = ap (λ (c : Bool). cond c (without n xs) (x ∷ without n xs)) is

none-without : (n : ℕ) (xs : List ℕ) → times n (without n xs) ≡ 0
none-without n [] = refl
none-without n (x ∷ xs) = go (x == n) refl (none-without n xs)
  where
    go : (b : Bool) → (x == n) ≡ b → times n (without n xs) ≡ 0 → times n (without n (x ∷ xs)) ≡ 0
    go true e rest = ap (times n) (without-by n x xs true e) ∙ rest
    go false e rest =
        ap (times n) (without-by n x xs false e)
        ∙ (let at : times n (x ∷ without n xs) ≡ 0 + times n (without n xs) = times-by x n (without n xs) false e in omega (arith, at, rest))

others-without : (n y : ℕ) (xs : List ℕ) → (y ≡ n → ⊥) → times y (without n xs) ≡ times y xs
others-without n y [] apart = refl
others-without n y (x ∷ xs) apart = go (x == n) refl (others-without n y xs apart)
  where
    other : (b : Bool) → (x == y) ≡ b → x ≡ n → b ≡ false
    other true e same = absurd (apart (sym (eqb-true x y e) ∙ same))
    other false e same = refl

    go : (b : Bool) → (x == n) ≡ b → times y (without n xs) ≡ times y xs → times y (without n (x ∷ xs)) ≡ times y (x ∷ xs)
    go true e rest =
        ap (times y) (without-by n x xs true e)
        ∙ (let at : times y (x ∷ xs) ≡ 0 + times y xs = times-by x y xs false (other (x == y) refl (eqb-true x n e)) in omega (arith, at, rest))
    go false e rest =
        ap (times y) (without-by n x xs false e)
        ∙ (times-cons x y (without n xs) ∙ (ap (λ (k : ℕ). cond {A = ℕ} (x == y) 1 0 + k) rest ∙ sym (times-cons x y xs)))

-- Sums

-- a number so many times
abbrev so-many : ℕ → ℕ → ℕ
so-many zero n = 0
so-many (suc k) n = n + so-many k n

module _ (g : ℕ → ℕ) where
  sum-without : (n : ℕ) (xs : List ℕ) → sum_by g xs ≡ so-many (times n xs) (g n) + sum_by g (without n xs)
  sum-without n [] = refl
  sum-without n (x ∷ xs) = go (x == n) refl (sum-without n xs)
    where
      go : (b : Bool) → (x == n) ≡ b → sum_by g xs ≡ so-many (times n xs) (g n) + sum_by g (without n xs) →
          sum_by g (x ∷ xs) ≡ so-many (times n (x ∷ xs)) (g n) + sum_by g (without n (x ∷ xs))
      go true e rest =
          let all : sum_by g (x ∷ xs) ≡ g x + sum_by g xs = sum_by-cons g x xs in
          let here : g x ≡ g n = ap g (eqb-true x n e) in
          let one : times n (x ∷ xs) ≡ suc (times n xs) = (let at : times n (x ∷ xs) ≡ 1 + times n xs = times-by x n xs true e in omega (arith, at)) in
          let more : so-many (times n (x ∷ xs)) (g n) ≡ g n + so-many (times n xs) (g n) = ap (λ (k : ℕ). so-many k (g n)) one in
          let left : sum_by g (without n (x ∷ xs)) ≡ sum_by g (without n xs) = ap (sum_by g) (without-by n x xs true e) in
          omega (arith, all, here, more, left, rest)
      go false e rest =
          let all : sum_by g (x ∷ xs) ≡ g x + sum_by g xs = sum_by-cons g x xs in
          let same : times n (x ∷ xs) ≡ times n xs = (let at : times n (x ∷ xs) ≡ 0 + times n xs = times-by x n xs false e in omega (arith, at)) in
          let more : so-many (times n (x ∷ xs)) (g n) ≡ so-many (times n xs) (g n) = ap (λ (k : ℕ). so-many k (g n)) same in
          let left : sum_by g (without n (x ∷ xs)) ≡ g x + sum_by g (without n xs) =
          ap (sum_by g) (without-by n x xs false e) ∙ sum_by-cons g x (without n xs) in
          omega (arith, all, more, left, rest)

  -- over all numbers below a bound
  abbrev sum-to : ℕ → ℕ
  sum-to zero = 0
  sum-to (suc n) = g n + sum-to n

  once-less : (n : ℕ) (xs : List ℕ) → ((x : ℕ) → times x xs ≡ once_below x (suc n)) → (x : ℕ) → times x (without n xs) ≡ once_below x n
  once-less n xs once x = go (x == n) refl
    where
      other : (x ≡ n → ⊥) → times x (without n xs) ≡ once_below x n
      other apart =
          others-without n x xs apart
          ∙ (once x
          ∙ ⊎_elim (λ low. once-low x (suc n) (omega (arith, low)) ∙ sym (once-low x n low))
          (λ (since : n ≤ x). once-past x (suc n) (⊎_elim (λ (under : x < suc n). absurd (apart (omega (arith, under, since)))) (λ past. past) (cases_lt x (suc n))) ∙ sym (once-past x n since))
          (cases_lt x n))

      go : (b : Bool) → (x == n) ≡ b → times x (without n xs) ≡ once_below x n
      go true e =
          let same : x ≡ n = eqb-true x n e in
          subst (λ (k : ℕ). times k (without n xs) ≡ once_below k n) (sym same) (none-without n xs ∙ sym (once-past n n (omega arith)))
      go false e = other (λ same. absurd (let yes = eq-eqb x n same in cc))

  -- each once
  each-once : (n : ℕ) (xs : List ℕ) → ((x : ℕ) → times x xs ≡ once_below x n) → sum_by g xs ≡ sum-to n
  each-once zero [] once = refl
  each-once zero (x ∷ xs) once =
      absurd (let one = times-by x x xs true (eq-eqb x x refl) in let none = once x ∙ once-past x zero (omega arith) in omega (arith, one, none))
  each-once (suc n) xs once =
      let one : times n xs ≡ 1 = once n ∙ once-low n (suc n) (omega arith) in
      let parts : sum_by g xs ≡ so-many (times n xs) (g n) + sum_by g (without n xs) = sum-without n xs in
      let here : so-many (times n xs) (g n) ≡ g n + 0 = ap (λ (k : ℕ). so-many k (g n)) one in
      let rest : sum_by g (without n xs) ≡ sum-to n = each-once n (without n xs) (once-less n xs once) in
      omega (arith, parts, here, rest)

-- Shards

module _ (f : ℕ → ℕ) (representatives : List ℕ) where
  -- what the faults of a shard come to, and those from a shard on
  abbrev in-shard : ℕ → ℕ
  in-shard number = sum_by f (shard number representatives)

  abbrev from-shard : ℕ → ℕ
  from-shard number = sum_by f (drop (32 * number) representatives)

  one-shard : (number : ℕ) → in-shard number + from-shard (suc number) ≡ from-shard number
  one-shard number =
      let next : 32 * suc number ≡ 32 * number + 32 = omega arith in
      let rest : from-shard (suc number) ≡ sum_by f (drop 32 (drop (32 * number) representatives)) =
      ap (λ (n : ℕ). sum_by f (drop n representatives)) next ∙ sym (ap (sum_by f) (drop-drop 32 (32 * number) representatives)) in
      let both : sum_by f (take 32 (drop (32 * number) representatives)) + sum_by f (drop 32 (drop (32 * number) representatives)) ≡ from-shard number =
      sum_by-take-drop f (drop (32 * number) representatives) 32 in
      omega (arith, rest, both)

  up-to : (count : ℕ) → sum-to in-shard count + from-shard count ≡ sum_by f representatives
  up-to zero = let none : sum-to in-shard zero ≡ 0 = refl in let all : from-shard zero ≡ sum_by f representatives = refl in omega (arith, none, all)
  up-to (suc count) = let one = one-shard count in let rest = up-to count in omega (arith, one, rest)

  all-shards : (count : ℕ) → count ≡ shard_count (length representatives) → sum-to in-shard count ≡ sum_by f representatives
  all-shards count counted =
      let room : length representatives ≤ 32 * count = omega (arith, counted) in
      let none : from-shard count ≡ 0 = ap (sum_by f) (drop_all (32 * count) representatives room) in
      let all = up-to count in
      omega (arith, all, none)

pub add-up : (count : ℕ) (visited : List ℕ) → ((x : ℕ) → times x visited ≡ once_below x count) → AddUp count visited
add-up count visited once representatives f counted =
    each-once (λ (number : ℕ). sum_by f (shard number representatives)) count visited once ∙ all-shards f representatives count counted
