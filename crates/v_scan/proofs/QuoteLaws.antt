-- Where a string and a comment end.
use Rattle.std.proofs.Common.{◌≡◌, ℕ, Bool, true, false, ◌&&◌, not, List, [], ◌∷◌, ◌++◌, Option, Some, None, refl, sym, ◌∙◌, ap, inl, inr, ◌⊎◌, eqb-true}
use Rattle.std.specs.Prelude.{◌==◌, if◌then◌else◌}
use Rattle.v_scan.specs.Words.{is_inside}
use Rattle.v_scan.specs.Texts.{closes, has_no_close}
use Rattle.v_scan.specs.Reading.{with_first, up_to_quote, after_quote, up_to_close, after_close, behind_two}
use Rattle.v_scan.proofs.Spans.{and-true, not-true}

-- Strings

-- a string that is closed is read up to its quote
pub quote-read : (escaped : Bool) (inside rest : List ℕ) → is_inside escaped inside ≡ true → up_to_quote escaped (inside ++ 34 ∷ rest) ≡ Some inside
quote-read true [] rest h = absurd (let q : false ≡ true = h in cc)
quote-read false [] rest h = refl
quote-read true (b ∷ inside) rest h =
    let both = and-true (not (b == 10)) (is_inside false inside) h in
    rw (not-true (b == 10) both.0, quote-read false inside rest both.1) refl
quote-read false (b ∷ inside) rest h =
    let one = and-true (not (b == 34)) (not (b == 10) && is_inside (b == 92) inside) h in
    let two = and-true (not (b == 10)) (is_inside (b == 92) inside) one.1 in
    rw (not-true (b == 34) one.0, not-true (b == 10) two.0, quote-read (b == 92) inside rest two.1) refl

-- what is read of a string
abbrev pub Quote : (escaped : Bool) (text : List ℕ) → (up after : Option (List ℕ)) → Type 0
Quote escaped text up after =
    ((up ≡ None) × (after ≡ None))
    ⊎ ((inside back : List ℕ) × (up ≡ Some inside) × (after ≡ Some back) × (text ≡ inside ++ 34 ∷ back) × (is_inside escaped inside ≡ true))

-- one more byte before
longer : (escaped now : Bool) (b : ℕ) (bs : List ℕ) (up after : Option (List ℕ)) → ((inside : List ℕ) → is_inside escaped inside ≡ true → is_inside now (b ∷ inside) ≡ true)
    → Quote escaped bs up after → Quote now (b ∷ bs) (with_first b up) after
longer escaped now b bs up after fine (inl (none, none_after)) = inl (ap (with_first b) none, none_after)
longer escaped now b bs up after fine (inr (inside, back, some, some_after, whole, is)) =
    inr (b ∷ inside, back, ap (with_first b) some, some_after, ap (λ w. b ∷ w) whole, fine inside is)

pub quote : (escaped : Bool) (text : List ℕ) → Quote escaped text (up_to_quote escaped text) (after_quote escaped text)
quote true [] = inl (refl, refl)
quote false [] = inl (refl, refl)
quote true (b ∷ bs) = at (quote false bs) (b == 10) refl
  where
    at : Quote false bs (up_to_quote false bs) (after_quote false bs) → (t : Bool) → (b == 10) ≡ t
        → Quote true (b ∷ bs) (if t then None else with_first b (up_to_quote false bs)) (if t then None else after_quote false bs)
    at next true e = inl (refl, refl)
    at next false e = longer false true b bs _ _ (λ inside h. rw (e, h) refl) next
quote false (b ∷ bs) = at (quote (b == 92) bs) (b == 34) (b == 10) refl refl
  where
    at : Quote (b == 92) bs (up_to_quote (b == 92) bs) (after_quote (b == 92) bs) → (q t : Bool) → (b == 34) ≡ q → (b == 10) ≡ t
        → Quote false (b ∷ bs) (if q then Some [] else (if t then None else with_first b (up_to_quote (b == 92) bs))) (if q then Some bs else (if t then None else after_quote (b == 92) bs))
    at next true t e f = inr ([], bs, refl, refl, ap (λ d. d ∷ bs) (eqb-true b 34 e), refl)
    at next false true e f = inl (refl, refl)
    at next false false e f = longer (b == 92) false b bs _ _ (λ inside h. rw (e, f, h) refl) next

-- Comments

and-false : (b : Bool) → (b && false) ≡ false
and-false true = refl
and-false false = refl

-- a comment that is closed is read up to its end
pub close-read : (body rest : List ℕ) → has_no_close body ≡ true → up_to_close (body ++ 42 ∷ 47 ∷ rest) ≡ Some body
close-read [] rest h = refl
close-read (b ∷ []) rest h = rw and-false refl
close-read (b ∷ c ∷ body) rest h =
    let both = and-true (not (closes (b ∷ c ∷ body))) (has_no_close (c ∷ body)) h in
    rw (not-true (closes (b ∷ c ∷ body)) both.0, close-read (c ∷ body) rest both.1) refl

-- bytes without an end have none
pub close-none : (text : List ℕ) → has_no_close text ≡ true → up_to_close text ≡ None
close-none [] h = refl
close-none (b ∷ bs) h =
    let both = and-true (not (closes (b ∷ bs))) (has_no_close bs) h in
    rw (not-true (closes (b ∷ bs)) both.0, close-none bs both.1) refl

-- what is read of a comment
abbrev pub Close : (text : List ℕ) → (up after : Option (List ℕ)) → Type 0
Close text up after =
    ((up ≡ None) × (after ≡ None) × (has_no_close text ≡ true))
    ⊎ ((body back : List ℕ) × (up ≡ Some body) × (after ≡ Some back) × (text ≡ body ++ 42 ∷ 47 ∷ back) × (has_no_close body ≡ true))

closes-two : (text : List ℕ) → closes text ≡ true → text ≡ 42 ∷ 47 ∷ behind_two text
closes-two [] h = absurd (let q : false ≡ true = h in cc)
closes-two (b ∷ []) h = absurd (let q : false ≡ true = h in cc)
closes-two (b ∷ c ∷ rest) h =
    let both = and-true (b == 42) (c == 47) h in
    ap (λ d. d ∷ c ∷ rest) (eqb-true b 42 both.0) ∙ ap (λ d. 42 ∷ d ∷ rest) (eqb-true c 47 both.1)

-- an end that isn't there isn't in a front
closes-front : (b : ℕ) (body back : List ℕ) → closes (b ∷ (body ++ 42 ∷ 47 ∷ back)) ≡ false → closes (b ∷ body) ≡ false
closes-front b [] back h = refl
closes-front b (c ∷ body) back h = h

pub close : (text : List ℕ) → Close text (up_to_close text) (after_close text)
close [] = inl (refl, refl, refl)
close (b ∷ bs) = at (close bs) (closes (b ∷ bs)) refl
  where
    more : closes (b ∷ bs) ≡ false → (up after : Option (List ℕ)) → Close bs up after → Close (b ∷ bs) (with_first b up) after
    more free up after (inl (none, none_after, is)) = inl (ap (with_first b) none, none_after, rw (free, is) refl)
    more free up after (inr (body, back, some, some_after, whole, is)) =
        let front : closes (b ∷ body) ≡ false = closes-front b body back (ap (λ w. closes (b ∷ w)) (sym whole) ∙ free) in
        inr (b ∷ body, back, ap (with_first b) some, some_after, ap (λ w. b ∷ w) whole, rw (front, is) refl)

    at : Close bs (up_to_close bs) (after_close bs) → (t : Bool) → closes (b ∷ bs) ≡ t
        → Close (b ∷ bs) (if t then Some [] else with_first b (up_to_close bs)) (if t then Some (behind_two (b ∷ bs)) else after_close bs)
    at next true e = inr ([], behind_two (b ∷ bs), refl, refl, closes-two (b ∷ bs) e, refl)
    at next false e = more e _ _ next
