-- One place more, from the last one on.
use Rattle.std.proofs.Common.{◌≡◌, ℕ, zero, suc, ◌+◌, ◌-◌, ◌<◌, ◌≤◌, Bool, true, false, cond, List, [], ◌∷◌, ◌++◌, length, get_or, drop, drop-cons, Option, Some, None, refl, ap, sym, ◌∙◌, subst}
use Rattle.std.proofs.Common.{arith, ◌⊎◌, inl, inr, ⊎_elim, length-append}
use Rattle.std.specs.Map.{update}
use Rattle.std.specs.Str.{bytes_eq}
use Rattle.std.proofs.Math.ListN.{get_or-append}
use Rattle.std.proofs.Math.Seq.{get_or-append_seam}
use Rattle.std.proofs.lemmas.Slice.Eq.{bytes_eq-Decides}
use Rattle.vf_base.specs.Lists.{first_place, earlier_place}
use Rattle.key_index.specs.Places.{later, key_from}

later-more : (k : ℕ) (o : Option ℕ) → later k (earlier_place false o) ≡ later (k + 1) o
later-more k None = refl
later-more k (Some place) = let e : k + (place + 1) ≡ k + 1 + place = omega arith in ap (λ n. Some n) e

drop-here : (keys : List (List ℕ)) (i : ℕ) → i < length keys → drop i keys ≡ get_or keys i [] ∷ drop (i + 1) keys
drop-here keys i low = drop-cons keys i [] low ∙ ap (λ n. get_or keys i [] ∷ drop n keys) (let e : suc i ≡ i + 1 = omega arith in e)

-- the key is another one
pub key-next : (keys : List (List ℕ)) (word : List ℕ) (i : ℕ) → i < length keys → bytes_eq word (get_or keys i []) ≡ false → key_from keys word i ≡ key_from keys word (i + 1)
key-next keys word i low other =
    ap (λ l. later i (first_place (bytes_eq word) l)) (drop-here keys i low)
    ∙ (ap (λ b. later i (earlier_place b (first_place (bytes_eq word) (drop (i + 1) keys)))) other ∙ later-more i (first_place (bytes_eq word) (drop (i + 1) keys)))

-- the key is this one
pub key-here : (keys : List (List ℕ)) (word : List ℕ) (i : ℕ) → i < length keys → bytes_eq word (get_or keys i []) ≡ true → key_from keys word i ≡ Some i
key-here keys word i low same =
    ap (λ l. later i (first_place (bytes_eq word) l)) (drop-here keys i low)
    ∙ (ap (λ b. later i (earlier_place b (first_place (bytes_eq word) (drop (i + 1) keys)))) same ∙ ap (λ n. Some n) (let e : i + 0 ≡ i = omega arith in e))

-- no key is left
pub key-none : (keys : List (List ℕ)) (word : List ℕ) (i : ℕ) → length keys ≤ i → None ≡ key_from keys word i
key-none keys word i high = sym (ap (λ l. later i (first_place (bytes_eq word) l)) (all keys i high))
  where
    all : (xs : List (List ℕ)) (k : ℕ) → length xs ≤ k → drop k xs ≡ []
    all [] zero le = refl
    all [] (suc k) le = refl
    all (x ∷ xs) zero le = absurd (omega arith)
    all (x ∷ xs) (suc k) le = all xs k (omega arith)

-- the firsts, with the key at one place more
pub firsts-more : (keys : List (List ℕ)) (i : ℕ) (old new : List ℕ → Option ℕ) → i < length keys → ((word : List ℕ) → old word ≡ key_from keys word (i + 1)) →
    ((word : List ℕ) → new word ≡ update bytes_eq old (get_or keys i []) (Some i) word) → (word : List ℕ) → new word ≡ key_from keys word i
firsts-more keys i old new low had put word =
    elim (bytes_eq (get_or keys i []) word) as (λ b. bytes_eq (get_or keys i []) word ≡ b → new word ≡ key_from keys word i) [
      | true ↦ λ e.
          let same : word ≡ get_or keys i [] = sym ((bytes_eq-Decides (get_or keys i []) word).0 e) in
          put word ∙ (ap (λ b. cond b (Some i) (old word)) e ∙ sym (key-here keys word i low ((bytes_eq-Decides word (get_or keys i [])).1 same)))
      | false ↦ λ e.
          put word ∙ (ap (λ b. cond b (Some i) (old word)) e
          ∙ (had word ∙ sym (key-next keys word i low (turned word (get_or keys i []) e))))
    ] refl
  where
    turned : (a b : List ℕ) → bytes_eq b a ≡ false → bytes_eq a b ≡ false
    turned a b e =
        elim (bytes_eq a b) as (λ t. bytes_eq a b ≡ t → t ≡ false) [
          | true ↦ λ s. let same : b ≡ a = sym ((bytes_eq-Decides a b).0 s) in sym ((bytes_eq-Decides b a).1 same) ∙ e
          | false ↦ λ s. refl
        ] refl

-- the nexts, with one place more at their end
pub nexts-more : (keys : List (List ℕ)) (i : ℕ) (nexts more : List (Option ℕ)) (next : Option ℕ) → i < length keys → length nexts + (i + 1) ≡ length keys →
    ((place : ℕ) → i + 1 ≤ place → place < length keys → get_or nexts (length keys - 1 - place) None ≡ key_from keys (get_or keys place []) (place + 1)) →
    more ≡ nexts ++ next ∷ [] → next ≡ key_from keys (get_or keys i []) (i + 1) →
    (place : ℕ) → i ≤ place → place < length keys → get_or more (length keys - 1 - place) None ≡ key_from keys (get_or keys place []) (place + 1)
nexts-more keys i nexts more next low count had is one place from inside =
    ⊎_elim
    (λ (later_on : i + 1 ≤ place).
    ap (λ l. get_or l (length keys - 1 - place) None) is ∙ (get_or-append nexts (next ∷ []) None (length keys - 1 - place) (omega arith) ∙ had place later_on inside))
    (λ (here : place ≡ i).
    let at : length keys - 1 - place ≡ length nexts = omega arith in
    ap (λ l. get_or l (length keys - 1 - place) None) is ∙ (ap (λ n. get_or (nexts ++ next ∷ []) n None) at
    ∙ (get_or-append_seam nexts next [] None ∙ (one ∙ ap (λ p. key_from keys (get_or keys p []) (p + 1)) (sym here)))))
    (either place i from)
  where
    either : (a b : ℕ) → b ≤ a → (b + 1 ≤ a) ⊎ (a ≡ b)
    either a b le = grind arith

-- what is noted from a place on
pub record Noted (keys : List (List ℕ)) (firsts : List ℕ → Option ℕ) (nexts : List (Option ℕ)) (from : ℕ) : Type 0 where
  pub firsts_found : (word : List ℕ) → firsts word ≡ key_from keys word from
  pub count : length nexts + from ≡ length keys
  pub nexts_found : (place : ℕ) → from ≤ place → place < length keys → get_or nexts (length keys - 1 - place) None ≡ key_from keys (get_or keys place []) (place + 1)

-- nothing is noted
pub Noted-none : (keys : List (List ℕ)) (firsts : List ℕ → Option ℕ) (nexts : List (Option ℕ)) → ((word : List ℕ) → firsts word ≡ None) → nexts ≡ [] → Noted keys firsts nexts (length keys)
Noted-none keys firsts nexts empty none = record {
  firsts_found = λ word. empty word ∙ key-none keys word (length keys) (omega arith);
  count = ap (λ l. length l + length keys) none ∙ (let e : 0 + length keys ≡ length keys = omega arith in e);
  nexts_found = λ place from inside. absurd (omega arith);
}

-- one place more is noted
pub Noted-more : (keys : List (List ℕ)) (i : ℕ) (old new : List ℕ → Option ℕ) (nexts more : List (Option ℕ)) (next : Option ℕ) → Noted keys old nexts (i + 1) →
    next ≡ old (get_or keys i []) → ((word : List ℕ) → new word ≡ update bytes_eq old (get_or keys i []) (Some i) word) → more ≡ nexts ++ next ∷ [] → Noted keys new more i
Noted-more keys i old new nexts more next had one put is =
    let count : length nexts + (i + 1) ≡ length keys = had.count in
    let low : i < length keys = omega arith in
    record {
      firsts_found = firsts-more keys i old new low had.firsts_found put;
      count = ap (λ l. length l + i) is ∙ (let e : length (nexts ++ next ∷ []) + i ≡ length keys = omega (arith, length-append nexts (next ∷ []), count) in e);
      nexts_found = nexts-more keys i nexts more next low count had.nexts_found is (one ∙ had.firsts_found (get_or keys i []));
    }
