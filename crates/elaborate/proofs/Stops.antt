-- Tokens stop being a unit at one place and for one reason (IEEE 1364-2001, annex A).
use Rattle.std.proofs.Common.{◌≡◌, ℕ, ◌≤◌, List, [], ◌∷◌, ◌++◌, refl, sym, ap, subst, ◌∙◌, append_assoc, ◌⊎◌, inl, inr}
use Rattle.std.specs.Prelude.{◌≢◌}
use Rattle.vf_base.specs.Base.{SourcePlace, source_place}
use Rattle.vf_base.specs.declared.ids.Place.{Place}
use Rattle.v_tree.specs.Tokens.{SourceToken}
use Rattle.v_tree.specs.Trees.{SourceUnit}
use Rattle.v_parse.specs.Spelling.{SpellsUnit}
use Rattle.v_parse.specs.Heights.{unit_height}
use Rattle.v_parse.specs.Verdict.{Begins, BeginsWithin, NoneThrough, IsFirstWrong, IsFirstDeep}
use Rattle.v_parse.specs.Refusals.{place_at, StopsAtLeftOut, IsFault}
use Rattle.v_parse.specs.declared.fault.ParseFault.{ParseFault}
use Rattle.v_parse.specs.declared.fault.ParseFault.TheVariants.{Unexpected, Unsupported, TooDeep, NoMemory}

-- a place is what it stands for
pub place-is : (one other : Place) → source_place one ≡ source_place other → one ≡ other
place-is one other e = ap (λ (p : SourcePlace). record { line = p.line; column = p.column }) e

-- Cuts of a list

-- one front is the other, or goes on with an element of the other's rest
abbrev Cuts : {A : Type 0} → List A → List A → List A → List A → Type 0
Cuts {A} f r g s = (f ≡ g) × (r ≡ s)

abbrev GoesOn : {A : Type 0} → List A → List A → List A → Type 0
GoesOn {A} f r g = (x : A) × (back : List A) × (after : List A) × (g ≡ (f ++ x ∷ []) ++ back) × (r ≡ x ∷ after)

abbrev head_or : {A : Type 0} → A → List A → A
head_or x [] = x
head_or x (y ∷ ys) = y

abbrev tail_of : {A : Type 0} → List A → List A
tail_of [] = []
tail_of (y ∷ ys) = ys

cut-two : {A : Type 0} (f r g s : List A) → f ++ r ≡ g ++ s → Cuts f r g s ⊎ (GoesOn f r g ⊎ GoesOn g s f)
cut-two [] r [] s e = inl (refl, e)
cut-two [] r (y ∷ g) s e = inr (inl (y, g, g ++ s, refl, e))
cut-two (x ∷ f) r [] s e = inr (inr (x, f, f ++ r, refl, sym e))
cut-two {A} (x ∷ f) r (y ∷ g) s e = grown (cut-two f r g s (ap tail_of e))
  where
    same : x ≡ y
    same = ap (head_or x) e

    grown : Cuts f r g s ⊎ (GoesOn f r g ⊎ GoesOn g s f) → Cuts (x ∷ f) r (y ∷ g) s ⊎ (GoesOn (x ∷ f) r (y ∷ g) ⊎ GoesOn (y ∷ g) s (x ∷ f))
    grown (inl h) = inl (ap (λ z. z ∷ f) same ∙ ap (λ zs. y ∷ zs) h.0, h.1)
    grown (inr (inl h)) = inr (inl (h.0, h.1, h.2, ap (λ z. z ∷ g) (sym same) ∙ ap (λ zs. x ∷ zs) h.3, h.4))
    grown (inr (inr h)) = inr (inr (h.0, h.1, h.2, ap (λ z. z ∷ f) same ∙ ap (λ zs. y ∷ zs) h.3, h.4))

-- Stops

-- a front that goes on within the levels, and not with the next token
record StopsAt (levels : ℕ) (tokens front rest : List SourceToken) : Type 0 where
  whole : tokens ≡ front ++ rest
  goes : BeginsWithin levels front
  stops : (token : SourceToken) (after : List SourceToken) → rest ≡ token ∷ after → BeginsWithin levels (front ++ token ∷ []) → ⊥

within-begins : (levels : ℕ) (front : List SourceToken) → BeginsWithin levels front → Begins front
within-begins levels front b = (b.0, b.1, b.2)

within-front : (levels : ℕ) (front back : List SourceToken) → BeginsWithin levels (front ++ back) → BeginsWithin levels front
within-front levels front back b = (b.0, back ++ b.1, subst (SpellsUnit b.0) (append_assoc front back b.1) b.2, b.3)

wrong-stop : (levels : ℕ) (tokens rest : List SourceToken) (h : IsFirstWrong levels tokens rest) → StopsAt levels tokens h.front rest
wrong-stop levels tokens rest h = record {
  whole = h.whole;
  goes = h.goes;
  stops = λ token after is b. subst (NoneThrough h.front) is h.stops (within-begins levels (h.front ++ token ∷ []) b);
}

deep-stop : (levels : ℕ) (tokens rest : List SourceToken) (h : IsFirstDeep levels tokens rest) → StopsAt levels tokens h.front rest
deep-stop levels tokens rest h = record {
  whole = h.whole;
  goes = h.before;
  stops = λ token after is b. h.stops (subst (λ t. BeginsWithin levels (h.front ++ t ∷ [])) (ap (head_or token) (sym is ∙ h.next)) b);
}

never-on : (levels : ℕ) (tokens f r g s : List SourceToken) → StopsAt levels tokens f r → StopsAt levels tokens g s → GoesOn f r g → ⊥
never-on levels tokens f r g s one other on = one.stops on.0 on.2 on.4 (within-front levels (f ++ on.0 ∷ []) on.1 (subst (BeginsWithin levels) on.3 other.goes))

-- tokens stop at one place
one-stop : (levels : ℕ) (tokens f r g s : List SourceToken) → StopsAt levels tokens f r → StopsAt levels tokens g s → Cuts f r g s
one-stop levels tokens f r g s one other = by (cut-two f r g s (sym one.whole ∙ other.whole))
  where
    by : Cuts f r g s ⊎ (GoesOn f r g ⊎ GoesOn g s f) → Cuts f r g s
    by (inl h) = h
    by (inr (inl h)) = absurd (never-on levels tokens f r g s one other h)
    by (inr (inr h)) = absurd (never-on levels tokens g s f r other one h)

-- wrong tokens aren't too deep
not-both : (levels : ℕ) (tokens r s : List SourceToken) → IsFirstWrong levels tokens r → IsFirstDeep levels tokens s → ⊥
not-both levels tokens r s wrong deep =
    let same = one-stop levels tokens wrong.front r deep.front s (wrong-stop levels tokens r wrong) (deep-stop levels tokens s deep) in
    subst (NoneThrough wrong.front) (same.1 ∙ deep.next) wrong.stops (subst (λ f. Begins (f ++ deep.token ∷ [])) (sym same.0) deep.goes)

-- Faults

module _ (levels : ℕ) (tokens : List SourceToken) where
  IsWrongAt : Place → Type 0
  IsWrongAt place = (rest : List SourceToken) × IsFirstWrong levels tokens rest × (source_place place ≡ place_at tokens rest)

  wrong-place : (one other : Place) (r s : List SourceToken) → IsFirstWrong levels tokens r → IsFirstWrong levels tokens s → source_place one ≡ place_at tokens r →
      source_place other ≡ place_at tokens s → one ≡ other
  wrong-place one other r s h d p q =
      let same = one-stop levels tokens h.front r d.front s (wrong-stop levels tokens r h) (wrong-stop levels tokens s d) in
      place-is one other (p ∙ ap (place_at tokens) same.1 ∙ sym q)

  deep-place : (one other : Place) (r s : List SourceToken) → IsFirstDeep levels tokens r → IsFirstDeep levels tokens s → source_place one ≡ place_at tokens r →
      source_place other ≡ place_at tokens s → one ≡ other
  deep-place one other r s h d p q =
      let same = one-stop levels tokens h.front r d.front s (deep-stop levels tokens r h) (deep-stop levels tokens s d) in
      place-is one other (p ∙ ap (place_at tokens) same.1 ∙ sym q)

  -- what is left out of the language isn't only unexpected
  left-out : (r s : List SourceToken) (h : IsFirstWrong levels tokens r) (d : IsFirstWrong levels tokens s) → StopsAtLeftOut h.front r → StopsAtLeftOut d.front s
  left-out r s h d l =
      let same = one-stop levels tokens h.front r d.front s (wrong-stop levels tokens r h) (wrong-stop levels tokens s d) in
      subst (StopsAtLeftOut d.front) same.1 (subst (λ f. StopsAtLeftOut f r) same.0 l)

  -- tokens that are no unit have one fault
  pub one-fault : (one other : ParseFault) → IsFault levels tokens one → IsFault levels tokens other → one ≢ NoMemory → other ≢ NoMemory → one ≡ other
  one-fault (Unexpected p) (Unexpected q) h d m n = ap Unexpected (wrong-place p q h.0 d.0 h.1 d.1 h.2 d.2)
  one-fault (Unexpected p) (Unsupported q) h d m n = absurd (h.3 (left-out d.0 h.0 d.1 h.1 d.3))
  one-fault (Unexpected p) (TooDeep q) h d m n = absurd (not-both levels tokens h.0 d.0 h.1 d.1)
  one-fault (Unsupported p) (Unexpected q) h d m n = absurd (d.3 (left-out h.0 d.0 h.1 d.1 h.3))
  one-fault (Unsupported p) (Unsupported q) h d m n = ap Unsupported (wrong-place p q h.0 d.0 h.1 d.1 h.2 d.2)
  one-fault (Unsupported p) (TooDeep q) h d m n = absurd (not-both levels tokens h.0 d.0 h.1 d.1)
  one-fault (TooDeep p) (Unexpected q) h d m n = absurd (not-both levels tokens d.0 h.0 d.1 h.1)
  one-fault (TooDeep p) (Unsupported q) h d m n = absurd (not-both levels tokens d.0 h.0 d.1 h.1)
  one-fault (TooDeep p) (TooDeep q) h d m n = ap TooDeep (deep-place p q h.0 d.0 h.1 d.1 h.2 d.2)
  one-fault NoMemory other h d m n = absurd (m refl)
  one-fault one NoMemory h d m n = absurd (n refl)

  spelled-right : (u : SourceUnit) (rest : List SourceToken) → SpellsUnit u tokens → IsFirstWrong levels tokens rest → ⊥
  spelled-right u rest is h = by rest h.whole h.stops
    where
      by : (rest : List SourceToken) → tokens ≡ h.front ++ rest → NoneThrough h.front rest → ⊥
      by [] e stops = stops u (subst (SpellsUnit u) (e ∙ nothing h.front) is)
        where
          nothing : {A : Type 0} (xs : List A) → xs ++ [] ≡ xs
          nothing [] = refl
          nothing (x ∷ xs) = ap (λ ys. x ∷ ys) (nothing xs)
      by (token ∷ rest) e stops = stops (u, rest, subst (SpellsUnit u) (e ∙ sym (append_assoc h.front (token ∷ []) rest)) is)

  -- tokens that spell a unit within the levels have none
  pub no-fault : (u : SourceUnit) (fault : ParseFault) → SpellsUnit u tokens → unit_height u ≤ levels → IsFault levels tokens fault → fault ≢ NoMemory → ⊥
  no-fault u (Unexpected p) is low h m = spelled-right u h.0 is h.1
  no-fault u (Unsupported p) is low h m = spelled-right u h.0 is h.1
  no-fault u (TooDeep p) is low h m =
      h.1.stops (u, h.1.after, subst (SpellsUnit u) (h.1.whole ∙ ap (λ ts. h.1.front ++ ts) h.1.next ∙ sym (append_assoc h.1.front (h.1.token ∷ []) h.1.after)) is, low)
  no-fault u NoMemory is low h m = m refl
