-- Where and why reading stops, for a front with one more token.
use Rattle.std.proofs.Common.{◌≡◌, ℕ, suc, ◌+◌, ◌-◌, get_or, ◌<◌, Bool, true, false, List, [], ◌∷◌, ◌++◌, length, take, refl, sym, ◌∙◌, ap, subst, arith, append_assoc, length-append, ◌⊎◌, inl, inr}
use Rattle.std.proofs.Common.{Ok}
use Rattle.std.proofs.Math.Seq.{take-append_seam}
use Rattle.v_tree.specs.Tokens.{SourceToken}
use Rattle.v_tree.specs.Trees.{SourceUnit}
use Rattle.v_readers.specs.Repeat.{append-nil}
use Rattle.v_readers.specs.Reading.{wrong, deep}
use Rattle.v_parse.specs.Spelling.{SpellsUnit}
use Rattle.v_parse.specs.Items.{unit_reader}
use Rattle.v_parse.specs.Verdict.{Begins, BeginsWithin, IsFirstDeep}
use Rattle.v_parse.specs.Refusals.{end_place, Decides}
use Rattle.v_parse.specs.Judged.{unit-found, unit-wrong, unit-deep}

-- a list with one more element, cut in two, is cut at its end or before
cut-before : {A : Type 0} (xs ys zs : List A) (x : A) → xs ++ x ∷ [] ≡ ys ++ zs → (zs ≡ []) ⊎ ((back : List A) × (xs ≡ ys ++ back))
cut-before {A} xs [] zs x e = inr (xs, refl)
cut-before {A} [] (y ∷ []) zs x e = inl (sym (ap tail_of e))
  where
    tail_of : List A → List A
    tail_of [] = []
    tail_of (w ∷ ws) = ws
cut-before {A} [] (y ∷ z ∷ ys) zs x e = absurd (let p : 1 ≡ length (y ∷ z ∷ (ys ++ zs)) = ap length e in omega (arith, p))
cut-before {A} (w ∷ ws) (y ∷ ys) zs x e = grown (cut-before ws ys zs x (ap tail_of e))
  where
    tail_of : List A → List A
    tail_of [] = []
    tail_of (v ∷ vs) = vs

    head_of : List A → A
    head_of [] = w
    head_of (v ∷ vs) = v

    grown : (zs ≡ []) ⊎ ((back : List A) × (ws ≡ ys ++ back)) → (zs ≡ []) ⊎ ((back : List A) × (w ∷ ws ≡ y ∷ (ys ++ back)))
    grown (inl h) = inl h
    grown (inr h) = inr (h.0, ap (λ v. v ∷ ws) (ap head_of e) ∙ ap (λ vs. y ∷ vs) h.1)

module _ (levels : ℕ) (front : List SourceToken) (next : SourceToken) where
  -- what a front with one more token spells, it begins with
  pub found-goes : (u : SourceUnit) (rest : List SourceToken) → unit_reader levels (front ++ next ∷ []) ≡ Ok (u, rest) → Begins (front ++ next ∷ [])
  found-goes u rest e = (u, [], subst (SpellsUnit u) (sym (append-nil (front ++ next ∷ []))) (unit-found levels (front ++ next ∷ []) u rest e).0)

  -- at the end reading stops where a unit may go on
  pub end-goes : unit_reader levels (front ++ next ∷ []) ≡ wrong [] → Begins (front ++ next ∷ [])
  end-goes e =
      let p = unit-wrong levels (front ++ next ∷ []) [] e in
      let whole : front ++ next ∷ [] ≡ p.front = p.whole ∙ append-nil p.front in
      subst Begins (sym whole) (p.goes.0, p.goes.1, p.goes.2)

  -- before the end it stops where none goes on
  pub wrong-stops : (token : SourceToken) (rest : List SourceToken) → unit_reader levels (front ++ next ∷ []) ≡ wrong (token ∷ rest) → Begins (front ++ next ∷ []) → ⊥
  wrong-stops token rest e b =
      let p = unit-wrong levels (front ++ next ∷ []) (token ∷ rest) e in
      let same : (front ++ next ∷ []) ++ b.1 ≡ (p.front ++ token ∷ []) ++ (rest ++ b.1) =
      ap (λ ts. ts ++ b.1) p.whole ∙ append_assoc p.front (token ∷ rest) b.1 ∙ sym (append_assoc p.front (token ∷ []) (rest ++ b.1)) in
      p.stops (b.0, rest ++ b.1, subst (SpellsUnit b.0) same b.2)

  -- what is too deep goes on, where the front doesn't need more levels
  pub deep-goes : (rest : List SourceToken) → BeginsWithin levels front → unit_reader levels (front ++ next ∷ []) ≡ deep rest → Begins (front ++ next ∷ [])
  deep-goes rest within e = by (cut-before front (p.front ++ p.token ∷ []) p.after next whole)
    where
      p : IsFirstDeep levels (front ++ next ∷ []) rest
      p = unit-deep levels (front ++ next ∷ []) rest e

      whole : front ++ next ∷ [] ≡ (p.front ++ p.token ∷ []) ++ p.after
      whole = p.whole ∙ ap (λ ts. p.front ++ ts) p.next ∙ sym (append_assoc p.front (p.token ∷ []) p.after)

      by : (p.after ≡ []) ⊎ ((back : List SourceToken) × (front ≡ (p.front ++ p.token ∷ []) ++ back)) → Begins (front ++ next ∷ [])
      by (inl h) = subst Begins (sym (whole ∙ ap (λ ts. (p.front ++ p.token ∷ []) ++ ts) h ∙ append-nil (p.front ++ p.token ∷ []))) p.goes
      by (inr h) = absurd (p.stops (within.0, h.0 ++ within.1, subst (SpellsUnit within.0) (ap (λ ts. ts ++ within.1) h.1 ∙ append_assoc (p.front ++ p.token ∷ []) h.0 within.1) within.2, within.3))

-- the front of tokens is what stands before those that are left
pub front-is : {A : Type 0} (tokens front rest : List A) → tokens ≡ front ++ rest → take (length tokens - length rest) tokens ≡ front
front-is tokens front rest e =
    ap (λ ts. take (length ts - length rest) ts) e
    ∙ ap (λ n. take n (front ++ rest)) (let l = length-append front rest in let m : length (front ++ rest) - length rest ≡ length front = omega (arith, l) in m)
    ∙ take-append_seam front rest

-- a test that tells whether reading stops at the end tells whether units go on
pub wrong-decides : (levels : ℕ) (front : List SourceToken) (next : SourceToken) (rest : List SourceToken) (is_end : Bool) → (is_end ≡ true → length rest ≡ 0) → (is_end ≡ false → 0 < length rest)
    → unit_reader levels (front ++ next ∷ []) ≡ wrong rest → Decides is_end (Begins (front ++ next ∷ []))
wrong-decides levels front next [] true t f e = end-goes levels front next e
wrong-decides levels front next [] false t f e = absurd (omega (arith, f refl))
wrong-decides levels front next (token ∷ rest) true t f e = absurd (omega (arith, t refl))
wrong-decides levels front next (token ∷ rest) false t f e = wrong-stops levels front next token rest e

-- the tests of a statement and of an operand, one behind the other
pub either-decides : (A B : Type 0) (a b : Bool) → a ≡ false → Decides a A → Decides b B → Decides b (A ⊎ B)
either-decides A B true b e p q = absurd (let r : true ≡ false = e in cc)
either-decides A B false true e p q = inr q
either-decides A B false false e p q = by
  where
    by : A ⊎ B → ⊥
    by (inl x) = p x
    by (inr y) = q y

-- the place behind the last token
pub end_place_is : (tokens : List SourceToken) (last : SourceToken) → 0 < length tokens → get_or tokens (length tokens - 1) last ≡ last
    → end_place tokens ≡ record { line = last.place.line; column = last.place.column + 1 }
end_place_is [] last some e = absurd (let p : 0 < 0 = some in omega arith)
end_place_is (token ∷ []) last some e = ap (λ (t : SourceToken). record { line = t.place.line; column = t.place.column + 1 }) e
end_place_is (token ∷ next ∷ rest) last some e =
    end_place_is (next ∷ rest) last (omega arith)
    (let n : length (token ∷ next ∷ rest) - 1 ≡ suc (length (next ∷ rest) - 1) = omega arith in sym (ap (λ i. get_or (token ∷ next ∷ rest) i last) n) ∙ e)
