-- Lists gone through place by place (nothing of the language).
use Rattle.std.proofs.Common.{◌≡◌, ℕ, ◌<◌, ◌≤◌, List, [], ◌∷◌, ◌++◌, Bool, true, false, ◌||◌, refl, sym, ap, subst, ◌∙◌, inl, inr, nat_eq}
use Rattle.std.specs.Prelude.{◌⊎◌, nat_lt}
use Rattle.std.specs.List.{list_any}
use Rattle.std.proofs.lemmas.Bool.{eqb-true}
use Rattle.vf_base.specs.Lists.{has}
use Rattle.v_design.specs.Paths.{paths}
use Rattle.v_design.specs.Designs.{FlatDesign}
use Rattle.v_design.specs.PlainDesigns.{design_of}
use Rattle.graph_order.specs.ListLaws.{has-append, or-false}
use Rattle.copy_laws.specs.Filter.{IsIn}
use Rattle.trace_window.specs.Writes.{Written}
use Rattle.reach_search.specs.Reach.{ReachKept, is_reached, ReachesToo}
use Rattle.race_notes.proofs.Noted.{or-left, or-right}
use Rattle.phase_reach.specs.Reached.{AreReached, WritesAreReached}

either-of : (a b : Bool) → (a || b) ≡ true → (a ≡ true) ⊎ (b ≡ true)
either-of true b e = inl refl
either-of false b e = inr e

-- one object more of a list of objects all of which are so
pub has-more : (P : ℕ → Type 0) (objects : List ℕ) (object : ℕ) → ((other : ℕ) → has objects other ≡ true → P other) → P object → (other : ℕ) → has (objects ++ object ∷ []) other ≡ true → P other
has-more P objects object all one other e =
    elim (either-of (has objects other) (nat_eq object other || false) (sym (has-append objects (object ∷ []) other) ∙ e)) [
      | inl before ↦ all other before
      | inr here ↦ subst P (eqb-true object other (sym (or-false (nat_eq object other)) ∙ here)) one
    ]

any-more : (test : ℕ → Bool) (objects : List ℕ) (object : ℕ) → list_any test (objects ++ object ∷ []) ≡ true → (list_any test objects ≡ true) ⊎ (test object ≡ true)
any-more test [] object e = elim (either-of (test object) false e) [ inl here ↦ inr here | inr out ↦ absurd (let z = out in cc) ]
any-more test (one ∷ objects) object e = elim (either-of (test one) (list_any test (objects ++ object ∷ [])) e) [
  | inl here ↦ inl (or-left (test one) (list_any test objects) here)
  | inr later ↦ elim (any-more test objects object later) [ inl before ↦ inl (or-right (test one) (list_any test objects) before) | inr last ↦ inr last ]
]

-- what one object more reaches is reached besides
pub reached-more : (design : FlatDesign) (changed : List ℕ) (object : ℕ) (old new : ReachKept) → design_of old.design ≡ design → AreReached design changed old → ReachesToo object old new →
    AreReached design (changed ++ object ∷ []) new
reached-more design changed object old new same all more other e =
    elim (any-more (λ source. nat_lt 0 (paths design source other)) changed object e) [
      | inl before ↦ more.reached other ∙ or-left (is_reached old other) (nat_lt 0 (paths (design_of old.design) object other)) (all other before)
      | inr here ↦
          more.reached other
          ∙ or-right (is_reached old other) (nat_lt 0 (paths (design_of old.design) object other)) (ap (λ (d : FlatDesign). nat_lt 0 (paths d object other)) same ∙ here)
    ]

in-more : {A : Type 0} (x : A) (xs : List A) (y : A) → IsIn x (xs ++ y ∷ []) → IsIn x xs ⊎ (x ≡ y)
in-more x [] y (inl e) = inr e
in-more x [] y (inr out) = absurd out
in-more x (one ∷ xs) y (inl e) = inl (inl e)
in-more x (one ∷ xs) y (inr later) = elim (in-more x xs y later) [ inl before ↦ inl (inr before) | inr e ↦ inr e ]

-- a write more, which isn't between the moments
pub writes-beside : (design : FlatDesign) (first end : ℕ) (writes : List Written) (write : Written) (reached : ReachKept) → (first ≤ write.moment → write.moment < end → ⊥) →
    WritesAreReached design first end writes reached → WritesAreReached design first end (writes ++ write ∷ []) reached
writes-beside design first end writes write reached out all one is_in since before =
    elim (in-more one writes write is_in) [
      | inl earlier ↦ all one earlier since before
      | inr e ↦ absurd (out (subst (λ (w : Written). first ≤ w.moment) e since) (subst (λ (w : Written). w.moment < end) e before))
    ]

-- a write more, and what it reaches is reached besides
pub writes-more : (design : FlatDesign) (first end : ℕ) (writes : List Written) (write : Written) (old new : ReachKept) → design_of old.design ≡ design →
    WritesAreReached design first end writes old → ReachesToo write.object old new → WritesAreReached design first end (writes ++ write ∷ []) new
writes-more design first end writes write old new same all more one is_in since before object reaches =
    more.reached object ∙ elim (in-more one writes write is_in) [
      | inl earlier ↦ or-left (is_reached old object) (nat_lt 0 (paths (design_of old.design) write.object object)) (all one earlier since before object reaches)
      | inr e ↦
          or-right (is_reached old object) (nat_lt 0 (paths (design_of old.design) write.object object))
          (ap (λ (d : FlatDesign). nat_lt 0 (paths d write.object object)) same ∙ ap (λ (w : Written). nat_lt 0 (paths design w.object object)) (sym e) ∙ reaches)
    ]
