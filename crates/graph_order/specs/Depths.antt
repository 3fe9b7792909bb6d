-- Laws on the depths of vertices, taken in order (nothing of the language).
use Rattle.std.proofs.Common.{◌≡◌, ℕ, ◌+◌, ◌<◌, ◌≤◌, true, false, List, length, get_or, take, set, map, ap, sym, ◌∙◌, inl, inr, arith}
use Rattle.std.specs.Prelude.{nat_lt}
use Rattle.std.proofs.lemmas.Bool.{cases_eq}
use Rattle.std.proofs.lemmas.List.{get_or-set_same, get_or-set_other, length-set, take_more, take_all, take-take, get_or-take, length-take-le}
use Rattle.vf_base.specs.Lists.{has}
use Rattle.vf_base.specs.Lists.{greatest}
use Rattle.graph_order.specs.ListLaws.{has-take, has_place, has_push}
use Rattle.graph_order.specs.Digraphs.{needs_of, IsInOrder, step_to, depth_over, AreDepths}
use Rattle.graph_order.specs.Greatest.{greatest-le, map-has, map-agree_has}

-- what stands in a shorter front stands in a longer one
pub has-take_le : (xs : List ℕ) (j i n : ℕ) → j ≤ i → has (take j xs) n ≡ true → has (take i xs) n ≡ true
has-take_le xs j i n low e = has-take (take i xs) j n (ap (λ l. has l n) (take-take j i xs low) ∙ e)

-- the vertices in the first part of an order need none but those in it
pub needs_before : (needs : List (List ℕ)) (vertices : List ℕ) (i v d : ℕ) → IsInOrder needs vertices → i ≤ length vertices → has (take i vertices) v ≡ true → has (needs_of needs v) d ≡ true →
    (j : ℕ) × (j < i) × (has (take j vertices) d ≡ true)
needs_before needs vertices i v d in_order short e needed =
    let place = has_place (take i vertices) v e in
    let low : place.0 < i = omega (arith, place.1, length-take-le i vertices short) in
    let at : get_or vertices place.0 0 ≡ v = sym (get_or-take i vertices place.0 0 low) ∙ place.2 in
    (place.0, low, in_order place.0 d (omega arith) (ap (λ x. has (needs_of needs x) d) at ∙ needed))

-- the depths of the first so many vertices of an order
pub record DepthsBefore (needs : List (List ℕ)) (counted : ℕ) (vertices : List ℕ) (i : ℕ) (depths : List ℕ) : Type 0 where
  pub same_length : length depths ≡ length needs
  pub right : (v : ℕ) → has (take i vertices) v ≡ true → get_or depths v 0 ≡ depth_over needs counted depths v
  pub bounded : (v : ℕ) → get_or depths v 0 ≤ i

step_to-le : (v counted : ℕ) → step_to counted v ≤ 1
step_to-le v counted = elim (nat_lt v counted) as (λ b. (elim b [ true ↦ 1 | false ↦ 0 ]) ≤ 1) [ true ↦ omega arith | false ↦ omega arith ]

-- a depth is at most one more than those that it stands over
depth_over-le : (needs : List (List ℕ)) (counted : ℕ) (depths : List ℕ) (v i : ℕ) → ((u : ℕ) → get_or depths u 0 ≤ i) → depth_over needs counted depths v ≤ i + 1
depth_over-le needs counted depths v i bounded =
    greatest-le (i + 1) (map (λ need. get_or depths need 0 + step_to counted v) (needs_of needs v))
    (λ n e.
    let one = map-has (λ need. get_or depths need 0 + step_to counted v) (needs_of needs v) n e in
    omega (arith, one.2, bounded one.0, step_to-le v counted))

-- over the same depths of what is needed
depth_over-agree : (needs : List (List ℕ)) (counted : ℕ) (one other : List ℕ) (v : ℕ) → ((d : ℕ) → has (needs_of needs v) d ≡ true → get_or one d 0 ≡ get_or other d 0) →
    depth_over needs counted one v ≡ depth_over needs counted other v
depth_over-agree needs counted one other v same =
    ap greatest (map-agree_has (λ need. get_or one need 0 + step_to counted v) (λ need. get_or other need 0 + step_to counted v) (needs_of needs v) (λ d e. ap (λ n. n + step_to counted v) (same d e)))

-- one more vertex
pub DepthsBefore-more : (needs : List (List ℕ)) (counted : ℕ) (vertices : List ℕ) (i : ℕ) (depths : List ℕ) (x value : ℕ) → IsInOrder needs vertices → i < length vertices → x ≡ get_or vertices i 0 →
    x < length needs →
    value ≡ depth_over needs counted depths x → DepthsBefore needs counted vertices i depths → DepthsBefore needs counted vertices (i + 1) (set depths x value)
DepthsBefore-more needs counted vertices i depths x value in_order within is_next low is had = record {
  same_length = length-set depths x value ∙ had.same_length;
  right = λ v e.
      elim (cases_eq v x) [
        | inl same ↦
            ap (λ j. get_or (set depths x value) j 0) same ∙ get_or-set_same depths x value 0 (omega (arith, had.same_length)) ∙ is
            ∙ sym (depth_over-agree needs counted (set depths x value) depths x (λ d needed. kept d (in_order i d within (ap (λ u. has (needs_of needs u) d) (sym is_next) ∙ needed))))
            ∙ ap (depth_over needs counted (set depths x value)) (sym same)
        | inr other ↦
            let before : has (take i vertices) v ≡ true = was_before v e other in
            kept v before ∙ had.right v before
            ∙ sym (depth_over-agree needs counted (set depths x value) depths v
            (λ d needed. let r = needs_before needs vertices i v d in_order (omega arith) before needed in kept d (has-take_le vertices r.0 i d (omega (arith, r.1)) r.2)))
      ];
  bounded = λ v.
      elim (cases_eq v x) [
        | inl same ↦
            let now : get_or (set depths x value) v 0 ≡ value = ap (λ j. get_or (set depths x value) j 0) same ∙ get_or-set_same depths x value 0 (omega (arith, had.same_length)) in
            omega (arith, depth_over-le needs counted depths x i had.bounded)
        | inr other ↦ omega (arith, get_or-set_other depths x v value 0 other, had.bounded v)
      ];
}
  where
    was_before : (v : ℕ) → has (take (i + 1) vertices) v ≡ true → (v ≡ x → ⊥) → has (take i vertices) v ≡ true
    was_before v e other =
        elim (has_push (take i vertices) (get_or vertices i 0) v (ap (λ l. has l v) (sym (take_more vertices i 0 within)) ∙ e)) [
          | inl before ↦ before
          | inr last ↦ absurd (other (sym last ∙ sym is_next))
        ]

    kept : (d : ℕ) → has (take i vertices) d ≡ true → get_or (set depths x value) d 0 ≡ get_or depths d 0
    kept d before =
        elim (cases_eq d x) [
          | inl same ↦
              ap (λ j. get_or (set depths x value) j 0) same ∙ get_or-set_same depths x value 0 (omega (arith, had.same_length)) ∙ is
              ∙ sym (had.right x (ap (has (take i vertices)) (sym same) ∙ before)) ∙ ap (λ j. get_or depths j 0) (sym same)
          | inr other ↦ get_or-set_other depths x d value 0 other
        ]

-- all vertices
pub DepthsBefore-all : (needs : List (List ℕ)) (counted : ℕ) (vertices : List ℕ) (i : ℕ) (depths : List ℕ) → length vertices ≤ i → ((v : ℕ) → v < length needs → has vertices v ≡ true) →
    DepthsBefore needs counted vertices i depths → AreDepths needs counted depths
DepthsBefore-all needs counted vertices i depths past all had v low = had.right v (ap (λ l. has l v) (take_all i vertices past) ∙ all v low)
