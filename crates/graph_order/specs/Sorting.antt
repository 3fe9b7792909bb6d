-- Laws on sorting the vertices of a graph: a vertex waits for one that it needs, until all of them are placed (nothing of the language).
use Rattle.std.proofs.Common.{◌≡◌, ℕ, zero, suc, ◌+◌, ◌<◌, ◌≤◌, Bool, true, false, List, [], ◌∷◌, ◌++◌, length, get_or, take, drop, set, refl, ap, sym, ◌∙◌, subst, inl, inr, arith, replicate}
use Rattle.std.specs.Prelude.{nat_eq, nat_le, not, ◌&&◌, ◌||◌, ◌⊎◌, sum_by, Vec}
use Rattle.std.specs.declared.alloc.Global.{Global}
use Rattle.std.proofs.lemmas.Bool.{cases_eq, cases_lt, both_ways, eq-eqb, ne_eqb, eqb-true, or_cases, and_from, and_parts, not-true, leb-true, le-leb, false_from_ne_true}
use Rattle.std.proofs.lemmas.List.{get_or-set_same, get_or-set_other, length-set, length_push, get_or_append_left, get_or_push, take-append-le, take_all, take_more, get_or-replicate}
use Rattle.std.proofs.lemmas.List.{length-replicate, get_or-map, length-map, map-set, drop_more}
use Rattle.std.proofs.lemmas.List.Sums.{sum_by-set, sum_by-cons}
use Rattle.vf_base.specs.Lists.{has}
use Rattle.graph_order.specs.ListLaws.{has-append, or-false, has-get_or, has_place, has-take, has_push, has_before, now_has, still_has}
use Rattle.graph_order.specs.Digraphs.{lists_of, needs_of, NeedVertices, IsInOrder, Places, IsOrder}

-- 1 for a vertex without a place
abbrev pub unplaced : Bool → ℕ
unplaced true = 0
unplaced false = 1

-- a sort that goes on: for each vertex how many of its needs are known to be placed, which vertices are placed, and their order
pub record IsSorting (needs : List (List ℕ)) (met : List ℕ) (placed : List Bool) (vertices : List ℕ) : Type 0 where
  pub met_length : length met ≡ length needs
  pub placed_length : length placed ≡ length needs
  pub met_within : (v : ℕ) → v < length needs → get_or met v 0 ≤ length (needs_of needs v)
  pub met_placed : (v k : ℕ) → v < length needs → k < get_or met v 0 → get_or placed (get_or (needs_of needs v) k 0) false ≡ true
  pub places : Places needs placed vertices
  pub in_order : IsInOrder needs vertices
  pub counted : sum_by unplaced placed + length vertices ≡ length needs
  pub are_vertices : (i : ℕ) → i < length vertices → get_or vertices i 0 < length needs

-- a vertex waits for one that it needs and that isn't among the first so many of the order
pub record Waits (needs waiters : List (List ℕ)) (vertices : List ℕ) (done vertex : ℕ) : Type 0 where
  pub for : ℕ
  pub needed : has (needs_of needs vertex) for ≡ true
  pub listed : has (get_or waiters for []) vertex ≡ true
  pub ahead : has (take done vertices) for ≡ false

-- each vertex without a place waits, but for some
abbrev pub AllWait : List (List ℕ) → List (List ℕ) → List Bool → List ℕ → ℕ → (ℕ → Bool) → Type 0
AllWait needs waiters placed vertices done but =
    (v : ℕ) → v < length needs → get_or placed v false ≡ false → (but v ≡ true) ⊎ Waits needs waiters vertices done v

-- the same, but for one less
abbrev pub one_less : (ℕ → Bool) → ℕ → ℕ → Bool
one_less but vertex v = but v && not (nat_eq v vertex)

-- Placing

set_keeps : (placed : List Bool) (v x : ℕ) → v < length placed → get_or placed x false ≡ true → get_or (set placed v true) x false ≡ true
set_keeps placed v x low e =
    elim (cases_eq x v) [
      | inl same ↦ ap (λ j. get_or (set placed v true) j false) same ∙ get_or-set_same placed v true false low
      | inr other ↦ get_or-set_other placed v x true false other ∙ e
    ]

pub IsInOrder-push : (needs : List (List ℕ)) (vertices : List ℕ) (v : ℕ) → IsInOrder needs vertices → ((d : ℕ) → has (needs_of needs v) d ≡ true → has vertices d ≡ true) →
    IsInOrder needs (vertices ++ v ∷ [])
IsInOrder-push needs vertices v had all i d low e =
    elim (cases_lt i (length vertices)) [
      | inl within ↦
          ap (λ l. has l d) (take-append-le i vertices (v ∷ []) (omega arith))
          ∙ had i d within (ap (λ x. has (needs_of needs x) d) (sym (get_or_append_left vertices (v ∷ []) 0 i within)) ∙ e)
      | inr past ↦
          let last : i ≡ length vertices = omega (arith, length_push vertices v) in
          ap (λ l. has l d) (ap (λ n. take n (vertices ++ v ∷ [])) last ∙ take-append-le (length vertices) vertices (v ∷ []) (omega arith) ∙ take_all (length vertices) vertices (omega arith))
          ∙ all d (ap (λ x. has (needs_of needs x) d) (sym (get_or_push vertices v 0 i (sym last))) ∙ e)
    ]

-- a vertex of which all needs are placed gets the next place
pub IsSorting-place : (needs : List (List ℕ)) (met : List ℕ) (placed : List Bool) (vertices : List ℕ) (v at : ℕ) → IsSorting needs met placed vertices → NeedVertices needs → v < length needs →
    get_or placed v false ≡ false → at ≡ length (needs_of needs v) → ((k : ℕ) → k < at → get_or placed (get_or (needs_of needs v) k 0) false ≡ true) →
    IsSorting needs (set met v at) (set placed v true) (vertices ++ v ∷ [])
IsSorting-place needs met placed vertices v at had vertices_needed low is_free end all = record {
  met_length = length-set met v at ∙ had.met_length;
  placed_length = length-set placed v true ∙ had.placed_length;
  met_within = λ u low_u.
      elim (cases_eq u v) [
        | inl same ↦ subst (λ j. get_or (set met v at) j 0 ≤ length (needs_of needs j)) (sym same)
            (let now : get_or (set met v at) v 0 ≡ at = get_or-set_same met v at 0 (omega (arith, had.met_length)) in omega arith)
        | inr other ↦ let old : get_or (set met v at) u 0 ≡ get_or met u 0 = get_or-set_other met v u at 0 other in omega (arith, had.met_within u low_u)
      ];
  met_placed = λ u k low_u within.
      set_keeps placed v (get_or (needs_of needs u) k 0) (omega (arith, had.placed_length))
      (elim (cases_eq u v) [
        | inl same ↦
            let now : get_or (set met v at) u 0 ≡ at = ap (λ j. get_or (set met v at) j 0) same ∙ get_or-set_same met v at 0 (omega (arith, had.met_length)) in
            ap (λ j. get_or placed (get_or (needs_of needs j) k 0) false) same ∙ all k (omega arith)
        | inr other ↦ let old : get_or (set met v at) u 0 ≡ get_or met u 0 = get_or-set_other met v u at 0 other in had.met_placed u k low_u (omega arith)
      ]);
  places = λ u low_u.
      elim (cases_eq u v) [
        | inl same ↦
            ap (λ j. get_or (set placed v true) j false) same ∙ get_or-set_same placed v true false (omega (arith, had.placed_length))
            ∙ sym (ap (has (vertices ++ v ∷ [])) same ∙ now_has vertices v)
        | inr other ↦ get_or-set_other placed v u true false other ∙ had.places u low_u ∙ sym (still_has vertices v u other)
      ];
  in_order = IsInOrder-push needs vertices v had.in_order
      (λ d e.
      let place = has_place (needs_of needs v) d e in
      sym (had.places d (vertices_needed v d e)) ∙ ap (λ x. get_or placed x false) (sym place.2) ∙ all place.0 (omega (arith, place.1)));
  counted =
      let change : sum_by unplaced (set placed v true) + unplaced (get_or placed v false) ≡ sum_by unplaced placed + 0 = sum_by-set unplaced placed v true false (omega (arith, had.placed_length)) in
      let free : unplaced (get_or placed v false) ≡ 1 = ap unplaced is_free in
      omega (arith, had.counted, length_push vertices v);
  are_vertices = λ i low_i.
      elim (cases_lt i (length vertices)) [
        | inl within ↦ subst (λ x. x < length needs) (sym (get_or_append_left vertices (v ∷ []) 0 i within)) (had.are_vertices i within)
        | inr past ↦ subst (λ x. x < length needs) (sym (get_or_push vertices v 0 i (omega (arith, length_push vertices v)))) low
      ];
}

-- a vertex goes on over needs that are placed
pub IsSorting-met : (needs : List (List ℕ)) (met : List ℕ) (placed : List Bool) (vertices : List ℕ) (v at : ℕ) → IsSorting needs met placed vertices → v < length needs →
    at ≤ length (needs_of needs v) → ((k : ℕ) → k < at → get_or placed (get_or (needs_of needs v) k 0) false ≡ true) → IsSorting needs (set met v at) placed vertices
IsSorting-met needs met placed vertices v at had low within all = record {
  met_length = length-set met v at ∙ had.met_length;
  placed_length = had.placed_length;
  met_within = λ u low_u.
      elim (cases_eq u v) [
        | inl same ↦ subst (λ j. get_or (set met v at) j 0 ≤ length (needs_of needs j)) (sym same)
            (let now : get_or (set met v at) v 0 ≡ at = get_or-set_same met v at 0 (omega (arith, had.met_length)) in omega arith)
        | inr other ↦ let old : get_or (set met v at) u 0 ≡ get_or met u 0 = get_or-set_other met v u at 0 other in omega (arith, had.met_within u low_u)
      ];
  met_placed = λ u k low_u below.
      elim (cases_eq u v) [
        | inl same ↦
            let now : get_or (set met v at) u 0 ≡ at = ap (λ j. get_or (set met v at) j 0) same ∙ get_or-set_same met v at 0 (omega (arith, had.met_length)) in
            ap (λ j. get_or placed (get_or (needs_of needs j) k 0) false) same ∙ all k (omega arith)
        | inr other ↦ let old : get_or (set met v at) u 0 ≡ get_or met u 0 = get_or-set_other met v u at 0 other in had.met_placed u k low_u (omega arith)
      ];
  places = had.places;
  in_order = had.in_order;
  counted = had.counted;
  are_vertices = had.are_vertices;
}

-- before the first vertex
pub IsSorting-none : (needs : List (List ℕ)) (count : ℕ) → count ≡ length needs → IsSorting needs (replicate count 0) (replicate count false) []
IsSorting-none needs count same = record {
  met_length = length-replicate {A = ℕ} count 0 ∙ same;
  placed_length = length-replicate count false ∙ same;
  met_within = λ v low. let none : get_or {A = ℕ} (replicate count 0) v 0 ≡ 0 = get_or-replicate {A = ℕ} count v 0 0 (omega arith) in omega arith;
  met_placed = λ v k low within. let none : get_or {A = ℕ} (replicate count 0) v 0 ≡ 0 = get_or-replicate {A = ℕ} count v 0 0 (omega arith) in absurd (omega arith);
  places = λ v low. get_or-replicate count v false false (omega arith);
  in_order = λ i d low e. absurd (omega arith);
  counted = let all : sum_by unplaced (replicate count false) ≡ count = free_ones count in omega arith;
  are_vertices = λ i low. absurd (omega arith);
}
  where
    free_ones : (count : ℕ) → sum_by unplaced (replicate count false) ≡ count
    free_ones zero = refl
    free_ones (suc count) = omega (arith, sum_by-cons unplaced false (replicate count false), free_ones count)

-- Waiting

-- a placed vertex waits no more
pub AllWait-place : (needs waiters : List (List ℕ)) (placed : List Bool) (vertices : List ℕ) (done : ℕ) (but : ℕ → Bool) (v : ℕ) → v < length placed → done ≤ length vertices →
    AllWait needs waiters placed vertices done but → AllWait needs waiters (set placed v true) (vertices ++ v ∷ []) done (one_less but v)
AllWait-place needs waiters placed vertices done but v low within had u low_u free =
    elim (cases_eq u v) [
      | inl same ↦ absurd (both_ways (get_or (set placed v true) u false) free (ap (λ j. get_or (set placed v true) j false) same ∙ get_or-set_same placed v true false low))
      | inr other ↦ elim (had u low_u (sym (get_or-set_other placed v u true false other) ∙ free)) [
        | inl held ↦ inl (and_from (but u) (not (nat_eq u v)) held (ap not (ne_eqb u v other)))
        | inr waits ↦ inr (record { for = waits.for; needed = waits.needed; listed = waits.listed; ahead = ap (λ l. has l waits.for) (take-append-le done vertices (v ∷ []) within) ∙ waits.ahead })
      ]
    ]

-- one that has a place needn't wait
pub AllWait-skip : (needs waiters : List (List ℕ)) (placed : List Bool) (vertices : List ℕ) (done : ℕ) (but : ℕ → Bool) (v : ℕ) → get_or placed v false ≡ true →
    AllWait needs waiters placed vertices done but → AllWait needs waiters placed vertices done (one_less but v)
AllWait-skip needs waiters placed vertices done but v has_place had u low_u free =
    elim (cases_eq u v) [
      | inl same ↦ absurd (both_ways (get_or placed u false) free (ap (λ j. get_or placed j false) same ∙ has_place))
      | inr other ↦ elim (had u low_u free) [
        | inl held ↦ inl (and_from (but u) (not (nat_eq u v)) held (ap not (ne_eqb u v other)))
        | inr waits ↦ inr waits
      ]
    ]

-- one that waits for a need without a place
pub AllWait-wait : (needs waiters : List (List ℕ)) (placed : List Bool) (vertices : List ℕ) (done : ℕ) (but : ℕ → Bool) (v d : ℕ) → Places needs placed vertices → d < length needs →
    length waiters ≡ length needs →
    has (needs_of needs v) d ≡ true → get_or placed d false ≡ false →
    AllWait needs waiters placed vertices done but → AllWait needs (set waiters d (get_or waiters d [] ++ v ∷ [])) placed vertices done (one_less but v)
AllWait-wait needs waiters placed vertices done but v d places low sized needed unmet had u low_u free =
    elim (cases_eq u v) [
      | inl same ↦ inr (record {
        for = d;
        needed = ap (λ j. has (needs_of needs j) d) same ∙ needed;
        listed =
            ap (λ l. has l u) (get_or-set_same waiters d (get_or waiters d [] ++ v ∷ []) [] (omega arith))
            ∙ ap (has (get_or waiters d [] ++ v ∷ [])) same ∙ now_has (get_or waiters d []) v;
        ahead = false_from_ne_true (has (take done vertices) d) (λ e. both_ways (get_or placed d false) unmet (places d low ∙ has-take vertices done d e));
      })
      | inr other ↦ elim (had u low_u free) [
        | inl held ↦ inl (and_from (but u) (not (nat_eq u v)) held (ap not (ne_eqb u v other)))
        | inr waits ↦ inr (record { for = waits.for; needed = waits.needed; listed = still_listed waits.for waits.listed; ahead = waits.ahead })
      ]
    ]
  where
    still_listed : (f : ℕ) → has (get_or waiters f []) u ≡ true → has (get_or (set waiters d (get_or waiters d [] ++ v ∷ [])) f []) u ≡ true
    still_listed f e =
        elim (cases_eq f d) [
          | inl same ↦
              ap (λ j. has (get_or (set waiters d (get_or waiters d [] ++ v ∷ [])) j []) u) same
              ∙ ap (λ l. has l u) (get_or-set_same waiters d (get_or waiters d [] ++ v ∷ []) [] (omega arith))
              ∙ has_before (get_or waiters d []) v u (ap (λ j. has (get_or waiters j []) u) (sym same) ∙ e)
          | inr other ↦ ap (λ l. has l u) (get_or-set_other waiters d f (get_or waiters d [] ++ v ∷ []) [] other) ∙ e
        ]

-- the next vertex of the order takes those that wait for it out of its list
pub AllWait-told : (needs waiters : List (List ℕ)) (placed : List Bool) (vertices : List ℕ) (done x : ℕ) (told : List ℕ) → done < length vertices → x ≡ get_or vertices done 0 →
    told ≡ get_or waiters x [] →
    AllWait needs waiters placed vertices done (λ _. false) → AllWait needs (set waiters x []) placed vertices (done + 1) (has told)
AllWait-told needs waiters placed vertices done x told within is_next is_told had u low_u free =
    elim (had u low_u free) [
      | inl none ↦ absurd (both_ways false refl none)
      | inr waits ↦ elim (cases_eq waits.for x) [
        | inl same ↦ inl (ap (λ l. has l u) (is_told ∙ ap (λ j. get_or waiters j []) (sym same)) ∙ waits.listed)
        | inr other ↦ inr (record {
          for = waits.for;
          needed = waits.needed;
          listed = ap (λ l. has l u) (get_or-set_other waiters x waits.for [] [] other) ∙ waits.listed;
          ahead =
              ap (λ l. has l waits.for) (take_more vertices done 0 within) ∙ has-append (take done vertices) (get_or vertices done 0 ∷ []) waits.for
              ∙ ap (λ b. b || (nat_eq (get_or vertices done 0) waits.for || false)) waits.ahead ∙ or-false (nat_eq (get_or vertices done 0) waits.for)
              ∙ ne_eqb (get_or vertices done 0) waits.for (λ e. other (sym e ∙ sym is_next));
        })
      ]
    ]

-- fewer exceptions
pub AllWait-but : (needs waiters : List (List ℕ)) (placed : List Bool) (vertices : List ℕ) (done : ℕ) (but other : ℕ → Bool) → ((v : ℕ) → v < length needs → but v ≡ true → other v ≡ true) →
    AllWait needs waiters placed vertices done but → AllWait needs waiters placed vertices done other
AllWait-but needs waiters placed vertices done but other more had u low_u free = elim (had u low_u free) [ inl held ↦ inl (more u low_u held) | inr waits ↦ inr waits ]

-- in the end
pub IsOrder-all : (needs waiters : List (List ℕ)) (met : List ℕ) (placed : List Bool) (vertices : List ℕ) (done : ℕ) → NeedVertices needs → IsSorting needs met placed vertices →
    length vertices ≤ done →
    AllWait needs waiters placed vertices done (λ _. false) → IsOrder needs placed vertices
IsOrder-all needs waiters met placed vertices done vertices_needed sorted past waiting = record {
  same_length = sorted.placed_length;
  in_order = sorted.in_order;
  are_vertices = sorted.are_vertices;
  places = sorted.places;
  left = λ v low free. elim (waiting v low free) [
    | inl none ↦ absurd (both_ways false refl none)
    | inr waits ↦ (waits.for, waits.needed, sorted.places waits.for (vertices_needed v waits.for waits.needed) ∙ ap (λ l. has l waits.for) (sym (take_all done vertices past)) ∙ waits.ahead)
  ];
}

-- The lists of the code

-- what a vertex needs, as the code reads it
pub needs_at : (lists : List (Vec ℕ Global)) (v : ℕ) (own : Vec ℕ Global) → v < length lists → own ≡ get_or lists v own → own.items ≡ needs_of (lists_of lists) v
needs_at lists v own low is = ap (λ (list : Vec ℕ Global). list.items) is ∙ sym (get_or-map (λ (list : Vec ℕ Global). list.items) lists v own [] low)

-- what it needs are vertices
pub own_need : (lists : List (Vec ℕ Global)) (v : ℕ) (own : Vec ℕ Global) (k : ℕ) → NeedVertices (lists_of lists) → v < length lists → own ≡ get_or lists v own → k < length own.items →
    get_or own.items k 0 < length lists
own_need lists v own k graph low is within =
    let there : has (needs_of (lists_of lists) v) (get_or own.items k 0) ≡ true = ap (λ l. has l (get_or own.items k 0)) (sym (needs_at lists v own low is)) ∙ has-get_or own.items k 0 within in
    let bound : get_or own.items k 0 < length (lists_of lists) = graph v (get_or own.items k 0) there in
    omega (arith, length-map lists (λ (list : Vec ℕ Global). list.items))

-- the needs before a place are met, if they were so far and those on the way are placed
pub met_to : (needs : List (List ℕ)) (met : List ℕ) (placed : List Bool) (vertices : List ℕ) (v at : ℕ) (own : List ℕ) → IsSorting needs met placed vertices → v < length needs →
    own ≡ needs_of needs v →
    ((k : ℕ) → get_or met v 0 ≤ k → k < at → get_or placed (get_or own k 0) false ≡ true) → (k : ℕ) → k < at → get_or placed (get_or (needs_of needs v) k 0) false ≡ true
met_to needs met placed vertices v at own had low is more k within =
    elim (cases_lt k (get_or met v 0)) [
      | inl before ↦ had.met_placed v k low before
      | inr after ↦ ap (λ l. get_or placed (get_or l k 0) false) (sym is) ∙ more k after within
    ]

-- one more waits, in the code's lists
pub waits_in : (waiters : List (Vec ℕ Global)) (d v : ℕ) (old new : Vec ℕ Global) → d < length waiters → old ≡ get_or waiters d old → new.items ≡ old.items ++ v ∷ [] →
    lists_of (set waiters d new) ≡ set (lists_of waiters) d (get_or (lists_of waiters) d [] ++ v ∷ [])
waits_in waiters d v old new low is pushed =
    map-set (λ (list : Vec ℕ Global). list.items) waiters d new ∙ ap (set (lists_of waiters) d) (pushed ∙ ap (λ l. l ++ v ∷ []) (needs_at waiters d old low is))

pub length-lists_of : (lists : List (Vec ℕ Global)) → length (lists_of lists) ≡ length lists
length-lists_of lists = length-map lists (λ (list : Vec ℕ Global). list.items)

-- what waits are vertices
abbrev pub VerticesWait : List (List ℕ) → List (List ℕ) → Type 0
VerticesWait needs waiters = (d v : ℕ) → has (get_or waiters d []) v ≡ true → v < length needs

-- before the first vertex
pub VerticesWait-none : (needs : List (List ℕ)) (count : ℕ) → VerticesWait needs (replicate count [])
VerticesWait-none needs count d v e = absurd (both_ways (has (get_or (replicate count []) d []) v) (ap (λ l. has l v) (all_empty count d)) e)
  where
    all_empty : (count d : ℕ) → get_or {A = List ℕ} (replicate count []) d [] ≡ []
    all_empty zero d = refl
    all_empty (suc count) zero = refl
    all_empty (suc count) (suc d) = all_empty count d

-- one more waits
pub VerticesWait-wait : (needs waiters : List (List ℕ)) (d v : ℕ) → VerticesWait needs waiters → v < length needs → d < length waiters →
    VerticesWait needs (set waiters d (get_or waiters d [] ++ v ∷ []))
VerticesWait-wait needs waiters d v had low within f u e =
    elim (cases_eq f d) [
      | inl same ↦ elim (has_push (get_or waiters d []) v u (ap (λ l. has l u) (sym (get_or-set_same waiters d (get_or waiters d [] ++ v ∷ []) [] within)
          ∙ ap (λ j. get_or (set waiters d (get_or waiters d [] ++ v ∷ [])) j []) (sym same)) ∙ e)) [
            | inl before ↦ had d u before
            | inr last ↦ subst (λ x. x < length needs) last low
          ]
      | inr other ↦ had f u (ap (λ l. has l u) (sym (get_or-set_other waiters d f (get_or waiters d [] ++ v ∷ []) [] other)) ∙ e)
    ]

-- a list is taken out
pub VerticesWait-told : (needs waiters : List (List ℕ)) (x : ℕ) → VerticesWait needs waiters → x < length waiters → VerticesWait needs (set waiters x [])
VerticesWait-told needs waiters x had within f u e =
    elim (cases_eq f x) [
      | inl same ↦ absurd (both_ways false refl (ap (λ l. has l u) (sym (get_or-set_same waiters x [] [] within) ∙ ap (λ j. get_or (set waiters x []) j []) (sym same)) ∙ e))
      | inr other ↦ had f u (ap (λ l. has l u) (sym (get_or-set_other waiters x f [] [] other)) ∙ e)
    ]

-- past a vertex
pub one_less_past : (i v : ℕ) → one_less (λ u. nat_le i u) i v ≡ true → nat_le (i + 1) v ≡ true
one_less_past i v e =
    let parts = and_parts (nat_le i v) (not (nat_eq v i)) e in
    let other : v ≡ i → ⊥ = λ same. both_ways (nat_eq v i) (not-true (nat_eq v i) parts.1) (eq-eqb v i same) in
    le-leb (i + 1) v (let at_least : i ≤ v = leb-true i v parts.0 in omega arith)

-- past the last vertex
pub none_past : (count v : ℕ) → v < count → nat_le count v ≡ true → false ≡ true
none_past count v low e = absurd (let at_least : count ≤ v = leb-true count v e in omega arith)

-- past one of a list
pub one_less_told : (told : List ℕ) (i v : ℕ) → i < length told → one_less (has (drop i told)) (get_or told i 0) v ≡ true → has (drop (i + 1) told) v ≡ true
one_less_told told i v low e =
    let parts = and_parts (has (drop i told) v) (not (nat_eq v (get_or told i 0))) e in
    let here : has (get_or told i 0 ∷ drop (i + 1) told) v ≡ true = ap (λ l. has l v) (sym (drop_more told i 0 low)) ∙ parts.0 in
    elim (or_cases (nat_eq (get_or told i 0) v) (has (drop (i + 1) told) v) here) [
      | inl same ↦ absurd (both_ways (nat_eq v (get_or told i 0)) (not-true (nat_eq v (get_or told i 0)) parts.1) (eq-eqb v (get_or told i 0) (sym (eqb-true (get_or told i 0) v same))))
      | inr there ↦ there
    ]

-- a list that is taken out, in the code's lists
pub taken_in : (waiters : List (Vec ℕ Global)) (x : ℕ) (new : Vec ℕ Global) → new.items ≡ [] → lists_of (set waiters x new) ≡ set (lists_of waiters) x []
taken_in waiters x new none = map-set (λ (list : Vec ℕ Global). list.items) waiters x new ∙ ap (set (lists_of waiters) x) none
