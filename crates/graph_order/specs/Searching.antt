-- Laws on searching for a loop, over vertices that have no place in an order (nothing of the language).
use Rattle.std.proofs.Common.{◌≡◌, ℕ, zero, suc, ◌+◌, ◌<◌, ◌≤◌, Bool, true, false, List, [], ◌∷◌, ◌++◌, length, get_or, take, drop, set, refl, ap, sym, ◌∙◌, subst, inl, inr, arith}
use Rattle.std.specs.Prelude.{nat_eq, ◌||◌, ◌⊎◌, sum_by}
use Rattle.std.specs.List.{IsDistinct, AllByRecursion, list_any}
use Rattle.std.proofs.lemmas.Bool.{cases_Bool, cases_eq, cases_lt, both_ways, or_cases, or_left, or_right, eq-eqb, ne_eqb, eqb-true, false_from_ne_true}
use Rattle.std.proofs.lemmas.List.{get_or-set_same, get_or-set_other, length-set, length_push, get_or_append_left, get_or_push, take-append-le, take_all, take_more, drop_more, drop_all, get_or_past}
use Rattle.std.proofs.lemmas.List.Sums.{sum_by-set, sum_by-cons}
use Rattle.std.proofs.lemmas.Map.Steps.{length-le_from_distinct_below}
use Rattle.vf_base.specs.Lists.{has}
use Rattle.graph_order.specs.ListLaws.{has-take, has_push, has_before, now_has, still_has}
use Rattle.graph_order.specs.Digraphs.{needs_of, NeedVertices, IsWalk, IsOnLoop, IsInOrder, LeavesLoops, IsOrder}
use Rattle.graph_order.specs.Sorting.{unplaced}
use Rattle.graph_order.specs.Depths.{needs_before}

-- Walks

-- one step more
pub IsWalk-push : (needs : List (List ℕ)) (from : ℕ) (between : List ℕ) (last to : ℕ) → IsWalk needs from between last → has (needs_of needs last) to ≡ true →
    IsWalk needs from (between ++ last ∷ []) to
IsWalk-push needs from [] last to walk step = (walk, step)
IsWalk-push needs from (next ∷ rest) last to walk step = (walk.0, IsWalk-push needs next rest last to walk.1 step)

-- a walk from a vertex of an order ends before it
walk_back : (needs : List (List ℕ)) (vertices : List ℕ) (i from : ℕ) (between : List ℕ) (to : ℕ) → IsInOrder needs vertices → i ≤ length vertices → has (take i vertices) from ≡ true →
    IsWalk needs from between to →
    (j : ℕ) × (j < i) × (has (take j vertices) to ≡ true)
walk_back needs vertices i from [] to in_order short e walk = needs_before needs vertices i from to in_order short e walk
walk_back needs vertices i from (next ∷ rest) to in_order short e walk =
    let first = needs_before needs vertices i from next in_order short e walk.0 in
    let later = walk_back needs vertices first.0 next rest to in_order (omega (arith, first.1)) first.2 walk.1 in
    (later.0, omega (arith, first.1, later.1), later.2)

not_in_front : (needs : List (List ℕ)) (vertices : List ℕ) (most i v : ℕ) → IsInOrder needs vertices → i ≤ most → i ≤ length vertices → IsOnLoop needs v → has (take i vertices) v ≡ true → ⊥
not_in_front needs vertices zero i v in_order low short loop e =
    both_ways (has [] v) refl (ap (λ n. has (take n vertices) v) (let none : 0 ≡ i = omega arith in none) ∙ e)
not_in_front needs vertices (suc most) i v in_order low short loop e =
    let back = walk_back needs vertices i v loop.0 v in_order short e loop.1 in
    not_in_front needs vertices most back.0 v in_order (omega (arith, back.1)) (omega (arith, back.1)) loop back.2

-- no vertex with a place is on a loop
pub placed_not_on_loop : (needs : List (List ℕ)) (placed : List Bool) (vertices : List ℕ) (v : ℕ) → IsOrder needs placed vertices → v < length needs → get_or placed v false ≡ true →
    IsOnLoop needs v → ⊥
placed_not_on_loop needs placed vertices v order low e loop =
    not_in_front needs vertices (length vertices) (length vertices) v order.in_order (omega arith) (omega arith) loop
    (ap (λ l. has l v) (take_all (length vertices) vertices (omega arith)) ∙ sym (order.places v low) ∙ e)

-- a vertex with a place needs none but such
placed_needs : (needs : List (List ℕ)) (placed : List Bool) (vertices : List ℕ) (v d : ℕ) → NeedVertices needs → IsOrder needs placed vertices → v < length needs → get_or placed v false ≡ true →
    has (needs_of needs v) d ≡ true →
    get_or placed d false ≡ true
placed_needs needs placed vertices v d graph order low e needed =
    let all : has (take (length vertices) vertices) v ≡ true = ap (λ l. has l v) (take_all (length vertices) vertices (omega arith)) ∙ sym (order.places v low) ∙ e in
    let r = needs_before needs vertices (length vertices) v d order.in_order (omega arith) all needed in
    order.places d (graph v d needed) ∙ has-take vertices r.0 d r.2

placed_walk : (needs : List (List ℕ)) (placed : List Bool) (vertices : List ℕ) (from : ℕ) (between : List ℕ) (to : ℕ) → NeedVertices needs → IsOrder needs placed vertices → from < length needs →
    get_or placed from false ≡ true →
    IsWalk needs from between to → get_or placed to false ≡ true
placed_walk needs placed vertices from [] to graph order low e walk = placed_needs needs placed vertices from to graph order low e walk
placed_walk needs placed vertices from (next ∷ rest) to graph order low e walk =
    placed_walk needs placed vertices next rest to graph order (graph from next walk.0) (placed_needs needs placed vertices from next graph order low e walk.0) walk.1

-- Searching

-- a search that goes on: the vertex where it begins isn't marked, and what else was found is
pub record IsSearch (count vertex : ℕ) (seen : List Bool) (found : List ℕ) : Type 0 where
  pub same_length : length seen ≡ count
  pub marked : (v : ℕ) → v < count → (v ≡ vertex → ⊥) → get_or seen v false ≡ has found v
  pub first_unmarked : get_or seen vertex false ≡ false
  pub begins : has found vertex ≡ true
  pub are_vertices : (i : ℕ) → i < length found → get_or found i 0 < count
  pub counted : sum_by unplaced seen + length found ≡ count + 1

-- what was found can be reached
abbrev pub AreReached : List (List ℕ) → ℕ → List ℕ → Type 0
AreReached needs vertex found = (v : ℕ) → has found v ≡ true → (v ≡ vertex) ⊎ ((between : List ℕ) × IsWalk needs vertex between v)

-- what the first so many of the found vertices need is found, if it has no place, and isn't the vertex where the search began
abbrev pub IsClosed : List (List ℕ) → List Bool → ℕ → ℕ → List ℕ → Type 0
IsClosed needs placed vertex done found =
    (v d : ℕ) → has (take done found) v ≡ true → has (needs_of needs v) d ≡ true → get_or placed d false ≡ false → (has found d ≡ true) × (d ≡ vertex → ⊥)

all_unmarked : (seen : List Bool) → ((v : ℕ) → get_or seen v false ≡ false) → sum_by unplaced seen ≡ length seen
all_unmarked [] blank = refl
all_unmarked (b ∷ seen) blank =
    let here : unplaced b ≡ 1 = ap unplaced (blank 0) in omega (arith, sum_by-cons unplaced b seen, all_unmarked seen (λ v. blank (suc v)))

-- at first, with all marks away
pub IsSearch-none : (count vertex : ℕ) (seen : List Bool) → vertex < count → length seen ≡ count → ((v : ℕ) → get_or seen v false ≡ false) →
    IsSearch count vertex seen (vertex ∷ [])
IsSearch-none count vertex seen low sized blank = record {
  same_length = sized;
  marked = λ v low_v other. blank v ∙ sym (ap (λ b. b || false) (ne_eqb vertex v (λ e. other (sym e))));
  first_unmarked = blank vertex;
  begins = or_left (nat_eq vertex vertex) false (eq-eqb vertex vertex refl);
  are_vertices = λ i low_i. elim i as (λ j. j < 1 → get_or (vertex ∷ []) j 0 < count) [ zero ↦ λ h. low | suc j ↦ λ h. absurd (omega arith) ] low_i;
  counted = let all : sum_by unplaced seen ≡ length seen = all_unmarked seen blank in omega arith;
}

-- one more vertex is found
pub IsSearch-more : (count vertex : ℕ) (seen : List Bool) (found : List ℕ) (d : ℕ) → IsSearch count vertex seen found → d < count → (d ≡ vertex → ⊥) → get_or seen d false ≡ false →
    IsSearch count vertex (set seen d true) (found ++ d ∷ [])
IsSearch-more count vertex seen found d had low other unseen = record {
  same_length = length-set seen d true ∙ had.same_length;
  marked = λ v low_v apart.
      elim (cases_eq v d) [
        | inl same ↦
            ap (λ j. get_or (set seen d true) j false) same ∙ get_or-set_same seen d true false (omega (arith, had.same_length))
            ∙ sym (ap (has (found ++ d ∷ [])) same ∙ now_has found d)
        | inr not_it ↦ get_or-set_other seen d v true false not_it ∙ had.marked v low_v apart ∙ sym (still_has found d v not_it)
      ];
  first_unmarked = get_or-set_other seen d vertex true false (λ e. other (sym e)) ∙ had.first_unmarked;
  begins = has_before found d vertex had.begins;
  are_vertices = λ i low_i.
      elim (cases_lt i (length found)) [
        | inl within ↦ subst (λ x. x < count) (sym (get_or_append_left found (d ∷ []) 0 i within)) (had.are_vertices i within)
        | inr past ↦ subst (λ x. x < count) (sym (get_or_push found d 0 i (omega (arith, length_push found d)))) low
      ];
  counted =
      let change : sum_by unplaced (set seen d true) + unplaced (get_or seen d false) ≡ sum_by unplaced seen + 0 = sum_by-set unplaced seen d true false (omega (arith, had.same_length)) in
      let free : unplaced (get_or seen d false) ≡ 1 = ap unplaced unseen in
      omega (arith, had.counted, length_push found d);
}

-- what the needs of a vertex add to a search: nothing else, and those without a place that are among the first so many of them
pub record AddsNeeds (placed : List Bool) (vertex : ℕ) (own before later : List ℕ) : Type 0 where
  pub longer : length before ≤ length later
  pub front : (k : ℕ) → k ≤ length before → take k later ≡ take k before
  pub kept : (v : ℕ) → has before v ≡ true → has later v ≡ true
  pub from : (v : ℕ) → has later v ≡ true → (has before v ≡ true) ⊎ (has own v ≡ true)
  pub added : (d : ℕ) → has own d ≡ true → get_or placed d false ≡ false → (has later d ≡ true) × (d ≡ vertex → ⊥)

pub AddsNeeds-none : (placed : List Bool) (vertex : ℕ) (found : List ℕ) → AddsNeeds placed vertex [] found found
AddsNeeds-none placed vertex found = record { longer = omega arith; front = λ k low. refl; kept = λ v e. e; from = λ v e. inl e; added = λ d e free. absurd (cc) }

-- one need that adds nothing
pub AddsNeeds-skip : (placed : List Bool) (vertex : ℕ) (own before later : List ℕ) (d : ℕ) → AddsNeeds placed vertex own before later →
    (get_or placed d false ≡ false → (has later d ≡ true) × (d ≡ vertex → ⊥)) → AddsNeeds placed vertex (own ++ d ∷ []) before later
AddsNeeds-skip placed vertex own before later d had here = record {
  longer = had.longer;
  front = had.front;
  kept = had.kept;
  from = λ v e. elim (had.from v e) [ inl old ↦ inl old | inr needed ↦ inr (has_before own d v needed) ];
  added = λ x e free. elim (has_push own d x e) [
    | inl earlier ↦ had.added x earlier free
    | inr last ↦ subst (λ y. (has later y ≡ true) × (y ≡ vertex → ⊥)) last (here (ap (λ y. get_or placed y false) last ∙ free))
  ];
}

-- one need that is found
pub AddsNeeds-more : (placed : List Bool) (vertex : ℕ) (own before later : List ℕ) (d : ℕ) → AddsNeeds placed vertex own before later → (d ≡ vertex → ⊥) →
    AddsNeeds placed vertex (own ++ d ∷ []) before (later ++ d ∷ [])
AddsNeeds-more placed vertex own before later d had other = record {
  longer = omega (arith, had.longer, length_push later d);
  front = λ k low. take-append-le k later (d ∷ []) (omega (arith, had.longer)) ∙ had.front k low;
  kept = λ v e. has_before later d v (had.kept v e);
  from = λ v e. elim (has_push later d v e) [
    | inl earlier ↦ elim (had.from v earlier) [ inl old ↦ inl old | inr needed ↦ inr (has_before own d v needed) ]
    | inr last ↦ inr (ap (has (own ++ d ∷ [])) (sym last) ∙ now_has own d)
  ];
  added = λ x e free. elim (has_push own d x e) [
    | inl earlier ↦ let r = had.added x earlier free in (has_before later d x r.0, r.1)
    | inr last ↦ subst (λ y. (has (later ++ d ∷ []) y ≡ true) × (y ≡ vertex → ⊥)) last (now_has later d, other)
  ];
}

-- what is found from a vertex that can be reached can be reached
pub AreReached-more : (needs : List (List ℕ)) (placed : List Bool) (vertex x : ℕ) (own before later : List ℕ) → AddsNeeds placed vertex own before later → own ≡ needs_of needs x →
    has before x ≡ true →
    AreReached needs vertex before → AreReached needs vertex later
AreReached-more needs placed vertex x own before later adds is there had v e =
    elim (adds.from v e) [
      | inl old ↦ had v old
      | inr needed ↦ inr (beyond (ap (λ l. has l v) (sym is) ∙ needed))
    ]
  where
    beyond : has (needs_of needs x) v ≡ true → (between : List ℕ) × IsWalk needs vertex between v
    beyond step =
        elim (had x there) [
          | inl first ↦ ([], ap (λ y. has (needs_of needs y) v) (sym first) ∙ step)
          | inr walk ↦ (walk.0 ++ x ∷ [], IsWalk-push needs vertex walk.0 x v walk.1 step)
        ]

-- a vertex that can be reached and needs the one where the search began
pub closes_loop : (needs : List (List ℕ)) (vertex x : ℕ) (found : List ℕ) → AreReached needs vertex found → has found x ≡ true → has (needs_of needs x) vertex ≡ true → IsOnLoop needs vertex
closes_loop needs vertex x found had there step =
    elim (had x there) [
      | inl first ↦ ([], ap (λ y. has (needs_of needs y) vertex) (sym first) ∙ step)
      | inr walk ↦ (walk.0 ++ x ∷ [], IsWalk-push needs vertex walk.0 x vertex walk.1 step)
    ]

-- the next of the found vertices has its needs added
pub IsClosed-more : (needs : List (List ℕ)) (placed : List Bool) (vertex done x : ℕ) (own before later : List ℕ) → AddsNeeds placed vertex own before later → own ≡ needs_of needs x →
    done < length before → x ≡ get_or before done 0 →
    IsClosed needs placed vertex done before → IsClosed needs placed vertex (done + 1) later
IsClosed-more needs placed vertex done x own before later adds is within is_next had v d e needed free =
    elim (has_push (take done before) (get_or before done 0) v (ap (λ l. has l v) (sym (adds.front (done + 1) (omega arith) ∙ take_more before done 0 within)) ∙ e)) [
      | inl earlier ↦ let r = had v d earlier needed free in (adds.kept d r.0, r.1)
      | inr last ↦ adds.added d (ap (λ l. has l d) is ∙ ap (λ y. has (needs_of needs y) d) (is_next ∙ last) ∙ needed) free
    ]

stays_found : (needs : List (List ℕ)) (placed : List Bool) (vertices : List ℕ) (vertex : ℕ) (found : List ℕ) (from : ℕ) (between : List ℕ) → NeedVertices needs → IsOrder needs placed vertices →
    get_or placed vertex false ≡ false →
    IsClosed needs placed vertex (length found) found → has found from ≡ true → IsWalk needs from between vertex → ⊥
stays_found needs placed vertices vertex found from [] graph order free closed there walk =
    (closed from vertex (ap (λ l. has l from) (take_all (length found) found (omega arith)) ∙ there) walk free).1 refl
stays_found needs placed vertices vertex found from (next ∷ rest) graph order free closed there walk =
    elim (cases_Bool (get_or placed next false)) [
      | inl has_place ↦ both_ways (get_or placed vertex false) free (placed_walk needs placed vertices next rest vertex graph order (graph from next walk.0) has_place walk.1)
      | inr none ↦
          stays_found needs placed vertices vertex found next rest graph order free closed
          (closed from next (ap (λ l. has l from) (take_all (length found) found (omega arith)) ∙ there) walk.0 none).0 walk.1
    ]

-- a search that finds no way back
pub no_loop : (needs : List (List ℕ)) (placed : List Bool) (vertices : List ℕ) (vertex done : ℕ) (found : List ℕ) → NeedVertices needs → IsOrder needs placed vertices →
    get_or placed vertex false ≡ false →
    length found ≤ done → IsClosed needs placed vertex done found → has found vertex ≡ true → IsOnLoop needs vertex → ⊥
no_loop needs placed vertices vertex done found graph order free past closed begins loop =
    stays_found needs placed vertices vertex found vertex loop.0 graph order free
    (λ v d e. closed v d (ap (λ l. has l v) (take_all done found past ∙ sym (take_all (length found) found (omega arith))) ∙ e)) begins loop.1

-- Something is on a loop

apart_all : (v : ℕ) (path : List ℕ) → has path v ≡ false → AllByRecursion (λ y. nat_eq v y ≡ false) path
apart_all v [] e = tt
apart_all v (x ∷ path) e = (
  ne_eqb v x (λ same. both_ways (has (x ∷ path) v) e (or_left (nat_eq x v) (has path v) (eq-eqb x v (sym same)))),
  apart_all v path (false_from_ne_true (has path v) (λ there. both_ways (has (x ∷ path) v) e (or_right (nat_eq x v) (has path v) there))),
)

any_has : (path : List ℕ) (q : ℕ) → list_any (nat_eq q) path ≡ true → has path q ≡ true
any_has [] q e = absurd (cc)
any_has (x ∷ path) q e =
    elim (or_cases (nat_eq q x) (list_any (nat_eq q) path) e) [
      | inl same ↦ or_left (nat_eq x q) (has path q) (eq-eqb x q (sym (eqb-true q x same)))
      | inr there ↦ or_right (nat_eq x q) (has path q) (any_has path q there)
    ]

trail : (needs : List (List ℕ)) (placed : List Bool) (left : ℕ) (path : List ℕ) (v : ℕ) → NeedVertices needs → LeavesLoops needs placed → v < length needs → get_or placed v false ≡ false →
    IsDistinct nat_eq path →
    ((p : ℕ) → has path p ≡ true → p < length needs) → ((p : ℕ) → has path p ≡ true → (between : List ℕ) × IsWalk needs p between v) → length path + left ≡ length needs + 1 →
    (u : ℕ) × IsOnLoop needs u
unfolding IsDistinct
trail needs placed zero path v graph leaves low free distinct vertices reach counted =
    let few : length path ≤ length needs = length-le_from_distinct_below path (length needs) distinct (λ q e. vertices q (any_has path q e)) in absurd (omega arith)
trail needs placed (suc left) path v graph leaves low free distinct vertices reach counted =
    elim (cases_Bool (has path v)) [
      | inl again ↦ (v, reach v again)
      | inr fresh ↦
          let next = leaves v low free in
          trail needs placed left (v ∷ path) next.0 graph leaves (graph v next.0 next.1) next.2 (apart_all v path fresh, distinct)
          (λ p e. elim (or_cases (nat_eq v p) (has path p) e) [ inl same ↦ subst (λ y. y < length needs) (eqb-true v p same) low | inr there ↦ vertices p there ])
          (λ p e. elim (or_cases (nat_eq v p) (has path p) e) [
            | inl same ↦ ([], ap (λ y. has (needs_of needs y) next.0) (sym (eqb-true v p same)) ∙ next.1)
            | inr there ↦ let walk = reach p there in (walk.0 ++ v ∷ [], IsWalk-push needs p walk.0 v next.0 walk.1 next.1)
          ]) (omega arith)
    ]

-- where a vertex has no place, one is on a loop
pub left_on_loop : (needs : List (List ℕ)) (placed : List Bool) (vertices : List ℕ) (v : ℕ) → NeedVertices needs → IsOrder needs placed vertices → v < length needs → get_or placed v false ≡ false →
    (u : ℕ) × IsOnLoop needs u
unfolding IsDistinct
left_on_loop needs placed vertices v graph order low free =
    trail needs placed (length needs + 1) [] v graph order.left low free tt (λ p e. absurd (cc)) (λ p e. absurd (cc)) (omega arith)

-- what the first vertex of a loop needs is on the loop too
pub next_on_loop : (needs : List (List ℕ)) (u : ℕ) → IsOnLoop needs u → (v : ℕ) × (has (needs_of needs u) v ≡ true) × IsOnLoop needs v
next_on_loop needs u loop =
    elim loop.0 as (λ between. IsWalk needs u between u → (v : ℕ) × (has (needs_of needs u) v ≡ true) × IsOnLoop needs v) [
      | [] ↦ λ walk. (u, walk, ([], walk))
      | next ∷ rest ↦ λ walk. (next, walk.0, (rest ++ u ∷ [], IsWalk-push needs next rest u next walk.1 walk.0))
    ] loop.1

-- Taking marks away

-- what is marked was found
pub marked_found : (count vertex : ℕ) (seen : List Bool) (found : List ℕ) (v : ℕ) → IsSearch count vertex seen found → get_or seen v false ≡ true → has found v ≡ true
marked_found count vertex seen found v search e =
    elim (cases_eq v vertex) [
      | inl same ↦ absurd (both_ways (get_or seen vertex false) search.first_unmarked (ap (λ j. get_or seen j false) (sym same) ∙ e))
      | inr other ↦ elim (cases_lt v (length seen)) [
        | inl low ↦ sym (search.marked v (omega (arith, search.same_length)) other) ∙ e
        | inr past ↦ absurd (both_ways (get_or seen v false) (get_or_past seen v false past) e)
      ]
    ]

-- one mark is taken away
pub unmarked_more : (seen : List Bool) (found : List ℕ) (i : ℕ) → i < length found → get_or found i 0 < length seen → ((v : ℕ) → get_or seen v false ≡ true → has (drop i found) v ≡ true) →
    (v : ℕ) → get_or (set seen (get_or found i 0) false) v false ≡ true → has (drop (i + 1) found) v ≡ true
unmarked_more seen found i within low had v e =
    elim (cases_eq v (get_or found i 0)) [
      | inl same ↦ absurd (both_ways (get_or (set seen (get_or found i 0) false) v false) (ap (λ j. get_or (set seen (get_or found i 0) false) j false) same
          ∙ get_or-set_same seen (get_or found i 0) false false low) e)
      | inr other ↦
          elim (or_cases (nat_eq (get_or found i 0) v) (has (drop (i + 1) found) v) (ap (λ l. has l v) (sym (drop_more found i 0 within))
          ∙ had v (sym (get_or-set_other seen (get_or found i 0) v false false other) ∙ e))) [
            | inl same ↦ absurd (other (sym (eqb-true (get_or found i 0) v same)))
            | inr later ↦ later
          ]
    ]

-- no mark is left
pub unmarked_all : (seen : List Bool) (found : List ℕ) (i : ℕ) → length found ≤ i → ((v : ℕ) → get_or seen v false ≡ true → has (drop i found) v ≡ true) → (v : ℕ) → get_or seen v false ≡ false
unmarked_all seen found i past had v =
    false_from_ne_true (get_or seen v false) (λ e. both_ways (has [] v) refl (ap (λ l. has l v) (sym (drop_all i found past)) ∙ had v e))
