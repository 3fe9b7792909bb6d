-- Laws on walks: a node that reads nothing with a count gives no path, so it is passed by (continuous assignments and gates of IEEE 1364-2001, clause 6 and clause 7).
use Rattle.std.proofs.Common.{◌≡◌, ℕ, zero, suc, ◌+◌, ◌-◌, ◌*◌, ◌<◌, ◌≤◌, Bool, true, false, List, [], ◌∷◌, ◌++◌, length, get_or, refl, ap, sym, ◌∙◌, subst, inl, inr, arith, min, set, map, take}
use Rattle.std.specs.Prelude.{Some, None, Option, slice_get, nat_eq, sum_by, ◌||◌}
use Rattle.std.specs.Option.{ForSome}
use Rattle.std.proofs.lemmas.Bool.{cases_Bool, cases_eq, cases_lt, both_ways, eq-eqb, ne_eqb, or_left, or_right, or_cases, eqb-true}
use Rattle.std.proofs.lemmas.List.{get_or-set_same, get_or-set_other, get_or_past, take_more, map_push}
use Rattle.std.proofs.lemmas.Option.{slice_get_within, slice_get_cases}
use Rattle.std.proofs.Math.Logic.{∥∥₁_elim}
use Rattle.std.proofs.Math.Nat.{ℕ_set}
use Rattle.vf_base.specs.declared.ids.ObjectId.{ObjectId}
use Rattle.vf_base.specs.declared.ids.NodeId.{NodeId}
use Rattle.vf_base.specs.Base.{object_number, node_number}
use Rattle.vf_base.specs.Lists.{has}
use Rattle.v_design.specs.Designs.{FlatNode, FlatDesign}
use Rattle.v_design.specs.Paths.{path_weight, one_if, paths_through}
use Rattle.v_design.specs.WellFormed.{KeepsRules}
use Rattle.graph_order.specs.ListLaws.{has-without_repeats, sum_by-agree_has, sum_by-none, has_push, has-append, now_has, still_has}
use Rattle.number_set.specs.Members.{NumberBits, is_member, Inserts, IsFirstFrom}
use Rattle.net_graph.specs.ReaderLaws.{has-readers_of}
use Rattle.net_graph.specs.PathLaws.{all_paths, paths_before, paths_before-more, paths_through-output, paths_through-other}
use Rattle.net_graph.specs.CountLaws.{WritesCounts, CountsBefore, CountsBefore-none, CountsBefore-more, AreCounts-all, through_capped}
use Rattle.net_graph.specs.Tables.{distinct_inputs, AreCounts, readers_of, reads}
use Rattle.net_graph.specs.Walks.{OnlyDrivenCount, OnlyWalkedCount, ReadersAreIn, AddsReaders, InsertsAll, PassesNode, ClearsCounts, IsWalked}

-- Passing by

no_sum : (c : ℕ → ℕ) (xs : List ℕ) → ((x : ℕ) → has xs x ≡ true → c x ≡ 0) → sum_by c xs ≡ 0
no_sum c xs none = sum_by-agree_has c (λ x. 0) xs none ∙ sum_by-none (λ x. 0) xs (λ i x at. refl)

-- the counts after a node that reads nothing with a count are those before it
passed : (design : FlatDesign) → KeepsRules design → (from k : ℕ) (n : FlatNode) → slice_get design.nodes k ≡ Some n → (counts : List ℕ) → length counts ≡ length design.objects →
    CountsBefore design from k counts → ((x : ℕ) → has n.inputs x ≡ true → get_or counts x 0 ≡ 0) → CountsBefore design from (k + 1) counts
passed design rules from k n at counts sized had none o low =
    let sum : sum_by (λ x. get_or counts x 0) (distinct_inputs n) ≡ 0 =
    no_sum (λ x. get_or counts x 0) (distinct_inputs n) (λ x reads. none x (has-without_repeats [] n.inputs x reads)) in
    let product : path_weight n.kind * sum_by (λ x. get_or counts x 0) (distinct_inputs n) ≡ path_weight n.kind * 0 = ap (λ s. path_weight n.kind * s) sum in
    let capped : min 2 (path_weight n.kind * sum_by (λ x. get_or counts x 0) (distinct_inputs n)) ≡ min 2 (path_weight n.kind * sum_by (all_paths design.nodes from) (distinct_inputs n)) =
    through_capped design rules from k n at counts sized had in
    let part : paths_through (all_paths design.nodes from) o n ≡ 0 = elim (cases_Bool (has n.outputs o)) [
      | inl drives ↦
          let through : paths_through (all_paths design.nodes from) o n ≡ path_weight n.kind * sum_by (all_paths design.nodes from) (distinct_inputs n) =
          paths_through-output (all_paths design.nodes from) o n drives in
          nothing (paths_through (all_paths design.nodes from) o n) (path_weight n.kind * sum_by (all_paths design.nodes from) (distinct_inputs n))
          (path_weight n.kind * sum_by (λ x. get_or counts x 0) (distinct_inputs n)) (path_weight n.kind) through capped product
      | inr other ↦ paths_through-other (all_paths design.nodes from) o n other
    ] in
    let more : paths_before design.nodes from (k + 1) o ≡ paths_before design.nodes from k o + paths_through (all_paths design.nodes from) o n = paths_before-more design.nodes from k n o at in
    had o low ∙ ap (min 2) (let same : paths_before design.nodes from k o ≡ paths_before design.nodes from (k + 1) o = omega arith in same)
  where
    nothing : (part a b weight : ℕ) → part ≡ a → min 2 b ≡ min 2 a → b ≡ weight * 0 → part ≡ 0
    nothing part a b weight e f g = omega arith

-- the counts before a node are those before a later one, where no node between them is in the set
passed_all : (design : FlatDesign) → KeepsRules design → (from k d : ℕ) (counts : List ℕ) (set : NumberBits) → length counts ≡ length design.objects → CountsBefore design from k counts →
    ReadersAreIn design.nodes set k counts → ((i : ℕ) → k ≤ i → i < k + d → is_member set i ≡ false) → k + d ≤ length design.nodes → CountsBefore design from (k + d) counts
passed_all design rules from k zero counts set sized had readers none low = subst (λ j. CountsBefore design from j counts) (let e : k ≡ k + 0 = omega arith in e) had
passed_all design rules from k (suc d) counts set sized had readers none low =
    let before : CountsBefore design from (k + d) counts = passed_all design rules from k d counts set sized had readers (λ i since near. none i since (omega arith)) (omega arith) in
    elim (slice_get_cases design.nodes (k + d)).1 [
      | inl there ↦
          subst (λ j. CountsBefore design from j counts) (let e : k + d + 1 ≡ k + suc d = omega arith in e)
          (passed design rules from (k + d) there.0 there.2 counts sized before (readers (k + d) there.0 (omega arith) there.2 (none (k + d) (omega arith) (omega arith))))
      | inr past ↦ let far : length design.nodes ≤ k + d = past.0 in absurd (omega arith)
    ]

passed_by : (design : FlatDesign) → ∥ KeepsRules design ∥₁ → (from k j : ℕ) (counts : List ℕ) (set : NumberBits) → length counts ≡ length design.objects → CountsBefore design from k counts →
    ReadersAreIn design.nodes set k counts → ((i : ℕ) → k ≤ i → i < j → is_member set i ≡ false) → k ≤ j → j ≤ length design.nodes → CountsBefore design from j counts
passed_by design rules from k j counts set sized had readers none since low o within =
    ∥∥₁_elim rules (ℕ_set _ _)
    (λ kept.
    let e : k + (j - k) ≡ j = omega arith in
    let later : CountsBefore design from (k + (j - k)) counts = passed_all design kept from k (j - k) counts set sized had readers (λ i start near. none i start (omega arith)) (omega arith) in
    subst (λ n. CountsBefore design from n counts) e later o within)

-- what isn't written stays
unwritten : (from through : ℕ) (outputs before later : List ℕ) → WritesCounts from through outputs before later → (o : ℕ) → has outputs o ≡ false → get_or later o 0 ≡ get_or before o 0
unwritten from through outputs before later writes o other =
    elim (cases_lt o (length later)) [
      | inl low ↦ writes.kept o low other
      | inr past ↦ get_or_past later o 0 past ∙ sym (get_or_past before o 0 (omega (arith, writes.same_length)))
    ]

-- Walking

-- only the object at which the paths begin has a count
pub IsWalked-start : (design : FlatDesign) (from : ObjectId) (before : List ℕ) (old new : NumberBits) → object_number from < length before → ((o : ℕ) → get_or before o 0 ≡ 0) →
    AddsReaders design.nodes (object_number from ∷ []) old new → IsWalked design from 0 (set before (object_number from) 1) new
IsWalked-start design from before old new within blank adds = record {
  counted = CountsBefore-none design (object_number from) (set before (object_number from) 1) (λ o low. elim (cases_eq (object_number from) o) [
    | inl same ↦
        ap (λ j. get_or (set before (object_number from) 1) j 0) (sym same) ∙ get_or-set_same before (object_number from) 1 0 within ∙ sym (ap one_if (eq-eqb (object_number from) o same))
    | inr other ↦ get_or-set_other before (object_number from) o 1 0 (λ e. other (sym e)) ∙ blank o ∙ sym (ap one_if (ne_eqb (object_number from) o other))
  ]);
  readers = λ i n since at out x reads. elim (cases_eq x (object_number from)) [
    | inl same ↦
        absurd (both_ways (is_member new i) out (adds.added i n at x (or_left (nat_eq (object_number from) x) false (eq-eqb (object_number from) x (sym same))) reads))
    | inr other ↦ get_or-set_other before (object_number from) x 1 0 other ∙ blank x
  ];
  only = λ o other undriven. get_or-set_other before (object_number from) o 1 0 (λ e. other from refl (sym e)) ∙ blank o;
}

-- one more node of the set
pub IsWalked-more : (design : FlatDesign) → ∥ KeepsRules design ∥₁ → (from : ObjectId) (k j : ℕ) (before later : List ℕ) (old new : NumberBits) → length before ≡ length design.objects →
    IsWalked design from k before old → IsFirstFrom (is_member old) old.bound k (Some j) → PassesNode design.nodes (object_number from) j before later old new → IsWalked design from (j + 1) later new
IsWalked-more design rules from k j before later old new sized had first passes =
    let here : j < length design.nodes = slice_get_within design.nodes j passes.node passes.is in
    let since : k ≤ j = first.0 in
    let reached : CountsBefore design (object_number from) j before = passed_by design rules (object_number from) k j before old sized had.counted had.readers first.3 since (omega arith) in
    record {
      counted = CountsBefore-more design rules (object_number from) j passes.node passes.is before later _ sized reached refl passes.written;
      readers = λ i n far at out x reads. elim (cases_Bool (has passes.node.outputs x)) [
        | inl drives ↦ absurd (both_ways (is_member new i) out (passes.added.added i n at x drives reads))
        | inr other ↦
            unwritten _ _ _ _ _ passes.written x other
            ∙ had.readers i n (omega arith) at (not_before (is_member old i) (is_member new i) (passes.added.kept i) out) x reads
      ];
      only = λ o other undriven.
          let spared : has passes.node.outputs o ≡ false = undriven j passes.node (omega arith) passes.is (passes.added.kept j first.2) in
          unwritten _ _ _ _ _ passes.written o spared ∙ had.only o other (λ i n low at is_in. undriven i n low at (passes.added.kept i is_in));
    }
  where
    not_before : (was now : Bool) → (was ≡ true → now ≡ true) → now ≡ false → was ≡ false
    not_before true now kept out = absurd (both_ways now out (kept refl))
    not_before false now kept out = refl

-- no node of the set is left
pub IsWalked-all : (design : FlatDesign) → ∥ KeepsRules design ∥₁ → (from : ObjectId) (k : ℕ) (counts : List ℕ) (set : NumberBits) → length counts ≡ length design.objects →
    set.bound ≡ length design.nodes → IsWalked design from k counts set → IsFirstFrom (is_member set) set.bound k None → AreCounts design (object_number from) counts
IsWalked-all design rules from k counts set sized bound_is had none =
    elim (cases_lt k (length design.nodes)) [
      | inl low ↦
          AreCounts-all design rules (object_number from) (length design.nodes) counts (omega arith)
          (passed_by design rules (object_number from) k (length design.nodes) counts set sized had.counted had.readers (λ i since near. none i since (omega arith)) (omega arith) (omega arith))
      | inr past ↦ AreCounts-all design rules (object_number from) k counts past had.counted
    ]

-- Adding readers

-- no number is put in
pub InsertsAll-none : (set : NumberBits) → InsertsAll [] set set
InsertsAll-none set = record { bound_is = refl; members = λ n. refl }

or-shift : (a b c : Bool) → (a || (b || c)) ≡ ((b || (a || false)) || c)
or-shift true true c = refl
or-shift true false c = refl
or-shift false true c = refl
or-shift false false c = refl

-- one more of some nodes
pub InsertsAll-more : (nodes : List NodeId) (i : ℕ) (d : NodeId) (old between new : NumberBits) → i < length nodes → InsertsAll (map node_number (take i nodes)) old between →
    Inserts (node_number (get_or nodes i d)) between new → InsertsAll (map node_number (take (i + 1) nodes)) old new
InsertsAll-more nodes i d old between new low had inserts =
    let more : map node_number (take (i + 1) nodes) ≡ map node_number (take i nodes) ++ node_number (get_or nodes i d) ∷ [] =
    ap (map node_number) (take_more nodes i d low) ∙ map_push node_number (take i nodes) (get_or nodes i d) in
    record {
      bound_is = inserts.bound_is ∙ had.bound_is;
      members = λ n.
          inserts.members n ∙ ap (λ b. nat_eq (node_number (get_or nodes i d)) n || b) (had.members n)
          ∙ or-shift (nat_eq (node_number (get_or nodes i d)) n) (has (map node_number (take i nodes)) n) (is_member old n)
          ∙ ap (λ b. b || is_member old n) (sym (ap (λ l. has l n) more ∙ has-append (map node_number (take i nodes)) (node_number (get_or nodes i d) ∷ []) n));
    }

-- no object's readers
pub AddsReaders-none : (nodes : List FlatNode) (set : NumberBits) → AddsReaders nodes [] set set
AddsReaders-none nodes set = record { bound_is = refl; kept = λ i e. e; added = λ i n at o listed reads. absurd (cc) }

-- the readers of one more object
pub AddsReaders-more : (nodes : List FlatNode) (objects : List ℕ) (x : ℕ) (old between new : NumberBits) → AddsReaders nodes objects old between → AddsReaders nodes (x ∷ []) between new →
    AddsReaders nodes (objects ++ x ∷ []) old new
AddsReaders-more nodes objects x old between new had more = record {
  bound_is = more.bound_is ∙ had.bound_is;
  kept = λ i e. more.kept i (had.kept i e);
  added = λ i n at o listed reads. elim (has_push objects x o listed) [
    | inl before ↦ more.kept i (had.added i n at o before reads)
    | inr here ↦ more.added i n at o (or_left (nat_eq x o) false (eq-eqb x o here)) reads
  ];
}

-- all readers of an object are put in
pub AddsReaders-all : (design : FlatDesign) (x : ℕ) (readers : List ℕ) (old new : NumberBits) → readers ≡ readers_of design x → InsertsAll readers old new →
    AddsReaders design.nodes (x ∷ []) old new
AddsReaders-all design x readers old new are inserts = record {
  bound_is = inserts.bound_is;
  kept = λ i e. inserts.members i ∙ or_right (has readers i) (is_member old i) e;
  added = λ i n at o listed reads_it.
      let is_reader : has readers i ≡ true =
      ap (λ l. has l i) are ∙ has-readers_of design x i ∙ ap (reads x) at ∙ subst (λ y. has n.inputs y ≡ true) (sym (only_one x o listed)) reads_it in
      inserts.members i ∙ or_left (has readers i) (is_member old i) is_reader;
}
  where
    only_one : (x o : ℕ) → (nat_eq x o || false) ≡ true → x ≡ o
    only_one x o e = elim (or_cases (nat_eq x o) false e) [ inl same ↦ eqb-true x o same | inr none ↦ absurd (cc) ]

-- Clearing

-- before the first object
pub ClearsCounts-none : (before : List ℕ) → ClearsCounts [] before before
ClearsCounts-none before = record { cleared = λ o e. absurd (cc); kept = λ o e. refl }

-- one more object
pub ClearsCounts-more : (objects before later : List ℕ) (x : ℕ) → ClearsCounts objects before later → x < length later → ClearsCounts (objects ++ x ∷ []) before (set later x 0)
ClearsCounts-more objects before later x had within = record {
  cleared = λ o e. elim (cases_eq o x) [
    | inl same ↦ ap (λ j. get_or (set later x 0) j 0) same ∙ get_or-set_same later x 0 0 within
    | inr other ↦ get_or-set_other later x o 0 0 other ∙ had.cleared o (sym (still_has objects x o other) ∙ e)
  ];
  kept = λ o e. elim (cases_eq o x) [
    | inl same ↦ absurd (both_ways (has (objects ++ x ∷ []) o) e (ap (has (objects ++ x ∷ [])) same ∙ now_has objects x))
    | inr other ↦ get_or-set_other later x o 0 0 other ∙ had.kept o (sym (still_has objects x o other) ∙ e)
  ];
}

-- the object at which the paths begin has no count any more
pub OnlyDrivenCount-start : (nodes : List FlatNode) (set : NumberBits) (from : Option ObjectId) (before later : List ℕ) → OnlyWalkedCount nodes set from before →
    ((o : ℕ) → ForSome from (λ start. object_number start ≡ o → ⊥) → get_or later o 0 ≡ get_or before o 0) → ForSome from (λ start. get_or later (object_number start) 0 ≡ 0) →
    OnlyDrivenCount nodes set 0 later
OnlyDrivenCount-start nodes set None before later only kept cleared o undriven =
    kept o (λ start e. absurd (cc)) ∙ only o (λ start e. absurd (cc)) undriven
OnlyDrivenCount-start nodes set (Some from) before later only kept cleared o undriven =
    elim (cases_eq (object_number from) o) [
      | inl same ↦ ap (λ j. get_or later j 0) (sym same) ∙ cleared from refl
      | inr other ↦ kept o (others from o other) ∙ only o (others from o other) undriven
    ]
  where
    others : (from : ObjectId) (o : ℕ) → (object_number from ≡ o → ⊥) → ForSome (Some from) (λ start. object_number start ≡ o → ⊥)
    others from o other start e same = let is : from ≡ start = cc in other (ap object_number is ∙ same)

-- the counts of the outputs of one more node are taken away
pub OnlyDrivenCount-more : (nodes : List FlatNode) (set : NumberBits) (k j : ℕ) (n : FlatNode) (before later : List ℕ) → OnlyDrivenCount nodes set k before →
    IsFirstFrom (is_member set) set.bound k (Some j) → slice_get nodes j ≡ Some n → ClearsCounts n.outputs before later → OnlyDrivenCount nodes set (j + 1) later
OnlyDrivenCount-more nodes set k j n before later had first at clears o undriven =
    elim (cases_Bool (has n.outputs o)) [
      | inl drives ↦ clears.cleared o drives
      | inr other ↦ clears.kept o other ∙ had o (λ i m since m_at is_in. elim (cases_lt i j) [
        | inl sooner ↦ absurd (both_ways (is_member set i) (first.3 i since sooner) is_in)
        | inr later_one ↦ elim (cases_eq i j) [
          | inl here ↦ same_node i j n m here at m_at o other
          | inr beyond ↦ undriven i m (omega arith) m_at is_in
        ]
      ])
    ]
  where
    same_node : (i j : ℕ) (n m : FlatNode) → i ≡ j → slice_get nodes j ≡ Some n → slice_get nodes i ≡ Some m → (o : ℕ) → has n.outputs o ≡ false → has m.outputs o ≡ false
    same_node i j n m here at m_at o other =
        let there : slice_get nodes i ≡ slice_get nodes j = ap (slice_get nodes) here in
        let is : n ≡ m = cc in ap (λ (node : FlatNode). has node.outputs o) (sym is) ∙ other

-- no node of the set is left, so nothing has a count
pub OnlyDrivenCount-all : (nodes : List FlatNode) (set : NumberBits) (k : ℕ) (counts : List ℕ) → set.bound ≡ length nodes → OnlyDrivenCount nodes set k counts →
    IsFirstFrom (is_member set) set.bound k None → (o : ℕ) → get_or counts o 0 ≡ 0
OnlyDrivenCount-all nodes set k counts bound_is had none o =
    had o (λ i n since at is_in. absurd (both_ways (is_member set i) (none i since (let low : i < length nodes = slice_get_within nodes i n at in omega arith)) is_in))
