-- Counting paths node by node, each number at most 2 (continuous assignments and gates of IEEE 1364-2001, clause 6 and clause 7).
use Rattle.std.proofs.Common.{◌≡◌, ℕ, ◌+◌, ◌*◌, ◌<◌, ◌≤◌, Bool, true, false, List, [], ◌∷◌, length, get_or, refl, ap, sym, ◌∙◌, inl, inr, arith, min, ◌++◌, set}
use Rattle.std.specs.Prelude.{Some, slice_get, nat_eq, sum_by}
use Rattle.std.proofs.lemmas.List.Sums.{sum_by-cons}
use Rattle.std.proofs.lemmas.Bool.{cases_Bool, both_ways, false_from_ne_true, or_left, or_right, eq-eqb, cases_eq}
use Rattle.std.proofs.lemmas.List.{get_or-set_same, get_or-set_other, length-set}
use Rattle.std.proofs.Math.Logic.{∥∥₁_elim}
use Rattle.std.proofs.Math.Nat.{ℕ_set}
use Rattle.vf_base.specs.Lists.{has}
use Rattle.v_design.specs.Designs.{FlatNode, FlatNodeKind, AssignNode, GateNode, BlockNode, FlatDesign}
use Rattle.v_design.specs.Paths.{path_weight, one_if, paths_through}
use Rattle.v_design.specs.WellFormed.{KeepsRules}
use Rattle.graph_order.specs.ListLaws.{AllHold-has, has-without_repeats, now_has, still_has}
use Rattle.net_graph.specs.PathLaws.{all_paths, paths_before, paths_before-more, paths_before-driven, paths_before-undriven, paths_before-all, input_driven_below, paths_through-output}
use Rattle.net_graph.specs.PathLaws.{paths_through-other}
use Rattle.net_graph.specs.RuleLaws.{inputs_are_objects}
use Rattle.net_graph.specs.Tables.{distinct_inputs, AreCounts}

-- a sum of numbers cut at 2 is, cut at 2, that of the numbers
sum_capped : (c p : ℕ → ℕ) (xs : List ℕ) → ((x : ℕ) → has xs x ≡ true → c x ≡ min 2 (p x)) → min 2 (sum_by c xs) ≡ min 2 (sum_by p xs)
sum_capped c p [] same = refl
sum_capped c p (x ∷ xs) same =
    let here : c x ≡ min 2 (p x) = same x (or_left (nat_eq x x) (has xs x) (eq-eqb x x refl)) in
    let rest : min 2 (sum_by c xs) ≡ min 2 (sum_by p xs) = sum_capped c p xs (λ y e. same y (or_right (nat_eq x y) (has xs y) e)) in
    omega (arith, sum_by-cons c x xs, sum_by-cons p x xs)

pub weight_capped : (kind : FlatNodeKind) (a b : ℕ) → min 2 a ≡ min 2 b → min 2 (path_weight kind * a) ≡ min 2 (path_weight kind * b)
weight_capped (AssignNode value places) a b e = omega arith
weight_capped (GateNode kind terminals) a b e = omega arith
weight_capped (BlockNode statement) a b e = omega arith

-- the counts after the first so many nodes, each at most 2
abbrev pub CountsBefore : FlatDesign → ℕ → ℕ → List ℕ → Type 0
CountsBefore design from k counts = (o : ℕ) → o < length counts → get_or counts o 0 ≡ min 2 (paths_before design.nodes from k o)

-- what the counts of a node's outputs are written to
pub record WritesCounts (from through : ℕ) (outputs before later : List ℕ) : Type 0 where
  pub same_length : length later ≡ length before
  pub written : (o : ℕ) → o < length later → has outputs o ≡ true → get_or later o 0 ≡ min 2 (one_if (nat_eq from o) + through)
  pub kept : (o : ℕ) → o < length later → has outputs o ≡ false → get_or later o 0 ≡ get_or before o 0

-- before the first output
pub WritesCounts-none : (from through : ℕ) (before : List ℕ) → WritesCounts from through [] before before
WritesCounts-none from through before = record { same_length = refl; written = λ o low e. absurd (cc); kept = λ o low e. refl }

-- one more output
pub WritesCounts-more : (from through : ℕ) (outputs before later : List ℕ) (x value : ℕ) → WritesCounts from through outputs before later → x < length later →
    value ≡ min 2 (one_if (nat_eq from x) + through) → WritesCounts from through (outputs ++ x ∷ []) before (set later x value)
WritesCounts-more from through outputs before later x value had within is = record {
  same_length = length-set later x value ∙ had.same_length;
  written = λ o low e.
      elim (cases_eq o x) [
        | inl same ↦
            ap (λ j. get_or (set later x value) j 0) same ∙ get_or-set_same later x value 0 within ∙ is ∙ ap (λ j. min 2 (one_if (nat_eq from j) + through)) (sym same)
        | inr other ↦
            get_or-set_other later x o value 0 other ∙ had.written o (omega (arith, length-set later x value)) (sym (still_has outputs x o other) ∙ e)
      ];
  kept = λ o low e.
      elim (cases_eq o x) [
        | inl same ↦ absurd (both_ways (has (outputs ++ x ∷ []) o) e (ap (has (outputs ++ x ∷ [])) same ∙ now_has outputs x))
        | inr other ↦ get_or-set_other later x o value 0 other ∙ had.kept o (omega (arith, length-set later x value)) (sym (still_has outputs x o other) ∙ e)
      ];
}

-- the paths through a node over the counts before it are, cut at 2, those over all paths
pub through_capped : (design : FlatDesign) → KeepsRules design → (from k : ℕ) (n : FlatNode) → slice_get design.nodes k ≡ Some n → (counts : List ℕ) →
    length counts ≡ length design.objects → CountsBefore design from k counts →
    min 2 (path_weight n.kind * sum_by (λ o. get_or counts o 0) (distinct_inputs n)) ≡ min 2 (path_weight n.kind * sum_by (all_paths design.nodes from) (distinct_inputs n))
through_capped design rules from k n at counts sized had =
    let inputs : (x : ℕ) → has (distinct_inputs n) x ≡ true → get_or counts x 0 ≡ min 2 (all_paths design.nodes from x) =
    λ x reads.
    let is_input : has n.inputs x ≡ true = has-without_repeats [] n.inputs x reads in
    let in_counts : x < length design.objects = AllHold-has (λ o. o < length design.objects) n.inputs x (inputs_are_objects design k n rules at) is_input in
    had x (omega arith) ∙ ap (min 2) (paths_before-driven design.nodes rules.ranked from k x (input_driven_below design.nodes rules.ranked k n at x is_input)) in
    weight_capped n.kind (sum_by (λ o. get_or counts o 0) (distinct_inputs n)) (sum_by (all_paths design.nodes from) (distinct_inputs n))
    (sum_capped (λ o. get_or counts o 0) (all_paths design.nodes from) (distinct_inputs n) inputs)

-- one more node
counts_stepped : (design : FlatDesign) → KeepsRules design → (from k : ℕ) (n : FlatNode) → slice_get design.nodes k ≡ Some n → (counts later : List ℕ) (through : ℕ) →
    length counts ≡ length design.objects → CountsBefore design from k counts →
    through ≡ min 2 (path_weight n.kind * sum_by (λ o. get_or counts o 0) (distinct_inputs n)) →
    WritesCounts from through n.outputs counts later → CountsBefore design from (k + 1) later
counts_stepped design rules from k n at counts later through sized had is_through writes o low =
    elim (cases_Bool (has n.outputs o)) [
      | inl drives ↦
          let start : paths_before design.nodes from k o ≡ one_if (nat_eq from o) =
          paths_before-undriven design.nodes from k o
          (λ i m before i_at. false_from_ne_true (has m.outputs o) (λ also. both_ways (has n.outputs o) (rules.one_driver i k m n i_at at before o also) drives)) in
          let sums : min 2 (path_weight n.kind * sum_by (λ o. get_or counts o 0) (distinct_inputs n)) ≡ min 2 (path_weight n.kind * sum_by (all_paths design.nodes from) (distinct_inputs n)) =
          through_capped design rules from k n at counts sized had in
          let now : get_or later o 0 ≡ min 2 (one_if (nat_eq from o) + through) = writes.written o low drives in
          let more : paths_before design.nodes from (k + 1) o ≡ paths_before design.nodes from k o + paths_through (all_paths design.nodes from) o n = paths_before-more design.nodes from k n o at in
          let part : paths_through (all_paths design.nodes from) o n ≡ path_weight n.kind * sum_by (all_paths design.nodes from) (distinct_inputs n) =
          paths_through-output (all_paths design.nodes from) o n drives in
          joined (get_or later o 0) (one_if (nat_eq from o)) through _ _ (paths_before design.nodes from k o) (paths_before design.nodes from (k + 1) o)
          (paths_through (all_paths design.nodes from) o n) now is_through sums start more part
      | inr other ↦
          let now : get_or later o 0 ≡ get_or counts o 0 = writes.kept o low other in
          let before : get_or counts o 0 ≡ min 2 (paths_before design.nodes from k o) = had o (omega (arith, writes.same_length)) in
          let more : paths_before design.nodes from (k + 1) o ≡ paths_before design.nodes from k o + paths_through (all_paths design.nodes from) o n = paths_before-more design.nodes from k n o at in
          let part : paths_through (all_paths design.nodes from) o n ≡ 0 = paths_through-other (all_paths design.nodes from) o n other in
          omega arith
    ]
  where
    joined : (now one through a b before later part : ℕ) → now ≡ min 2 (one + through) → through ≡ min 2 a → min 2 a ≡ min 2 b → before ≡ one → later ≡ before + part → part ≡ b → now ≡ min 2 later
    joined now one through a b before later part e f g h i j = omega arith

-- one more node, where the rules are kept
pub CountsBefore-more : (design : FlatDesign) → ∥ KeepsRules design ∥₁ → (from k : ℕ) (n : FlatNode) → slice_get design.nodes k ≡ Some n → (counts later : List ℕ) (through : ℕ) →
    length counts ≡ length design.objects → CountsBefore design from k counts →
    through ≡ min 2 (path_weight n.kind * sum_by (λ o. get_or counts o 0) (distinct_inputs n)) →
    WritesCounts from through n.outputs counts later → CountsBefore design from (k + 1) later
CountsBefore-more design rules from k n at counts later through sized had is_through writes o low =
    ∥∥₁_elim rules (ℕ_set _ _) (λ kept. counts_stepped design kept from k n at counts later through sized had is_through writes o low)

-- before the first node
pub CountsBefore-none : (design : FlatDesign) (from : ℕ) (counts : List ℕ) → ((o : ℕ) → o < length counts → get_or counts o 0 ≡ one_if (nat_eq from o)) → CountsBefore design from 0 counts
CountsBefore-none design from counts start o low =
    let e : get_or counts o 0 ≡ one_if (nat_eq from o) = start o low in
    let small : one_if (nat_eq from o) ≤ 1 = at_most_one (nat_eq from o) in
    omega arith
  where
    at_most_one : (b : Bool) → one_if b ≤ 1
    at_most_one true = omega arith
    at_most_one false = omega arith

-- after the last node the counts are those of all paths
pub AreCounts-all : (design : FlatDesign) → ∥ KeepsRules design ∥₁ → (from k : ℕ) (counts : List ℕ) → length design.nodes ≤ k → CountsBefore design from k counts → AreCounts design from counts
AreCounts-all design rules from k counts past had o low =
    ∥∥₁_elim rules (ℕ_set _ _) (λ kept. had o low ∙ ap (min 2) (paths_before-all design.nodes kept.ranked from k o past))
