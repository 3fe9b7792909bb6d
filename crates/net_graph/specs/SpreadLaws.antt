-- Counting the paths from many objects at once, node by node, told apart up to 2 (continuous assignments and gates of IEEE 1364-2001, clause 6 and clause 7).
use Rattle.std.proofs.Common.{◌≡◌, ℕ, zero, suc, ◌+◌, ◌*◌, ◌<◌, ◌≤◌, true, false, List, [], ◌∷◌, ◌++◌, length, get_or, set, min, refl, ap, sym, ◌∙◌, subst, inl, inr, arith}
use Rattle.std.specs.Prelude.{Some, slice_get, nat_eq, sum_by}
use Rattle.std.proofs.lemmas.List.Sums.{sum_by-cons}
use Rattle.std.proofs.lemmas.Bool.{cases_Bool, both_ways, false_from_ne_true, or_left, or_right, eq-eqb, ne_eqb, cases_eq}
use Rattle.std.proofs.lemmas.List.{get_or-set_same, get_or-set_other, length-set}
use Rattle.std.proofs.Math.Logic.{∥∥₁_elim}
use Rattle.std.proofs.Math.Nat.{ℕ_set}
use Rattle.vf_base.specs.Lists.{has}
use Rattle.v_design.specs.Designs.{FlatNode, FlatDesign}
use Rattle.v_design.specs.Paths.{path_weight, one_if, paths_through}
use Rattle.v_design.specs.WellFormed.{KeepsRules}
use Rattle.graph_order.specs.ListLaws.{AllHold-has, has-without_repeats, now_has, still_has}
use Rattle.net_graph.specs.CountLaws.{weight_capped}
use Rattle.net_graph.specs.PathLaws.{all_paths, paths_before, paths_before-more, paths_before-driven, paths_before-undriven, paths_before-all, input_driven_below, paths_through-output}
use Rattle.net_graph.specs.PathLaws.{paths_through-other}
use Rattle.net_graph.specs.RuleLaws.{inputs_are_objects}
use Rattle.net_graph.specs.Tables.{distinct_inputs, weighted, AreTotalPaths}

-- Sums over objects, each as often as a table says

pub weighted-agree : (f g : ℕ → ℕ) (number : ℕ) (counts : List ℕ) → ((x : ℕ) → f x ≡ g x) → weighted f number counts ≡ weighted g number counts
weighted-agree f g number [] same = refl
weighted-agree f g number (count ∷ counts) same =
    let rest = weighted-agree f g (number + 1) counts same in
    let here : count * f number ≡ count * g number = ap (λ n. count * n) (same number) in
    omega (arith, rest, here)

times-plus : (a b c : ℕ) → a * (b + c) ≡ a * b + a * c
times-plus a b c = grind arith

weighted-plus : (f g : ℕ → ℕ) (number : ℕ) (counts : List ℕ) → weighted (λ x. f x + g x) number counts ≡ weighted f number counts + weighted g number counts
weighted-plus f g number [] = refl
weighted-plus f g number (count ∷ counts) =
    let rest = weighted-plus f g (number + 1) counts in
    let here = times-plus count (f number) (g number) in
    omega (arith, rest, here)

times-none : (a : ℕ) → a * 0 ≡ 0
times-none a = grind arith

weighted-none : (number : ℕ) (counts : List ℕ) → weighted (λ x. 0) number counts ≡ 0
weighted-none number [] = refl
weighted-none number (count ∷ counts) = let rest = weighted-none (number + 1) counts in let here = times-none count in omega (arith, rest, here)

times-swap : (a b c : ℕ) → a * (b * c) ≡ b * (a * c)
times-swap a b c = grind arith

weighted-times : (k : ℕ) (f : ℕ → ℕ) (number : ℕ) (counts : List ℕ) → weighted (λ x. k * f x) number counts ≡ k * weighted f number counts
weighted-times k f number [] = sym (times-none k)
weighted-times k f number (count ∷ counts) =
    let rest = weighted-times k f (number + 1) counts in
    let here = times-swap count k (f number) in
    let both = times-plus k (count * f number) (weighted f (number + 1) counts) in
    omega (arith, rest, here, both)

weighted-sum : (p : ℕ → ℕ → ℕ) (xs : List ℕ) (counts : List ℕ) → weighted (λ from. sum_by (p from) xs) 0 counts ≡ sum_by (λ x. weighted (λ from. p from x) 0 counts) xs
weighted-sum p [] counts = weighted-none 0 counts
weighted-sum p (x ∷ xs) counts =
    weighted-agree (λ from. sum_by (p from) (x ∷ xs)) (λ from. p from x + sum_by (p from) xs) 0 counts (λ from. sum_by-cons (p from) x xs)
    ∙ weighted-plus (λ from. p from x) (λ from. sum_by (p from) xs) 0 counts
    ∙ ap (λ n. weighted (λ from. p from x) 0 counts + n) (weighted-sum p xs counts)
    ∙ sym (sum_by-cons (λ y. weighted (λ from. p from y) 0 counts) x xs)

weighted-past : (object number : ℕ) (counts : List ℕ) → object < number → weighted (λ from. one_if (nat_eq from object)) number counts ≡ 0
weighted-past object number [] past = refl
weighted-past object number (count ∷ counts) past =
    let rest = weighted-past object (number + 1) counts (omega arith) in
    let here : count * one_if (nat_eq number object) ≡ 0 = ap (λ b. count * one_if b) (ne_eqb number object (λ e. omega arith)) ∙ times-none count in
    omega (arith, rest, here)

times-one : (a : ℕ) → a * 1 ≡ a
times-one a = grind arith

weighted-here : (number place : ℕ) (counts : List ℕ) → place < length counts → weighted (λ from. one_if (nat_eq from (number + place))) number counts ≡ get_or counts place 0
weighted-here number place [] low = absurd (omega arith)
weighted-here number zero (count ∷ counts) low =
    let rest = weighted-past (number + 0) (number + 1) counts (omega arith) in
    let here : count * one_if (nat_eq number (number + 0)) ≡ count = ap (λ b. count * one_if b) (eq-eqb number (number + 0) (omega arith)) ∙ times-one count in
    omega (arith, rest, here)
weighted-here number (suc place) (count ∷ counts) low =
    let moved : number + 1 + place ≡ number + suc place = omega arith in
    let rest : weighted (λ from. one_if (nat_eq from (number + suc place))) (number + 1) counts ≡ get_or counts place 0 =
    subst (λ o. weighted (λ from. one_if (nat_eq from o)) (number + 1) counts ≡ get_or counts place 0) moved (weighted-here (number + 1) place counts (omega arith)) in
    let here : count * one_if (nat_eq number (number + suc place)) ≡ 0 = ap (λ b. count * one_if b) (ne_eqb number (number + suc place) (λ e. omega arith)) ∙ times-none count in
    omega (arith, rest, here)

-- an object by itself
weighted-one : (counts : List ℕ) (object : ℕ) → object < length counts → weighted (λ from. one_if (nat_eq from object)) 0 counts ≡ get_or counts object 0
weighted-one counts object low =
    subst (λ o. weighted (λ from. one_if (nat_eq from o)) 0 counts ≡ get_or counts object 0) (let e : 0 + object ≡ object = omega arith in e) (weighted-here 0 object counts low)

-- sums of numbers that are told apart up to 2
sum_alike : (c p : ℕ → ℕ) (xs : List ℕ) → ((x : ℕ) → has xs x ≡ true → min 2 (c x) ≡ min 2 (p x)) → min 2 (sum_by c xs) ≡ min 2 (sum_by p xs)
sum_alike c p [] same = refl
sum_alike c p (x ∷ xs) same =
    let here : min 2 (c x) ≡ min 2 (p x) = same x (or_left (nat_eq x x) (has xs x) (eq-eqb x x refl)) in
    let rest : min 2 (sum_by c xs) ≡ min 2 (sum_by p xs) = sum_alike c p xs (λ y e. same y (or_right (nat_eq x y) (has xs y) e)) in
    omega (arith, sum_by-cons c x xs, sum_by-cons p x xs)

-- Node by node

-- the totals after the first so many nodes
abbrev pub TotalsBefore : FlatDesign → List ℕ → ℕ → List ℕ → Type 0
TotalsBefore design counts k totals = (o : ℕ) → o < length totals → min 2 (get_or totals o 0) ≡ min 2 (weighted (λ from. paths_before design.nodes from k o) 0 counts)

-- what the totals of a node's outputs are written to
pub record WritesTotals (counts : List ℕ) (through : ℕ) (outputs before later : List ℕ) : Type 0 where
  pub same_length : length later ≡ length before
  pub written : (o : ℕ) → o < length later → has outputs o ≡ true → min 2 (get_or later o 0) ≡ min 2 (get_or counts o 0 + through)
  pub kept : (o : ℕ) → o < length later → has outputs o ≡ false → get_or later o 0 ≡ get_or before o 0

-- before the first output
pub WritesTotals-none : (counts : List ℕ) (through : ℕ) (before : List ℕ) → WritesTotals counts through [] before before
WritesTotals-none counts through before = record { same_length = refl; written = λ o low e. absurd (cc); kept = λ o low e. refl }

-- one more output
pub WritesTotals-more : (counts : List ℕ) (through : ℕ) (outputs before later : List ℕ) (x value : ℕ) → WritesTotals counts through outputs before later → x < length later →
    min 2 value ≡ min 2 (get_or counts x 0 + through) → WritesTotals counts through (outputs ++ x ∷ []) before (set later x value)
WritesTotals-more counts through outputs before later x value had within is = record {
  same_length = length-set later x value ∙ had.same_length;
  written = λ o low e.
      elim (cases_eq o x) [
        | inl same ↦
            ap (λ j. min 2 (get_or (set later x value) j 0)) same ∙ ap (min 2) (get_or-set_same later x value 0 within) ∙ is ∙ ap (λ j. min 2 (get_or counts j 0 + through)) (sym same)
        | inr other ↦
            ap (min 2) (get_or-set_other later x o value 0 other) ∙ had.written o (omega (arith, length-set later x value)) (sym (still_has outputs x o other) ∙ e)
      ];
  kept = λ o low e.
      elim (cases_eq o x) [
        | inl same ↦ absurd (both_ways (has (outputs ++ x ∷ []) o) e (ap (has (outputs ++ x ∷ [])) same ∙ now_has outputs x))
        | inr other ↦ get_or-set_other later x o value 0 other ∙ had.kept o (omega (arith, length-set later x value)) (sym (still_has outputs x o other) ∙ e)
      ];
}

-- what the next node adds
node_adds : (design : FlatDesign) (counts : List ℕ) (k : ℕ) (n : FlatNode) (o : ℕ) → slice_get design.nodes k ≡ Some n →
    weighted (λ from. paths_before design.nodes from (k + 1) o) 0 counts
    ≡ weighted (λ from. paths_before design.nodes from k o) 0 counts + weighted (λ from. paths_through (all_paths design.nodes from) o n) 0 counts
node_adds design counts k n o at =
    weighted-agree (λ from. paths_before design.nodes from (k + 1) o) (λ from. paths_before design.nodes from k o + paths_through (all_paths design.nodes from) o n) 0 counts
    (λ from. paths_before-more design.nodes from k n o at)
    ∙ weighted-plus (λ from. paths_before design.nodes from k o) (λ from. paths_through (all_paths design.nodes from) o n) 0 counts

-- the paths through a node to an output of it
through_output : (design : FlatDesign) (counts : List ℕ) (n : FlatNode) (o : ℕ) → has n.outputs o ≡ true →
    weighted (λ from. paths_through (all_paths design.nodes from) o n) 0 counts
    ≡ path_weight n.kind * sum_by (λ x. weighted (λ from. all_paths design.nodes from x) 0 counts) (distinct_inputs n)
through_output design counts n o drives =
    weighted-agree (λ from. paths_through (all_paths design.nodes from) o n) (λ from. path_weight n.kind * sum_by (all_paths design.nodes from) (distinct_inputs n)) 0 counts
    (λ from. paths_through-output (all_paths design.nodes from) o n drives)
    ∙ weighted-times (path_weight n.kind) (λ from. sum_by (all_paths design.nodes from) (distinct_inputs n)) 0 counts
    ∙ ap (λ s. path_weight n.kind * s) (weighted-sum (all_paths design.nodes) (distinct_inputs n) counts)

-- to any other object
through_other : (design : FlatDesign) (counts : List ℕ) (n : FlatNode) (o : ℕ) → has n.outputs o ≡ false → weighted (λ from. paths_through (all_paths design.nodes from) o n) 0 counts ≡ 0
through_other design counts n o other =
    weighted-agree (λ from. paths_through (all_paths design.nodes from) o n) (λ from. 0) 0 counts (λ from. paths_through-other (all_paths design.nodes from) o n other) ∙ weighted-none 0 counts

-- what leads to an object that no earlier node drives
undriven_total : (design : FlatDesign) (counts : List ℕ) (k o : ℕ) → o < length counts → ((i : ℕ) (n : FlatNode) → i < k → slice_get design.nodes i ≡ Some n → has n.outputs o ≡ false) →
    weighted (λ from. paths_before design.nodes from k o) 0 counts ≡ get_or counts o 0
undriven_total design counts k o low undriven =
    weighted-agree (λ from. paths_before design.nodes from k o) (λ from. one_if (nat_eq from o)) 0 counts (λ from. paths_before-undriven design.nodes from k o undriven) ∙ weighted-one counts o low

-- one more node
totals_stepped : (design : FlatDesign) → KeepsRules design → (counts : List ℕ) (k : ℕ) (n : FlatNode) → slice_get design.nodes k ≡ Some n → (totals later : List ℕ) (through : ℕ) →
    length counts ≡ length design.objects → length totals ≡ length design.objects → TotalsBefore design counts k totals →
    through ≡ min 2 (path_weight n.kind * sum_by (λ o. get_or totals o 0) (distinct_inputs n)) →
    WritesTotals counts through n.outputs totals later → TotalsBefore design counts (k + 1) later
totals_stepped design rules counts k n at totals later through counts_sized sized had is_through writes o low =
    elim (cases_Bool (has n.outputs o)) [
      | inl drives ↦
          let start = undriven_total design counts k o (omega (arith, writes.same_length))
          (λ i m before i_at. false_from_ne_true (has m.outputs o) (λ also. both_ways (has n.outputs o) (rules.one_driver i k m n i_at at before o also) drives)) in
          let inputs : (x : ℕ) → has (distinct_inputs n) x ≡ true → min 2 (get_or totals x 0) ≡ min 2 (weighted (λ from. all_paths design.nodes from x) 0 counts) =
          λ x reads.
          let is_input : has n.inputs x ≡ true = has-without_repeats [] n.inputs x reads in
          let in_totals : x < length design.objects = AllHold-has (λ o. o < length design.objects) n.inputs x (inputs_are_objects design k n rules at) is_input in
          had x (omega arith)
          ∙ ap (min 2) (weighted-agree (λ from. paths_before design.nodes from k x) (λ from. all_paths design.nodes from x) 0 counts
          (λ from. paths_before-driven design.nodes rules.ranked from k x (input_driven_below design.nodes rules.ranked k n at x is_input))) in
          let sums = weight_capped n.kind (sum_by (λ o. get_or totals o 0) (distinct_inputs n)) (sum_by (λ x. weighted (λ from. all_paths design.nodes from x) 0 counts) (distinct_inputs n))
          (sum_alike (λ o. get_or totals o 0) (λ x. weighted (λ from. all_paths design.nodes from x) 0 counts) (distinct_inputs n) inputs) in
          joined (get_or later o 0) (get_or counts o 0) through _ _ _ _ _ (writes.written o low drives) is_through sums start (node_adds design counts k n o at)
          (through_output design counts n o drives)
      | inr other ↦
          let now : get_or later o 0 ≡ get_or totals o 0 = writes.kept o low other in
          let before = had o (omega (arith, writes.same_length)) in
          let more = node_adds design counts k n o at in
          let part = through_other design counts n o other in
          ap (min 2) now ∙ before ∙ ap (min 2) (nothing _ _ _ more part)
    ]
  where
    joined : (now start through a b before later part : ℕ) → min 2 now ≡ min 2 (start + through) → through ≡ min 2 a → min 2 a ≡ min 2 b → before ≡ start → later ≡ before + part → part ≡ b →
        min 2 now ≡ min 2 later
    joined now start through a b before later part e f g h i j = omega arith

    nothing : (later before part : ℕ) → later ≡ before + part → part ≡ 0 → before ≡ later
    nothing later before part e f = omega arith

-- one more node, where the rules are kept
pub TotalsBefore-more : (design : FlatDesign) → ∥ KeepsRules design ∥₁ → (counts : List ℕ) (k : ℕ) (n : FlatNode) → slice_get design.nodes k ≡ Some n → (totals later : List ℕ) (through : ℕ) →
    length counts ≡ length design.objects → length totals ≡ length design.objects → TotalsBefore design counts k totals →
    through ≡ min 2 (path_weight n.kind * sum_by (λ o. get_or totals o 0) (distinct_inputs n)) →
    WritesTotals counts through n.outputs totals later → TotalsBefore design counts (k + 1) later
TotalsBefore-more design rules counts k n at totals later through counts_sized sized had is_through writes o low =
    ∥∥₁_elim rules (ℕ_set _ _) (λ kept. totals_stepped design kept counts k n at totals later through counts_sized sized had is_through writes o low)

-- before the first node
pub TotalsBefore-none : (design : FlatDesign) (counts totals : List ℕ) → totals ≡ counts → TotalsBefore design counts 0 totals
TotalsBefore-none design counts totals same o low =
    let long : length totals ≡ length counts = ap length same in
    ap (min 2) (ap (λ l. get_or l o 0) same ∙ sym (undriven_total design counts 0 o (omega arith) (λ i n before at. absurd (omega arith))))

-- after the last node
pub AreTotals-all : (design : FlatDesign) → ∥ KeepsRules design ∥₁ → (counts : List ℕ) (k : ℕ) (totals : List ℕ) → length design.nodes ≤ k → TotalsBefore design counts k totals →
    AreTotalPaths design counts totals
AreTotals-all design rules counts k totals past had o low =
    ∥∥₁_elim rules (ℕ_set _ _)
    (λ kept. had o low
    ∙ ap (min 2) (weighted-agree (λ from. paths_before design.nodes from k o) (λ from. all_paths design.nodes from o) 0 counts (λ from. paths_before-all design.nodes kept.ranked from k o past)))
