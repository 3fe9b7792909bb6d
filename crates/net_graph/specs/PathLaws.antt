-- Laws on paths of nodes: each node's inputs come from earlier nodes, so paths are counted node by node (continuous assignments and gates of IEEE 1364-2001, clause 6 and clause 7).
use Rattle.std.proofs.Common.{◌≡◌, ℕ, zero, suc, ◌+◌, ◌*◌, ◌<◌, ◌≤◌, Bool, true, false, List, [], ◌∷◌, length, get_or, take, drop, refl, ap, sym, ◌∙◌, subst, inl, inr, arith, add-one, length-drop}
use Rattle.std.specs.Prelude.{Some, None, slice_get, nat_eq, nat_lt, ◌||◌, ◌&&◌, sum_by}
use Rattle.std.specs.List.{list_any}
use Rattle.std.proofs.lemmas.List.Sums.{sum_by_more, sum_by-take-drop}
use Rattle.std.proofs.lemmas.List.{drop_all, drop_more}
use Rattle.std.proofs.lemmas.Option.{slice_get_within, get_or_from_slice_get}
use Rattle.std.proofs.lemmas.Bool.{cases_lt, cases_Bool, or_cases, or_left, or_right, and_parts, and_from, both_ways, false_from_ne_true, eqb-true, eq-eqb, ltb-true, lt-ltb}
use Rattle.vf_base.specs.Lists.{has, without_repeats}
use Rattle.v_design.specs.Designs.{FlatNode, FlatNodeKind, AssignNode, GateNode, BlockNode}
use Rattle.v_design.specs.Paths.{path_weight, one_if, paths_through, paths_within}
use Rattle.v_design.specs.WellFormed.{AreBelow}
use Rattle.graph_order.specs.ListLaws.{sum_by-agree, sum_by-none, sum_by-agree_has, le-sum_by, term_of_sum, has-without_repeats, without_repeats-has}

-- A node's part of the paths

-- a number where a test holds, else 0
abbrev pub number_if : Bool → ℕ → ℕ
number_if true n = n
number_if false n = 0

pub paths_through-if : (p : ℕ → ℕ) (o : ℕ) (n : FlatNode) → paths_through p o n ≡ number_if (has n.outputs o) (path_weight n.kind * sum_by p (without_repeats [] n.inputs))
paths_through-if p o n =
    let m : ℕ = path_weight n.kind * sum_by p (without_repeats [] n.inputs) in
    elim (has n.outputs o) as (λ b. (elim b [ true ↦ path_weight n.kind * sum_by p (without_repeats [] n.inputs) | false ↦ 0 ]) ≡ number_if b
    (path_weight n.kind * sum_by p (without_repeats [] n.inputs))) [ true ↦ refl | false ↦ refl ]

pub paths_through-other : (p : ℕ → ℕ) (o : ℕ) (n : FlatNode) → has n.outputs o ≡ false → paths_through p o n ≡ 0
paths_through-other p o n e = paths_through-if p o n ∙ ap (λ b. number_if b (path_weight n.kind * sum_by p (without_repeats [] n.inputs))) e

pub paths_through-output : (p : ℕ → ℕ) (o : ℕ) (n : FlatNode) → has n.outputs o ≡ true → paths_through p o n ≡ path_weight n.kind * sum_by p (without_repeats [] n.inputs)
paths_through-output p o n e = paths_through-if p o n ∙ ap (λ b. number_if b (path_weight n.kind * sum_by p (without_repeats [] n.inputs))) e

paths_through-agree : (p q : ℕ → ℕ) (o : ℕ) (n : FlatNode) → (has n.outputs o ≡ true → (x : ℕ) → has n.inputs x ≡ true → p x ≡ q x) → paths_through p o n ≡ paths_through q o n
paths_through-agree p q o n same =
    elim (cases_Bool (has n.outputs o)) [
      | inl drives ↦
          paths_through-output p o n drives
          ∙ ap (λ s. path_weight n.kind * s) (sum_by-agree_has p q (without_repeats [] n.inputs) (λ x e. same drives x (has-without_repeats [] n.inputs x e)))
          ∙ sym (paths_through-output q o n drives)
      | inr other ↦ paths_through-other p o n other ∙ sym (paths_through-other q o n other)
    ]

pub path_weight-positive : (kind : FlatNodeKind) → 1 ≤ path_weight kind
path_weight-positive (AssignNode value places) = omega arith
path_weight-positive (GateNode kind terminals) = omega arith
path_weight-positive (BlockNode statement) = omega arith

-- Nodes up to a number

-- an object is an output of the first so many nodes alone
abbrev pub IsDrivenBelow : List FlatNode → ℕ → ℕ → Type 0
IsDrivenBelow nodes k o = (i : ℕ) (n : FlatNode) → slice_get nodes i ≡ Some n → has n.outputs o ≡ true → i < k

-- the inputs of a node are driven by earlier nodes
pub input_driven_below : (nodes : List FlatNode) → AreBelow nodes → (i : ℕ) (n : FlatNode) → slice_get nodes i ≡ Some n → (x : ℕ) → has n.inputs x ≡ true → IsDrivenBelow nodes i x
input_driven_below nodes below i n at x reads j m m_at drives =
    elim (cases_lt j i) [
      | inl earlier ↦ earlier
      | inr later ↦ absurd (both_ways (has n.inputs x) (below i j n m at m_at later x drives) reads)
    ]

pub driven_below_all : (nodes : List FlatNode) (o : ℕ) → IsDrivenBelow nodes (length nodes) o
driven_below_all nodes o i n at drives = slice_get_within nodes i n at

driven_below_more : (nodes : List FlatNode) (i k o : ℕ) → i ≤ k → IsDrivenBelow nodes i o → IsDrivenBelow nodes k o
driven_below_more nodes i k o h driven j m at drives = let first : j < i = driven j m at drives in omega arith

same_paths_through : (nodes : List FlatNode) → AreBelow nodes → (from k d e : ℕ) →
    ((o : ℕ) → IsDrivenBelow nodes k o → paths_within d nodes from o ≡ paths_within e nodes from o) →
    (o : ℕ) → IsDrivenBelow nodes (suc k) o → (i : ℕ) (n : FlatNode) → slice_get nodes i ≡ Some n →
    paths_through (paths_within d nodes from) o n ≡ paths_through (paths_within e nodes from) o n
same_paths_through nodes below from k d e same o driven i n at =
    paths_through-agree (paths_within d nodes from) (paths_within e nodes from) o n
    (λ drives x reads.
    let first : i < suc k = driven i n at drives in
    same x (driven_below_more nodes i k x (omega arith) (input_driven_below nodes below i n at x reads)))

undriven_paths : (nodes : List FlatNode) (from o : ℕ) → IsDrivenBelow nodes 0 o → (d : ℕ) → paths_within d nodes from o ≡ one_if (nat_eq from o)
undriven_paths nodes from o driven zero = refl
undriven_paths nodes from o driven (suc d) =
    let none : sum_by (paths_through (paths_within d nodes from) o) nodes ≡ 0 =
    sum_by-none (paths_through (paths_within d nodes from) o) nodes
    (λ i n at. paths_through-other (paths_within d nodes from) o n (false_from_ne_true (has n.outputs o) (λ drives. let low : i < 0 = driven i n at drives in omega arith))) in
    omega arith

-- looking back over more nodes than can drive an object changes nothing
pub paths_within-enough : (nodes : List FlatNode) → AreBelow nodes → (from k d e : ℕ) → k ≤ d → k ≤ e → (o : ℕ) → IsDrivenBelow nodes k o →
    paths_within d nodes from o ≡ paths_within e nodes from o
paths_within-enough nodes below from zero d e hd he o driven = undriven_paths nodes from o driven d ∙ sym (undriven_paths nodes from o driven e)
paths_within-enough nodes below from (suc k) zero e hd he o driven = absurd (omega arith)
paths_within-enough nodes below from (suc k) (suc d) zero hd he o driven = absurd (omega arith)
paths_within-enough nodes below from (suc k) (suc d) (suc e) hd he o driven =
    let low : k ≤ d = omega arith in
    let low' : k ≤ e = omega arith in
    ap (λ s. one_if (nat_eq from o) + s)
    (sum_by-agree (paths_through (paths_within d nodes from) o) (paths_through (paths_within e nodes from) o) nodes
    (same_paths_through nodes below from k d e (paths_within-enough nodes below from k d e low low') o driven))

-- the paths to an object, over those to what its nodes read
abbrev pub all_paths : List FlatNode → ℕ → ℕ → ℕ
all_paths nodes from o = paths_within (length nodes) nodes from o

pub all_paths-step : (nodes : List FlatNode) → AreBelow nodes → (from o : ℕ) → all_paths nodes from o ≡ one_if (nat_eq from o) + sum_by (paths_through (all_paths nodes from) o) nodes
all_paths-step nodes below from o =
    paths_within-enough nodes below from (length nodes) (length nodes) (suc (length nodes)) (omega arith) (omega arith) o (driven_below_all nodes o)

-- the paths to an object that end with one of the first so many nodes
abbrev pub paths_before : List FlatNode → ℕ → ℕ → ℕ → ℕ
paths_before nodes from k o = one_if (nat_eq from o) + sum_by (paths_through (all_paths nodes from) o) (take k nodes)

pub paths_before-more : (nodes : List FlatNode) (from k : ℕ) (n : FlatNode) (o : ℕ) → slice_get nodes k ≡ Some n →
    paths_before nodes from (k + 1) o ≡ paths_before nodes from k o + paths_through (all_paths nodes from) o n
paths_before-more nodes from k n o at =
    let f : FlatNode → ℕ = paths_through (all_paths nodes from) o in
    let here : get_or nodes k n ≡ n = get_or_from_slice_get nodes k n n at in
    let more : sum_by f (take (k + 1) nodes) ≡ sum_by f (take k nodes) + f (get_or nodes k n) = sum_by_more f nodes k n (slice_get_within nodes k n at) in
    let same : f (get_or nodes k n) ≡ f n = ap f here in
    omega arith

slice_get-drop : {A : Type 0} (xs : List A) (k i : ℕ) (x : A) → slice_get (drop k xs) i ≡ Some x → slice_get xs (k + i) ≡ Some x
slice_get-drop [] zero i x e = absurd (cc)
slice_get-drop [] (suc k) i x e = absurd (cc)
slice_get-drop (y ∷ ys) zero i x e = subst (λ j. slice_get (y ∷ ys) j ≡ Some x) (let z : i ≡ 0 + i = omega arith in z) e
slice_get-drop (y ∷ ys) (suc k) i x e = subst (λ j. slice_get (y ∷ ys) j ≡ Some x) (let z : suc (k + i) ≡ suc k + i = omega arith in z) (slice_get-drop ys k i x e)

slice_get-take : {A : Type 0} (xs : List A) (k i : ℕ) (x : A) → slice_get (take k xs) i ≡ Some x → (i < k) × (slice_get xs i ≡ Some x)
slice_get-take xs zero i x e = absurd (cc)
slice_get-take [] (suc k) i x e = absurd (cc)
slice_get-take (y ∷ ys) (suc k) zero x e = (omega arith, e)
slice_get-take (y ∷ ys) (suc k) (suc i) x e = let r = slice_get-take ys k i x e in (omega (arith, r.0), r.1)

-- all paths of an object that later nodes don't drive
pub paths_before-driven : (nodes : List FlatNode) → AreBelow nodes → (from k o : ℕ) → IsDrivenBelow nodes k o → paths_before nodes from k o ≡ all_paths nodes from o
paths_before-driven nodes below from k o driven =
    let f : FlatNode → ℕ = paths_through (all_paths nodes from) o in
    let none : sum_by f (drop k nodes) ≡ 0 =
    sum_by-none f (drop k nodes)
    (λ i n at. paths_through-other (all_paths nodes from) o n
    (false_from_ne_true (has n.outputs o) (λ drives. let low : k + i < k = driven (k + i) n (slice_get-drop nodes k i n at) drives in omega arith))) in
    let parts : sum_by f (take k nodes) + sum_by f (drop k nodes) ≡ sum_by f nodes = sum_by-take-drop f nodes k in
    let step : all_paths nodes from o ≡ one_if (nat_eq from o) + sum_by f nodes = all_paths-step nodes below from o in
    omega arith

-- no paths yet of an object that earlier nodes don't drive
pub paths_before-undriven : (nodes : List FlatNode) (from k o : ℕ) → ((i : ℕ) (n : FlatNode) → i < k → slice_get nodes i ≡ Some n → has n.outputs o ≡ false) →
    paths_before nodes from k o ≡ one_if (nat_eq from o)
paths_before-undriven nodes from k o undriven =
    let none : sum_by (paths_through (all_paths nodes from) o) (take k nodes) ≡ 0 =
    sum_by-none (paths_through (all_paths nodes from) o) (take k nodes)
    (λ i n at. let r = slice_get-take nodes k i n at in paths_through-other (all_paths nodes from) o n (undriven i n r.0 r.1)) in
    omega arith

pub paths_before-all : (nodes : List FlatNode) → AreBelow nodes → (from k o : ℕ) → length nodes ≤ k → paths_before nodes from k o ≡ all_paths nodes from o
paths_before-all nodes below from k o h = paths_before-driven nodes below from k o (driven_below_more nodes (length nodes) k o h (driven_below_all nodes o))

-- What reaches an object, looking forward

-- whether an object reaches one that passes a test through some nodes, each of which stands above those that feed it
abbrev pub reaches_some : List FlatNode → (ℕ → Bool) → ℕ → Bool
reaches_some [] test o = test o
reaches_some (node ∷ rest) test o = reaches_some rest test o || (has node.inputs o && list_any (reaches_some rest test) node.outputs)

-- whether an object reaches another
abbrev pub reaches_in : List FlatNode → ℕ → ℕ → Bool
reaches_in nodes net o = reaches_some nodes (λ x. nat_eq x net) o

some_output : (test : ℕ → Bool) (xs : List ℕ) → list_any test xs ≡ true → (x : ℕ) × (has xs x ≡ true) × (test x ≡ true)
some_output test [] e = absurd (cc)
some_output test (y ∷ ys) e =
    elim (or_cases (test y) (list_any test ys) e) [
      | inl here ↦ (y, or_left (nat_eq y y) (has ys y) (eq-eqb y y refl), here)
      | inr there ↦ let r = some_output test ys there in (r.0, or_right (nat_eq y r.0) (has ys r.0) r.1, r.2)
    ]

output_passes : (test : ℕ → Bool) (xs : List ℕ) (x : ℕ) → has xs x ≡ true → test x ≡ true → list_any test xs ≡ true
output_passes test [] x e h = absurd (cc)
output_passes test (y ∷ ys) x e h =
    elim (or_cases (nat_eq y x) (has ys x) e) [
      | inl same ↦ or_left (test y) (list_any test ys) (ap test (eqb-true y x same) ∙ h)
      | inr there ↦ or_right (test y) (list_any test ys) (output_passes test ys x there h)
    ]

-- a node with an input that has a path gives one to its outputs
through_positive : (p : ℕ → ℕ) (n : FlatNode) (o x : ℕ) → has n.outputs o ≡ true → has n.inputs x ≡ true → 0 < p x → 0 < paths_through p o n
through_positive p n o x drives reads h =
    let sum : ℕ = sum_by p (without_repeats [] n.inputs) in
    let term : p x ≤ sum_by p (without_repeats [] n.inputs) = le-sum_by p (without_repeats [] n.inputs) x (without_repeats-has [] n.inputs x reads refl) in
    let weight : 1 ≤ path_weight n.kind = path_weight-positive n.kind in
    let product : 1 * 1 ≤ path_weight n.kind * sum_by p (without_repeats [] n.inputs) = le_times 1 (path_weight n.kind) 1 (sum_by p (without_repeats [] n.inputs)) weight (omega arith) in
    omega (arith, paths_through-output p o n drives)
  where
    le_times : (a b c d : ℕ) → a ≤ b → c ≤ d → a * c ≤ b * d
    le_times a b c d h k = grind arith

-- a node gives its outputs a path only from an input that has one
through_input : (p : ℕ → ℕ) (n : FlatNode) (o : ℕ) → 0 < paths_through p o n → (has n.outputs o ≡ true) × ((x : ℕ) × (has n.inputs x ≡ true) × (0 < p x))
through_input p n o h =
    elim (cases_Bool (has n.outputs o)) [
      | inl drives ↦
          let r = term_of_sum p (without_repeats [] n.inputs) (factor (path_weight n.kind) (sum_by p (without_repeats [] n.inputs)) (paths_through-output p o n drives)) in
          (drives, (r.0, has-without_repeats [] n.inputs r.0 r.1, r.2))
      | inr other ↦ absurd (omega (arith, paths_through-other p o n other))
    ]
  where
    factor : (a s : ℕ) → paths_through p o n ≡ a * s → 0 < s
    factor a s e = grind arith

-- what reaches it has a path to it
reaches-path : (nodes : List FlatNode) → AreBelow nodes → (from net : ℕ) (rest : List FlatNode) (k : ℕ) → drop k nodes ≡ rest → (o : ℕ) → reaches_in rest net o ≡ true →
    0 < paths_before nodes from k o → 0 < all_paths nodes from net
reaches-path nodes below from net [] k e o r h =
    let same : o ≡ net = eqb-true o net r in
    let short : length (drop k nodes) ≡ 0 = ap length e in
    let past : length nodes ≤ k = omega (arith, length-drop k nodes) in
    let there : paths_before nodes from k net ≡ all_paths nodes from net = paths_before-all nodes below from k net past in
    let here : paths_before nodes from k o ≡ paths_before nodes from k net = ap (paths_before nodes from k) same in
    omega arith
reaches-path nodes below from net (n ∷ rest) k e o r h =
    let at : slice_get nodes k ≡ Some n = first_dropped nodes k n rest e in
    let next : drop (k + 1) nodes ≡ rest = rest_dropped nodes k n rest e in
    elim (or_cases (reaches_in rest net o) (has n.inputs o && list_any (reaches_in rest net) n.outputs) r) [
      | inl later ↦ reaches-path nodes below from net rest (k + 1) next o later (omega (arith, paths_before-more nodes from k n o at))
      | inr here ↦
          let parts = and_parts (has n.inputs o) (list_any (reaches_in rest net) n.outputs) here in
          let out = some_output (reaches_in rest net) n.outputs parts.1 in
          let its_paths : paths_before nodes from k o ≡ all_paths nodes from o = paths_before-driven nodes below from k o (input_driven_below nodes below k n at o parts.0) in
          let given : 0 < paths_through (all_paths nodes from) out.0 n = through_positive (all_paths nodes from) n out.0 o out.1 parts.0 (omega arith) in
          reaches-path nodes below from net rest (k + 1) next out.0 out.2 (omega (arith, paths_before-more nodes from k n out.0 at))
    ]
  where
    first_dropped : (nodes : List FlatNode) (k : ℕ) (n : FlatNode) (rest : List FlatNode) → drop k nodes ≡ n ∷ rest → slice_get nodes k ≡ Some n
    first_dropped [] zero n rest e = absurd (cc)
    first_dropped [] (suc k) n rest e = absurd (cc)
    first_dropped (m ∷ nodes) zero n rest e = cc
    first_dropped (m ∷ nodes) (suc k) n rest e = first_dropped nodes k n rest e

    rest_dropped : (nodes : List FlatNode) (k : ℕ) (n : FlatNode) (rest : List FlatNode) → drop k nodes ≡ n ∷ rest → drop (k + 1) nodes ≡ rest
    rest_dropped nodes k n rest e = rw add-one (dropped nodes k n rest e)
      where
        dropped : (nodes : List FlatNode) (k : ℕ) (n : FlatNode) (rest : List FlatNode) → drop k nodes ≡ n ∷ rest → drop (suc k) nodes ≡ rest
        dropped [] zero n rest e = absurd (cc)
        dropped [] (suc k) n rest e = absurd (cc)
        dropped (m ∷ nodes) zero n rest e = cc
        dropped (m ∷ nodes) (suc k) n rest e = dropped nodes k n rest e

-- what is left from a node on
pub slice_get_dropped : (nodes : List FlatNode) (k : ℕ) (n : FlatNode) → slice_get nodes k ≡ Some n → drop k nodes ≡ n ∷ drop (k + 1) nodes
slice_get_dropped nodes k n at =
    drop_more nodes k n (slice_get_within nodes k n at) ∙ ap (λ x. x ∷ drop (k + 1) nodes) (get_or_from_slice_get nodes k n n at)

is_one : (b : Bool) → 0 < one_if b → b ≡ true
is_one true h = refl
is_one false h = absurd (omega arith)

-- what has a path to it reaches it: from an object with a path, back to where the path begins
path-reaches : (nodes : List FlatNode) → AreBelow nodes → (from net k : ℕ) → k ≤ length nodes → (o : ℕ) → reaches_in (drop k nodes) net o ≡ true →
    0 < paths_before nodes from k o → reaches_in nodes net from ≡ true
path-reaches nodes below from net zero short o r h =
    let begins : nat_eq from o ≡ true = is_one (nat_eq from o) (omega arith) in
    subst (λ x. reaches_in nodes net x ≡ true) (sym (eqb-true from o begins)) r
path-reaches nodes below from net (suc k) short o r h =
    let within : k < length nodes = omega arith in
    elim (slice_get nodes k) as (λ s. slice_get nodes k ≡ s → reaches_in nodes net from ≡ true) [
      | None ↦ λ at. absurd (none_within nodes k within at)
      | Some n ↦ λ at. back_over nodes below from net k o n at (path-reaches nodes below from net k (omega arith)) (subst (λ j. reaches_in (drop j nodes) net o ≡ true) (sym (add-one k)) r)
          (subst (λ j. 0 < paths_before nodes from j o) (sym (add-one k)) h)
    ] refl
  where
    none_within : (xs : List FlatNode) (i : ℕ) → i < length xs → slice_get xs i ≡ None → ⊥
    none_within [] i h e = omega arith
    none_within (x ∷ xs) zero h e = cc
    none_within (x ∷ xs) (suc i) h e = none_within xs i (omega arith) e

    back_over : (nodes : List FlatNode) → AreBelow nodes → (from net k o : ℕ) (n : FlatNode) → slice_get nodes k ≡ Some n →
        ((o : ℕ) → reaches_in (drop k nodes) net o ≡ true → 0 < paths_before nodes from k o → reaches_in nodes net from ≡ true) →
        reaches_in (drop (k + 1) nodes) net o ≡ true → 0 < paths_before nodes from (k + 1) o → reaches_in nodes net from ≡ true
    back_over nodes below from net k o n at earlier r h =
        let here : drop k nodes ≡ n ∷ drop (k + 1) nodes = slice_get_dropped nodes k n at in
        elim (cases_lt 0 (paths_before nodes from k o)) [
          | inl had ↦
              earlier o (subst (λ l. reaches_in l net o ≡ true) (sym here) (or_left (reaches_in (drop (k + 1) nodes) net o)
              (has n.inputs o && list_any (reaches_in (drop (k + 1) nodes) net) n.outputs) r)) had
          | inr new ↦
              let given = through_input (all_paths nodes from) n o (omega (arith, paths_before-more nodes from k n o at)) in
              let x : ℕ = given.1.0 in
              let its_paths : paths_before nodes from k x ≡ all_paths nodes from x = paths_before-driven nodes below from k x (input_driven_below nodes below k n at x given.1.1) in
              let has_path : 0 < all_paths nodes from x = given.1.2 in
              let feeds_on : (has n.inputs x && list_any (reaches_in (drop (k + 1) nodes) net) n.outputs) ≡ true =
              and_from (has n.inputs x) (list_any (reaches_in (drop (k + 1) nodes) net) n.outputs) given.1.1
              (output_passes (reaches_in (drop (k + 1) nodes) net) n.outputs o given.0 r) in
              earlier x (subst (λ l. reaches_in l net x ≡ true) (sym here) (or_right (reaches_in (drop (k + 1) nodes) net x)
              (has n.inputs x && list_any (reaches_in (drop (k + 1) nodes) net) n.outputs) feeds_on)) (omega arith)
        ]

bools_agree : (a b : Bool) → (a ≡ true → b ≡ true) → (b ≡ true → a ≡ true) → a ≡ b
bools_agree true b f g = sym (f refl)
bools_agree false true f g = g refl
bools_agree false false f g = refl

-- looking forward finds exactly what has a path
pub reaches_in-paths : (nodes : List FlatNode) → AreBelow nodes → (from net : ℕ) → reaches_in nodes net from ≡ nat_lt 0 (all_paths nodes from net)
reaches_in-paths nodes below from net =
    bools_agree (reaches_in nodes net from) (nat_lt 0 (all_paths nodes from net))
    (λ r. lt-ltb 0 (all_paths nodes from net) (reaches-path nodes below from net nodes 0 refl from r (let one : one_if (nat_eq from from) ≡ 1 = ap one_if (eq-eqb from from refl) in omega arith)))
    (λ h.
    let all : paths_before nodes from (length nodes) net ≡ all_paths nodes from net = paths_before-all nodes below from (length nodes) net (omega arith) in
    let end : reaches_in (drop (length nodes) nodes) net net ≡ true = subst (λ l. reaches_in l net net ≡ true) (sym (drop_all (length nodes) nodes (omega arith))) (eq-eqb net net refl) in
    let some : 0 < all_paths nodes from net = ltb-true 0 (all_paths nodes from net) h in
    path-reaches nodes below from net (length nodes) (omega arith) net end (omega arith))

-- what reaches an object that passes the test reaches some such
pub reaches_in-some : (nodes : List FlatNode) (test : ℕ → Bool) (net o : ℕ) → test net ≡ true → reaches_in nodes net o ≡ true → reaches_some nodes test o ≡ true
reaches_in-some [] test net o passes r = ap test (eqb-true o net r) ∙ passes
reaches_in-some (n ∷ rest) test net o passes r =
    elim (or_cases (reaches_in rest net o) (has n.inputs o && list_any (reaches_in rest net) n.outputs) r) [
      | inl later ↦ or_left (reaches_some rest test o) (has n.inputs o && list_any (reaches_some rest test) n.outputs) (reaches_in-some rest test net o passes later)
      | inr here ↦
          let parts = and_parts (has n.inputs o) (list_any (reaches_in rest net) n.outputs) here in
          let out = some_output (reaches_in rest net) n.outputs parts.1 in
          or_right (reaches_some rest test o) (has n.inputs o && list_any (reaches_some rest test) n.outputs)
          (and_from (has n.inputs o) (list_any (reaches_some rest test) n.outputs) parts.0
          (output_passes (reaches_some rest test) n.outputs out.0 out.1 (reaches_in-some rest test net out.0 passes out.2)))
    ]

-- what reaches some object that passes the test reaches one
pub reaches_some-in : (nodes : List FlatNode) (test : ℕ → Bool) (o : ℕ) → reaches_some nodes test o ≡ true → (net : ℕ) × (test net ≡ true) × (reaches_in nodes net o ≡ true)
reaches_some-in [] test o r = (o, r, eq-eqb o o refl)
reaches_some-in (n ∷ rest) test o r =
    elim (or_cases (reaches_some rest test o) (has n.inputs o && list_any (reaches_some rest test) n.outputs) r) [
      | inl later ↦
          let found = reaches_some-in rest test o later in
          (found.0, found.1, or_left (reaches_in rest found.0 o) (has n.inputs o && list_any (reaches_in rest found.0) n.outputs) found.2)
      | inr here ↦
          let parts = and_parts (has n.inputs o) (list_any (reaches_some rest test) n.outputs) here in
          let out = some_output (reaches_some rest test) n.outputs parts.1 in
          let found = reaches_some-in rest test out.0 out.2 in (
            found.0,
            found.1,
            or_right (reaches_in rest found.0 o) (has n.inputs o && list_any (reaches_in rest found.0) n.outputs)
                (and_from (has n.inputs o) (list_any (reaches_in rest found.0) n.outputs) parts.0 (output_passes (reaches_in rest found.0) n.outputs out.0 out.1 found.2)),
          )
    ]
