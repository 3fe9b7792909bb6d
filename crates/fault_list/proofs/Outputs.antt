-- A node's outputs in ascending order are the net pieces that it drives, in order.
use Rattle.std.proofs.Common.{◌≡◌, ℕ, zero, suc, ◌+◌, ◌<◌, ◌↔◌, Bool, true, false, IsTrue, List, [], ◌∷◌, length, get_or, filter, refl, ap, sym, ◌∙◌, subst, arith, inl, inr, Contains, cond, map}
use Rattle.std.specs.Prelude.{◌||◌, nat_eq, Some, slice_get}
use Rattle.std.specs.Option.{option_map}
use Rattle.std.proofs.lemmas.Option.{slice_get_read, slice_get-map}
use Rattle.v_design.specs.declared.plan.Node.{Node}
use Rattle.v_design.specs.Plain.{node_of}
use Rattle.std.proofs.lemmas.Bool.{or_cases, or_left, or_right, eqb-true, eq-eqb, false≢true}
use Rattle.vf_base.specs.Lists.{has, AllHold}
use Rattle.v_design.specs.Designs.{FlatObject, FlatNode, FlatDesign}
use Rattle.v_design.specs.Paths.{numbers_of, net_pieces}
use Rattle.v_design.specs.WellFormed.{IsAscending, IsNodeOf, KeepsRules}
use Rattle.fault_list.specs.Members.{has-filter, filter-has}

pub same_bool : (a b : Bool) → (a ≡ true → b ≡ true) → (b ≡ true → a ≡ true) → a ≡ b
same_bool true b to from = sym (to refl)
same_bool false true to from = from refl
same_bool false false to from = refl

-- a number that a list has stands at a place, and the other way round
pub has-Contains : (xs : List ℕ) (n : ℕ) → has xs n ≡ true → Contains xs n
has-Contains [] n e = absurd (false≢true e)
has-Contains (x ∷ xs) n e =
    elim (or_cases (nat_eq x n) (has xs n) e) [
      | inl same ↦ (0, omega arith, eqb-true x n same)
      | inr there ↦ let c = has-Contains xs n there in (suc c.0, omega (arith, c.1), c.2)
    ]

at-has : (xs : List ℕ) (k n : ℕ) → k < length xs → get_or xs k n ≡ n → has xs n ≡ true
at-has [] k n low at = absurd (omega arith)
at-has (x ∷ xs) zero n low at = or_left (nat_eq x n) (has xs n) (eq-eqb x n at)
at-has (x ∷ xs) (suc k) n low at = or_right (nat_eq x n) (has xs n) (at-has xs k n (omega arith) at)

pub Contains-has : (xs : List ℕ) (n : ℕ) → Contains xs n → has xs n ≡ true
Contains-has xs n c = at-has xs c.0 n c.1 c.2

-- what is less than a number isn't it
pub AllHold-absent : (x : ℕ) (xs : List ℕ) → AllHold (λ later. x < later) xs → has xs x ≡ false
AllHold-absent x [] all = refl
AllHold-absent x (y ∷ ys) all =
    same_bool (has (y ∷ ys) x) false
    (λ e. elim (or_cases (nat_eq y x) (has ys x) e) [
      | inl same ↦ let e' : y ≡ x = eqb-true y x same in let lt : x < y = all.0 in absurd (omega arith)
      | inr there ↦ absurd (false≢true (sym (AllHold-absent x ys all.1) ∙ there))
    ])
    (λ e. absurd (false≢true e))

less-than : (x : ℕ) (xs : List ℕ) (n : ℕ) → AllHold (λ later. x < later) xs → has xs n ≡ true → x < n
less-than x [] n all e = absurd (false≢true e)
less-than x (y ∷ ys) n all e =
    elim (or_cases (nat_eq y n) (has ys n) e) [
      | inl same ↦ let e' : y ≡ n = eqb-true y n same in let lt : x < y = all.0 in omega arith
      | inr there ↦ less-than x ys n all.1 there
    ]

-- of two heads that stand in each other's list neither is less
heads : (x y : ℕ) (xs ys : List ℕ) → AllHold (λ later. x < later) xs → AllHold (λ later. y < later) ys → has (y ∷ ys) x ≡ true → has (x ∷ xs) y ≡ true → x ≡ y
heads x y xs ys low high one other =
    elim (or_cases (nat_eq y x) (has ys x) one) [
      | inl same ↦ sym (eqb-true y x same)
      | inr there ↦ elim (or_cases (nat_eq x y) (has xs y) other) [
        | inl same ↦ eqb-true x y same
        | inr also ↦ let a : y < x = less-than y ys x high there in let b : x < y = less-than x xs y low also in absurd (omega arith)
      ]
    ]

tails : (x : ℕ) (xs ys : List ℕ) → AllHold (λ later. x < later) xs → AllHold (λ later. x < later) ys → ((n : ℕ) → has (x ∷ xs) n ≡ has (x ∷ ys) n) → (n : ℕ) → has xs n ≡ has ys n
tails x xs ys low high same n =
    elim (nat_eq x n) as (λ b. nat_eq x n ≡ b → has xs n ≡ has ys n) [
      | true ↦ λ e. let is : x ≡ n = eqb-true x n e in subst (λ m. has xs m ≡ has ys m) is (AllHold-absent x xs low ∙ sym (AllHold-absent x ys high))
      | false ↦ λ e. subst (λ b. (b || has xs n) ≡ (b || has ys n)) e (same n)
    ] refl

-- two ascending lists of the same numbers are equal
pub ascending-one : (xs ys : List ℕ) → IsAscending xs → IsAscending ys → ((n : ℕ) → has xs n ≡ has ys n) → xs ≡ ys
ascending-one [] [] one other same = refl
ascending-one [] (y ∷ ys) one other same = absurd (false≢true (same y ∙ or_left (nat_eq y y) (has ys y) (eq-eqb y y refl)))
ascending-one (x ∷ xs) [] one other same = absurd (false≢true (sym (same x) ∙ or_left (nat_eq x x) (has xs x) (eq-eqb x x refl)))
ascending-one (x ∷ xs) (y ∷ ys) one other same =
    let head : x ≡ y = heads x y xs ys one.0 other.0 (sym (same x) ∙ or_left (nat_eq x x) (has xs x) (eq-eqb x x refl)) (same y ∙ or_left (nat_eq y y) (has ys y) (eq-eqb y y refl)) in
    let later : AllHold (λ later. x < later) ys = subst (λ z. AllHold (λ later. z < later) ys) (sym head) other.0 in
    let alike : (n : ℕ) → has (x ∷ xs) n ≡ has (x ∷ ys) n = λ n. subst (λ z. has (x ∷ xs) n ≡ has (z ∷ ys) n) (sym head) (same n) in
    let rest : xs ≡ ys = ascending-one xs ys one.1 other.1 (tails x xs ys one.0 later alike) in
    cc

-- Lists that are ascending

AllHold-from : (P : ℕ → Type 0) (xs : List ℕ) → ((i : ℕ) → i < length xs → P (get_or xs i 0)) → AllHold P xs
AllHold-from P [] each = tt
AllHold-from P (x ∷ xs) each = (each 0 (omega arith), AllHold-from P xs (λ i low. each (suc i) (omega arith)))

-- each less than all later ones, by places
pub ascending-from : (xs : List ℕ) → ((i j : ℕ) → i < j → j < length xs → get_or xs i 0 < get_or xs j 0) → IsAscending xs
ascending-from [] rises = tt
ascending-from (x ∷ xs) rises = (
  AllHold-from (λ later. x < later) xs (λ i low. rises 0 (suc i) (omega arith) (omega arith)),
  ascending-from xs (λ i j lt low. rises (suc i) (suc j) (omega arith) (omega arith)),
)

AllHold-filter : (P : ℕ → Type 0) (test : ℕ → Bool) (xs : List ℕ) → AllHold P xs → AllHold P (filter test xs)
AllHold-filter P test [] all = tt
AllHold-filter P test (x ∷ xs) all =
    elim (test x) as (λ b. AllHold P (cond b (x ∷ filter test xs) (filter test xs))) [ true ↦ (all.0, AllHold-filter P test xs all.1) | false ↦ AllHold-filter P test xs all.1 ]

filter-ascending : (test : ℕ → Bool) (xs : List ℕ) → IsAscending xs → IsAscending (filter test xs)
filter-ascending test [] up = tt
filter-ascending test (x ∷ xs) up =
    elim (test x) as (λ b. IsAscending (cond b (x ∷ filter test xs) (filter test xs))) [
      | true ↦ (AllHold-filter (λ later. x < later) test xs up.0, filter-ascending test xs up.1)
      | false ↦ filter-ascending test xs up.1
    ]

numbers-low : (test : FlatObject → Bool) (low number : ℕ) (objects : List FlatObject) → low < number → AllHold (λ later. low < later) (numbers_of test number objects)
numbers-low test low number [] lt = tt
numbers-low test low number (object ∷ objects) lt =
    let rest : AllHold (λ later. low < later) (numbers_of test (number + 1) objects) = numbers-low test low (number + 1) objects (omega arith) in
    elim (test object) as (λ b. AllHold (λ later. low < later) (elim b [ true ↦ number ∷ numbers_of test (number + 1) objects | false ↦ numbers_of test (number + 1) objects ])) [
      | true ↦ (lt, rest)
      | false ↦ rest
    ]

numbers-ascending : (test : FlatObject → Bool) (number : ℕ) (objects : List FlatObject) → IsAscending (numbers_of test number objects)
numbers-ascending test number [] = tt
numbers-ascending test number (object ∷ objects) =
    let rest : IsAscending (numbers_of test (number + 1) objects) = numbers-ascending test (number + 1) objects in
    let low : AllHold (λ later. number < later) (numbers_of test (number + 1) objects) = numbers-low test number (number + 1) objects (omega arith) in
    elim (test object) as (λ b. IsAscending (elim b [ true ↦ number ∷ numbers_of test (number + 1) objects | false ↦ numbers_of test (number + 1) objects ])) [
      | true ↦ (low, rest)
      | false ↦ rest
    ]

-- the net pieces are ascending
pub net_pieces-ascending : (design : FlatDesign) → IsAscending (net_pieces design)
net_pieces-ascending design = numbers-ascending _ 0 design.objects

-- Outputs

-- a fact of each number, of one that the list has
pub AllHold-has : (P : ℕ → Type 0) (xs : List ℕ) (n : ℕ) → AllHold P xs → has xs n ≡ true → P n
AllHold-has P [] n h e = absurd (false≢true e)
AllHold-has P (x ∷ xs) n h e =
    elim (or_cases (nat_eq x n) (has xs n) e) [ inl same ↦ subst P (eqb-true x n same) h.0 | inr there ↦ AllHold-has P xs n h.1 there ]

-- the outputs of a node in ascending order
pub outputs-in-order : (design : FlatDesign) (node : FlatNode) (kept : List ℕ) → AllHold (λ object. IsTrue (has (net_pieces design) object)) node.outputs →
    ((i j : ℕ) → i < j → j < length kept → get_or kept i 0 < get_or kept j 0) → ((n : ℕ) → Contains kept n ↔ Contains node.outputs n) →
    kept ≡ filter (has node.outputs) (net_pieces design)
outputs-in-order design node kept nets rises same =
    ascending-one kept (filter (has node.outputs) (net_pieces design)) (ascending-from kept rises)
    (filter-ascending (has node.outputs) (net_pieces design) (numbers-ascending _ 0 design.objects))
    (λ n. same_bool (has kept n) (has (filter (has node.outputs) (net_pieces design)) n)
    (λ e. let there : has node.outputs n ≡ true = Contains-has node.outputs n ((same n).0 (has-Contains kept n e)) in
    filter-has (has node.outputs) (net_pieces design) n (AllHold-has (λ object. IsTrue (has (net_pieces design) object)) node.outputs n nets there) there)
    (λ e. Contains-has kept n ((same n).1 (has-Contains node.outputs n (has-filter (has node.outputs) (net_pieces design) n e).1))))

-- a fact of each element, of one that stands in the list
pub AllHold-slice_get : {A : Type 0} (P : A → Type 0) (xs : List A) (i : ℕ) (x : A) → AllHold P xs → slice_get xs i ≡ Some x → P x
AllHold-slice_get P [] i x h e = absurd (cc)
AllHold-slice_get P (y ∷ ys) zero x h e = let same : y ≡ x = cc in subst P same h.0
AllHold-slice_get P (y ∷ ys) (suc i) x h e = AllHold-slice_get P ys i x h.1 e

-- a node of the code's list, as one of the design
pub node_in : (nodes list : List Node) (k : ℕ) (n : Node) → list ≡ nodes → k < length list → n ≡ get_or list k n → slice_get (map node_of nodes) k ≡ Some (node_of n)
node_in nodes list k n same low at =
    subst (λ l. slice_get (map node_of l) k ≡ Some (node_of n)) same (slice_get-map node_of list k ∙ ap (option_map node_of) (slice_get_read list (length list) k n refl low at))

-- what a node of a design drives are net pieces
pub nets_of_node : (design : FlatDesign) (k : ℕ) (node : FlatNode) → KeepsRules design → slice_get design.nodes k ≡ Some node → AllHold (λ object. IsTrue (has (net_pieces design) object)) node.outputs
nets_of_node design k node rules at =
    let kept : IsNodeOf design node = AllHold-slice_get (IsNodeOf design) design.nodes k node rules.nodes at in kept.outputs_nets
