-- The paths of nodes: the number to an object is the sum over the nodes that write it, and changes reach an object through each input of its node.
use Rattle.std.proofs.Common.{◌≡◌, ℕ, zero, suc, ◌+◌, ◌*◌, ◌<◌, ◌≤◌, List, [], ◌∷◌, ◌++◌, length, Bool, true, false, ◌||◌, refl, sym, ap, ◌∙◌, ◌⊎◌, inl, inr, arith, sum_by, le_trans}
use Rattle.std.specs.Prelude.{Some, slice_get, nat_eq}
use Rattle.std.proofs.lemmas.Bool.{eqb-true, eq-eqb}
use Rattle.std.proofs.lemmas.List.Sums.{sum_by-cons, sum_by-append}
use Rattle.vf_base.specs.Lists.{has, fresh_only, without_repeats}
use Rattle.v_design.specs.Designs.{FlatNode, FlatNodeKind, AssignNode, GateNode, BlockNode, FlatDesign}
use Rattle.v_design.specs.Paths.{path_weight, one_if, paths_through, paths_within, paths}
use Rattle.v_design.specs.WellFormed.{AreBelow}

-- Words on lists of numbers

pub true-false : {A : Type 0} (b : Bool) → b ≡ true → b ≡ false → A
true-false b e f = cc

pub or-either : (b c : Bool) → (b || c) ≡ true → (b ≡ true) ⊎ (c ≡ true)
or-either true c e = inl refl
or-either false c e = inr e

pub or-second : (b c : Bool) → c ≡ true → (b || c) ≡ true
or-second true c e = refl
or-second false c e = e

pub or-neither : (b c : Bool) → (b || c) ≡ false → (b ≡ false) × (c ≡ false)
or-neither true c e = cc
or-neither false c e = (refl, e)

pub has-self : (x : ℕ) (xs : List ℕ) → has (x ∷ xs) x ≡ true
has-self x xs = ap (λ b. b || has xs x) (eq-eqb x x refl)

-- a number is found or not
pub decided : (b : Bool) → (b ≡ true) ⊎ (b ≡ false)
decided true = inl refl
decided false = inr refl

pub slice_get-below : {A : Type 0} (xs : List A) (n : ℕ) (x : A) → slice_get xs n ≡ Some x → n < length xs
slice_get-below [] n x e = cc
slice_get-below (y ∷ xs) zero x e = omega arith
slice_get-below (y ∷ xs) (suc n) x e = let h : n < length xs = slice_get-below xs n x e in omega (arith, h)

-- what stands in a list without its repeats stands in the list
pub repeats-in : (seen xs : List ℕ) (x : ℕ) → has (without_repeats seen xs) x ≡ true → has xs x ≡ true
repeats-in seen [] x h = h
repeats-in seen (y ∷ xs) x h = go (has seen y) (repeats-in (y ∷ seen) xs x) h
  where
    go : (b : Bool) → (has (without_repeats (y ∷ seen) xs) x ≡ true → has xs x ≡ true) →
        has (fresh_only b y (without_repeats (y ∷ seen) xs)) x ≡ true → (nat_eq y x || has xs x) ≡ true
    go true rest i = or-second (nat_eq y x) (has xs x) (rest i)
    go false rest i = elim (or-either (nat_eq y x) (has (without_repeats (y ∷ seen) xs) x) i) [
      | inl same ↦ ap (λ b. b || has xs x) same
      | inr there ↦ or-second (nat_eq y x) (has xs x) (rest there)
    ]

-- and the other way round
pub in-repeats : (seen xs : List ℕ) (x : ℕ) → has seen x ≡ false → has xs x ≡ true → has (without_repeats seen xs) x ≡ true
in-repeats seen [] x new h = h
in-repeats seen (y ∷ xs) x new h = elim (or-either (nat_eq y x) (has xs x) h) [
  | inl same ↦
      ap (λ b. has (fresh_only b y (without_repeats (y ∷ seen) xs)) x) (ap (has seen) (eqb-true y x same) ∙ new)
      ∙ ap (λ b. b || has (without_repeats (y ∷ seen) xs) x) same
  | inr there ↦ elim (decided (nat_eq y x)) [
    | inl same ↦
        ap (λ b. has (fresh_only b y (without_repeats (y ∷ seen) xs)) x) (ap (has seen) (eqb-true y x same) ∙ new)
        ∙ ap (λ b. b || has (without_repeats (y ∷ seen) xs) x) same
    | inr other ↦ go (has seen y) (in-repeats (y ∷ seen) xs x (ap (λ b. b || has seen x) other ∙ new) there)
  ]
]
  where
    go : (b : Bool) → has (without_repeats (y ∷ seen) xs) x ≡ true → has (fresh_only b y (without_repeats (y ∷ seen) xs)) x ≡ true
    go true i = i
    go false i = or-second (nat_eq y x) (has (without_repeats (y ∷ seen) xs) x) i

-- Sums

-- two sums over the elements at their places
pub sums-same : {A : Type 0} (f g : A → ℕ) (xs : List A) → ((n : ℕ) (x : A) → slice_get xs n ≡ Some x → f x ≡ g x) → sum_by f xs ≡ sum_by g xs
sums-same f g [] h = refl
sums-same f g (x ∷ xs) h =
    sum_by-cons f x xs ∙ ap (λ n. n + sum_by f xs) (h 0 x refl) ∙ ap (λ n. g x + n) (sums-same f g xs (λ n. h (suc n))) ∙ sym (sum_by-cons g x xs)

-- and over numbers that stand in the list
pub sums-same-in : (f g : ℕ → ℕ) (xs : List ℕ) → ((x : ℕ) → has xs x ≡ true → f x ≡ g x) → sum_by f xs ≡ sum_by g xs
sums-same-in f g [] h = refl
sums-same-in f g (x ∷ xs) h =
    sum_by-cons f x xs ∙ ap (λ n. n + sum_by f xs) (h x (has-self x xs))
    ∙ ap (λ n. g x + n) (sums-same-in f g xs (λ y i. h y (or-second (nat_eq x y) (has xs y) i))) ∙ sym (sum_by-cons g x xs)

pub sum-nothing : {A : Type 0} (f : A → ℕ) (xs : List A) → ((n : ℕ) (x : A) → slice_get xs n ≡ Some x → f x ≡ 0) → sum_by f xs ≡ 0
sum-nothing f [] h = refl
sum-nothing f (x ∷ xs) h =
    let s : sum_by f (x ∷ xs) ≡ f x + sum_by f xs = sum_by-cons f x xs in
    let one : f x ≡ 0 = h 0 x refl in
    let rest : sum_by f xs ≡ 0 = sum-nothing f xs (λ n. h (suc n)) in
    omega (arith, s, one, rest)

pub sum-at : {A : Type 0} (f : A → ℕ) (xs : List A) (n : ℕ) (x : A) → slice_get xs n ≡ Some x → f x ≤ sum_by f xs
sum-at f [] n x e = cc
sum-at f (y ∷ xs) zero x e =
    let s : sum_by f (y ∷ xs) ≡ f y + sum_by f xs = sum_by-cons f y xs in
    let same : f y ≡ f x = ap f (some_same e) in
    omega (arith, s, same)
  where
    some_same : Some y ≡ Some x → y ≡ x
    some_same e = cc
sum-at f (y ∷ xs) (suc n) x e =
    let s : sum_by f (y ∷ xs) ≡ f y + sum_by f xs = sum_by-cons f y xs in
    let h : f x ≤ sum_by f xs = sum-at f xs n x e in
    omega (arith, s, h)

pub sum-in : (f : ℕ → ℕ) (xs : List ℕ) (x : ℕ) → has xs x ≡ true → f x ≤ sum_by f xs
sum-in f [] x h = cc
sum-in f (y ∷ xs) x h =
    let s : sum_by f (y ∷ xs) ≡ f y + sum_by f xs = sum_by-cons f y xs in
    elim (or-either (nat_eq y x) (has xs x) h) [
      | inl same ↦ (let e : f y ≡ f x = ap f (eqb-true y x same) in omega (arith, s, e))
      | inr there ↦ (let i : f x ≤ sum_by f xs = sum-in f xs x there in omega (arith, s, i))
    ]

pub sums-below : {A : Type 0} (f g : A → ℕ) (xs : List A) → ((x : A) → f x ≤ g x) → sum_by f xs ≤ sum_by g xs
sums-below f g [] h = omega arith
sums-below f g (x ∷ xs) h =
    let s : sum_by f (x ∷ xs) ≡ f x + sum_by f xs = sum_by-cons f x xs in
    let t : sum_by g (x ∷ xs) ≡ g x + sum_by g xs = sum_by-cons g x xs in
    let one : f x ≤ g x = h x in
    let rest : sum_by f xs ≤ sum_by g xs = sums-below f g xs h in
    omega (arith, s, t, one, rest)

-- Levels

-- only nodes below a number write the object
abbrev pub IsBelow : List FlatNode → ℕ → ℕ → Type 0
IsBelow nodes level object = (number : ℕ) (node : FlatNode) → slice_get nodes number ≡ Some node → has node.outputs object ≡ true → number < level

pub all_below : (nodes : List FlatNode) (object : ℕ) → IsBelow nodes (length nodes) object
all_below nodes object number node e h = slice_get-below nodes number node e

-- an input of a node is below it
pub input_below : (nodes : List FlatNode) → AreBelow nodes → (number : ℕ) (node : FlatNode) → slice_get nodes number ≡ Some node →
    (object : ℕ) → has node.inputs object ≡ true → IsBelow nodes number object
input_below nodes ranked number node e object i other driver f h = elim (le-or-below number other) [
  | inl above ↦ true-false (has node.inputs object) i (ranked number other node driver e f above object h)
  | inr below ↦ below
]
  where
    le-or-below : (n m : ℕ) → (n ≤ m) ⊎ (m < n)
    le-or-below n zero = elim (zero-or n) [ inl z ↦ inl (omega (arith, z)) | inr p ↦ inr p ]
      where
        zero-or : (n : ℕ) → (n ≡ 0) ⊎ (0 < n)
        zero-or zero = inl refl
        zero-or (suc n) = inr (omega arith)
    le-or-below zero (suc m) = inl (omega arith)
    le-or-below (suc n) (suc m) = elim (le-or-below n m) [ inl a ↦ inl (omega (arith, a)) | inr b ↦ inr (omega (arith, b)) ]

abbrev pub chosen : Bool → ℕ → ℕ
chosen b n = elim b [ true ↦ n | false ↦ 0 ]

pub through-not : (f : ℕ → ℕ) (object : ℕ) (node : FlatNode) → has node.outputs object ≡ false → paths_through f object node ≡ 0
through-not f object node h = ap (λ b. chosen b (path_weight node.kind * sum_by f (without_repeats [] node.inputs))) h

through-writes : (f : ℕ → ℕ) (object : ℕ) (node : FlatNode) → has node.outputs object ≡ true → paths_through f object node ≡ path_weight node.kind * sum_by f (without_repeats [] node.inputs)
through-writes f object node h = ap (λ b. chosen b (path_weight node.kind * sum_by f (without_repeats [] node.inputs))) h

-- where no node writes the object, no path leads through one
unwritten : (nodes : List FlatNode) (f : ℕ → ℕ) (object : ℕ) → IsBelow nodes 0 object → sum_by (paths_through f object) nodes ≡ 0
unwritten nodes f object below =
    sum-nothing (paths_through f object) nodes
    (λ n node e. elim (decided (has node.outputs object)) [ inl h ↦ (let z : n < 0 = below n node e h in absurd (omega (arith, z))) | inr h ↦ through-not f object node h ])

-- more nodes than lie below the object lead to no more paths
pub paths-stable : (nodes : List FlatNode) → AreBelow nodes → (from d e level object : ℕ) → level ≤ d → level ≤ e → IsBelow nodes level object →
    paths_within d nodes from object ≡ paths_within e nodes from object
paths-stable nodes ranked from zero zero level object a b below = refl
paths-stable nodes ranked from zero (suc e) level object a b below =
    sym (add-none (one_if (nat_eq from object)) (sum_by (paths_through (paths_within e nodes from) object) nodes)
    (unwritten nodes (paths_within e nodes from) object (λ n node g h. let i : n < level = below n node g h in omega (arith, i, a))))
  where
    add-none : (n m : ℕ) → m ≡ 0 → n + m ≡ n
    add-none n m h = omega (arith, h)
paths-stable nodes ranked from (suc d) zero level object a b below =
    add-none (one_if (nat_eq from object)) (sum_by (paths_through (paths_within d nodes from) object) nodes)
    (unwritten nodes (paths_within d nodes from) object (λ n node g h. let i : n < level = below n node g h in omega (arith, i, b)))
  where
    add-none : (n m : ℕ) → m ≡ 0 → n + m ≡ n
    add-none n m h = omega (arith, h)
paths-stable nodes ranked from (suc d) (suc e) level object a b below =
    ap (λ n. one_if (nat_eq from object) + n)
    (sums-same (paths_through (paths_within d nodes from) object) (paths_through (paths_within e nodes from) object) nodes
    (λ n node g. elim (decided (has node.outputs object)) [
      | inl h ↦
          (let i : n < level = below n node g h in
          through-writes (paths_within d nodes from) object node h
          ∙ ap (λ m. path_weight node.kind * m)
          (sums-same-in (paths_within d nodes from) (paths_within e nodes from) (without_repeats [] node.inputs)
          (λ input k. paths-stable nodes ranked from d e n input (omega (arith, i, a)) (omega (arith, i, b)) (input_below nodes ranked n node g input (repeats-in [] node.inputs input k))))
          ∙ sym (through-writes (paths_within e nodes from) object node h))
      | inr h ↦ through-not (paths_within d nodes from) object node h ∙ sym (through-not (paths_within e nodes from) object node h)
    ]))

-- The paths to an object: that of no node, and those through the nodes that write it
pub paths-step : (design : FlatDesign) → AreBelow design.nodes → (from object : ℕ) →
    paths design from object ≡ one_if (nat_eq from object) + sum_by (paths_through (paths design from) object) design.nodes
paths-step design ranked from object =
    paths-stable design.nodes ranked from (length design.nodes) (suc (length design.nodes)) (length design.nodes) object (omega arith) (omega arith) (all_below design.nodes object)

pub paths-self : (design : FlatDesign) → AreBelow design.nodes → (object : ℕ) → 1 ≤ paths design object object
paths-self design ranked object =
    let s : paths design object object ≡ one_if (nat_eq object object) + sum_by (paths_through (paths design object) object) design.nodes = paths-step design ranked object object in
    let one : one_if (nat_eq object object) ≡ 1 = ap one_if (eq-eqb object object refl) in
    omega (arith, s, one)

-- the paths to a node's inputs lead on to its outputs
pub paths-node : (design : FlatDesign) → AreBelow design.nodes → (from object number : ℕ) (node : FlatNode) → slice_get design.nodes number ≡ Some node →
    has node.outputs object ≡ true → path_weight node.kind * sum_by (paths design from) (without_repeats [] node.inputs) ≤ paths design from object
paths-node design ranked from object number node e h =
    let s : paths design from object ≡ one_if (nat_eq from object) + sum_by (paths_through (paths design from) object) design.nodes = paths-step design ranked from object in
    let t : paths_through (paths design from) object node ≤ sum_by (paths_through (paths design from) object) design.nodes =
    sum-at (paths_through (paths design from) object) design.nodes number node e in
    let w : paths_through (paths design from) object node ≡ path_weight node.kind * sum_by (paths design from) (without_repeats [] node.inputs) = through-writes (paths design from) object node h in
    omega (arith, s, t, w)

pub weighty : (kind : FlatNodeKind) (n : ℕ) → n ≤ path_weight kind * n
weighty (AssignNode value places) n = omega arith
weighty (GateNode kind terminals) n = omega arith
weighty (BlockNode statement) n = omega arith

pub paths-input : (design : FlatDesign) → AreBelow design.nodes → (from object number : ℕ) (node : FlatNode) → slice_get design.nodes number ≡ Some node →
    has node.outputs object ≡ true → (input : ℕ) → has node.inputs input ≡ true → paths design from input ≤ paths design from object
paths-input design ranked from object number node e h input i =
    let a : paths design from input ≤ sum_by (paths design from) (without_repeats [] node.inputs) =
    sum-in (paths design from) (without_repeats [] node.inputs) input (in-repeats [] node.inputs input refl i) in
    let b : path_weight node.kind * sum_by (paths design from) (without_repeats [] node.inputs) ≤ paths design from object = paths-node design ranked from object number node e h in
    le_trans a (le_trans (weighty node.kind (sum_by (paths design from) (without_repeats [] node.inputs))) b)

-- What changes reach

-- the paths from some changed objects to an object
abbrev pub reached : FlatDesign → List ℕ → ℕ → ℕ
reached design changes object = sum_by (λ source. paths design source object) changes

pub reached-self : (design : FlatDesign) → AreBelow design.nodes → (changes : List ℕ) (object : ℕ) → has changes object ≡ true → 1 ≤ reached design changes object
reached-self design ranked changes object h = le_trans (paths-self design ranked object) (sum-in (λ source. paths design source object) changes object h)

pub reached-input : (design : FlatDesign) → AreBelow design.nodes → (changes : List ℕ) (object number : ℕ) (node : FlatNode) → slice_get design.nodes number ≡ Some node →
    has node.outputs object ≡ true → (input : ℕ) → has node.inputs input ≡ true → reached design changes input ≤ reached design changes object
reached-input design ranked changes object number node e h input i =
    sums-below (λ source. paths design source input) (λ source. paths design source object) changes (λ source. paths-input design ranked source object number node e h input i)

pub reached-append : (design : FlatDesign) (changes more : List ℕ) (object : ℕ) → reached design (changes ++ more) object ≡ reached design changes object + reached design more object
reached-append design changes more object = sum_by-append (λ source. paths design source object) changes more
