-- The turns of the loops over outputs and nodes.
use Rattle.std.proofs.Common.{◌≡◌, ℕ, zero, suc, ◌+◌, ◌<◌, ◌≤◌, Bool, true, false, List, [], ◌∷◌, ◌++◌, Vec, length, map, drop, get_or, refl, sym, ap, ap₂, ◌∙◌, arith}
use Rattle.std.specs.Prelude.{cond, ◌||◌, slice_get, Some, None}
use Rattle.std.specs.declared.alloc.Global.{Global}
use Rattle.std.proofs.Math.Seq.{drop-cons}
use Rattle.std.proofs.lemmas.List.{append_assoc}
use Rattle.std.proofs.lemmas.Bool.{eqb-true}
use Rattle.std.specs.Prelude.{nat_eq}
use Rattle.vf_base.specs.Lists.{has}
use Rattle.v_design.specs.Expressions.{up_from}
use Rattle.graph_order.specs.ListLaws.{has-append}
use Rattle.object_waits.specs.ObjectLists.{with_object}
use Rattle.v_elab.specs.Flat as plain
use Rattle.v_elab.specs.Objects.{HeldObject}
use Rattle.object_names.specs.OutputViews.{outputs_seen, output_lists}
use Rattle.object_names.specs.declared.outputs.NodeOutput.{NodeOutput}

-- an object more is that object alone
has-with : (list : List ℕ) (x n : ℕ) → has (with_object list x) n ≡ (has list n || nat_eq x n)
has-with list x n = by_test (has list x) refl
  where
    or-false : (b : Bool) → (b || false) ≡ b
    or-false true = refl
    or-false false = refl

    or-true : (b : Bool) → (b || true) ≡ true
    or-true true = refl
    or-true false = refl

    there : has list x ≡ true → (same : Bool) → nat_eq x n ≡ same → has list n ≡ (has list n || same)
    there e true same = ap (has list) (sym (eqb-true x n same)) ∙ (e ∙ sym (or-true (has list n)))
    there e false same = sym (or-false (has list n))

    by_test : (test : Bool) → has list x ≡ test → has (cond test list (list ++ x ∷ [])) n ≡ (has list n || nat_eq x n)
    by_test true e = there e (nat_eq x n) refl
    by_test false e = has-append list (x ∷ []) n ∙ ap (λ b. has list n || b) (or-false (nat_eq x n))

or-assoc : (a b c : Bool) → ((a || b) || c) ≡ (a || (b || c))
or-assoc true b c = refl
or-assoc false b c = refl

pub here : {A : Type 0} (xs : List A) (i : ℕ) (x : A) → i < length xs → get_or xs i x ≡ x → drop i xs ≡ x ∷ drop (i + 1) xs
here xs i x low is = drop-cons xs i x low ∙ ap₂ (λ y k. y ∷ drop k xs) is (let e : suc i ≡ i + 1 = omega arith in e)

pub here-at : {A : Type 0} (xs : List A) (i : ℕ) (d : A) → i < length xs → drop i xs ≡ get_or xs i d ∷ drop (i + 1) xs
here-at xs i d low = drop-cons xs i d low ∙ ap (λ k. get_or xs i d ∷ drop k xs) (let e : suc i ≡ i + 1 = omega arith in e)

-- one output more is put in
pub put-turn : (own new : List ℕ) (x : ℕ) (left next : List ℕ) (all : ℕ → Bool) → new ≡ with_object own x → left ≡ x ∷ next → ((n : ℕ) → (has own n || has left n) ≡ all n) → (n : ℕ) →
    (has new n || has next n) ≡ all n
put-turn own new x left next all is split before n =
    ap (λ l. has l n || has next n) is ∙ (ap (λ b. b || has next n) (has-with own x n) ∙ (or-assoc (has own n) (nat_eq x n) (has next n) ∙ (ap (λ l. has own n || has l n) (sym split) ∙ before n)))

-- The outputs of a node

nth-up : (f : ℕ → List plain.NodeOutput) (start count k : ℕ) → k < count → slice_get (map f (up_from start count)) k ≡ Some (f (start + k))
nth-up f start zero k low = absurd (omega (arith, low))
nth-up f start (suc count) zero low = ap (λ n. Some (f n)) (let e : start ≡ start + 0 = omega arith in e)
nth-up f start (suc count) (suc k) low = nth-up f (start + 1) count k (omega (arith, low)) ∙ ap (λ n. Some (f n)) (let e : start + 1 + k ≡ start + suc k = omega arith in e)

seen-at : (lists : List (Vec NodeOutput Global)) (k : ℕ) (d : Vec NodeOutput Global) → k < length lists → slice_get (output_lists lists) k ≡ Some (outputs_seen (get_or lists k d))
seen-at [] k d low = absurd (omega (arith, low))
seen-at (list ∷ lists) zero d low = refl
seen-at (list ∷ lists) (suc k) d low = seen-at lists k d (omega (arith, low))

none-at : (lists : List (Vec NodeOutput Global)) (k : ℕ) → length lists ≤ k → slice_get (output_lists lists) k ≡ None
none-at [] k past = refl
none-at (list ∷ lists) zero past = absurd (omega (arith, past))
none-at (list ∷ lists) (suc k) past = none-at lists k (omega (arith, past))

nth : (objects : List HeldObject) (count k : ℕ) (all : List (List plain.NodeOutput)) → all ≡ map (plain.outputs_of objects) (up_from 0 count) → k < count →
    slice_get all k ≡ Some (plain.outputs_of objects k)
nth objects count k all is low =
    ap (λ l. slice_get l k) is ∙ (nth-up (plain.outputs_of objects) 0 count k low ∙ ap (λ n. Some (plain.outputs_of objects n)) (let e : 0 + k ≡ k = omega arith in e))

pub outputs-are : (lists : List (Vec NodeOutput Global)) (k : ℕ) (own : Vec NodeOutput Global) (objects : List HeldObject) (count : ℕ) → k < length lists → own ≡ get_or lists k own →
    output_lists lists ≡ map (plain.outputs_of objects) (up_from 0 count) → k < count → outputs_seen own ≡ plain.outputs_of objects k
outputs-are lists k own objects count there at all low =
    let same : Some (outputs_seen own) ≡ Some (plain.outputs_of objects k) = ap (λ l. Some (outputs_seen l)) at
    ∙ (sym (seen-at lists k own there) ∙ nth objects count k (output_lists lists) all low) in
    cc

pub outputs-there : (lists : List (Vec NodeOutput Global)) (k : ℕ) (objects : List HeldObject) (count : ℕ) → length lists ≤ k →
    output_lists lists ≡ map (plain.outputs_of objects) (up_from 0 count) → k < count → ⊥
outputs-there lists k objects count past all low =
    let same : None ≡ Some (plain.outputs_of objects k) = sym (none-at lists k past) ∙ nth objects count k (output_lists lists) all low in
    absurd (cc)

-- one element more is pushed
pub push-turn : {A : Type 0} (made more : List A) (x : A) (left next all : List A) → more ≡ made ++ x ∷ [] → left ≡ x ∷ next → made ++ left ≡ all → more ++ next ≡ all
push-turn made more x left next all is split before = ap (λ l. l ++ next) is ∙ (append_assoc made (x ∷ []) next ∙ (ap (λ l. made ++ l) (sym split) ∙ before))
