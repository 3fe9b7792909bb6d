-- What a write leaves of the other values and of the nodes that don't read it.
use Rattle.std.proofs.Common.{◌≡◌, ℕ, zero, suc, List, [], ◌∷◌, Bool, true, false, not, ◌&&◌, ◌||◌, refl, sym, ap, ◌∙◌, inl, inr}
use Rattle.std.specs.Prelude.{◌≢◌, Option, Some, None, slice_get, nat_eq}
use Rattle.std.proofs.lemmas.Bool.{eqb-true, eq-eqb}
use Rattle.vf_base.specs.Lists.{has, change_at, zip_with}
use Rattle.four_value.specs.Values.{LogicValue, same_value}
use Rattle.four_value.specs.Bits.{same_bit}
use Rattle.v_design.specs.Designs.{FlatNode, Machine}
use Rattle.v_design.specs.Assignments.{value_at}
use Rattle.v_design.specs.States.{State, NodeState, found_or, idle_node, node_at, has_work, some_in, marked_by, with_value, with_values, with_node}
use Rattle.four_value.specs.declared.logic.Bit.{Bit}
use Rattle.four_value.specs.declared.logic.Bit.TheVariants.{Zero, One, X, Z}
use Rattle.order_laws.proofs.ListLaws.{slice_get-change_at, get_or-change_at}
use Rattle.order_laws.proofs.PathLaws.{decided, true-false, has-self, or-second, or-neither}

-- Equal values

same_bit-true : (a b : Bit) → same_bit a b ≡ true → a ≡ b
same_bit-true Zero Zero e = refl
same_bit-true Zero One e = cc
same_bit-true Zero X e = cc
same_bit-true Zero Z e = cc
same_bit-true One Zero e = cc
same_bit-true One One e = refl
same_bit-true One X e = cc
same_bit-true One Z e = cc
same_bit-true X Zero e = cc
same_bit-true X One e = cc
same_bit-true X X e = refl
same_bit-true X Z e = cc
same_bit-true Z Zero e = cc
same_bit-true Z One e = cc
same_bit-true Z X e = cc
same_bit-true Z Z e = refl

and-both : (b c : Bool) → (b && c) ≡ true → (b ≡ true) × (c ≡ true)
and-both true c e = (refl, e)
and-both false c e = cc

pub same_value-true : (a b : LogicValue) → same_value a b ≡ true → a ≡ b
same_value-true [] [] e = refl
same_value-true [] (y ∷ b) e = cc
same_value-true (x ∷ a) [] e = cc
same_value-true (x ∷ a) (y ∷ b) e = λ i. same_bit-true x y (and-both (same_bit x y) (same_value a b) e).0 i ∷ same_value-true a b (and-both (same_bit x y) (same_value a b) e).1 i

same_bit-self : (a : Bit) → same_bit a a ≡ true
same_bit-self Zero = refl
same_bit-self One = refl
same_bit-self X = refl
same_bit-self Z = refl

pub same_value-self : (a : LogicValue) → same_value a a ≡ true
same_value-self [] = refl
same_value-self (x ∷ a) = ap (λ b. b && same_value a a) (same_bit-self x) ∙ same_value-self a

-- Values

pub other_number : (n m : ℕ) → nat_eq n m ≡ false → n ≢ m
other_number n m h e = true-false (nat_eq n m) (eq-eqb n m e) h

pub number_other : (n m : ℕ) → n ≢ m → nat_eq n m ≡ false
number_other n m d = elim (decided (nat_eq n m)) [ inl same ↦ absurd (d (eqb-true n m same)) | inr other ↦ other ]

-- an object gets the value that it has
pub put-same : (values : List LogicValue) (object : ℕ) (new : LogicValue) → new ≡ value_at values object → (x : ℕ) → value_at (change_at values object (λ old. new)) x ≡ value_at values x
put-same [] object new e x = refl
put-same (v ∷ values) zero new e zero = e
put-same (v ∷ values) zero new e (suc x) = refl
put-same (v ∷ values) (suc object) new e zero = refl
put-same (v ∷ values) (suc object) new e (suc x) = put-same values object new e x

-- a write that changes nothing leaves all values
pub value-unchanged : (machine : Machine) (object : ℕ) (new : LogicValue) (state : State) → same_value (value_at state.values object) new ≡ true → (x : ℕ) →
    value_at (with_value machine object new state).values x ≡ value_at state.values x
value-unchanged machine object new state e x = put-same state.values object new (sym (same_value-true (value_at state.values object) new e)) x

pub value-other : (machine : Machine) (object : ℕ) (new : LogicValue) (state : State) (x : ℕ) → object ≢ x → value_at (with_value machine object new state).values x ≡ value_at state.values x
value-other machine object new state x d = get_or-change_at state.values object x (λ old. new) [] d

pub values-other : (machine : Machine) (objects : List ℕ) (values : List LogicValue) (state : State) (x : ℕ) → has objects x ≡ false →
    value_at (with_values machine objects values state).values x ≡ value_at state.values x
values-other machine [] values state x h = refl
values-other machine (object ∷ objects) [] state x h = refl
values-other machine (object ∷ objects) (value ∷ values) state x h =
    let apart : (nat_eq object x ≡ false) × (has objects x ≡ false) = or-neither (nat_eq object x) (has objects x) h in
    values-other machine objects values (with_value machine object value state) x apart.1
    ∙ value-other machine object value state x (other_number object x apart.0)

-- Nodes

abbrev pub mapped : {A B : Type 0} → (A → B) → Option A → Option B
mapped f None = None
mapped f (Some x) = Some (f x)

pub zip-slice : {A B C : Type 0} (f : A → B → C) (xs : List A) (ys : List B) (number : ℕ) (x : A) → slice_get xs number ≡ Some x →
    slice_get (zip_with f xs ys) number ≡ mapped (f x) (slice_get ys number)
zip-slice f [] ys number x e = cc
zip-slice f (a ∷ xs) [] number x e = refl
zip-slice f (a ∷ xs) (b ∷ ys) zero x e = ap (λ o. mapped (λ g. g b) (mapped f o)) e
zip-slice f (a ∷ xs) (b ∷ ys) (suc number) x e = zip-slice f xs ys number x e

or-nothing : (b c : Bool) → c ≡ false → (b || c) ≡ b
or-nothing true c e = refl
or-nothing false c e = e

untouched : (object : ℕ) (changed : Bool) (node : FlatNode) → (changed && has node.inputs object) ≡ false → (found : Option NodeState) →
    found_or idle_node (mapped (marked_by object changed node) found) ≡ found_or idle_node found
untouched object changed node h None = refl
untouched object changed node h (Some state) = λ i. record { marked = or-nothing state.marked (changed && has node.inputs object) h i; pending = state.pending }

-- a write of an object that a node doesn't read, or one that changes nothing, leaves the node
pub node-untouched : (machine : Machine) (object : ℕ) (new : LogicValue) (state : State) (number : ℕ) (node : FlatNode) → slice_get machine.design.nodes number ≡ Some node →
    (not (same_value (value_at state.values object) new) && has node.inputs object) ≡ false → node_at (with_value machine object new state) number ≡ node_at state number
node-untouched machine object new state number node e h =
    ap (found_or idle_node) (zip-slice (marked_by object (not (same_value (value_at state.values object) new))) machine.design.nodes state.nodes number node e)
    ∙ untouched object (not (same_value (value_at state.values object) new)) node h (slice_get state.nodes number)

and-second : (b c : Bool) → c ≡ false → (b && c) ≡ false
and-second true c e = e
and-second false c e = refl

pub node-values-untouched : (machine : Machine) (objects : List ℕ) (values : List LogicValue) (state : State) (number : ℕ) (node : FlatNode) → slice_get machine.design.nodes number ≡ Some node →
    ((x : ℕ) → has objects x ≡ true → has node.inputs x ≡ false) → node_at (with_values machine objects values state) number ≡ node_at state number
node-values-untouched machine [] values state number node e h = refl
node-values-untouched machine (object ∷ objects) [] state number node e h = refl
node-values-untouched machine (object ∷ objects) (value ∷ values) state number node e h =
    node-values-untouched machine objects values (with_value machine object value state) number node e (λ x i. h x (or-second (nat_eq object x) (has objects x) i))
    ∙ node-untouched machine object value state number node e (and-second (not (same_value (value_at state.values object) value)) (has node.inputs object) (h object (has-self object objects)))

pub node-other : (state : State) (number other : ℕ) (change : NodeState → NodeState) → other ≢ number → node_at (with_node other change state) number ≡ node_at state number
node-other state number other change d = ap (found_or idle_node) (slice_get-change_at state.nodes other number change d)

-- where no node has work, none has
pub all_idle : (nodes : List NodeState) → some_in has_work nodes ≡ false → (number : ℕ) → has_work (found_or idle_node (slice_get nodes number)) ≡ false
all_idle [] h number = refl
all_idle (node ∷ nodes) h zero = (or-neither (has_work node) (some_in has_work nodes) h).0
all_idle (node ∷ nodes) h (suc number) = all_idle nodes (or-neither (has_work node) (some_in has_work nodes) h).1 number
