-- Laws on what the objects hold first (nothing of the language).
use Rattle.std.proofs.Common.{◌≡◌, ℕ, zero, suc, ◌+◌, ◌<◌, ◌≤◌, List, [], ◌∷◌, ◌++◌, map, length, get_or, take, drop, refl, ap, sym, subst, ◌∙◌, arith}
use Rattle.std.specs.Prelude.{Some, slice_get}
use Rattle.std.proofs.lemmas.List.{take_more, length-take-le, get_or-map}
use Rattle.v_design.specs.declared.plan.Object.{Object}
use Rattle.v_design.specs.Plain.{object_of}
use Rattle.four_value.specs.Values.{LogicValue}
use Rattle.vf_base.specs.Lists.{map_numbered, AllHold}
use Rattle.v_design.specs.Designs.{FlatObject, FlatNode, Machine, forced_variable}
use Rattle.v_design.specs.Assignments.{value_at, first_contents, with_outputs, node_outputs, settled_from}
use Rattle.v_design.specs.WellFormed.{KeepsRules, IsSizedObject}
use Rattle.node_eval.specs.ValuesOf.{AreValuesOf}
use Rattle.net_state.specs.OutputLaws.{length-forced_variable}

map_numbered-push : {A B : Type 0} (f : ℕ → A → B) (n : ℕ) (xs : List A) (x : A) → map_numbered f n (xs ++ x ∷ []) ≡ map_numbered f n xs ++ f (n + length xs) x ∷ []
map_numbered-push f n [] x = ap (λ m. f m x ∷ []) (let e : n ≡ n + 0 = omega arith in e)
map_numbered-push f n (y ∷ xs) x =
    ap (λ l. f n y ∷ l) (map_numbered-push f (n + 1) xs x ∙ ap (λ m. map_numbered f (n + 1) xs ++ f m x ∷ []) (let e : n + 1 + length xs ≡ n + suc (length xs) = omega arith in e))

-- one element more
pub map_numbered-more : {A B : Type 0} (f : ℕ → A → B) (xs : List A) (i : ℕ) (x : A) → i < length xs → get_or xs i x ≡ x →
    map_numbered f 0 (take (i + 1) xs) ≡ map_numbered f 0 (take i xs) ++ f i x ∷ []
map_numbered-more f xs i x low is =
    ap (map_numbered f 0) (take_more xs i x low ∙ ap (λ y. take i xs ++ y ∷ []) is)
    ∙ map_numbered-push f 0 (take i xs) x
    ∙ ap (λ m. map_numbered f 0 (take i xs) ++ f m x ∷ []) (let e : 0 + length (take i xs) ≡ i = omega (arith, length-take-le i xs (omega (arith, low))) in e)

-- an object of the code's list, read through a slice
pub object-in : (objects list : List Object) (k : ℕ) (o : Object) → list ≡ objects → k < length list → o ≡ get_or list k o → get_or (map object_of objects) k (object_of o) ≡ object_of o
object-in objects list k o same low is =
    subst (λ l. get_or (map object_of l) k (object_of o) ≡ object_of o) same (get_or-map object_of list k o (object_of o) low ∙ ap object_of (sym is))

first-widths : (f : ℕ → LogicValue → LogicValue) (n : ℕ) (objects : List FlatObject) → ((object : ℕ) (value : LogicValue) → length (f object value) ≡ length value) → AllHold IsSizedObject objects →
    (k : ℕ) → k < length objects → length (value_at (map_numbered (λ number (object : FlatObject). f number object.first) n objects) k) ≡ get_or (map (λ (o : FlatObject). o.width) objects) k 0
first-widths f n [] same sized k low = absurd (omega (arith, low))
first-widths f n (object ∷ objects) same sized zero low = same n object.first ∙ sized.0.0
first-widths f n (object ∷ objects) same sized (suc k) low = first-widths f (n + 1) objects same sized.1 k (omega (arith, low))

length-numbered : {A B : Type 0} (f : ℕ → A → B) (n : ℕ) (xs : List A) → length (map_numbered f n xs) ≡ length xs
length-numbered f n [] = refl
length-numbered f n (x ∷ xs) = ap suc (length-numbered f (n + 1) xs)

-- the first contents are values of the design's objects
pub first-values : (machine : Machine) → KeepsRules machine.design → AreValuesOf machine.design (first_contents machine)
first-values machine rules = record {
  count = length-numbered (λ number (object : FlatObject). forced_variable machine.fault number object.first) 0 machine.design.objects;
  widths = λ object low.
      first-widths (forced_variable machine.fault) 0 machine.design.objects (length-forced_variable machine.fault) rules.objects object
      (omega (arith, low, length-numbered (λ number (o : FlatObject). forced_variable machine.fault number o.first) 0 machine.design.objects));
}

-- one node of those that are left is settled
pub settled-more : (machine : Machine) (nodes : List FlatNode) (i : ℕ) (node : FlatNode) (values : List LogicValue) → slice_get nodes i ≡ Some node →
    settled_from machine i (drop i nodes) values ≡ settled_from machine (i + 1) (drop (i + 1) nodes) (with_outputs node.outputs (node_outputs machine i node values) values)
settled-more machine nodes i node values at = ap (λ l. settled_from machine i l values) (dropped nodes i node at)
  where
    dropped : (nodes : List FlatNode) (i : ℕ) (node : FlatNode) → slice_get nodes i ≡ Some node → drop i nodes ≡ node ∷ drop (i + 1) nodes
    dropped [] i node at = cc
    dropped (n ∷ nodes) zero node at = ap (λ (x : FlatNode). x ∷ nodes) (let same : n ≡ node = cc in same)
    dropped (n ∷ nodes) (suc i) node at = dropped nodes i node at ∙ ap (λ m. node ∷ drop m (n ∷ nodes)) (let e : suc (i + 1) ≡ suc i + 1 = omega arith in e)

-- none is left at the end
pub settled-all : (machine : Machine) (nodes : List FlatNode) (i : ℕ) (values : List LogicValue) → length nodes ≤ i → settled_from machine i (drop i nodes) values ≡ values
settled-all machine nodes i values past = ap (λ l. settled_from machine i l values) (none nodes i past)
  where
    none : (nodes : List FlatNode) (i : ℕ) → length nodes ≤ i → drop i nodes ≡ []
    none [] zero past = refl
    none [] (suc i) past = refl
    none (n ∷ nodes) zero past = absurd (omega (arith, past))
    none (n ∷ nodes) (suc i) past = none nodes i (omega (arith, past))
