-- Words on lists and tests that the proofs share.
use Rattle.std.proofs.Common.{◌≡◌, ◌≢◌, ℕ, zero, suc, ◌<◌, Bool, true, false, not, ◌||◌, ◌&&◌, List, [], ◌∷◌, map, length, get_or, refl, sym, ap, subst, ◌∙◌, arith, inl, inr}
use Rattle.std.specs.Prelude.{nat_eq, Some, slice_get}
use Rattle.std.specs.List.{list_any}
use Rattle.std.proofs.lemmas.Bool.{eq-eqb, eqb-false, cases_lt, or_left, or_right}
use Rattle.std.proofs.lemmas.List.{get_or-set_other, get_or-map, get_or_past, length-map, ext_get_or}
use Rattle.vf_base.specs.Lists.{has, change_at}
use Rattle.four_value.specs.Values.{LogicValue, same_value}
use Rattle.four_value.specs.ValueLaws.{same_value-refl}
use Rattle.v_design.specs.Designs.{FlatObject, FlatNode, Machine}
use Rattle.v_design.specs.Assignments.{value_at, with_outputs}
use Rattle.v_design.specs.Laws.{HaveWidths}
use Rattle.order_laws.specs.NodesRest.{HasWidths}
use Rattle.node_eval.specs.ValuesOf.{AreValuesOf}
use Rattle.net_state.specs.HeldLaws.{set-change}

pub neither : (b c : Bool) → (b || c) ≡ false → (b ≡ false) × (c ≡ false)
neither true c e = cc
neither false c e = (refl, e)

pub both-false : (b c : Bool) → b ≡ false → c ≡ false → (b || c) ≡ false
both-false true c e f = cc
both-false false c e f = f

pub and-not_self : (b : Bool) → (b && not b) ≡ false
and-not_self true = refl
and-not_self false = refl

-- Values that are put in

changed-elsewhere : (values : List LogicValue) (object x : ℕ) (value : LogicValue) → object ≢ x → value_at (change_at values object (λ old. value)) x ≡ value_at values x
changed-elsewhere values object x value other =
    ap (λ vs. value_at vs x) (sym (set-change values object value)) ∙ get_or-set_other values object x value [] (λ e. other (sym e))

-- all other objects hold what they held
pub outputs-elsewhere : (objects : List ℕ) (outputs values : List LogicValue) (x : ℕ) → has objects x ≡ false → value_at (with_outputs objects outputs values) x ≡ value_at values x
outputs-elsewhere [] outputs values x h = refl
outputs-elsewhere (object ∷ objects) [] values x h = refl
outputs-elsewhere (object ∷ objects) (value ∷ outputs) values x h =
    let apart = neither (nat_eq object x) (has objects x) h in
    outputs-elsewhere objects outputs (change_at values object (λ old. value)) x apart.1 ∙ changed-elsewhere values object x value (eqb-false object x apart.0)

pub map-agree : (one other : List LogicValue) (xs : List ℕ) → ((x : ℕ) → has xs x ≡ true → value_at one x ≡ value_at other x) → map (value_at one) xs ≡ map (value_at other) xs
map-agree one other [] h = refl
map-agree one other (x ∷ xs) h =
    λ i. h x (or_left (nat_eq x x) (has xs x) (eq-eqb x x refl)) i ∷ map-agree one other xs (λ y e. h y (or_right (nat_eq x y) (has xs y) e)) i

pub none-differs : (one other : List LogicValue) (xs : List ℕ) → ((x : ℕ) → has xs x ≡ true → value_at other x ≡ value_at one x) →
    list_any (λ object. not (same_value (value_at one object) (value_at other object))) xs ≡ false
none-differs one other [] h = refl
none-differs one other (x ∷ xs) h =
    both-false (not (same_value (value_at one x) (value_at other x))) (list_any (λ object. not (same_value (value_at one object) (value_at other object))) xs)
    (ap not (ap (same_value (value_at one x)) (h x (or_left (nat_eq x x) (has xs x) (eq-eqb x x refl))) ∙ same_value-refl (value_at one x)))
    (none-differs one other xs (λ y e. h y (or_right (nat_eq x y) (has xs y) e)))

-- no node of those that don't drive an object has it as an output
pub undriven-node : (nodes : List FlatNode) (number : ℕ) (node : FlatNode) (object : ℕ) → list_any (λ (n : FlatNode). has n.outputs object) nodes ≡ false → slice_get nodes number ≡ Some node →
    has node.outputs object ≡ false
undriven-node [] number node object h e = cc
undriven-node (n ∷ nodes) zero node object h e =
    let same : n ≡ node = cc in
    subst (λ (m : FlatNode). has m.outputs object ≡ false) same (neither (has n.outputs object) (list_any (λ (m : FlatNode). has m.outputs object) nodes) h).0
undriven-node (n ∷ nodes) (suc number) node object h e =
    undriven-node nodes number node object (neither (has n.outputs object) (list_any (λ (m : FlatNode). has m.outputs object) nodes) h).1 e

-- Widths

pub are-from : (machine : Machine) (values : List LogicValue) → HaveWidths machine values → AreValuesOf machine.design values
are-from machine values widths = record {
  count =
      sym (length-map values (λ (v : LogicValue). length v)) ∙ ap length widths ∙ length-map machine.design.objects (λ (o : FlatObject). o.width);
  widths = λ object low. sym (get_or-map (λ (v : LogicValue). length v) values object [] 0 low) ∙ ap (λ l. get_or l object 0) widths;
}

pub are-to : (machine : Machine) (values : List LogicValue) → AreValuesOf machine.design values → HaveWidths machine values
are-to machine values are =
    let one : length (map (λ (v : LogicValue). length v) values) ≡ length values = length-map values (λ (v : LogicValue). length v) in
    let other : length (map (λ (o : FlatObject). o.width) machine.design.objects) ≡ length machine.design.objects = length-map machine.design.objects (λ (o : FlatObject). o.width) in
    let count : length values ≡ length machine.design.objects = are.count in
    ext_get_or 0 (map (λ (v : LogicValue). length v) values) (map (λ (o : FlatObject). o.width) machine.design.objects) (omega arith)
    (λ k within. (let low : k < length values = omega arith in get_or-map (λ (v : LogicValue). length v) values k [] 0 low ∙ are.widths k low))

pub has-widths : (machine : Machine) (values : List LogicValue) → AreValuesOf machine.design values → HasWidths machine values
has-widths machine values are object =
    let other : length (map (λ (o : FlatObject). o.width) machine.design.objects) ≡ length machine.design.objects = length-map machine.design.objects (λ (o : FlatObject). o.width) in
    let count : length values ≡ length machine.design.objects = are.count in
    elim (cases_lt object (length values)) [
      | inl low ↦ are.widths object low
      | inr past ↦ ap length (get_or_past values object [] past) ∙ sym (get_or_past (map (λ (o : FlatObject). o.width) machine.design.objects) object 0 (omega arith))
    ]
