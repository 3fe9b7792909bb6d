-- What objects hold at the start that no node drives.
use Rattle.std.proofs.Common.{◌≡◌, ℕ, zero, suc, ◌+◌, ◌<◌, false, List, [], ◌∷◌, map, length, refl, sym, ap, ◌∙◌, arith}
use Rattle.std.specs.Prelude.{Some, None}
use Rattle.std.specs.List.{list_any}
use Rattle.vf_base.specs.Lists.{has, map_numbered}
use Rattle.four_value.specs.Values.{LogicValue}
use Rattle.v_design.specs.Designs.{FlatObject, FlatNode, FlatDesign, Machine, StuckAt, good_machine, faulty_machine, forced_variable}
use Rattle.v_design.specs.Assignments.{value_at, node_outputs, with_outputs, settled_from, first_contents, first_values}
use Rattle.v_design.specs.Laws.{is_driven}
use Rattle.start_copy.proofs.Words.{neither, outputs-elsewhere}

settled-elsewhere : (machine : Machine) (number : ℕ) (nodes : List FlatNode) (values : List LogicValue) (x : ℕ) → list_any (λ (node : FlatNode). has node.outputs x) nodes ≡ false →
    value_at (settled_from machine number nodes values) x ≡ value_at values x
settled-elsewhere machine number [] values x h = refl
settled-elsewhere machine number (node ∷ nodes) values x h =
    let apart = neither (has node.outputs x) (list_any (λ (n : FlatNode). has n.outputs x) nodes) h in
    settled-elsewhere machine (number + 1) nodes (with_outputs node.outputs (node_outputs machine number node values) values) x apart.1
    ∙ outputs-elsewhere node.outputs (node_outputs machine number node values) values x apart.0

contents-at : (f : ℕ → LogicValue → LogicValue) (n x : ℕ) (objects : List FlatObject) → x < length objects →
    value_at (map_numbered (λ number (object : FlatObject). f number object.first) n objects) x ≡ f (n + x) (value_at (map (λ (o : FlatObject). o.first) objects) x)
contents-at f n x [] low = absurd (omega (arith, low))
contents-at f n zero (object ∷ objects) low = ap (λ m. f m object.first) (let same : n ≡ n + zero = omega arith in same)
contents-at f n (suc x) (object ∷ objects) low =
    contents-at f (n + 1) x objects (omega (arith, low))
    ∙ ap (λ m. f m (value_at (map (λ (o : FlatObject). o.first) objects) x)) (let same : (n + 1) + x ≡ n + suc x = omega arith in same)

-- it is what the fault makes of what the good machine holds
pub undriven-start : (design : FlatDesign) (fault : StuckAt) (x : ℕ) → is_driven design x ≡ false → x < length design.objects →
    value_at (first_values (faulty_machine design fault)) x ≡ forced_variable (Some fault) x (value_at (first_values (good_machine design)) x)
undriven-start design fault x none low =
    let first = value_at (map (λ (o : FlatObject). o.first) design.objects) x in
    let same : 0 + x ≡ x = omega arith in
    settled-elsewhere (faulty_machine design fault) 0 design.nodes (first_contents (faulty_machine design fault)) x none
    ∙ contents-at (forced_variable (Some fault)) 0 x design.objects low
    ∙ ap (λ n. forced_variable (Some fault) n first) same
    ∙ sym
    (ap (forced_variable (Some fault) x)
    (settled-elsewhere (good_machine design) 0 design.nodes (first_contents (good_machine design)) x none ∙ contents-at (forced_variable None) 0 x design.objects low))
