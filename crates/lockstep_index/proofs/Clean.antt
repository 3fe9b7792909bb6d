-- Where no node has work a net has an own value only where its node is the fault's or reads an object that has one.
use Rattle.std.proofs.Common.{◌≡◌, ℕ, List, [], ◌∷◌, map, true, false, refl, sym, ap, ◌∙◌}
use Rattle.std.specs.Prelude.{Option, Some, None, is_some, slice_get}
use Rattle.four_value.specs.Values.{LogicValue}
use Rattle.vf_base.specs.Lists.{has, AllHold}
use Rattle.v_design.specs.Designs.{FlatDesign, FlatNode, StuckAt, good_machine, faulty_machine}
use Rattle.v_design.specs.Assignments.{AreSettled, value_at}
use Rattle.v_design.specs.States.{State, found_or}
use Rattle.v_design.specs.WellFormed.{KeepsRules}
use Rattle.order_laws.specs.NodesRest.{HasWidths, NodesRestOnInputs}
use Rattle.copy_laws.specs.Moves.{Within, IsWithin}
use Rattle.copy_laws.specs.Touches.{site_is_node, OtherSitesAreFree}
use Rattle.lockstep_laws.specs.Slots.{KeepsNothingSame}

-- some objects have no own value
abbrev pub NoneDiffers : Within → List ℕ → Type 0
NoneDiffers d objects = AllHold (λ object. is_some (d.values object) ≡ false) objects

-- a node's outputs have none where it isn't the fault's and reads no object that has one
abbrev pub CleanNode : FlatDesign → StuckAt → Within → ℕ → FlatNode → Type 0
CleanNode design fault d number node =
    site_is_node fault.site number ≡ false → ((input : ℕ) → has node.inputs input ≡ true → is_some (d.values input) ≡ false) → NoneDiffers d node.outputs

same-none : (d : Within) (good faulty : State) → IsWithin d good faulty → KeepsNothingSame d good → (object : ℕ) → value_at faulty.values object ≡ value_at good.values object →
    is_some (d.values object) ≡ false
same-none d good faulty within differ object same = go (d.values object) refl
  where
    go : (own : Option LogicValue) → d.values object ≡ own → is_some own ≡ false
    go None is = refl
    go (Some own) is = absurd (differ.values object own is (sym (within.values object ∙ ap (found_or (value_at good.values object)) is) ∙ same))

first-value : (one other : LogicValue) (rest more : List LogicValue) → (one ∷ rest) ≡ (other ∷ more) → one ≡ other
first-value one other rest more e = cc

other-values : (one other : LogicValue) (rest more : List LogicValue) → (one ∷ rest) ≡ (other ∷ more) → rest ≡ more
other-values one other rest more e = cc

none-differs : (d : Within) (good faulty : State) → IsWithin d good faulty → KeepsNothingSame d good → (objects : List ℕ) →
    map (value_at faulty.values) objects ≡ map (value_at good.values) objects → NoneDiffers d objects
none-differs d good faulty within differ [] e = tt
none-differs d good faulty within differ (object ∷ objects) e = (
  same-none d good faulty within differ object
      (first-value (value_at faulty.values object) (value_at good.values object) (map (value_at faulty.values) objects) (map (value_at good.values) objects) e),
  none-differs d good faulty within differ objects
      (other-values (value_at faulty.values object) (value_at good.values object) (map (value_at faulty.values) objects) (map (value_at good.values) objects) e),
)

none-own : (own : Option LogicValue) (good : LogicValue) → is_some own ≡ false → found_or good own ≡ good
none-own None good e = refl
none-own (Some x) good e = cc

pub clean-node : NodesRestOnInputs → OtherSitesAreFree → (design : FlatDesign) (fault : StuckAt) → KeepsRules design → (d : Within) (good faulty : State) → IsWithin d good faulty →
    KeepsNothingSame d good → HasWidths (good_machine design) good.values → HasWidths (faulty_machine design fault) faulty.values → AreSettled (good_machine design) good.values →
    AreSettled (faulty_machine design fault) faulty.values → (number : ℕ) (node : FlatNode) → slice_get design.nodes number ≡ Some node → CleanNode design fault d number node
clean-node rest sites design fault rules d good faulty within differ good_wide own_wide good_settled own_settled number node here other inputs =
    none-differs d good faulty within differ node.outputs
    (own_settled number node here
    ∙ rest (faulty_machine design fault) number node faulty.values good.values rules here own_wide good_wide
    (λ input h. within.values input ∙ none-own (d.values input) (value_at good.values input) (inputs input h))
    ∙ sym (sites.nodes design fault number node good.values other)
    ∙ sym (good_settled number node here))
