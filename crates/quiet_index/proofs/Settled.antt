-- A net differs between two slots only where its node is the fault's or reads what differs.
use Rattle.std.proofs.Common.{◌≡◌, ◌≢◌, ℕ, List, [], ◌∷◌, map, Bool, true, false, refl, sym, ap, ◌∙◌}
use Rattle.std.specs.Prelude.{Option, Some, None, is_some, nat_eq, slice_get}
use Rattle.std.proofs.lemmas.Bool.{eqb-true}
use Rattle.four_value.specs.Values.{LogicValue}
use Rattle.vf_base.specs.Lists.{has, AllHold}
use Rattle.v_design.specs.Designs.{FlatDesign, FlatNode, StuckAt, good_machine, faulty_machine}
use Rattle.v_design.specs.Assignments.{AreSettled, value_at}
use Rattle.v_design.specs.States.{State, found_or}
use Rattle.v_design.specs.WellFormed.{KeepsRules}
use Rattle.order_laws.specs.NodesRest.{HasWidths, NodesRestOnInputs}
use Rattle.copy_laws.specs.Differences.{Differences, own_of, StandsFor, KeepsNothingEqual}
use Rattle.copy_laws.specs.Touches.{site_is_node, OtherSitesAreFree}
use Rattle.quiet_index.proofs.Alone.{NoneDiffers}

-- a node's outputs don't differ where it isn't the fault's and reads nothing that differs
abbrev pub CleanNode : FlatDesign → StuckAt → Differences → ℕ → FlatNode → Type 0
CleanNode design fault d number node =
    site_is_node fault.site number ≡ false → ((input : ℕ) → has node.inputs input ≡ true → is_some (own_of d.values input) ≡ false) → NoneDiffers d node.outputs

-- what is kept isn't the good value
kept-differs : (good : State) (entries : List (ℕ × LogicValue)) → AllHold (λ (entry : ℕ × LogicValue). entry.1 ≢ value_at good.values entry.0) entries → (object : ℕ) (own : LogicValue) →
    own_of entries object ≡ Some own → own ≢ value_at good.values object
kept-differs good [] all object own is = cc
kept-differs good (entry ∷ entries) all object own is = go (nat_eq entry.0 object) refl is (λ e. kept-differs good entries all.1 object own e)
  where
    some-is : (one other : LogicValue) → Some one ≡ Some other → one ≡ other
    some-is one other e = cc

    go : (b : Bool) → nat_eq entry.0 object ≡ b → elim b as (λ _. Option LogicValue) [ true ↦ Some entry.1 | false ↦ own_of entries object ] ≡ Some own →
        (own_of entries object ≡ Some own → own ≢ value_at good.values object) → own ≢ value_at good.values object
    go true at e rest = λ same. all.0 (some-is entry.1 own e ∙ same ∙ ap (value_at good.values) (sym (eqb-true entry.0 object at)))
    go false at e rest = rest e

same-none : (d : Differences) (good faulty : State) → StandsFor d good faulty → KeepsNothingEqual d good → (object : ℕ) → value_at faulty.values object ≡ value_at good.values object →
    is_some (own_of d.values object) ≡ false
same-none d good faulty stands differ object same = go (own_of d.values object) refl
  where
    go : (own : Option LogicValue) → own_of d.values object ≡ own → is_some own ≡ false
    go None is = refl
    go (Some own) is = absurd (kept-differs good d.values differ.values object own is (sym (stands.values object ∙ ap (found_or (value_at good.values object)) is) ∙ same))

first-value : (one other : LogicValue) (rest more : List LogicValue) → (one ∷ rest) ≡ (other ∷ more) → one ≡ other
first-value one other rest more e = cc

other-values : (one other : LogicValue) (rest more : List LogicValue) → (one ∷ rest) ≡ (other ∷ more) → rest ≡ more
other-values one other rest more e = cc

none-differs : (d : Differences) (good faulty : State) → StandsFor d good faulty → KeepsNothingEqual d good → (objects : List ℕ) →
    map (value_at faulty.values) objects ≡ map (value_at good.values) objects → NoneDiffers d objects
none-differs d good faulty stands differ [] e = tt
none-differs d good faulty stands differ (object ∷ objects) e = (
  same-none d good faulty stands differ object
      (first-value (value_at faulty.values object) (value_at good.values object) (map (value_at faulty.values) objects) (map (value_at good.values) objects) e),
  none-differs d good faulty stands differ objects
      (other-values (value_at faulty.values object) (value_at good.values object) (map (value_at faulty.values) objects) (map (value_at good.values) objects) e),
)

none-own : (own : Option LogicValue) (good : LogicValue) → is_some own ≡ false → found_or good own ≡ good
none-own None good e = refl
none-own (Some x) good e = cc

pub clean-node : NodesRestOnInputs → OtherSitesAreFree → (design : FlatDesign) (fault : StuckAt) → KeepsRules design → (d : Differences) (good faulty : State) → StandsFor d good faulty →
    KeepsNothingEqual d good → HasWidths (good_machine design) good.values → HasWidths (faulty_machine design fault) faulty.values → AreSettled (good_machine design) good.values →
    AreSettled (faulty_machine design fault) faulty.values → (number : ℕ) (node : FlatNode) → slice_get design.nodes number ≡ Some node → CleanNode design fault d number node
clean-node rest sites design fault rules d good faulty stands differ good_wide own_wide good_settled own_settled number node here other inputs =
    none-differs d good faulty stands differ node.outputs
    (own_settled number node here
    ∙ rest (faulty_machine design fault) number node faulty.values good.values rules here own_wide good_wide
    (λ input h. stands.values input ∙ none-own (own_of d.values input) (value_at good.values input) (inputs input h))
    ∙ sym (sites.nodes design fault number node good.values other)
    ∙ sym (good_settled number node here))
