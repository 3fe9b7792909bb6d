use Rattle.std.specs.Prelude.{◌≡◌, refl, false, [], ◌∷◌, None, Err, codes}
use Rattle.four_value.specs.declared.operator.UnaryOperator.TheVariants.{BitwiseNot}
use Rattle.v_tree.specs.Trees.{Selected, Prefixed, NoIndex, OneSelect, WireItem, AssignItem, PlainHeads, SourceUnit}
use Rattle.v_elab.specs.declared.Mode.TheVariants.{Usual}
use Rattle.v_elab.specs.Refusals.{LoopAt}
use Rattle.v_elab.specs.Flat.{flat}
use Rattle.elab_examples.specs.Build.{at}

-- module top; wire a, b; assign a = ~b; assign b = ~a; endmodule
abbrev source : SourceUnit
source = record {
  modules = (record {
    name = (codes "top");
    place = (at 1 8);
    parameters = ([]);
    heads = (PlainHeads ([]));
    items =
        ((WireItem (at 1 13) false None (record { name = (codes "a"); place = (at 1 18); value = None } ∷ record { name = (codes "b"); place = (at 1 21); value = None } ∷ [])) ∷
        (AssignItem (at 1 24) (record {
          target = (OneSelect (record { place = (at 1 31); name = (codes "a"); index = NoIndex }));
          value = (Prefixed (at 1 35) BitwiseNot (Selected (at 1 36) (codes "b") NoIndex));
        } ∷ [])) ∷
        (AssignItem (at 1 39) (record {
          target = (OneSelect (record { place = (at 1 46); name = (codes "b"); index = NoIndex }));
          value = (Prefixed (at 1 50) BitwiseNot (Selected (at 1 51) (codes "a") NoIndex));
        } ∷ [])) ∷
        []);
  } ∷ []);
}

abbrev pub Found : Type 0
Found = flat source (codes "top") Usual ≡ Err (LoopAt (at 1 18))

found : Found
found = refl

-- what the definitions give of the texts above
abbrev pub Holds : Type 0
Holds = Found

pub holds : Holds
holds = found
