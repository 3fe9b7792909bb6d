use Rattle.std.specs.Prelude.{◌≡◌, refl, false, [], ◌∷◌, Some, None, Err, codes}
use Rattle.four_value.specs.Values.{bits_of}
use Rattle.v_tree.specs.declared.token.NumberForm.TheVariants.{Plain, Sized}
use Rattle.v_tree.specs.Trees.{Number, Selected, NoIndex, IndexAt, OneSelect, WireItem, AssignItem, PlainHeads, SourceUnit}
use Rattle.v_elab.specs.declared.Mode.TheVariants.{Usual}
use Rattle.v_elab.specs.Refusals.{TwoDrivers}
use Rattle.v_elab.specs.Flat.{flat}
use Rattle.elab_examples.specs.Build.{at}

-- module top;
-- wire [1:0] w; wire a;
-- assign w[0] = a; assign w = 2'b01;
-- endmodule
abbrev source : SourceUnit
source = record {
  modules = (record {
    name = (codes "top");
    place = (at 1 8);
    parameters = ([]);
    heads = (PlainHeads ([]));
    items =
        ((WireItem (at 2 1) false (Some (record { place = (at 2 6); high = (Number (at 2 7) Plain (bits_of 32 1)); low = (Number (at 2 9) Plain (bits_of 32 0)) }))
        (record { name = (codes "w"); place = (at 2 12); value = None } ∷ [])) ∷
        (WireItem (at 2 15) false None (record { name = (codes "a"); place = (at 2 20); value = None } ∷ [])) ∷
        (AssignItem (at 3 1) (record {
          target = (OneSelect (record { place = (at 3 8); name = (codes "w"); index = (IndexAt (Number (at 3 10) Plain (bits_of 32 0))) }));
          value = (Selected (at 3 15) (codes "a") NoIndex);
        } ∷ [])) ∷
        (AssignItem (at 3 18) (record { target = (OneSelect (record { place = (at 3 25); name = (codes "w"); index = NoIndex })); value = (Number (at 3 29) Sized (bits_of 2 1)) } ∷ [])) ∷
        []);
  } ∷ []);
}

abbrev pub Found : Type 0
Found = flat source (codes "top") Usual ≡ Err (TwoDrivers (at 3 25) 0)

found : Found
found = refl

-- what the definitions give of the texts above
abbrev pub Holds : Type 0
Holds = Found

pub holds : Holds
holds = found
