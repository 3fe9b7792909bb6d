use Rattle.std.specs.Prelude.{◌≡◌, refl, false, [], ◌∷◌, Some, None, Err, codes}
use Rattle.four_value.specs.Values.{bits_of}
use Rattle.v_tree.specs.declared.token.NumberForm.TheVariants.{Plain}
use Rattle.v_tree.specs.Trees.{Number, Selected, NoIndex, ParameterItem, WireItem, PlainHeads, SourceUnit}
use Rattle.v_elab.specs.declared.Mode.TheVariants.{Usual}
use Rattle.v_names.specs.Faults.{NoConstant}
use Rattle.v_elab.specs.Flat.{flat}
use Rattle.elab_examples.specs.Build.{at, faulty}

-- module top;
-- parameter A = B, B = A, C = A;
-- wire [C:0] w;
-- endmodule
abbrev source : SourceUnit
source = record {
  modules = (record {
    name = (codes "top");
    place = (at 1 8);
    parameters = ([]);
    heads = (PlainHeads ([]));
    items =
        ((ParameterItem (record {
          place = (at 2 1);
          is_local = false;
          signed = false;
          range = None;
          parameters = (record { name = (codes "A"); place = (at 2 11); value = (Selected (at 2 15) (codes "B") NoIndex) } ∷
              record { name = (codes "B"); place = (at 2 18); value = (Selected (at 2 22) (codes "A") NoIndex) } ∷
              record { name = (codes "C"); place = (at 2 25); value = (Selected (at 2 29) (codes "A") NoIndex) } ∷ []);
        })) ∷
        (WireItem (at 3 1) false (Some (record { place = (at 3 6); high = (Selected (at 3 7) (codes "C") NoIndex); low = (Number (at 3 9) Plain (bits_of 32 0)) }))
        (record { name = (codes "w"); place = (at 3 12); value = None } ∷ [])) ∷
        []);
  } ∷ []);
}

abbrev pub Found : Type 0
Found = flat source (codes "top") Usual ≡ Err (faulty 2 15 NoConstant)

found : Found
found = refl

-- what the definitions give of the texts above
abbrev pub Holds : Type 0
Holds = Found

pub holds : Holds
holds = found
