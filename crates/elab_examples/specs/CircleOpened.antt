use Rattle.std.specs.Prelude.{◌≡◌, refl, false, [], ◌∷◌, Some, None, Ok, codes}
use Rattle.four_value.specs.Values.{bits_of}
use Rattle.v_design.specs.declared.logic.ObjectKind.TheVariants.{Net}
use Rattle.v_tree.specs.declared.token.NumberForm.TheVariants.{Plain}
use Rattle.v_tree.specs.declared.item.Direction.TheVariants.{Output}
use Rattle.v_tree.specs.Trees.{Number, Selected, NoIndex, ParameterItem, WireItem, InstanceItem, PlainHeads, DeclaredHeads, SourceUnit}
use Rattle.v_elab.specs.declared.Mode.TheVariants.{Usual}
use Rattle.v_elab.specs.Flat.{flat}
use Rattle.elab_examples.specs.Build.{at, summary_of}

-- module s(output [A:0] y);
-- parameter A = B, B = A;
-- endmodule
-- module top;
-- wire [2:0] y;
-- s #(2) i(y);
-- endmodule
abbrev source : SourceUnit
source = record {
  modules = (record {
    name = (codes "s");
    place = (at 1 8);
    parameters = ([]);
    heads = (DeclaredHeads (record {
      place = (at 1 10);
      direction = Output;
      is_reg = false;
      signed = false;
      range = (Some (record { place = (at 1 17); high = (Selected (at 1 18) (codes "A") NoIndex); low = (Number (at 1 20) Plain (bits_of 32 0)) }));
      names = (record { name = (codes "y"); place = (at 1 23) } ∷ []);
    } ∷ []));
    items =
        ((ParameterItem (record {
          place = (at 2 1);
          is_local = false;
          signed = false;
          range = None;
          parameters = (record { name = (codes "A"); place = (at 2 11); value = (Selected (at 2 15) (codes "B") NoIndex) } ∷
              record { name = (codes "B"); place = (at 2 18); value = (Selected (at 2 22) (codes "A") NoIndex) } ∷ []);
        })) ∷
        []);
  } ∷ record {
    name = (codes "top");
    place = (at 4 8);
    parameters = ([]);
    heads = (PlainHeads ([]));
    items =
        ((WireItem (at 5 1) false (Some (record { place = (at 5 6); high = (Number (at 5 7) Plain (bits_of 32 2)); low = (Number (at 5 9) Plain (bits_of 32 0)) }))
        (record { name = (codes "y"); place = (at 5 12); value = None } ∷ [])) ∷
        (InstanceItem (at 6 1) (codes "s") (record { name = None; place = (at 6 5); actual = (Some (Number (at 6 5) Plain (bits_of 32 2))) } ∷ [])
        (record { name = (codes "i"); place = (at 6 8); connections = (record { name = None; place = (at 6 10); actual = (Some (Selected (at 6 10) (codes "y") NoIndex)) } ∷ []) } ∷ [])) ∷
        []);
  } ∷ []);
}

abbrev pub Found : Type 0
Found = summary_of (flat source (codes "top") Usual) ≡ Ok (record {
  objects = (record { name = (codes "y"); kind = Net; width = 3; indexes = (2 ∷ 0 ∷ []); place = (at 5 12) } ∷ []);
  nodes = ([]);
  processes = ([]);
  joined = (record { name = (codes "i.y"); objects = (0 ∷ []) } ∷ []);
})

found : Found
found = refl

-- what the definitions give of the texts above
abbrev pub Holds : Type 0
Holds = Found

pub holds : Holds
holds = found
