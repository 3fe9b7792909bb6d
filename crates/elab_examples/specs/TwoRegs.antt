use Rattle.std.specs.Prelude.{◌≡◌, refl, true, false, [], ◌∷◌, Some, None, Err, codes}
use Rattle.four_value.specs.Values.{bits_of}
use Rattle.v_tree.specs.declared.token.NumberForm.TheVariants.{Plain}
use Rattle.v_tree.specs.declared.item.Direction.TheVariants.{Output}
use Rattle.v_tree.specs.Trees.{Number, Selected, NoIndex, OneSelect, BlockingStatement, NoContent, RegItem, InstanceItem, InitialItem, PlainHeads, DeclaredHeads, SourceUnit}
use Rattle.v_elab.specs.declared.Mode.TheVariants.{Usual}
use Rattle.v_elab.specs.Refusals.{TwoDrivers}
use Rattle.v_elab.specs.Flat.{flat}
use Rattle.elab_examples.specs.Build.{at}

-- module s(output reg y);
-- initial y = 1;
-- endmodule
-- module top;
-- reg y;
-- s i(.y(y));
-- endmodule
abbrev source : SourceUnit
source = record {
  modules = (record {
    name = (codes "s");
    place = (at 1 8);
    parameters = ([]);
    heads = (DeclaredHeads (record { place = (at 1 10); direction = Output; is_reg = true; signed = false; range = None; names = (record { name = (codes "y"); place = (at 1 21) } ∷ []) } ∷ []));
    items =
        ((InitialItem (at 2 1) (BlockingStatement (at 2 9) (OneSelect (record { place = (at 2 9); name = (codes "y"); index = NoIndex })) None (Number (at 2 13) Plain (bits_of 32 1)))) ∷
        []);
  } ∷ record {
    name = (codes "top");
    place = (at 4 8);
    parameters = ([]);
    heads = (PlainHeads ([]));
    items =
        ((RegItem (at 5 1) false None (record { name = (codes "y"); place = (at 5 5); content = NoContent } ∷ [])) ∷
        (InstanceItem (at 6 1) (codes "s") ([]) (record {
          name = (codes "i");
          place = (at 6 3);
          connections = (record { name = (Some (codes "y")); place = (at 6 6); actual = (Some (Selected (at 6 8) (codes "y") NoIndex)) } ∷ []);
        } ∷ [])) ∷
        []);
  } ∷ []);
}

abbrev pub Found : Type 0
Found = flat source (codes "top") Usual ≡ Err (TwoDrivers (at 6 8) 0)

found : Found
found = refl

-- what the definitions give of the texts above
abbrev pub Holds : Type 0
Holds = Found

pub holds : Holds
holds = found
