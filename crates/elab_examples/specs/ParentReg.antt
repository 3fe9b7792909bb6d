use Rattle.std.specs.Prelude.{◌≡◌, refl, true, false, [], ◌∷◌, Some, None, Err, codes}
use Rattle.four_value.specs.Values.{bits_of}
use Rattle.four_value.specs.declared.operator.UnaryOperator.TheVariants.{BitwiseNot}
use Rattle.v_tree.specs.declared.token.NumberForm.TheVariants.{Plain}
use Rattle.v_tree.specs.declared.item.Direction.TheVariants.{Input, Output}
use Rattle.v_tree.specs.Trees.{Number, Selected, Prefixed, NoIndex, OneSelect, OnAnyRead, EventStatement, BlockingStatement, NoContent, FirstContent, RegItem, InstanceItem, AlwaysItem, PlainHeads}
use Rattle.v_tree.specs.Trees.{DeclaredHeads, SourceUnit}
use Rattle.v_elab.specs.declared.Mode.TheVariants.{Usual}
use Rattle.v_elab.specs.Refusals.{TwoDrivers}
use Rattle.v_elab.specs.Flat.{flat}
use Rattle.elab_examples.specs.Build.{at}

-- module s(input a, output reg y);
-- always @* y = ~a;
-- endmodule
-- module top;
-- reg a = 0, y;
-- s i(a, y);
-- endmodule
abbrev source : SourceUnit
source = record {
  modules = (record {
    name = (codes "s");
    place = (at 1 8);
    parameters = ([]);
    heads = (DeclaredHeads (record { place = (at 1 10); direction = Input; is_reg = false; signed = false; range = None; names = (record { name = (codes "a"); place = (at 1 16) } ∷ []) } ∷
        record { place = (at 1 19); direction = Output; is_reg = true; signed = false; range = None; names = (record { name = (codes "y"); place = (at 1 30) } ∷ []) } ∷ []));
    items =
        ((AlwaysItem (at 2 1) (EventStatement (at 2 8) OnAnyRead (BlockingStatement (at 2 11) (OneSelect (record { place = (at 2 11); name = (codes "y"); index = NoIndex })) None
        (Prefixed (at 2 15) BitwiseNot (Selected (at 2 16) (codes "a") NoIndex))))) ∷
        []);
  } ∷ record {
    name = (codes "top");
    place = (at 4 8);
    parameters = ([]);
    heads = (PlainHeads ([]));
    items =
        ((RegItem (at 5 1) false None (record { name = (codes "a"); place = (at 5 5); content = (FirstContent (Number (at 5 9) Plain (bits_of 32 0))) } ∷
        record { name = (codes "y"); place = (at 5 12); content = NoContent } ∷ [])) ∷
        (InstanceItem (at 6 1) (codes "s") ([]) (record {
          name = (codes "i");
          place = (at 6 3);
          connections = (record { name = None; place = (at 6 5); actual = (Some (Selected (at 6 5) (codes "a") NoIndex)) } ∷
              record { name = None; place = (at 6 8); actual = (Some (Selected (at 6 8) (codes "y") NoIndex)) } ∷ []);
        } ∷ [])) ∷
        []);
  } ∷ []);
}

abbrev pub Found : Type 0
Found = flat source (codes "top") Usual ≡ Err (TwoDrivers (at 2 11) 0)

found : Found
found = refl

-- what the definitions give of the texts above
abbrev pub Holds : Type 0
Holds = Found

pub holds : Holds
holds = found
