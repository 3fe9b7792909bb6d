use Rattle.std.specs.Prelude.{◌≡◌, refl, true, false, [], ◌∷◌, Some, None, Ok, codes}
use Rattle.four_value.specs.Values.{bits_of}
use Rattle.four_value.specs.declared.operator.CaseKind.TheVariants.{Exact}
use Rattle.v_tree.specs.declared.token.NumberForm.TheVariants.{Plain}
use Rattle.v_tree.specs.Trees.{Number, Selected, NoIndex, OneSelect, OnAnyRead, EventStatement, NonblockingStatement, CaseStatement, NoContent, RegItem, AlwaysItem, PlainHeads, SourceUnit}
use Rattle.v_tree.specs.Trees.{no_source_items, labelled, otherwise, no_parts, more_parts}
use Rattle.v_elab.specs.declared.Mode.TheVariants.{Usual}
use Rattle.v_elab.specs.Flat.{flat}
use Rattle.elab_examples.specs.Build.{at, waited_for}

-- module top;
-- reg a, b, s, y;
-- always @* case (s) default: y <= b; 1: y <= a; endcase
-- endmodule
-- The wait goes on s, b and a, in the order of the text.
abbrev source : SourceUnit
source = record {
  modules = (record {
    name = (codes "top");
    place = (at 1 8);
    parameters = ([]);
    heads = (PlainHeads ([]));
    items =
        ((RegItem (at 2 1) false None (record { name = (codes "a"); place = (at 2 5); content = NoContent } ∷ record { name = (codes "b"); place = (at 2 8); content = NoContent } ∷
        record { name = (codes "s"); place = (at 2 11); content = NoContent } ∷ record { name = (codes "y"); place = (at 2 14); content = NoContent } ∷ [])) ∷
        (AlwaysItem (at 3 1) (EventStatement (at 3 8) OnAnyRead (CaseStatement (at 3 11) Exact (Selected (at 3 17) (codes "s") NoIndex)
        (otherwise (NonblockingStatement (at 3 29) (OneSelect (record { place = (at 3 29); name = (codes "y"); index = NoIndex })) None (Selected (at 3 34) (codes "b") NoIndex))
        (labelled (more_parts (Number (at 3 37) Plain (bits_of 32 1)) no_parts) (NonblockingStatement (at 3 40) (OneSelect (record { place = (at 3 40); name = (codes "y"); index = NoIndex })) None
        (Selected (at 3 45) (codes "a") NoIndex))
        no_source_items))))) ∷
        []);
  } ∷ []);
}

abbrev pub Found : Type 0
Found = waited_for (flat source (codes "top") Usual) ≡ Ok ((2 ∷ 1 ∷ 0 ∷ []) ∷ [])

found : Found
found = refl

-- what the definitions give of the text above
abbrev pub Holds : Type 0
Holds = Found

pub holds : Holds
holds = found
