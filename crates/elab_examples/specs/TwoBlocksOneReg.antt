use Rattle.std.specs.Prelude.{◌≡◌, refl, true, false, [], ◌∷◌, None, Ok, codes}
use Rattle.four_value.specs.Values.{bits_of}
use Rattle.four_value.specs.declared.logic.Edge.TheVariants.{Any}
use Rattle.v_design.specs.declared.logic.ObjectKind.TheVariants.{Var}
use Rattle.four_value.specs.declared.operator.UnaryOperator.TheVariants.{BitwiseNot}
use Rattle.v_tree.specs.declared.token.NumberForm.TheVariants.{Plain}
use Rattle.v_tree.specs.Trees.{Number, Selected, Prefixed, NoIndex, OneSelect, OnAnyRead, OnEntries, BlockStatement, IfStatement, IfElseStatement, EventStatement, BlockingStatement, NoContent}
use Rattle.v_tree.specs.Trees.{FirstContent, RegItem, AlwaysItem, PlainHeads, SourceUnit}
use Rattle.v_elab.specs.declared.Mode.TheVariants.{Usual}
use Rattle.v_elab.specs.Flat.{flat}
use Rattle.elab_examples.specs.Build.{at, steps, summary_of}

-- module top;
-- reg a = 0, b = 0, y, z;
-- always @* if (a) y = b; else y = 0;
-- always @(a or b) begin z = a; if (b) z = ~z; end
-- always @* y = a;
-- always @(a) z = b;
-- endmodule
abbrev source : SourceUnit
source = record {
  modules = (record {
    name = (codes "top");
    place = (at 1 8);
    parameters = ([]);
    heads = (PlainHeads ([]));
    items =
        ((RegItem (at 2 1) false None (record { name = (codes "a"); place = (at 2 5); content = (FirstContent (Number (at 2 9) Plain (bits_of 32 0))) } ∷
        record { name = (codes "b"); place = (at 2 12); content = (FirstContent (Number (at 2 16) Plain (bits_of 32 0))) } ∷
        record { name = (codes "y"); place = (at 2 19); content = NoContent } ∷ record { name = (codes "z"); place = (at 2 22); content = NoContent } ∷ [])) ∷
        (AlwaysItem (at 3 1) (EventStatement (at 3 8) OnAnyRead (IfElseStatement (at 3 11) (Selected (at 3 15) (codes "a") NoIndex)
        (BlockingStatement (at 3 18) (OneSelect (record { place = (at 3 18); name = (codes "y"); index = NoIndex })) None (Selected (at 3 22) (codes "b") NoIndex))
        (BlockingStatement (at 3 30) (OneSelect (record { place = (at 3 30); name = (codes "y"); index = NoIndex })) None (Number (at 3 34) Plain (bits_of 32 0)))))) ∷
        (AlwaysItem (at 4 1) (EventStatement (at 4 8) (OnEntries (record { edge = Any; select = record { place = (at 4 10); name = (codes "a"); index = NoIndex } } ∷
        record { edge = Any; select = record { place = (at 4 15); name = (codes "b"); index = NoIndex } } ∷ []))
        (BlockStatement (at 4 18) (steps ((BlockingStatement (at 4 24) (OneSelect (record { place = (at 4 24); name = (codes "z"); index = NoIndex })) None
        (Selected (at 4 28) (codes "a") NoIndex)) ∷ (IfStatement (at 4 31) (Selected (at 4 35) (codes "b") NoIndex)
        (BlockingStatement (at 4 38) (OneSelect (record { place = (at 4 38); name = (codes "z"); index = NoIndex })) None
        (Prefixed (at 4 42) BitwiseNot (Selected (at 4 43) (codes "z") NoIndex)))) ∷ []))))) ∷
        (AlwaysItem (at 5 1) (EventStatement (at 5 8) OnAnyRead (BlockingStatement (at 5 11) (OneSelect (record { place = (at 5 11); name = (codes "y"); index = NoIndex })) None
        (Selected (at 5 15) (codes "a") NoIndex)))) ∷
        (AlwaysItem (at 6 1) (EventStatement (at 6 8) (OnEntries (record { edge = Any; select = record { place = (at 6 10); name = (codes "a"); index = NoIndex } } ∷ []))
        (BlockingStatement (at 6 13) (OneSelect (record { place = (at 6 13); name = (codes "z"); index = NoIndex })) None (Selected (at 6 17) (codes "b") NoIndex)))) ∷
        []);
  } ∷ []);
}

abbrev pub Found : Type 0
Found = summary_of (flat source (codes "top") Usual) ≡ Ok (record {
  objects = (record { name = (codes "a"); kind = Var; width = 1; indexes = ([]); place = (at 2 5) } ∷
      record { name = (codes "b"); kind = Var; width = 1; indexes = ([]); place = (at 2 12) } ∷ record { name = (codes "y"); kind = Var; width = 1; indexes = ([]); place = (at 2 19) } ∷
      record { name = (codes "z"); kind = Var; width = 1; indexes = ([]); place = (at 2 22) } ∷ []);
  nodes = ([]);
  processes = (true ∷ true ∷ true ∷ true ∷ []);
  joined = ([]);
})

found : Found
found = refl

-- what the definitions give of the texts above
abbrev pub Holds : Type 0
Holds = Found

pub holds : Holds
holds = found
