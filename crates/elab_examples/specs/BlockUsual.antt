use Rattle.std.specs.Prelude.{◌≡◌, refl, false, [], ◌∷◌, Some, None, Ok, codes}
use Rattle.four_value.specs.Values.{bits_of}
use Rattle.v_design.specs.declared.logic.ObjectKind.TheVariants.{Var, Net}
use Rattle.four_value.specs.declared.operator.BinaryOperator.TheVariants.{BitwiseAnd}
use Rattle.v_design.specs.Designs.{OutputBit, TestPlan}
use Rattle.v_design.specs.Grades.{Judged, Detected}
use Rattle.v_tree.specs.declared.token.NumberForm.TheVariants.{Plain}
use Rattle.v_tree.specs.Trees.{Number, Selected, Infixed, NoIndex, OneSelect, OnAnyRead, BlockStatement, EventStatement, DelayStatement, BlockingStatement, NoContent, FirstContent, RegItem}
use Rattle.v_tree.specs.Trees.{InitialItem, AlwaysItem, PlainHeads, SourceUnit}
use Rattle.v_elab.specs.declared.Mode.TheVariants.{Usual}
use Rattle.v_elab.specs.Flat.{flat}
use Rattle.elab_examples.specs.Build.{at, steps, summary_of, grades_of}

-- module top;
-- reg a = 0, b = 0, y;
-- initial #5 begin a = 1; b = 1; end
-- always @* y = a & b;
-- endmodule
abbrev source : SourceUnit
source = record {
  modules = (record {
    name = (codes "top");
    place = (at 1 8);
    parameters = ([]);
    heads = (PlainHeads ([]));
    items =
        ((RegItem (at 2 1) false None (record { name = (codes "a"); place = (at 2 5); content = (FirstContent (Number (at 2 9) Plain (bits_of 32 0))) } ∷
        record { name = (codes "b"); place = (at 2 12); content = (FirstContent (Number (at 2 16) Plain (bits_of 32 0))) } ∷
        record { name = (codes "y"); place = (at 2 19); content = NoContent } ∷ [])) ∷
        (InitialItem (at 3 1) (DelayStatement (at 3 9) (Number (at 3 10) Plain (bits_of 32 5))
        (BlockStatement (at 3 12) (steps ((BlockingStatement (at 3 18) (OneSelect (record { place = (at 3 18); name = (codes "a"); index = NoIndex })) None
        (Number (at 3 22) Plain (bits_of 32 1))) ∷ (BlockingStatement (at 3 25) (OneSelect (record { place = (at 3 25); name = (codes "b"); index = NoIndex })) None
        (Number (at 3 29) Plain (bits_of 32 1))) ∷ []))))) ∷
        (AlwaysItem (at 4 1) (EventStatement (at 4 8) OnAnyRead (BlockingStatement (at 4 11) (OneSelect (record { place = (at 4 11); name = (codes "y"); index = NoIndex })) None
        (Infixed (at 4 15) BitwiseAnd (Selected (at 4 15) (codes "a") NoIndex) (Selected (at 4 19) (codes "b") NoIndex))))) ∷
        []);
  } ∷ []);
}

abbrev pub Found : Type 0
Found = summary_of (flat source (codes "top") Usual) ≡ Ok (record {
  objects = (record { name = (codes "a"); kind = Var; width = 1; indexes = ([]); place = (at 2 5) } ∷
      record { name = (codes "b"); kind = Var; width = 1; indexes = ([]); place = (at 2 12) } ∷ record { name = (codes "y"); kind = Net; width = 1; indexes = ([]); place = (at 2 19) } ∷ []);
  nodes = (record { kind = 2; name = []; inputs = (0 ∷ 1 ∷ []); outputs = (2 ∷ []) } ∷ []);
  processes = (false ∷ []);
  joined = ([]);
})

found : Found
found = refl

abbrev plan : TestPlan
plan = record { end = 9; strobes = (8 ∷ []); watched = (record { object = 2; bit = 0 } ∷ []); faults = (record { site = (OutputBit 0 2 0); value = false } ∷ []) }

abbrev pub Graded : Type 0
Graded = grades_of (flat source (codes "top") Usual) plan ≡ Ok (Some (Judged (Detected 8)) ∷ [])

graded : Graded
graded = refl

-- what the definitions give of the texts above
abbrev pub Holds : Type 0
Holds = Found × Graded

pub holds : Holds
holds = (found, graded)
