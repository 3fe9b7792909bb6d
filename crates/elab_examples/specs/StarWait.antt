use Rattle.std.specs.Prelude.{◌≡◌, refl, true, false, [], ◌∷◌, Some, None, Ok, codes}
use Rattle.four_value.specs.Values.{bits_of}
use Rattle.v_design.specs.declared.logic.ObjectKind.TheVariants.{Var, Word}
use Rattle.four_value.specs.declared.operator.BinaryOperator.TheVariants.{Add}
use Rattle.v_design.specs.Designs.{VariableBit, TestPlan}
use Rattle.v_design.specs.Grades.{Judged, Possible, Undetected}
use Rattle.v_tree.specs.declared.token.NumberForm.TheVariants.{Plain}
use Rattle.v_tree.specs.Trees.{Number, Selected, Infixed, NoIndex, IndexAt, OneSelect, OnAnyRead, BlockStatement, EventStatement, DelayStatement, BlockingStatement, NonblockingStatement, NoContent}
use Rattle.v_tree.specs.Trees.{FirstContent, MemoryBounds, RegItem, InitialItem, AlwaysItem, PlainHeads, SourceUnit}
use Rattle.v_elab.specs.declared.Mode.TheVariants.{Usual}
use Rattle.v_elab.specs.Flat.{flat}
use Rattle.elab_examples.specs.Build.{at, steps, summary_of, grades_of}

-- module top;
-- reg a = 0, b = 0, c = 0; reg [3:0] m [0:1]; reg [3:0] y;
-- initial begin #5 m[1] = 9; #5 a = 1; end
-- always @* begin y <= m[a] + b; c = y[0]; end
-- endmodule
abbrev source : SourceUnit
source = record {
  modules = (record {
    name = (codes "top");
    place = (at 1 8);
    parameters = ([]);
    heads = (PlainHeads ([]));
    items =
        ((RegItem (at 2 1) false None (record { name = (codes "a"); place = (at 2 5); content = (FirstContent (Number (at 2 9) Plain (bits_of 32 0))) } ∷
        record { name = (codes "b"); place = (at 2 12); content = (FirstContent (Number (at 2 16) Plain (bits_of 32 0))) } ∷
        record { name = (codes "c"); place = (at 2 19); content = (FirstContent (Number (at 2 23) Plain (bits_of 32 0))) } ∷ [])) ∷
        (RegItem (at 2 26) false (Some (record { place = (at 2 30); high = (Number (at 2 31) Plain (bits_of 32 3)); low = (Number (at 2 33) Plain (bits_of 32 0)) }))
        (record {
          name = (codes "m");
          place = (at 2 36);
          content = (MemoryBounds (record {
            place = (at 2 38);
            high = (Number (at 2 39) Plain (bits_of 32 0));
            low = (Number (at 2 41) Plain (bits_of 32 1));
          }));
        } ∷ [])) ∷
        (RegItem (at 2 45) false (Some (record { place = (at 2 49); high = (Number (at 2 50) Plain (bits_of 32 3)); low = (Number (at 2 52) Plain (bits_of 32 0)) }))
        (record { name = (codes "y"); place = (at 2 55); content = NoContent } ∷ [])) ∷
        (InitialItem (at 3 1) (BlockStatement (at 3 9) (steps ((DelayStatement (at 3 15) (Number (at 3 16) Plain (bits_of 32 5))
        (BlockingStatement (at 3 18) (OneSelect (record { place = (at 3 18); name = (codes "m"); index = (IndexAt (Number (at 3 20) Plain (bits_of 32 1))) })) None
        (Number (at 3 25) Plain (bits_of 32 9)))) ∷ (DelayStatement (at 3 28) (Number (at 3 29) Plain (bits_of 32 5))
        (BlockingStatement (at 3 31) (OneSelect (record { place = (at 3 31); name = (codes "a"); index = NoIndex })) None (Number (at 3 35) Plain (bits_of 32 1)))) ∷ [])))) ∷
        (AlwaysItem (at 4 1) (EventStatement (at 4 8) OnAnyRead (BlockStatement (at 4 11) (steps
        ((NonblockingStatement (at 4 17) (OneSelect (record { place = (at 4 17); name = (codes "y"); index = NoIndex })) None
        (Infixed (at 4 22) Add (Selected (at 4 22) (codes "m") (IndexAt (Selected (at 4 24) (codes "a") NoIndex))) (Selected (at 4 29) (codes "b") NoIndex))) ∷
        (BlockingStatement (at 4 32) (OneSelect (record { place = (at 4 32); name = (codes "c"); index = NoIndex })) None
        (Selected (at 4 36) (codes "y") (IndexAt (Number (at 4 38) Plain (bits_of 32 0))))) ∷ []))))) ∷
        []);
  } ∷ []);
}

abbrev pub Found : Type 0
Found = summary_of (flat source (codes "top") Usual) ≡ Ok (record {
  objects = (record { name = (codes "a"); kind = Var; width = 1; indexes = ([]); place = (at 2 5) } ∷
      record { name = (codes "b"); kind = Var; width = 1; indexes = ([]); place = (at 2 12) } ∷ record { name = (codes "c"); kind = Var; width = 1; indexes = ([]); place = (at 2 19) } ∷
      record { name = (codes "m"); kind = Word; width = 4; indexes = (0 ∷ []); place = (at 2 36) } ∷ record { name = (codes "m"); kind = Word; width = 4; indexes = (1 ∷ []); place = (at 2 36) } ∷
      record { name = (codes "y"); kind = Var; width = 4; indexes = (3 ∷ 0 ∷ []); place = (at 2 55) } ∷ []);
  nodes = ([]);
  processes = (false ∷ true ∷ []);
  joined = ([]);
})

found : Found
found = refl

abbrev plan : TestPlan
plan = record {
  end = 30;
  strobes = (8 ∷ 20 ∷ []);
  watched = (record { object = 5; bit = 3 } ∷ []);
  faults = (record { site = (VariableBit 0 0); value = false } ∷ record { site = (VariableBit 1 0); value = true } ∷ []);
}

abbrev pub Graded : Type 0
Graded = grades_of (flat source (codes "top") Usual) plan ≡ Ok (Some (Judged (Possible 20)) ∷ Some (Judged Undetected) ∷ [])

graded : Graded
graded = refl

-- what the definitions give of the texts above
abbrev pub Holds : Type 0
Holds = Found × Graded

pub holds : Holds
holds = (found, graded)
