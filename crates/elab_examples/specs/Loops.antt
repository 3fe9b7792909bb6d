use Rattle.std.specs.Prelude.{◌≡◌, refl, true, false, [], ◌∷◌, Some, None, Ok, codes}
use Rattle.four_value.specs.Values.{bits_of}
use Rattle.v_design.specs.declared.logic.ObjectKind.TheVariants.{Var, Word}
use Rattle.four_value.specs.declared.operator.CaseKind.TheVariants.{Exact}
use Rattle.four_value.specs.declared.operator.BinaryOperator.TheVariants.{Add, Less, LessEqual, Multiply}
use Rattle.v_design.specs.Designs.{VariableBit, TestPlan}
use Rattle.v_design.specs.Grades.{Judged, Detected, Undetected}
use Rattle.v_tree.specs.declared.token.NumberForm.TheVariants.{Plain, Sized}
use Rattle.v_tree.specs.Trees.{Number, Selected, Infixed, NoIndex, IndexAt, IndexRange, OneSelect, JoinedSelects, BlockStatement, CaseStatement, ForStatement, WhileStatement, RepeatStatement}
use Rattle.v_tree.specs.Trees.{BlockingStatement, IgnoredTask, FinishTask, no_source_items, labelled, otherwise, NoContent, FirstContent, MemoryBounds, RegItem, IntegerItem, InitialItem, PlainHeads}
use Rattle.v_tree.specs.Trees.{SourceUnit}
use Rattle.v_elab.specs.declared.Mode.TheVariants.{Usual}
use Rattle.v_elab.specs.Flat.{flat}
use Rattle.elab_examples.specs.Build.{at, parts, steps, summary_of, grades_of}

-- module top;
-- integer i; reg [7:0] n = 0, k = 0; reg [3:0] m [1:4];
-- initial begin for (i = 1; i <= 4; i = i + 1) m[i] = i * 3; while (n < 5) n = n + m[2]; repeat (3) k = k + 1; {k[7], n[1:0]} = #2 3; case (k) 1, 2: n = 0; 8'h83: n = 99; default n = 1; endcase
-- $display("x"); $finish; end
-- endmodule
abbrev source : SourceUnit
source = record {
  modules = (record {
    name = (codes "top");
    place = (at 1 8);
    parameters = ([]);
    heads = (PlainHeads ([]));
    items =
        ((IntegerItem (at 2 1) (record { name = (codes "i"); place = (at 2 9); content = NoContent } ∷ [])) ∷
        (RegItem (at 2 12) false (Some (record { place = (at 2 16); high = (Number (at 2 17) Plain (bits_of 32 7)); low = (Number (at 2 19) Plain (bits_of 32 0)) }))
        (record { name = (codes "n"); place = (at 2 22); content = (FirstContent (Number (at 2 26) Plain (bits_of 32 0))) } ∷
        record { name = (codes "k"); place = (at 2 29); content = (FirstContent (Number (at 2 33) Plain (bits_of 32 0))) } ∷ [])) ∷
        (RegItem (at 2 36) false (Some (record { place = (at 2 40); high = (Number (at 2 41) Plain (bits_of 32 3)); low = (Number (at 2 43) Plain (bits_of 32 0)) }))
        (record {
          name = (codes "m");
          place = (at 2 46);
          content = (MemoryBounds (record {
            place = (at 2 48);
            high = (Number (at 2 49) Plain (bits_of 32 1));
            low = (Number (at 2 51) Plain (bits_of 32 4));
          }));
        } ∷ [])) ∷
        (InitialItem (at 3 1) (BlockStatement (at 3 9) (steps ((ForStatement (at 3 15) (OneSelect (record { place = (at 3 20); name = (codes "i"); index = NoIndex }))
        (Number (at 3 24) Plain (bits_of 32 1)) (Infixed (at 3 27) LessEqual (Selected (at 3 27) (codes "i") NoIndex) (Number (at 3 32) Plain (bits_of 32 4)))
        (OneSelect (record { place = (at 3 35); name = (codes "i"); index = NoIndex })) (Infixed (at 3 39) Add (Selected (at 3 39) (codes "i") NoIndex) (Number (at 3 43) Plain (bits_of 32 1)))
        (BlockingStatement (at 3 46) (OneSelect (record { place = (at 3 46); name = (codes "m"); index = (IndexAt (Selected (at 3 48) (codes "i") NoIndex)) })) None
        (Infixed (at 3 53) Multiply (Selected (at 3 53) (codes "i") NoIndex) (Number (at 3 57) Plain (bits_of 32 3))))) ∷
        (WhileStatement (at 3 60) (Infixed (at 3 67) Less (Selected (at 3 67) (codes "n") NoIndex) (Number (at 3 71) Plain (bits_of 32 5)))
        (BlockingStatement (at 3 74) (OneSelect (record { place = (at 3 74); name = (codes "n"); index = NoIndex })) None
        (Infixed (at 3 78) Add (Selected (at 3 78) (codes "n") NoIndex) (Selected (at 3 82) (codes "m") (IndexAt (Number (at 3 84) Plain (bits_of 32 2))))))) ∷
        (RepeatStatement (at 3 88) (Number (at 3 96) Plain (bits_of 32 3)) (BlockingStatement (at 3 99) (OneSelect (record { place = (at 3 99); name = (codes "k"); index = NoIndex })) None
        (Infixed (at 3 103) Add (Selected (at 3 103) (codes "k") NoIndex) (Number (at 3 107) Plain (bits_of 32 1))))) ∷
        (BlockingStatement (at 3 110) (JoinedSelects (at 3 110) (record { place = (at 3 111); name = (codes "k"); index = (IndexAt (Number (at 3 113) Plain (bits_of 32 7))) } ∷
        record { place = (at 3 117); name = (codes "n"); index = (IndexRange (Number (at 3 119) Plain (bits_of 32 1)) (Number (at 3 121) Plain (bits_of 32 0))) } ∷ []))
        (Some (Number (at 3 128) Plain (bits_of 32 2))) (Number (at 3 130) Plain (bits_of 32 3))) ∷
        (CaseStatement (at 3 133) Exact (Selected (at 3 139) (codes "k") NoIndex) (labelled (parts ((Number (at 3 142) Plain (bits_of 32 1)) ∷ (Number (at 3 145) Plain (bits_of 32 2)) ∷ []))
        (BlockingStatement (at 3 148) (OneSelect (record { place = (at 3 148); name = (codes "n"); index = NoIndex })) None (Number (at 3 152) Plain (bits_of 32 0)))
        (labelled (parts ((Number (at 3 155) Sized (bits_of 8 131)) ∷ [])) (BlockingStatement (at 3 162) (OneSelect (record { place = (at 3 162); name = (codes "n"); index = NoIndex })) None
        (Number (at 3 166) Plain (bits_of 32 99))) (otherwise (BlockingStatement (at 3 178) (OneSelect (record { place = (at 3 178); name = (codes "n"); index = NoIndex })) None
        (Number (at 3 182) Plain (bits_of 32 1))) no_source_items)))) ∷ (IgnoredTask (at 3 193)) ∷ (FinishTask (at 3 208)) ∷ [])))) ∷
        []);
  } ∷ []);
}

abbrev pub Found : Type 0
Found = summary_of (flat source (codes "top") Usual) ≡ Ok (record {
  objects = (record { name = (codes "i"); kind = Var; width = 32; indexes = (31 ∷ 0 ∷ []); place = (at 2 9) } ∷
      record { name = (codes "n"); kind = Var; width = 8; indexes = (7 ∷ 0 ∷ []); place = (at 2 22) } ∷
      record { name = (codes "k"); kind = Var; width = 8; indexes = (7 ∷ 0 ∷ []); place = (at 2 29) } ∷ record { name = (codes "m"); kind = Word; width = 4; indexes = (1 ∷ []); place = (at 2 46) } ∷
      record { name = (codes "m"); kind = Word; width = 4; indexes = (2 ∷ []); place = (at 2 46) } ∷ record { name = (codes "m"); kind = Word; width = 4; indexes = (3 ∷ []); place = (at 2 46) } ∷
      record { name = (codes "m"); kind = Word; width = 4; indexes = (4 ∷ []); place = (at 2 46) } ∷ []);
  nodes = ([]);
  processes = (false ∷ []);
  joined = ([]);
})

found : Found
found = refl

abbrev plan : TestPlan
plan = record {
  end = 9;
  strobes = (1 ∷ 4 ∷ []);
  watched = (record { object = 1; bit = 7 } ∷ record { object = 1; bit = 6 } ∷ record { object = 1; bit = 5 } ∷ record { object = 1; bit = 4 } ∷
      record { object = 1; bit = 3 } ∷ record { object = 1; bit = 2 } ∷ record { object = 1; bit = 1 } ∷ record { object = 1; bit = 0 } ∷ record { object = 2; bit = 7 } ∷
      record { object = 2; bit = 6 } ∷ record { object = 2; bit = 5 } ∷ record { object = 2; bit = 4 } ∷ record { object = 2; bit = 3 } ∷ record { object = 2; bit = 2 } ∷
      record { object = 2; bit = 1 } ∷ record { object = 2; bit = 0 } ∷ []);
  faults = (record { site = (VariableBit 1 0); value = false } ∷ record { site = (VariableBit 2 7); value = false } ∷
      record { site = (VariableBit 1 2); value = true } ∷ []);
}

abbrev pub Graded : Type 0
Graded = grades_of (flat source (codes "top") Usual) plan ≡ Ok (Some (Judged (Detected 4)) ∷ Some (Judged Undetected) ∷ Some (Judged (Detected 1)) ∷ [])

graded : Graded
graded = refl

-- what the definitions give of the texts above
abbrev pub Holds : Type 0
Holds = Found × Graded

pub holds : Holds
holds = (found, graded)
