use Rattle.std.specs.Prelude.{◌≡◌, refl, true, false, [], ◌∷◌, Some, None, Ok, codes}
use Rattle.four_value.specs.Values.{bits_of}
use Rattle.v_design.specs.declared.logic.ObjectKind.TheVariants.{Var}
use Rattle.four_value.specs.declared.operator.BinaryOperator.TheVariants.{Add}
use Rattle.v_design.specs.Designs.{VariableBit, TestPlan}
use Rattle.v_design.specs.Grades.{Judged, Detected}
use Rattle.v_tree.specs.declared.token.NumberForm.TheVariants.{Plain}
use Rattle.v_tree.specs.Trees.{Number, Selected, Infixed, Concatenated, NoIndex, OneSelect, BlockStatement, BlockingStatement, NoContent, FirstContent, RegItem, InitialItem, PlainHeads, SourceUnit}
use Rattle.v_elab.specs.declared.Mode.TheVariants.{Usual}
use Rattle.v_elab.specs.Flat.{flat}
use Rattle.elab_examples.specs.Build.{at, parts, steps, summary_of, grades_of}

-- module top;
-- reg [3:0] a = 15, b = 1; reg [4:0] s, t;
-- initial begin s = a + b; t = {a + b}; end
-- endmodule
abbrev source : SourceUnit
source = record {
  modules = (record {
    name = (codes "top");
    place = (at 1 8);
    parameters = ([]);
    heads = (PlainHeads ([]));
    items =
        ((RegItem (at 2 1) false (Some (record { place = (at 2 5); high = (Number (at 2 6) Plain (bits_of 32 3)); low = (Number (at 2 8) Plain (bits_of 32 0)) }))
        (record { name = (codes "a"); place = (at 2 11); content = (FirstContent (Number (at 2 15) Plain (bits_of 32 15))) } ∷
        record { name = (codes "b"); place = (at 2 19); content = (FirstContent (Number (at 2 23) Plain (bits_of 32 1))) } ∷ [])) ∷
        (RegItem (at 2 26) false (Some (record { place = (at 2 30); high = (Number (at 2 31) Plain (bits_of 32 4)); low = (Number (at 2 33) Plain (bits_of 32 0)) }))
        (record { name = (codes "s"); place = (at 2 36); content = NoContent } ∷ record { name = (codes "t"); place = (at 2 39); content = NoContent } ∷ [])) ∷
        (InitialItem (at 3 1) (BlockStatement (at 3 9) (steps ((BlockingStatement (at 3 15) (OneSelect (record { place = (at 3 15); name = (codes "s"); index = NoIndex })) None
        (Infixed (at 3 19) Add (Selected (at 3 19) (codes "a") NoIndex) (Selected (at 3 23) (codes "b") NoIndex))) ∷
        (BlockingStatement (at 3 26) (OneSelect (record { place = (at 3 26); name = (codes "t"); index = NoIndex })) None
        (Concatenated (at 3 30) (parts ((Infixed (at 3 31) Add (Selected (at 3 31) (codes "a") NoIndex) (Selected (at 3 35) (codes "b") NoIndex)) ∷ [])))) ∷ [])))) ∷
        []);
  } ∷ []);
}

abbrev pub Found : Type 0
Found = summary_of (flat source (codes "top") Usual) ≡ Ok (record {
  objects = (record { name = (codes "a"); kind = Var; width = 4; indexes = (3 ∷ 0 ∷ []); place = (at 2 11) } ∷
      record { name = (codes "b"); kind = Var; width = 4; indexes = (3 ∷ 0 ∷ []); place = (at 2 19) } ∷
      record { name = (codes "s"); kind = Var; width = 5; indexes = (4 ∷ 0 ∷ []); place = (at 2 36) } ∷
      record { name = (codes "t"); kind = Var; width = 5; indexes = (4 ∷ 0 ∷ []); place = (at 2 39) } ∷ []);
  nodes = ([]);
  processes = (false ∷ []);
  joined = ([]);
})

found : Found
found = refl

abbrev plan : TestPlan
plan = record {
  end = 2;
  strobes = (1 ∷ []);
  watched = (record { object = 2; bit = 4 } ∷ record { object = 2; bit = 3 } ∷ record { object = 2; bit = 2 } ∷ record { object = 2; bit = 1 } ∷
      record { object = 2; bit = 0 } ∷ record { object = 3; bit = 4 } ∷ record { object = 3; bit = 3 } ∷ record { object = 3; bit = 2 } ∷ record { object = 3; bit = 1 } ∷
      record { object = 3; bit = 0 } ∷ []);
  faults = (record { site = (VariableBit 2 4); value = false } ∷ record { site = (VariableBit 3 4); value = true } ∷ []);
}

abbrev pub Graded : Type 0
Graded = grades_of (flat source (codes "top") Usual) plan ≡ Ok (Some (Judged (Detected 1)) ∷ Some (Judged (Detected 1)) ∷ [])

graded : Graded
graded = refl

-- what the definitions give of the texts above
abbrev pub Holds : Type 0
Holds = Found × Graded

pub holds : Holds
holds = (found, graded)
