use Rattle.std.specs.Prelude.{◌≡◌, refl, true, false, [], ◌∷◌, Some, None, Ok, codes}
use Rattle.four_value.specs.Values.{bits_of}
use Rattle.v_design.specs.declared.logic.ObjectKind.TheVariants.{Var}
use Rattle.four_value.specs.declared.operator.UnaryOperator.TheVariants.{Minus}
use Rattle.four_value.specs.declared.operator.BinaryOperator.TheVariants.{Less}
use Rattle.v_design.specs.Designs.{VariableBit, TestPlan}
use Rattle.v_design.specs.Grades.{Judged, Detected}
use Rattle.v_tree.specs.declared.token.NumberForm.TheVariants.{Plain}
use Rattle.v_tree.specs.Trees.{Number, Selected, Prefixed, Infixed, NoIndex, OneSelect, BlockStatement, BlockingStatement, NoContent, FirstContent, RegItem, IntegerItem, InitialItem, PlainHeads}
use Rattle.v_tree.specs.Trees.{SourceUnit}
use Rattle.v_elab.specs.declared.Mode.TheVariants.{Usual}
use Rattle.v_elab.specs.Flat.{flat}
use Rattle.elab_examples.specs.Build.{at, steps, summary_of, grades_of}

-- module top;
-- integer i = -1; reg [31:0] u = 1; reg p, q;
-- initial begin p = i < 0; q = i < u; end
-- endmodule
abbrev source : SourceUnit
source = record {
  modules = (record {
    name = (codes "top");
    place = (at 1 8);
    parameters = ([]);
    heads = (PlainHeads ([]));
    items =
        ((IntegerItem (at 2 1) (record { name = (codes "i"); place = (at 2 9); content = (FirstContent (Prefixed (at 2 13) Minus (Number (at 2 14) Plain (bits_of 32 1)))) } ∷ [])) ∷
        (RegItem (at 2 17) false (Some (record { place = (at 2 21); high = (Number (at 2 22) Plain (bits_of 32 31)); low = (Number (at 2 25) Plain (bits_of 32 0)) }))
        (record { name = (codes "u"); place = (at 2 28); content = (FirstContent (Number (at 2 32) Plain (bits_of 32 1))) } ∷ [])) ∷
        (RegItem (at 2 35) false None (record { name = (codes "p"); place = (at 2 39); content = NoContent } ∷ record { name = (codes "q"); place = (at 2 42); content = NoContent } ∷ [])) ∷
        (InitialItem (at 3 1) (BlockStatement (at 3 9) (steps ((BlockingStatement (at 3 15) (OneSelect (record { place = (at 3 15); name = (codes "p"); index = NoIndex })) None
        (Infixed (at 3 19) Less (Selected (at 3 19) (codes "i") NoIndex) (Number (at 3 23) Plain (bits_of 32 0)))) ∷
        (BlockingStatement (at 3 26) (OneSelect (record { place = (at 3 26); name = (codes "q"); index = NoIndex })) None
        (Infixed (at 3 30) Less (Selected (at 3 30) (codes "i") NoIndex) (Selected (at 3 34) (codes "u") NoIndex))) ∷ [])))) ∷
        []);
  } ∷ []);
}

abbrev pub Found : Type 0
Found = summary_of (flat source (codes "top") Usual) ≡ Ok (record {
  objects = (record { name = (codes "i"); kind = Var; width = 32; indexes = (31 ∷ 0 ∷ []); place = (at 2 9) } ∷
      record { name = (codes "u"); kind = Var; width = 32; indexes = (31 ∷ 0 ∷ []); place = (at 2 28) } ∷ record { name = (codes "p"); kind = Var; width = 1; indexes = ([]); place = (at 2 39) } ∷
      record { name = (codes "q"); kind = Var; width = 1; indexes = ([]); place = (at 2 42) } ∷ []);
  nodes = ([]);
  processes = (false ∷ []);
  joined = ([]);
})

found : Found
found = refl

abbrev plan : TestPlan
plan = record {
  end = 2;
  strobes = (1 ∷ []);
  watched = (record { object = 2; bit = 0 } ∷ record { object = 3; bit = 0 } ∷ []);
  faults = (record { site = (VariableBit 2 0); value = false } ∷ record { site = (VariableBit 3 0); value = true } ∷ record { site = (VariableBit 0 31); value = false } ∷ []);
}

abbrev pub Graded : Type 0
Graded = grades_of (flat source (codes "top") Usual) plan ≡ Ok (Some (Judged (Detected 1)) ∷ Some (Judged (Detected 1)) ∷ Some (Judged (Detected 1)) ∷ [])

graded : Graded
graded = refl

-- what the definitions give of the texts above
abbrev pub Holds : Type 0
Holds = Found × Graded

pub holds : Holds
holds = (found, graded)
