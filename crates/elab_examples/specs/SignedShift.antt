use Rattle.std.specs.Prelude.{◌≡◌, refl, true, false, [], ◌∷◌, Some, None, Ok, codes}
use Rattle.four_value.specs.Values.{bits_of}
use Rattle.v_design.specs.declared.logic.ObjectKind.TheVariants.{Var}
use Rattle.four_value.specs.declared.operator.BinaryOperator.TheVariants.{ArithmeticShiftRight}
use Rattle.v_design.specs.Designs.{VariableBit, TestPlan}
use Rattle.v_design.specs.Grades.{Judged, Detected}
use Rattle.v_tree.specs.declared.token.NumberForm.TheVariants.{Plain, SizedSigned}
use Rattle.v_tree.specs.Trees.{Number, Infixed, NoIndex, OneSelect, BlockingStatement, NoContent, RegItem, InitialItem, PlainHeads, SourceUnit}
use Rattle.v_elab.specs.declared.Mode.TheVariants.{Usual}
use Rattle.v_elab.specs.Flat.{flat}
use Rattle.elab_examples.specs.Build.{at, summary_of, grades_of}

-- module top;
-- reg signed [7:0] s; reg [7:0] u;
-- initial s = 4'sb1101 >>> 1;
-- endmodule
abbrev source : SourceUnit
source = record {
  modules = (record {
    name = (codes "top");
    place = (at 1 8);
    parameters = ([]);
    heads = (PlainHeads ([]));
    items =
        ((RegItem (at 2 1) true (Some (record { place = (at 2 12); high = (Number (at 2 13) Plain (bits_of 32 7)); low = (Number (at 2 15) Plain (bits_of 32 0)) }))
        (record { name = (codes "s"); place = (at 2 18); content = NoContent } ∷ [])) ∷
        (RegItem (at 2 21) false (Some (record { place = (at 2 25); high = (Number (at 2 26) Plain (bits_of 32 7)); low = (Number (at 2 28) Plain (bits_of 32 0)) }))
        (record { name = (codes "u"); place = (at 2 31); content = NoContent } ∷ [])) ∷
        (InitialItem (at 3 1) (BlockingStatement (at 3 9) (OneSelect (record { place = (at 3 9); name = (codes "s"); index = NoIndex })) None
        (Infixed (at 3 13) ArithmeticShiftRight (Number (at 3 13) SizedSigned (bits_of 4 13)) (Number (at 3 26) Plain (bits_of 32 1))))) ∷
        []);
  } ∷ []);
}

abbrev pub Found : Type 0
Found = summary_of (flat source (codes "top") Usual) ≡ Ok (record {
  objects = (record { name = (codes "s"); kind = Var; width = 8; indexes = (7 ∷ 0 ∷ []); place = (at 2 18) } ∷
      record { name = (codes "u"); kind = Var; width = 8; indexes = (7 ∷ 0 ∷ []); place = (at 2 31) } ∷ []);
  nodes = ([]);
  processes = (false ∷ []);
  joined = ([]);
})

found : Found
found = refl

abbrev plan : TestPlan
plan = record {
  end = 2;
  strobes = (1 ∷ []);
  watched = (record { object = 0; bit = 7 } ∷ record { object = 0; bit = 6 } ∷ record { object = 0; bit = 5 } ∷ record { object = 0; bit = 4 } ∷
      record { object = 0; bit = 3 } ∷ record { object = 0; bit = 2 } ∷ record { object = 0; bit = 1 } ∷ record { object = 0; bit = 0 } ∷ []);
  faults = (record { site = (VariableBit 0 7); value = false } ∷ record { site = (VariableBit 0 1); value = false } ∷ record { site = (VariableBit 0 0); value = true } ∷ []);
}

abbrev pub Graded : Type 0
Graded = grades_of (flat source (codes "top") Usual) plan ≡ Ok (Some (Judged (Detected 1)) ∷ Some (Judged (Detected 1)) ∷ Some (Judged (Detected 1)) ∷ [])

graded : Graded
graded = refl

-- what the definitions give of the texts above
abbrev pub Holds : Type 0
Holds = Found × Graded

pub holds : Holds
holds = (found, graded)
