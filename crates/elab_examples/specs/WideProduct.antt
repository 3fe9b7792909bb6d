use Rattle.std.specs.Prelude.{◌≡◌, refl, true, false, [], ◌∷◌, Some, None, Ok, codes}
use Rattle.four_value.specs.Values.{bits_of}
use Rattle.v_design.specs.declared.logic.ObjectKind.TheVariants.{Var}
use Rattle.four_value.specs.declared.operator.BinaryOperator.TheVariants.{Multiply}
use Rattle.v_design.specs.Designs.{VariableBit, TestPlan}
use Rattle.v_design.specs.Grades.{Judged, Detected}
use Rattle.v_tree.specs.declared.token.NumberForm.TheVariants.{Plain, Sized}
use Rattle.v_tree.specs.Trees.{Number, Infixed, Concatenated, NoIndex, OneSelect, BlockingStatement, NoContent, RegItem, InitialItem, PlainHeads, SourceUnit}
use Rattle.v_elab.specs.declared.Mode.TheVariants.{Usual}
use Rattle.v_elab.specs.Flat.{flat}
use Rattle.elab_examples.specs.Build.{at, parts, summary_of, grades_of}

-- module top;
-- reg [127:0] w;
-- initial w = {64'd1, 64'd0} * 2;
-- endmodule
abbrev source : SourceUnit
source = record {
  modules = (record {
    name = (codes "top");
    place = (at 1 8);
    parameters = ([]);
    heads = (PlainHeads ([]));
    items =
        ((RegItem (at 2 1) false (Some (record { place = (at 2 5); high = (Number (at 2 6) Plain (bits_of 32 127)); low = (Number (at 2 10) Plain (bits_of 32 0)) }))
        (record { name = (codes "w"); place = (at 2 13); content = NoContent } ∷ [])) ∷
        (InitialItem (at 3 1) (BlockingStatement (at 3 9) (OneSelect (record { place = (at 3 9); name = (codes "w"); index = NoIndex })) None
        (Infixed (at 3 13) Multiply (Concatenated (at 3 13) (parts ((Number (at 3 14) Sized (bits_of 64 1)) ∷ (Number (at 3 21) Sized (bits_of 64 0)) ∷ [])))
        (Number (at 3 30) Plain (bits_of 32 2))))) ∷
        []);
  } ∷ []);
}

abbrev pub Found : Type 0
Found = summary_of (flat source (codes "top") Usual) ≡ Ok (record {
  objects = (record { name = (codes "w"); kind = Var; width = 128; indexes = (127 ∷ 0 ∷ []); place = (at 2 13) } ∷ []);
  nodes = ([]);
  processes = (false ∷ []);
  joined = ([]);
})

found : Found
found = refl

abbrev plan : TestPlan
plan = record {
  end = 2;
  strobes = (1 ∷ []);
  watched = (record { object = 0; bit = 127 } ∷ record { object = 0; bit = 126 } ∷ record { object = 0; bit = 125 } ∷ record { object = 0; bit = 124 } ∷
      record { object = 0; bit = 123 } ∷ record { object = 0; bit = 122 } ∷ record { object = 0; bit = 121 } ∷ record { object = 0; bit = 120 } ∷ record { object = 0; bit = 119 } ∷
      record { object = 0; bit = 118 } ∷ record { object = 0; bit = 117 } ∷ record { object = 0; bit = 116 } ∷ record { object = 0; bit = 115 } ∷ record { object = 0; bit = 114 } ∷
      record { object = 0; bit = 113 } ∷ record { object = 0; bit = 112 } ∷ record { object = 0; bit = 111 } ∷ record { object = 0; bit = 110 } ∷ record { object = 0; bit = 109 } ∷
      record { object = 0; bit = 108 } ∷ record { object = 0; bit = 107 } ∷ record { object = 0; bit = 106 } ∷ record { object = 0; bit = 105 } ∷ record { object = 0; bit = 104 } ∷
      record { object = 0; bit = 103 } ∷ record { object = 0; bit = 102 } ∷ record { object = 0; bit = 101 } ∷ record { object = 0; bit = 100 } ∷ record { object = 0; bit = 99 } ∷
      record { object = 0; bit = 98 } ∷ record { object = 0; bit = 97 } ∷ record { object = 0; bit = 96 } ∷ record { object = 0; bit = 95 } ∷ record { object = 0; bit = 94 } ∷
      record { object = 0; bit = 93 } ∷ record { object = 0; bit = 92 } ∷ record { object = 0; bit = 91 } ∷ record { object = 0; bit = 90 } ∷ record { object = 0; bit = 89 } ∷
      record { object = 0; bit = 88 } ∷ record { object = 0; bit = 87 } ∷ record { object = 0; bit = 86 } ∷ record { object = 0; bit = 85 } ∷ record { object = 0; bit = 84 } ∷
      record { object = 0; bit = 83 } ∷ record { object = 0; bit = 82 } ∷ record { object = 0; bit = 81 } ∷ record { object = 0; bit = 80 } ∷ record { object = 0; bit = 79 } ∷
      record { object = 0; bit = 78 } ∷ record { object = 0; bit = 77 } ∷ record { object = 0; bit = 76 } ∷ record { object = 0; bit = 75 } ∷ record { object = 0; bit = 74 } ∷
      record { object = 0; bit = 73 } ∷ record { object = 0; bit = 72 } ∷ record { object = 0; bit = 71 } ∷ record { object = 0; bit = 70 } ∷ record { object = 0; bit = 69 } ∷
      record { object = 0; bit = 68 } ∷ record { object = 0; bit = 67 } ∷ record { object = 0; bit = 66 } ∷ record { object = 0; bit = 65 } ∷ record { object = 0; bit = 64 } ∷
      record { object = 0; bit = 63 } ∷ record { object = 0; bit = 62 } ∷ record { object = 0; bit = 61 } ∷ record { object = 0; bit = 60 } ∷ record { object = 0; bit = 59 } ∷
      record { object = 0; bit = 58 } ∷ record { object = 0; bit = 57 } ∷ record { object = 0; bit = 56 } ∷ record { object = 0; bit = 55 } ∷ record { object = 0; bit = 54 } ∷
      record { object = 0; bit = 53 } ∷ record { object = 0; bit = 52 } ∷ record { object = 0; bit = 51 } ∷ record { object = 0; bit = 50 } ∷ record { object = 0; bit = 49 } ∷
      record { object = 0; bit = 48 } ∷ record { object = 0; bit = 47 } ∷ record { object = 0; bit = 46 } ∷ record { object = 0; bit = 45 } ∷ record { object = 0; bit = 44 } ∷
      record { object = 0; bit = 43 } ∷ record { object = 0; bit = 42 } ∷ record { object = 0; bit = 41 } ∷ record { object = 0; bit = 40 } ∷ record { object = 0; bit = 39 } ∷
      record { object = 0; bit = 38 } ∷ record { object = 0; bit = 37 } ∷ record { object = 0; bit = 36 } ∷ record { object = 0; bit = 35 } ∷ record { object = 0; bit = 34 } ∷
      record { object = 0; bit = 33 } ∷ record { object = 0; bit = 32 } ∷ record { object = 0; bit = 31 } ∷ record { object = 0; bit = 30 } ∷ record { object = 0; bit = 29 } ∷
      record { object = 0; bit = 28 } ∷ record { object = 0; bit = 27 } ∷ record { object = 0; bit = 26 } ∷ record { object = 0; bit = 25 } ∷ record { object = 0; bit = 24 } ∷
      record { object = 0; bit = 23 } ∷ record { object = 0; bit = 22 } ∷ record { object = 0; bit = 21 } ∷ record { object = 0; bit = 20 } ∷ record { object = 0; bit = 19 } ∷
      record { object = 0; bit = 18 } ∷ record { object = 0; bit = 17 } ∷ record { object = 0; bit = 16 } ∷ record { object = 0; bit = 15 } ∷ record { object = 0; bit = 14 } ∷
      record { object = 0; bit = 13 } ∷ record { object = 0; bit = 12 } ∷ record { object = 0; bit = 11 } ∷ record { object = 0; bit = 10 } ∷ record { object = 0; bit = 9 } ∷
      record { object = 0; bit = 8 } ∷ record { object = 0; bit = 7 } ∷ record { object = 0; bit = 6 } ∷ record { object = 0; bit = 5 } ∷ record { object = 0; bit = 4 } ∷
      record { object = 0; bit = 3 } ∷ record { object = 0; bit = 2 } ∷ record { object = 0; bit = 1 } ∷ record { object = 0; bit = 0 } ∷ []);
  faults = (record { site = (VariableBit 0 65); value = false } ∷ record { site = (VariableBit 0 64); value = true } ∷ []);
}

abbrev pub Graded : Type 0
Graded = grades_of (flat source (codes "top") Usual) plan ≡ Ok (Some (Judged (Detected 1)) ∷ Some (Judged (Detected 1)) ∷ [])

graded : Graded
graded = refl

-- what the definitions give of the texts above
abbrev pub Holds : Type 0
Holds = Found × Graded

pub holds : Holds
holds = (found, graded)
