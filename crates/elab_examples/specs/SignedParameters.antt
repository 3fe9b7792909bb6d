use Rattle.std.specs.Prelude.{◌≡◌, refl, true, false, [], ◌∷◌, Some, None, Ok, codes}
use Rattle.four_value.specs.Values.{bits_of}
use Rattle.v_design.specs.declared.logic.ObjectKind.TheVariants.{Net}
use Rattle.four_value.specs.declared.operator.UnaryOperator.TheVariants.{Minus}
use Rattle.four_value.specs.declared.operator.BinaryOperator.TheVariants.{Add, Multiply, Subtract}
use Rattle.v_design.specs.Designs.{OutputBit, TestPlan}
use Rattle.v_design.specs.Grades.{Judged, Detected, Undetected}
use Rattle.v_tree.specs.declared.token.NumberForm.TheVariants.{Plain, Sized, SizedSigned}
use Rattle.v_tree.specs.declared.item.Direction.TheVariants.{Output}
use Rattle.v_tree.specs.Trees.{Number, Selected, Prefixed, Infixed, NoIndex, OneSelect, ParameterItem, WireItem, AssignItem, InstanceItem, PlainHeads, DeclaredHeads, SourceUnit}
use Rattle.v_elab.specs.declared.Mode.TheVariants.{Usual}
use Rattle.v_elab.specs.Flat.{flat}
use Rattle.elab_examples.specs.Build.{at, summary_of, grades_of}

-- module sub #(parameter P = 1, parameter signed [3:0] Q = 2, parameter [1:0] R = 3)(output signed [7:0] y);
-- localparam S = P + 1;
-- assign y = P + Q + R + S;
-- endmodule
-- module top;
-- wire signed [7:0] a, b; wire signed [9:0] c;
-- sub #(-4'sd2, 4'b1111) u(a);
-- sub #(.R(5), .P(A)) v(.y(b));
-- assign c = a * b;
-- localparam A = B - 4, B = 1;
-- endmodule
abbrev source : SourceUnit
source = record {
  modules = (record {
    name = (codes "sub");
    place = (at 1 8);
    parameters = (record {
      place = (at 1 14);
      is_local = false;
      signed = false;
      range = None;
      parameters = (record { name = (codes "P"); place = (at 1 24); value = (Number (at 1 28) Plain (bits_of 32 1)) } ∷ []);
    } ∷
        record {
          place = (at 1 31);
          is_local = false;
          signed = true;
          range = (Some (record {
            place = (at 1 48);
            high = (Number (at 1 49) Plain (bits_of 32 3));
            low = (Number (at 1 51) Plain (bits_of 32 0));
          }));
          parameters = (record { name = (codes "Q"); place = (at 1 54); value = (Number (at 1 58) Plain (bits_of 32 2)) } ∷ []);
        } ∷
        record {
          place = (at 1 61);
          is_local = false;
          signed = false;
          range = (Some (record {
            place = (at 1 71);
            high = (Number (at 1 72) Plain (bits_of 32 1));
            low = (Number (at 1 74) Plain (bits_of 32 0));
          }));
          parameters = (record { name = (codes "R"); place = (at 1 77); value = (Number (at 1 81) Plain (bits_of 32 3)) } ∷ []);
        } ∷ []);
    heads = (DeclaredHeads (record {
      place = (at 1 84);
      direction = Output;
      is_reg = false;
      signed = true;
      range = (Some (record { place = (at 1 98); high = (Number (at 1 99) Plain (bits_of 32 7)); low = (Number (at 1 101) Plain (bits_of 32 0)) }));
      names = (record { name = (codes "y"); place = (at 1 104) } ∷ []);
    } ∷ []));
    items =
        ((ParameterItem (record {
          place = (at 2 1);
          is_local = true;
          signed = false;
          range = None;
          parameters = (record { name = (codes "S"); place = (at 2 12); value = (Infixed (at 2 16) Add (Selected (at 2 16) (codes "P") NoIndex) (Number (at 2 20) Plain (bits_of 32 1))) } ∷ []);
        })) ∷
        (AssignItem (at 3 1) (record {
          target = (OneSelect (record { place = (at 3 8); name = (codes "y"); index = NoIndex }));
          value = (Infixed (at 3 12) Add (Infixed (at 3 12) Add (Infixed (at 3 12) Add (Selected (at 3 12) (codes "P") NoIndex) (Selected (at 3 16) (codes "Q") NoIndex))
              (Selected (at 3 20) (codes "R") NoIndex)) (Selected (at 3 24) (codes "S") NoIndex));
        } ∷ [])) ∷
        []);
  } ∷ record {
    name = (codes "top");
    place = (at 5 8);
    parameters = ([]);
    heads = (PlainHeads ([]));
    items =
        ((WireItem (at 6 1) true (Some (record { place = (at 6 13); high = (Number (at 6 14) Plain (bits_of 32 7)); low = (Number (at 6 16) Plain (bits_of 32 0)) }))
        (record { name = (codes "a"); place = (at 6 19); value = None } ∷ record { name = (codes "b"); place = (at 6 22); value = None } ∷ [])) ∷
        (WireItem (at 6 25) true (Some (record { place = (at 6 37); high = (Number (at 6 38) Plain (bits_of 32 9)); low = (Number (at 6 40) Plain (bits_of 32 0)) }))
        (record { name = (codes "c"); place = (at 6 43); value = None } ∷ [])) ∷
        (InstanceItem (at 7 1) (codes "sub") (record { name = None; place = (at 7 7); actual = (Some (Prefixed (at 7 7) Minus (Number (at 7 8) SizedSigned (bits_of 4 2)))) } ∷
        record { name = None; place = (at 7 15); actual = (Some (Number (at 7 15) Sized (bits_of 4 15))) } ∷ [])
        (record { name = (codes "u"); place = (at 7 24); connections = (record { name = None; place = (at 7 26); actual = (Some (Selected (at 7 26) (codes "a") NoIndex)) } ∷ []) } ∷ [])) ∷
        (InstanceItem (at 8 1) (codes "sub") (record { name = (Some (codes "R")); place = (at 8 8); actual = (Some (Number (at 8 10) Plain (bits_of 32 5))) } ∷
        record { name = (Some (codes "P")); place = (at 8 15); actual = (Some (Selected (at 8 17) (codes "A") NoIndex)) } ∷ [])
        (record { name = (codes "v"); place = (at 8 21); connections = (record { name = (Some (codes "y")); place = (at 8 24); actual = (Some (Selected (at 8 26) (codes "b") NoIndex)) } ∷ []) }
        ∷ [])) ∷
        (AssignItem (at 9 1) (record {
          target = (OneSelect (record { place = (at 9 8); name = (codes "c"); index = NoIndex }));
          value = (Infixed (at 9 12) Multiply (Selected (at 9 12) (codes "a") NoIndex) (Selected (at 9 16) (codes "b") NoIndex));
        } ∷ [])) ∷
        (ParameterItem (record {
          place = (at 10 1);
          is_local = true;
          signed = false;
          range = None;
          parameters = (record { name = (codes "A"); place = (at 10 12); value = (Infixed (at 10 16) Subtract (Selected (at 10 16) (codes "B") NoIndex) (Number (at 10 20) Plain (bits_of 32 4))) }
              ∷ record { name = (codes "B"); place = (at 10 23); value = (Number (at 10 27) Plain (bits_of 32 1)) } ∷ []);
        })) ∷
        []);
  } ∷ []);
}

abbrev pub Found : Type 0
Found = summary_of (flat source (codes "top") Usual) ≡ Ok (record {
  objects = (record { name = (codes "a"); kind = Net; width = 8; indexes = (7 ∷ 0 ∷ []); place = (at 6 19) } ∷
      record { name = (codes "b"); kind = Net; width = 8; indexes = (7 ∷ 0 ∷ []); place = (at 6 22) } ∷
      record { name = (codes "c"); kind = Net; width = 10; indexes = (9 ∷ 0 ∷ []); place = (at 6 43) } ∷ []);
  nodes = (record { kind = 0; name = []; inputs = ([]); outputs = (0 ∷ []) } ∷ record { kind = 0; name = []; inputs = ([]); outputs = (1 ∷ []) } ∷
      record { kind = 0; name = []; inputs = (0 ∷ 1 ∷ []); outputs = (2 ∷ []) } ∷ []);
  processes = ([]);
  joined = (record { name = (codes "u.y"); objects = (0 ∷ []) } ∷ record { name = (codes "v.y"); objects = (1 ∷ []) } ∷ []);
})

found : Found
found = refl

abbrev plan : TestPlan
plan = record {
  end = 2;
  strobes = (1 ∷ []);
  watched = (record { object = 0; bit = 7 } ∷ record { object = 0; bit = 6 } ∷ record { object = 0; bit = 5 } ∷ record { object = 0; bit = 4 } ∷
      record { object = 0; bit = 3 } ∷ record { object = 0; bit = 2 } ∷ record { object = 0; bit = 1 } ∷ record { object = 0; bit = 0 } ∷ record { object = 1; bit = 7 } ∷
      record { object = 1; bit = 6 } ∷ record { object = 1; bit = 5 } ∷ record { object = 1; bit = 4 } ∷ record { object = 1; bit = 3 } ∷ record { object = 1; bit = 2 } ∷
      record { object = 1; bit = 1 } ∷ record { object = 1; bit = 0 } ∷ record { object = 2; bit = 9 } ∷ record { object = 2; bit = 8 } ∷ record { object = 2; bit = 7 } ∷
      record { object = 2; bit = 6 } ∷ record { object = 2; bit = 5 } ∷ record { object = 2; bit = 4 } ∷ record { object = 2; bit = 3 } ∷ record { object = 2; bit = 2 } ∷
      record { object = 2; bit = 1 } ∷ record { object = 2; bit = 0 } ∷ []);
  faults = (record { site = (OutputBit 0 0 7); value = false } ∷ record { site = (OutputBit 0 0 0); value = true } ∷
      record { site = (OutputBit 1 1 7); value = false } ∷ record { site = (OutputBit 1 1 0); value = false } ∷ record { site = (OutputBit 2 2 9); value = true } ∷
      record { site = (OutputBit 2 2 0); value = true } ∷ []);
}

abbrev pub Graded : Type 0
Graded = grades_of (flat source (codes "top") Usual) plan ≡ Ok (Some (Judged Undetected) ∷ Some (Judged Undetected) ∷ Some (Judged (Detected 1)) ∷ Some (Judged Undetected) ∷
    Some (Judged Undetected) ∷ Some (Judged (Detected 1)) ∷ [])

graded : Graded
graded = refl

-- what the definitions give of the texts above
abbrev pub Holds : Type 0
Holds = Found × Graded

pub holds : Holds
holds = (found, graded)
