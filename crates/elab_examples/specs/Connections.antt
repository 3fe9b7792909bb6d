use Rattle.std.specs.Prelude.{◌≡◌, refl, true, false, [], ◌∷◌, Some, None, Ok, codes}
use Rattle.four_value.specs.Values.{bits_of}
use Rattle.v_design.specs.declared.logic.ObjectKind.TheVariants.{Var, Net}
use Rattle.four_value.specs.declared.operator.BinaryOperator.TheVariants.{Add}
use Rattle.v_design.specs.Designs.{OutputBit, TestPlan}
use Rattle.v_design.specs.Grades.{Judged, Detected, Undetected}
use Rattle.v_tree.specs.declared.token.NumberForm.TheVariants.{Plain}
use Rattle.v_tree.specs.declared.item.Direction.TheVariants.{Input, Output}
use Rattle.v_tree.specs.Trees.{Number, Selected, Infixed, Concatenated, NoIndex, IndexAt, IndexRange, OneSelect, DelayStatement, BlockingStatement, FirstContent, PortItem, WireItem, RegItem}
use Rattle.v_tree.specs.Trees.{AssignItem, InstanceItem, InitialItem, PlainHeads, SourceUnit}
use Rattle.v_elab.specs.declared.Mode.TheVariants.{Usual}
use Rattle.v_elab.specs.Flat.{flat}
use Rattle.elab_examples.specs.Build.{at, parts, summary_of, grades_of}

-- module half(a, b, s);
-- input a; input [1:0] b; output [1:0] s;
-- assign s = b + a;
-- endmodule
-- module top;
-- reg [1:0] x = 1; reg y = 1; wire [3:0] z; wire [1:0] v;
-- half h1(y, x, z[3:2]);
-- half h2(.s(v), .b({y, x[1]}), .a(x[0]));
-- initial #5 x = 2;
-- endmodule
abbrev source : SourceUnit
source = record {
  modules = (record {
    name = (codes "half");
    place = (at 1 8);
    parameters = ([]);
    heads = (PlainHeads (record { name = (codes "a"); place = (at 1 13) } ∷ record { name = (codes "b"); place = (at 1 16) } ∷ record { name = (codes "s"); place = (at 1 19) } ∷ []));
    items =
        ((PortItem (record { place = (at 2 1); direction = Input; is_reg = false; signed = false; range = None; names = (record { name = (codes "a"); place = (at 2 7) } ∷ []) })) ∷
        (PortItem (record {
          place = (at 2 10);
          direction = Input;
          is_reg = false;
          signed = false;
          range = (Some (record { place = (at 2 16); high = (Number (at 2 17) Plain (bits_of 32 1)); low = (Number (at 2 19) Plain (bits_of 32 0)) }));
          names = (record { name = (codes "b"); place = (at 2 22) } ∷ []);
        })) ∷
        (PortItem (record {
          place = (at 2 25);
          direction = Output;
          is_reg = false;
          signed = false;
          range = (Some (record { place = (at 2 32); high = (Number (at 2 33) Plain (bits_of 32 1)); low = (Number (at 2 35) Plain (bits_of 32 0)) }));
          names = (record { name = (codes "s"); place = (at 2 38) } ∷ []);
        })) ∷
        (AssignItem (at 3 1) (record {
          target = (OneSelect (record { place = (at 3 8); name = (codes "s"); index = NoIndex }));
          value = (Infixed (at 3 12) Add (Selected (at 3 12) (codes "b") NoIndex) (Selected (at 3 16) (codes "a") NoIndex));
        } ∷ [])) ∷
        []);
  } ∷ record {
    name = (codes "top");
    place = (at 5 8);
    parameters = ([]);
    heads = (PlainHeads ([]));
    items =
        ((RegItem (at 6 1) false (Some (record { place = (at 6 5); high = (Number (at 6 6) Plain (bits_of 32 1)); low = (Number (at 6 8) Plain (bits_of 32 0)) }))
        (record { name = (codes "x"); place = (at 6 11); content = (FirstContent (Number (at 6 15) Plain (bits_of 32 1))) } ∷ [])) ∷
        (RegItem (at 6 18) false None (record { name = (codes "y"); place = (at 6 22); content = (FirstContent (Number (at 6 26) Plain (bits_of 32 1))) } ∷ [])) ∷
        (WireItem (at 6 29) false (Some (record { place = (at 6 34); high = (Number (at 6 35) Plain (bits_of 32 3)); low = (Number (at 6 37) Plain (bits_of 32 0)) }))
        (record { name = (codes "z"); place = (at 6 40); value = None } ∷ [])) ∷
        (WireItem (at 6 43) false (Some (record { place = (at 6 48); high = (Number (at 6 49) Plain (bits_of 32 1)); low = (Number (at 6 51) Plain (bits_of 32 0)) }))
        (record { name = (codes "v"); place = (at 6 54); value = None } ∷ [])) ∷
        (InstanceItem (at 7 1) (codes "half") ([]) (record {
          name = (codes "h1");
          place = (at 7 6);
          connections = (record { name = None; place = (at 7 9); actual = (Some (Selected (at 7 9) (codes "y") NoIndex)) } ∷
              record { name = None; place = (at 7 12); actual = (Some (Selected (at 7 12) (codes "x") NoIndex)) } ∷
              record { name = None; place = (at 7 15); actual = (Some (Selected (at 7 15) (codes "z") (IndexRange (Number (at 7 17) Plain (bits_of 32 3)) (Number (at 7 19) Plain (bits_of 32 2))))) } ∷
              []);
        } ∷ [])) ∷
        (InstanceItem (at 8 1) (codes "half") ([]) (record {
          name = (codes "h2");
          place = (at 8 6);
          connections = (record { name = (Some (codes "s")); place = (at 8 10); actual = (Some (Selected (at 8 12) (codes "v") NoIndex)) } ∷
              record {
                name = (Some (codes "b"));
                place = (at 8 17);
                actual = (Some (Concatenated (at 8 19)
                    (parts ((Selected (at 8 20) (codes "y") NoIndex) ∷ (Selected (at 8 23) (codes "x") (IndexAt (Number (at 8 25) Plain (bits_of 32 1)))) ∷ []))));
              } ∷
              record { name = (Some (codes "a")); place = (at 8 32); actual = (Some (Selected (at 8 34) (codes "x") (IndexAt (Number (at 8 36) Plain (bits_of 32 0))))) } ∷ []);
        } ∷ [])) ∷
        (InitialItem (at 9 1) (DelayStatement (at 9 9) (Number (at 9 10) Plain (bits_of 32 5))
        (BlockingStatement (at 9 12) (OneSelect (record { place = (at 9 12); name = (codes "x"); index = NoIndex })) None (Number (at 9 16) Plain (bits_of 32 2))))) ∷
        []);
  } ∷ []);
}

abbrev pub Found : Type 0
Found = summary_of (flat source (codes "top") Usual) ≡ Ok (record {
  objects = (record { name = (codes "x"); kind = Var; width = 2; indexes = (1 ∷ 0 ∷ []); place = (at 6 11) } ∷
      record { name = (codes "y"); kind = Var; width = 1; indexes = ([]); place = (at 6 22) } ∷ record { name = (codes "z"); kind = Net; width = 2; indexes = (1 ∷ 0 ∷ []); place = (at 6 40) } ∷
      record { name = (codes "z"); kind = Net; width = 2; indexes = (3 ∷ 2 ∷ []); place = (at 6 40) } ∷
      record { name = (codes "v"); kind = Net; width = 2; indexes = (1 ∷ 0 ∷ []); place = (at 6 54) } ∷
      record { name = (codes "h1.s"); kind = Net; width = 2; indexes = (1 ∷ 0 ∷ []); place = (at 2 38) } ∷ record { name = (codes "h2.a"); kind = Net; width = 1; indexes = ([]); place = (at 2 7) } ∷
      record { name = (codes "h2.b"); kind = Net; width = 2; indexes = (1 ∷ 0 ∷ []); place = (at 2 22) } ∷ []);
  nodes = (record { kind = 0; name = []; inputs = (0 ∷ 1 ∷ []); outputs = (5 ∷ []) } ∷ record { kind = 0; name = []; inputs = (0 ∷ 1 ∷ []); outputs = (7 ∷ []) } ∷
      record { kind = 0; name = []; inputs = (0 ∷ []); outputs = (6 ∷ []) } ∷ record { kind = 0; name = []; inputs = (5 ∷ []); outputs = (3 ∷ []) } ∷
      record { kind = 0; name = []; inputs = (6 ∷ 7 ∷ []); outputs = (4 ∷ []) } ∷ []);
  processes = (false ∷ []);
  joined = (record { name = (codes "h1.a"); objects = (1 ∷ []) } ∷ record { name = (codes "h1.b"); objects = (0 ∷ []) } ∷ record { name = (codes "h2.s"); objects = (4 ∷ []) } ∷ []);
})

found : Found
found = refl

abbrev plan : TestPlan
plan = record {
  end = 9;
  strobes = (2 ∷ 7 ∷ []);
  watched = (record { object = 3; bit = 1 } ∷ record { object = 4; bit = 1 } ∷ record { object = 4; bit = 0 } ∷ []);
  faults = (record { site = (OutputBit 2 6 0); value = false } ∷ record { site = (OutputBit 3 3 0); value = true } ∷ record { site = (OutputBit 0 5 1); value = false } ∷
      record { site = (OutputBit 4 4 0); value = true } ∷ []);
}

abbrev pub Graded : Type 0
Graded = grades_of (flat source (codes "top") Usual) plan ≡ Ok (Some (Judged (Detected 2)) ∷ Some (Judged Undetected) ∷ Some (Judged (Detected 2)) ∷ Some (Judged Undetected) ∷ [])

graded : Graded
graded = refl

-- what the definitions give of the texts above
abbrev pub Holds : Type 0
Holds = Found × Graded

pub holds : Holds
holds = (found, graded)
