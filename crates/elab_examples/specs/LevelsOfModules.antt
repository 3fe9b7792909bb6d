use Rattle.std.specs.Prelude.{◌≡◌, refl, true, false, [], ◌∷◌, Some, None, Ok, codes}
use Rattle.four_value.specs.Values.{bits_of}
use Rattle.v_design.specs.declared.logic.ObjectKind.TheVariants.{Var, Net}
use Rattle.four_value.specs.declared.operator.UnaryOperator.TheVariants.{BitwiseNot}
use Rattle.v_design.specs.Designs.{VariableBit, OutputBit, TestPlan}
use Rattle.v_design.specs.Grades.{Judged, Detected, Undetected}
use Rattle.v_tree.specs.declared.token.NumberForm.TheVariants.{Plain}
use Rattle.v_tree.specs.declared.item.Direction.TheVariants.{Input, Output}
use Rattle.v_tree.specs.Trees.{Number, Selected, Prefixed, Concatenated, NoIndex, IndexAt, OneSelect, FirstContent, WireItem, RegItem, AssignItem, InstanceItem, PlainHeads, DeclaredHeads, SourceUnit}
use Rattle.v_elab.specs.declared.Mode.TheVariants.{Usual}
use Rattle.v_elab.specs.Flat.{flat}
use Rattle.elab_examples.specs.Build.{at, parts, summary_of, grades_of}

-- module a(input x, output y);
-- b b1(x, y);
-- endmodule
-- module b(input x, output y);
-- assign y = ~x;
-- endmodule
-- module top;
-- reg r = 0; wire [1:0] z; wire u;
-- a a1(r, z[0]);
-- a a2(.x(z[0]), .y(u));
-- a a3({u}, z[1]);
-- endmodule
abbrev source : SourceUnit
source = record {
  modules = (record {
    name = (codes "a");
    place = (at 1 8);
    parameters = ([]);
    heads = (DeclaredHeads (record { place = (at 1 10); direction = Input; is_reg = false; signed = false; range = None; names = (record { name = (codes "x"); place = (at 1 16) } ∷ []) } ∷
        record { place = (at 1 19); direction = Output; is_reg = false; signed = false; range = None; names = (record { name = (codes "y"); place = (at 1 26) } ∷ []) } ∷ []));
    items =
        ((InstanceItem (at 2 1) (codes "b") ([]) (record {
          name = (codes "b1");
          place = (at 2 3);
          connections = (record { name = None; place = (at 2 6); actual = (Some (Selected (at 2 6) (codes "x") NoIndex)) } ∷
              record { name = None; place = (at 2 9); actual = (Some (Selected (at 2 9) (codes "y") NoIndex)) } ∷ []);
        } ∷ [])) ∷
        []);
  } ∷ record {
    name = (codes "b");
    place = (at 4 8);
    parameters = ([]);
    heads = (DeclaredHeads (record { place = (at 4 10); direction = Input; is_reg = false; signed = false; range = None; names = (record { name = (codes "x"); place = (at 4 16) } ∷ []) } ∷
        record { place = (at 4 19); direction = Output; is_reg = false; signed = false; range = None; names = (record { name = (codes "y"); place = (at 4 26) } ∷ []) } ∷ []));
    items =
        ((AssignItem (at 5 1) (record {
          target = (OneSelect (record { place = (at 5 8); name = (codes "y"); index = NoIndex }));
          value = (Prefixed (at 5 12) BitwiseNot (Selected (at 5 13) (codes "x") NoIndex));
        } ∷ [])) ∷
        []);
  } ∷ record {
    name = (codes "top");
    place = (at 7 8);
    parameters = ([]);
    heads = (PlainHeads ([]));
    items =
        ((RegItem (at 8 1) false None (record { name = (codes "r"); place = (at 8 5); content = (FirstContent (Number (at 8 9) Plain (bits_of 32 0))) } ∷ [])) ∷
        (WireItem (at 8 12) false (Some (record { place = (at 8 17); high = (Number (at 8 18) Plain (bits_of 32 1)); low = (Number (at 8 20) Plain (bits_of 32 0)) }))
        (record { name = (codes "z"); place = (at 8 23); value = None } ∷ [])) ∷
        (WireItem (at 8 26) false None (record { name = (codes "u"); place = (at 8 31); value = None } ∷ [])) ∷
        (InstanceItem (at 9 1) (codes "a") ([]) (record {
          name = (codes "a1");
          place = (at 9 3);
          connections = (record { name = None; place = (at 9 6); actual = (Some (Selected (at 9 6) (codes "r") NoIndex)) } ∷
              record { name = None; place = (at 9 9); actual = (Some (Selected (at 9 9) (codes "z") (IndexAt (Number (at 9 11) Plain (bits_of 32 0))))) } ∷ []);
        } ∷ [])) ∷
        (InstanceItem (at 10 1) (codes "a") ([]) (record {
          name = (codes "a2");
          place = (at 10 3);
          connections = (record { name = (Some (codes "x")); place = (at 10 7); actual = (Some (Selected (at 10 9) (codes "z") (IndexAt (Number (at 10 11) Plain (bits_of 32 0))))) } ∷
              record { name = (Some (codes "y")); place = (at 10 17); actual = (Some (Selected (at 10 19) (codes "u") NoIndex)) } ∷ []);
        } ∷ [])) ∷
        (InstanceItem (at 11 1) (codes "a") ([]) (record {
          name = (codes "a3");
          place = (at 11 3);
          connections = (record { name = None; place = (at 11 6); actual = (Some (Concatenated (at 11 6) (parts ((Selected (at 11 7) (codes "u") NoIndex) ∷ [])))) } ∷
              record { name = None; place = (at 11 11); actual = (Some (Selected (at 11 11) (codes "z") (IndexAt (Number (at 11 13) Plain (bits_of 32 1))))) } ∷ []);
        } ∷ [])) ∷
        []);
  } ∷ []);
}

abbrev pub Found : Type 0
Found = summary_of (flat source (codes "top") Usual) ≡ Ok (record {
  objects = (record { name = (codes "r"); kind = Var; width = 1; indexes = ([]); place = (at 8 5) } ∷
      record { name = (codes "z"); kind = Net; width = 1; indexes = (0 ∷ 0 ∷ []); place = (at 8 23) } ∷
      record { name = (codes "z"); kind = Net; width = 1; indexes = (1 ∷ 1 ∷ []); place = (at 8 23) } ∷ record { name = (codes "u"); kind = Net; width = 1; indexes = ([]); place = (at 8 31) } ∷
      record { name = (codes "a1.y"); kind = Net; width = 1; indexes = ([]); place = (at 1 26) } ∷ record { name = (codes "a2.x"); kind = Net; width = 1; indexes = ([]); place = (at 1 16) } ∷
      record { name = (codes "a3.x"); kind = Net; width = 1; indexes = ([]); place = (at 1 16) } ∷ record { name = (codes "a3.y"); kind = Net; width = 1; indexes = ([]); place = (at 1 26) } ∷ []);
  nodes = (record { kind = 0; name = []; inputs = (0 ∷ []); outputs = (4 ∷ []) } ∷ record { kind = 0; name = []; inputs = (4 ∷ []); outputs = (1 ∷ []) } ∷
      record { kind = 0; name = []; inputs = (1 ∷ []); outputs = (5 ∷ []) } ∷ record { kind = 0; name = []; inputs = (5 ∷ []); outputs = (3 ∷ []) } ∷
      record { kind = 0; name = []; inputs = (3 ∷ []); outputs = (6 ∷ []) } ∷ record { kind = 0; name = []; inputs = (6 ∷ []); outputs = (7 ∷ []) } ∷
      record { kind = 0; name = []; inputs = (7 ∷ []); outputs = (2 ∷ []) } ∷ []);
  processes = ([]);
  joined = (record { name = (codes "a1.x"); objects = (0 ∷ []) } ∷ record { name = (codes "a1.b1.x"); objects = (0 ∷ []) } ∷ record { name = (codes "a1.b1.y"); objects = (4 ∷ []) } ∷
      record { name = (codes "a2.y"); objects = (3 ∷ []) } ∷ record { name = (codes "a2.b1.x"); objects = (5 ∷ []) } ∷ record { name = (codes "a2.b1.y"); objects = (3 ∷ []) } ∷
      record { name = (codes "a3.b1.x"); objects = (6 ∷ []) } ∷ record { name = (codes "a3.b1.y"); objects = (7 ∷ []) } ∷ []);
})

found : Found
found = refl

abbrev plan : TestPlan
plan = record {
  end = 2;
  strobes = (1 ∷ []);
  watched = (record { object = 2; bit = 0 } ∷ record { object = 1; bit = 0 } ∷ record { object = 3; bit = 0 } ∷ []);
  faults = (record { site = (VariableBit 0 0); value = true } ∷ record { site = (OutputBit 4 6 0); value = false } ∷ record { site = (OutputBit 3 3 0); value = true } ∷ []);
}

abbrev pub Graded : Type 0
Graded = grades_of (flat source (codes "top") Usual) plan ≡ Ok (Some (Judged (Detected 1)) ∷ Some (Judged Undetected) ∷ Some (Judged (Detected 1)) ∷ [])

graded : Graded
graded = refl

-- what the definitions give of the texts above
abbrev pub Holds : Type 0
Holds = Found × Graded

pub holds : Holds
holds = (found, graded)
