use Rattle.std.specs.Prelude.{◌≡◌, refl, true, false, [], ◌∷◌, Some, None, Ok, codes}
use Rattle.four_value.specs.Values.{bits_of}
use Rattle.v_design.specs.declared.logic.ObjectKind.TheVariants.{Var}
use Rattle.four_value.specs.declared.operator.BinaryOperator.TheVariants.{Subtract}
use Rattle.v_design.specs.Designs.{VariableBit, TestPlan}
use Rattle.v_design.specs.Grades.{Judged, Detected}
use Rattle.v_tree.specs.declared.token.NumberForm.TheVariants.{Plain}
use Rattle.v_tree.specs.declared.item.Direction.TheVariants.{Output}
use Rattle.v_tree.specs.Trees.{Number, Selected, Infixed, NoIndex, OneSelect, BlockingStatement, WireItem, InstanceItem, InitialItem, PlainHeads, DeclaredHeads, SourceUnit}
use Rattle.v_elab.specs.declared.Mode.TheVariants.{Usual}
use Rattle.v_elab.specs.Flat.{flat}
use Rattle.elab_examples.specs.Build.{at, summary_of, grades_of}

-- module sub #(parameter W = 2) (output reg [W-1:0] q);
-- initial q = 3;
-- endmodule
-- module top;
-- wire [2:0] n;
-- sub #(3) s(.q(n));
-- endmodule
abbrev source : SourceUnit
source = record {
  modules = (record {
    name = (codes "sub");
    place = (at 1 8);
    parameters = (record {
      place = (at 1 14);
      is_local = false;
      signed = false;
      range = None;
      parameters = (record { name = (codes "W"); place = (at 1 24); value = (Number (at 1 28) Plain (bits_of 32 2)) } ∷ []);
    } ∷ []);
    heads = (DeclaredHeads (record {
      place = (at 1 32);
      direction = Output;
      is_reg = true;
      signed = false;
      range = (Some (record {
        place = (at 1 43);
        high = (Infixed (at 1 44) Subtract (Selected (at 1 44) (codes "W") NoIndex) (Number (at 1 46) Plain (bits_of 32 1)));
        low = (Number (at 1 48) Plain (bits_of 32 0));
      }));
      names = (record { name = (codes "q"); place = (at 1 51) } ∷ []);
    } ∷ []));
    items =
        ((InitialItem (at 2 1) (BlockingStatement (at 2 9) (OneSelect (record { place = (at 2 9); name = (codes "q"); index = NoIndex })) None (Number (at 2 13) Plain (bits_of 32 3)))) ∷
        []);
  } ∷ record {
    name = (codes "top");
    place = (at 4 8);
    parameters = ([]);
    heads = (PlainHeads ([]));
    items =
        ((WireItem (at 5 1) false (Some (record { place = (at 5 6); high = (Number (at 5 7) Plain (bits_of 32 2)); low = (Number (at 5 9) Plain (bits_of 32 0)) }))
        (record { name = (codes "n"); place = (at 5 12); value = None } ∷ [])) ∷
        (InstanceItem (at 6 1) (codes "sub") (record { name = None; place = (at 6 7); actual = (Some (Number (at 6 7) Plain (bits_of 32 3))) } ∷ [])
        (record { name = (codes "s"); place = (at 6 10); connections = (record { name = (Some (codes "q")); place = (at 6 13); actual = (Some (Selected (at 6 15) (codes "n") NoIndex)) } ∷ []) }
        ∷ [])) ∷
        []);
  } ∷ []);
}

abbrev pub Found : Type 0
Found = summary_of (flat source (codes "top") Usual) ≡ Ok (record {
  objects = (record { name = (codes "n"); kind = Var; width = 3; indexes = (2 ∷ 0 ∷ []); place = (at 5 12) } ∷ []);
  nodes = ([]);
  processes = (false ∷ []);
  joined = (record { name = (codes "s.q"); objects = (0 ∷ []) } ∷ []);
})

found : Found
found = refl

abbrev plan : TestPlan
plan = record {
  end = 1;
  strobes = (1 ∷ []);
  watched = (record { object = 0; bit = 2 } ∷ record { object = 0; bit = 1 } ∷ record { object = 0; bit = 0 } ∷ []);
  faults = (record { site = (VariableBit 0 2); value = true } ∷ record { site = (VariableBit 0 0); value = false } ∷ []);
}

abbrev pub Graded : Type 0
Graded = grades_of (flat source (codes "top") Usual) plan ≡ Ok (Some (Judged (Detected 1)) ∷ Some (Judged (Detected 1)) ∷ [])

graded : Graded
graded = refl

-- what the definitions give of the texts above
abbrev pub Holds : Type 0
Holds = Found × Graded

pub holds : Holds
holds = (found, graded)
