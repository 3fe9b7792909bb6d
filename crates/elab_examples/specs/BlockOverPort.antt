use Rattle.std.specs.Prelude.{◌≡◌, refl, true, false, [], ◌∷◌, Some, None, Ok, codes}
use Rattle.four_value.specs.Values.{bits_of}
use Rattle.v_design.specs.declared.logic.ObjectKind.TheVariants.{Var, Net}
use Rattle.four_value.specs.declared.operator.UnaryOperator.TheVariants.{BitwiseNot}
use Rattle.v_design.specs.Designs.{VariableBit, OutputBit, TestPlan}
use Rattle.v_design.specs.Grades.{Judged, Detected}
use Rattle.v_tree.specs.declared.token.NumberForm.TheVariants.{Plain}
use Rattle.v_tree.specs.declared.item.Direction.TheVariants.{Input, Output}
use Rattle.v_tree.specs.Trees.{Number, Selected, Prefixed, NoIndex, OneSelect, OnAnyRead, EventStatement, DelayStatement, BlockingStatement, FirstContent, WireItem, RegItem, InstanceItem}
use Rattle.v_tree.specs.Trees.{InitialItem, AlwaysItem, PlainHeads, DeclaredHeads, SourceUnit}
use Rattle.v_elab.specs.declared.Mode.TheVariants.{Usual}
use Rattle.v_elab.specs.Flat.{flat}
use Rattle.elab_examples.specs.Build.{at, summary_of, grades_of}

-- module s(input a, output reg y);
-- always @* y = ~a;
-- endmodule
-- module top;
-- reg a = 0; wire y;
-- s i(a, y);
-- initial #3 a = 1;
-- endmodule
abbrev source : SourceUnit
source = record {
  modules = (record {
    name = (codes "s");
    place = (at 1 8);
    parameters = ([]);
    heads = (DeclaredHeads (record { place = (at 1 10); direction = Input; is_reg = false; signed = false; range = None; names = (record { name = (codes "a"); place = (at 1 16) } ∷ []) } ∷
        record { place = (at 1 19); direction = Output; is_reg = true; signed = false; range = None; names = (record { name = (codes "y"); place = (at 1 30) } ∷ []) } ∷ []));
    items =
        ((AlwaysItem (at 2 1) (EventStatement (at 2 8) OnAnyRead (BlockingStatement (at 2 11) (OneSelect (record { place = (at 2 11); name = (codes "y"); index = NoIndex })) None
        (Prefixed (at 2 15) BitwiseNot (Selected (at 2 16) (codes "a") NoIndex))))) ∷
        []);
  } ∷ record {
    name = (codes "top");
    place = (at 4 8);
    parameters = ([]);
    heads = (PlainHeads ([]));
    items =
        ((RegItem (at 5 1) false None (record { name = (codes "a"); place = (at 5 5); content = (FirstContent (Number (at 5 9) Plain (bits_of 32 0))) } ∷ [])) ∷
        (WireItem (at 5 12) false None (record { name = (codes "y"); place = (at 5 17); value = None } ∷ [])) ∷
        (InstanceItem (at 6 1) (codes "s") ([]) (record {
          name = (codes "i");
          place = (at 6 3);
          connections = (record { name = None; place = (at 6 5); actual = (Some (Selected (at 6 5) (codes "a") NoIndex)) } ∷
              record { name = None; place = (at 6 8); actual = (Some (Selected (at 6 8) (codes "y") NoIndex)) } ∷ []);
        } ∷ [])) ∷
        (InitialItem (at 7 1) (DelayStatement (at 7 9) (Number (at 7 10) Plain (bits_of 32 3))
        (BlockingStatement (at 7 12) (OneSelect (record { place = (at 7 12); name = (codes "a"); index = NoIndex })) None (Number (at 7 16) Plain (bits_of 32 1))))) ∷
        []);
  } ∷ []);
}

abbrev pub Found : Type 0
Found = summary_of (flat source (codes "top") Usual) ≡ Ok (record {
  objects = (record { name = (codes "a"); kind = Var; width = 1; indexes = ([]); place = (at 5 5) } ∷
      record { name = (codes "y"); kind = Net; width = 1; indexes = ([]); place = (at 5 17) } ∷ []);
  nodes = (record { kind = 2; name = []; inputs = (0 ∷ []); outputs = (1 ∷ []) } ∷ []);
  processes = (false ∷ []);
  joined = (record { name = (codes "i.a"); objects = (0 ∷ []) } ∷ record { name = (codes "i.y"); objects = (1 ∷ []) } ∷ []);
})

found : Found
found = refl

abbrev plan : TestPlan
plan = record {
  end = 9;
  strobes = (2 ∷ 5 ∷ []);
  watched = (record { object = 1; bit = 0 } ∷ []);
  faults = (record { site = (OutputBit 0 1 0); value = false } ∷ record { site = (VariableBit 0 0); value = true } ∷ []);
}

abbrev pub Graded : Type 0
Graded = grades_of (flat source (codes "top") Usual) plan ≡ Ok (Some (Judged (Detected 2)) ∷ Some (Judged (Detected 2)) ∷ [])

graded : Graded
graded = refl

-- what the definitions give of the texts above
abbrev pub Holds : Type 0
Holds = Found × Graded

pub holds : Holds
holds = (found, graded)
