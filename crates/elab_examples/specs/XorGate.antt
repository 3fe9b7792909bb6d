use Rattle.std.specs.Prelude.{◌≡◌, refl, false, [], ◌∷◌, Some, None, Ok, codes}
use Rattle.four_value.specs.Values.{bits_of}
use Rattle.v_design.specs.declared.logic.ObjectKind.TheVariants.{Var, Net}
use Rattle.four_value.specs.declared.operator.GateKind.TheVariants.{Xor}
use Rattle.v_design.specs.Designs.{OutputBit, GateTerminal, TestPlan}
use Rattle.v_design.specs.Grades.{Judged, Detected}
use Rattle.v_tree.specs.declared.token.NumberForm.TheVariants.{Plain}
use Rattle.v_tree.specs.Trees.{Number, Selected, NoIndex, OneSelect, BlockStatement, DelayStatement, BlockingStatement, FirstContent, WireItem, RegItem, GateItem, InitialItem, PlainHeads, SourceUnit}
use Rattle.v_elab.specs.declared.Mode.TheVariants.{Usual}
use Rattle.v_elab.specs.Flat.{flat}
use Rattle.elab_examples.specs.Build.{at, steps, summary_of, grades_of}

-- module top;
-- reg a = 0, b = 0; wire y;
-- xor x1(y, a, b);
-- initial begin #10 b = 1; #10 a = 1; #10 b = 0; end
-- endmodule
abbrev source : SourceUnit
source = record {
  modules = (record {
    name = (codes "top");
    place = (at 1 8);
    parameters = ([]);
    heads = (PlainHeads ([]));
    items =
        ((RegItem (at 2 1) false None (record { name = (codes "a"); place = (at 2 5); content = (FirstContent (Number (at 2 9) Plain (bits_of 32 0))) } ∷
        record { name = (codes "b"); place = (at 2 12); content = (FirstContent (Number (at 2 16) Plain (bits_of 32 0))) } ∷ [])) ∷
        (WireItem (at 2 19) false None (record { name = (codes "y"); place = (at 2 24); value = None } ∷ [])) ∷
        (GateItem (at 3 1) Xor (record {
          name = (Some (record { name = (codes "x1"); place = (at 3 5) }));
          output = (OneSelect (record { place = (at 3 8); name = (codes "y"); index = NoIndex }));
          inputs = ((Selected (at 3 11) (codes "a") NoIndex) ∷ (Selected (at 3 14) (codes "b") NoIndex) ∷ []);
        } ∷ [])) ∷
        (InitialItem (at 4 1) (BlockStatement (at 4 9) (steps ((DelayStatement (at 4 15) (Number (at 4 16) Plain (bits_of 32 10))
        (BlockingStatement (at 4 19) (OneSelect (record { place = (at 4 19); name = (codes "b"); index = NoIndex })) None (Number (at 4 23) Plain (bits_of 32 1)))) ∷
        (DelayStatement (at 4 26) (Number (at 4 27) Plain (bits_of 32 10)) (BlockingStatement (at 4 30) (OneSelect (record { place = (at 4 30); name = (codes "a"); index = NoIndex })) None
        (Number (at 4 34) Plain (bits_of 32 1)))) ∷ (DelayStatement (at 4 37) (Number (at 4 38) Plain (bits_of 32 10))
        (BlockingStatement (at 4 41) (OneSelect (record { place = (at 4 41); name = (codes "b"); index = NoIndex })) None (Number (at 4 45) Plain (bits_of 32 0)))) ∷ [])))) ∷
        []);
  } ∷ []);
}

abbrev pub Found : Type 0
Found = summary_of (flat source (codes "top") Usual) ≡ Ok (record {
  objects = (record { name = (codes "a"); kind = Var; width = 1; indexes = ([]); place = (at 2 5) } ∷
      record { name = (codes "b"); kind = Var; width = 1; indexes = ([]); place = (at 2 12) } ∷ record { name = (codes "y"); kind = Net; width = 1; indexes = ([]); place = (at 2 24) } ∷ []);
  nodes = (record { kind = 1; name = (codes "x1"); inputs = (0 ∷ 1 ∷ []); outputs = (2 ∷ []) } ∷ []);
  processes = (false ∷ []);
  joined = ([]);
})

found : Found
found = refl

abbrev plan : TestPlan
plan = record {
  end = 40;
  strobes = (5 ∷ 15 ∷ 25 ∷ 35 ∷ []);
  watched = (record { object = 2; bit = 0 } ∷ []);
  faults = (record { site = (GateTerminal 0 1); value = false } ∷ record { site = (OutputBit 0 2 0); value = false } ∷ []);
}

abbrev pub Graded : Type 0
Graded = grades_of (flat source (codes "top") Usual) plan ≡ Ok (Some (Judged (Detected 25)) ∷ Some (Judged (Detected 15)) ∷ [])

graded : Graded
graded = refl

-- what the definitions give of the texts above
abbrev pub Holds : Type 0
Holds = Found × Graded

pub holds : Holds
holds = (found, graded)
