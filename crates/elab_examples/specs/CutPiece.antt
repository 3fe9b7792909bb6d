use Rattle.std.specs.Prelude.{◌≡◌, refl, true, false, [], ◌∷◌, Some, None, Ok, codes}
use Rattle.four_value.specs.Values.{bits_of}
use Rattle.v_design.specs.declared.logic.ObjectKind.TheVariants.{Var, Net}
use Rattle.v_design.specs.Designs.{OutputBit, TestPlan}
use Rattle.v_design.specs.Grades.{Judged, Detected}
use Rattle.v_tree.specs.declared.token.NumberForm.TheVariants.{Plain}
use Rattle.v_tree.specs.Trees.{Number, Selected, NoIndex, IndexAt, IndexRange, OneSelect, DelayStatement, BlockingStatement, FirstContent, WireItem, RegItem, AssignItem, InitialItem, PlainHeads}
use Rattle.v_tree.specs.Trees.{SourceUnit}
use Rattle.v_elab.specs.declared.Mode.TheVariants.{Usual}
use Rattle.v_elab.specs.Flat.{flat}
use Rattle.elab_examples.specs.Build.{at, summary_of, grades_of}

-- module top;
-- reg [1:0] a = 1; wire [7:0] w;
-- assign w[3:2] = a;
-- assign w[5] = a[0];
-- initial #3 a = 2;
-- endmodule
abbrev source : SourceUnit
source = record {
  modules = (record {
    name = (codes "top");
    place = (at 1 8);
    parameters = ([]);
    heads = (PlainHeads ([]));
    items =
        ((RegItem (at 2 1) false (Some (record { place = (at 2 5); high = (Number (at 2 6) Plain (bits_of 32 1)); low = (Number (at 2 8) Plain (bits_of 32 0)) }))
        (record { name = (codes "a"); place = (at 2 11); content = (FirstContent (Number (at 2 15) Plain (bits_of 32 1))) } ∷ [])) ∷
        (WireItem (at 2 18) false (Some (record { place = (at 2 23); high = (Number (at 2 24) Plain (bits_of 32 7)); low = (Number (at 2 26) Plain (bits_of 32 0)) }))
        (record { name = (codes "w"); place = (at 2 29); value = None } ∷ [])) ∷
        (AssignItem (at 3 1) (record {
          target = (OneSelect (record {
            place = (at 3 8);
            name = (codes "w");
            index = (IndexRange (Number (at 3 10) Plain (bits_of 32 3)) (Number (at 3 12) Plain (bits_of 32 2)));
          }));
          value = (Selected (at 3 17) (codes "a") NoIndex);
        } ∷ [])) ∷
        (AssignItem (at 4 1) (record {
          target = (OneSelect (record { place = (at 4 8); name = (codes "w"); index = (IndexAt (Number (at 4 10) Plain (bits_of 32 5))) }));
          value = (Selected (at 4 15) (codes "a") (IndexAt (Number (at 4 17) Plain (bits_of 32 0))));
        } ∷ [])) ∷
        (InitialItem (at 5 1) (DelayStatement (at 5 9) (Number (at 5 10) Plain (bits_of 32 3))
        (BlockingStatement (at 5 12) (OneSelect (record { place = (at 5 12); name = (codes "a"); index = NoIndex })) None (Number (at 5 16) Plain (bits_of 32 2))))) ∷
        []);
  } ∷ []);
}

abbrev pub Found : Type 0
Found = summary_of (flat source (codes "top") Usual) ≡ Ok (record {
  objects = (record { name = (codes "a"); kind = Var; width = 2; indexes = (1 ∷ 0 ∷ []); place = (at 2 11) } ∷
      record { name = (codes "w"); kind = Net; width = 2; indexes = (1 ∷ 0 ∷ []); place = (at 2 29) } ∷
      record { name = (codes "w"); kind = Net; width = 2; indexes = (3 ∷ 2 ∷ []); place = (at 2 29) } ∷
      record { name = (codes "w"); kind = Net; width = 1; indexes = (4 ∷ 4 ∷ []); place = (at 2 29) } ∷
      record { name = (codes "w"); kind = Net; width = 1; indexes = (5 ∷ 5 ∷ []); place = (at 2 29) } ∷
      record { name = (codes "w"); kind = Net; width = 2; indexes = (7 ∷ 6 ∷ []); place = (at 2 29) } ∷ []);
  nodes = (record { kind = 0; name = []; inputs = (0 ∷ []); outputs = (2 ∷ []) } ∷ record { kind = 0; name = []; inputs = (0 ∷ []); outputs = (4 ∷ []) } ∷ []);
  processes = (false ∷ []);
  joined = ([]);
})

found : Found
found = refl

abbrev plan : TestPlan
plan = record {
  end = 9;
  strobes = (1 ∷ 5 ∷ []);
  watched = (record { object = 2; bit = 1 } ∷ record { object = 4; bit = 0 } ∷ []);
  faults = (record { site = (OutputBit 0 2 1); value = false } ∷ record { site = (OutputBit 1 4 0); value = true } ∷ []);
}

abbrev pub Graded : Type 0
Graded = grades_of (flat source (codes "top") Usual) plan ≡ Ok (Some (Judged (Detected 5)) ∷ Some (Judged (Detected 5)) ∷ [])

graded : Graded
graded = refl

-- what the definitions give of the texts above
abbrev pub Holds : Type 0
Holds = Found × Graded

pub holds : Holds
holds = (found, graded)
