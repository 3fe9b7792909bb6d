use Rattle.std.specs.Prelude.{◌≡◌, refl, true, false, [], ◌∷◌, Some, None, Ok, codes}
use Rattle.vf_base.specs.declared.finding.Side.TheVariants.{Good}
use Rattle.vf_base.specs.declared.finding.AccessKind.TheVariants.{Held, Settle}
use Rattle.four_value.specs.Values.{bits_of}
use Rattle.four_value.specs.declared.logic.Edge.TheVariants.{Pos, Neg}
use Rattle.v_design.specs.declared.logic.ObjectKind.TheVariants.{Var, Net}
use Rattle.four_value.specs.declared.operator.UnaryOperator.TheVariants.{BitwiseNot}
use Rattle.v_design.specs.Designs.{VariableBit, OutputBit, TestPlan}
use Rattle.v_design.specs.Grades.{Judged, Raced, Detected}
use Rattle.v_tree.specs.declared.token.NumberForm.TheVariants.{Plain, Sized}
use Rattle.v_tree.specs.Trees.{Number, Selected, Prefixed, Concatenated, NoIndex, IndexAt, IndexRange, OneSelect, JoinedSelects, OnEntries, EventStatement, DelayStatement, BlockingStatement}
use Rattle.v_tree.specs.Trees.{FirstContent, WireItem, RegItem, AssignItem, InitialItem, AlwaysItem, PlainHeads, SourceUnit}
use Rattle.v_elab.specs.declared.Mode.TheVariants.{Usual}
use Rattle.v_elab.specs.Flat.{flat}
use Rattle.elab_examples.specs.Build.{at, parts, summary_of, grades_of}

-- module top;
-- reg [0:3] a = 4'b0010; wire [5:2] w; wire [2:5] v; reg q = 0;
-- assign w[5:3] = a[0:2];
-- assign {v[2], v[4:5]} = {w[3], a[3], w[4]};
-- initial #3 a = 9;
-- always @(posedge v[2] or negedge w) q = ~q;
-- endmodule
abbrev source : SourceUnit
source = record {
  modules = (record {
    name = (codes "top");
    place = (at 1 8);
    parameters = ([]);
    heads = (PlainHeads ([]));
    items =
        ((RegItem (at 2 1) false (Some (record { place = (at 2 5); high = (Number (at 2 6) Plain (bits_of 32 0)); low = (Number (at 2 8) Plain (bits_of 32 3)) }))
        (record { name = (codes "a"); place = (at 2 11); content = (FirstContent (Number (at 2 15) Sized (bits_of 4 2))) } ∷ [])) ∷
        (WireItem (at 2 24) false (Some (record { place = (at 2 29); high = (Number (at 2 30) Plain (bits_of 32 5)); low = (Number (at 2 32) Plain (bits_of 32 2)) }))
        (record { name = (codes "w"); place = (at 2 35); value = None } ∷ [])) ∷
        (WireItem (at 2 38) false (Some (record { place = (at 2 43); high = (Number (at 2 44) Plain (bits_of 32 2)); low = (Number (at 2 46) Plain (bits_of 32 5)) }))
        (record { name = (codes "v"); place = (at 2 49); value = None } ∷ [])) ∷
        (RegItem (at 2 52) false None (record { name = (codes "q"); place = (at 2 56); content = (FirstContent (Number (at 2 60) Plain (bits_of 32 0))) } ∷ [])) ∷
        (AssignItem (at 3 1) (record {
          target = (OneSelect (record {
            place = (at 3 8);
            name = (codes "w");
            index = (IndexRange (Number (at 3 10) Plain (bits_of 32 5)) (Number (at 3 12) Plain (bits_of 32 3)));
          }));
          value = (Selected (at 3 17) (codes "a") (IndexRange (Number (at 3 19) Plain (bits_of 32 0)) (Number (at 3 21) Plain (bits_of 32 2))));
        } ∷ [])) ∷
        (AssignItem (at 4 1) (record {
          target = (JoinedSelects (at 4 8) (record { place = (at 4 9); name = (codes "v"); index = (IndexAt (Number (at 4 11) Plain (bits_of 32 2))) } ∷
              record { place = (at 4 15); name = (codes "v"); index = (IndexRange (Number (at 4 17) Plain (bits_of 32 4)) (Number (at 4 19) Plain (bits_of 32 5))) } ∷ []));
          value = (Concatenated (at 4 25) (parts ((Selected (at 4 26) (codes "w") (IndexAt (Number (at 4 28) Plain (bits_of 32 3)))) ∷
              (Selected (at 4 32) (codes "a") (IndexAt (Number (at 4 34) Plain (bits_of 32 3)))) ∷ (Selected (at 4 38) (codes "w") (IndexAt (Number (at 4 40) Plain (bits_of 32 4)))) ∷ [])));
        } ∷ [])) ∷
        (InitialItem (at 5 1) (DelayStatement (at 5 9) (Number (at 5 10) Plain (bits_of 32 3))
        (BlockingStatement (at 5 12) (OneSelect (record { place = (at 5 12); name = (codes "a"); index = NoIndex })) None (Number (at 5 16) Plain (bits_of 32 9))))) ∷
        (AlwaysItem (at 6 1) (EventStatement (at 6 8) (OnEntries (record {
          edge = Pos;
          select =
              record { place = (at 6 18); name = (codes "v"); index = (IndexAt (Number (at 6 20) Plain (bits_of 32 2))) };
        } ∷
        record { edge = Neg; select = record { place = (at 6 34); name = (codes "w"); index = NoIndex } } ∷ []))
        (BlockingStatement (at 6 37) (OneSelect (record { place = (at 6 37); name = (codes "q"); index = NoIndex })) None
        (Prefixed (at 6 41) BitwiseNot (Selected (at 6 42) (codes "q") NoIndex))))) ∷
        []);
  } ∷ []);
}

abbrev pub Found : Type 0
Found = summary_of (flat source (codes "top") Usual) ≡ Ok (record {
  objects = (record { name = (codes "a"); kind = Var; width = 4; indexes = (0 ∷ 3 ∷ []); place = (at 2 11) } ∷
      record { name = (codes "w"); kind = Net; width = 1; indexes = (2 ∷ 2 ∷ []); place = (at 2 35) } ∷
      record { name = (codes "w"); kind = Net; width = 3; indexes = (5 ∷ 3 ∷ []); place = (at 2 35) } ∷
      record { name = (codes "v"); kind = Net; width = 2; indexes = (4 ∷ 5 ∷ []); place = (at 2 49) } ∷
      record { name = (codes "v"); kind = Net; width = 1; indexes = (3 ∷ 3 ∷ []); place = (at 2 49) } ∷
      record { name = (codes "v"); kind = Net; width = 1; indexes = (2 ∷ 2 ∷ []); place = (at 2 49) } ∷ record { name = (codes "q"); kind = Var; width = 1; indexes = ([]); place = (at 2 56) } ∷ []);
  nodes = (record { kind = 0; name = []; inputs = (0 ∷ []); outputs = (2 ∷ []) } ∷ record { kind = 0; name = []; inputs = (0 ∷ 2 ∷ []); outputs = (3 ∷ 5 ∷ []) } ∷ []);
  processes = (false ∷ true ∷ []);
  joined = ([]);
})

found : Found
found = refl

abbrev plan : TestPlan
plan = record {
  end = 9;
  strobes = (1 ∷ 5 ∷ []);
  watched = (record { object = 2; bit = 2 } ∷ record { object = 2; bit = 1 } ∷ record { object = 2; bit = 0 } ∷ record { object = 1; bit = 0 } ∷
      record { object = 5; bit = 0 } ∷ record { object = 4; bit = 0 } ∷ record { object = 3; bit = 1 } ∷ record { object = 3; bit = 0 } ∷ record { object = 6; bit = 0 } ∷ []);
  faults = (record { site = (OutputBit 0 2 2); value = true } ∷ record { site = (OutputBit 1 3 1); value = false } ∷ record { site = (VariableBit 0 3); value = false } ∷ []);
}

abbrev pub Graded : Type 0
Graded = grades_of (flat source (codes "top") Usual) plan ≡ Ok (Some (Judged (Detected 1)) ∷
    Some (Raced Good (record { time = 3; phase = 1; first = record { kind = Held; object = 5; process = 1; line = 6 }; second = record { kind = Settle; object = 5; process = 0; line = 5 } })) ∷
    Some (Raced Good (record { time = 3; phase = 1; first = record { kind = Held; object = 5; process = 1; line = 6 }; second = record { kind = Settle; object = 5; process = 0; line = 5 } })) ∷ [])

graded : Graded
graded = refl

-- what the definitions give of the texts above
abbrev pub Holds : Type 0
Holds = Found × Graded

pub holds : Holds
holds = (found, graded)
