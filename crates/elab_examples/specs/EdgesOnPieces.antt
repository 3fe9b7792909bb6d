use Rattle.std.specs.Prelude.{◌≡◌, refl, true, false, [], ◌∷◌, Some, None, Ok, codes}
use Rattle.vf_base.specs.declared.finding.Side.TheVariants.{Good}
use Rattle.vf_base.specs.declared.finding.AccessKind.TheVariants.{Write, Ended}
use Rattle.four_value.specs.Values.{bits_of}
use Rattle.four_value.specs.declared.logic.Edge.TheVariants.{Any, Pos}
use Rattle.v_design.specs.declared.logic.ObjectKind.TheVariants.{Var, Net}
use Rattle.four_value.specs.declared.operator.BinaryOperator.TheVariants.{Add, Equal}
use Rattle.v_design.specs.Designs.{VariableBit, TestPlan}
use Rattle.v_design.specs.Grades.{Raced}
use Rattle.v_tree.specs.declared.token.NumberForm.TheVariants.{Plain}
use Rattle.v_tree.specs.Trees.{Number, Selected, Infixed, NoIndex, IndexRange, OneSelect, OnEntries, NullStatement, BlockStatement, WaitStatement, EventStatement, DelayStatement, BlockingStatement}
use Rattle.v_tree.specs.Trees.{NonblockingStatement, FirstContent, WireItem, RegItem, AssignItem, InitialItem, AlwaysItem, PlainHeads, SourceUnit}
use Rattle.v_elab.specs.declared.Mode.TheVariants.{Usual}
use Rattle.v_elab.specs.Flat.{flat}
use Rattle.elab_examples.specs.Build.{at, steps, summary_of, grades_of}

-- module top;
-- reg [3:0] a = 0; wire [3:0] w; reg [2:0] n = 0;
-- assign w[1:0] = a[1:0]; assign w[3:2] = a[3:2];
-- initial begin #1 a = 1; #1 a = 4; #1 a = 15; end
-- always @(w[2:1]) n <= n + 1;
-- initial wait (w == 4) @(posedge w[3:2]) ;
-- endmodule
abbrev source : SourceUnit
source = record {
  modules = (record {
    name = (codes "top");
    place = (at 1 8);
    parameters = ([]);
    heads = (PlainHeads ([]));
    items =
        ((RegItem (at 2 1) false (Some (record { place = (at 2 5); high = (Number (at 2 6) Plain (bits_of 32 3)); low = (Number (at 2 8) Plain (bits_of 32 0)) }))
        (record { name = (codes "a"); place = (at 2 11); content = (FirstContent (Number (at 2 15) Plain (bits_of 32 0))) } ∷ [])) ∷
        (WireItem (at 2 18) false (Some (record { place = (at 2 23); high = (Number (at 2 24) Plain (bits_of 32 3)); low = (Number (at 2 26) Plain (bits_of 32 0)) }))
        (record { name = (codes "w"); place = (at 2 29); value = None } ∷ [])) ∷
        (RegItem (at 2 32) false (Some (record { place = (at 2 36); high = (Number (at 2 37) Plain (bits_of 32 2)); low = (Number (at 2 39) Plain (bits_of 32 0)) }))
        (record { name = (codes "n"); place = (at 2 42); content = (FirstContent (Number (at 2 46) Plain (bits_of 32 0))) } ∷ [])) ∷
        (AssignItem (at 3 1) (record {
          target = (OneSelect (record {
            place = (at 3 8);
            name = (codes "w");
            index = (IndexRange (Number (at 3 10) Plain (bits_of 32 1)) (Number (at 3 12) Plain (bits_of 32 0)));
          }));
          value = (Selected (at 3 17) (codes "a") (IndexRange (Number (at 3 19) Plain (bits_of 32 1)) (Number (at 3 21) Plain (bits_of 32 0))));
        } ∷ [])) ∷
        (AssignItem (at 3 25) (record {
          target = (OneSelect (record {
            place = (at 3 32);
            name = (codes "w");
            index = (IndexRange (Number (at 3 34) Plain (bits_of 32 3)) (Number (at 3 36) Plain (bits_of 32 2)));
          }));
          value = (Selected (at 3 41) (codes "a") (IndexRange (Number (at 3 43) Plain (bits_of 32 3)) (Number (at 3 45) Plain (bits_of 32 2))));
        } ∷ [])) ∷
        (InitialItem (at 4 1) (BlockStatement (at 4 9) (steps ((DelayStatement (at 4 15) (Number (at 4 16) Plain (bits_of 32 1))
        (BlockingStatement (at 4 18) (OneSelect (record { place = (at 4 18); name = (codes "a"); index = NoIndex })) None (Number (at 4 22) Plain (bits_of 32 1)))) ∷
        (DelayStatement (at 4 25) (Number (at 4 26) Plain (bits_of 32 1)) (BlockingStatement (at 4 28) (OneSelect (record { place = (at 4 28); name = (codes "a"); index = NoIndex })) None
        (Number (at 4 32) Plain (bits_of 32 4)))) ∷ (DelayStatement (at 4 35) (Number (at 4 36) Plain (bits_of 32 1))
        (BlockingStatement (at 4 38) (OneSelect (record { place = (at 4 38); name = (codes "a"); index = NoIndex })) None (Number (at 4 42) Plain (bits_of 32 15)))) ∷ [])))) ∷
        (AlwaysItem (at 5 1) (EventStatement (at 5 8) (OnEntries (record {
          edge = Any;
          select =
              record { place = (at 5 10); name = (codes "w"); index = (IndexRange (Number (at 5 12) Plain (bits_of 32 2)) (Number (at 5 14) Plain (bits_of 32 1))) };
        } ∷ []))
        (NonblockingStatement (at 5 18) (OneSelect (record { place = (at 5 18); name = (codes "n"); index = NoIndex })) None
        (Infixed (at 5 23) Add (Selected (at 5 23) (codes "n") NoIndex) (Number (at 5 27) Plain (bits_of 32 1)))))) ∷
        (InitialItem (at 6 1) (WaitStatement (at 6 9) (Infixed (at 6 15) Equal (Selected (at 6 15) (codes "w") NoIndex) (Number (at 6 20) Plain (bits_of 32 4)))
        (EventStatement (at 6 23) (OnEntries (record {
          edge = Pos;
          select = record {
            place = (at 6 33);
            name = (codes "w");
            index = (IndexRange (Number (at 6 35) Plain (bits_of 32 3)) (Number (at 6 37) Plain (bits_of 32 2)));
          };
        } ∷ [])) (NullStatement (at 6 41))))) ∷
        []);
  } ∷ []);
}

abbrev pub Found : Type 0
Found = summary_of (flat source (codes "top") Usual) ≡ Ok (record {
  objects = (record { name = (codes "a"); kind = Var; width = 4; indexes = (3 ∷ 0 ∷ []); place = (at 2 11) } ∷
      record { name = (codes "w"); kind = Net; width = 2; indexes = (1 ∷ 0 ∷ []); place = (at 2 29) } ∷
      record { name = (codes "w"); kind = Net; width = 2; indexes = (3 ∷ 2 ∷ []); place = (at 2 29) } ∷
      record { name = (codes "n"); kind = Var; width = 3; indexes = (2 ∷ 0 ∷ []); place = (at 2 42) } ∷ []);
  nodes = (record { kind = 0; name = []; inputs = (0 ∷ []); outputs = (1 ∷ []) } ∷ record { kind = 0; name = []; inputs = (0 ∷ []); outputs = (2 ∷ []) } ∷ []);
  processes = (false ∷ true ∷ false ∷ []);
  joined = ([]);
})

found : Found
found = refl

abbrev plan : TestPlan
plan = record {
  end = 9;
  strobes = (8 ∷ []);
  watched = (record { object = 3; bit = 2 } ∷ record { object = 3; bit = 1 } ∷ record { object = 3; bit = 0 } ∷ []);
  faults = (record { site = (VariableBit 0 0); value = true } ∷ record { site = (VariableBit 0 2); value = false } ∷ []);
}

abbrev pub Graded : Type 0
Graded = grades_of (flat source (codes "top") Usual) plan ≡ Ok (Some (Raced Good (record {
  time = 2;
  phase = 1;
  first = record { kind = Ended; object = 2; process = 2; line = 6 };
  second = record { kind = Write; object = 2; process = 0; line = 4 };
})) ∷ Some (Raced Good
    (record { time = 2; phase = 1; first = record { kind = Ended; object = 2; process = 2; line = 6 }; second = record { kind = Write; object = 2; process = 0; line = 4 } })) ∷ [])

graded : Graded
graded = refl

-- what the definitions give of the texts above
abbrev pub Holds : Type 0
Holds = Found × Graded

pub holds : Holds
holds = (found, graded)
