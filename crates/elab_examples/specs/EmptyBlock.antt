use Rattle.std.specs.Prelude.{◌≡◌, refl, true, false, [], ◌∷◌, Some, None, Ok, codes}
use Rattle.four_value.specs.Values.{bits_of}
use Rattle.four_value.specs.declared.logic.Edge.TheVariants.{Any}
use Rattle.v_design.specs.declared.logic.ObjectKind.TheVariants.{Var, Net}
use Rattle.v_tree.specs.declared.token.NumberForm.TheVariants.{Plain}
use Rattle.v_tree.specs.Trees.{Number, Selected, NoIndex, IndexAt, OneSelect, OnAnyRead, OnEntries, NullStatement, IfElseStatement, EventStatement, BlockingStatement, IgnoredTask, NoContent}
use Rattle.v_tree.specs.Trees.{FirstContent, WireItem, RegItem, AssignItem, AlwaysItem, PlainHeads, SourceUnit}
use Rattle.v_elab.specs.declared.Mode.TheVariants.{Usual}
use Rattle.v_elab.specs.Flat.{flat}
use Rattle.elab_examples.specs.Build.{at, summary_of}

-- module top;
-- reg a = 0, b; wire [1:0] w;
-- always @* ;
-- always @(a) $display;
-- assign w[5] = a;
-- always @(a or b) if (b) ; else b = a;
-- endmodule
abbrev source : SourceUnit
source = record {
  modules = (record {
    name = (codes "top");
    place = (at 1 8);
    parameters = ([]);
    heads = (PlainHeads ([]));
    items =
        ((RegItem (at 2 1) false None (record { name = (codes "a"); place = (at 2 5); content = (FirstContent (Number (at 2 9) Plain (bits_of 32 0))) } ∷
        record { name = (codes "b"); place = (at 2 12); content = NoContent } ∷ [])) ∷
        (WireItem (at 2 15) false (Some (record { place = (at 2 20); high = (Number (at 2 21) Plain (bits_of 32 1)); low = (Number (at 2 23) Plain (bits_of 32 0)) }))
        (record { name = (codes "w"); place = (at 2 26); value = None } ∷ [])) ∷
        (AlwaysItem (at 3 1) (EventStatement (at 3 8) OnAnyRead (NullStatement (at 3 11)))) ∷
        (AlwaysItem (at 4 1) (EventStatement (at 4 8) (OnEntries (record { edge = Any; select = record { place = (at 4 10); name = (codes "a"); index = NoIndex } } ∷ [])) (IgnoredTask (at 4 13)))) ∷
        (AssignItem (at 5 1) (record {
          target = (OneSelect (record { place = (at 5 8); name = (codes "w"); index = (IndexAt (Number (at 5 10) Plain (bits_of 32 5))) }));
          value = (Selected (at 5 15) (codes "a") NoIndex);
        } ∷ [])) ∷
        (AlwaysItem (at 6 1) (EventStatement (at 6 8) (OnEntries (record { edge = Any; select = record { place = (at 6 10); name = (codes "a"); index = NoIndex } } ∷
        record { edge = Any; select = record { place = (at 6 15); name = (codes "b"); index = NoIndex } } ∷ []))
        (IfElseStatement (at 6 18) (Selected (at 6 22) (codes "b") NoIndex) (NullStatement (at 6 25))
        (BlockingStatement (at 6 32) (OneSelect (record { place = (at 6 32); name = (codes "b"); index = NoIndex })) None (Selected (at 6 36) (codes "a") NoIndex))))) ∷
        []);
  } ∷ []);
}

abbrev pub Found : Type 0
Found = summary_of (flat source (codes "top") Usual) ≡ Ok (record {
  objects = (record { name = (codes "a"); kind = Var; width = 1; indexes = ([]); place = (at 2 5) } ∷
      record { name = (codes "b"); kind = Var; width = 1; indexes = ([]); place = (at 2 12) } ∷ record { name = (codes "w"); kind = Net; width = 2; indexes = (1 ∷ 0 ∷ []); place = (at 2 26) } ∷ []);
  nodes = (record { kind = 2; name = []; inputs = ([]); outputs = ([]) } ∷ record { kind = 2; name = []; inputs = ([]); outputs = ([]) } ∷
      record { kind = 0; name = []; inputs = (0 ∷ []); outputs = ([]) } ∷ []);
  processes = (true ∷ []);
  joined = ([]);
})

found : Found
found = refl

-- what the definitions give of the texts above
abbrev pub Holds : Type 0
Holds = Found

pub holds : Holds
holds = found
