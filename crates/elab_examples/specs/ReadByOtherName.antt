use Rattle.std.specs.Prelude.{◌≡◌, refl, true, false, [], ◌∷◌, Some, None, Ok, codes}
use Rattle.v_design.specs.declared.logic.ObjectKind.TheVariants.{Var}
use Rattle.v_tree.specs.declared.item.Direction.TheVariants.{Input, Output}
use Rattle.v_tree.specs.Trees.{Selected, NoIndex, OneSelect, OnAnyRead, EventStatement, BlockingStatement, WireItem, InstanceItem, AlwaysItem, PlainHeads, DeclaredHeads, SourceUnit}
use Rattle.v_elab.specs.declared.Mode.TheVariants.{Usual}
use Rattle.v_elab.specs.Flat.{flat}
use Rattle.elab_examples.specs.Build.{at, summary_of}

-- module c(output reg t, input i);
-- always @* t = i;
-- endmodule
-- module top;
-- wire p;
-- c x(.t(p), .i(p));
-- endmodule
-- The block reads its target by the name of another port, so it is a process.
abbrev source : SourceUnit
source = record {
  modules = (record {
    name = (codes "c");
    place = (at 1 8);
    parameters = ([]);
    heads = (DeclaredHeads (record { place = (at 1 10); direction = Output; is_reg = true; signed = false; range = None; names = (record { name = (codes "t"); place = (at 1 21) } ∷ []) } ∷
        record { place = (at 1 24); direction = Input; is_reg = false; signed = false; range = None; names = (record { name = (codes "i"); place = (at 1 30) } ∷ []) } ∷ []));
    items =
        ((AlwaysItem (at 2 1) (EventStatement (at 2 8) OnAnyRead (BlockingStatement (at 2 11) (OneSelect (record { place = (at 2 11); name = (codes "t"); index = NoIndex })) None
        (Selected (at 2 15) (codes "i") NoIndex)))) ∷
        []);
  } ∷ record {
    name = (codes "top");
    place = (at 4 8);
    parameters = ([]);
    heads = (PlainHeads ([]));
    items =
        ((WireItem (at 5 1) false None (record { name = (codes "p"); place = (at 5 6); value = None } ∷ [])) ∷
        (InstanceItem (at 6 1) (codes "c") ([]) (record {
          name = (codes "x");
          place = (at 6 3);
          connections = (record { name = (Some (codes "t")); place = (at 6 6); actual = (Some (Selected (at 6 8) (codes "p") NoIndex)) } ∷
              record { name = (Some (codes "i")); place = (at 6 13); actual = (Some (Selected (at 6 15) (codes "p") NoIndex)) } ∷ []);
        } ∷ [])) ∷
        []);
  } ∷ []);
}

abbrev pub Found : Type 0
Found = summary_of (flat source (codes "top") Usual) ≡ Ok (record {
  objects = (record { name = (codes "p"); kind = Var; width = 1; indexes = ([]); place = (at 5 6) } ∷ []);
  nodes = ([]);
  processes = (true ∷ []);
  joined = (record { name = (codes "x.t"); objects = (0 ∷ []) } ∷ record { name = (codes "x.i"); objects = (0 ∷ []) } ∷ []);
})

found : Found
found = refl

-- what the definitions give of the text above
abbrev pub Holds : Type 0
Holds = Found

pub holds : Holds
holds = found
