use Rattle.std.specs.Prelude.{◌≡◌, refl, true, false, [], ◌∷◌, Some, None, Ok, codes}
use Rattle.four_value.specs.Values.{bits_of}
use Rattle.v_design.specs.declared.logic.ObjectKind.TheVariants.{Var, Net}
use Rattle.v_tree.specs.declared.token.NumberForm.TheVariants.{Plain}
use Rattle.v_tree.specs.declared.item.Direction.TheVariants.{Input, Output}
use Rattle.v_tree.specs.Trees.{Number, Selected, NoIndex, IndexAt, OneSelect, OnAnyRead, EventStatement, BlockingStatement, NoContent, WireItem, RegItem, AssignItem, InstanceItem, AlwaysItem}
use Rattle.v_tree.specs.Trees.{PlainHeads, DeclaredHeads, SourceUnit}
use Rattle.v_elab.specs.declared.Mode.TheVariants.{Usual}
use Rattle.v_elab.specs.Flat.{flat}
use Rattle.elab_examples.specs.Build.{at, summary_of}

-- module c(output reg [1:0] t, input i);
-- always @* t = i;
-- endmodule
-- module top;
-- wire [1:0] p; reg q;
-- c x(.t(p), .i(q));
-- assign p[9] = 0;
-- endmodule
-- The assignment drives nothing, so the block is a node.
abbrev source : SourceUnit
source = record {
  modules = (record {
    name = (codes "c");
    place = (at 1 8);
    parameters = ([]);
    heads = (DeclaredHeads (record {
      place = (at 1 10);
      direction = Output;
      is_reg = true;
      signed = false;
      range = (Some (record { place = (at 1 21); high = (Number (at 1 22) Plain (bits_of 32 1)); low = (Number (at 1 24) Plain (bits_of 32 0)) }));
      names = (record { name = (codes "t"); place = (at 1 27) } ∷ []);
    } ∷ record {
      place = (at 1 30);
      direction = Input;
      is_reg = false;
      signed = false;
      range = None;
      names = (record { name = (codes "i"); place = (at 1 36) } ∷ []);
    } ∷ []));
    items =
        ((AlwaysItem (at 2 1) (EventStatement (at 2 8) OnAnyRead (BlockingStatement (at 2 11) (OneSelect (record { place = (at 2 11); name = (codes "t"); index = NoIndex })) None
        (Selected (at 2 15) (codes "i") NoIndex)))) ∷
        []);
  } ∷ record {
    name = (codes "top");
    place = (at 4 8);
    parameters = ([]);
    heads = (PlainHeads ([]));
    items =
        ((WireItem (at 5 1) false (Some (record { place = (at 5 6); high = (Number (at 5 7) Plain (bits_of 32 1)); low = (Number (at 5 9) Plain (bits_of 32 0)) }))
        (record { name = (codes "p"); place = (at 5 12); value = None } ∷ [])) ∷
        (RegItem (at 5 15) false None (record { name = (codes "q"); place = (at 5 19); content = NoContent } ∷ [])) ∷
        (InstanceItem (at 6 1) (codes "c") ([]) (record {
          name = (codes "x");
          place = (at 6 3);
          connections = (record { name = (Some (codes "t")); place = (at 6 6); actual = (Some (Selected (at 6 8) (codes "p") NoIndex)) } ∷
              record { name = (Some (codes "i")); place = (at 6 13); actual = (Some (Selected (at 6 15) (codes "q") NoIndex)) } ∷ []);
        } ∷ [])) ∷
        (AssignItem (at 7 1) (record {
          target = (OneSelect (record { place = (at 7 8); name = (codes "p"); index = (IndexAt (Number (at 7 10) Plain (bits_of 32 9))) }));
          value = (Number (at 7 15) Plain (bits_of 32 0));
        } ∷ [])) ∷
        []);
  } ∷ []);
}

abbrev pub Found : Type 0
Found = summary_of (flat source (codes "top") Usual) ≡ Ok (record {
  objects = (record { name = (codes "p"); kind = Net; width = 2; indexes = (1 ∷ 0 ∷ []); place = (at 5 12) } ∷
      record { name = (codes "q"); kind = Var; width = 1; indexes = ([]); place = (at 5 19) } ∷ []);
  nodes = (record { kind = 2; name = []; inputs = (1 ∷ []); outputs = (0 ∷ []) } ∷ record { kind = 0; name = []; inputs = ([]); outputs = ([]) } ∷ []);
  processes = ([]);
  joined = (record { name = (codes "x.t"); objects = (0 ∷ []) } ∷ record { name = (codes "x.i"); objects = (1 ∷ []) } ∷ []);
})

found : Found
found = refl

-- what the definitions give of the text above
abbrev pub Holds : Type 0
Holds = Found

pub holds : Holds
holds = found
