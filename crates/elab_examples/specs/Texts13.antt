use Rattle.std.specs.Prelude.{◌≡◌, refl, false, [], ◌∷◌, Some, None, Err, codes}
use Rattle.four_value.specs.Values.{bits_of}
use Rattle.four_value.specs.declared.operator.BinaryOperator.TheVariants.{Add}
use Rattle.four_value.specs.declared.operator.GateKind.TheVariants.{Buf}
use Rattle.v_tree.specs.declared.item.Direction.TheVariants.{Input}
use Rattle.v_tree.specs.declared.token.NumberForm.TheVariants.{Plain}
use Rattle.v_tree.specs.Trees.{Number, Selected, Infixed, Replicated, NoIndex, IndexAt, OneSelect, OnAnyRead, EventStatement, BlockingStatement, NoContent, MemoryBounds, WireItem, RegItem}
use Rattle.v_tree.specs.Trees.{AssignItem, GateItem, InstanceItem, AlwaysItem, PlainHeads, DeclaredHeads, SourceUnit}
use Rattle.v_names.specs.Faults.{BadWidth}
use Rattle.v_elab.specs.declared.Mode.TheVariants.{Usual, Strict}
use Rattle.v_elab.specs.declared.What.TheVariants.{Inputs}
use Rattle.v_elab.specs.Refusals.{TooMany}
use Rattle.v_elab.specs.Flat.{flat}
use Rattle.elab_examples.specs.Build.{at, parts, faulty}

-- module top;
-- reg [7:0] m [0:4096]; wire [7:0] w = m[0];
-- wire zz = 1 + {65{w}};
-- endmodule
abbrev source130 : SourceUnit
source130 = record {
  modules = (record {
    name = (codes "top");
    place = (at 1 8);
    parameters = ([]);
    heads = (PlainHeads ([]));
    items =
        ((RegItem (at 2 1) false (Some (record { place = (at 2 5); high = (Number (at 2 6) Plain (bits_of 32 7)); low = (Number (at 2 8) Plain (bits_of 32 0)) }))
        (record {
          name = (codes "m");
          place = (at 2 11);
          content = (MemoryBounds (record {
            place = (at 2 13);
            high = (Number (at 2 14) Plain (bits_of 32 0));
            low = (Number (at 2 16) Plain (bits_of 32 4096));
          }));
        } ∷ [])) ∷
        (WireItem (at 2 23) false (Some (record { place = (at 2 28); high = (Number (at 2 29) Plain (bits_of 32 7)); low = (Number (at 2 31) Plain (bits_of 32 0)) }))
        (record { name = (codes "w"); place = (at 2 34); value = (Some (Selected (at 2 38) (codes "m") (IndexAt (Number (at 2 40) Plain (bits_of 32 0))))) } ∷ [])) ∷
        (WireItem (at 3 1) false None (record {
          name = (codes "zz");
          place = (at 3 6);
          value =
              (Some (Infixed (at 3 11) Add (Number (at 3 11) Plain (bits_of 32 1)) (Replicated (at 3 15) (Number (at 3 16) Plain (bits_of 32 65))
              (parts ((Selected (at 3 19) (codes "w") NoIndex) ∷ [])))));
        } ∷ [])) ∷
        []);
  } ∷ []);
}

abbrev pub Found130 : Type 0
Found130 = flat source130 (codes "top") Usual ≡ Err (TooMany Inputs 4097)

found130 : Found130
found130 = refl

-- module top;
-- reg m [0:4095]; wire w = m[0];
-- wire zz = {129{w}};
-- endmodule
abbrev source131 : SourceUnit
source131 = record {
  modules = (record {
    name = (codes "top");
    place = (at 1 8);
    parameters = ([]);
    heads = (PlainHeads ([]));
    items =
        ((RegItem (at 2 1) false None (record {
          name = (codes "m");
          place = (at 2 5);
          content =
              (MemoryBounds (record { place = (at 2 7); high = (Number (at 2 8) Plain (bits_of 32 0)); low = (Number (at 2 10) Plain (bits_of 32 4095)) }));
        } ∷ [])) ∷
        (WireItem (at 2 17) false None (record { name = (codes "w"); place = (at 2 22); value = (Some (Selected (at 2 26) (codes "m") (IndexAt (Number (at 2 28) Plain (bits_of 32 0))))) } ∷ [])) ∷
        (WireItem (at 3 1) false None (record {
          name = (codes "zz");
          place = (at 3 6);
          value =
              (Some (Replicated (at 3 11) (Number (at 3 12) Plain (bits_of 32 129)) (parts ((Selected (at 3 16) (codes "w") NoIndex) ∷ []))));
        } ∷ [])) ∷
        []);
  } ∷ []);
}

abbrev pub Found131 : Type 0
Found131 = flat source131 (codes "top") Usual ≡ Err (faulty 3 11 BadWidth)

found131 : Found131
found131 = refl

-- module top;
-- reg m [0:2047]; wire w = m[0] + m[1] + m[2];
-- wire zz = {129{w}};
-- endmodule
abbrev source132 : SourceUnit
source132 = record {
  modules = (record {
    name = (codes "top");
    place = (at 1 8);
    parameters = ([]);
    heads = (PlainHeads ([]));
    items =
        ((RegItem (at 2 1) false None (record {
          name = (codes "m");
          place = (at 2 5);
          content =
              (MemoryBounds (record { place = (at 2 7); high = (Number (at 2 8) Plain (bits_of 32 0)); low = (Number (at 2 10) Plain (bits_of 32 2047)) }));
        } ∷ [])) ∷
        (WireItem (at 2 17) false None (record {
          name = (codes "w");
          place = (at 2 22);
          value =
              (Some (Infixed (at 2 26) Add (Infixed (at 2 26) Add (Selected (at 2 26) (codes "m") (IndexAt (Number (at 2 28) Plain (bits_of 32 0))))
              (Selected (at 2 33) (codes "m") (IndexAt (Number (at 2 35) Plain (bits_of 32 1))))) (Selected (at 2 40) (codes "m") (IndexAt (Number (at 2 42) Plain (bits_of 32 2))))));
        } ∷ [])) ∷
        (WireItem (at 3 1) false None (record {
          name = (codes "zz");
          place = (at 3 6);
          value =
              (Some (Replicated (at 3 11) (Number (at 3 12) Plain (bits_of 32 129)) (parts ((Selected (at 3 16) (codes "w") NoIndex) ∷ []))));
        } ∷ [])) ∷
        []);
  } ∷ []);
}

abbrev pub Found132 : Type 0
Found132 = flat source132 (codes "top") Usual ≡ Err (faulty 3 11 BadWidth)

found132 : Found132
found132 = refl

-- module top;
-- reg m [0:4096]; wire w;
-- assign w = {129{m[0]}};
-- endmodule
abbrev source133 : SourceUnit
source133 = record {
  modules = (record {
    name = (codes "top");
    place = (at 1 8);
    parameters = ([]);
    heads = (PlainHeads ([]));
    items =
        ((RegItem (at 2 1) false None (record {
          name = (codes "m");
          place = (at 2 5);
          content =
              (MemoryBounds (record { place = (at 2 7); high = (Number (at 2 8) Plain (bits_of 32 0)); low = (Number (at 2 10) Plain (bits_of 32 4096)) }));
        } ∷ [])) ∷
        (WireItem (at 2 17) false None (record { name = (codes "w"); place = (at 2 22); value = None } ∷ [])) ∷
        (AssignItem (at 3 1) (record {
          target = (OneSelect (record { place = (at 3 8); name = (codes "w"); index = NoIndex }));
          value = (Replicated (at 3 12) (Number (at 3 13) Plain (bits_of 32 129)) (parts ((Selected (at 3 17) (codes "m") (IndexAt (Number (at 3 19) Plain (bits_of 32 0)))) ∷ [])));
        } ∷ [])) ∷
        []);
  } ∷ []);
}

abbrev pub Found133 : Type 0
Found133 = flat source133 (codes "top") Usual ≡ Err (faulty 3 12 BadWidth)

found133 : Found133
found133 = refl

-- module top;
-- reg m [0:4096]; wire w; assign w = m[0];
-- wire zz = {129{w}};
-- endmodule
abbrev source134 : SourceUnit
source134 = record {
  modules = (record {
    name = (codes "top");
    place = (at 1 8);
    parameters = ([]);
    heads = (PlainHeads ([]));
    items =
        ((RegItem (at 2 1) false None (record {
          name = (codes "m");
          place = (at 2 5);
          content =
              (MemoryBounds (record { place = (at 2 7); high = (Number (at 2 8) Plain (bits_of 32 0)); low = (Number (at 2 10) Plain (bits_of 32 4096)) }));
        } ∷ [])) ∷
        (WireItem (at 2 17) false None (record { name = (codes "w"); place = (at 2 22); value = None } ∷ [])) ∷
        (AssignItem (at 2 25) (record {
          target = (OneSelect (record { place = (at 2 32); name = (codes "w"); index = NoIndex }));
          value = (Selected (at 2 36) (codes "m") (IndexAt (Number (at 2 38) Plain (bits_of 32 0))));
        } ∷ [])) ∷
        (WireItem (at 3 1) false None (record {
          name = (codes "zz");
          place = (at 3 6);
          value =
              (Some (Replicated (at 3 11) (Number (at 3 12) Plain (bits_of 32 129)) (parts ((Selected (at 3 16) (codes "w") NoIndex) ∷ []))));
        } ∷ [])) ∷
        []);
  } ∷ []);
}

abbrev pub Found134 : Type 0
Found134 = flat source134 (codes "top") Usual ≡ Err (TooMany Inputs 4097)

found134 : Found134
found134 = refl

-- module top;
-- reg m [0:4096]; wire y; buf g(y, m[0]);
-- wire zz = {129{y}};
-- endmodule
abbrev source135 : SourceUnit
source135 = record {
  modules = (record {
    name = (codes "top");
    place = (at 1 8);
    parameters = ([]);
    heads = (PlainHeads ([]));
    items =
        ((RegItem (at 2 1) false None (record {
          name = (codes "m");
          place = (at 2 5);
          content =
              (MemoryBounds (record { place = (at 2 7); high = (Number (at 2 8) Plain (bits_of 32 0)); low = (Number (at 2 10) Plain (bits_of 32 4096)) }));
        } ∷ [])) ∷
        (WireItem (at 2 17) false None (record { name = (codes "y"); place = (at 2 22); value = None } ∷ [])) ∷
        (GateItem (at 2 25) Buf (record {
          name = (Some (record { name = (codes "g"); place = (at 2 29) }));
          output = (OneSelect (record { place = (at 2 31); name = (codes "y"); index = NoIndex }));
          inputs = ((Selected (at 2 34) (codes "m") (IndexAt (Number (at 2 36) Plain (bits_of 32 0)))) ∷ []);
        } ∷ [])) ∷
        (WireItem (at 3 1) false None (record {
          name = (codes "zz");
          place = (at 3 6);
          value =
              (Some (Replicated (at 3 11) (Number (at 3 12) Plain (bits_of 32 129)) (parts ((Selected (at 3 16) (codes "y") NoIndex) ∷ []))));
        } ∷ [])) ∷
        []);
  } ∷ []);
}

abbrev pub Found135 : Type 0
Found135 = flat source135 (codes "top") Usual ≡ Err (TooMany Inputs 4097)

found135 : Found135
found135 = refl

-- module top;
-- reg m [0:4096]; reg q; always @* q = m[0];
-- wire zz = {129{q}};
-- endmodule
abbrev source136 : SourceUnit
source136 = record {
  modules = (record {
    name = (codes "top");
    place = (at 1 8);
    parameters = ([]);
    heads = (PlainHeads ([]));
    items =
        ((RegItem (at 2 1) false None (record {
          name = (codes "m");
          place = (at 2 5);
          content =
              (MemoryBounds (record { place = (at 2 7); high = (Number (at 2 8) Plain (bits_of 32 0)); low = (Number (at 2 10) Plain (bits_of 32 4096)) }));
        } ∷ [])) ∷
        (RegItem (at 2 17) false None (record { name = (codes "q"); place = (at 2 21); content = NoContent } ∷ [])) ∷
        (AlwaysItem (at 2 24) (EventStatement (at 2 31) OnAnyRead (BlockingStatement (at 2 34) (OneSelect (record { place = (at 2 34); name = (codes "q"); index = NoIndex })) None
        (Selected (at 2 38) (codes "m") (IndexAt (Number (at 2 40) Plain (bits_of 32 0))))))) ∷
        (WireItem (at 3 1) false None (record {
          name = (codes "zz");
          place = (at 3 6);
          value =
              (Some (Replicated (at 3 11) (Number (at 3 12) Plain (bits_of 32 129)) (parts ((Selected (at 3 16) (codes "q") NoIndex) ∷ []))));
        } ∷ [])) ∷
        []);
  } ∷ []);
}

abbrev pub Found136 : Type 0
Found136 = flat source136 (codes "top") Usual ≡ Err (TooMany Inputs 4097)

found136 : Found136
found136 = refl

-- module top;
-- reg m [0:4096]; reg q; always @* q = m[0];
-- wire zz = {129{q}};
-- endmodule
-- in strict mode, in which the block is a process
abbrev source137 : SourceUnit
source137 = record {
  modules = (record {
    name = (codes "top");
    place = (at 1 8);
    parameters = ([]);
    heads = (PlainHeads ([]));
    items =
        ((RegItem (at 2 1) false None (record {
          name = (codes "m");
          place = (at 2 5);
          content =
              (MemoryBounds (record { place = (at 2 7); high = (Number (at 2 8) Plain (bits_of 32 0)); low = (Number (at 2 10) Plain (bits_of 32 4096)) }));
        } ∷ [])) ∷
        (RegItem (at 2 17) false None (record { name = (codes "q"); place = (at 2 21); content = NoContent } ∷ [])) ∷
        (AlwaysItem (at 2 24) (EventStatement (at 2 31) OnAnyRead (BlockingStatement (at 2 34) (OneSelect (record { place = (at 2 34); name = (codes "q"); index = NoIndex })) None
        (Selected (at 2 38) (codes "m") (IndexAt (Number (at 2 40) Plain (bits_of 32 0))))))) ∷
        (WireItem (at 3 1) false None (record {
          name = (codes "zz");
          place = (at 3 6);
          value =
              (Some (Replicated (at 3 11) (Number (at 3 12) Plain (bits_of 32 129)) (parts ((Selected (at 3 16) (codes "q") NoIndex) ∷ []))));
        } ∷ [])) ∷
        []);
  } ∷ []);
}

abbrev pub Found137 : Type 0
Found137 = flat source137 (codes "top") Strict ≡ Err (faulty 3 11 BadWidth)

found137 : Found137
found137 = refl

-- module s(input i); endmodule
-- module top;
-- reg m [0:4096]; s a(m[0]); wire y;
-- wire zz = {129{y}};
-- endmodule
abbrev source138 : SourceUnit
source138 = record {
  modules = (record {
    name = (codes "s");
    place = (at 1 8);
    parameters = ([]);
    heads = (DeclaredHeads (record { place = (at 1 10); direction = Input; is_reg = false; signed = false; range = None; names = (record { name = (codes "i"); place = (at 1 16) } ∷ []) } ∷ []));
    items =
        ([]);
  } ∷ record {
    name = (codes "top");
    place = (at 2 8);
    parameters = ([]);
    heads = (PlainHeads ([]));
    items =
        ((RegItem (at 3 1) false None (record {
          name = (codes "m");
          place = (at 3 5);
          content =
              (MemoryBounds (record { place = (at 3 7); high = (Number (at 3 8) Plain (bits_of 32 0)); low = (Number (at 3 10) Plain (bits_of 32 4096)) }));
        } ∷ [])) ∷
        (InstanceItem (at 3 17) (codes "s") ([]) (record {
          name = (codes "a");
          place = (at 3 19);
          connections = (record { name = None; place = (at 3 21); actual = (Some (Selected (at 3 21) (codes "m") (IndexAt (Number (at 3 23) Plain (bits_of 32 0))))) } ∷ []);
        } ∷ [])) ∷
        (WireItem (at 3 28) false None (record { name = (codes "y"); place = (at 3 33); value = None } ∷ [])) ∷
        (WireItem (at 4 1) false None (record {
          name = (codes "zz");
          place = (at 4 6);
          value =
              (Some (Replicated (at 4 11) (Number (at 4 12) Plain (bits_of 32 129)) (parts ((Selected (at 4 16) (codes "y") NoIndex) ∷ []))));
        } ∷ [])) ∷
        []);
  } ∷ []);
}

abbrev pub Found138 : Type 0
Found138 = flat source138 (codes "top") Usual ≡ Err (TooMany Inputs 4097)

found138 : Found138
found138 = refl

-- what the definitions give of the texts above
abbrev pub Holds : Type 0
Holds = Found130 × Found131 × Found132 × Found133 × Found134 × Found135 × Found136 × Found137 × Found138

pub holds : Holds
holds = (found130, found131, found132, found133, found134, found135, found136, found137, found138)
