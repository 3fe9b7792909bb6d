use Rattle.std.specs.Prelude.{◌≡◌, refl, true, false, [], ◌∷◌, Some, None, Ok, Err, codes}
use Rattle.four_value.specs.Values.{bits_of}
use Rattle.four_value.specs.declared.logic.Bit.TheVariants.{X}
use Rattle.four_value.specs.declared.logic.Edge.TheVariants.{Any}
use Rattle.v_design.specs.declared.logic.ObjectKind.TheVariants.{Var}
use Rattle.v_tree.specs.declared.token.NumberForm.TheVariants.{Plain, Sized}
use Rattle.v_tree.specs.declared.item.Direction.TheVariants.{Input, Output}
use Rattle.v_tree.specs.Trees.{Number, Selected, Replicated, NoIndex, IndexAt, IndexRange, OneSelect, OnEntries, EventStatement, DelayStatement, BlockingStatement, NoContent, MemoryBounds}
use Rattle.v_tree.specs.Trees.{ParameterItem, WireItem, RegItem, AssignItem, InstanceItem, InitialItem, PlainHeads, DeclaredHeads, SourceUnit}
use Rattle.v_elab.specs.declared.Mode.TheVariants.{Usual}
use Rattle.v_names.specs.Faults.{NoConstant}
use Rattle.v_elab.specs.Flat.{flat}
use Rattle.elab_examples.specs.Build.{at, parts, faulty, summary_of}

-- module top;
-- reg q, r, a, b, c; reg [3:0] v, w; reg [7:0] m [0:3]; wire n;
-- initial #1'bx q = 1;
-- endmodule
abbrev source40 : SourceUnit
source40 = record {
  modules = (record {
    name = (codes "top");
    place = (at 1 8);
    parameters = ([]);
    heads = (PlainHeads ([]));
    items =
        ((RegItem (at 2 1) false None (record { name = (codes "q"); place = (at 2 5); content = NoContent } ∷ record { name = (codes "r"); place = (at 2 8); content = NoContent } ∷
        record { name = (codes "a"); place = (at 2 11); content = NoContent } ∷ record { name = (codes "b"); place = (at 2 14); content = NoContent } ∷
        record { name = (codes "c"); place = (at 2 17); content = NoContent } ∷ [])) ∷
        (RegItem (at 2 20) false (Some (record { place = (at 2 24); high = (Number (at 2 25) Plain (bits_of 32 3)); low = (Number (at 2 27) Plain (bits_of 32 0)) }))
        (record { name = (codes "v"); place = (at 2 30); content = NoContent } ∷ record { name = (codes "w"); place = (at 2 33); content = NoContent } ∷ [])) ∷
        (RegItem (at 2 36) false (Some (record { place = (at 2 40); high = (Number (at 2 41) Plain (bits_of 32 7)); low = (Number (at 2 43) Plain (bits_of 32 0)) }))
        (record {
          name = (codes "m");
          place = (at 2 46);
          content = (MemoryBounds (record {
            place = (at 2 48);
            high = (Number (at 2 49) Plain (bits_of 32 0));
            low = (Number (at 2 51) Plain (bits_of 32 3));
          }));
        } ∷ [])) ∷
        (WireItem (at 2 55) false None (record { name = (codes "n"); place = (at 2 60); value = None } ∷ [])) ∷
        (InitialItem (at 3 1) (DelayStatement (at 3 9) (Number (at 3 10) Sized (X ∷ [])) (BlockingStatement (at 3 15)
        (OneSelect (record { place = (at 3 15); name = (codes "q"); index = NoIndex })) None (Number (at 3 19) Plain (bits_of 32 1))))) ∷
        []);
  } ∷ []);
}

abbrev pub Found40 : Type 0
Found40 = flat source40 (codes "top") Usual ≡ Err (faulty 3 10 NoConstant)

found40 : Found40
found40 = refl

-- module top;
-- reg q, r, a, b, c; reg [3:0] v, w; reg [7:0] m [0:3]; wire n;
-- initial q = v[q:0];
-- endmodule
abbrev source41 : SourceUnit
source41 = record {
  modules = (record {
    name = (codes "top");
    place = (at 1 8);
    parameters = ([]);
    heads = (PlainHeads ([]));
    items =
        ((RegItem (at 2 1) false None (record { name = (codes "q"); place = (at 2 5); content = NoContent } ∷ record { name = (codes "r"); place = (at 2 8); content = NoContent } ∷
        record { name = (codes "a"); place = (at 2 11); content = NoContent } ∷ record { name = (codes "b"); place = (at 2 14); content = NoContent } ∷
        record { name = (codes "c"); place = (at 2 17); content = NoContent } ∷ [])) ∷
        (RegItem (at 2 20) false (Some (record { place = (at 2 24); high = (Number (at 2 25) Plain (bits_of 32 3)); low = (Number (at 2 27) Plain (bits_of 32 0)) }))
        (record { name = (codes "v"); place = (at 2 30); content = NoContent } ∷ record { name = (codes "w"); place = (at 2 33); content = NoContent } ∷ [])) ∷
        (RegItem (at 2 36) false (Some (record { place = (at 2 40); high = (Number (at 2 41) Plain (bits_of 32 7)); low = (Number (at 2 43) Plain (bits_of 32 0)) }))
        (record {
          name = (codes "m");
          place = (at 2 46);
          content = (MemoryBounds (record {
            place = (at 2 48);
            high = (Number (at 2 49) Plain (bits_of 32 0));
            low = (Number (at 2 51) Plain (bits_of 32 3));
          }));
        } ∷ [])) ∷
        (WireItem (at 2 55) false None (record { name = (codes "n"); place = (at 2 60); value = None } ∷ [])) ∷
        (InitialItem (at 3 1) (BlockingStatement (at 3 9) (OneSelect (record { place = (at 3 9); name = (codes "q"); index = NoIndex })) None
        (Selected (at 3 13) (codes "v") (IndexRange (Selected (at 3 15) (codes "q") NoIndex) (Number (at 3 17) Plain (bits_of 32 0)))))) ∷
        []);
  } ∷ []);
}

abbrev pub Found41 : Type 0
Found41 = flat source41 (codes "top") Usual ≡ Err (faulty 3 15 NoConstant)

found41 : Found41
found41 = refl

-- module top;
-- reg q, r, a, b, c; reg [3:0] v, w; reg [7:0] m [0:3]; wire n;
-- initial v = {q{a}};
-- endmodule
abbrev source42 : SourceUnit
source42 = record {
  modules = (record {
    name = (codes "top");
    place = (at 1 8);
    parameters = ([]);
    heads = (PlainHeads ([]));
    items =
        ((RegItem (at 2 1) false None (record { name = (codes "q"); place = (at 2 5); content = NoContent } ∷ record { name = (codes "r"); place = (at 2 8); content = NoContent } ∷
        record { name = (codes "a"); place = (at 2 11); content = NoContent } ∷ record { name = (codes "b"); place = (at 2 14); content = NoContent } ∷
        record { name = (codes "c"); place = (at 2 17); content = NoContent } ∷ [])) ∷
        (RegItem (at 2 20) false (Some (record { place = (at 2 24); high = (Number (at 2 25) Plain (bits_of 32 3)); low = (Number (at 2 27) Plain (bits_of 32 0)) }))
        (record { name = (codes "v"); place = (at 2 30); content = NoContent } ∷ record { name = (codes "w"); place = (at 2 33); content = NoContent } ∷ [])) ∷
        (RegItem (at 2 36) false (Some (record { place = (at 2 40); high = (Number (at 2 41) Plain (bits_of 32 7)); low = (Number (at 2 43) Plain (bits_of 32 0)) }))
        (record {
          name = (codes "m");
          place = (at 2 46);
          content = (MemoryBounds (record {
            place = (at 2 48);
            high = (Number (at 2 49) Plain (bits_of 32 0));
            low = (Number (at 2 51) Plain (bits_of 32 3));
          }));
        } ∷ [])) ∷
        (WireItem (at 2 55) false None (record { name = (codes "n"); place = (at 2 60); value = None } ∷ [])) ∷
        (InitialItem (at 3 1) (BlockingStatement (at 3 9) (OneSelect (record { place = (at 3 9); name = (codes "v"); index = NoIndex })) None
        (Replicated (at 3 13) (Selected (at 3 14) (codes "q") NoIndex) (parts ((Selected (at 3 16) (codes "a") NoIndex) ∷ []))))) ∷
        []);
  } ∷ []);
}

abbrev pub Found42 : Type 0
Found42 = flat source42 (codes "top") Usual ≡ Err (faulty 3 14 NoConstant)

found42 : Found42
found42 = refl

-- module top;
-- reg q, r, a, b, c; reg [3:0] v, w; reg [7:0] m [0:3]; wire n;
-- initial @(v[q]) q = 1;
-- endmodule
abbrev source43 : SourceUnit
source43 = record {
  modules = (record {
    name = (codes "top");
    place = (at 1 8);
    parameters = ([]);
    heads = (PlainHeads ([]));
    items =
        ((RegItem (at 2 1) false None (record { name = (codes "q"); place = (at 2 5); content = NoContent } ∷ record { name = (codes "r"); place = (at 2 8); content = NoContent } ∷
        record { name = (codes "a"); place = (at 2 11); content = NoContent } ∷ record { name = (codes "b"); place = (at 2 14); content = NoContent } ∷
        record { name = (codes "c"); place = (at 2 17); content = NoContent } ∷ [])) ∷
        (RegItem (at 2 20) false (Some (record { place = (at 2 24); high = (Number (at 2 25) Plain (bits_of 32 3)); low = (Number (at 2 27) Plain (bits_of 32 0)) }))
        (record { name = (codes "v"); place = (at 2 30); content = NoContent } ∷ record { name = (codes "w"); place = (at 2 33); content = NoContent } ∷ [])) ∷
        (RegItem (at 2 36) false (Some (record { place = (at 2 40); high = (Number (at 2 41) Plain (bits_of 32 7)); low = (Number (at 2 43) Plain (bits_of 32 0)) }))
        (record {
          name = (codes "m");
          place = (at 2 46);
          content = (MemoryBounds (record {
            place = (at 2 48);
            high = (Number (at 2 49) Plain (bits_of 32 0));
            low = (Number (at 2 51) Plain (bits_of 32 3));
          }));
        } ∷ [])) ∷
        (WireItem (at 2 55) false None (record { name = (codes "n"); place = (at 2 60); value = None } ∷ [])) ∷
        (InitialItem (at 3 1) (EventStatement (at 3 9) (OnEntries (record {
          edge = Any;
          select =
              record { place = (at 3 11); name = (codes "v"); index = (IndexAt (Selected (at 3 13) (codes "q") NoIndex)) };
        } ∷ []))
        (BlockingStatement (at 3 17) (OneSelect (record { place = (at 3 17); name = (codes "q"); index = NoIndex })) None (Number (at 3 21) Plain (bits_of 32 1))))) ∷
        []);
  } ∷ []);
}

abbrev pub Found43 : Type 0
Found43 = flat source43 (codes "top") Usual ≡ Err (faulty 3 13 NoConstant)

found43 : Found43
found43 = refl

-- module top;
-- wire [3:0] w; reg i; assign w[i] = 1;
-- endmodule
abbrev source44 : SourceUnit
source44 = record {
  modules = (record {
    name = (codes "top");
    place = (at 1 8);
    parameters = ([]);
    heads = (PlainHeads ([]));
    items =
        ((WireItem (at 2 1) false (Some (record { place = (at 2 6); high = (Number (at 2 7) Plain (bits_of 32 3)); low = (Number (at 2 9) Plain (bits_of 32 0)) }))
        (record { name = (codes "w"); place = (at 2 12); value = None } ∷ [])) ∷
        (RegItem (at 2 15) false None (record { name = (codes "i"); place = (at 2 19); content = NoContent } ∷ [])) ∷
        (AssignItem (at 2 22) (record {
          target = (OneSelect (record { place = (at 2 29); name = (codes "w"); index = (IndexAt (Selected (at 2 31) (codes "i") NoIndex)) }));
          value = (Number (at 2 36) Plain (bits_of 32 1));
        } ∷ [])) ∷
        []);
  } ∷ []);
}

abbrev pub Found44 : Type 0
Found44 = flat source44 (codes "top") Usual ≡ Err (faulty 2 31 NoConstant)

found44 : Found44
found44 = refl

-- module top;
-- parameter A = B, B = A;
-- endmodule
abbrev source45 : SourceUnit
source45 = record {
  modules = (record {
    name = (codes "top");
    place = (at 1 8);
    parameters = ([]);
    heads = (PlainHeads ([]));
    items =
        ((ParameterItem (record {
          place = (at 2 1);
          is_local = false;
          signed = false;
          range = None;
          parameters = (record { name = (codes "A"); place = (at 2 11); value = (Selected (at 2 15) (codes "B") NoIndex) } ∷
              record { name = (codes "B"); place = (at 2 18); value = (Selected (at 2 22) (codes "A") NoIndex) } ∷ []);
        })) ∷
        []);
  } ∷ []);
}

abbrev pub Found45 : Type 0
Found45 = flat source45 (codes "top") Usual ≡ Err (faulty 2 15 NoConstant)

found45 : Found45
found45 = refl

-- module sub(input a, input [3:0] v, output y, output reg [1:0] z); parameter W = 2; localparam L = 3; endmodule
-- module top;
-- wire p; wire [3:0] n; reg r; reg [7:0] m [0:3]; reg [1:0] e;
-- sub #(r) i();
-- endmodule
abbrev source46 : SourceUnit
source46 = record {
  modules = (record {
    name = (codes "sub");
    place = (at 1 8);
    parameters = ([]);
    heads = (DeclaredHeads (record { place = (at 1 12); direction = Input; is_reg = false; signed = false; range = None; names = (record { name = (codes "a"); place = (at 1 18) } ∷ []) } ∷
        record {
          place = (at 1 21);
          direction = Input;
          is_reg = false;
          signed = false;
          range =
              (Some (record { place = (at 1 27); high = (Number (at 1 28) Plain (bits_of 32 3)); low = (Number (at 1 30) Plain (bits_of 32 0)) }));
          names = (record { name = (codes "v"); place = (at 1 33) } ∷ []);
        } ∷ record {
          place = (at 1 36);
          direction = Output;
          is_reg = false;
          signed = false;
          range = None;
          names = (record { name = (codes "y"); place = (at 1 43) } ∷ []);
        } ∷ record {
          place = (at 1 46);
          direction = Output;
          is_reg = true;
          signed = false;
          range = (Some (record { place = (at 1 57); high = (Number (at 1 58) Plain (bits_of 32 1)); low = (Number (at 1 60) Plain (bits_of 32 0)) }));
          names = (record { name = (codes "z"); place = (at 1 63) } ∷ []);
        } ∷ []));
    items =
        ((ParameterItem (record {
          place = (at 1 67);
          is_local = false;
          signed = false;
          range = None;
          parameters = (record { name = (codes "W"); place = (at 1 77); value = (Number (at 1 81) Plain (bits_of 32 2)) } ∷ []);
        })) ∷
        (ParameterItem (record {
          place = (at 1 84);
          is_local = true;
          signed = false;
          range = None;
          parameters = (record { name = (codes "L"); place = (at 1 95); value = (Number (at 1 99) Plain (bits_of 32 3)) } ∷ []);
        })) ∷
        []);
  } ∷ record {
    name = (codes "top");
    place = (at 2 8);
    parameters = ([]);
    heads = (PlainHeads ([]));
    items =
        ((WireItem (at 3 1) false None (record { name = (codes "p"); place = (at 3 6); value = None } ∷ [])) ∷
        (WireItem (at 3 9) false (Some (record { place = (at 3 14); high = (Number (at 3 15) Plain (bits_of 32 3)); low = (Number (at 3 17) Plain (bits_of 32 0)) }))
        (record { name = (codes "n"); place = (at 3 20); value = None } ∷ [])) ∷
        (RegItem (at 3 23) false None (record { name = (codes "r"); place = (at 3 27); content = NoContent } ∷ [])) ∷
        (RegItem (at 3 30) false (Some (record { place = (at 3 34); high = (Number (at 3 35) Plain (bits_of 32 7)); low = (Number (at 3 37) Plain (bits_of 32 0)) }))
        (record {
          name = (codes "m");
          place = (at 3 40);
          content = (MemoryBounds (record {
            place = (at 3 42);
            high = (Number (at 3 43) Plain (bits_of 32 0));
            low = (Number (at 3 45) Plain (bits_of 32 3));
          }));
        } ∷ [])) ∷
        (RegItem (at 3 49) false (Some (record { place = (at 3 53); high = (Number (at 3 54) Plain (bits_of 32 1)); low = (Number (at 3 56) Plain (bits_of 32 0)) }))
        (record { name = (codes "e"); place = (at 3 59); content = NoContent } ∷ [])) ∷
        (InstanceItem (at 4 1) (codes "sub") (record { name = None; place = (at 4 7); actual = (Some (Selected (at 4 7) (codes "r") NoIndex)) } ∷ [])
        (record { name = (codes "i"); place = (at 4 10); connections = ([]) } ∷ [])) ∷
        []);
  } ∷ []);
}

abbrev pub Found46 : Type 0
Found46 = flat source46 (codes "top") Usual ≡ Err (faulty 4 7 NoConstant)

found46 : Found46
found46 = refl

-- module top;
-- reg [64:0] w;
-- endmodule
abbrev source47 : SourceUnit
source47 = record {
  modules = (record {
    name = (codes "top");
    place = (at 1 8);
    parameters = ([]);
    heads = (PlainHeads ([]));
    items =
        ((RegItem (at 2 1) false (Some (record { place = (at 2 5); high = (Number (at 2 6) Plain (bits_of 32 64)); low = (Number (at 2 9) Plain (bits_of 32 0)) }))
        (record { name = (codes "w"); place = (at 2 12); content = NoContent } ∷ [])) ∷
        []);
  } ∷ []);
}

abbrev pub Found47 : Type 0
Found47 = summary_of (flat source47 (codes "top") Usual) ≡ Ok (record {
  objects = (record { name = (codes "w"); kind = Var; width = 65; indexes = (64 ∷ 0 ∷ []); place = (at 2 12) } ∷ []);
  nodes = ([]);
  processes = ([]);
  joined = ([]);
})

found47 : Found47
found47 = refl

-- module top;
-- reg [0:63] w;
-- endmodule
abbrev source48 : SourceUnit
source48 = record {
  modules = (record {
    name = (codes "top");
    place = (at 1 8);
    parameters = ([]);
    heads = (PlainHeads ([]));
    items =
        ((RegItem (at 2 1) false (Some (record { place = (at 2 5); high = (Number (at 2 6) Plain (bits_of 32 0)); low = (Number (at 2 8) Plain (bits_of 32 63)) }))
        (record { name = (codes "w"); place = (at 2 12); content = NoContent } ∷ [])) ∷
        []);
  } ∷ []);
}

abbrev pub Found48 : Type 0
Found48 = summary_of (flat source48 (codes "top") Usual) ≡ Ok (record {
  objects = (record { name = (codes "w"); kind = Var; width = 64; indexes = (0 ∷ 63 ∷ []); place = (at 2 12) } ∷ []);
  nodes = ([]);
  processes = ([]);
  joined = ([]);
})

found48 : Found48
found48 = refl

-- module top;
-- parameter [64:0] P = 1;
-- endmodule
abbrev source49 : SourceUnit
source49 = record {
  modules = (record {
    name = (codes "top");
    place = (at 1 8);
    parameters = ([]);
    heads = (PlainHeads ([]));
    items =
        ((ParameterItem (record {
          place = (at 2 1);
          is_local = false;
          signed = false;
          range =
              (Some (record { place = (at 2 11); high = (Number (at 2 12) Plain (bits_of 32 64)); low = (Number (at 2 15) Plain (bits_of 32 0)) }));
          parameters = (record { name = (codes "P"); place = (at 2 18); value = (Number (at 2 22) Plain (bits_of 32 1)) } ∷ []);
        })) ∷
        []);
  } ∷ []);
}

abbrev pub Found49 : Type 0
Found49 = summary_of (flat source49 (codes "top") Usual) ≡ Ok (record { objects = ([]); nodes = ([]); processes = ([]); joined = ([]) })

found49 : Found49
found49 = refl

-- what the definitions give of the texts above
abbrev pub Holds : Type 0
Holds = Found40 × Found41 × Found42 × Found43 × Found44 × Found45 × Found46 × Found47 × Found48 × Found49

pub holds : Holds
holds = (found40, found41, found42, found43, found44, found45, found46, found47, found48, found49)
