use Rattle.std.specs.Prelude.{◌≡◌, refl, true, false, [], ◌∷◌, Some, None, Ok, Err, codes}
use Rattle.four_value.specs.Values.{bits_of}
use Rattle.v_design.specs.declared.logic.ObjectKind.TheVariants.{Var, Word, Net}
use Rattle.four_value.specs.declared.operator.GateKind.TheVariants.{And}
use Rattle.v_tree.specs.declared.token.NumberForm.TheVariants.{Plain, Sized}
use Rattle.v_tree.specs.declared.item.Direction.TheVariants.{Input, Output}
use Rattle.v_tree.specs.Trees.{Number, Selected, NoIndex, IndexAt, IndexRange, OneSelect, BlockingStatement, NoContent, MemoryBounds, ParameterItem, WireItem, RegItem, GateItem, InstanceItem}
use Rattle.v_tree.specs.Trees.{InitialItem, PlainHeads, DeclaredHeads, SourceUnit}
use Rattle.v_elab.specs.declared.Mode.TheVariants.{Usual}
use Rattle.v_names.specs.Faults.{BadConnection, WrongKind}
use Rattle.v_elab.specs.Refusals.{TwoDrivers}
use Rattle.v_elab.specs.Flat.{flat}
use Rattle.elab_examples.specs.Build.{at, faulty, summary_of}

-- module sub(input a, input [3:0] v, output y, output reg [1:0] z); parameter W = 2; localparam L = 3; endmodule
-- module top;
-- wire p; wire [3:0] n; reg r; reg [7:0] m [0:3]; reg [1:0] e;
-- sub i(.a(), .v());
-- endmodule
abbrev source90 : SourceUnit
source90 = record {
  modules = (record {
    name = (codes "sub");
    place = (at 1 8);
    parameters = ([]);
    heads = (DeclaredHeads (record { place = (at 1 12); direction = Input; is_reg = false; signed = false; range = None; names = (record { name = (codes "a"); place = (at 1 18) } ∷ []) } ∷
        record {
          place = (at 1 21);
          direction = Input;
          is_reg = false;
          signed = false;
          range =
              (Some (record { place = (at 1 27); high = (Number (at 1 28) Plain (bits_of 32 3)); low = (Number (at 1 30) Plain (bits_of 32 0)) }));
          names = (record { name = (codes "v"); place = (at 1 33) } ∷ []);
        } ∷ record {
          place = (at 1 36);
          direction = Output;
          is_reg = false;
          signed = false;
          range = None;
          names = (record { name = (codes "y"); place = (at 1 43) } ∷ []);
        } ∷ record {
          place = (at 1 46);
          direction = Output;
          is_reg = true;
          signed = false;
          range = (Some (record { place = (at 1 57); high = (Number (at 1 58) Plain (bits_of 32 1)); low = (Number (at 1 60) Plain (bits_of 32 0)) }));
          names = (record { name = (codes "z"); place = (at 1 63) } ∷ []);
        } ∷ []));
    items =
        ((ParameterItem (record {
          place = (at 1 67);
          is_local = false;
          signed = false;
          range = None;
          parameters = (record { name = (codes "W"); place = (at 1 77); value = (Number (at 1 81) Plain (bits_of 32 2)) } ∷ []);
        })) ∷
        (ParameterItem (record {
          place = (at 1 84);
          is_local = true;
          signed = false;
          range = None;
          parameters = (record { name = (codes "L"); place = (at 1 95); value = (Number (at 1 99) Plain (bits_of 32 3)) } ∷ []);
        })) ∷
        []);
  } ∷ record {
    name = (codes "top");
    place = (at 2 8);
    parameters = ([]);
    heads = (PlainHeads ([]));
    items =
        ((WireItem (at 3 1) false None (record { name = (codes "p"); place = (at 3 6); value = None } ∷ [])) ∷
        (WireItem (at 3 9) false (Some (record { place = (at 3 14); high = (Number (at 3 15) Plain (bits_of 32 3)); low = (Number (at 3 17) Plain (bits_of 32 0)) }))
        (record { name = (codes "n"); place = (at 3 20); value = None } ∷ [])) ∷
        (RegItem (at 3 23) false None (record { name = (codes "r"); place = (at 3 27); content = NoContent } ∷ [])) ∷
        (RegItem (at 3 30) false (Some (record { place = (at 3 34); high = (Number (at 3 35) Plain (bits_of 32 7)); low = (Number (at 3 37) Plain (bits_of 32 0)) }))
        (record {
          name = (codes "m");
          place = (at 3 40);
          content = (MemoryBounds (record {
            place = (at 3 42);
            high = (Number (at 3 43) Plain (bits_of 32 0));
            low = (Number (at 3 45) Plain (bits_of 32 3));
          }));
        } ∷ [])) ∷
        (RegItem (at 3 49) false (Some (record { place = (at 3 53); high = (Number (at 3 54) Plain (bits_of 32 1)); low = (Number (at 3 56) Plain (bits_of 32 0)) }))
        (record { name = (codes "e"); place = (at 3 59); content = NoContent } ∷ [])) ∷
        (InstanceItem (at 4 1) (codes "sub") ([]) (record {
          name = (codes "i");
          place = (at 4 5);
          connections = (record { name = (Some (codes "a")); place = (at 4 8); actual = None } ∷ record { name = (Some (codes "v")); place = (at 4 14); actual = None } ∷ []);
        } ∷ [])) ∷
        []);
  } ∷ []);
}

abbrev pub Found90 : Type 0
Found90 = summary_of (flat source90 (codes "top") Usual) ≡ Ok (record {
  objects = (record { name = (codes "p"); kind = Net; width = 1; indexes = ([]); place = (at 3 6) } ∷
      record { name = (codes "n"); kind = Net; width = 4; indexes = (3 ∷ 0 ∷ []); place = (at 3 20) } ∷ record { name = (codes "r"); kind = Var; width = 1; indexes = ([]); place = (at 3 27) } ∷
      record { name = (codes "m"); kind = Word; width = 8; indexes = (0 ∷ []); place = (at 3 40) } ∷ record { name = (codes "m"); kind = Word; width = 8; indexes = (1 ∷ []); place = (at 3 40) } ∷
      record { name = (codes "m"); kind = Word; width = 8; indexes = (2 ∷ []); place = (at 3 40) } ∷ record { name = (codes "m"); kind = Word; width = 8; indexes = (3 ∷ []); place = (at 3 40) } ∷
      record { name = (codes "e"); kind = Var; width = 2; indexes = (1 ∷ 0 ∷ []); place = (at 3 59) } ∷ record { name = (codes "i.a"); kind = Net; width = 1; indexes = ([]); place = (at 1 18) } ∷
      record { name = (codes "i.v"); kind = Net; width = 4; indexes = (3 ∷ 0 ∷ []); place = (at 1 33) } ∷ record { name = (codes "i.y"); kind = Net; width = 1; indexes = ([]); place = (at 1 43) } ∷
      record { name = (codes "i.z"); kind = Var; width = 2; indexes = (1 ∷ 0 ∷ []); place = (at 1 63) } ∷ []);
  nodes = ([]);
  processes = ([]);
  joined = ([]);
})

found90 : Found90
found90 = refl

-- module sub(input a, input [3:0] v, output y, output reg [1:0] z); parameter W = 2; localparam L = 3; endmodule
-- module top;
-- wire p; wire [3:0] n; reg r; reg [7:0] m [0:3]; reg [1:0] e;
-- sub i(.z(e));
-- endmodule
abbrev source91 : SourceUnit
source91 = record {
  modules = (record {
    name = (codes "sub");
    place = (at 1 8);
    parameters = ([]);
    heads = (DeclaredHeads (record { place = (at 1 12); direction = Input; is_reg = false; signed = false; range = None; names = (record { name = (codes "a"); place = (at 1 18) } ∷ []) } ∷
        record {
          place = (at 1 21);
          direction = Input;
          is_reg = false;
          signed = false;
          range =
              (Some (record { place = (at 1 27); high = (Number (at 1 28) Plain (bits_of 32 3)); low = (Number (at 1 30) Plain (bits_of 32 0)) }));
          names = (record { name = (codes "v"); place = (at 1 33) } ∷ []);
        } ∷ record {
          place = (at 1 36);
          direction = Output;
          is_reg = false;
          signed = false;
          range = None;
          names = (record { name = (codes "y"); place = (at 1 43) } ∷ []);
        } ∷ record {
          place = (at 1 46);
          direction = Output;
          is_reg = true;
          signed = false;
          range = (Some (record { place = (at 1 57); high = (Number (at 1 58) Plain (bits_of 32 1)); low = (Number (at 1 60) Plain (bits_of 32 0)) }));
          names = (record { name = (codes "z"); place = (at 1 63) } ∷ []);
        } ∷ []));
    items =
        ((ParameterItem (record {
          place = (at 1 67);
          is_local = false;
          signed = false;
          range = None;
          parameters = (record { name = (codes "W"); place = (at 1 77); value = (Number (at 1 81) Plain (bits_of 32 2)) } ∷ []);
        })) ∷
        (ParameterItem (record {
          place = (at 1 84);
          is_local = true;
          signed = false;
          range = None;
          parameters = (record { name = (codes "L"); place = (at 1 95); value = (Number (at 1 99) Plain (bits_of 32 3)) } ∷ []);
        })) ∷
        []);
  } ∷ record {
    name = (codes "top");
    place = (at 2 8);
    parameters = ([]);
    heads = (PlainHeads ([]));
    items =
        ((WireItem (at 3 1) false None (record { name = (codes "p"); place = (at 3 6); value = None } ∷ [])) ∷
        (WireItem (at 3 9) false (Some (record { place = (at 3 14); high = (Number (at 3 15) Plain (bits_of 32 3)); low = (Number (at 3 17) Plain (bits_of 32 0)) }))
        (record { name = (codes "n"); place = (at 3 20); value = None } ∷ [])) ∷
        (RegItem (at 3 23) false None (record { name = (codes "r"); place = (at 3 27); content = NoContent } ∷ [])) ∷
        (RegItem (at 3 30) false (Some (record { place = (at 3 34); high = (Number (at 3 35) Plain (bits_of 32 7)); low = (Number (at 3 37) Plain (bits_of 32 0)) }))
        (record {
          name = (codes "m");
          place = (at 3 40);
          content = (MemoryBounds (record {
            place = (at 3 42);
            high = (Number (at 3 43) Plain (bits_of 32 0));
            low = (Number (at 3 45) Plain (bits_of 32 3));
          }));
        } ∷ [])) ∷
        (RegItem (at 3 49) false (Some (record { place = (at 3 53); high = (Number (at 3 54) Plain (bits_of 32 1)); low = (Number (at 3 56) Plain (bits_of 32 0)) }))
        (record { name = (codes "e"); place = (at 3 59); content = NoContent } ∷ [])) ∷
        (InstanceItem (at 4 1) (codes "sub") ([]) (record {
          name = (codes "i");
          place = (at 4 5);
          connections = (record { name = (Some (codes "z")); place = (at 4 8); actual = (Some (Selected (at 4 10) (codes "e") NoIndex)) } ∷ []);
        } ∷ [])) ∷
        []);
  } ∷ []);
}

abbrev pub Found91 : Type 0
Found91 = flat source91 (codes "top") Usual ≡ Err (TwoDrivers (at 4 10) 0)

found91 : Found91
found91 = refl

-- module top;
-- wire y; wire [1:0] v; and g(y, v);
-- endmodule
abbrev source92 : SourceUnit
source92 = record {
  modules = (record {
    name = (codes "top");
    place = (at 1 8);
    parameters = ([]);
    heads = (PlainHeads ([]));
    items =
        ((WireItem (at 2 1) false None (record { name = (codes "y"); place = (at 2 6); value = None } ∷ [])) ∷
        (WireItem (at 2 9) false (Some (record { place = (at 2 14); high = (Number (at 2 15) Plain (bits_of 32 1)); low = (Number (at 2 17) Plain (bits_of 32 0)) }))
        (record { name = (codes "v"); place = (at 2 20); value = None } ∷ [])) ∷
        (GateItem (at 2 23) And (record {
          name = (Some (record { name = (codes "g"); place = (at 2 27) }));
          output = (OneSelect (record { place = (at 2 29); name = (codes "y"); index = NoIndex }));
          inputs = ((Selected (at 2 32) (codes "v") NoIndex) ∷ []);
        } ∷ [])) ∷
        []);
  } ∷ []);
}

abbrev pub Found92 : Type 0
Found92 = flat source92 (codes "top") Usual ≡ Err (faulty 2 32 BadConnection)

found92 : Found92
found92 = refl

-- module top;
-- wire y; and g(y, 1);
-- endmodule
abbrev source93 : SourceUnit
source93 = record {
  modules = (record {
    name = (codes "top");
    place = (at 1 8);
    parameters = ([]);
    heads = (PlainHeads ([]));
    items =
        ((WireItem (at 2 1) false None (record { name = (codes "y"); place = (at 2 6); value = None } ∷ [])) ∷
        (GateItem (at 2 9) And (record {
          name = (Some (record { name = (codes "g"); place = (at 2 13) }));
          output = (OneSelect (record { place = (at 2 15); name = (codes "y"); index = NoIndex }));
          inputs = ((Number (at 2 18) Plain (bits_of 32 1)) ∷ []);
        } ∷ [])) ∷
        []);
  } ∷ []);
}

abbrev pub Found93 : Type 0
Found93 = flat source93 (codes "top") Usual ≡ Err (faulty 2 18 BadConnection)

found93 : Found93
found93 = refl

-- module top;
-- wire y; and g(y, 1'b1, v[0]); wire [1:0] v;
-- endmodule
abbrev source94 : SourceUnit
source94 = record {
  modules = (record {
    name = (codes "top");
    place = (at 1 8);
    parameters = ([]);
    heads = (PlainHeads ([]));
    items =
        ((WireItem (at 2 1) false None (record { name = (codes "y"); place = (at 2 6); value = None } ∷ [])) ∷
        (GateItem (at 2 9) And (record {
          name = (Some (record { name = (codes "g"); place = (at 2 13) }));
          output = (OneSelect (record { place = (at 2 15); name = (codes "y"); index = NoIndex }));
          inputs = ((Number (at 2 18) Sized (bits_of 1 1)) ∷ (Selected (at 2 24) (codes "v") (IndexAt (Number (at 2 26) Plain (bits_of 32 0)))) ∷ []);
        } ∷ [])) ∷
        (WireItem (at 2 31) false (Some (record { place = (at 2 36); high = (Number (at 2 37) Plain (bits_of 32 1)); low = (Number (at 2 39) Plain (bits_of 32 0)) }))
        (record { name = (codes "v"); place = (at 2 42); value = None } ∷ [])) ∷
        []);
  } ∷ []);
}

abbrev pub Found94 : Type 0
Found94 = summary_of (flat source94 (codes "top") Usual) ≡ Ok (record {
  objects = (record { name = (codes "y"); kind = Net; width = 1; indexes = ([]); place = (at 2 6) } ∷
      record { name = (codes "v"); kind = Net; width = 2; indexes = (1 ∷ 0 ∷ []); place = (at 2 42) } ∷ []);
  nodes = (record { kind = 1; name = (codes "g"); inputs = (1 ∷ []); outputs = (0 ∷ []) } ∷ []);
  processes = ([]);
  joined = ([]);
})

found94 : Found94
found94 = refl

-- module top;
-- wire y; wire [1:0] v; and g(v, y);
-- endmodule
abbrev source95 : SourceUnit
source95 = record {
  modules = (record {
    name = (codes "top");
    place = (at 1 8);
    parameters = ([]);
    heads = (PlainHeads ([]));
    items =
        ((WireItem (at 2 1) false None (record { name = (codes "y"); place = (at 2 6); value = None } ∷ [])) ∷
        (WireItem (at 2 9) false (Some (record { place = (at 2 14); high = (Number (at 2 15) Plain (bits_of 32 1)); low = (Number (at 2 17) Plain (bits_of 32 0)) }))
        (record { name = (codes "v"); place = (at 2 20); value = None } ∷ [])) ∷
        (GateItem (at 2 23) And (record {
          name = (Some (record { name = (codes "g"); place = (at 2 27) }));
          output = (OneSelect (record { place = (at 2 29); name = (codes "v"); index = NoIndex }));
          inputs = ((Selected (at 2 32) (codes "y") NoIndex) ∷ []);
        } ∷ [])) ∷
        []);
  } ∷ []);
}

abbrev pub Found95 : Type 0
Found95 = flat source95 (codes "top") Usual ≡ Err (faulty 2 29 BadConnection)

found95 : Found95
found95 = refl

-- module top;
-- reg q, r, a, b, c; reg [3:0] v, w; reg [7:0] m [0:3]; wire n;
-- initial n = 1;
-- endmodule
abbrev source96 : SourceUnit
source96 = record {
  modules = (record {
    name = (codes "top");
    place = (at 1 8);
    parameters = ([]);
    heads = (PlainHeads ([]));
    items =
        ((RegItem (at 2 1) false None (record { name = (codes "q"); place = (at 2 5); content = NoContent } ∷ record { name = (codes "r"); place = (at 2 8); content = NoContent } ∷
        record { name = (codes "a"); place = (at 2 11); content = NoContent } ∷ record { name = (codes "b"); place = (at 2 14); content = NoContent } ∷
        record { name = (codes "c"); place = (at 2 17); content = NoContent } ∷ [])) ∷
        (RegItem (at 2 20) false (Some (record { place = (at 2 24); high = (Number (at 2 25) Plain (bits_of 32 3)); low = (Number (at 2 27) Plain (bits_of 32 0)) }))
        (record { name = (codes "v"); place = (at 2 30); content = NoContent } ∷ record { name = (codes "w"); place = (at 2 33); content = NoContent } ∷ [])) ∷
        (RegItem (at 2 36) false (Some (record { place = (at 2 40); high = (Number (at 2 41) Plain (bits_of 32 7)); low = (Number (at 2 43) Plain (bits_of 32 0)) }))
        (record {
          name = (codes "m");
          place = (at 2 46);
          content = (MemoryBounds (record {
            place = (at 2 48);
            high = (Number (at 2 49) Plain (bits_of 32 0));
            low = (Number (at 2 51) Plain (bits_of 32 3));
          }));
        } ∷ [])) ∷
        (WireItem (at 2 55) false None (record { name = (codes "n"); place = (at 2 60); value = None } ∷ [])) ∷
        (InitialItem (at 3 1) (BlockingStatement (at 3 9) (OneSelect (record { place = (at 3 9); name = (codes "n"); index = NoIndex })) None (Number (at 3 13) Plain (bits_of 32 1)))) ∷
        []);
  } ∷ []);
}

abbrev pub Found96 : Type 0
Found96 = flat source96 (codes "top") Usual ≡ Err (faulty 3 9 WrongKind)

found96 : Found96
found96 = refl

-- module top;
-- reg q, r, a, b, c; reg [3:0] v, w; reg [7:0] m [0:3]; wire n;
-- initial m = 1;
-- endmodule
abbrev source97 : SourceUnit
source97 = record {
  modules = (record {
    name = (codes "top");
    place = (at 1 8);
    parameters = ([]);
    heads = (PlainHeads ([]));
    items =
        ((RegItem (at 2 1) false None (record { name = (codes "q"); place = (at 2 5); content = NoContent } ∷ record { name = (codes "r"); place = (at 2 8); content = NoContent } ∷
        record { name = (codes "a"); place = (at 2 11); content = NoContent } ∷ record { name = (codes "b"); place = (at 2 14); content = NoContent } ∷
        record { name = (codes "c"); place = (at 2 17); content = NoContent } ∷ [])) ∷
        (RegItem (at 2 20) false (Some (record { place = (at 2 24); high = (Number (at 2 25) Plain (bits_of 32 3)); low = (Number (at 2 27) Plain (bits_of 32 0)) }))
        (record { name = (codes "v"); place = (at 2 30); content = NoContent } ∷ record { name = (codes "w"); place = (at 2 33); content = NoContent } ∷ [])) ∷
        (RegItem (at 2 36) false (Some (record { place = (at 2 40); high = (Number (at 2 41) Plain (bits_of 32 7)); low = (Number (at 2 43) Plain (bits_of 32 0)) }))
        (record {
          name = (codes "m");
          place = (at 2 46);
          content = (MemoryBounds (record {
            place = (at 2 48);
            high = (Number (at 2 49) Plain (bits_of 32 0));
            low = (Number (at 2 51) Plain (bits_of 32 3));
          }));
        } ∷ [])) ∷
        (WireItem (at 2 55) false None (record { name = (codes "n"); place = (at 2 60); value = None } ∷ [])) ∷
        (InitialItem (at 3 1) (BlockingStatement (at 3 9) (OneSelect (record { place = (at 3 9); name = (codes "m"); index = NoIndex })) None (Number (at 3 13) Plain (bits_of 32 1)))) ∷
        []);
  } ∷ []);
}

abbrev pub Found97 : Type 0
Found97 = flat source97 (codes "top") Usual ≡ Err (faulty 3 9 WrongKind)

found97 : Found97
found97 = refl

-- module top;
-- reg q, r, a, b, c; reg [3:0] v, w; reg [7:0] m [0:3]; wire n;
-- initial q = m;
-- endmodule
abbrev source98 : SourceUnit
source98 = record {
  modules = (record {
    name = (codes "top");
    place = (at 1 8);
    parameters = ([]);
    heads = (PlainHeads ([]));
    items =
        ((RegItem (at 2 1) false None (record { name = (codes "q"); place = (at 2 5); content = NoContent } ∷ record { name = (codes "r"); place = (at 2 8); content = NoContent } ∷
        record { name = (codes "a"); place = (at 2 11); content = NoContent } ∷ record { name = (codes "b"); place = (at 2 14); content = NoContent } ∷
        record { name = (codes "c"); place = (at 2 17); content = NoContent } ∷ [])) ∷
        (RegItem (at 2 20) false (Some (record { place = (at 2 24); high = (Number (at 2 25) Plain (bits_of 32 3)); low = (Number (at 2 27) Plain (bits_of 32 0)) }))
        (record { name = (codes "v"); place = (at 2 30); content = NoContent } ∷ record { name = (codes "w"); place = (at 2 33); content = NoContent } ∷ [])) ∷
        (RegItem (at 2 36) false (Some (record { place = (at 2 40); high = (Number (at 2 41) Plain (bits_of 32 7)); low = (Number (at 2 43) Plain (bits_of 32 0)) }))
        (record {
          name = (codes "m");
          place = (at 2 46);
          content = (MemoryBounds (record {
            place = (at 2 48);
            high = (Number (at 2 49) Plain (bits_of 32 0));
            low = (Number (at 2 51) Plain (bits_of 32 3));
          }));
        } ∷ [])) ∷
        (WireItem (at 2 55) false None (record { name = (codes "n"); place = (at 2 60); value = None } ∷ [])) ∷
        (InitialItem (at 3 1) (BlockingStatement (at 3 9) (OneSelect (record { place = (at 3 9); name = (codes "q"); index = NoIndex })) None (Selected (at 3 13) (codes "m") NoIndex))) ∷
        []);
  } ∷ []);
}

abbrev pub Found98 : Type 0
Found98 = flat source98 (codes "top") Usual ≡ Err (faulty 3 13 WrongKind)

found98 : Found98
found98 = refl

-- module top;
-- reg q, r, a, b, c; reg [3:0] v, w; reg [7:0] m [0:3]; wire n;
-- initial q = m[1:0];
-- endmodule
abbrev source99 : SourceUnit
source99 = record {
  modules = (record {
    name = (codes "top");
    place = (at 1 8);
    parameters = ([]);
    heads = (PlainHeads ([]));
    items =
        ((RegItem (at 2 1) false None (record { name = (codes "q"); place = (at 2 5); content = NoContent } ∷ record { name = (codes "r"); place = (at 2 8); content = NoContent } ∷
        record { name = (codes "a"); place = (at 2 11); content = NoContent } ∷ record { name = (codes "b"); place = (at 2 14); content = NoContent } ∷
        record { name = (codes "c"); place = (at 2 17); content = NoContent } ∷ [])) ∷
        (RegItem (at 2 20) false (Some (record { place = (at 2 24); high = (Number (at 2 25) Plain (bits_of 32 3)); low = (Number (at 2 27) Plain (bits_of 32 0)) }))
        (record { name = (codes "v"); place = (at 2 30); content = NoContent } ∷ record { name = (codes "w"); place = (at 2 33); content = NoContent } ∷ [])) ∷
        (RegItem (at 2 36) false (Some (record { place = (at 2 40); high = (Number (at 2 41) Plain (bits_of 32 7)); low = (Number (at 2 43) Plain (bits_of 32 0)) }))
        (record {
          name = (codes "m");
          place = (at 2 46);
          content = (MemoryBounds (record {
            place = (at 2 48);
            high = (Number (at 2 49) Plain (bits_of 32 0));
            low = (Number (at 2 51) Plain (bits_of 32 3));
          }));
        } ∷ [])) ∷
        (WireItem (at 2 55) false None (record { name = (codes "n"); place = (at 2 60); value = None } ∷ [])) ∷
        (InitialItem (at 3 1) (BlockingStatement (at 3 9) (OneSelect (record { place = (at 3 9); name = (codes "q"); index = NoIndex })) None
        (Selected (at 3 13) (codes "m") (IndexRange (Number (at 3 15) Plain (bits_of 32 1)) (Number (at 3 17) Plain (bits_of 32 0)))))) ∷
        []);
  } ∷ []);
}

abbrev pub Found99 : Type 0
Found99 = flat source99 (codes "top") Usual ≡ Err (faulty 3 13 WrongKind)

found99 : Found99
found99 = refl

-- what the definitions give of the texts above
abbrev pub Holds : Type 0
Holds = Found90 × Found91 × Found92 × Found93 × Found94 × Found95 × Found96 × Found97 × Found98 × Found99

pub holds : Holds
holds = (found90, found91, found92, found93, found94, found95, found96, found97, found98, found99)
