use Rattle.std.specs.Prelude.{◌≡◌, refl, true, false, [], ◌∷◌, Some, None, Ok, Err, codes}
use Rattle.four_value.specs.Values.{bits_of}
use Rattle.v_design.specs.declared.logic.ObjectKind.TheVariants.{Var, Word, Net}
use Rattle.four_value.specs.declared.operator.UnaryOperator.TheVariants.{Minus}
use Rattle.four_value.specs.declared.operator.BinaryOperator.TheVariants.{Equal, Less, Subtract}
use Rattle.v_tree.specs.declared.token.NumberForm.TheVariants.{Plain, Sized}
use Rattle.v_tree.specs.declared.item.Direction.TheVariants.{Input, Output}
use Rattle.v_tree.specs.Trees.{Number, Selected, Prefixed, Infixed, NoIndex, OneSelect, BlockingStatement, NoContent, MemoryBounds, ParameterItem, WireItem, RegItem, InstanceItem, InitialItem}
use Rattle.v_tree.specs.Trees.{PlainHeads, DeclaredHeads, SourceUnit}
use Rattle.v_elab.specs.declared.Mode.TheVariants.{Usual}
use Rattle.v_names.specs.Faults.{UnknownName, BadConnection}
use Rattle.v_elab.specs.Flat.{flat}
use Rattle.elab_examples.specs.Build.{at, faulty, summary_of}

-- module top;
-- reg q, r, a, b, c; reg [3:0] v, w; reg [7:0] m [0:3]; wire n;
-- initial q = -1 == 0;
-- endmodule
abbrev source70 : SourceUnit
source70 = record {
  modules = (record {
    name = (codes "top");
    place = (at 1 8);
    parameters = ([]);
    heads = (PlainHeads ([]));
    items =
        ((RegItem (at 2 1) false None (record { name = (codes "q"); place = (at 2 5); content = NoContent } ∷ record { name = (codes "r"); place = (at 2 8); content = NoContent } ∷
        record { name = (codes "a"); place = (at 2 11); content = NoContent } ∷ record { name = (codes "b"); place = (at 2 14); content = NoContent } ∷
        record { name = (codes "c"); place = (at 2 17); content = NoContent } ∷ [])) ∷
        (RegItem (at 2 20) false (Some (record { place = (at 2 24); high = (Number (at 2 25) Plain (bits_of 32 3)); low = (Number (at 2 27) Plain (bits_of 32 0)) }))
        (record { name = (codes "v"); place = (at 2 30); content = NoContent } ∷ record { name = (codes "w"); place = (at 2 33); content = NoContent } ∷ [])) ∷
        (RegItem (at 2 36) false (Some (record { place = (at 2 40); high = (Number (at 2 41) Plain (bits_of 32 7)); low = (Number (at 2 43) Plain (bits_of 32 0)) }))
        (record {
          name = (codes "m");
          place = (at 2 46);
          content = (MemoryBounds (record {
            place = (at 2 48);
            high = (Number (at 2 49) Plain (bits_of 32 0));
            low = (Number (at 2 51) Plain (bits_of 32 3));
          }));
        } ∷ [])) ∷
        (WireItem (at 2 55) false None (record { name = (codes "n"); place = (at 2 60); value = None } ∷ [])) ∷
        (InitialItem (at 3 1) (BlockingStatement (at 3 9) (OneSelect (record { place = (at 3 9); name = (codes "q"); index = NoIndex })) None
        (Infixed (at 3 13) Equal (Prefixed (at 3 13) Minus (Number (at 3 14) Plain (bits_of 32 1))) (Number (at 3 19) Plain (bits_of 32 0))))) ∷
        []);
  } ∷ []);
}

abbrev pub Found70 : Type 0
Found70 = summary_of (flat source70 (codes "top") Usual) ≡ Ok (record {
  objects = (record { name = (codes "q"); kind = Var; width = 1; indexes = ([]); place = (at 2 5) } ∷
      record { name = (codes "r"); kind = Var; width = 1; indexes = ([]); place = (at 2 8) } ∷ record { name = (codes "a"); kind = Var; width = 1; indexes = ([]); place = (at 2 11) } ∷
      record { name = (codes "b"); kind = Var; width = 1; indexes = ([]); place = (at 2 14) } ∷ record { name = (codes "c"); kind = Var; width = 1; indexes = ([]); place = (at 2 17) } ∷
      record { name = (codes "v"); kind = Var; width = 4; indexes = (3 ∷ 0 ∷ []); place = (at 2 30) } ∷
      record { name = (codes "w"); kind = Var; width = 4; indexes = (3 ∷ 0 ∷ []); place = (at 2 33) } ∷ record { name = (codes "m"); kind = Word; width = 8; indexes = (0 ∷ []); place = (at 2 46) } ∷
      record { name = (codes "m"); kind = Word; width = 8; indexes = (1 ∷ []); place = (at 2 46) } ∷ record { name = (codes "m"); kind = Word; width = 8; indexes = (2 ∷ []); place = (at 2 46) } ∷
      record { name = (codes "m"); kind = Word; width = 8; indexes = (3 ∷ []); place = (at 2 46) } ∷ record { name = (codes "n"); kind = Net; width = 1; indexes = ([]); place = (at 2 60) } ∷ []);
  nodes = ([]);
  processes = (false ∷ []);
  joined = ([]);
})

found70 : Found70
found70 = refl

-- module top;
-- parameter P = 3; wire w = P - 4 < 0;
-- endmodule
abbrev source71 : SourceUnit
source71 = record {
  modules = (record {
    name = (codes "top");
    place = (at 1 8);
    parameters = ([]);
    heads = (PlainHeads ([]));
    items =
        ((ParameterItem (record {
          place = (at 2 1);
          is_local = false;
          signed = false;
          range = None;
          parameters = (record { name = (codes "P"); place = (at 2 11); value = (Number (at 2 15) Plain (bits_of 32 3)) } ∷ []);
        })) ∷
        (WireItem (at 2 18) false None (record {
          name = (codes "w");
          place = (at 2 23);
          value =
              (Some (Infixed (at 2 27) Less (Infixed (at 2 27) Subtract (Selected (at 2 27) (codes "P") NoIndex) (Number (at 2 31) Plain (bits_of 32 4))) (Number (at 2 35) Plain (bits_of 32 0))));
        } ∷
        [])) ∷
        []);
  } ∷ []);
}

abbrev pub Found71 : Type 0
Found71 = summary_of (flat source71 (codes "top") Usual) ≡ Ok (record {
  objects = (record { name = (codes "w"); kind = Net; width = 1; indexes = ([]); place = (at 2 23) } ∷ []);
  nodes = (record { kind = 0; name = []; inputs = ([]); outputs = (0 ∷ []) } ∷ []);
  processes = ([]);
  joined = ([]);
})

found71 : Found71
found71 = refl

-- module top;
-- parameter P = 4'd3; wire w = P - 4'd4 < 0;
-- endmodule
abbrev source72 : SourceUnit
source72 = record {
  modules = (record {
    name = (codes "top");
    place = (at 1 8);
    parameters = ([]);
    heads = (PlainHeads ([]));
    items =
        ((ParameterItem (record {
          place = (at 2 1);
          is_local = false;
          signed = false;
          range = None;
          parameters = (record { name = (codes "P"); place = (at 2 11); value = (Number (at 2 15) Sized (bits_of 4 3)) } ∷ []);
        })) ∷
        (WireItem (at 2 21) false None (record {
          name = (codes "w");
          place = (at 2 26);
          value =
              (Some (Infixed (at 2 30) Less (Infixed (at 2 30) Subtract (Selected (at 2 30) (codes "P") NoIndex) (Number (at 2 34) Sized (bits_of 4 4))) (Number (at 2 41) Plain (bits_of 32 0))));
        } ∷
        [])) ∷
        []);
  } ∷ []);
}

abbrev pub Found72 : Type 0
Found72 = summary_of (flat source72 (codes "top") Usual) ≡ Ok (record {
  objects = (record { name = (codes "w"); kind = Net; width = 1; indexes = ([]); place = (at 2 26) } ∷ []);
  nodes = (record { kind = 0; name = []; inputs = ([]); outputs = (0 ∷ []) } ∷ []);
  processes = ([]);
  joined = ([]);
})

found72 : Found72
found72 = refl

-- module top;
-- parameter P = 4'd8; wire w = P < P;
-- endmodule
abbrev source73 : SourceUnit
source73 = record {
  modules = (record {
    name = (codes "top");
    place = (at 1 8);
    parameters = ([]);
    heads = (PlainHeads ([]));
    items =
        ((ParameterItem (record {
          place = (at 2 1);
          is_local = false;
          signed = false;
          range = None;
          parameters = (record { name = (codes "P"); place = (at 2 11); value = (Number (at 2 15) Sized (bits_of 4 8)) } ∷ []);
        })) ∷
        (WireItem (at 2 21) false None (record {
          name = (codes "w");
          place = (at 2 26);
          value =
              (Some (Infixed (at 2 30) Less (Selected (at 2 30) (codes "P") NoIndex) (Selected (at 2 34) (codes "P") NoIndex)));
        } ∷ [])) ∷
        []);
  } ∷ []);
}

abbrev pub Found73 : Type 0
Found73 = summary_of (flat source73 (codes "top") Usual) ≡ Ok (record {
  objects = (record { name = (codes "w"); kind = Net; width = 1; indexes = ([]); place = (at 2 26) } ∷ []);
  nodes = (record { kind = 0; name = []; inputs = ([]); outputs = (0 ∷ []) } ∷ []);
  processes = ([]);
  joined = ([]);
})

found73 : Found73
found73 = refl

-- module sub(input a, input [3:0] v, output y, output reg [1:0] z); parameter W = 2; localparam L = 3; endmodule
-- module top;
-- wire p; wire [3:0] n; reg r; reg [7:0] m [0:3]; reg [1:0] e;
-- sub i(p, n, p, e, p);
-- endmodule
abbrev source74 : SourceUnit
source74 = record {
  modules = (record {
    name = (codes "sub");
    place = (at 1 8);
    parameters = ([]);
    heads = (DeclaredHeads (record { place = (at 1 12); direction = Input; is_reg = false; signed = false; range = None; names = (record { name = (codes "a"); place = (at 1 18) } ∷ []) } ∷
        record {
          place = (at 1 21);
          direction = Input;
          is_reg = false;
          signed = false;
          range =
              (Some (record { place = (at 1 27); high = (Number (at 1 28) Plain (bits_of 32 3)); low = (Number (at 1 30) Plain (bits_of 32 0)) }));
          names = (record { name = (codes "v"); place = (at 1 33) } ∷ []);
        } ∷ record {
          place = (at 1 36);
          direction = Output;
          is_reg = false;
          signed = false;
          range = None;
          names = (record { name = (codes "y"); place = (at 1 43) } ∷ []);
        } ∷ record {
          place = (at 1 46);
          direction = Output;
          is_reg = true;
          signed = false;
          range = (Some (record { place = (at 1 57); high = (Number (at 1 58) Plain (bits_of 32 1)); low = (Number (at 1 60) Plain (bits_of 32 0)) }));
          names = (record { name = (codes "z"); place = (at 1 63) } ∷ []);
        } ∷ []));
    items =
        ((ParameterItem (record {
          place = (at 1 67);
          is_local = false;
          signed = false;
          range = None;
          parameters = (record { name = (codes "W"); place = (at 1 77); value = (Number (at 1 81) Plain (bits_of 32 2)) } ∷ []);
        })) ∷
        (ParameterItem (record {
          place = (at 1 84);
          is_local = true;
          signed = false;
          range = None;
          parameters = (record { name = (codes "L"); place = (at 1 95); value = (Number (at 1 99) Plain (bits_of 32 3)) } ∷ []);
        })) ∷
        []);
  } ∷ record {
    name = (codes "top");
    place = (at 2 8);
    parameters = ([]);
    heads = (PlainHeads ([]));
    items =
        ((WireItem (at 3 1) false None (record { name = (codes "p"); place = (at 3 6); value = None } ∷ [])) ∷
        (WireItem (at 3 9) false (Some (record { place = (at 3 14); high = (Number (at 3 15) Plain (bits_of 32 3)); low = (Number (at 3 17) Plain (bits_of 32 0)) }))
        (record { name = (codes "n"); place = (at 3 20); value = None } ∷ [])) ∷
        (RegItem (at 3 23) false None (record { name = (codes "r"); place = (at 3 27); content = NoContent } ∷ [])) ∷
        (RegItem (at 3 30) false (Some (record { place = (at 3 34); high = (Number (at 3 35) Plain (bits_of 32 7)); low = (Number (at 3 37) Plain (bits_of 32 0)) }))
        (record {
          name = (codes "m");
          place = (at 3 40);
          content = (MemoryBounds (record {
            place = (at 3 42);
            high = (Number (at 3 43) Plain (bits_of 32 0));
            low = (Number (at 3 45) Plain (bits_of 32 3));
          }));
        } ∷ [])) ∷
        (RegItem (at 3 49) false (Some (record { place = (at 3 53); high = (Number (at 3 54) Plain (bits_of 32 1)); low = (Number (at 3 56) Plain (bits_of 32 0)) }))
        (record { name = (codes "e"); place = (at 3 59); content = NoContent } ∷ [])) ∷
        (InstanceItem (at 4 1) (codes "sub") ([]) (record {
          name = (codes "i");
          place = (at 4 5);
          connections = (record { name = None; place = (at 4 7); actual = (Some (Selected (at 4 7) (codes "p") NoIndex)) } ∷
              record { name = None; place = (at 4 10); actual = (Some (Selected (at 4 10) (codes "n") NoIndex)) } ∷
              record { name = None; place = (at 4 13); actual = (Some (Selected (at 4 13) (codes "p") NoIndex)) } ∷
              record { name = None; place = (at 4 16); actual = (Some (Selected (at 4 16) (codes "e") NoIndex)) } ∷
              record { name = None; place = (at 4 19); actual = (Some (Selected (at 4 19) (codes "p") NoIndex)) } ∷ []);
        } ∷ [])) ∷
        []);
  } ∷ []);
}

abbrev pub Found74 : Type 0
Found74 = flat source74 (codes "top") Usual ≡ Err (faulty 4 19 BadConnection)

found74 : Found74
found74 = refl

-- module sub(input a, input [3:0] v, output y, output reg [1:0] z); parameter W = 2; localparam L = 3; endmodule
-- module top;
-- wire p; wire [3:0] n; reg r; reg [7:0] m [0:3]; reg [1:0] e;
-- sub i(.a(p), .a(p));
-- endmodule
abbrev source75 : SourceUnit
source75 = record {
  modules = (record {
    name = (codes "sub");
    place = (at 1 8);
    parameters = ([]);
    heads = (DeclaredHeads (record { place = (at 1 12); direction = Input; is_reg = false; signed = false; range = None; names = (record { name = (codes "a"); place = (at 1 18) } ∷ []) } ∷
        record {
          place = (at 1 21);
          direction = Input;
          is_reg = false;
          signed = false;
          range =
              (Some (record { place = (at 1 27); high = (Number (at 1 28) Plain (bits_of 32 3)); low = (Number (at 1 30) Plain (bits_of 32 0)) }));
          names = (record { name = (codes "v"); place = (at 1 33) } ∷ []);
        } ∷ record {
          place = (at 1 36);
          direction = Output;
          is_reg = false;
          signed = false;
          range = None;
          names = (record { name = (codes "y"); place = (at 1 43) } ∷ []);
        } ∷ record {
          place = (at 1 46);
          direction = Output;
          is_reg = true;
          signed = false;
          range = (Some (record { place = (at 1 57); high = (Number (at 1 58) Plain (bits_of 32 1)); low = (Number (at 1 60) Plain (bits_of 32 0)) }));
          names = (record { name = (codes "z"); place = (at 1 63) } ∷ []);
        } ∷ []));
    items =
        ((ParameterItem (record {
          place = (at 1 67);
          is_local = false;
          signed = false;
          range = None;
          parameters = (record { name = (codes "W"); place = (at 1 77); value = (Number (at 1 81) Plain (bits_of 32 2)) } ∷ []);
        })) ∷
        (ParameterItem (record {
          place = (at 1 84);
          is_local = true;
          signed = false;
          range = None;
          parameters = (record { name = (codes "L"); place = (at 1 95); value = (Number (at 1 99) Plain (bits_of 32 3)) } ∷ []);
        })) ∷
        []);
  } ∷ record {
    name = (codes "top");
    place = (at 2 8);
    parameters = ([]);
    heads = (PlainHeads ([]));
    items =
        ((WireItem (at 3 1) false None (record { name = (codes "p"); place = (at 3 6); value = None } ∷ [])) ∷
        (WireItem (at 3 9) false (Some (record { place = (at 3 14); high = (Number (at 3 15) Plain (bits_of 32 3)); low = (Number (at 3 17) Plain (bits_of 32 0)) }))
        (record { name = (codes "n"); place = (at 3 20); value = None } ∷ [])) ∷
        (RegItem (at 3 23) false None (record { name = (codes "r"); place = (at 3 27); content = NoContent } ∷ [])) ∷
        (RegItem (at 3 30) false (Some (record { place = (at 3 34); high = (Number (at 3 35) Plain (bits_of 32 7)); low = (Number (at 3 37) Plain (bits_of 32 0)) }))
        (record {
          name = (codes "m");
          place = (at 3 40);
          content = (MemoryBounds (record {
            place = (at 3 42);
            high = (Number (at 3 43) Plain (bits_of 32 0));
            low = (Number (at 3 45) Plain (bits_of 32 3));
          }));
        } ∷ [])) ∷
        (RegItem (at 3 49) false (Some (record { place = (at 3 53); high = (Number (at 3 54) Plain (bits_of 32 1)); low = (Number (at 3 56) Plain (bits_of 32 0)) }))
        (record { name = (codes "e"); place = (at 3 59); content = NoContent } ∷ [])) ∷
        (InstanceItem (at 4 1) (codes "sub") ([]) (record {
          name = (codes "i");
          place = (at 4 5);
          connections = (record { name = (Some (codes "a")); place = (at 4 8); actual = (Some (Selected (at 4 10) (codes "p") NoIndex)) } ∷
              record { name = (Some (codes "a")); place = (at 4 15); actual = (Some (Selected (at 4 17) (codes "p") NoIndex)) } ∷ []);
        } ∷ [])) ∷
        []);
  } ∷ []);
}

abbrev pub Found75 : Type 0
Found75 = flat source75 (codes "top") Usual ≡ Err (faulty 4 15 BadConnection)

found75 : Found75
found75 = refl

-- module sub(input a, input [3:0] v, output y, output reg [1:0] z); parameter W = 2; localparam L = 3; endmodule
-- module top;
-- wire p; wire [3:0] n; reg r; reg [7:0] m [0:3]; reg [1:0] e;
-- sub i(.zz(p));
-- endmodule
abbrev source76 : SourceUnit
source76 = record {
  modules = (record {
    name = (codes "sub");
    place = (at 1 8);
    parameters = ([]);
    heads = (DeclaredHeads (record { place = (at 1 12); direction = Input; is_reg = false; signed = false; range = None; names = (record { name = (codes "a"); place = (at 1 18) } ∷ []) } ∷
        record {
          place = (at 1 21);
          direction = Input;
          is_reg = false;
          signed = false;
          range =
              (Some (record { place = (at 1 27); high = (Number (at 1 28) Plain (bits_of 32 3)); low = (Number (at 1 30) Plain (bits_of 32 0)) }));
          names = (record { name = (codes "v"); place = (at 1 33) } ∷ []);
        } ∷ record {
          place = (at 1 36);
          direction = Output;
          is_reg = false;
          signed = false;
          range = None;
          names = (record { name = (codes "y"); place = (at 1 43) } ∷ []);
        } ∷ record {
          place = (at 1 46);
          direction = Output;
          is_reg = true;
          signed = false;
          range = (Some (record { place = (at 1 57); high = (Number (at 1 58) Plain (bits_of 32 1)); low = (Number (at 1 60) Plain (bits_of 32 0)) }));
          names = (record { name = (codes "z"); place = (at 1 63) } ∷ []);
        } ∷ []));
    items =
        ((ParameterItem (record {
          place = (at 1 67);
          is_local = false;
          signed = false;
          range = None;
          parameters = (record { name = (codes "W"); place = (at 1 77); value = (Number (at 1 81) Plain (bits_of 32 2)) } ∷ []);
        })) ∷
        (ParameterItem (record {
          place = (at 1 84);
          is_local = true;
          signed = false;
          range = None;
          parameters = (record { name = (codes "L"); place = (at 1 95); value = (Number (at 1 99) Plain (bits_of 32 3)) } ∷ []);
        })) ∷
        []);
  } ∷ record {
    name = (codes "top");
    place = (at 2 8);
    parameters = ([]);
    heads = (PlainHeads ([]));
    items =
        ((WireItem (at 3 1) false None (record { name = (codes "p"); place = (at 3 6); value = None } ∷ [])) ∷
        (WireItem (at 3 9) false (Some (record { place = (at 3 14); high = (Number (at 3 15) Plain (bits_of 32 3)); low = (Number (at 3 17) Plain (bits_of 32 0)) }))
        (record { name = (codes "n"); place = (at 3 20); value = None } ∷ [])) ∷
        (RegItem (at 3 23) false None (record { name = (codes "r"); place = (at 3 27); content = NoContent } ∷ [])) ∷
        (RegItem (at 3 30) false (Some (record { place = (at 3 34); high = (Number (at 3 35) Plain (bits_of 32 7)); low = (Number (at 3 37) Plain (bits_of 32 0)) }))
        (record {
          name = (codes "m");
          place = (at 3 40);
          content = (MemoryBounds (record {
            place = (at 3 42);
            high = (Number (at 3 43) Plain (bits_of 32 0));
            low = (Number (at 3 45) Plain (bits_of 32 3));
          }));
        } ∷ [])) ∷
        (RegItem (at 3 49) false (Some (record { place = (at 3 53); high = (Number (at 3 54) Plain (bits_of 32 1)); low = (Number (at 3 56) Plain (bits_of 32 0)) }))
        (record { name = (codes "e"); place = (at 3 59); content = NoContent } ∷ [])) ∷
        (InstanceItem (at 4 1) (codes "sub") ([]) (record {
          name = (codes "i");
          place = (at 4 5);
          connections = (record { name = (Some (codes "zz")); place = (at 4 8); actual = (Some (Selected (at 4 11) (codes "p") NoIndex)) } ∷ []);
        } ∷ [])) ∷
        []);
  } ∷ []);
}

abbrev pub Found76 : Type 0
Found76 = flat source76 (codes "top") Usual ≡ Err (faulty 4 8 UnknownName)

found76 : Found76
found76 = refl

-- module sub(input a, input [3:0] v, output y, output reg [1:0] z); parameter W = 2; localparam L = 3; endmodule
-- module top;
-- wire p; wire [3:0] n; reg r; reg [7:0] m [0:3]; reg [1:0] e;
-- sub i(.zz(yy));
-- endmodule
abbrev source77 : SourceUnit
source77 = record {
  modules = (record {
    name = (codes "sub");
    place = (at 1 8);
    parameters = ([]);
    heads = (DeclaredHeads (record { place = (at 1 12); direction = Input; is_reg = false; signed = false; range = None; names = (record { name = (codes "a"); place = (at 1 18) } ∷ []) } ∷
        record {
          place = (at 1 21);
          direction = Input;
          is_reg = false;
          signed = false;
          range =
              (Some (record { place = (at 1 27); high = (Number (at 1 28) Plain (bits_of 32 3)); low = (Number (at 1 30) Plain (bits_of 32 0)) }));
          names = (record { name = (codes "v"); place = (at 1 33) } ∷ []);
        } ∷ record {
          place = (at 1 36);
          direction = Output;
          is_reg = false;
          signed = false;
          range = None;
          names = (record { name = (codes "y"); place = (at 1 43) } ∷ []);
        } ∷ record {
          place = (at 1 46);
          direction = Output;
          is_reg = true;
          signed = false;
          range = (Some (record { place = (at 1 57); high = (Number (at 1 58) Plain (bits_of 32 1)); low = (Number (at 1 60) Plain (bits_of 32 0)) }));
          names = (record { name = (codes "z"); place = (at 1 63) } ∷ []);
        } ∷ []));
    items =
        ((ParameterItem (record {
          place = (at 1 67);
          is_local = false;
          signed = false;
          range = None;
          parameters = (record { name = (codes "W"); place = (at 1 77); value = (Number (at 1 81) Plain (bits_of 32 2)) } ∷ []);
        })) ∷
        (ParameterItem (record {
          place = (at 1 84);
          is_local = true;
          signed = false;
          range = None;
          parameters = (record { name = (codes "L"); place = (at 1 95); value = (Number (at 1 99) Plain (bits_of 32 3)) } ∷ []);
        })) ∷
        []);
  } ∷ record {
    name = (codes "top");
    place = (at 2 8);
    parameters = ([]);
    heads = (PlainHeads ([]));
    items =
        ((WireItem (at 3 1) false None (record { name = (codes "p"); place = (at 3 6); value = None } ∷ [])) ∷
        (WireItem (at 3 9) false (Some (record { place = (at 3 14); high = (Number (at 3 15) Plain (bits_of 32 3)); low = (Number (at 3 17) Plain (bits_of 32 0)) }))
        (record { name = (codes "n"); place = (at 3 20); value = None } ∷ [])) ∷
        (RegItem (at 3 23) false None (record { name = (codes "r"); place = (at 3 27); content = NoContent } ∷ [])) ∷
        (RegItem (at 3 30) false (Some (record { place = (at 3 34); high = (Number (at 3 35) Plain (bits_of 32 7)); low = (Number (at 3 37) Plain (bits_of 32 0)) }))
        (record {
          name = (codes "m");
          place = (at 3 40);
          content = (MemoryBounds (record {
            place = (at 3 42);
            high = (Number (at 3 43) Plain (bits_of 32 0));
            low = (Number (at 3 45) Plain (bits_of 32 3));
          }));
        } ∷ [])) ∷
        (RegItem (at 3 49) false (Some (record { place = (at 3 53); high = (Number (at 3 54) Plain (bits_of 32 1)); low = (Number (at 3 56) Plain (bits_of 32 0)) }))
        (record { name = (codes "e"); place = (at 3 59); content = NoContent } ∷ [])) ∷
        (InstanceItem (at 4 1) (codes "sub") ([]) (record {
          name = (codes "i");
          place = (at 4 5);
          connections = (record { name = (Some (codes "zz")); place = (at 4 8); actual = (Some (Selected (at 4 11) (codes "yy") NoIndex)) } ∷ []);
        } ∷ [])) ∷
        []);
  } ∷ []);
}

abbrev pub Found77 : Type 0
Found77 = flat source77 (codes "top") Usual ≡ Err (faulty 4 11 UnknownName)

found77 : Found77
found77 = refl

-- module sub(input a, input [3:0] v, output y, output reg [1:0] z); parameter W = 2; localparam L = 3; endmodule
-- module top;
-- wire p; wire [3:0] n; reg r; reg [7:0] m [0:3]; reg [1:0] e;
-- sub #(.X(1)) i();
-- endmodule
abbrev source78 : SourceUnit
source78 = record {
  modules = (record {
    name = (codes "sub");
    place = (at 1 8);
    parameters = ([]);
    heads = (DeclaredHeads (record { place = (at 1 12); direction = Input; is_reg = false; signed = false; range = None; names = (record { name = (codes "a"); place = (at 1 18) } ∷ []) } ∷
        record {
          place = (at 1 21);
          direction = Input;
          is_reg = false;
          signed = false;
          range =
              (Some (record { place = (at 1 27); high = (Number (at 1 28) Plain (bits_of 32 3)); low = (Number (at 1 30) Plain (bits_of 32 0)) }));
          names = (record { name = (codes "v"); place = (at 1 33) } ∷ []);
        } ∷ record {
          place = (at 1 36);
          direction = Output;
          is_reg = false;
          signed = false;
          range = None;
          names = (record { name = (codes "y"); place = (at 1 43) } ∷ []);
        } ∷ record {
          place = (at 1 46);
          direction = Output;
          is_reg = true;
          signed = false;
          range = (Some (record { place = (at 1 57); high = (Number (at 1 58) Plain (bits_of 32 1)); low = (Number (at 1 60) Plain (bits_of 32 0)) }));
          names = (record { name = (codes "z"); place = (at 1 63) } ∷ []);
        } ∷ []));
    items =
        ((ParameterItem (record {
          place = (at 1 67);
          is_local = false;
          signed = false;
          range = None;
          parameters = (record { name = (codes "W"); place = (at 1 77); value = (Number (at 1 81) Plain (bits_of 32 2)) } ∷ []);
        })) ∷
        (ParameterItem (record {
          place = (at 1 84);
          is_local = true;
          signed = false;
          range = None;
          parameters = (record { name = (codes "L"); place = (at 1 95); value = (Number (at 1 99) Plain (bits_of 32 3)) } ∷ []);
        })) ∷
        []);
  } ∷ record {
    name = (codes "top");
    place = (at 2 8);
    parameters = ([]);
    heads = (PlainHeads ([]));
    items =
        ((WireItem (at 3 1) false None (record { name = (codes "p"); place = (at 3 6); value = None } ∷ [])) ∷
        (WireItem (at 3 9) false (Some (record { place = (at 3 14); high = (Number (at 3 15) Plain (bits_of 32 3)); low = (Number (at 3 17) Plain (bits_of 32 0)) }))
        (record { name = (codes "n"); place = (at 3 20); value = None } ∷ [])) ∷
        (RegItem (at 3 23) false None (record { name = (codes "r"); place = (at 3 27); content = NoContent } ∷ [])) ∷
        (RegItem (at 3 30) false (Some (record { place = (at 3 34); high = (Number (at 3 35) Plain (bits_of 32 7)); low = (Number (at 3 37) Plain (bits_of 32 0)) }))
        (record {
          name = (codes "m");
          place = (at 3 40);
          content = (MemoryBounds (record {
            place = (at 3 42);
            high = (Number (at 3 43) Plain (bits_of 32 0));
            low = (Number (at 3 45) Plain (bits_of 32 3));
          }));
        } ∷ [])) ∷
        (RegItem (at 3 49) false (Some (record { place = (at 3 53); high = (Number (at 3 54) Plain (bits_of 32 1)); low = (Number (at 3 56) Plain (bits_of 32 0)) }))
        (record { name = (codes "e"); place = (at 3 59); content = NoContent } ∷ [])) ∷
        (InstanceItem (at 4 1) (codes "sub") (record { name = (Some (codes "X")); place = (at 4 8); actual = (Some (Number (at 4 10) Plain (bits_of 32 1))) } ∷ [])
        (record { name = (codes "i"); place = (at 4 14); connections = ([]) } ∷ [])) ∷
        []);
  } ∷ []);
}

abbrev pub Found78 : Type 0
Found78 = flat source78 (codes "top") Usual ≡ Err (faulty 4 8 UnknownName)

found78 : Found78
found78 = refl

-- module sub(input a, input [3:0] v, output y, output reg [1:0] z); parameter W = 2; localparam L = 3; endmodule
-- module top;
-- wire p; wire [3:0] n; reg r; reg [7:0] m [0:3]; reg [1:0] e;
-- sub #(.L(1)) i();
-- endmodule
abbrev source79 : SourceUnit
source79 = record {
  modules = (record {
    name = (codes "sub");
    place = (at 1 8);
    parameters = ([]);
    heads = (DeclaredHeads (record { place = (at 1 12); direction = Input; is_reg = false; signed = false; range = None; names = (record { name = (codes "a"); place = (at 1 18) } ∷ []) } ∷
        record {
          place = (at 1 21);
          direction = Input;
          is_reg = false;
          signed = false;
          range =
              (Some (record { place = (at 1 27); high = (Number (at 1 28) Plain (bits_of 32 3)); low = (Number (at 1 30) Plain (bits_of 32 0)) }));
          names = (record { name = (codes "v"); place = (at 1 33) } ∷ []);
        } ∷ record {
          place = (at 1 36);
          direction = Output;
          is_reg = false;
          signed = false;
          range = None;
          names = (record { name = (codes "y"); place = (at 1 43) } ∷ []);
        } ∷ record {
          place = (at 1 46);
          direction = Output;
          is_reg = true;
          signed = false;
          range = (Some (record { place = (at 1 57); high = (Number (at 1 58) Plain (bits_of 32 1)); low = (Number (at 1 60) Plain (bits_of 32 0)) }));
          names = (record { name = (codes "z"); place = (at 1 63) } ∷ []);
        } ∷ []));
    items =
        ((ParameterItem (record {
          place = (at 1 67);
          is_local = false;
          signed = false;
          range = None;
          parameters = (record { name = (codes "W"); place = (at 1 77); value = (Number (at 1 81) Plain (bits_of 32 2)) } ∷ []);
        })) ∷
        (ParameterItem (record {
          place = (at 1 84);
          is_local = true;
          signed = false;
          range = None;
          parameters = (record { name = (codes "L"); place = (at 1 95); value = (Number (at 1 99) Plain (bits_of 32 3)) } ∷ []);
        })) ∷
        []);
  } ∷ record {
    name = (codes "top");
    place = (at 2 8);
    parameters = ([]);
    heads = (PlainHeads ([]));
    items =
        ((WireItem (at 3 1) false None (record { name = (codes "p"); place = (at 3 6); value = None } ∷ [])) ∷
        (WireItem (at 3 9) false (Some (record { place = (at 3 14); high = (Number (at 3 15) Plain (bits_of 32 3)); low = (Number (at 3 17) Plain (bits_of 32 0)) }))
        (record { name = (codes "n"); place = (at 3 20); value = None } ∷ [])) ∷
        (RegItem (at 3 23) false None (record { name = (codes "r"); place = (at 3 27); content = NoContent } ∷ [])) ∷
        (RegItem (at 3 30) false (Some (record { place = (at 3 34); high = (Number (at 3 35) Plain (bits_of 32 7)); low = (Number (at 3 37) Plain (bits_of 32 0)) }))
        (record {
          name = (codes "m");
          place = (at 3 40);
          content = (MemoryBounds (record {
            place = (at 3 42);
            high = (Number (at 3 43) Plain (bits_of 32 0));
            low = (Number (at 3 45) Plain (bits_of 32 3));
          }));
        } ∷ [])) ∷
        (RegItem (at 3 49) false (Some (record { place = (at 3 53); high = (Number (at 3 54) Plain (bits_of 32 1)); low = (Number (at 3 56) Plain (bits_of 32 0)) }))
        (record { name = (codes "e"); place = (at 3 59); content = NoContent } ∷ [])) ∷
        (InstanceItem (at 4 1) (codes "sub") (record { name = (Some (codes "L")); place = (at 4 8); actual = (Some (Number (at 4 10) Plain (bits_of 32 1))) } ∷ [])
        (record { name = (codes "i"); place = (at 4 14); connections = ([]) } ∷ [])) ∷
        []);
  } ∷ []);
}

abbrev pub Found79 : Type 0
Found79 = flat source79 (codes "top") Usual ≡ Err (faulty 4 8 UnknownName)

found79 : Found79
found79 = refl

-- what the definitions give of the texts above
abbrev pub Holds : Type 0
Holds = Found70 × Found71 × Found72 × Found73 × Found74 × Found75 × Found76 × Found77 × Found78 × Found79

pub holds : Holds
holds = (found70, found71, found72, found73, found74, found75, found76, found77, found78, found79)
