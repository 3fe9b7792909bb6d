use Rattle.std.specs.Prelude.{◌≡◌, refl, true, false, [], ◌∷◌, Some, None, Err, codes}
use Rattle.four_value.specs.Values.{bits_of}
use Rattle.four_value.specs.declared.operator.BinaryOperator.TheVariants.{Add}
use Rattle.v_tree.specs.declared.token.NumberForm.TheVariants.{Plain, Sized}
use Rattle.v_tree.specs.declared.item.Direction.TheVariants.{Input, Output}
use Rattle.v_tree.specs.Trees.{Number, Selected, Parenthesised, Infixed, NoIndex, NoContent, MemoryBounds, ParameterItem, WireItem, RegItem, InstanceItem, PlainHeads}
use Rattle.v_tree.specs.Trees.{DeclaredHeads, SourceUnit}
use Rattle.v_elab.specs.declared.Mode.TheVariants.{Usual}
use Rattle.v_names.specs.Faults.{DeclaredTwice, BadConnection}
use Rattle.v_elab.specs.Flat.{flat}
use Rattle.elab_examples.specs.Build.{at, faulty}

-- module sub(input a, input [3:0] v, output y, output reg [1:0] z); parameter W = 2; localparam L = 3; endmodule
-- module top;
-- wire p; wire [3:0] n; reg r; reg [7:0] m [0:3]; reg [1:0] e;
-- sub #(.W(1), .W(2)) i();
-- endmodule
abbrev source80 : SourceUnit
source80 = record {
  modules = (record {
    name = (codes "sub");
    place = (at 1 8);
    parameters = ([]);
    heads = (DeclaredHeads (record { place = (at 1 12); direction = Input; is_reg = false; signed = false; range = None; names = (record { name = (codes "a"); place = (at 1 18) } ∷ []) } ∷
        record {
          place = (at 1 21);
          direction = Input;
          is_reg = false;
          signed = false;
          range =
              (Some (record { place = (at 1 27); high = (Number (at 1 28) Plain (bits_of 32 3)); low = (Number (at 1 30) Plain (bits_of 32 0)) }));
          names = (record { name = (codes "v"); place = (at 1 33) } ∷ []);
        } ∷ record {
          place = (at 1 36);
          direction = Output;
          is_reg = false;
          signed = false;
          range = None;
          names = (record { name = (codes "y"); place = (at 1 43) } ∷ []);
        } ∷ record {
          place = (at 1 46);
          direction = Output;
          is_reg = true;
          signed = false;
          range = (Some (record { place = (at 1 57); high = (Number (at 1 58) Plain (bits_of 32 1)); low = (Number (at 1 60) Plain (bits_of 32 0)) }));
          names = (record { name = (codes "z"); place = (at 1 63) } ∷ []);
        } ∷ []));
    items =
        ((ParameterItem (record {
          place = (at 1 67);
          is_local = false;
          signed = false;
          range = None;
          parameters = (record { name = (codes "W"); place = (at 1 77); value = (Number (at 1 81) Plain (bits_of 32 2)) } ∷ []);
        })) ∷
        (ParameterItem (record {
          place = (at 1 84);
          is_local = true;
          signed = false;
          range = None;
          parameters = (record { name = (codes "L"); place = (at 1 95); value = (Number (at 1 99) Plain (bits_of 32 3)) } ∷ []);
        })) ∷
        []);
  } ∷ record {
    name = (codes "top");
    place = (at 2 8);
    parameters = ([]);
    heads = (PlainHeads ([]));
    items =
        ((WireItem (at 3 1) false None (record { name = (codes "p"); place = (at 3 6); value = None } ∷ [])) ∷
        (WireItem (at 3 9) false (Some (record { place = (at 3 14); high = (Number (at 3 15) Plain (bits_of 32 3)); low = (Number (at 3 17) Plain (bits_of 32 0)) }))
        (record { name = (codes "n"); place = (at 3 20); value = None } ∷ [])) ∷
        (RegItem (at 3 23) false None (record { name = (codes "r"); place = (at 3 27); content = NoContent } ∷ [])) ∷
        (RegItem (at 3 30) false (Some (record { place = (at 3 34); high = (Number (at 3 35) Plain (bits_of 32 7)); low = (Number (at 3 37) Plain (bits_of 32 0)) }))
        (record {
          name = (codes "m");
          place = (at 3 40);
          content = (MemoryBounds (record {
            place = (at 3 42);
            high = (Number (at 3 43) Plain (bits_of 32 0));
            low = (Number (at 3 45) Plain (bits_of 32 3));
          }));
        } ∷ [])) ∷
        (RegItem (at 3 49) false (Some (record { place = (at 3 53); high = (Number (at 3 54) Plain (bits_of 32 1)); low = (Number (at 3 56) Plain (bits_of 32 0)) }))
        (record { name = (codes "e"); place = (at 3 59); content = NoContent } ∷ [])) ∷
        (InstanceItem (at 4 1) (codes "sub") (record { name = (Some (codes "W")); place = (at 4 8); actual = (Some (Number (at 4 10) Plain (bits_of 32 1))) } ∷
        record { name = (Some (codes "W")); place = (at 4 15); actual = (Some (Number (at 4 17) Plain (bits_of 32 2))) } ∷ [])
        (record { name = (codes "i"); place = (at 4 21); connections = ([]) } ∷ [])) ∷
        []);
  } ∷ []);
}

abbrev pub Found80 : Type 0
Found80 = flat source80 (codes "top") Usual ≡ Err (faulty 4 15 DeclaredTwice)

found80 : Found80
found80 = refl

-- module sub(input a, input [3:0] v, output y, output reg [1:0] z); parameter W = 2; localparam L = 3; endmodule
-- module top;
-- wire p; wire [3:0] n; reg r; reg [7:0] m [0:3]; reg [1:0] e;
-- sub #(1, 2) i();
-- endmodule
abbrev source81 : SourceUnit
source81 = record {
  modules = (record {
    name = (codes "sub");
    place = (at 1 8);
    parameters = ([]);
    heads = (DeclaredHeads (record { place = (at 1 12); direction = Input; is_reg = false; signed = false; range = None; names = (record { name = (codes "a"); place = (at 1 18) } ∷ []) } ∷
        record {
          place = (at 1 21);
          direction = Input;
          is_reg = false;
          signed = false;
          range =
              (Some (record { place = (at 1 27); high = (Number (at 1 28) Plain (bits_of 32 3)); low = (Number (at 1 30) Plain (bits_of 32 0)) }));
          names = (record { name = (codes "v"); place = (at 1 33) } ∷ []);
        } ∷ record {
          place = (at 1 36);
          direction = Output;
          is_reg = false;
          signed = false;
          range = None;
          names = (record { name = (codes "y"); place = (at 1 43) } ∷ []);
        } ∷ record {
          place = (at 1 46);
          direction = Output;
          is_reg = true;
          signed = false;
          range = (Some (record { place = (at 1 57); high = (Number (at 1 58) Plain (bits_of 32 1)); low = (Number (at 1 60) Plain (bits_of 32 0)) }));
          names = (record { name = (codes "z"); place = (at 1 63) } ∷ []);
        } ∷ []));
    items =
        ((ParameterItem (record {
          place = (at 1 67);
          is_local = false;
          signed = false;
          range = None;
          parameters = (record { name = (codes "W"); place = (at 1 77); value = (Number (at 1 81) Plain (bits_of 32 2)) } ∷ []);
        })) ∷
        (ParameterItem (record {
          place = (at 1 84);
          is_local = true;
          signed = false;
          range = None;
          parameters = (record { name = (codes "L"); place = (at 1 95); value = (Number (at 1 99) Plain (bits_of 32 3)) } ∷ []);
        })) ∷
        []);
  } ∷ record {
    name = (codes "top");
    place = (at 2 8);
    parameters = ([]);
    heads = (PlainHeads ([]));
    items =
        ((WireItem (at 3 1) false None (record { name = (codes "p"); place = (at 3 6); value = None } ∷ [])) ∷
        (WireItem (at 3 9) false (Some (record { place = (at 3 14); high = (Number (at 3 15) Plain (bits_of 32 3)); low = (Number (at 3 17) Plain (bits_of 32 0)) }))
        (record { name = (codes "n"); place = (at 3 20); value = None } ∷ [])) ∷
        (RegItem (at 3 23) false None (record { name = (codes "r"); place = (at 3 27); content = NoContent } ∷ [])) ∷
        (RegItem (at 3 30) false (Some (record { place = (at 3 34); high = (Number (at 3 35) Plain (bits_of 32 7)); low = (Number (at 3 37) Plain (bits_of 32 0)) }))
        (record {
          name = (codes "m");
          place = (at 3 40);
          content = (MemoryBounds (record {
            place = (at 3 42);
            high = (Number (at 3 43) Plain (bits_of 32 0));
            low = (Number (at 3 45) Plain (bits_of 32 3));
          }));
        } ∷ [])) ∷
        (RegItem (at 3 49) false (Some (record { place = (at 3 53); high = (Number (at 3 54) Plain (bits_of 32 1)); low = (Number (at 3 56) Plain (bits_of 32 0)) }))
        (record { name = (codes "e"); place = (at 3 59); content = NoContent } ∷ [])) ∷
        (InstanceItem (at 4 1) (codes "sub") (record { name = None; place = (at 4 7); actual = (Some (Number (at 4 7) Plain (bits_of 32 1))) } ∷
        record { name = None; place = (at 4 10); actual = (Some (Number (at 4 10) Plain (bits_of 32 2))) } ∷ []) (record { name = (codes "i"); place = (at 4 13); connections = ([]) } ∷ [])) ∷
        []);
  } ∷ []);
}

abbrev pub Found81 : Type 0
Found81 = flat source81 (codes "top") Usual ≡ Err (faulty 4 10 BadConnection)

found81 : Found81
found81 = refl

-- module sub(input a, input [3:0] v, output y, output reg [1:0] z); parameter W = 2; localparam L = 3; endmodule
-- module top;
-- wire p; wire [3:0] n; reg r; reg [7:0] m [0:3]; reg [1:0] e;
-- sub i(.y(p + 1));
-- endmodule
abbrev source82 : SourceUnit
source82 = record {
  modules = (record {
    name = (codes "sub");
    place = (at 1 8);
    parameters = ([]);
    heads = (DeclaredHeads (record { place = (at 1 12); direction = Input; is_reg = false; signed = false; range = None; names = (record { name = (codes "a"); place = (at 1 18) } ∷ []) } ∷
        record {
          place = (at 1 21);
          direction = Input;
          is_reg = false;
          signed = false;
          range =
              (Some (record { place = (at 1 27); high = (Number (at 1 28) Plain (bits_of 32 3)); low = (Number (at 1 30) Plain (bits_of 32 0)) }));
          names = (record { name = (codes "v"); place = (at 1 33) } ∷ []);
        } ∷ record {
          place = (at 1 36);
          direction = Output;
          is_reg = false;
          signed = false;
          range = None;
          names = (record { name = (codes "y"); place = (at 1 43) } ∷ []);
        } ∷ record {
          place = (at 1 46);
          direction = Output;
          is_reg = true;
          signed = false;
          range = (Some (record { place = (at 1 57); high = (Number (at 1 58) Plain (bits_of 32 1)); low = (Number (at 1 60) Plain (bits_of 32 0)) }));
          names = (record { name = (codes "z"); place = (at 1 63) } ∷ []);
        } ∷ []));
    items =
        ((ParameterItem (record {
          place = (at 1 67);
          is_local = false;
          signed = false;
          range = None;
          parameters = (record { name = (codes "W"); place = (at 1 77); value = (Number (at 1 81) Plain (bits_of 32 2)) } ∷ []);
        })) ∷
        (ParameterItem (record {
          place = (at 1 84);
          is_local = true;
          signed = false;
          range = None;
          parameters = (record { name = (codes "L"); place = (at 1 95); value = (Number (at 1 99) Plain (bits_of 32 3)) } ∷ []);
        })) ∷
        []);
  } ∷ record {
    name = (codes "top");
    place = (at 2 8);
    parameters = ([]);
    heads = (PlainHeads ([]));
    items =
        ((WireItem (at 3 1) false None (record { name = (codes "p"); place = (at 3 6); value = None } ∷ [])) ∷
        (WireItem (at 3 9) false (Some (record { place = (at 3 14); high = (Number (at 3 15) Plain (bits_of 32 3)); low = (Number (at 3 17) Plain (bits_of 32 0)) }))
        (record { name = (codes "n"); place = (at 3 20); value = None } ∷ [])) ∷
        (RegItem (at 3 23) false None (record { name = (codes "r"); place = (at 3 27); content = NoContent } ∷ [])) ∷
        (RegItem (at 3 30) false (Some (record { place = (at 3 34); high = (Number (at 3 35) Plain (bits_of 32 7)); low = (Number (at 3 37) Plain (bits_of 32 0)) }))
        (record {
          name = (codes "m");
          place = (at 3 40);
          content = (MemoryBounds (record {
            place = (at 3 42);
            high = (Number (at 3 43) Plain (bits_of 32 0));
            low = (Number (at 3 45) Plain (bits_of 32 3));
          }));
        } ∷ [])) ∷
        (RegItem (at 3 49) false (Some (record { place = (at 3 53); high = (Number (at 3 54) Plain (bits_of 32 1)); low = (Number (at 3 56) Plain (bits_of 32 0)) }))
        (record { name = (codes "e"); place = (at 3 59); content = NoContent } ∷ [])) ∷
        (InstanceItem (at 4 1) (codes "sub") ([]) (record {
          name = (codes "i");
          place = (at 4 5);
          connections = (record {
            name = (Some (codes "y"));
            place = (at 4 8);
            actual = (Some
                (Infixed (at 4 10) Add (Selected (at 4 10) (codes "p") NoIndex) (Number (at 4 14) Plain (bits_of 32 1))));
          } ∷ []);
        } ∷ [])) ∷
        []);
  } ∷ []);
}

abbrev pub Found82 : Type 0
Found82 = flat source82 (codes "top") Usual ≡ Err (faulty 4 10 BadConnection)

found82 : Found82
found82 = refl

-- module sub(input a, input [3:0] v, output y, output reg [1:0] z); parameter W = 2; localparam L = 3; endmodule
-- module top;
-- wire p; wire [3:0] n; reg r; reg [7:0] m [0:3]; reg [1:0] e;
-- sub i(.y((p)));
-- endmodule
abbrev source83 : SourceUnit
source83 = record {
  modules = (record {
    name = (codes "sub");
    place = (at 1 8);
    parameters = ([]);
    heads = (DeclaredHeads (record { place = (at 1 12); direction = Input; is_reg = false; signed = false; range = None; names = (record { name = (codes "a"); place = (at 1 18) } ∷ []) } ∷
        record {
          place = (at 1 21);
          direction = Input;
          is_reg = false;
          signed = false;
          range =
              (Some (record { place = (at 1 27); high = (Number (at 1 28) Plain (bits_of 32 3)); low = (Number (at 1 30) Plain (bits_of 32 0)) }));
          names = (record { name = (codes "v"); place = (at 1 33) } ∷ []);
        } ∷ record {
          place = (at 1 36);
          direction = Output;
          is_reg = false;
          signed = false;
          range = None;
          names = (record { name = (codes "y"); place = (at 1 43) } ∷ []);
        } ∷ record {
          place = (at 1 46);
          direction = Output;
          is_reg = true;
          signed = false;
          range = (Some (record { place = (at 1 57); high = (Number (at 1 58) Plain (bits_of 32 1)); low = (Number (at 1 60) Plain (bits_of 32 0)) }));
          names = (record { name = (codes "z"); place = (at 1 63) } ∷ []);
        } ∷ []));
    items =
        ((ParameterItem (record {
          place = (at 1 67);
          is_local = false;
          signed = false;
          range = None;
          parameters = (record { name = (codes "W"); place = (at 1 77); value = (Number (at 1 81) Plain (bits_of 32 2)) } ∷ []);
        })) ∷
        (ParameterItem (record {
          place = (at 1 84);
          is_local = true;
          signed = false;
          range = None;
          parameters = (record { name = (codes "L"); place = (at 1 95); value = (Number (at 1 99) Plain (bits_of 32 3)) } ∷ []);
        })) ∷
        []);
  } ∷ record {
    name = (codes "top");
    place = (at 2 8);
    parameters = ([]);
    heads = (PlainHeads ([]));
    items =
        ((WireItem (at 3 1) false None (record { name = (codes "p"); place = (at 3 6); value = None } ∷ [])) ∷
        (WireItem (at 3 9) false (Some (record { place = (at 3 14); high = (Number (at 3 15) Plain (bits_of 32 3)); low = (Number (at 3 17) Plain (bits_of 32 0)) }))
        (record { name = (codes "n"); place = (at 3 20); value = None } ∷ [])) ∷
        (RegItem (at 3 23) false None (record { name = (codes "r"); place = (at 3 27); content = NoContent } ∷ [])) ∷
        (RegItem (at 3 30) false (Some (record { place = (at 3 34); high = (Number (at 3 35) Plain (bits_of 32 7)); low = (Number (at 3 37) Plain (bits_of 32 0)) }))
        (record {
          name = (codes "m");
          place = (at 3 40);
          content = (MemoryBounds (record {
            place = (at 3 42);
            high = (Number (at 3 43) Plain (bits_of 32 0));
            low = (Number (at 3 45) Plain (bits_of 32 3));
          }));
        } ∷ [])) ∷
        (RegItem (at 3 49) false (Some (record { place = (at 3 53); high = (Number (at 3 54) Plain (bits_of 32 1)); low = (Number (at 3 56) Plain (bits_of 32 0)) }))
        (record { name = (codes "e"); place = (at 3 59); content = NoContent } ∷ [])) ∷
        (InstanceItem (at 4 1) (codes "sub") ([]) (record {
          name = (codes "i");
          place = (at 4 5);
          connections = (record { name = (Some (codes "y")); place = (at 4 8); actual = (Some (Parenthesised (at 4 10) (Selected (at 4 11) (codes "p") NoIndex))) } ∷ []);
        } ∷ [])) ∷
        []);
  } ∷ []);
}

abbrev pub Found83 : Type 0
Found83 = flat source83 (codes "top") Usual ≡ Err (faulty 4 10 BadConnection)

found83 : Found83
found83 = refl

-- module sub(input a, input [3:0] v, output y, output reg [1:0] z); parameter W = 2; localparam L = 3; endmodule
-- module top;
-- wire p; wire [3:0] n; reg r; reg [7:0] m [0:3]; reg [1:0] e;
-- sub i(.y(1'b1));
-- endmodule
abbrev source84 : SourceUnit
source84 = record {
  modules = (record {
    name = (codes "sub");
    place = (at 1 8);
    parameters = ([]);
    heads = (DeclaredHeads (record { place = (at 1 12); direction = Input; is_reg = false; signed = false; range = None; names = (record { name = (codes "a"); place = (at 1 18) } ∷ []) } ∷
        record {
          place = (at 1 21);
          direction = Input;
          is_reg = false;
          signed = false;
          range =
              (Some (record { place = (at 1 27); high = (Number (at 1 28) Plain (bits_of 32 3)); low = (Number (at 1 30) Plain (bits_of 32 0)) }));
          names = (record { name = (codes "v"); place = (at 1 33) } ∷ []);
        } ∷ record {
          place = (at 1 36);
          direction = Output;
          is_reg = false;
          signed = false;
          range = None;
          names = (record { name = (codes "y"); place = (at 1 43) } ∷ []);
        } ∷ record {
          place = (at 1 46);
          direction = Output;
          is_reg = true;
          signed = false;
          range = (Some (record { place = (at 1 57); high = (Number (at 1 58) Plain (bits_of 32 1)); low = (Number (at 1 60) Plain (bits_of 32 0)) }));
          names = (record { name = (codes "z"); place = (at 1 63) } ∷ []);
        } ∷ []));
    items =
        ((ParameterItem (record {
          place = (at 1 67);
          is_local = false;
          signed = false;
          range = None;
          parameters = (record { name = (codes "W"); place = (at 1 77); value = (Number (at 1 81) Plain (bits_of 32 2)) } ∷ []);
        })) ∷
        (ParameterItem (record {
          place = (at 1 84);
          is_local = true;
          signed = false;
          range = None;
          parameters = (record { name = (codes "L"); place = (at 1 95); value = (Number (at 1 99) Plain (bits_of 32 3)) } ∷ []);
        })) ∷
        []);
  } ∷ record {
    name = (codes "top");
    place = (at 2 8);
    parameters = ([]);
    heads = (PlainHeads ([]));
    items =
        ((WireItem (at 3 1) false None (record { name = (codes "p"); place = (at 3 6); value = None } ∷ [])) ∷
        (WireItem (at 3 9) false (Some (record { place = (at 3 14); high = (Number (at 3 15) Plain (bits_of 32 3)); low = (Number (at 3 17) Plain (bits_of 32 0)) }))
        (record { name = (codes "n"); place = (at 3 20); value = None } ∷ [])) ∷
        (RegItem (at 3 23) false None (record { name = (codes "r"); place = (at 3 27); content = NoContent } ∷ [])) ∷
        (RegItem (at 3 30) false (Some (record { place = (at 3 34); high = (Number (at 3 35) Plain (bits_of 32 7)); low = (Number (at 3 37) Plain (bits_of 32 0)) }))
        (record {
          name = (codes "m");
          place = (at 3 40);
          content = (MemoryBounds (record {
            place = (at 3 42);
            high = (Number (at 3 43) Plain (bits_of 32 0));
            low = (Number (at 3 45) Plain (bits_of 32 3));
          }));
        } ∷ [])) ∷
        (RegItem (at 3 49) false (Some (record { place = (at 3 53); high = (Number (at 3 54) Plain (bits_of 32 1)); low = (Number (at 3 56) Plain (bits_of 32 0)) }))
        (record { name = (codes "e"); place = (at 3 59); content = NoContent } ∷ [])) ∷
        (InstanceItem (at 4 1) (codes "sub") ([]) (record {
          name = (codes "i");
          place = (at 4 5);
          connections = (record { name = (Some (codes "y")); place = (at 4 8); actual = (Some (Number (at 4 10) Sized (bits_of 1 1))) } ∷ []);
        } ∷ [])) ∷
        []);
  } ∷ []);
}

abbrev pub Found84 : Type 0
Found84 = flat source84 (codes "top") Usual ≡ Err (faulty 4 10 BadConnection)

found84 : Found84
found84 = refl

-- what the definitions give of the texts above
abbrev pub Holds : Type 0
Holds = Found80 × Found81 × Found82 × Found83 × Found84

pub holds : Holds
holds = (found80, found81, found82, found83, found84)
