use Rattle.std.specs.Prelude.{◌≡◌, refl, true, false, [], ◌∷◌, Some, None, Ok, Err, codes}
use Rattle.four_value.specs.Values.{bits_of}
use Rattle.four_value.specs.declared.logic.Edge.TheVariants.{Any}
use Rattle.v_design.specs.declared.logic.ObjectKind.TheVariants.{Net}
use Rattle.four_value.specs.declared.operator.GateKind.TheVariants.{And, Not}
use Rattle.v_tree.specs.declared.token.NumberForm.TheVariants.{Plain}
use Rattle.v_tree.specs.declared.item.Direction.TheVariants.{Input, Output}
use Rattle.v_tree.specs.Trees.{Number, Selected, NoIndex, IndexAt, IndexRange, OneSelect, OnAnyRead, OnEntries, NullStatement, EventStatement, BlockingStatement, NoContent, MemoryBounds}
use Rattle.v_tree.specs.Trees.{ParameterItem, PortItem, WireItem, RegItem, AssignItem, GateItem, InstanceItem, InitialItem, AlwaysItem, PlainHeads, DeclaredHeads, SourceUnit}
use Rattle.v_elab.specs.declared.Mode.TheVariants.{Usual}
use Rattle.v_names.specs.Faults.{WrongKind}
use Rattle.v_elab.specs.Refusals.{TwoDrivers}
use Rattle.v_elab.specs.Flat.{flat}
use Rattle.elab_examples.specs.Build.{at, faulty, summary_of}

-- module top;
-- parameter [3:0] P = 1; wire w = P[0];
-- endmodule
abbrev source110 : SourceUnit
source110 = record {
  modules = (record {
    name = (codes "top");
    place = (at 1 8);
    parameters = ([]);
    heads = (PlainHeads ([]));
    items =
        ((ParameterItem (record {
          place = (at 2 1);
          is_local = false;
          signed = false;
          range =
              (Some (record { place = (at 2 11); high = (Number (at 2 12) Plain (bits_of 32 3)); low = (Number (at 2 14) Plain (bits_of 32 0)) }));
          parameters = (record { name = (codes "P"); place = (at 2 17); value = (Number (at 2 21) Plain (bits_of 32 1)) } ∷ []);
        })) ∷
        (WireItem (at 2 24) false None (record { name = (codes "w"); place = (at 2 29); value = (Some (Selected (at 2 33) (codes "P") (IndexAt (Number (at 2 35) Plain (bits_of 32 0))))) } ∷ [])) ∷
        []);
  } ∷ []);
}

abbrev pub Found110 : Type 0
Found110 = flat source110 (codes "top") Usual ≡ Err (faulty 2 33 WrongKind)

found110 : Found110
found110 = refl

-- module top;
-- parameter P = 1; initial @(P) ;
-- endmodule
abbrev source111 : SourceUnit
source111 = record {
  modules = (record {
    name = (codes "top");
    place = (at 1 8);
    parameters = ([]);
    heads = (PlainHeads ([]));
    items =
        ((ParameterItem (record {
          place = (at 2 1);
          is_local = false;
          signed = false;
          range = None;
          parameters = (record { name = (codes "P"); place = (at 2 11); value = (Number (at 2 15) Plain (bits_of 32 1)) } ∷ []);
        })) ∷
        (InitialItem (at 2 18) (EventStatement (at 2 26) (OnEntries (record { edge = Any; select = record { place = (at 2 28); name = (codes "P"); index = NoIndex } } ∷ []))
        (NullStatement (at 2 31)))) ∷
        []);
  } ∷ []);
}

abbrev pub Found111 : Type 0
Found111 = flat source111 (codes "top") Usual ≡ Err (faulty 2 28 WrongKind)

found111 : Found111
found111 = refl

-- module top;
-- wire a, y; and g(y, a); wire w = g;
-- endmodule
abbrev source112 : SourceUnit
source112 = record {
  modules = (record {
    name = (codes "top");
    place = (at 1 8);
    parameters = ([]);
    heads = (PlainHeads ([]));
    items =
        ((WireItem (at 2 1) false None (record { name = (codes "a"); place = (at 2 6); value = None } ∷ record { name = (codes "y"); place = (at 2 9); value = None } ∷ [])) ∷
        (GateItem (at 2 12) And (record {
          name = (Some (record { name = (codes "g"); place = (at 2 16) }));
          output = (OneSelect (record { place = (at 2 18); name = (codes "y"); index = NoIndex }));
          inputs = ((Selected (at 2 21) (codes "a") NoIndex) ∷ []);
        } ∷ [])) ∷
        (WireItem (at 2 25) false None (record { name = (codes "w"); place = (at 2 30); value = (Some (Selected (at 2 34) (codes "g") NoIndex)) } ∷ [])) ∷
        []);
  } ∷ []);
}

abbrev pub Found112 : Type 0
Found112 = flat source112 (codes "top") Usual ≡ Err (faulty 2 34 WrongKind)

found112 : Found112
found112 = refl

-- module top(a); input a; initial a = 1; endmodule
abbrev source113 : SourceUnit
source113 = record {
  modules = (record {
    name = (codes "top");
    place = (at 1 8);
    parameters = ([]);
    heads = (PlainHeads (record { name = (codes "a"); place = (at 1 12) } ∷ []));
    items =
        ((PortItem (record { place = (at 1 16); direction = Input; is_reg = false; signed = false; range = None; names = (record { name = (codes "a"); place = (at 1 22) } ∷ []) })) ∷
        (InitialItem (at 1 25) (BlockingStatement (at 1 33) (OneSelect (record { place = (at 1 33); name = (codes "a"); index = NoIndex })) None (Number (at 1 37) Plain (bits_of 32 1)))) ∷
        []);
  } ∷ []);
}

abbrev pub Found113 : Type 0
Found113 = flat source113 (codes "top") Usual ≡ Err (faulty 1 33 WrongKind)

found113 : Found113
found113 = refl

-- module top(a); reg a; endmodule
abbrev source114 : SourceUnit
source114 = record {
  modules = (record {
    name = (codes "top");
    place = (at 1 8);
    parameters = ([]);
    heads = (PlainHeads (record { name = (codes "a"); place = (at 1 12) } ∷ []));
    items =
        ((RegItem (at 1 16) false None (record { name = (codes "a"); place = (at 1 20); content = NoContent } ∷ [])) ∷
        []);
  } ∷ []);
}

abbrev pub Found114 : Type 0
Found114 = flat source114 (codes "top") Usual ≡ Err (faulty 1 12 WrongKind)

found114 : Found114
found114 = refl

-- module top;
-- wire w; assign w = 1; assign w = 0;
-- endmodule
abbrev source115 : SourceUnit
source115 = record {
  modules = (record {
    name = (codes "top");
    place = (at 1 8);
    parameters = ([]);
    heads = (PlainHeads ([]));
    items =
        ((WireItem (at 2 1) false None (record { name = (codes "w"); place = (at 2 6); value = None } ∷ [])) ∷
        (AssignItem (at 2 9) (record { target = (OneSelect (record { place = (at 2 16); name = (codes "w"); index = NoIndex })); value = (Number (at 2 20) Plain (bits_of 32 1)) } ∷ [])) ∷
        (AssignItem (at 2 23) (record { target = (OneSelect (record { place = (at 2 30); name = (codes "w"); index = NoIndex })); value = (Number (at 2 34) Plain (bits_of 32 0)) } ∷ [])) ∷
        []);
  } ∷ []);
}

abbrev pub Found115 : Type 0
Found115 = flat source115 (codes "top") Usual ≡ Err (TwoDrivers (at 2 30) 0)

found115 : Found115
found115 = refl

-- module top;
-- wire [3:0] w; assign w[2:1] = 1; assign w[3:2] = 0;
-- endmodule
abbrev source116 : SourceUnit
source116 = record {
  modules = (record {
    name = (codes "top");
    place = (at 1 8);
    parameters = ([]);
    heads = (PlainHeads ([]));
    items =
        ((WireItem (at 2 1) false (Some (record { place = (at 2 6); high = (Number (at 2 7) Plain (bits_of 32 3)); low = (Number (at 2 9) Plain (bits_of 32 0)) }))
        (record { name = (codes "w"); place = (at 2 12); value = None } ∷ [])) ∷
        (AssignItem (at 2 15) (record {
          target = (OneSelect (record {
            place = (at 2 22);
            name = (codes "w");
            index = (IndexRange (Number (at 2 24) Plain (bits_of 32 2)) (Number (at 2 26) Plain (bits_of 32 1)));
          }));
          value = (Number (at 2 31) Plain (bits_of 32 1));
        } ∷ [])) ∷
        (AssignItem (at 2 34) (record {
          target = (OneSelect (record {
            place = (at 2 41);
            name = (codes "w");
            index = (IndexRange (Number (at 2 43) Plain (bits_of 32 3)) (Number (at 2 45) Plain (bits_of 32 2)));
          }));
          value = (Number (at 2 50) Plain (bits_of 32 0));
        } ∷ [])) ∷
        []);
  } ∷ []);
}

abbrev pub Found116 : Type 0
Found116 = flat source116 (codes "top") Usual ≡ Err (TwoDrivers (at 2 41) 2)

found116 : Found116
found116 = refl

-- module top;
-- wire w = 1; not (w, w);
-- endmodule
abbrev source117 : SourceUnit
source117 = record {
  modules = (record {
    name = (codes "top");
    place = (at 1 8);
    parameters = ([]);
    heads = (PlainHeads ([]));
    items =
        ((WireItem (at 2 1) false None (record { name = (codes "w"); place = (at 2 6); value = (Some (Number (at 2 10) Plain (bits_of 32 1))) } ∷ [])) ∷
        (GateItem (at 2 13) Not (record {
          name = None;
          output = (OneSelect (record { place = (at 2 18); name = (codes "w"); index = NoIndex }));
          inputs = ((Selected (at 2 21) (codes "w") NoIndex) ∷ []);
        } ∷ [])) ∷
        []);
  } ∷ []);
}

abbrev pub Found117 : Type 0
Found117 = flat source117 (codes "top") Usual ≡ Err (TwoDrivers (at 2 18) 0)

found117 : Found117
found117 = refl

-- module top;
-- reg r; always @* r = 1; wire w; assign w = r;
-- endmodule
abbrev source118 : SourceUnit
source118 = record {
  modules = (record {
    name = (codes "top");
    place = (at 1 8);
    parameters = ([]);
    heads = (PlainHeads ([]));
    items =
        ((RegItem (at 2 1) false None (record { name = (codes "r"); place = (at 2 5); content = NoContent } ∷ [])) ∷
        (AlwaysItem (at 2 8) (EventStatement (at 2 15) OnAnyRead (BlockingStatement (at 2 18) (OneSelect (record { place = (at 2 18); name = (codes "r"); index = NoIndex })) None
        (Number (at 2 22) Plain (bits_of 32 1))))) ∷
        (WireItem (at 2 25) false None (record { name = (codes "w"); place = (at 2 30); value = None } ∷ [])) ∷
        (AssignItem (at 2 33) (record { target = (OneSelect (record { place = (at 2 40); name = (codes "w"); index = NoIndex })); value = (Selected (at 2 44) (codes "r") NoIndex) } ∷ [])) ∷
        []);
  } ∷ []);
}

abbrev pub Found118 : Type 0
Found118 = summary_of (flat source118 (codes "top") Usual) ≡ Ok (record {
  objects = (record { name = (codes "r"); kind = Net; width = 1; indexes = ([]); place = (at 2 5) } ∷
      record { name = (codes "w"); kind = Net; width = 1; indexes = ([]); place = (at 2 30) } ∷ []);
  nodes = (record { kind = 2; name = []; inputs = ([]); outputs = (0 ∷ []) } ∷ record { kind = 0; name = []; inputs = (0 ∷ []); outputs = (1 ∷ []) } ∷ []);
  processes = ([]);
  joined = ([]);
})

found118 : Found118
found118 = refl

-- module sub(input a, input [3:0] v, output y, output reg [1:0] z); parameter W = 2; localparam L = 3; endmodule
-- module top;
-- wire p; wire [3:0] n; reg r; reg [7:0] m [0:3]; reg [1:0] e;
-- assign n[0] = 1; sub i(.y(n[0]));
-- endmodule
abbrev source119 : SourceUnit
source119 = record {
  modules = (record {
    name = (codes "sub");
    place = (at 1 8);
    parameters = ([]);
    heads = (DeclaredHeads (record { place = (at 1 12); direction = Input; is_reg = false; signed = false; range = None; names = (record { name = (codes "a"); place = (at 1 18) } ∷ []) } ∷
        record {
          place = (at 1 21);
          direction = Input;
          is_reg = false;
          signed = false;
          range =
              (Some (record { place = (at 1 27); high = (Number (at 1 28) Plain (bits_of 32 3)); low = (Number (at 1 30) Plain (bits_of 32 0)) }));
          names = (record { name = (codes "v"); place = (at 1 33) } ∷ []);
        } ∷ record {
          place = (at 1 36);
          direction = Output;
          is_reg = false;
          signed = false;
          range = None;
          names = (record { name = (codes "y"); place = (at 1 43) } ∷ []);
        } ∷ record {
          place = (at 1 46);
          direction = Output;
          is_reg = true;
          signed = false;
          range = (Some (record { place = (at 1 57); high = (Number (at 1 58) Plain (bits_of 32 1)); low = (Number (at 1 60) Plain (bits_of 32 0)) }));
          names = (record { name = (codes "z"); place = (at 1 63) } ∷ []);
        } ∷ []));
    items =
        ((ParameterItem (record {
          place = (at 1 67);
          is_local = false;
          signed = false;
          range = None;
          parameters = (record { name = (codes "W"); place = (at 1 77); value = (Number (at 1 81) Plain (bits_of 32 2)) } ∷ []);
        })) ∷
        (ParameterItem (record {
          place = (at 1 84);
          is_local = true;
          signed = false;
          range = None;
          parameters = (record { name = (codes "L"); place = (at 1 95); value = (Number (at 1 99) Plain (bits_of 32 3)) } ∷ []);
        })) ∷
        []);
  } ∷ record {
    name = (codes "top");
    place = (at 2 8);
    parameters = ([]);
    heads = (PlainHeads ([]));
    items =
        ((WireItem (at 3 1) false None (record { name = (codes "p"); place = (at 3 6); value = None } ∷ [])) ∷
        (WireItem (at 3 9) false (Some (record { place = (at 3 14); high = (Number (at 3 15) Plain (bits_of 32 3)); low = (Number (at 3 17) Plain (bits_of 32 0)) }))
        (record { name = (codes "n"); place = (at 3 20); value = None } ∷ [])) ∷
        (RegItem (at 3 23) false None (record { name = (codes "r"); place = (at 3 27); content = NoContent } ∷ [])) ∷
        (RegItem (at 3 30) false (Some (record { place = (at 3 34); high = (Number (at 3 35) Plain (bits_of 32 7)); low = (Number (at 3 37) Plain (bits_of 32 0)) }))
        (record {
          name = (codes "m");
          place = (at 3 40);
          content = (MemoryBounds (record {
            place = (at 3 42);
            high = (Number (at 3 43) Plain (bits_of 32 0));
            low = (Number (at 3 45) Plain (bits_of 32 3));
          }));
        } ∷ [])) ∷
        (RegItem (at 3 49) false (Some (record { place = (at 3 53); high = (Number (at 3 54) Plain (bits_of 32 1)); low = (Number (at 3 56) Plain (bits_of 32 0)) }))
        (record { name = (codes "e"); place = (at 3 59); content = NoContent } ∷ [])) ∷
        (AssignItem (at 4 1) (record {
          target = (OneSelect (record { place = (at 4 8); name = (codes "n"); index = (IndexAt (Number (at 4 10) Plain (bits_of 32 0))) }));
          value = (Number (at 4 15) Plain (bits_of 32 1));
        } ∷ [])) ∷
        (InstanceItem (at 4 18) (codes "sub") ([]) (record {
          name = (codes "i");
          place = (at 4 22);
          connections = (record { name = (Some (codes "y")); place = (at 4 25); actual = (Some (Selected (at 4 27) (codes "n") (IndexAt (Number (at 4 29) Plain (bits_of 32 0))))) } ∷ []);
        } ∷ [])) ∷
        []);
  } ∷ []);
}

abbrev pub Found119 : Type 0
Found119 = flat source119 (codes "top") Usual ≡ Err (TwoDrivers (at 4 27) 0)

found119 : Found119
found119 = refl

-- what the definitions give of the texts above
abbrev pub Holds : Type 0
Holds = Found110 × Found111 × Found112 × Found113 × Found114 × Found115 × Found116 × Found117 × Found118 × Found119

pub holds : Holds
holds = (found110, found111, found112, found113, found114, found115, found116, found117, found118, found119)
