use Rattle.std.specs.Prelude.{◌≡◌, refl, true, false, [], ◌∷◌, Some, None, Ok, Err, codes}
use Rattle.four_value.specs.Values.{bits_of}
use Rattle.v_design.specs.declared.logic.ObjectKind.TheVariants.{Var, Net}
use Rattle.four_value.specs.declared.operator.UnaryOperator.TheVariants.{BitwiseNot}
use Rattle.v_tree.specs.declared.token.NumberForm.TheVariants.{Plain}
use Rattle.v_tree.specs.declared.item.Direction.TheVariants.{Input, Output}
use Rattle.v_tree.specs.Trees.{Number, Selected, Prefixed, NoIndex, IndexAt, IndexRange, OneSelect, OnAnyRead, EventStatement, BlockingStatement, NoContent, MemoryBounds, ParameterItem, PortItem}
use Rattle.v_tree.specs.Trees.{WireItem, RegItem, IntegerItem, AssignItem, InstanceItem, AlwaysItem, PlainHeads, DeclaredHeads, SourceUnit}
use Rattle.v_names.specs.Faults.{DeclaredTwice}
use Rattle.v_elab.specs.declared.Mode.TheVariants.{Usual}
use Rattle.v_elab.specs.Refusals.{TwoDrivers, LoopAt}
use Rattle.v_elab.specs.Flat.{flat}
use Rattle.elab_examples.specs.Build.{at, faulty, summary_of}

-- module sub(input a, input [3:0] v, output y, output reg [1:0] z); parameter W = 2; localparam L = 3; endmodule
-- module top;
-- wire p; wire [3:0] n; reg r; reg [7:0] m [0:3]; reg [1:0] e;
-- sub i(.z(n[1:0])), j(.z(n[2:1]));
-- endmodule
abbrev source120 : SourceUnit
source120 = record {
  modules = (record {
    name = (codes "sub");
    place = (at 1 8);
    parameters = ([]);
    heads = (DeclaredHeads (record { place = (at 1 12); direction = Input; is_reg = false; signed = false; range = None; names = (record { name = (codes "a"); place = (at 1 18) } ∷ []) } ∷
        record {
          place = (at 1 21);
          direction = Input;
          is_reg = false;
          signed = false;
          range =
              (Some (record { place = (at 1 27); high = (Number (at 1 28) Plain (bits_of 32 3)); low = (Number (at 1 30) Plain (bits_of 32 0)) }));
          names = (record { name = (codes "v"); place = (at 1 33) } ∷ []);
        } ∷ record {
          place = (at 1 36);
          direction = Output;
          is_reg = false;
          signed = false;
          range = None;
          names = (record { name = (codes "y"); place = (at 1 43) } ∷ []);
        } ∷ record {
          place = (at 1 46);
          direction = Output;
          is_reg = true;
          signed = false;
          range = (Some (record { place = (at 1 57); high = (Number (at 1 58) Plain (bits_of 32 1)); low = (Number (at 1 60) Plain (bits_of 32 0)) }));
          names = (record { name = (codes "z"); place = (at 1 63) } ∷ []);
        } ∷ []));
    items =
        ((ParameterItem (record {
          place = (at 1 67);
          is_local = false;
          signed = false;
          range = None;
          parameters = (record { name = (codes "W"); place = (at 1 77); value = (Number (at 1 81) Plain (bits_of 32 2)) } ∷ []);
        })) ∷
        (ParameterItem (record {
          place = (at 1 84);
          is_local = true;
          signed = false;
          range = None;
          parameters = (record { name = (codes "L"); place = (at 1 95); value = (Number (at 1 99) Plain (bits_of 32 3)) } ∷ []);
        })) ∷
        []);
  } ∷ record {
    name = (codes "top");
    place = (at 2 8);
    parameters = ([]);
    heads = (PlainHeads ([]));
    items =
        ((WireItem (at 3 1) false None (record { name = (codes "p"); place = (at 3 6); value = None } ∷ [])) ∷
        (WireItem (at 3 9) false (Some (record { place = (at 3 14); high = (Number (at 3 15) Plain (bits_of 32 3)); low = (Number (at 3 17) Plain (bits_of 32 0)) }))
        (record { name = (codes "n"); place = (at 3 20); value = None } ∷ [])) ∷
        (RegItem (at 3 23) false None (record { name = (codes "r"); place = (at 3 27); content = NoContent } ∷ [])) ∷
        (RegItem (at 3 30) false (Some (record { place = (at 3 34); high = (Number (at 3 35) Plain (bits_of 32 7)); low = (Number (at 3 37) Plain (bits_of 32 0)) }))
        (record {
          name = (codes "m");
          place = (at 3 40);
          content = (MemoryBounds (record {
            place = (at 3 42);
            high = (Number (at 3 43) Plain (bits_of 32 0));
            low = (Number (at 3 45) Plain (bits_of 32 3));
          }));
        } ∷ [])) ∷
        (RegItem (at 3 49) false (Some (record { place = (at 3 53); high = (Number (at 3 54) Plain (bits_of 32 1)); low = (Number (at 3 56) Plain (bits_of 32 0)) }))
        (record { name = (codes "e"); place = (at 3 59); content = NoContent } ∷ [])) ∷
        (InstanceItem (at 4 1) (codes "sub") ([]) (record {
          name = (codes "i");
          place = (at 4 5);
          connections = (record {
            name = (Some (codes "z"));
            place = (at 4 8);
            actual = (Some
                (Selected (at 4 10) (codes "n") (IndexRange (Number (at 4 12) Plain (bits_of 32 1)) (Number (at 4 14) Plain (bits_of 32 0)))));
          } ∷ []);
        } ∷
        record {
          name = (codes "j");
          place = (at 4 20);
          connections = (record {
            name = (Some (codes "z"));
            place = (at 4 23);
            actual = (Some (Selected (at 4 25) (codes "n") (IndexRange (Number (at 4 27) Plain (bits_of 32 2)) (Number (at 4 29) Plain (bits_of 32 1)))));
          } ∷ []);
        } ∷ [])) ∷
        []);
  } ∷ []);
}

abbrev pub Found120 : Type 0
Found120 = flat source120 (codes "top") Usual ≡ Err (TwoDrivers (at 4 25) 1)

found120 : Found120
found120 = refl

-- module s(input a); assign a = 1; endmodule module top; reg r; s i(r); endmodule
abbrev source121 : SourceUnit
source121 = record {
  modules = (record {
    name = (codes "s");
    place = (at 1 8);
    parameters = ([]);
    heads = (DeclaredHeads (record { place = (at 1 10); direction = Input; is_reg = false; signed = false; range = None; names = (record { name = (codes "a"); place = (at 1 16) } ∷ []) } ∷ []));
    items =
        ((AssignItem (at 1 20) (record { target = (OneSelect (record { place = (at 1 27); name = (codes "a"); index = NoIndex })); value = (Number (at 1 31) Plain (bits_of 32 1)) } ∷ [])) ∷
        []);
  } ∷ record {
    name = (codes "top");
    place = (at 1 51);
    parameters = ([]);
    heads = (PlainHeads ([]));
    items =
        ((RegItem (at 1 56) false None (record { name = (codes "r"); place = (at 1 60); content = NoContent } ∷ [])) ∷
        (InstanceItem (at 1 63) (codes "s") ([]) (record {
          name = (codes "i");
          place = (at 1 65);
          connections = (record { name = None; place = (at 1 67); actual = (Some (Selected (at 1 67) (codes "r") NoIndex)) } ∷ []);
        } ∷ [])) ∷
        []);
  } ∷ []);
}

abbrev pub Found121 : Type 0
Found121 = flat source121 (codes "top") Usual ≡ Err (TwoDrivers (at 1 27) 0)

found121 : Found121
found121 = refl

-- module s(input a); assign a = 1; endmodule module top; wire r; s i(r); endmodule
abbrev source122 : SourceUnit
source122 = record {
  modules = (record {
    name = (codes "s");
    place = (at 1 8);
    parameters = ([]);
    heads = (DeclaredHeads (record { place = (at 1 10); direction = Input; is_reg = false; signed = false; range = None; names = (record { name = (codes "a"); place = (at 1 16) } ∷ []) } ∷ []));
    items =
        ((AssignItem (at 1 20) (record { target = (OneSelect (record { place = (at 1 27); name = (codes "a"); index = NoIndex })); value = (Number (at 1 31) Plain (bits_of 32 1)) } ∷ [])) ∷
        []);
  } ∷ record {
    name = (codes "top");
    place = (at 1 51);
    parameters = ([]);
    heads = (PlainHeads ([]));
    items =
        ((WireItem (at 1 56) false None (record { name = (codes "r"); place = (at 1 61); value = None } ∷ [])) ∷
        (InstanceItem (at 1 64) (codes "s") ([]) (record {
          name = (codes "i");
          place = (at 1 66);
          connections = (record { name = None; place = (at 1 68); actual = (Some (Selected (at 1 68) (codes "r") NoIndex)) } ∷ []);
        } ∷ [])) ∷
        []);
  } ∷ []);
}

abbrev pub Found122 : Type 0
Found122 = summary_of (flat source122 (codes "top") Usual) ≡ Ok (record {
  objects = (record { name = (codes "r"); kind = Net; width = 1; indexes = ([]); place = (at 1 61) } ∷ []);
  nodes = (record { kind = 0; name = []; inputs = ([]); outputs = (0 ∷ []) } ∷ []);
  processes = ([]);
  joined = (record { name = (codes "i.a"); objects = (0 ∷ []) } ∷ []);
})

found122 : Found122
found122 = refl

-- module top;
-- wire a; assign a = ~a;
-- endmodule
abbrev source123 : SourceUnit
source123 = record {
  modules = (record {
    name = (codes "top");
    place = (at 1 8);
    parameters = ([]);
    heads = (PlainHeads ([]));
    items =
        ((WireItem (at 2 1) false None (record { name = (codes "a"); place = (at 2 6); value = None } ∷ [])) ∷
        (AssignItem (at 2 9) (record {
          target = (OneSelect (record { place = (at 2 16); name = (codes "a"); index = NoIndex }));
          value = (Prefixed (at 2 20) BitwiseNot (Selected (at 2 21) (codes "a") NoIndex));
        } ∷ [])) ∷
        []);
  } ∷ []);
}

abbrev pub Found123 : Type 0
Found123 = flat source123 (codes "top") Usual ≡ Err (LoopAt (at 2 6))

found123 : Found123
found123 = refl

-- module top;
-- wire [1:0] a; assign a[1] = a[0]; assign a[0] = a[1];
-- endmodule
abbrev source124 : SourceUnit
source124 = record {
  modules = (record {
    name = (codes "top");
    place = (at 1 8);
    parameters = ([]);
    heads = (PlainHeads ([]));
    items =
        ((WireItem (at 2 1) false (Some (record { place = (at 2 6); high = (Number (at 2 7) Plain (bits_of 32 1)); low = (Number (at 2 9) Plain (bits_of 32 0)) }))
        (record { name = (codes "a"); place = (at 2 12); value = None } ∷ [])) ∷
        (AssignItem (at 2 15) (record {
          target = (OneSelect (record { place = (at 2 22); name = (codes "a"); index = (IndexAt (Number (at 2 24) Plain (bits_of 32 1))) }));
          value = (Selected (at 2 29) (codes "a") (IndexAt (Number (at 2 31) Plain (bits_of 32 0))));
        } ∷ [])) ∷
        (AssignItem (at 2 35) (record {
          target = (OneSelect (record { place = (at 2 42); name = (codes "a"); index = (IndexAt (Number (at 2 44) Plain (bits_of 32 0))) }));
          value = (Selected (at 2 49) (codes "a") (IndexAt (Number (at 2 51) Plain (bits_of 32 1))));
        } ∷ [])) ∷
        []);
  } ∷ []);
}

abbrev pub Found124 : Type 0
Found124 = flat source124 (codes "top") Usual ≡ Err (LoopAt (at 2 12))

found124 : Found124
found124 = refl

-- module top;
-- wire [1:0] a; reg r; assign a[1] = a[0]; assign a[0] = r;
-- endmodule
abbrev source125 : SourceUnit
source125 = record {
  modules = (record {
    name = (codes "top");
    place = (at 1 8);
    parameters = ([]);
    heads = (PlainHeads ([]));
    items =
        ((WireItem (at 2 1) false (Some (record { place = (at 2 6); high = (Number (at 2 7) Plain (bits_of 32 1)); low = (Number (at 2 9) Plain (bits_of 32 0)) }))
        (record { name = (codes "a"); place = (at 2 12); value = None } ∷ [])) ∷
        (RegItem (at 2 15) false None (record { name = (codes "r"); place = (at 2 19); content = NoContent } ∷ [])) ∷
        (AssignItem (at 2 22) (record {
          target = (OneSelect (record { place = (at 2 29); name = (codes "a"); index = (IndexAt (Number (at 2 31) Plain (bits_of 32 1))) }));
          value = (Selected (at 2 36) (codes "a") (IndexAt (Number (at 2 38) Plain (bits_of 32 0))));
        } ∷ [])) ∷
        (AssignItem (at 2 42) (record {
          target = (OneSelect (record { place = (at 2 49); name = (codes "a"); index = (IndexAt (Number (at 2 51) Plain (bits_of 32 0))) }));
          value = (Selected (at 2 56) (codes "r") NoIndex);
        } ∷ [])) ∷
        []);
  } ∷ []);
}

abbrev pub Found125 : Type 0
Found125 = summary_of (flat source125 (codes "top") Usual) ≡ Ok (record {
  objects = (record { name = (codes "a"); kind = Net; width = 1; indexes = (0 ∷ 0 ∷ []); place = (at 2 12) } ∷
      record { name = (codes "a"); kind = Net; width = 1; indexes = (1 ∷ 1 ∷ []); place = (at 2 12) } ∷ record { name = (codes "r"); kind = Var; width = 1; indexes = ([]); place = (at 2 19) } ∷ []);
  nodes = (record { kind = 0; name = []; inputs = (2 ∷ []); outputs = (0 ∷ []) } ∷ record { kind = 0; name = []; inputs = (0 ∷ []); outputs = (1 ∷ []) } ∷ []);
  processes = ([]);
  joined = ([]);
})

found125 : Found125
found125 = refl

-- module top;
-- wire [1:0] a; reg i; assign a[1] = a[i]; assign a[0] = i;
-- endmodule
abbrev source126 : SourceUnit
source126 = record {
  modules = (record {
    name = (codes "top");
    place = (at 1 8);
    parameters = ([]);
    heads = (PlainHeads ([]));
    items =
        ((WireItem (at 2 1) false (Some (record { place = (at 2 6); high = (Number (at 2 7) Plain (bits_of 32 1)); low = (Number (at 2 9) Plain (bits_of 32 0)) }))
        (record { name = (codes "a"); place = (at 2 12); value = None } ∷ [])) ∷
        (RegItem (at 2 15) false None (record { name = (codes "i"); place = (at 2 19); content = NoContent } ∷ [])) ∷
        (AssignItem (at 2 22) (record {
          target = (OneSelect (record { place = (at 2 29); name = (codes "a"); index = (IndexAt (Number (at 2 31) Plain (bits_of 32 1))) }));
          value = (Selected (at 2 36) (codes "a") (IndexAt (Selected (at 2 38) (codes "i") NoIndex)));
        } ∷ [])) ∷
        (AssignItem (at 2 42) (record {
          target = (OneSelect (record { place = (at 2 49); name = (codes "a"); index = (IndexAt (Number (at 2 51) Plain (bits_of 32 0))) }));
          value = (Selected (at 2 56) (codes "i") NoIndex);
        } ∷ [])) ∷
        []);
  } ∷ []);
}

abbrev pub Found126 : Type 0
Found126 = flat source126 (codes "top") Usual ≡ Err (LoopAt (at 2 12))

found126 : Found126
found126 = refl

-- module top;
-- reg a; wire b; always @* a = b; assign b = ~a;
-- endmodule
abbrev source127 : SourceUnit
source127 = record {
  modules = (record {
    name = (codes "top");
    place = (at 1 8);
    parameters = ([]);
    heads = (PlainHeads ([]));
    items =
        ((RegItem (at 2 1) false None (record { name = (codes "a"); place = (at 2 5); content = NoContent } ∷ [])) ∷
        (WireItem (at 2 8) false None (record { name = (codes "b"); place = (at 2 13); value = None } ∷ [])) ∷
        (AlwaysItem (at 2 16) (EventStatement (at 2 23) OnAnyRead (BlockingStatement (at 2 26) (OneSelect (record { place = (at 2 26); name = (codes "a"); index = NoIndex })) None
        (Selected (at 2 30) (codes "b") NoIndex)))) ∷
        (AssignItem (at 2 33) (record {
          target = (OneSelect (record { place = (at 2 40); name = (codes "b"); index = NoIndex }));
          value = (Prefixed (at 2 44) BitwiseNot (Selected (at 2 45) (codes "a") NoIndex));
        } ∷ [])) ∷
        []);
  } ∷ []);
}

abbrev pub Found127 : Type 0
Found127 = flat source127 (codes "top") Usual ≡ Err (LoopAt (at 2 5))

found127 : Found127
found127 = refl

-- module top;
-- wire b, a; assign a = ~a; assign b = a;
-- endmodule
abbrev source128 : SourceUnit
source128 = record {
  modules = (record {
    name = (codes "top");
    place = (at 1 8);
    parameters = ([]);
    heads = (PlainHeads ([]));
    items =
        ((WireItem (at 2 1) false None (record { name = (codes "b"); place = (at 2 6); value = None } ∷ record { name = (codes "a"); place = (at 2 9); value = None } ∷ [])) ∷
        (AssignItem (at 2 12) (record {
          target = (OneSelect (record { place = (at 2 19); name = (codes "a"); index = NoIndex }));
          value = (Prefixed (at 2 23) BitwiseNot (Selected (at 2 24) (codes "a") NoIndex));
        } ∷ [])) ∷
        (AssignItem (at 2 27) (record { target = (OneSelect (record { place = (at 2 34); name = (codes "b"); index = NoIndex })); value = (Selected (at 2 38) (codes "a") NoIndex) } ∷ [])) ∷
        []);
  } ∷ []);
}

abbrev pub Found128 : Type 0
Found128 = flat source128 (codes "top") Usual ≡ Err (LoopAt (at 2 9))

found128 : Found128
found128 = refl

-- module top(q); output [31:0] q; integer q; endmodule
abbrev source129 : SourceUnit
source129 = record {
  modules = (record {
    name = (codes "top");
    place = (at 1 8);
    parameters = ([]);
    heads = (PlainHeads (record { name = (codes "q"); place = (at 1 12) } ∷ []));
    items =
        ((PortItem (record {
          place = (at 1 16);
          direction = Output;
          is_reg = false;
          signed = false;
          range = (Some (record { place = (at 1 23); high = (Number (at 1 24) Plain (bits_of 32 31)); low = (Number (at 1 27) Plain (bits_of 32 0)) }));
          names = (record { name = (codes "q"); place = (at 1 30) } ∷ []);
        })) ∷
        (IntegerItem (at 1 33) (record { name = (codes "q"); place = (at 1 41); content = NoContent } ∷ [])) ∷
        []);
  } ∷ []);
}

abbrev pub Found129 : Type 0
Found129 = flat source129 (codes "top") Usual ≡ Err (faulty 1 41 DeclaredTwice)

found129 : Found129
found129 = refl

-- what the definitions give of the texts above
abbrev pub Holds : Type 0
Holds = Found120 × Found121 × Found122 × Found123 × Found124 × Found125 × Found126 × Found127 × Found128 × Found129

pub holds : Holds
holds = (found120, found121, found122, found123, found124, found125, found126, found127, found128, found129)
