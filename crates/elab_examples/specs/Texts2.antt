use Rattle.std.specs.Prelude.{◌≡◌, refl, false, [], ◌∷◌, Some, None, Err, codes}
use Rattle.four_value.specs.Values.{bits_of}
use Rattle.four_value.specs.declared.logic.Bit.TheVariants.{Zero, One, X}
use Rattle.four_value.specs.declared.operator.BinaryOperator.TheVariants.{Add}
use Rattle.v_tree.specs.declared.token.NumberForm.TheVariants.{Plain, Sized}
use Rattle.v_tree.specs.declared.item.Direction.TheVariants.{Input, Output}
use Rattle.v_tree.specs.Trees.{Number, Selected, Infixed, NoIndex, NoContent, FirstContent, ParameterItem, PortItem, WireItem, RegItem, PlainHeads, DeclaredHeads, SourceUnit}
use Rattle.v_elab.specs.declared.Mode.TheVariants.{Usual}
use Rattle.v_names.specs.Faults.{UnknownName, DeclaredTwice, NoConstant}
use Rattle.v_elab.specs.Flat.{flat}
use Rattle.elab_examples.specs.Build.{at, faulty}

-- module top(a); output a; reg a; wire a; endmodule
abbrev source20 : SourceUnit
source20 = record {
  modules = (record {
    name = (codes "top");
    place = (at 1 8);
    parameters = ([]);
    heads = (PlainHeads (record { name = (codes "a"); place = (at 1 12) } ∷ []));
    items =
        ((PortItem (record { place = (at 1 16); direction = Output; is_reg = false; signed = false; range = None; names = (record { name = (codes "a"); place = (at 1 23) } ∷ []) })) ∷
        (RegItem (at 1 26) false None (record { name = (codes "a"); place = (at 1 30); content = NoContent } ∷ [])) ∷
        (WireItem (at 1 33) false None (record { name = (codes "a"); place = (at 1 38); value = None } ∷ [])) ∷
        []);
  } ∷ []);
}

abbrev pub Found20 : Type 0
Found20 = flat source20 (codes "top") Usual ≡ Err (faulty 1 38 DeclaredTwice)

found20 : Found20
found20 = refl

-- module top(a); output a; input a; endmodule
abbrev source21 : SourceUnit
source21 = record {
  modules = (record {
    name = (codes "top");
    place = (at 1 8);
    parameters = ([]);
    heads = (PlainHeads (record { name = (codes "a"); place = (at 1 12) } ∷ []));
    items =
        ((PortItem (record { place = (at 1 16); direction = Output; is_reg = false; signed = false; range = None; names = (record { name = (codes "a"); place = (at 1 23) } ∷ []) })) ∷
        (PortItem (record { place = (at 1 26); direction = Input; is_reg = false; signed = false; range = None; names = (record { name = (codes "a"); place = (at 1 32) } ∷ []) })) ∷
        []);
  } ∷ []);
}

abbrev pub Found21 : Type 0
Found21 = flat source21 (codes "top") Usual ≡ Err (faulty 1 32 DeclaredTwice)

found21 : Found21
found21 = refl

-- module top(input a, output a); endmodule
abbrev source22 : SourceUnit
source22 = record {
  modules = (record {
    name = (codes "top");
    place = (at 1 8);
    parameters = ([]);
    heads = (DeclaredHeads (record { place = (at 1 12); direction = Input; is_reg = false; signed = false; range = None; names = (record { name = (codes "a"); place = (at 1 18) } ∷ []) } ∷
        record { place = (at 1 21); direction = Output; is_reg = false; signed = false; range = None; names = (record { name = (codes "a"); place = (at 1 28) } ∷ []) } ∷ []));
    items =
        ([]);
  } ∷ []);
}

abbrev pub Found22 : Type 0
Found22 = flat source22 (codes "top") Usual ≡ Err (faulty 1 28 DeclaredTwice)

found22 : Found22
found22 = refl

-- module top;
-- reg [64:0] w; wire b = zz;
-- endmodule
abbrev source23 : SourceUnit
source23 = record {
  modules = (record {
    name = (codes "top");
    place = (at 1 8);
    parameters = ([]);
    heads = (PlainHeads ([]));
    items =
        ((RegItem (at 2 1) false (Some (record { place = (at 2 5); high = (Number (at 2 6) Plain (bits_of 32 64)); low = (Number (at 2 9) Plain (bits_of 32 0)) }))
        (record { name = (codes "w"); place = (at 2 12); content = NoContent } ∷ [])) ∷
        (WireItem (at 2 15) false None (record { name = (codes "b"); place = (at 2 20); value = (Some (Selected (at 2 24) (codes "zz") NoIndex)) } ∷ [])) ∷
        []);
  } ∷ []);
}

abbrev pub Found23 : Type 0
Found23 = flat source23 (codes "top") Usual ≡ Err (faulty 2 24 UnknownName)

found23 : Found23
found23 = refl

-- module top;
-- reg a; reg a; wire b = zz;
-- endmodule
abbrev source24 : SourceUnit
source24 = record {
  modules = (record {
    name = (codes "top");
    place = (at 1 8);
    parameters = ([]);
    heads = (PlainHeads ([]));
    items =
        ((RegItem (at 2 1) false None (record { name = (codes "a"); place = (at 2 5); content = NoContent } ∷ [])) ∷
        (RegItem (at 2 8) false None (record { name = (codes "a"); place = (at 2 12); content = NoContent } ∷ [])) ∷
        (WireItem (at 2 15) false None (record { name = (codes "b"); place = (at 2 20); value = (Some (Selected (at 2 24) (codes "zz") NoIndex)) } ∷ [])) ∷
        []);
  } ∷ []);
}

abbrev pub Found24 : Type 0
Found24 = flat source24 (codes "top") Usual ≡ Err (faulty 2 12 DeclaredTwice)

found24 : Found24
found24 = refl

-- module top;
-- reg r; wire [r:0] w;
-- endmodule
abbrev source25 : SourceUnit
source25 = record {
  modules = (record {
    name = (codes "top");
    place = (at 1 8);
    parameters = ([]);
    heads = (PlainHeads ([]));
    items =
        ((RegItem (at 2 1) false None (record { name = (codes "r"); place = (at 2 5); content = NoContent } ∷ [])) ∷
        (WireItem (at 2 8) false (Some (record { place = (at 2 13); high = (Selected (at 2 14) (codes "r") NoIndex); low = (Number (at 2 16) Plain (bits_of 32 0)) }))
        (record { name = (codes "w"); place = (at 2 19); value = None } ∷ [])) ∷
        []);
  } ∷ []);
}

abbrev pub Found25 : Type 0
Found25 = flat source25 (codes "top") Usual ≡ Err (faulty 2 14 NoConstant)

found25 : Found25
found25 = refl

-- module top;
-- reg r; reg s = r;
-- endmodule
abbrev source26 : SourceUnit
source26 = record {
  modules = (record {
    name = (codes "top");
    place = (at 1 8);
    parameters = ([]);
    heads = (PlainHeads ([]));
    items =
        ((RegItem (at 2 1) false None (record { name = (codes "r"); place = (at 2 5); content = NoContent } ∷ [])) ∷
        (RegItem (at 2 8) false None (record { name = (codes "s"); place = (at 2 12); content = (FirstContent (Selected (at 2 16) (codes "r") NoIndex)) } ∷ [])) ∷
        []);
  } ∷ []);
}

abbrev pub Found26 : Type 0
Found26 = flat source26 (codes "top") Usual ≡ Err (faulty 2 16 NoConstant)

found26 : Found26
found26 = refl

-- module top;
-- reg r; parameter P = 1 + r;
-- endmodule
abbrev source27 : SourceUnit
source27 = record {
  modules = (record {
    name = (codes "top");
    place = (at 1 8);
    parameters = ([]);
    heads = (PlainHeads ([]));
    items =
        ((RegItem (at 2 1) false None (record { name = (codes "r"); place = (at 2 5); content = NoContent } ∷ [])) ∷
        (ParameterItem (record {
          place = (at 2 8);
          is_local = false;
          signed = false;
          range = None;
          parameters = (record { name = (codes "P"); place = (at 2 18); value = (Infixed (at 2 22) Add (Number (at 2 22) Plain (bits_of 32 1)) (Selected (at 2 26) (codes "r") NoIndex)) } ∷ []);
        })) ∷
        []);
  } ∷ []);
}

abbrev pub Found27 : Type 0
Found27 = flat source27 (codes "top") Usual ≡ Err (faulty 2 26 NoConstant)

found27 : Found27
found27 = refl

-- module top;
-- wire [1'bx:0] w;
-- endmodule
abbrev source28 : SourceUnit
source28 = record {
  modules = (record {
    name = (codes "top");
    place = (at 1 8);
    parameters = ([]);
    heads = (PlainHeads ([]));
    items =
        ((WireItem (at 2 1) false (Some (record { place = (at 2 6); high = (Number (at 2 7) Sized (X ∷ [])); low = (Number (at 2 12) Plain (bits_of 32 0)) }))
        (record { name = (codes "w"); place = (at 2 15); value = None } ∷ [])) ∷
        []);
  } ∷ []);
}

abbrev pub Found28 : Type 0
Found28 = flat source28 (codes "top") Usual ≡ Err (faulty 2 7 NoConstant)

found28 : Found28
found28 = refl

-- module top;
-- parameter P = 4'b1x;
-- endmodule
abbrev source29 : SourceUnit
source29 = record {
  modules = (record {
    name = (codes "top");
    place = (at 1 8);
    parameters = ([]);
    heads = (PlainHeads ([]));
    items =
        ((ParameterItem (record {
          place = (at 2 1);
          is_local = false;
          signed = false;
          range = None;
          parameters = (record { name = (codes "P"); place = (at 2 11); value = (Number (at 2 15) Sized (X ∷ One ∷ Zero ∷ Zero ∷ [])) } ∷ []);
        })) ∷
        []);
  } ∷ []);
}

abbrev pub Found29 : Type 0
Found29 = flat source29 (codes "top") Usual ≡ Err (faulty 2 15 NoConstant)

found29 : Found29
found29 = refl

-- what the definitions give of the texts above
abbrev pub Holds : Type 0
Holds = Found20 × Found21 × Found22 × Found23 × Found24 × Found25 × Found26 × Found27 × Found28 × Found29

pub holds : Holds
holds = (found20, found21, found22, found23, found24, found25, found26, found27, found28, found29)
