use Rattle.std.specs.Prelude.{◌≡◌, refl, false, [], ◌∷◌, Some, None, Ok, Err, codes}
use Rattle.four_value.specs.Values.{bits_of}
use Rattle.v_design.specs.declared.logic.ObjectKind.TheVariants.{Var, Net}
use Rattle.four_value.specs.declared.operator.GateKind.TheVariants.{And}
use Rattle.four_value.specs.declared.operator.BinaryOperator.TheVariants.{Subtract}
use Rattle.v_tree.specs.declared.token.NumberForm.TheVariants.{Plain}
use Rattle.v_tree.specs.declared.item.Direction.TheVariants.{Input, Output}
use Rattle.v_tree.specs.Trees.{Number, Selected, Infixed, NoIndex, OneSelect, NoContent, ParameterItem, PortItem, WireItem, RegItem, GateItem, InstanceItem, PlainHeads, SourceUnit}
use Rattle.v_elab.specs.declared.Mode.TheVariants.{Usual}
use Rattle.v_names.specs.Faults.{UnknownName, DeclaredTwice}
use Rattle.v_elab.specs.Flat.{flat}
use Rattle.elab_examples.specs.Build.{at, faulty, summary_of}

-- module top;
-- zz i();
-- endmodule
abbrev source10 : SourceUnit
source10 = record {
  modules = (record {
    name = (codes "top");
    place = (at 1 8);
    parameters = ([]);
    heads = (PlainHeads ([]));
    items =
        ((InstanceItem (at 2 1) (codes "zz") ([]) (record { name = (codes "i"); place = (at 2 4); connections = ([]) } ∷ [])) ∷
        []);
  } ∷ []);
}

abbrev pub Found10 : Type 0
Found10 = flat source10 (codes "top") Usual ≡ Err (faulty 2 1 UnknownName)

found10 : Found10
found10 = refl

-- module top(zz); endmodule
abbrev source11 : SourceUnit
source11 = record {
  modules = (record {
    name = (codes "top");
    place = (at 1 8);
    parameters = ([]);
    heads = (PlainHeads (record { name = (codes "zz"); place = (at 1 12) } ∷ []));
    items =
        ([]);
  } ∷ []);
}

abbrev pub Found11 : Type 0
Found11 = flat source11 (codes "top") Usual ≡ Err (faulty 1 12 UnknownName)

found11 : Found11
found11 = refl

-- module top;
-- wire a; wire a;
-- endmodule
abbrev source12 : SourceUnit
source12 = record {
  modules = (record {
    name = (codes "top");
    place = (at 1 8);
    parameters = ([]);
    heads = (PlainHeads ([]));
    items =
        ((WireItem (at 2 1) false None (record { name = (codes "a"); place = (at 2 6); value = None } ∷ [])) ∷
        (WireItem (at 2 9) false None (record { name = (codes "a"); place = (at 2 14); value = None } ∷ [])) ∷
        []);
  } ∷ []);
}

abbrev pub Found12 : Type 0
Found12 = flat source12 (codes "top") Usual ≡ Err (faulty 2 14 DeclaredTwice)

found12 : Found12
found12 = refl

-- module top;
-- wire a; reg a;
-- endmodule
abbrev source13 : SourceUnit
source13 = record {
  modules = (record {
    name = (codes "top");
    place = (at 1 8);
    parameters = ([]);
    heads = (PlainHeads ([]));
    items =
        ((WireItem (at 2 1) false None (record { name = (codes "a"); place = (at 2 6); value = None } ∷ [])) ∷
        (RegItem (at 2 9) false None (record { name = (codes "a"); place = (at 2 13); content = NoContent } ∷ [])) ∷
        []);
  } ∷ []);
}

abbrev pub Found13 : Type 0
Found13 = flat source13 (codes "top") Usual ≡ Err (faulty 2 13 DeclaredTwice)

found13 : Found13
found13 = refl

-- module top;
-- wire a; parameter a = 1;
-- endmodule
abbrev source14 : SourceUnit
source14 = record {
  modules = (record {
    name = (codes "top");
    place = (at 1 8);
    parameters = ([]);
    heads = (PlainHeads ([]));
    items =
        ((WireItem (at 2 1) false None (record { name = (codes "a"); place = (at 2 6); value = None } ∷ [])) ∷
        (ParameterItem (record {
          place = (at 2 9);
          is_local = false;
          signed = false;
          range = None;
          parameters = (record { name = (codes "a"); place = (at 2 19); value = (Number (at 2 23) Plain (bits_of 32 1)) } ∷ []);
        })) ∷
        []);
  } ∷ []);
}

abbrev pub Found14 : Type 0
Found14 = flat source14 (codes "top") Usual ≡ Err (faulty 2 19 DeclaredTwice)

found14 : Found14
found14 = refl

-- module top;
-- wire a, b; and a(b, b);
-- endmodule
abbrev source15 : SourceUnit
source15 = record {
  modules = (record {
    name = (codes "top");
    place = (at 1 8);
    parameters = ([]);
    heads = (PlainHeads ([]));
    items =
        ((WireItem (at 2 1) false None (record { name = (codes "a"); place = (at 2 6); value = None } ∷ record { name = (codes "b"); place = (at 2 9); value = None } ∷ [])) ∷
        (GateItem (at 2 12) And (record {
          name = (Some (record { name = (codes "a"); place = (at 2 16) }));
          output = (OneSelect (record { place = (at 2 18); name = (codes "b"); index = NoIndex }));
          inputs = ((Selected (at 2 21) (codes "b") NoIndex) ∷ []);
        } ∷ [])) ∷
        []);
  } ∷ []);
}

abbrev pub Found15 : Type 0
Found15 = flat source15 (codes "top") Usual ≡ Err (faulty 2 16 DeclaredTwice)

found15 : Found15
found15 = refl

-- module top(a); input a; wire a; endmodule
abbrev source16 : SourceUnit
source16 = record {
  modules = (record {
    name = (codes "top");
    place = (at 1 8);
    parameters = ([]);
    heads = (PlainHeads (record { name = (codes "a"); place = (at 1 12) } ∷ []));
    items =
        ((PortItem (record { place = (at 1 16); direction = Input; is_reg = false; signed = false; range = None; names = (record { name = (codes "a"); place = (at 1 22) } ∷ []) })) ∷
        (WireItem (at 1 25) false None (record { name = (codes "a"); place = (at 1 30); value = None } ∷ [])) ∷
        []);
  } ∷ []);
}

abbrev pub Found16 : Type 0
Found16 = summary_of (flat source16 (codes "top") Usual) ≡ Ok (record {
  objects = (record { name = (codes "a"); kind = Net; width = 1; indexes = ([]); place = (at 1 22) } ∷ []);
  nodes = ([]);
  processes = ([]);
  joined = ([]);
})

found16 : Found16
found16 = refl

-- module top(a); output a; reg a; endmodule
abbrev source17 : SourceUnit
source17 = record {
  modules = (record {
    name = (codes "top");
    place = (at 1 8);
    parameters = ([]);
    heads = (PlainHeads (record { name = (codes "a"); place = (at 1 12) } ∷ []));
    items =
        ((PortItem (record { place = (at 1 16); direction = Output; is_reg = false; signed = false; range = None; names = (record { name = (codes "a"); place = (at 1 23) } ∷ []) })) ∷
        (RegItem (at 1 26) false None (record { name = (codes "a"); place = (at 1 30); content = NoContent } ∷ [])) ∷
        []);
  } ∷ []);
}

abbrev pub Found17 : Type 0
Found17 = summary_of (flat source17 (codes "top") Usual) ≡ Ok (record {
  objects = (record { name = (codes "a"); kind = Var; width = 1; indexes = ([]); place = (at 1 23) } ∷ []);
  nodes = ([]);
  processes = ([]);
  joined = ([]);
})

found17 : Found17
found17 = refl

-- module top(a); output [1:0] a; reg a; endmodule
abbrev source18 : SourceUnit
source18 = record {
  modules = (record {
    name = (codes "top");
    place = (at 1 8);
    parameters = ([]);
    heads = (PlainHeads (record { name = (codes "a"); place = (at 1 12) } ∷ []));
    items =
        ((PortItem (record {
          place = (at 1 16);
          direction = Output;
          is_reg = false;
          signed = false;
          range = (Some (record { place = (at 1 23); high = (Number (at 1 24) Plain (bits_of 32 1)); low = (Number (at 1 26) Plain (bits_of 32 0)) }));
          names = (record { name = (codes "a"); place = (at 1 29) } ∷ []);
        })) ∷
        (RegItem (at 1 32) false None (record { name = (codes "a"); place = (at 1 36); content = NoContent } ∷ [])) ∷
        []);
  } ∷ []);
}

abbrev pub Found18 : Type 0
Found18 = flat source18 (codes "top") Usual ≡ Err (faulty 1 36 DeclaredTwice)

found18 : Found18
found18 = refl

-- module top(a); output [1:0] a; reg [2-1:0] a; endmodule
abbrev source19 : SourceUnit
source19 = record {
  modules = (record {
    name = (codes "top");
    place = (at 1 8);
    parameters = ([]);
    heads = (PlainHeads (record { name = (codes "a"); place = (at 1 12) } ∷ []));
    items =
        ((PortItem (record {
          place = (at 1 16);
          direction = Output;
          is_reg = false;
          signed = false;
          range = (Some (record { place = (at 1 23); high = (Number (at 1 24) Plain (bits_of 32 1)); low = (Number (at 1 26) Plain (bits_of 32 0)) }));
          names = (record { name = (codes "a"); place = (at 1 29) } ∷ []);
        })) ∷
        (RegItem (at 1 32) false (Some (record {
          place = (at 1 36);
          high = (Infixed (at 1 37) Subtract (Number (at 1 37) Plain (bits_of 32 2)) (Number (at 1 39) Plain (bits_of 32 1)));
          low = (Number (at 1 41) Plain (bits_of 32 0));
        })) (record { name = (codes "a"); place = (at 1 44); content = NoContent } ∷ [])) ∷
        []);
  } ∷ []);
}

abbrev pub Found19 : Type 0
Found19 = summary_of (flat source19 (codes "top") Usual) ≡ Ok (record {
  objects = (record { name = (codes "a"); kind = Var; width = 2; indexes = (1 ∷ 0 ∷ []); place = (at 1 29) } ∷ []);
  nodes = ([]);
  processes = ([]);
  joined = ([]);
})

found19 : Found19
found19 = refl

-- what the definitions give of the texts above
abbrev pub Holds : Type 0
Holds = Found10 × Found11 × Found12 × Found13 × Found14 × Found15 × Found16 × Found17 × Found18 × Found19

pub holds : Holds
holds = (found10, found11, found12, found13, found14, found15, found16, found17, found18, found19)
