use Rattle.std.specs.Prelude.{◌≡◌, refl, false, [], ◌∷◌, Some, None, Ok, Err, codes}
use Rattle.four_value.specs.Values.{bits_of}
use Rattle.four_value.specs.declared.logic.Bit.TheVariants.{Zero, One, X}
use Rattle.v_design.specs.declared.logic.ObjectKind.TheVariants.{Var, Word, Net}
use Rattle.four_value.specs.declared.operator.UnaryOperator.TheVariants.{Minus}
use Rattle.four_value.specs.declared.operator.BinaryOperator.TheVariants.{Add}
use Rattle.v_tree.specs.declared.token.NumberForm.TheVariants.{Plain, Sized}
use Rattle.v_tree.specs.Trees.{Number, Selected, Prefixed, Infixed, NoIndex, OneSelect, DelayStatement, BlockingStatement, NoContent, FirstContent, MemoryBounds, WireItem, RegItem, InitialItem}
use Rattle.v_tree.specs.Trees.{PlainHeads, SourceUnit}
use Rattle.v_elab.specs.declared.Mode.TheVariants.{Usual}
use Rattle.v_names.specs.Faults.{NoConstant}
use Rattle.v_elab.specs.Flat.{flat}
use Rattle.elab_examples.specs.Build.{at, faulty, summary_of}

-- module top;
-- reg q = 4'b1x;
-- endmodule
abbrev source30 : SourceUnit
source30 = record {
  modules = (record {
    name = (codes "top");
    place = (at 1 8);
    parameters = ([]);
    heads = (PlainHeads ([]));
    items =
        ((RegItem (at 2 1) false None (record { name = (codes "q"); place = (at 2 5); content = (FirstContent (Number (at 2 9) Sized (X ∷ One ∷ Zero ∷ Zero ∷ []))) } ∷ [])) ∷
        []);
  } ∷ []);
}

abbrev pub Found30 : Type 0
Found30 = summary_of (flat source30 (codes "top") Usual) ≡ Ok (record {
  objects = (record { name = (codes "q"); kind = Var; width = 1; indexes = ([]); place = (at 2 5) } ∷ []);
  nodes = ([]);
  processes = ([]);
  joined = ([]);
})

found30 : Found30
found30 = refl

-- module top;
-- wire [65536:65536] w;
-- endmodule
abbrev source31 : SourceUnit
source31 = record {
  modules = (record {
    name = (codes "top");
    place = (at 1 8);
    parameters = ([]);
    heads = (PlainHeads ([]));
    items =
        ((WireItem (at 2 1) false (Some (record { place = (at 2 6); high = (Number (at 2 7) Plain (bits_of 32 65536)); low = (Number (at 2 13) Plain (bits_of 32 65536)) }))
        (record { name = (codes "w"); place = (at 2 20); value = None } ∷ [])) ∷
        []);
  } ∷ []);
}

abbrev pub Found31 : Type 0
Found31 = summary_of (flat source31 (codes "top") Usual) ≡ Ok (record {
  objects = (record { name = (codes "w"); kind = Net; width = 1; indexes = (65536 ∷ 65536 ∷ []); place = (at 2 20) } ∷ []);
  nodes = ([]);
  processes = ([]);
  joined = ([]);
})

found31 : Found31
found31 = refl

-- module top;
-- wire [65537:65537] w;
-- endmodule
abbrev source32 : SourceUnit
source32 = record {
  modules = (record {
    name = (codes "top");
    place = (at 1 8);
    parameters = ([]);
    heads = (PlainHeads ([]));
    items =
        ((WireItem (at 2 1) false (Some (record { place = (at 2 6); high = (Number (at 2 7) Plain (bits_of 32 65537)); low = (Number (at 2 13) Plain (bits_of 32 65537)) }))
        (record { name = (codes "w"); place = (at 2 20); value = None } ∷ [])) ∷
        []);
  } ∷ []);
}

abbrev pub Found32 : Type 0
Found32 = flat source32 (codes "top") Usual ≡ Err (faulty 2 7 NoConstant)

found32 : Found32
found32 = refl

-- module top;
-- wire [-1:0] w;
-- endmodule
abbrev source33 : SourceUnit
source33 = record {
  modules = (record {
    name = (codes "top");
    place = (at 1 8);
    parameters = ([]);
    heads = (PlainHeads ([]));
    items =
        ((WireItem (at 2 1) false (Some (record { place = (at 2 6); high = (Prefixed (at 2 7) Minus (Number (at 2 8) Plain (bits_of 32 1))); low = (Number (at 2 10) Plain (bits_of 32 0)) }))
        (record { name = (codes "w"); place = (at 2 13); value = None } ∷ [])) ∷
        []);
  } ∷ []);
}

abbrev pub Found33 : Type 0
Found33 = flat source33 (codes "top") Usual ≡ Err (faulty 2 7 NoConstant)

found33 : Found33
found33 = refl

-- module top;
-- reg [7:0] m [1048575:1048574];
-- endmodule
abbrev source34 : SourceUnit
source34 = record {
  modules = (record {
    name = (codes "top");
    place = (at 1 8);
    parameters = ([]);
    heads = (PlainHeads ([]));
    items =
        ((RegItem (at 2 1) false (Some (record { place = (at 2 5); high = (Number (at 2 6) Plain (bits_of 32 7)); low = (Number (at 2 8) Plain (bits_of 32 0)) }))
        (record {
          name = (codes "m");
          place = (at 2 11);
          content = (MemoryBounds (record {
            place = (at 2 13);
            high = (Number (at 2 14) Plain (bits_of 32 1048575));
            low = (Number (at 2 22) Plain (bits_of 32 1048574));
          }));
        } ∷ [])) ∷
        []);
  } ∷ []);
}

abbrev pub Found34 : Type 0
Found34 = summary_of (flat source34 (codes "top") Usual) ≡ Ok (record {
  objects = (record { name = (codes "m"); kind = Word; width = 8; indexes = (1048574 ∷ []); place = (at 2 11) } ∷
      record { name = (codes "m"); kind = Word; width = 8; indexes = (1048575 ∷ []); place = (at 2 11) } ∷ []);
  nodes = ([]);
  processes = ([]);
  joined = ([]);
})

found34 : Found34
found34 = refl

-- module top;
-- reg [7:0] m [0:1048576];
-- endmodule
abbrev source35 : SourceUnit
source35 = record {
  modules = (record {
    name = (codes "top");
    place = (at 1 8);
    parameters = ([]);
    heads = (PlainHeads ([]));
    items =
        ((RegItem (at 2 1) false (Some (record { place = (at 2 5); high = (Number (at 2 6) Plain (bits_of 32 7)); low = (Number (at 2 8) Plain (bits_of 32 0)) }))
        (record {
          name = (codes "m");
          place = (at 2 11);
          content = (MemoryBounds (record {
            place = (at 2 13);
            high = (Number (at 2 14) Plain (bits_of 32 0));
            low = (Number (at 2 16) Plain (bits_of 32 1048576));
          }));
        } ∷ [])) ∷
        []);
  } ∷ []);
}

abbrev pub Found35 : Type 0
Found35 = flat source35 (codes "top") Usual ≡ Err (faulty 2 16 NoConstant)

found35 : Found35
found35 = refl

-- module top;
-- reg q, r, a, b, c; reg [3:0] v, w; reg [7:0] m [0:3]; wire n;
-- initial #q q = 1;
-- endmodule
abbrev source36 : SourceUnit
source36 = record {
  modules = (record {
    name = (codes "top");
    place = (at 1 8);
    parameters = ([]);
    heads = (PlainHeads ([]));
    items =
        ((RegItem (at 2 1) false None (record { name = (codes "q"); place = (at 2 5); content = NoContent } ∷ record { name = (codes "r"); place = (at 2 8); content = NoContent } ∷
        record { name = (codes "a"); place = (at 2 11); content = NoContent } ∷ record { name = (codes "b"); place = (at 2 14); content = NoContent } ∷
        record { name = (codes "c"); place = (at 2 17); content = NoContent } ∷ [])) ∷
        (RegItem (at 2 20) false (Some (record { place = (at 2 24); high = (Number (at 2 25) Plain (bits_of 32 3)); low = (Number (at 2 27) Plain (bits_of 32 0)) }))
        (record { name = (codes "v"); place = (at 2 30); content = NoContent } ∷ record { name = (codes "w"); place = (at 2 33); content = NoContent } ∷ [])) ∷
        (RegItem (at 2 36) false (Some (record { place = (at 2 40); high = (Number (at 2 41) Plain (bits_of 32 7)); low = (Number (at 2 43) Plain (bits_of 32 0)) }))
        (record {
          name = (codes "m");
          place = (at 2 46);
          content = (MemoryBounds (record {
            place = (at 2 48);
            high = (Number (at 2 49) Plain (bits_of 32 0));
            low = (Number (at 2 51) Plain (bits_of 32 3));
          }));
        } ∷ [])) ∷
        (WireItem (at 2 55) false None (record { name = (codes "n"); place = (at 2 60); value = None } ∷ [])) ∷
        (InitialItem (at 3 1) (DelayStatement (at 3 9) (Selected (at 3 10) (codes "q") NoIndex)
        (BlockingStatement (at 3 12) (OneSelect (record { place = (at 3 12); name = (codes "q"); index = NoIndex })) None (Number (at 3 16) Plain (bits_of 32 1))))) ∷
        []);
  } ∷ []);
}

abbrev pub Found36 : Type 0
Found36 = flat source36 (codes "top") Usual ≡ Err (faulty 3 10 NoConstant)

found36 : Found36
found36 = refl

-- module top;
-- reg q, r, a, b, c; reg [3:0] v, w; reg [7:0] m [0:3]; wire n;
-- initial #4294967295 q = 1;
-- endmodule
abbrev source37 : SourceUnit
source37 = record {
  modules = (record {
    name = (codes "top");
    place = (at 1 8);
    parameters = ([]);
    heads = (PlainHeads ([]));
    items =
        ((RegItem (at 2 1) false None (record { name = (codes "q"); place = (at 2 5); content = NoContent } ∷ record { name = (codes "r"); place = (at 2 8); content = NoContent } ∷
        record { name = (codes "a"); place = (at 2 11); content = NoContent } ∷ record { name = (codes "b"); place = (at 2 14); content = NoContent } ∷
        record { name = (codes "c"); place = (at 2 17); content = NoContent } ∷ [])) ∷
        (RegItem (at 2 20) false (Some (record { place = (at 2 24); high = (Number (at 2 25) Plain (bits_of 32 3)); low = (Number (at 2 27) Plain (bits_of 32 0)) }))
        (record { name = (codes "v"); place = (at 2 30); content = NoContent } ∷ record { name = (codes "w"); place = (at 2 33); content = NoContent } ∷ [])) ∷
        (RegItem (at 2 36) false (Some (record { place = (at 2 40); high = (Number (at 2 41) Plain (bits_of 32 7)); low = (Number (at 2 43) Plain (bits_of 32 0)) }))
        (record {
          name = (codes "m");
          place = (at 2 46);
          content = (MemoryBounds (record {
            place = (at 2 48);
            high = (Number (at 2 49) Plain (bits_of 32 0));
            low = (Number (at 2 51) Plain (bits_of 32 3));
          }));
        } ∷ [])) ∷
        (WireItem (at 2 55) false None (record { name = (codes "n"); place = (at 2 60); value = None } ∷ [])) ∷
        (InitialItem (at 3 1) (DelayStatement (at 3 9) (Number (at 3 10) Plain (bits_of 32 4294967295))
        (BlockingStatement (at 3 21) (OneSelect (record { place = (at 3 21); name = (codes "q"); index = NoIndex })) None (Number (at 3 25) Plain (bits_of 32 1))))) ∷
        []);
  } ∷ []);
}

abbrev pub Found37 : Type 0
Found37 = summary_of (flat source37 (codes "top") Usual) ≡ Ok (record {
  objects = (record { name = (codes "q"); kind = Var; width = 1; indexes = ([]); place = (at 2 5) } ∷
      record { name = (codes "r"); kind = Var; width = 1; indexes = ([]); place = (at 2 8) } ∷ record { name = (codes "a"); kind = Var; width = 1; indexes = ([]); place = (at 2 11) } ∷
      record { name = (codes "b"); kind = Var; width = 1; indexes = ([]); place = (at 2 14) } ∷ record { name = (codes "c"); kind = Var; width = 1; indexes = ([]); place = (at 2 17) } ∷
      record { name = (codes "v"); kind = Var; width = 4; indexes = (3 ∷ 0 ∷ []); place = (at 2 30) } ∷
      record { name = (codes "w"); kind = Var; width = 4; indexes = (3 ∷ 0 ∷ []); place = (at 2 33) } ∷ record { name = (codes "m"); kind = Word; width = 8; indexes = (0 ∷ []); place = (at 2 46) } ∷
      record { name = (codes "m"); kind = Word; width = 8; indexes = (1 ∷ []); place = (at 2 46) } ∷ record { name = (codes "m"); kind = Word; width = 8; indexes = (2 ∷ []); place = (at 2 46) } ∷
      record { name = (codes "m"); kind = Word; width = 8; indexes = (3 ∷ []); place = (at 2 46) } ∷ record { name = (codes "n"); kind = Net; width = 1; indexes = ([]); place = (at 2 60) } ∷ []);
  nodes = ([]);
  processes = (false ∷ []);
  joined = ([]);
})

found37 : Found37
found37 = refl

-- module top;
-- reg q, r, a, b, c; reg [3:0] v, w; reg [7:0] m [0:3]; wire n;
-- initial #(64'd4294967296) q = 1;
-- endmodule
abbrev source38 : SourceUnit
source38 = record {
  modules = (record {
    name = (codes "top");
    place = (at 1 8);
    parameters = ([]);
    heads = (PlainHeads ([]));
    items =
        ((RegItem (at 2 1) false None (record { name = (codes "q"); place = (at 2 5); content = NoContent } ∷ record { name = (codes "r"); place = (at 2 8); content = NoContent } ∷
        record { name = (codes "a"); place = (at 2 11); content = NoContent } ∷ record { name = (codes "b"); place = (at 2 14); content = NoContent } ∷
        record { name = (codes "c"); place = (at 2 17); content = NoContent } ∷ [])) ∷
        (RegItem (at 2 20) false (Some (record { place = (at 2 24); high = (Number (at 2 25) Plain (bits_of 32 3)); low = (Number (at 2 27) Plain (bits_of 32 0)) }))
        (record { name = (codes "v"); place = (at 2 30); content = NoContent } ∷ record { name = (codes "w"); place = (at 2 33); content = NoContent } ∷ [])) ∷
        (RegItem (at 2 36) false (Some (record { place = (at 2 40); high = (Number (at 2 41) Plain (bits_of 32 7)); low = (Number (at 2 43) Plain (bits_of 32 0)) }))
        (record {
          name = (codes "m");
          place = (at 2 46);
          content = (MemoryBounds (record {
            place = (at 2 48);
            high = (Number (at 2 49) Plain (bits_of 32 0));
            low = (Number (at 2 51) Plain (bits_of 32 3));
          }));
        } ∷ [])) ∷
        (WireItem (at 2 55) false None (record { name = (codes "n"); place = (at 2 60); value = None } ∷ [])) ∷
        (InitialItem (at 3 1) (DelayStatement (at 3 9) (Number (at 3 11) Sized (bits_of 64 4294967296))
        (BlockingStatement (at 3 27) (OneSelect (record { place = (at 3 27); name = (codes "q"); index = NoIndex })) None (Number (at 3 31) Plain (bits_of 32 1))))) ∷
        []);
  } ∷ []);
}

abbrev pub Found38 : Type 0
Found38 = flat source38 (codes "top") Usual ≡ Err (faulty 3 11 NoConstant)

found38 : Found38
found38 = refl

-- module top;
-- reg q, r, a, b, c; reg [3:0] v, w; reg [7:0] m [0:3]; wire n;
-- initial #(4294967295 + 1) q = 1;
-- endmodule
abbrev source39 : SourceUnit
source39 = record {
  modules = (record {
    name = (codes "top");
    place = (at 1 8);
    parameters = ([]);
    heads = (PlainHeads ([]));
    items =
        ((RegItem (at 2 1) false None (record { name = (codes "q"); place = (at 2 5); content = NoContent } ∷ record { name = (codes "r"); place = (at 2 8); content = NoContent } ∷
        record { name = (codes "a"); place = (at 2 11); content = NoContent } ∷ record { name = (codes "b"); place = (at 2 14); content = NoContent } ∷
        record { name = (codes "c"); place = (at 2 17); content = NoContent } ∷ [])) ∷
        (RegItem (at 2 20) false (Some (record { place = (at 2 24); high = (Number (at 2 25) Plain (bits_of 32 3)); low = (Number (at 2 27) Plain (bits_of 32 0)) }))
        (record { name = (codes "v"); place = (at 2 30); content = NoContent } ∷ record { name = (codes "w"); place = (at 2 33); content = NoContent } ∷ [])) ∷
        (RegItem (at 2 36) false (Some (record { place = (at 2 40); high = (Number (at 2 41) Plain (bits_of 32 7)); low = (Number (at 2 43) Plain (bits_of 32 0)) }))
        (record {
          name = (codes "m");
          place = (at 2 46);
          content = (MemoryBounds (record {
            place = (at 2 48);
            high = (Number (at 2 49) Plain (bits_of 32 0));
            low = (Number (at 2 51) Plain (bits_of 32 3));
          }));
        } ∷ [])) ∷
        (WireItem (at 2 55) false None (record { name = (codes "n"); place = (at 2 60); value = None } ∷ [])) ∷
        (InitialItem (at 3 1) (DelayStatement (at 3 9) (Infixed (at 3 11) Add (Number (at 3 11) Plain (bits_of 32 4294967295)) (Number (at 3 24) Plain (bits_of 32 1)))
        (BlockingStatement (at 3 27) (OneSelect (record { place = (at 3 27); name = (codes "q"); index = NoIndex })) None (Number (at 3 31) Plain (bits_of 32 1))))) ∷
        []);
  } ∷ []);
}

abbrev pub Found39 : Type 0
Found39 = summary_of (flat source39 (codes "top") Usual) ≡ Ok (record {
  objects = (record { name = (codes "q"); kind = Var; width = 1; indexes = ([]); place = (at 2 5) } ∷
      record { name = (codes "r"); kind = Var; width = 1; indexes = ([]); place = (at 2 8) } ∷ record { name = (codes "a"); kind = Var; width = 1; indexes = ([]); place = (at 2 11) } ∷
      record { name = (codes "b"); kind = Var; width = 1; indexes = ([]); place = (at 2 14) } ∷ record { name = (codes "c"); kind = Var; width = 1; indexes = ([]); place = (at 2 17) } ∷
      record { name = (codes "v"); kind = Var; width = 4; indexes = (3 ∷ 0 ∷ []); place = (at 2 30) } ∷
      record { name = (codes "w"); kind = Var; width = 4; indexes = (3 ∷ 0 ∷ []); place = (at 2 33) } ∷ record { name = (codes "m"); kind = Word; width = 8; indexes = (0 ∷ []); place = (at 2 46) } ∷
      record { name = (codes "m"); kind = Word; width = 8; indexes = (1 ∷ []); place = (at 2 46) } ∷ record { name = (codes "m"); kind = Word; width = 8; indexes = (2 ∷ []); place = (at 2 46) } ∷
      record { name = (codes "m"); kind = Word; width = 8; indexes = (3 ∷ []); place = (at 2 46) } ∷ record { name = (codes "n"); kind = Net; width = 1; indexes = ([]); place = (at 2 60) } ∷ []);
  nodes = ([]);
  processes = (false ∷ []);
  joined = ([]);
})

found39 : Found39
found39 = refl

-- what the definitions give of the texts above
abbrev pub Holds : Type 0
Holds = Found30 × Found31 × Found32 × Found33 × Found34 × Found35 × Found36 × Found37 × Found38 × Found39

pub holds : Holds
holds = (found30, found31, found32, found33, found34, found35, found36, found37, found38, found39)
