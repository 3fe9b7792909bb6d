use Rattle.std.specs.Prelude.{◌≡◌, refl, false, [], ◌∷◌, Some, None, Ok, Err, codes}
use Rattle.four_value.specs.Values.{bits_of}
use Rattle.v_design.specs.declared.logic.ObjectKind.TheVariants.{Var, Word, Net}
use Rattle.four_value.specs.declared.operator.UnaryOperator.TheVariants.{Minus}
use Rattle.four_value.specs.declared.operator.BinaryOperator.TheVariants.{Add, Divide, Equal, Greater, Less, Remainder}
use Rattle.v_tree.specs.declared.token.NumberForm.TheVariants.{Plain, Sized}
use Rattle.v_tree.specs.Trees.{Number, Selected, Parenthesised, Prefixed, Infixed, Replicated, NoIndex, OneSelect, BlockingStatement, NoContent, MemoryBounds, ParameterItem, WireItem, RegItem}
use Rattle.v_tree.specs.Trees.{InitialItem, PlainHeads, SourceUnit}
use Rattle.v_elab.specs.declared.Mode.TheVariants.{Usual}
use Rattle.v_names.specs.Faults.{NoConstant, WrongKind}
use Rattle.v_elab.specs.Flat.{flat}
use Rattle.elab_examples.specs.Build.{at, parts, faulty, summary_of}

-- module top;
-- reg q, r, a, b, c; reg [3:0] v, w; reg [7:0] m [0:3]; wire n;
-- initial q = m + {17{v}};
-- endmodule
abbrev source60 : SourceUnit
source60 = record {
  modules = (record {
    name = (codes "top");
    place = (at 1 8);
    parameters = ([]);
    heads = (PlainHeads ([]));
    items =
        ((RegItem (at 2 1) false None (record { name = (codes "q"); place = (at 2 5); content = NoContent } ∷ record { name = (codes "r"); place = (at 2 8); content = NoContent } ∷
        record { name = (codes "a"); place = (at 2 11); content = NoContent } ∷ record { name = (codes "b"); place = (at 2 14); content = NoContent } ∷
        record { name = (codes "c"); place = (at 2 17); content = NoContent } ∷ [])) ∷
        (RegItem (at 2 20) false (Some (record { place = (at 2 24); high = (Number (at 2 25) Plain (bits_of 32 3)); low = (Number (at 2 27) Plain (bits_of 32 0)) }))
        (record { name = (codes "v"); place = (at 2 30); content = NoContent } ∷ record { name = (codes "w"); place = (at 2 33); content = NoContent } ∷ [])) ∷
        (RegItem (at 2 36) false (Some (record { place = (at 2 40); high = (Number (at 2 41) Plain (bits_of 32 7)); low = (Number (at 2 43) Plain (bits_of 32 0)) }))
        (record {
          name = (codes "m");
          place = (at 2 46);
          content = (MemoryBounds (record {
            place = (at 2 48);
            high = (Number (at 2 49) Plain (bits_of 32 0));
            low = (Number (at 2 51) Plain (bits_of 32 3));
          }));
        } ∷ [])) ∷
        (WireItem (at 2 55) false None (record { name = (codes "n"); place = (at 2 60); value = None } ∷ [])) ∷
        (InitialItem (at 3 1) (BlockingStatement (at 3 9) (OneSelect (record { place = (at 3 9); name = (codes "q"); index = NoIndex })) None
        (Infixed (at 3 13) Add (Selected (at 3 13) (codes "m") NoIndex) (Replicated (at 3 17) (Number (at 3 18) Plain (bits_of 32 17)) (parts ((Selected (at 3 21) (codes "v") NoIndex) ∷ [])))))) ∷
        []);
  } ∷ []);
}

abbrev pub Found60 : Type 0
Found60 = flat source60 (codes "top") Usual ≡ Err (faulty 3 13 WrongKind)

found60 : Found60
found60 = refl

-- module top;
-- reg q, r, a, b, c; reg [3:0] v, w; reg [7:0] m [0:3]; wire n;
-- initial q = {17{v}} == v;
-- endmodule
abbrev source61 : SourceUnit
source61 = record {
  modules = (record {
    name = (codes "top");
    place = (at 1 8);
    parameters = ([]);
    heads = (PlainHeads ([]));
    items =
        ((RegItem (at 2 1) false None (record { name = (codes "q"); place = (at 2 5); content = NoContent } ∷ record { name = (codes "r"); place = (at 2 8); content = NoContent } ∷
        record { name = (codes "a"); place = (at 2 11); content = NoContent } ∷ record { name = (codes "b"); place = (at 2 14); content = NoContent } ∷
        record { name = (codes "c"); place = (at 2 17); content = NoContent } ∷ [])) ∷
        (RegItem (at 2 20) false (Some (record { place = (at 2 24); high = (Number (at 2 25) Plain (bits_of 32 3)); low = (Number (at 2 27) Plain (bits_of 32 0)) }))
        (record { name = (codes "v"); place = (at 2 30); content = NoContent } ∷ record { name = (codes "w"); place = (at 2 33); content = NoContent } ∷ [])) ∷
        (RegItem (at 2 36) false (Some (record { place = (at 2 40); high = (Number (at 2 41) Plain (bits_of 32 7)); low = (Number (at 2 43) Plain (bits_of 32 0)) }))
        (record {
          name = (codes "m");
          place = (at 2 46);
          content = (MemoryBounds (record {
            place = (at 2 48);
            high = (Number (at 2 49) Plain (bits_of 32 0));
            low = (Number (at 2 51) Plain (bits_of 32 3));
          }));
        } ∷ [])) ∷
        (WireItem (at 2 55) false None (record { name = (codes "n"); place = (at 2 60); value = None } ∷ [])) ∷
        (InitialItem (at 3 1) (BlockingStatement (at 3 9) (OneSelect (record { place = (at 3 9); name = (codes "q"); index = NoIndex })) None
        (Infixed (at 3 13) Equal (Replicated (at 3 13) (Number (at 3 14) Plain (bits_of 32 17)) (parts ((Selected (at 3 17) (codes "v") NoIndex) ∷ [])))
        (Selected (at 3 24) (codes "v") NoIndex)))) ∷
        []);
  } ∷ []);
}

abbrev pub Found61 : Type 0
Found61 = summary_of (flat source61 (codes "top") Usual) ≡ Ok (record {
  objects = (record { name = (codes "q"); kind = Var; width = 1; indexes = ([]); place = (at 2 5) } ∷
      record { name = (codes "r"); kind = Var; width = 1; indexes = ([]); place = (at 2 8) } ∷ record { name = (codes "a"); kind = Var; width = 1; indexes = ([]); place = (at 2 11) } ∷
      record { name = (codes "b"); kind = Var; width = 1; indexes = ([]); place = (at 2 14) } ∷ record { name = (codes "c"); kind = Var; width = 1; indexes = ([]); place = (at 2 17) } ∷
      record { name = (codes "v"); kind = Var; width = 4; indexes = (3 ∷ 0 ∷ []); place = (at 2 30) } ∷
      record { name = (codes "w"); kind = Var; width = 4; indexes = (3 ∷ 0 ∷ []); place = (at 2 33) } ∷ record { name = (codes "m"); kind = Word; width = 8; indexes = (0 ∷ []); place = (at 2 46) } ∷
      record { name = (codes "m"); kind = Word; width = 8; indexes = (1 ∷ []); place = (at 2 46) } ∷ record { name = (codes "m"); kind = Word; width = 8; indexes = (2 ∷ []); place = (at 2 46) } ∷
      record { name = (codes "m"); kind = Word; width = 8; indexes = (3 ∷ []); place = (at 2 46) } ∷ record { name = (codes "n"); kind = Net; width = 1; indexes = ([]); place = (at 2 60) } ∷ []);
  nodes = ([]);
  processes = (false ∷ []);
  joined = ([]);
})

found61 : Found61
found61 = refl

-- module top;
-- reg q, r, a, b, c; reg [3:0] v, w; reg [7:0] m [0:3]; wire n;
-- initial q = (m == 0) + {17{v}};
-- endmodule
abbrev source62 : SourceUnit
source62 = record {
  modules = (record {
    name = (codes "top");
    place = (at 1 8);
    parameters = ([]);
    heads = (PlainHeads ([]));
    items =
        ((RegItem (at 2 1) false None (record { name = (codes "q"); place = (at 2 5); content = NoContent } ∷ record { name = (codes "r"); place = (at 2 8); content = NoContent } ∷
        record { name = (codes "a"); place = (at 2 11); content = NoContent } ∷ record { name = (codes "b"); place = (at 2 14); content = NoContent } ∷
        record { name = (codes "c"); place = (at 2 17); content = NoContent } ∷ [])) ∷
        (RegItem (at 2 20) false (Some (record { place = (at 2 24); high = (Number (at 2 25) Plain (bits_of 32 3)); low = (Number (at 2 27) Plain (bits_of 32 0)) }))
        (record { name = (codes "v"); place = (at 2 30); content = NoContent } ∷ record { name = (codes "w"); place = (at 2 33); content = NoContent } ∷ [])) ∷
        (RegItem (at 2 36) false (Some (record { place = (at 2 40); high = (Number (at 2 41) Plain (bits_of 32 7)); low = (Number (at 2 43) Plain (bits_of 32 0)) }))
        (record {
          name = (codes "m");
          place = (at 2 46);
          content = (MemoryBounds (record {
            place = (at 2 48);
            high = (Number (at 2 49) Plain (bits_of 32 0));
            low = (Number (at 2 51) Plain (bits_of 32 3));
          }));
        } ∷ [])) ∷
        (WireItem (at 2 55) false None (record { name = (codes "n"); place = (at 2 60); value = None } ∷ [])) ∷
        (InitialItem (at 3 1) (BlockingStatement (at 3 9) (OneSelect (record { place = (at 3 9); name = (codes "q"); index = NoIndex })) None
        (Infixed (at 3 13) Add (Parenthesised (at 3 13) (Infixed (at 3 14) Equal (Selected (at 3 14) (codes "m") NoIndex) (Number (at 3 19) Plain (bits_of 32 0))))
        (Replicated (at 3 24) (Number (at 3 25) Plain (bits_of 32 17)) (parts ((Selected (at 3 28) (codes "v") NoIndex) ∷ [])))))) ∷
        []);
  } ∷ []);
}

abbrev pub Found62 : Type 0
Found62 = flat source62 (codes "top") Usual ≡ Err (faulty 3 14 WrongKind)

found62 : Found62
found62 = refl

-- module top;
-- wire [P:0] w; parameter P = {65{1'b1}};
-- endmodule
abbrev source63 : SourceUnit
source63 = record {
  modules = (record {
    name = (codes "top");
    place = (at 1 8);
    parameters = ([]);
    heads = (PlainHeads ([]));
    items =
        ((WireItem (at 2 1) false (Some (record { place = (at 2 6); high = (Selected (at 2 7) (codes "P") NoIndex); low = (Number (at 2 9) Plain (bits_of 32 0)) }))
        (record { name = (codes "w"); place = (at 2 12); value = None } ∷ [])) ∷
        (ParameterItem (record {
          place = (at 2 15);
          is_local = false;
          signed = false;
          range = None;
          parameters = (record {
            name = (codes "P");
            place = (at 2 25);
            value = (Replicated (at 2 29) (Number (at 2 30) Plain (bits_of 32 65))
                (parts ((Number (at 2 33) Sized (bits_of 1 1)) ∷ [])));
          } ∷ []);
        })) ∷
        []);
  } ∷ []);
}

abbrev pub Found63 : Type 0
Found63 = flat source63 (codes "top") Usual ≡ Err (faulty 2 7 NoConstant)

found63 : Found63
found63 = refl

-- module top;
-- reg q, r, a, b, c; reg [3:0] v, w; reg [7:0] m [0:3]; wire n;
-- initial q = -1 < 0;
-- endmodule
abbrev source64 : SourceUnit
source64 = record {
  modules = (record {
    name = (codes "top");
    place = (at 1 8);
    parameters = ([]);
    heads = (PlainHeads ([]));
    items =
        ((RegItem (at 2 1) false None (record { name = (codes "q"); place = (at 2 5); content = NoContent } ∷ record { name = (codes "r"); place = (at 2 8); content = NoContent } ∷
        record { name = (codes "a"); place = (at 2 11); content = NoContent } ∷ record { name = (codes "b"); place = (at 2 14); content = NoContent } ∷
        record { name = (codes "c"); place = (at 2 17); content = NoContent } ∷ [])) ∷
        (RegItem (at 2 20) false (Some (record { place = (at 2 24); high = (Number (at 2 25) Plain (bits_of 32 3)); low = (Number (at 2 27) Plain (bits_of 32 0)) }))
        (record { name = (codes "v"); place = (at 2 30); content = NoContent } ∷ record { name = (codes "w"); place = (at 2 33); content = NoContent } ∷ [])) ∷
        (RegItem (at 2 36) false (Some (record { place = (at 2 40); high = (Number (at 2 41) Plain (bits_of 32 7)); low = (Number (at 2 43) Plain (bits_of 32 0)) }))
        (record {
          name = (codes "m");
          place = (at 2 46);
          content = (MemoryBounds (record {
            place = (at 2 48);
            high = (Number (at 2 49) Plain (bits_of 32 0));
            low = (Number (at 2 51) Plain (bits_of 32 3));
          }));
        } ∷ [])) ∷
        (WireItem (at 2 55) false None (record { name = (codes "n"); place = (at 2 60); value = None } ∷ [])) ∷
        (InitialItem (at 3 1) (BlockingStatement (at 3 9) (OneSelect (record { place = (at 3 9); name = (codes "q"); index = NoIndex })) None
        (Infixed (at 3 13) Less (Prefixed (at 3 13) Minus (Number (at 3 14) Plain (bits_of 32 1))) (Number (at 3 18) Plain (bits_of 32 0))))) ∷
        []);
  } ∷ []);
}

abbrev pub Found64 : Type 0
Found64 = summary_of (flat source64 (codes "top") Usual) ≡ Ok (record {
  objects = (record { name = (codes "q"); kind = Var; width = 1; indexes = ([]); place = (at 2 5) } ∷
      record { name = (codes "r"); kind = Var; width = 1; indexes = ([]); place = (at 2 8) } ∷ record { name = (codes "a"); kind = Var; width = 1; indexes = ([]); place = (at 2 11) } ∷
      record { name = (codes "b"); kind = Var; width = 1; indexes = ([]); place = (at 2 14) } ∷ record { name = (codes "c"); kind = Var; width = 1; indexes = ([]); place = (at 2 17) } ∷
      record { name = (codes "v"); kind = Var; width = 4; indexes = (3 ∷ 0 ∷ []); place = (at 2 30) } ∷
      record { name = (codes "w"); kind = Var; width = 4; indexes = (3 ∷ 0 ∷ []); place = (at 2 33) } ∷ record { name = (codes "m"); kind = Word; width = 8; indexes = (0 ∷ []); place = (at 2 46) } ∷
      record { name = (codes "m"); kind = Word; width = 8; indexes = (1 ∷ []); place = (at 2 46) } ∷ record { name = (codes "m"); kind = Word; width = 8; indexes = (2 ∷ []); place = (at 2 46) } ∷
      record { name = (codes "m"); kind = Word; width = 8; indexes = (3 ∷ []); place = (at 2 46) } ∷ record { name = (codes "n"); kind = Net; width = 1; indexes = ([]); place = (at 2 60) } ∷ []);
  nodes = ([]);
  processes = (false ∷ []);
  joined = ([]);
})

found64 : Found64
found64 = refl

-- module top;
-- reg q, r, a, b, c; reg [3:0] v, w; reg [7:0] m [0:3]; wire n;
-- initial q = 0 > -1;
-- endmodule
abbrev source65 : SourceUnit
source65 = record {
  modules = (record {
    name = (codes "top");
    place = (at 1 8);
    parameters = ([]);
    heads = (PlainHeads ([]));
    items =
        ((RegItem (at 2 1) false None (record { name = (codes "q"); place = (at 2 5); content = NoContent } ∷ record { name = (codes "r"); place = (at 2 8); content = NoContent } ∷
        record { name = (codes "a"); place = (at 2 11); content = NoContent } ∷ record { name = (codes "b"); place = (at 2 14); content = NoContent } ∷
        record { name = (codes "c"); place = (at 2 17); content = NoContent } ∷ [])) ∷
        (RegItem (at 2 20) false (Some (record { place = (at 2 24); high = (Number (at 2 25) Plain (bits_of 32 3)); low = (Number (at 2 27) Plain (bits_of 32 0)) }))
        (record { name = (codes "v"); place = (at 2 30); content = NoContent } ∷ record { name = (codes "w"); place = (at 2 33); content = NoContent } ∷ [])) ∷
        (RegItem (at 2 36) false (Some (record { place = (at 2 40); high = (Number (at 2 41) Plain (bits_of 32 7)); low = (Number (at 2 43) Plain (bits_of 32 0)) }))
        (record {
          name = (codes "m");
          place = (at 2 46);
          content = (MemoryBounds (record {
            place = (at 2 48);
            high = (Number (at 2 49) Plain (bits_of 32 0));
            low = (Number (at 2 51) Plain (bits_of 32 3));
          }));
        } ∷ [])) ∷
        (WireItem (at 2 55) false None (record { name = (codes "n"); place = (at 2 60); value = None } ∷ [])) ∷
        (InitialItem (at 3 1) (BlockingStatement (at 3 9) (OneSelect (record { place = (at 3 9); name = (codes "q"); index = NoIndex })) None
        (Infixed (at 3 13) Greater (Number (at 3 13) Plain (bits_of 32 0)) (Prefixed (at 3 17) Minus (Number (at 3 18) Plain (bits_of 32 1)))))) ∷
        []);
  } ∷ []);
}

abbrev pub Found65 : Type 0
Found65 = summary_of (flat source65 (codes "top") Usual) ≡ Ok (record {
  objects = (record { name = (codes "q"); kind = Var; width = 1; indexes = ([]); place = (at 2 5) } ∷
      record { name = (codes "r"); kind = Var; width = 1; indexes = ([]); place = (at 2 8) } ∷ record { name = (codes "a"); kind = Var; width = 1; indexes = ([]); place = (at 2 11) } ∷
      record { name = (codes "b"); kind = Var; width = 1; indexes = ([]); place = (at 2 14) } ∷ record { name = (codes "c"); kind = Var; width = 1; indexes = ([]); place = (at 2 17) } ∷
      record { name = (codes "v"); kind = Var; width = 4; indexes = (3 ∷ 0 ∷ []); place = (at 2 30) } ∷
      record { name = (codes "w"); kind = Var; width = 4; indexes = (3 ∷ 0 ∷ []); place = (at 2 33) } ∷ record { name = (codes "m"); kind = Word; width = 8; indexes = (0 ∷ []); place = (at 2 46) } ∷
      record { name = (codes "m"); kind = Word; width = 8; indexes = (1 ∷ []); place = (at 2 46) } ∷ record { name = (codes "m"); kind = Word; width = 8; indexes = (2 ∷ []); place = (at 2 46) } ∷
      record { name = (codes "m"); kind = Word; width = 8; indexes = (3 ∷ []); place = (at 2 46) } ∷ record { name = (codes "n"); kind = Net; width = 1; indexes = ([]); place = (at 2 60) } ∷ []);
  nodes = ([]);
  processes = (false ∷ []);
  joined = ([]);
})

found65 : Found65
found65 = refl

-- module top;
-- reg q, r, a, b, c; reg [3:0] v, w; reg [7:0] m [0:3]; wire n;
-- initial q = -1 / 2;
-- endmodule
abbrev source66 : SourceUnit
source66 = record {
  modules = (record {
    name = (codes "top");
    place = (at 1 8);
    parameters = ([]);
    heads = (PlainHeads ([]));
    items =
        ((RegItem (at 2 1) false None (record { name = (codes "q"); place = (at 2 5); content = NoContent } ∷ record { name = (codes "r"); place = (at 2 8); content = NoContent } ∷
        record { name = (codes "a"); place = (at 2 11); content = NoContent } ∷ record { name = (codes "b"); place = (at 2 14); content = NoContent } ∷
        record { name = (codes "c"); place = (at 2 17); content = NoContent } ∷ [])) ∷
        (RegItem (at 2 20) false (Some (record { place = (at 2 24); high = (Number (at 2 25) Plain (bits_of 32 3)); low = (Number (at 2 27) Plain (bits_of 32 0)) }))
        (record { name = (codes "v"); place = (at 2 30); content = NoContent } ∷ record { name = (codes "w"); place = (at 2 33); content = NoContent } ∷ [])) ∷
        (RegItem (at 2 36) false (Some (record { place = (at 2 40); high = (Number (at 2 41) Plain (bits_of 32 7)); low = (Number (at 2 43) Plain (bits_of 32 0)) }))
        (record {
          name = (codes "m");
          place = (at 2 46);
          content = (MemoryBounds (record {
            place = (at 2 48);
            high = (Number (at 2 49) Plain (bits_of 32 0));
            low = (Number (at 2 51) Plain (bits_of 32 3));
          }));
        } ∷ [])) ∷
        (WireItem (at 2 55) false None (record { name = (codes "n"); place = (at 2 60); value = None } ∷ [])) ∷
        (InitialItem (at 3 1) (BlockingStatement (at 3 9) (OneSelect (record { place = (at 3 9); name = (codes "q"); index = NoIndex })) None
        (Infixed (at 3 13) Divide (Prefixed (at 3 13) Minus (Number (at 3 14) Plain (bits_of 32 1))) (Number (at 3 18) Plain (bits_of 32 2))))) ∷
        []);
  } ∷ []);
}

abbrev pub Found66 : Type 0
Found66 = summary_of (flat source66 (codes "top") Usual) ≡ Ok (record {
  objects = (record { name = (codes "q"); kind = Var; width = 1; indexes = ([]); place = (at 2 5) } ∷
      record { name = (codes "r"); kind = Var; width = 1; indexes = ([]); place = (at 2 8) } ∷ record { name = (codes "a"); kind = Var; width = 1; indexes = ([]); place = (at 2 11) } ∷
      record { name = (codes "b"); kind = Var; width = 1; indexes = ([]); place = (at 2 14) } ∷ record { name = (codes "c"); kind = Var; width = 1; indexes = ([]); place = (at 2 17) } ∷
      record { name = (codes "v"); kind = Var; width = 4; indexes = (3 ∷ 0 ∷ []); place = (at 2 30) } ∷
      record { name = (codes "w"); kind = Var; width = 4; indexes = (3 ∷ 0 ∷ []); place = (at 2 33) } ∷ record { name = (codes "m"); kind = Word; width = 8; indexes = (0 ∷ []); place = (at 2 46) } ∷
      record { name = (codes "m"); kind = Word; width = 8; indexes = (1 ∷ []); place = (at 2 46) } ∷ record { name = (codes "m"); kind = Word; width = 8; indexes = (2 ∷ []); place = (at 2 46) } ∷
      record { name = (codes "m"); kind = Word; width = 8; indexes = (3 ∷ []); place = (at 2 46) } ∷ record { name = (codes "n"); kind = Net; width = 1; indexes = ([]); place = (at 2 60) } ∷ []);
  nodes = ([]);
  processes = (false ∷ []);
  joined = ([]);
})

found66 : Found66
found66 = refl

-- module top;
-- reg q, r, a, b, c; reg [3:0] v, w; reg [7:0] m [0:3]; wire n;
-- initial q = 5 % (-2);
-- endmodule
abbrev source67 : SourceUnit
source67 = record {
  modules = (record {
    name = (codes "top");
    place = (at 1 8);
    parameters = ([]);
    heads = (PlainHeads ([]));
    items =
        ((RegItem (at 2 1) false None (record { name = (codes "q"); place = (at 2 5); content = NoContent } ∷ record { name = (codes "r"); place = (at 2 8); content = NoContent } ∷
        record { name = (codes "a"); place = (at 2 11); content = NoContent } ∷ record { name = (codes "b"); place = (at 2 14); content = NoContent } ∷
        record { name = (codes "c"); place = (at 2 17); content = NoContent } ∷ [])) ∷
        (RegItem (at 2 20) false (Some (record { place = (at 2 24); high = (Number (at 2 25) Plain (bits_of 32 3)); low = (Number (at 2 27) Plain (bits_of 32 0)) }))
        (record { name = (codes "v"); place = (at 2 30); content = NoContent } ∷ record { name = (codes "w"); place = (at 2 33); content = NoContent } ∷ [])) ∷
        (RegItem (at 2 36) false (Some (record { place = (at 2 40); high = (Number (at 2 41) Plain (bits_of 32 7)); low = (Number (at 2 43) Plain (bits_of 32 0)) }))
        (record {
          name = (codes "m");
          place = (at 2 46);
          content = (MemoryBounds (record {
            place = (at 2 48);
            high = (Number (at 2 49) Plain (bits_of 32 0));
            low = (Number (at 2 51) Plain (bits_of 32 3));
          }));
        } ∷ [])) ∷
        (WireItem (at 2 55) false None (record { name = (codes "n"); place = (at 2 60); value = None } ∷ [])) ∷
        (InitialItem (at 3 1) (BlockingStatement (at 3 9) (OneSelect (record { place = (at 3 9); name = (codes "q"); index = NoIndex })) None
        (Infixed (at 3 13) Remainder (Number (at 3 13) Plain (bits_of 32 5)) (Parenthesised (at 3 17) (Prefixed (at 3 18) Minus (Number (at 3 19) Plain (bits_of 32 2))))))) ∷
        []);
  } ∷ []);
}

abbrev pub Found67 : Type 0
Found67 = summary_of (flat source67 (codes "top") Usual) ≡ Ok (record {
  objects = (record { name = (codes "q"); kind = Var; width = 1; indexes = ([]); place = (at 2 5) } ∷
      record { name = (codes "r"); kind = Var; width = 1; indexes = ([]); place = (at 2 8) } ∷ record { name = (codes "a"); kind = Var; width = 1; indexes = ([]); place = (at 2 11) } ∷
      record { name = (codes "b"); kind = Var; width = 1; indexes = ([]); place = (at 2 14) } ∷ record { name = (codes "c"); kind = Var; width = 1; indexes = ([]); place = (at 2 17) } ∷
      record { name = (codes "v"); kind = Var; width = 4; indexes = (3 ∷ 0 ∷ []); place = (at 2 30) } ∷
      record { name = (codes "w"); kind = Var; width = 4; indexes = (3 ∷ 0 ∷ []); place = (at 2 33) } ∷ record { name = (codes "m"); kind = Word; width = 8; indexes = (0 ∷ []); place = (at 2 46) } ∷
      record { name = (codes "m"); kind = Word; width = 8; indexes = (1 ∷ []); place = (at 2 46) } ∷ record { name = (codes "m"); kind = Word; width = 8; indexes = (2 ∷ []); place = (at 2 46) } ∷
      record { name = (codes "m"); kind = Word; width = 8; indexes = (3 ∷ []); place = (at 2 46) } ∷ record { name = (codes "n"); kind = Net; width = 1; indexes = ([]); place = (at 2 60) } ∷ []);
  nodes = ([]);
  processes = (false ∷ []);
  joined = ([]);
})

found67 : Found67
found67 = refl

-- module top;
-- reg q, r, a, b, c; reg [3:0] v, w; reg [7:0] m [0:3]; wire n;
-- initial q = a < -1;
-- endmodule
abbrev source68 : SourceUnit
source68 = record {
  modules = (record {
    name = (codes "top");
    place = (at 1 8);
    parameters = ([]);
    heads = (PlainHeads ([]));
    items =
        ((RegItem (at 2 1) false None (record { name = (codes "q"); place = (at 2 5); content = NoContent } ∷ record { name = (codes "r"); place = (at 2 8); content = NoContent } ∷
        record { name = (codes "a"); place = (at 2 11); content = NoContent } ∷ record { name = (codes "b"); place = (at 2 14); content = NoContent } ∷
        record { name = (codes "c"); place = (at 2 17); content = NoContent } ∷ [])) ∷
        (RegItem (at 2 20) false (Some (record { place = (at 2 24); high = (Number (at 2 25) Plain (bits_of 32 3)); low = (Number (at 2 27) Plain (bits_of 32 0)) }))
        (record { name = (codes "v"); place = (at 2 30); content = NoContent } ∷ record { name = (codes "w"); place = (at 2 33); content = NoContent } ∷ [])) ∷
        (RegItem (at 2 36) false (Some (record { place = (at 2 40); high = (Number (at 2 41) Plain (bits_of 32 7)); low = (Number (at 2 43) Plain (bits_of 32 0)) }))
        (record {
          name = (codes "m");
          place = (at 2 46);
          content = (MemoryBounds (record {
            place = (at 2 48);
            high = (Number (at 2 49) Plain (bits_of 32 0));
            low = (Number (at 2 51) Plain (bits_of 32 3));
          }));
        } ∷ [])) ∷
        (WireItem (at 2 55) false None (record { name = (codes "n"); place = (at 2 60); value = None } ∷ [])) ∷
        (InitialItem (at 3 1) (BlockingStatement (at 3 9) (OneSelect (record { place = (at 3 9); name = (codes "q"); index = NoIndex })) None
        (Infixed (at 3 13) Less (Selected (at 3 13) (codes "a") NoIndex) (Prefixed (at 3 17) Minus (Number (at 3 18) Plain (bits_of 32 1)))))) ∷
        []);
  } ∷ []);
}

abbrev pub Found68 : Type 0
Found68 = summary_of (flat source68 (codes "top") Usual) ≡ Ok (record {
  objects = (record { name = (codes "q"); kind = Var; width = 1; indexes = ([]); place = (at 2 5) } ∷
      record { name = (codes "r"); kind = Var; width = 1; indexes = ([]); place = (at 2 8) } ∷ record { name = (codes "a"); kind = Var; width = 1; indexes = ([]); place = (at 2 11) } ∷
      record { name = (codes "b"); kind = Var; width = 1; indexes = ([]); place = (at 2 14) } ∷ record { name = (codes "c"); kind = Var; width = 1; indexes = ([]); place = (at 2 17) } ∷
      record { name = (codes "v"); kind = Var; width = 4; indexes = (3 ∷ 0 ∷ []); place = (at 2 30) } ∷
      record { name = (codes "w"); kind = Var; width = 4; indexes = (3 ∷ 0 ∷ []); place = (at 2 33) } ∷ record { name = (codes "m"); kind = Word; width = 8; indexes = (0 ∷ []); place = (at 2 46) } ∷
      record { name = (codes "m"); kind = Word; width = 8; indexes = (1 ∷ []); place = (at 2 46) } ∷ record { name = (codes "m"); kind = Word; width = 8; indexes = (2 ∷ []); place = (at 2 46) } ∷
      record { name = (codes "m"); kind = Word; width = 8; indexes = (3 ∷ []); place = (at 2 46) } ∷ record { name = (codes "n"); kind = Net; width = 1; indexes = ([]); place = (at 2 60) } ∷ []);
  nodes = ([]);
  processes = (false ∷ []);
  joined = ([]);
})

found68 : Found68
found68 = refl

-- module top;
-- reg q, r, a, b, c; reg [3:0] v, w; reg [7:0] m [0:3]; wire n;
-- initial q = -1 < 32'd0;
-- endmodule
abbrev source69 : SourceUnit
source69 = record {
  modules = (record {
    name = (codes "top");
    place = (at 1 8);
    parameters = ([]);
    heads = (PlainHeads ([]));
    items =
        ((RegItem (at 2 1) false None (record { name = (codes "q"); place = (at 2 5); content = NoContent } ∷ record { name = (codes "r"); place = (at 2 8); content = NoContent } ∷
        record { name = (codes "a"); place = (at 2 11); content = NoContent } ∷ record { name = (codes "b"); place = (at 2 14); content = NoContent } ∷
        record { name = (codes "c"); place = (at 2 17); content = NoContent } ∷ [])) ∷
        (RegItem (at 2 20) false (Some (record { place = (at 2 24); high = (Number (at 2 25) Plain (bits_of 32 3)); low = (Number (at 2 27) Plain (bits_of 32 0)) }))
        (record { name = (codes "v"); place = (at 2 30); content = NoContent } ∷ record { name = (codes "w"); place = (at 2 33); content = NoContent } ∷ [])) ∷
        (RegItem (at 2 36) false (Some (record { place = (at 2 40); high = (Number (at 2 41) Plain (bits_of 32 7)); low = (Number (at 2 43) Plain (bits_of 32 0)) }))
        (record {
          name = (codes "m");
          place = (at 2 46);
          content = (MemoryBounds (record {
            place = (at 2 48);
            high = (Number (at 2 49) Plain (bits_of 32 0));
            low = (Number (at 2 51) Plain (bits_of 32 3));
          }));
        } ∷ [])) ∷
        (WireItem (at 2 55) false None (record { name = (codes "n"); place = (at 2 60); value = None } ∷ [])) ∷
        (InitialItem (at 3 1) (BlockingStatement (at 3 9) (OneSelect (record { place = (at 3 9); name = (codes "q"); index = NoIndex })) None
        (Infixed (at 3 13) Less (Prefixed (at 3 13) Minus (Number (at 3 14) Plain (bits_of 32 1))) (Number (at 3 18) Sized (bits_of 32 0))))) ∷
        []);
  } ∷ []);
}

abbrev pub Found69 : Type 0
Found69 = summary_of (flat source69 (codes "top") Usual) ≡ Ok (record {
  objects = (record { name = (codes "q"); kind = Var; width = 1; indexes = ([]); place = (at 2 5) } ∷
      record { name = (codes "r"); kind = Var; width = 1; indexes = ([]); place = (at 2 8) } ∷ record { name = (codes "a"); kind = Var; width = 1; indexes = ([]); place = (at 2 11) } ∷
      record { name = (codes "b"); kind = Var; width = 1; indexes = ([]); place = (at 2 14) } ∷ record { name = (codes "c"); kind = Var; width = 1; indexes = ([]); place = (at 2 17) } ∷
      record { name = (codes "v"); kind = Var; width = 4; indexes = (3 ∷ 0 ∷ []); place = (at 2 30) } ∷
      record { name = (codes "w"); kind = Var; width = 4; indexes = (3 ∷ 0 ∷ []); place = (at 2 33) } ∷ record { name = (codes "m"); kind = Word; width = 8; indexes = (0 ∷ []); place = (at 2 46) } ∷
      record { name = (codes "m"); kind = Word; width = 8; indexes = (1 ∷ []); place = (at 2 46) } ∷ record { name = (codes "m"); kind = Word; width = 8; indexes = (2 ∷ []); place = (at 2 46) } ∷
      record { name = (codes "m"); kind = Word; width = 8; indexes = (3 ∷ []); place = (at 2 46) } ∷ record { name = (codes "n"); kind = Net; width = 1; indexes = ([]); place = (at 2 60) } ∷ []);
  nodes = ([]);
  processes = (false ∷ []);
  joined = ([]);
})

found69 : Found69
found69 = refl

-- what the definitions give of the texts above
abbrev pub Holds : Type 0
Holds = Found60 × Found61 × Found62 × Found63 × Found64 × Found65 × Found66 × Found67 × Found68 × Found69

pub holds : Holds
holds = (found60, found61, found62, found63, found64, found65, found66, found67, found68, found69)
