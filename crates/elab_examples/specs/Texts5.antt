use Rattle.std.specs.Prelude.{◌≡◌, refl, false, [], ◌∷◌, Some, None, Ok, Err, codes}
use Rattle.four_value.specs.Values.{bits_of}
use Rattle.v_design.specs.declared.logic.ObjectKind.TheVariants.{Var, Word, Net}
use Rattle.four_value.specs.declared.operator.BinaryOperator.TheVariants.{Add}
use Rattle.v_tree.specs.declared.token.NumberForm.TheVariants.{Plain, Unsized, Sized}
use Rattle.v_tree.specs.Trees.{Number, Selected, Infixed, Concatenated, Replicated, NoIndex, IndexRange, OneSelect, JoinedSelects, BlockingStatement, NoContent, MemoryBounds, WireItem, RegItem}
use Rattle.v_tree.specs.Trees.{InitialItem, PlainHeads, SourceUnit}
use Rattle.v_elab.specs.declared.Mode.TheVariants.{Usual}
use Rattle.v_names.specs.Faults.{BadWidth, WrongKind}
use Rattle.v_elab.specs.Flat.{flat}
use Rattle.elab_examples.specs.Build.{at, parts, faulty, summary_of}

-- module top;
-- reg q, r, a, b, c; reg [3:0] v, w; reg [7:0] m [0:3]; wire n;
-- initial v = {v, 1};
-- endmodule
abbrev source50 : SourceUnit
source50 = record {
  modules = (record {
    name = (codes "top");
    place = (at 1 8);
    parameters = ([]);
    heads = (PlainHeads ([]));
    items =
        ((RegItem (at 2 1) false None (record { name = (codes "q"); place = (at 2 5); content = NoContent } ∷ record { name = (codes "r"); place = (at 2 8); content = NoContent } ∷
        record { name = (codes "a"); place = (at 2 11); content = NoContent } ∷ record { name = (codes "b"); place = (at 2 14); content = NoContent } ∷
        record { name = (codes "c"); place = (at 2 17); content = NoContent } ∷ [])) ∷
        (RegItem (at 2 20) false (Some (record { place = (at 2 24); high = (Number (at 2 25) Plain (bits_of 32 3)); low = (Number (at 2 27) Plain (bits_of 32 0)) }))
        (record { name = (codes "v"); place = (at 2 30); content = NoContent } ∷ record { name = (codes "w"); place = (at 2 33); content = NoContent } ∷ [])) ∷
        (RegItem (at 2 36) false (Some (record { place = (at 2 40); high = (Number (at 2 41) Plain (bits_of 32 7)); low = (Number (at 2 43) Plain (bits_of 32 0)) }))
        (record {
          name = (codes "m");
          place = (at 2 46);
          content = (MemoryBounds (record {
            place = (at 2 48);
            high = (Number (at 2 49) Plain (bits_of 32 0));
            low = (Number (at 2 51) Plain (bits_of 32 3));
          }));
        } ∷ [])) ∷
        (WireItem (at 2 55) false None (record { name = (codes "n"); place = (at 2 60); value = None } ∷ [])) ∷
        (InitialItem (at 3 1) (BlockingStatement (at 3 9) (OneSelect (record { place = (at 3 9); name = (codes "v"); index = NoIndex })) None
        (Concatenated (at 3 13) (parts ((Selected (at 3 14) (codes "v") NoIndex) ∷ (Number (at 3 17) Plain (bits_of 32 1)) ∷ []))))) ∷
        []);
  } ∷ []);
}

abbrev pub Found50 : Type 0
Found50 = flat source50 (codes "top") Usual ≡ Err (faulty 3 17 BadWidth)

found50 : Found50
found50 = refl

-- module top;
-- reg q, r, a, b, c; reg [3:0] v, w; reg [7:0] m [0:3]; wire n;
-- initial v = {v, 'b1};
-- endmodule
abbrev source51 : SourceUnit
source51 = record {
  modules = (record {
    name = (codes "top");
    place = (at 1 8);
    parameters = ([]);
    heads = (PlainHeads ([]));
    items =
        ((RegItem (at 2 1) false None (record { name = (codes "q"); place = (at 2 5); content = NoContent } ∷ record { name = (codes "r"); place = (at 2 8); content = NoContent } ∷
        record { name = (codes "a"); place = (at 2 11); content = NoContent } ∷ record { name = (codes "b"); place = (at 2 14); content = NoContent } ∷
        record { name = (codes "c"); place = (at 2 17); content = NoContent } ∷ [])) ∷
        (RegItem (at 2 20) false (Some (record { place = (at 2 24); high = (Number (at 2 25) Plain (bits_of 32 3)); low = (Number (at 2 27) Plain (bits_of 32 0)) }))
        (record { name = (codes "v"); place = (at 2 30); content = NoContent } ∷ record { name = (codes "w"); place = (at 2 33); content = NoContent } ∷ [])) ∷
        (RegItem (at 2 36) false (Some (record { place = (at 2 40); high = (Number (at 2 41) Plain (bits_of 32 7)); low = (Number (at 2 43) Plain (bits_of 32 0)) }))
        (record {
          name = (codes "m");
          place = (at 2 46);
          content = (MemoryBounds (record {
            place = (at 2 48);
            high = (Number (at 2 49) Plain (bits_of 32 0));
            low = (Number (at 2 51) Plain (bits_of 32 3));
          }));
        } ∷ [])) ∷
        (WireItem (at 2 55) false None (record { name = (codes "n"); place = (at 2 60); value = None } ∷ [])) ∷
        (InitialItem (at 3 1) (BlockingStatement (at 3 9) (OneSelect (record { place = (at 3 9); name = (codes "v"); index = NoIndex })) None
        (Concatenated (at 3 13) (parts ((Selected (at 3 14) (codes "v") NoIndex) ∷ (Number (at 3 17) Unsized (bits_of 32 1)) ∷ []))))) ∷
        []);
  } ∷ []);
}

abbrev pub Found51 : Type 0
Found51 = flat source51 (codes "top") Usual ≡ Err (faulty 3 17 BadWidth)

found51 : Found51
found51 = refl

-- module top;
-- reg q, r, a, b, c; reg [3:0] v, w; reg [7:0] m [0:3]; wire n;
-- initial v = {v, 1'b1};
-- endmodule
abbrev source52 : SourceUnit
source52 = record {
  modules = (record {
    name = (codes "top");
    place = (at 1 8);
    parameters = ([]);
    heads = (PlainHeads ([]));
    items =
        ((RegItem (at 2 1) false None (record { name = (codes "q"); place = (at 2 5); content = NoContent } ∷ record { name = (codes "r"); place = (at 2 8); content = NoContent } ∷
        record { name = (codes "a"); place = (at 2 11); content = NoContent } ∷ record { name = (codes "b"); place = (at 2 14); content = NoContent } ∷
        record { name = (codes "c"); place = (at 2 17); content = NoContent } ∷ [])) ∷
        (RegItem (at 2 20) false (Some (record { place = (at 2 24); high = (Number (at 2 25) Plain (bits_of 32 3)); low = (Number (at 2 27) Plain (bits_of 32 0)) }))
        (record { name = (codes "v"); place = (at 2 30); content = NoContent } ∷ record { name = (codes "w"); place = (at 2 33); content = NoContent } ∷ [])) ∷
        (RegItem (at 2 36) false (Some (record { place = (at 2 40); high = (Number (at 2 41) Plain (bits_of 32 7)); low = (Number (at 2 43) Plain (bits_of 32 0)) }))
        (record {
          name = (codes "m");
          place = (at 2 46);
          content = (MemoryBounds (record {
            place = (at 2 48);
            high = (Number (at 2 49) Plain (bits_of 32 0));
            low = (Number (at 2 51) Plain (bits_of 32 3));
          }));
        } ∷ [])) ∷
        (WireItem (at 2 55) false None (record { name = (codes "n"); place = (at 2 60); value = None } ∷ [])) ∷
        (InitialItem (at 3 1) (BlockingStatement (at 3 9) (OneSelect (record { place = (at 3 9); name = (codes "v"); index = NoIndex })) None
        (Concatenated (at 3 13) (parts ((Selected (at 3 14) (codes "v") NoIndex) ∷ (Number (at 3 17) Sized (bits_of 1 1)) ∷ []))))) ∷
        []);
  } ∷ []);
}

abbrev pub Found52 : Type 0
Found52 = summary_of (flat source52 (codes "top") Usual) ≡ Ok (record {
  objects = (record { name = (codes "q"); kind = Var; width = 1; indexes = ([]); place = (at 2 5) } ∷
      record { name = (codes "r"); kind = Var; width = 1; indexes = ([]); place = (at 2 8) } ∷ record { name = (codes "a"); kind = Var; width = 1; indexes = ([]); place = (at 2 11) } ∷
      record { name = (codes "b"); kind = Var; width = 1; indexes = ([]); place = (at 2 14) } ∷ record { name = (codes "c"); kind = Var; width = 1; indexes = ([]); place = (at 2 17) } ∷
      record { name = (codes "v"); kind = Var; width = 4; indexes = (3 ∷ 0 ∷ []); place = (at 2 30) } ∷
      record { name = (codes "w"); kind = Var; width = 4; indexes = (3 ∷ 0 ∷ []); place = (at 2 33) } ∷ record { name = (codes "m"); kind = Word; width = 8; indexes = (0 ∷ []); place = (at 2 46) } ∷
      record { name = (codes "m"); kind = Word; width = 8; indexes = (1 ∷ []); place = (at 2 46) } ∷ record { name = (codes "m"); kind = Word; width = 8; indexes = (2 ∷ []); place = (at 2 46) } ∷
      record { name = (codes "m"); kind = Word; width = 8; indexes = (3 ∷ []); place = (at 2 46) } ∷ record { name = (codes "n"); kind = Net; width = 1; indexes = ([]); place = (at 2 60) } ∷ []);
  nodes = ([]);
  processes = (false ∷ []);
  joined = ([]);
})

found52 : Found52
found52 = refl

-- module top;
-- reg q, r, a, b, c; reg [3:0] v, w; reg [7:0] m [0:3]; wire n;
-- initial v = {v, 1 + a};
-- endmodule
abbrev source53 : SourceUnit
source53 = record {
  modules = (record {
    name = (codes "top");
    place = (at 1 8);
    parameters = ([]);
    heads = (PlainHeads ([]));
    items =
        ((RegItem (at 2 1) false None (record { name = (codes "q"); place = (at 2 5); content = NoContent } ∷ record { name = (codes "r"); place = (at 2 8); content = NoContent } ∷
        record { name = (codes "a"); place = (at 2 11); content = NoContent } ∷ record { name = (codes "b"); place = (at 2 14); content = NoContent } ∷
        record { name = (codes "c"); place = (at 2 17); content = NoContent } ∷ [])) ∷
        (RegItem (at 2 20) false (Some (record { place = (at 2 24); high = (Number (at 2 25) Plain (bits_of 32 3)); low = (Number (at 2 27) Plain (bits_of 32 0)) }))
        (record { name = (codes "v"); place = (at 2 30); content = NoContent } ∷ record { name = (codes "w"); place = (at 2 33); content = NoContent } ∷ [])) ∷
        (RegItem (at 2 36) false (Some (record { place = (at 2 40); high = (Number (at 2 41) Plain (bits_of 32 7)); low = (Number (at 2 43) Plain (bits_of 32 0)) }))
        (record {
          name = (codes "m");
          place = (at 2 46);
          content = (MemoryBounds (record {
            place = (at 2 48);
            high = (Number (at 2 49) Plain (bits_of 32 0));
            low = (Number (at 2 51) Plain (bits_of 32 3));
          }));
        } ∷ [])) ∷
        (WireItem (at 2 55) false None (record { name = (codes "n"); place = (at 2 60); value = None } ∷ [])) ∷
        (InitialItem (at 3 1) (BlockingStatement (at 3 9) (OneSelect (record { place = (at 3 9); name = (codes "v"); index = NoIndex })) None
        (Concatenated (at 3 13) (parts ((Selected (at 3 14) (codes "v") NoIndex) ∷ (Infixed (at 3 17) Add (Number (at 3 17) Plain (bits_of 32 1)) (Selected (at 3 21) (codes "a") NoIndex)) ∷
        []))))) ∷
        []);
  } ∷ []);
}

abbrev pub Found53 : Type 0
Found53 = summary_of (flat source53 (codes "top") Usual) ≡ Ok (record {
  objects = (record { name = (codes "q"); kind = Var; width = 1; indexes = ([]); place = (at 2 5) } ∷
      record { name = (codes "r"); kind = Var; width = 1; indexes = ([]); place = (at 2 8) } ∷ record { name = (codes "a"); kind = Var; width = 1; indexes = ([]); place = (at 2 11) } ∷
      record { name = (codes "b"); kind = Var; width = 1; indexes = ([]); place = (at 2 14) } ∷ record { name = (codes "c"); kind = Var; width = 1; indexes = ([]); place = (at 2 17) } ∷
      record { name = (codes "v"); kind = Var; width = 4; indexes = (3 ∷ 0 ∷ []); place = (at 2 30) } ∷
      record { name = (codes "w"); kind = Var; width = 4; indexes = (3 ∷ 0 ∷ []); place = (at 2 33) } ∷ record { name = (codes "m"); kind = Word; width = 8; indexes = (0 ∷ []); place = (at 2 46) } ∷
      record { name = (codes "m"); kind = Word; width = 8; indexes = (1 ∷ []); place = (at 2 46) } ∷ record { name = (codes "m"); kind = Word; width = 8; indexes = (2 ∷ []); place = (at 2 46) } ∷
      record { name = (codes "m"); kind = Word; width = 8; indexes = (3 ∷ []); place = (at 2 46) } ∷ record { name = (codes "n"); kind = Net; width = 1; indexes = ([]); place = (at 2 60) } ∷ []);
  nodes = ([]);
  processes = (false ∷ []);
  joined = ([]);
})

found53 : Found53
found53 = refl

-- module top;
-- reg q, r, a, b, c; reg [3:0] v, w; reg [7:0] m [0:3]; wire n;
-- initial v = {0{v}};
-- endmodule
abbrev source54 : SourceUnit
source54 = record {
  modules = (record {
    name = (codes "top");
    place = (at 1 8);
    parameters = ([]);
    heads = (PlainHeads ([]));
    items =
        ((RegItem (at 2 1) false None (record { name = (codes "q"); place = (at 2 5); content = NoContent } ∷ record { name = (codes "r"); place = (at 2 8); content = NoContent } ∷
        record { name = (codes "a"); place = (at 2 11); content = NoContent } ∷ record { name = (codes "b"); place = (at 2 14); content = NoContent } ∷
        record { name = (codes "c"); place = (at 2 17); content = NoContent } ∷ [])) ∷
        (RegItem (at 2 20) false (Some (record { place = (at 2 24); high = (Number (at 2 25) Plain (bits_of 32 3)); low = (Number (at 2 27) Plain (bits_of 32 0)) }))
        (record { name = (codes "v"); place = (at 2 30); content = NoContent } ∷ record { name = (codes "w"); place = (at 2 33); content = NoContent } ∷ [])) ∷
        (RegItem (at 2 36) false (Some (record { place = (at 2 40); high = (Number (at 2 41) Plain (bits_of 32 7)); low = (Number (at 2 43) Plain (bits_of 32 0)) }))
        (record {
          name = (codes "m");
          place = (at 2 46);
          content = (MemoryBounds (record {
            place = (at 2 48);
            high = (Number (at 2 49) Plain (bits_of 32 0));
            low = (Number (at 2 51) Plain (bits_of 32 3));
          }));
        } ∷ [])) ∷
        (WireItem (at 2 55) false None (record { name = (codes "n"); place = (at 2 60); value = None } ∷ [])) ∷
        (InitialItem (at 3 1) (BlockingStatement (at 3 9) (OneSelect (record { place = (at 3 9); name = (codes "v"); index = NoIndex })) None
        (Replicated (at 3 13) (Number (at 3 14) Plain (bits_of 32 0)) (parts ((Selected (at 3 16) (codes "v") NoIndex) ∷ []))))) ∷
        []);
  } ∷ []);
}

abbrev pub Found54 : Type 0
Found54 = flat source54 (codes "top") Usual ≡ Err (faulty 3 13 BadWidth)

found54 : Found54
found54 = refl

-- module top;
-- reg q, r, a, b, c; reg [3:0] v, w; reg [7:0] m [0:3]; wire n;
-- initial v = {16{v}};
-- endmodule
abbrev source55 : SourceUnit
source55 = record {
  modules = (record {
    name = (codes "top");
    place = (at 1 8);
    parameters = ([]);
    heads = (PlainHeads ([]));
    items =
        ((RegItem (at 2 1) false None (record { name = (codes "q"); place = (at 2 5); content = NoContent } ∷ record { name = (codes "r"); place = (at 2 8); content = NoContent } ∷
        record { name = (codes "a"); place = (at 2 11); content = NoContent } ∷ record { name = (codes "b"); place = (at 2 14); content = NoContent } ∷
        record { name = (codes "c"); place = (at 2 17); content = NoContent } ∷ [])) ∷
        (RegItem (at 2 20) false (Some (record { place = (at 2 24); high = (Number (at 2 25) Plain (bits_of 32 3)); low = (Number (at 2 27) Plain (bits_of 32 0)) }))
        (record { name = (codes "v"); place = (at 2 30); content = NoContent } ∷ record { name = (codes "w"); place = (at 2 33); content = NoContent } ∷ [])) ∷
        (RegItem (at 2 36) false (Some (record { place = (at 2 40); high = (Number (at 2 41) Plain (bits_of 32 7)); low = (Number (at 2 43) Plain (bits_of 32 0)) }))
        (record {
          name = (codes "m");
          place = (at 2 46);
          content = (MemoryBounds (record {
            place = (at 2 48);
            high = (Number (at 2 49) Plain (bits_of 32 0));
            low = (Number (at 2 51) Plain (bits_of 32 3));
          }));
        } ∷ [])) ∷
        (WireItem (at 2 55) false None (record { name = (codes "n"); place = (at 2 60); value = None } ∷ [])) ∷
        (InitialItem (at 3 1) (BlockingStatement (at 3 9) (OneSelect (record { place = (at 3 9); name = (codes "v"); index = NoIndex })) None
        (Replicated (at 3 13) (Number (at 3 14) Plain (bits_of 32 16)) (parts ((Selected (at 3 17) (codes "v") NoIndex) ∷ []))))) ∷
        []);
  } ∷ []);
}

abbrev pub Found55 : Type 0
Found55 = summary_of (flat source55 (codes "top") Usual) ≡ Ok (record {
  objects = (record { name = (codes "q"); kind = Var; width = 1; indexes = ([]); place = (at 2 5) } ∷
      record { name = (codes "r"); kind = Var; width = 1; indexes = ([]); place = (at 2 8) } ∷ record { name = (codes "a"); kind = Var; width = 1; indexes = ([]); place = (at 2 11) } ∷
      record { name = (codes "b"); kind = Var; width = 1; indexes = ([]); place = (at 2 14) } ∷ record { name = (codes "c"); kind = Var; width = 1; indexes = ([]); place = (at 2 17) } ∷
      record { name = (codes "v"); kind = Var; width = 4; indexes = (3 ∷ 0 ∷ []); place = (at 2 30) } ∷
      record { name = (codes "w"); kind = Var; width = 4; indexes = (3 ∷ 0 ∷ []); place = (at 2 33) } ∷ record { name = (codes "m"); kind = Word; width = 8; indexes = (0 ∷ []); place = (at 2 46) } ∷
      record { name = (codes "m"); kind = Word; width = 8; indexes = (1 ∷ []); place = (at 2 46) } ∷ record { name = (codes "m"); kind = Word; width = 8; indexes = (2 ∷ []); place = (at 2 46) } ∷
      record { name = (codes "m"); kind = Word; width = 8; indexes = (3 ∷ []); place = (at 2 46) } ∷ record { name = (codes "n"); kind = Net; width = 1; indexes = ([]); place = (at 2 60) } ∷ []);
  nodes = ([]);
  processes = (false ∷ []);
  joined = ([]);
})

found55 : Found55
found55 = refl

-- module top;
-- reg q, r, a, b, c; reg [3:0] v, w; reg [7:0] m [0:3]; wire n;
-- initial v = {17{v}};
-- endmodule
abbrev source56 : SourceUnit
source56 = record {
  modules = (record {
    name = (codes "top");
    place = (at 1 8);
    parameters = ([]);
    heads = (PlainHeads ([]));
    items =
        ((RegItem (at 2 1) false None (record { name = (codes "q"); place = (at 2 5); content = NoContent } ∷ record { name = (codes "r"); place = (at 2 8); content = NoContent } ∷
        record { name = (codes "a"); place = (at 2 11); content = NoContent } ∷ record { name = (codes "b"); place = (at 2 14); content = NoContent } ∷
        record { name = (codes "c"); place = (at 2 17); content = NoContent } ∷ [])) ∷
        (RegItem (at 2 20) false (Some (record { place = (at 2 24); high = (Number (at 2 25) Plain (bits_of 32 3)); low = (Number (at 2 27) Plain (bits_of 32 0)) }))
        (record { name = (codes "v"); place = (at 2 30); content = NoContent } ∷ record { name = (codes "w"); place = (at 2 33); content = NoContent } ∷ [])) ∷
        (RegItem (at 2 36) false (Some (record { place = (at 2 40); high = (Number (at 2 41) Plain (bits_of 32 7)); low = (Number (at 2 43) Plain (bits_of 32 0)) }))
        (record {
          name = (codes "m");
          place = (at 2 46);
          content = (MemoryBounds (record {
            place = (at 2 48);
            high = (Number (at 2 49) Plain (bits_of 32 0));
            low = (Number (at 2 51) Plain (bits_of 32 3));
          }));
        } ∷ [])) ∷
        (WireItem (at 2 55) false None (record { name = (codes "n"); place = (at 2 60); value = None } ∷ [])) ∷
        (InitialItem (at 3 1) (BlockingStatement (at 3 9) (OneSelect (record { place = (at 3 9); name = (codes "v"); index = NoIndex })) None
        (Replicated (at 3 13) (Number (at 3 14) Plain (bits_of 32 17)) (parts ((Selected (at 3 17) (codes "v") NoIndex) ∷ []))))) ∷
        []);
  } ∷ []);
}

abbrev pub Found56 : Type 0
Found56 = summary_of (flat source56 (codes "top") Usual) ≡ Ok (record {
  objects = (record { name = (codes "q"); kind = Var; width = 1; indexes = ([]); place = (at 2 5) } ∷
      record { name = (codes "r"); kind = Var; width = 1; indexes = ([]); place = (at 2 8) } ∷ record { name = (codes "a"); kind = Var; width = 1; indexes = ([]); place = (at 2 11) } ∷
      record { name = (codes "b"); kind = Var; width = 1; indexes = ([]); place = (at 2 14) } ∷ record { name = (codes "c"); kind = Var; width = 1; indexes = ([]); place = (at 2 17) } ∷
      record { name = (codes "v"); kind = Var; width = 4; indexes = (3 ∷ 0 ∷ []); place = (at 2 30) } ∷
      record { name = (codes "w"); kind = Var; width = 4; indexes = (3 ∷ 0 ∷ []); place = (at 2 33) } ∷ record { name = (codes "m"); kind = Word; width = 8; indexes = (0 ∷ []); place = (at 2 46) } ∷
      record { name = (codes "m"); kind = Word; width = 8; indexes = (1 ∷ []); place = (at 2 46) } ∷ record { name = (codes "m"); kind = Word; width = 8; indexes = (2 ∷ []); place = (at 2 46) } ∷
      record { name = (codes "m"); kind = Word; width = 8; indexes = (3 ∷ []); place = (at 2 46) } ∷ record { name = (codes "n"); kind = Net; width = 1; indexes = ([]); place = (at 2 60) } ∷ []);
  nodes = ([]);
  processes = (false ∷ []);
  joined = ([]);
})

found56 : Found56
found56 = refl

-- module top;
-- reg q, r, a, b, c; reg [3:0] v, w; reg [7:0] m [0:3]; wire n;
-- initial q = v[64:0];
-- endmodule
abbrev source57 : SourceUnit
source57 = record {
  modules = (record {
    name = (codes "top");
    place = (at 1 8);
    parameters = ([]);
    heads = (PlainHeads ([]));
    items =
        ((RegItem (at 2 1) false None (record { name = (codes "q"); place = (at 2 5); content = NoContent } ∷ record { name = (codes "r"); place = (at 2 8); content = NoContent } ∷
        record { name = (codes "a"); place = (at 2 11); content = NoContent } ∷ record { name = (codes "b"); place = (at 2 14); content = NoContent } ∷
        record { name = (codes "c"); place = (at 2 17); content = NoContent } ∷ [])) ∷
        (RegItem (at 2 20) false (Some (record { place = (at 2 24); high = (Number (at 2 25) Plain (bits_of 32 3)); low = (Number (at 2 27) Plain (bits_of 32 0)) }))
        (record { name = (codes "v"); place = (at 2 30); content = NoContent } ∷ record { name = (codes "w"); place = (at 2 33); content = NoContent } ∷ [])) ∷
        (RegItem (at 2 36) false (Some (record { place = (at 2 40); high = (Number (at 2 41) Plain (bits_of 32 7)); low = (Number (at 2 43) Plain (bits_of 32 0)) }))
        (record {
          name = (codes "m");
          place = (at 2 46);
          content = (MemoryBounds (record {
            place = (at 2 48);
            high = (Number (at 2 49) Plain (bits_of 32 0));
            low = (Number (at 2 51) Plain (bits_of 32 3));
          }));
        } ∷ [])) ∷
        (WireItem (at 2 55) false None (record { name = (codes "n"); place = (at 2 60); value = None } ∷ [])) ∷
        (InitialItem (at 3 1) (BlockingStatement (at 3 9) (OneSelect (record { place = (at 3 9); name = (codes "q"); index = NoIndex })) None
        (Selected (at 3 13) (codes "v") (IndexRange (Number (at 3 15) Plain (bits_of 32 64)) (Number (at 3 18) Plain (bits_of 32 0)))))) ∷
        []);
  } ∷ []);
}

abbrev pub Found57 : Type 0
Found57 = summary_of (flat source57 (codes "top") Usual) ≡ Ok (record {
  objects = (record { name = (codes "q"); kind = Var; width = 1; indexes = ([]); place = (at 2 5) } ∷
      record { name = (codes "r"); kind = Var; width = 1; indexes = ([]); place = (at 2 8) } ∷ record { name = (codes "a"); kind = Var; width = 1; indexes = ([]); place = (at 2 11) } ∷
      record { name = (codes "b"); kind = Var; width = 1; indexes = ([]); place = (at 2 14) } ∷ record { name = (codes "c"); kind = Var; width = 1; indexes = ([]); place = (at 2 17) } ∷
      record { name = (codes "v"); kind = Var; width = 4; indexes = (3 ∷ 0 ∷ []); place = (at 2 30) } ∷
      record { name = (codes "w"); kind = Var; width = 4; indexes = (3 ∷ 0 ∷ []); place = (at 2 33) } ∷ record { name = (codes "m"); kind = Word; width = 8; indexes = (0 ∷ []); place = (at 2 46) } ∷
      record { name = (codes "m"); kind = Word; width = 8; indexes = (1 ∷ []); place = (at 2 46) } ∷ record { name = (codes "m"); kind = Word; width = 8; indexes = (2 ∷ []); place = (at 2 46) } ∷
      record { name = (codes "m"); kind = Word; width = 8; indexes = (3 ∷ []); place = (at 2 46) } ∷ record { name = (codes "n"); kind = Net; width = 1; indexes = ([]); place = (at 2 60) } ∷ []);
  nodes = ([]);
  processes = (false ∷ []);
  joined = ([]);
})

found57 : Found57
found57 = refl

-- module top;
-- reg q, r, a, b, c; reg [3:0] v, w; reg [7:0] m [0:3]; wire n;
-- initial {v, v, v, v, v, v, v, v, v, v, v, v, v, v, v, v, v} = 1;
-- endmodule
abbrev source58 : SourceUnit
source58 = record {
  modules = (record {
    name = (codes "top");
    place = (at 1 8);
    parameters = ([]);
    heads = (PlainHeads ([]));
    items =
        ((RegItem (at 2 1) false None (record { name = (codes "q"); place = (at 2 5); content = NoContent } ∷ record { name = (codes "r"); place = (at 2 8); content = NoContent } ∷
        record { name = (codes "a"); place = (at 2 11); content = NoContent } ∷ record { name = (codes "b"); place = (at 2 14); content = NoContent } ∷
        record { name = (codes "c"); place = (at 2 17); content = NoContent } ∷ [])) ∷
        (RegItem (at 2 20) false (Some (record { place = (at 2 24); high = (Number (at 2 25) Plain (bits_of 32 3)); low = (Number (at 2 27) Plain (bits_of 32 0)) }))
        (record { name = (codes "v"); place = (at 2 30); content = NoContent } ∷ record { name = (codes "w"); place = (at 2 33); content = NoContent } ∷ [])) ∷
        (RegItem (at 2 36) false (Some (record { place = (at 2 40); high = (Number (at 2 41) Plain (bits_of 32 7)); low = (Number (at 2 43) Plain (bits_of 32 0)) }))
        (record {
          name = (codes "m");
          place = (at 2 46);
          content = (MemoryBounds (record {
            place = (at 2 48);
            high = (Number (at 2 49) Plain (bits_of 32 0));
            low = (Number (at 2 51) Plain (bits_of 32 3));
          }));
        } ∷ [])) ∷
        (WireItem (at 2 55) false None (record { name = (codes "n"); place = (at 2 60); value = None } ∷ [])) ∷
        (InitialItem (at 3 1) (BlockingStatement (at 3 9) (JoinedSelects (at 3 9) (record { place = (at 3 10); name = (codes "v"); index = NoIndex } ∷
        record { place = (at 3 13); name = (codes "v"); index = NoIndex } ∷ record { place = (at 3 16); name = (codes "v"); index = NoIndex } ∷
        record { place = (at 3 19); name = (codes "v"); index = NoIndex } ∷ record { place = (at 3 22); name = (codes "v"); index = NoIndex } ∷
        record { place = (at 3 25); name = (codes "v"); index = NoIndex } ∷ record { place = (at 3 28); name = (codes "v"); index = NoIndex } ∷
        record { place = (at 3 31); name = (codes "v"); index = NoIndex } ∷ record { place = (at 3 34); name = (codes "v"); index = NoIndex } ∷
        record { place = (at 3 37); name = (codes "v"); index = NoIndex } ∷ record { place = (at 3 40); name = (codes "v"); index = NoIndex } ∷
        record { place = (at 3 43); name = (codes "v"); index = NoIndex } ∷ record { place = (at 3 46); name = (codes "v"); index = NoIndex } ∷
        record { place = (at 3 49); name = (codes "v"); index = NoIndex } ∷ record { place = (at 3 52); name = (codes "v"); index = NoIndex } ∷
        record { place = (at 3 55); name = (codes "v"); index = NoIndex } ∷ record { place = (at 3 58); name = (codes "v"); index = NoIndex } ∷ [])) None
        (Number (at 3 63) Plain (bits_of 32 1)))) ∷
        []);
  } ∷ []);
}

abbrev pub Found58 : Type 0
Found58 = summary_of (flat source58 (codes "top") Usual) ≡ Ok (record {
  objects = (record { name = (codes "q"); kind = Var; width = 1; indexes = ([]); place = (at 2 5) } ∷
      record { name = (codes "r"); kind = Var; width = 1; indexes = ([]); place = (at 2 8) } ∷ record { name = (codes "a"); kind = Var; width = 1; indexes = ([]); place = (at 2 11) } ∷
      record { name = (codes "b"); kind = Var; width = 1; indexes = ([]); place = (at 2 14) } ∷ record { name = (codes "c"); kind = Var; width = 1; indexes = ([]); place = (at 2 17) } ∷
      record { name = (codes "v"); kind = Var; width = 4; indexes = (3 ∷ 0 ∷ []); place = (at 2 30) } ∷
      record { name = (codes "w"); kind = Var; width = 4; indexes = (3 ∷ 0 ∷ []); place = (at 2 33) } ∷ record { name = (codes "m"); kind = Word; width = 8; indexes = (0 ∷ []); place = (at 2 46) } ∷
      record { name = (codes "m"); kind = Word; width = 8; indexes = (1 ∷ []); place = (at 2 46) } ∷ record { name = (codes "m"); kind = Word; width = 8; indexes = (2 ∷ []); place = (at 2 46) } ∷
      record { name = (codes "m"); kind = Word; width = 8; indexes = (3 ∷ []); place = (at 2 46) } ∷ record { name = (codes "n"); kind = Net; width = 1; indexes = ([]); place = (at 2 60) } ∷ []);
  nodes = ([]);
  processes = (false ∷ []);
  joined = ([]);
})

found58 : Found58
found58 = refl

-- module top;
-- reg q, r, a, b, c; reg [3:0] v, w; reg [7:0] m [0:3]; wire n;
-- initial n = {17{v}};
-- endmodule
abbrev source59 : SourceUnit
source59 = record {
  modules = (record {
    name = (codes "top");
    place = (at 1 8);
    parameters = ([]);
    heads = (PlainHeads ([]));
    items =
        ((RegItem (at 2 1) false None (record { name = (codes "q"); place = (at 2 5); content = NoContent } ∷ record { name = (codes "r"); place = (at 2 8); content = NoContent } ∷
        record { name = (codes "a"); place = (at 2 11); content = NoContent } ∷ record { name = (codes "b"); place = (at 2 14); content = NoContent } ∷
        record { name = (codes "c"); place = (at 2 17); content = NoContent } ∷ [])) ∷
        (RegItem (at 2 20) false (Some (record { place = (at 2 24); high = (Number (at 2 25) Plain (bits_of 32 3)); low = (Number (at 2 27) Plain (bits_of 32 0)) }))
        (record { name = (codes "v"); place = (at 2 30); content = NoContent } ∷ record { name = (codes "w"); place = (at 2 33); content = NoContent } ∷ [])) ∷
        (RegItem (at 2 36) false (Some (record { place = (at 2 40); high = (Number (at 2 41) Plain (bits_of 32 7)); low = (Number (at 2 43) Plain (bits_of 32 0)) }))
        (record {
          name = (codes "m");
          place = (at 2 46);
          content = (MemoryBounds (record {
            place = (at 2 48);
            high = (Number (at 2 49) Plain (bits_of 32 0));
            low = (Number (at 2 51) Plain (bits_of 32 3));
          }));
        } ∷ [])) ∷
        (WireItem (at 2 55) false None (record { name = (codes "n"); place = (at 2 60); value = None } ∷ [])) ∷
        (InitialItem (at 3 1) (BlockingStatement (at 3 9) (OneSelect (record { place = (at 3 9); name = (codes "n"); index = NoIndex })) None
        (Replicated (at 3 13) (Number (at 3 14) Plain (bits_of 32 17)) (parts ((Selected (at 3 17) (codes "v") NoIndex) ∷ []))))) ∷
        []);
  } ∷ []);
}

abbrev pub Found59 : Type 0
Found59 = flat source59 (codes "top") Usual ≡ Err (faulty 3 9 WrongKind)

found59 : Found59
found59 = refl

-- what the definitions give of the texts above
abbrev pub Holds : Type 0
Holds = Found50 × Found51 × Found52 × Found53 × Found54 × Found55 × Found56 × Found57 × Found58 × Found59

pub holds : Holds
holds = (found50, found51, found52, found53, found54, found55, found56, found57, found58, found59)
