use Rattle.std.specs.Prelude.{◌≡◌, refl, false, [], ◌∷◌, Some, None, Ok, Err, codes}
use Rattle.four_value.specs.Values.{bits_of}
use Rattle.four_value.specs.declared.logic.Edge.TheVariants.{Any}
use Rattle.v_design.specs.declared.logic.ObjectKind.TheVariants.{Var, Word, Net}
use Rattle.four_value.specs.declared.operator.GateKind.TheVariants.{And}
use Rattle.four_value.specs.declared.operator.BinaryOperator.TheVariants.{Add}
use Rattle.v_tree.specs.declared.token.NumberForm.TheVariants.{Plain}
use Rattle.v_tree.specs.Trees.{Number, Selected, Infixed, NoIndex, IndexAt, IndexRange, OneSelect, OnEntries, WaitStatement, EventStatement, BlockingStatement, NoContent, MemoryBounds}
use Rattle.v_tree.specs.Trees.{ParameterItem, WireItem, RegItem, AssignItem, GateItem, InitialItem, PlainHeads, SourceUnit}
use Rattle.v_elab.specs.declared.Mode.TheVariants.{Usual}
use Rattle.v_names.specs.Faults.{WrongKind}
use Rattle.v_elab.specs.Flat.{flat}
use Rattle.elab_examples.specs.Build.{at, faulty, summary_of}

-- module top;
-- reg q, r, a, b, c; reg [3:0] v, w; reg [7:0] m [0:3]; wire n;
-- initial q = a[0];
-- endmodule
abbrev source100 : SourceUnit
source100 = record {
  modules = (record {
    name = (codes "top");
    place = (at 1 8);
    parameters = ([]);
    heads = (PlainHeads ([]));
    items =
        ((RegItem (at 2 1) false None (record { name = (codes "q"); place = (at 2 5); content = NoContent } ∷ record { name = (codes "r"); place = (at 2 8); content = NoContent } ∷
        record { name = (codes "a"); place = (at 2 11); content = NoContent } ∷ record { name = (codes "b"); place = (at 2 14); content = NoContent } ∷
        record { name = (codes "c"); place = (at 2 17); content = NoContent } ∷ [])) ∷
        (RegItem (at 2 20) false (Some (record { place = (at 2 24); high = (Number (at 2 25) Plain (bits_of 32 3)); low = (Number (at 2 27) Plain (bits_of 32 0)) }))
        (record { name = (codes "v"); place = (at 2 30); content = NoContent } ∷ record { name = (codes "w"); place = (at 2 33); content = NoContent } ∷ [])) ∷
        (RegItem (at 2 36) false (Some (record { place = (at 2 40); high = (Number (at 2 41) Plain (bits_of 32 7)); low = (Number (at 2 43) Plain (bits_of 32 0)) }))
        (record {
          name = (codes "m");
          place = (at 2 46);
          content = (MemoryBounds (record {
            place = (at 2 48);
            high = (Number (at 2 49) Plain (bits_of 32 0));
            low = (Number (at 2 51) Plain (bits_of 32 3));
          }));
        } ∷ [])) ∷
        (WireItem (at 2 55) false None (record { name = (codes "n"); place = (at 2 60); value = None } ∷ [])) ∷
        (InitialItem (at 3 1) (BlockingStatement (at 3 9) (OneSelect (record { place = (at 3 9); name = (codes "q"); index = NoIndex })) None
        (Selected (at 3 13) (codes "a") (IndexAt (Number (at 3 15) Plain (bits_of 32 0)))))) ∷
        []);
  } ∷ []);
}

abbrev pub Found100 : Type 0
Found100 = flat source100 (codes "top") Usual ≡ Err (faulty 3 13 WrongKind)

found100 : Found100
found100 = refl

-- module top;
-- reg q, r, a, b, c; reg [3:0] v, w; reg [7:0] m [0:3]; wire n;
-- initial a[0] = 1;
-- endmodule
abbrev source101 : SourceUnit
source101 = record {
  modules = (record {
    name = (codes "top");
    place = (at 1 8);
    parameters = ([]);
    heads = (PlainHeads ([]));
    items =
        ((RegItem (at 2 1) false None (record { name = (codes "q"); place = (at 2 5); content = NoContent } ∷ record { name = (codes "r"); place = (at 2 8); content = NoContent } ∷
        record { name = (codes "a"); place = (at 2 11); content = NoContent } ∷ record { name = (codes "b"); place = (at 2 14); content = NoContent } ∷
        record { name = (codes "c"); place = (at 2 17); content = NoContent } ∷ [])) ∷
        (RegItem (at 2 20) false (Some (record { place = (at 2 24); high = (Number (at 2 25) Plain (bits_of 32 3)); low = (Number (at 2 27) Plain (bits_of 32 0)) }))
        (record { name = (codes "v"); place = (at 2 30); content = NoContent } ∷ record { name = (codes "w"); place = (at 2 33); content = NoContent } ∷ [])) ∷
        (RegItem (at 2 36) false (Some (record { place = (at 2 40); high = (Number (at 2 41) Plain (bits_of 32 7)); low = (Number (at 2 43) Plain (bits_of 32 0)) }))
        (record {
          name = (codes "m");
          place = (at 2 46);
          content = (MemoryBounds (record {
            place = (at 2 48);
            high = (Number (at 2 49) Plain (bits_of 32 0));
            low = (Number (at 2 51) Plain (bits_of 32 3));
          }));
        } ∷ [])) ∷
        (WireItem (at 2 55) false None (record { name = (codes "n"); place = (at 2 60); value = None } ∷ [])) ∷
        (InitialItem (at 3 1) (BlockingStatement (at 3 9) (OneSelect (record { place = (at 3 9); name = (codes "a"); index = (IndexAt (Number (at 3 11) Plain (bits_of 32 0))) })) None
        (Number (at 3 16) Plain (bits_of 32 1)))) ∷
        []);
  } ∷ []);
}

abbrev pub Found101 : Type 0
Found101 = flat source101 (codes "top") Usual ≡ Err (faulty 3 9 WrongKind)

found101 : Found101
found101 = refl

-- module top;
-- reg q, r, a, b, c; reg [3:0] v, w; reg [7:0] m [0:3]; wire n;
-- initial q = v[0:3];
-- endmodule
abbrev source102 : SourceUnit
source102 = record {
  modules = (record {
    name = (codes "top");
    place = (at 1 8);
    parameters = ([]);
    heads = (PlainHeads ([]));
    items =
        ((RegItem (at 2 1) false None (record { name = (codes "q"); place = (at 2 5); content = NoContent } ∷ record { name = (codes "r"); place = (at 2 8); content = NoContent } ∷
        record { name = (codes "a"); place = (at 2 11); content = NoContent } ∷ record { name = (codes "b"); place = (at 2 14); content = NoContent } ∷
        record { name = (codes "c"); place = (at 2 17); content = NoContent } ∷ [])) ∷
        (RegItem (at 2 20) false (Some (record { place = (at 2 24); high = (Number (at 2 25) Plain (bits_of 32 3)); low = (Number (at 2 27) Plain (bits_of 32 0)) }))
        (record { name = (codes "v"); place = (at 2 30); content = NoContent } ∷ record { name = (codes "w"); place = (at 2 33); content = NoContent } ∷ [])) ∷
        (RegItem (at 2 36) false (Some (record { place = (at 2 40); high = (Number (at 2 41) Plain (bits_of 32 7)); low = (Number (at 2 43) Plain (bits_of 32 0)) }))
        (record {
          name = (codes "m");
          place = (at 2 46);
          content = (MemoryBounds (record {
            place = (at 2 48);
            high = (Number (at 2 49) Plain (bits_of 32 0));
            low = (Number (at 2 51) Plain (bits_of 32 3));
          }));
        } ∷ [])) ∷
        (WireItem (at 2 55) false None (record { name = (codes "n"); place = (at 2 60); value = None } ∷ [])) ∷
        (InitialItem (at 3 1) (BlockingStatement (at 3 9) (OneSelect (record { place = (at 3 9); name = (codes "q"); index = NoIndex })) None
        (Selected (at 3 13) (codes "v") (IndexRange (Number (at 3 15) Plain (bits_of 32 0)) (Number (at 3 17) Plain (bits_of 32 3)))))) ∷
        []);
  } ∷ []);
}

abbrev pub Found102 : Type 0
Found102 = flat source102 (codes "top") Usual ≡ Err (faulty 3 13 WrongKind)

found102 : Found102
found102 = refl

-- module top;
-- reg q, r, a, b, c; reg [3:0] v, w; reg [7:0] m [0:3]; wire n;
-- initial q = v[2:2] + v[9];
-- endmodule
abbrev source103 : SourceUnit
source103 = record {
  modules = (record {
    name = (codes "top");
    place = (at 1 8);
    parameters = ([]);
    heads = (PlainHeads ([]));
    items =
        ((RegItem (at 2 1) false None (record { name = (codes "q"); place = (at 2 5); content = NoContent } ∷ record { name = (codes "r"); place = (at 2 8); content = NoContent } ∷
        record { name = (codes "a"); place = (at 2 11); content = NoContent } ∷ record { name = (codes "b"); place = (at 2 14); content = NoContent } ∷
        record { name = (codes "c"); place = (at 2 17); content = NoContent } ∷ [])) ∷
        (RegItem (at 2 20) false (Some (record { place = (at 2 24); high = (Number (at 2 25) Plain (bits_of 32 3)); low = (Number (at 2 27) Plain (bits_of 32 0)) }))
        (record { name = (codes "v"); place = (at 2 30); content = NoContent } ∷ record { name = (codes "w"); place = (at 2 33); content = NoContent } ∷ [])) ∷
        (RegItem (at 2 36) false (Some (record { place = (at 2 40); high = (Number (at 2 41) Plain (bits_of 32 7)); low = (Number (at 2 43) Plain (bits_of 32 0)) }))
        (record {
          name = (codes "m");
          place = (at 2 46);
          content = (MemoryBounds (record {
            place = (at 2 48);
            high = (Number (at 2 49) Plain (bits_of 32 0));
            low = (Number (at 2 51) Plain (bits_of 32 3));
          }));
        } ∷ [])) ∷
        (WireItem (at 2 55) false None (record { name = (codes "n"); place = (at 2 60); value = None } ∷ [])) ∷
        (InitialItem (at 3 1) (BlockingStatement (at 3 9) (OneSelect (record { place = (at 3 9); name = (codes "q"); index = NoIndex })) None
        (Infixed (at 3 13) Add (Selected (at 3 13) (codes "v") (IndexRange (Number (at 3 15) Plain (bits_of 32 2)) (Number (at 3 17) Plain (bits_of 32 2))))
        (Selected (at 3 22) (codes "v") (IndexAt (Number (at 3 24) Plain (bits_of 32 9))))))) ∷
        []);
  } ∷ []);
}

abbrev pub Found103 : Type 0
Found103 = summary_of (flat source103 (codes "top") Usual) ≡ Ok (record {
  objects = (record { name = (codes "q"); kind = Var; width = 1; indexes = ([]); place = (at 2 5) } ∷
      record { name = (codes "r"); kind = Var; width = 1; indexes = ([]); place = (at 2 8) } ∷ record { name = (codes "a"); kind = Var; width = 1; indexes = ([]); place = (at 2 11) } ∷
      record { name = (codes "b"); kind = Var; width = 1; indexes = ([]); place = (at 2 14) } ∷ record { name = (codes "c"); kind = Var; width = 1; indexes = ([]); place = (at 2 17) } ∷
      record { name = (codes "v"); kind = Var; width = 4; indexes = (3 ∷ 0 ∷ []); place = (at 2 30) } ∷
      record { name = (codes "w"); kind = Var; width = 4; indexes = (3 ∷ 0 ∷ []); place = (at 2 33) } ∷ record { name = (codes "m"); kind = Word; width = 8; indexes = (0 ∷ []); place = (at 2 46) } ∷
      record { name = (codes "m"); kind = Word; width = 8; indexes = (1 ∷ []); place = (at 2 46) } ∷ record { name = (codes "m"); kind = Word; width = 8; indexes = (2 ∷ []); place = (at 2 46) } ∷
      record { name = (codes "m"); kind = Word; width = 8; indexes = (3 ∷ []); place = (at 2 46) } ∷ record { name = (codes "n"); kind = Net; width = 1; indexes = ([]); place = (at 2 60) } ∷ []);
  nodes = ([]);
  processes = (false ∷ []);
  joined = ([]);
})

found103 : Found103
found103 = refl

-- module top;
-- reg q, r, a, b, c; reg [3:0] v, w; reg [7:0] m [0:3]; wire n;
-- initial @(m[0]) q = 1;
-- endmodule
abbrev source104 : SourceUnit
source104 = record {
  modules = (record {
    name = (codes "top");
    place = (at 1 8);
    parameters = ([]);
    heads = (PlainHeads ([]));
    items =
        ((RegItem (at 2 1) false None (record { name = (codes "q"); place = (at 2 5); content = NoContent } ∷ record { name = (codes "r"); place = (at 2 8); content = NoContent } ∷
        record { name = (codes "a"); place = (at 2 11); content = NoContent } ∷ record { name = (codes "b"); place = (at 2 14); content = NoContent } ∷
        record { name = (codes "c"); place = (at 2 17); content = NoContent } ∷ [])) ∷
        (RegItem (at 2 20) false (Some (record { place = (at 2 24); high = (Number (at 2 25) Plain (bits_of 32 3)); low = (Number (at 2 27) Plain (bits_of 32 0)) }))
        (record { name = (codes "v"); place = (at 2 30); content = NoContent } ∷ record { name = (codes "w"); place = (at 2 33); content = NoContent } ∷ [])) ∷
        (RegItem (at 2 36) false (Some (record { place = (at 2 40); high = (Number (at 2 41) Plain (bits_of 32 7)); low = (Number (at 2 43) Plain (bits_of 32 0)) }))
        (record {
          name = (codes "m");
          place = (at 2 46);
          content = (MemoryBounds (record {
            place = (at 2 48);
            high = (Number (at 2 49) Plain (bits_of 32 0));
            low = (Number (at 2 51) Plain (bits_of 32 3));
          }));
        } ∷ [])) ∷
        (WireItem (at 2 55) false None (record { name = (codes "n"); place = (at 2 60); value = None } ∷ [])) ∷
        (InitialItem (at 3 1) (EventStatement (at 3 9) (OnEntries (record {
          edge = Any;
          select =
              record { place = (at 3 11); name = (codes "m"); index = (IndexAt (Number (at 3 13) Plain (bits_of 32 0))) };
        } ∷ []))
        (BlockingStatement (at 3 17) (OneSelect (record { place = (at 3 17); name = (codes "q"); index = NoIndex })) None (Number (at 3 21) Plain (bits_of 32 1))))) ∷
        []);
  } ∷ []);
}

abbrev pub Found104 : Type 0
Found104 = flat source104 (codes "top") Usual ≡ Err (faulty 3 11 WrongKind)

found104 : Found104
found104 = refl

-- module top;
-- reg q, r, a, b, c; reg [3:0] v, w; reg [7:0] m [0:3]; wire n;
-- initial wait (m[0]) q = 1;
-- endmodule
abbrev source105 : SourceUnit
source105 = record {
  modules = (record {
    name = (codes "top");
    place = (at 1 8);
    parameters = ([]);
    heads = (PlainHeads ([]));
    items =
        ((RegItem (at 2 1) false None (record { name = (codes "q"); place = (at 2 5); content = NoContent } ∷ record { name = (codes "r"); place = (at 2 8); content = NoContent } ∷
        record { name = (codes "a"); place = (at 2 11); content = NoContent } ∷ record { name = (codes "b"); place = (at 2 14); content = NoContent } ∷
        record { name = (codes "c"); place = (at 2 17); content = NoContent } ∷ [])) ∷
        (RegItem (at 2 20) false (Some (record { place = (at 2 24); high = (Number (at 2 25) Plain (bits_of 32 3)); low = (Number (at 2 27) Plain (bits_of 32 0)) }))
        (record { name = (codes "v"); place = (at 2 30); content = NoContent } ∷ record { name = (codes "w"); place = (at 2 33); content = NoContent } ∷ [])) ∷
        (RegItem (at 2 36) false (Some (record { place = (at 2 40); high = (Number (at 2 41) Plain (bits_of 32 7)); low = (Number (at 2 43) Plain (bits_of 32 0)) }))
        (record {
          name = (codes "m");
          place = (at 2 46);
          content = (MemoryBounds (record {
            place = (at 2 48);
            high = (Number (at 2 49) Plain (bits_of 32 0));
            low = (Number (at 2 51) Plain (bits_of 32 3));
          }));
        } ∷ [])) ∷
        (WireItem (at 2 55) false None (record { name = (codes "n"); place = (at 2 60); value = None } ∷ [])) ∷
        (InitialItem (at 3 1) (WaitStatement (at 3 9) (Selected (at 3 15) (codes "m") (IndexAt (Number (at 3 17) Plain (bits_of 32 0))))
        (BlockingStatement (at 3 21) (OneSelect (record { place = (at 3 21); name = (codes "q"); index = NoIndex })) None (Number (at 3 25) Plain (bits_of 32 1))))) ∷
        []);
  } ∷ []);
}

abbrev pub Found105 : Type 0
Found105 = flat source105 (codes "top") Usual ≡ Err (faulty 3 15 WrongKind)

found105 : Found105
found105 = refl

-- module top;
-- reg q, r, a, b, c; reg [3:0] v, w; reg [7:0] m [0:3]; wire n;
-- initial wait (v[m[0]]) q = 1;
-- endmodule
abbrev source106 : SourceUnit
source106 = record {
  modules = (record {
    name = (codes "top");
    place = (at 1 8);
    parameters = ([]);
    heads = (PlainHeads ([]));
    items =
        ((RegItem (at 2 1) false None (record { name = (codes "q"); place = (at 2 5); content = NoContent } ∷ record { name = (codes "r"); place = (at 2 8); content = NoContent } ∷
        record { name = (codes "a"); place = (at 2 11); content = NoContent } ∷ record { name = (codes "b"); place = (at 2 14); content = NoContent } ∷
        record { name = (codes "c"); place = (at 2 17); content = NoContent } ∷ [])) ∷
        (RegItem (at 2 20) false (Some (record { place = (at 2 24); high = (Number (at 2 25) Plain (bits_of 32 3)); low = (Number (at 2 27) Plain (bits_of 32 0)) }))
        (record { name = (codes "v"); place = (at 2 30); content = NoContent } ∷ record { name = (codes "w"); place = (at 2 33); content = NoContent } ∷ [])) ∷
        (RegItem (at 2 36) false (Some (record { place = (at 2 40); high = (Number (at 2 41) Plain (bits_of 32 7)); low = (Number (at 2 43) Plain (bits_of 32 0)) }))
        (record {
          name = (codes "m");
          place = (at 2 46);
          content = (MemoryBounds (record {
            place = (at 2 48);
            high = (Number (at 2 49) Plain (bits_of 32 0));
            low = (Number (at 2 51) Plain (bits_of 32 3));
          }));
        } ∷ [])) ∷
        (WireItem (at 2 55) false None (record { name = (codes "n"); place = (at 2 60); value = None } ∷ [])) ∷
        (InitialItem (at 3 1) (WaitStatement (at 3 9) (Selected (at 3 15) (codes "v") (IndexAt (Selected (at 3 17) (codes "m") (IndexAt (Number (at 3 19) Plain (bits_of 32 0))))))
        (BlockingStatement (at 3 24) (OneSelect (record { place = (at 3 24); name = (codes "q"); index = NoIndex })) None (Number (at 3 28) Plain (bits_of 32 1))))) ∷
        []);
  } ∷ []);
}

abbrev pub Found106 : Type 0
Found106 = flat source106 (codes "top") Usual ≡ Err (faulty 3 17 WrongKind)

found106 : Found106
found106 = refl

-- module top;
-- reg r; assign r = 1;
-- endmodule
abbrev source107 : SourceUnit
source107 = record {
  modules = (record {
    name = (codes "top");
    place = (at 1 8);
    parameters = ([]);
    heads = (PlainHeads ([]));
    items =
        ((RegItem (at 2 1) false None (record { name = (codes "r"); place = (at 2 5); content = NoContent } ∷ [])) ∷
        (AssignItem (at 2 8) (record { target = (OneSelect (record { place = (at 2 15); name = (codes "r"); index = NoIndex })); value = (Number (at 2 19) Plain (bits_of 32 1)) } ∷ [])) ∷
        []);
  } ∷ []);
}

abbrev pub Found107 : Type 0
Found107 = flat source107 (codes "top") Usual ≡ Err (faulty 2 15 WrongKind)

found107 : Found107
found107 = refl

-- module top;
-- reg r; wire a; and g(r, a);
-- endmodule
abbrev source108 : SourceUnit
source108 = record {
  modules = (record {
    name = (codes "top");
    place = (at 1 8);
    parameters = ([]);
    heads = (PlainHeads ([]));
    items =
        ((RegItem (at 2 1) false None (record { name = (codes "r"); place = (at 2 5); content = NoContent } ∷ [])) ∷
        (WireItem (at 2 8) false None (record { name = (codes "a"); place = (at 2 13); value = None } ∷ [])) ∷
        (GateItem (at 2 16) And (record {
          name = (Some (record { name = (codes "g"); place = (at 2 20) }));
          output = (OneSelect (record { place = (at 2 22); name = (codes "r"); index = NoIndex }));
          inputs = ((Selected (at 2 25) (codes "a") NoIndex) ∷ []);
        } ∷ [])) ∷
        []);
  } ∷ []);
}

abbrev pub Found108 : Type 0
Found108 = flat source108 (codes "top") Usual ≡ Err (faulty 2 22 WrongKind)

found108 : Found108
found108 = refl

-- module top;
-- parameter P = 1; initial P = 2;
-- endmodule
abbrev source109 : SourceUnit
source109 = record {
  modules = (record {
    name = (codes "top");
    place = (at 1 8);
    parameters = ([]);
    heads = (PlainHeads ([]));
    items =
        ((ParameterItem (record {
          place = (at 2 1);
          is_local = false;
          signed = false;
          range = None;
          parameters = (record { name = (codes "P"); place = (at 2 11); value = (Number (at 2 15) Plain (bits_of 32 1)) } ∷ []);
        })) ∷
        (InitialItem (at 2 18) (BlockingStatement (at 2 26) (OneSelect (record { place = (at 2 26); name = (codes "P"); index = NoIndex })) None (Number (at 2 30) Plain (bits_of 32 2)))) ∷
        []);
  } ∷ []);
}

abbrev pub Found109 : Type 0
Found109 = flat source109 (codes "top") Usual ≡ Err (faulty 2 26 WrongKind)

found109 : Found109
found109 = refl

-- what the definitions give of the texts above
abbrev pub Holds : Type 0
Holds = Found100 × Found101 × Found102 × Found103 × Found104 × Found105 × Found106 × Found107 × Found108 × Found109

pub holds : Holds
holds = (found100, found101, found102, found103, found104, found105, found106, found107, found108, found109)
