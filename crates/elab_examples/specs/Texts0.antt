use Rattle.std.specs.Prelude.{◌≡◌, refl, false, [], ◌∷◌, Some, None, Err, codes}
use Rattle.four_value.specs.Values.{bits_of}
use Rattle.four_value.specs.declared.logic.Edge.TheVariants.{Any}
use Rattle.v_tree.specs.declared.token.NumberForm.TheVariants.{Plain}
use Rattle.v_tree.specs.Trees.{Number, Selected, NoIndex, IndexAt, OneSelect, OnEntries, EventStatement, DelayStatement, BlockingStatement, NoContent, MemoryBounds, WireItem, RegItem, AssignItem}
use Rattle.v_tree.specs.Trees.{InitialItem, PlainHeads, SourceUnit}
use Rattle.v_elab.specs.declared.Mode.TheVariants.{Usual}
use Rattle.v_names.specs.Faults.{UnknownName, DeclaredTwice}
use Rattle.v_elab.specs.Refusals.{NoTop}
use Rattle.v_elab.specs.Flat.{flat}
use Rattle.elab_examples.specs.Build.{at, faulty}

-- the empty text
abbrev source0 : SourceUnit
source0 = record { modules = ([]) }

abbrev pub Found0 : Type 0
Found0 = flat source0 (codes "top") Usual ≡ Err NoTop

found0 : Found0
found0 = refl

-- module t; endmodule
abbrev source1 : SourceUnit
source1 = record {
  modules = (record {
    name = (codes "t");
    place = (at 1 8);
    parameters = ([]);
    heads = (PlainHeads ([]));
    items =
        ([]);
  } ∷ []);
}

abbrev pub Found1 : Type 0
Found1 = flat source1 (codes "top") Usual ≡ Err NoTop

found1 : Found1
found1 = refl

-- module top; endmodule module top; endmodule
abbrev source2 : SourceUnit
source2 = record {
  modules = (record {
    name = (codes "top");
    place = (at 1 8);
    parameters = ([]);
    heads = (PlainHeads ([]));
    items =
        ([]);
  } ∷ record {
    name = (codes "top");
    place = (at 1 30);
    parameters = ([]);
    heads = (PlainHeads ([]));
    items =
        ([]);
  } ∷ []);
}

abbrev pub Found2 : Type 0
Found2 = flat source2 (codes "top") Usual ≡ Err (faulty 1 30 DeclaredTwice)

found2 : Found2
found2 = refl

-- module a; endmodule module a; endmodule module top; assign zz = 1; endmodule
abbrev source3 : SourceUnit
source3 = record {
  modules = (record {
    name = (codes "a");
    place = (at 1 8);
    parameters = ([]);
    heads = (PlainHeads ([]));
    items =
        ([]);
  } ∷ record {
    name = (codes "a");
    place = (at 1 28);
    parameters = ([]);
    heads = (PlainHeads ([]));
    items =
        ([]);
  } ∷ record {
    name = (codes "top");
    place = (at 1 48);
    parameters = ([]);
    heads = (PlainHeads ([]));
    items =
        ((AssignItem (at 1 53) (record { target = (OneSelect (record { place = (at 1 60); name = (codes "zz"); index = NoIndex })); value = (Number (at 1 65) Plain (bits_of 32 1)) } ∷ [])) ∷
        []);
  } ∷ []);
}

abbrev pub Found3 : Type 0
Found3 = flat source3 (codes "top") Usual ≡ Err (faulty 1 28 DeclaredTwice)

found3 : Found3
found3 = refl

-- module top;
-- reg q, r, a, b, c; reg [3:0] v, w; reg [7:0] m [0:3]; wire n;
-- initial zz = 1;
-- endmodule
abbrev source4 : SourceUnit
source4 = record {
  modules = (record {
    name = (codes "top");
    place = (at 1 8);
    parameters = ([]);
    heads = (PlainHeads ([]));
    items =
        ((RegItem (at 2 1) false None (record { name = (codes "q"); place = (at 2 5); content = NoContent } ∷ record { name = (codes "r"); place = (at 2 8); content = NoContent } ∷
        record { name = (codes "a"); place = (at 2 11); content = NoContent } ∷ record { name = (codes "b"); place = (at 2 14); content = NoContent } ∷
        record { name = (codes "c"); place = (at 2 17); content = NoContent } ∷ [])) ∷
        (RegItem (at 2 20) false (Some (record { place = (at 2 24); high = (Number (at 2 25) Plain (bits_of 32 3)); low = (Number (at 2 27) Plain (bits_of 32 0)) }))
        (record { name = (codes "v"); place = (at 2 30); content = NoContent } ∷ record { name = (codes "w"); place = (at 2 33); content = NoContent } ∷ [])) ∷
        (RegItem (at 2 36) false (Some (record { place = (at 2 40); high = (Number (at 2 41) Plain (bits_of 32 7)); low = (Number (at 2 43) Plain (bits_of 32 0)) }))
        (record {
          name = (codes "m");
          place = (at 2 46);
          content = (MemoryBounds (record {
            place = (at 2 48);
            high = (Number (at 2 49) Plain (bits_of 32 0));
            low = (Number (at 2 51) Plain (bits_of 32 3));
          }));
        } ∷ [])) ∷
        (WireItem (at 2 55) false None (record { name = (codes "n"); place = (at 2 60); value = None } ∷ [])) ∷
        (InitialItem (at 3 1) (BlockingStatement (at 3 9) (OneSelect (record { place = (at 3 9); name = (codes "zz"); index = NoIndex })) None (Number (at 3 14) Plain (bits_of 32 1)))) ∷
        []);
  } ∷ []);
}

abbrev pub Found4 : Type 0
Found4 = flat source4 (codes "top") Usual ≡ Err (faulty 3 9 UnknownName)

found4 : Found4
found4 = refl

-- module top;
-- reg q, r, a, b, c; reg [3:0] v, w; reg [7:0] m [0:3]; wire n;
-- initial q = zz;
-- endmodule
abbrev source5 : SourceUnit
source5 = record {
  modules = (record {
    name = (codes "top");
    place = (at 1 8);
    parameters = ([]);
    heads = (PlainHeads ([]));
    items =
        ((RegItem (at 2 1) false None (record { name = (codes "q"); place = (at 2 5); content = NoContent } ∷ record { name = (codes "r"); place = (at 2 8); content = NoContent } ∷
        record { name = (codes "a"); place = (at 2 11); content = NoContent } ∷ record { name = (codes "b"); place = (at 2 14); content = NoContent } ∷
        record { name = (codes "c"); place = (at 2 17); content = NoContent } ∷ [])) ∷
        (RegItem (at 2 20) false (Some (record { place = (at 2 24); high = (Number (at 2 25) Plain (bits_of 32 3)); low = (Number (at 2 27) Plain (bits_of 32 0)) }))
        (record { name = (codes "v"); place = (at 2 30); content = NoContent } ∷ record { name = (codes "w"); place = (at 2 33); content = NoContent } ∷ [])) ∷
        (RegItem (at 2 36) false (Some (record { place = (at 2 40); high = (Number (at 2 41) Plain (bits_of 32 7)); low = (Number (at 2 43) Plain (bits_of 32 0)) }))
        (record {
          name = (codes "m");
          place = (at 2 46);
          content = (MemoryBounds (record {
            place = (at 2 48);
            high = (Number (at 2 49) Plain (bits_of 32 0));
            low = (Number (at 2 51) Plain (bits_of 32 3));
          }));
        } ∷ [])) ∷
        (WireItem (at 2 55) false None (record { name = (codes "n"); place = (at 2 60); value = None } ∷ [])) ∷
        (InitialItem (at 3 1) (BlockingStatement (at 3 9) (OneSelect (record { place = (at 3 9); name = (codes "q"); index = NoIndex })) None (Selected (at 3 13) (codes "zz") NoIndex))) ∷
        []);
  } ∷ []);
}

abbrev pub Found5 : Type 0
Found5 = flat source5 (codes "top") Usual ≡ Err (faulty 3 13 UnknownName)

found5 : Found5
found5 = refl

-- module top;
-- reg q, r, a, b, c; reg [3:0] v, w; reg [7:0] m [0:3]; wire n;
-- initial v[zz] = 1;
-- endmodule
abbrev source6 : SourceUnit
source6 = record {
  modules = (record {
    name = (codes "top");
    place = (at 1 8);
    parameters = ([]);
    heads = (PlainHeads ([]));
    items =
        ((RegItem (at 2 1) false None (record { name = (codes "q"); place = (at 2 5); content = NoContent } ∷ record { name = (codes "r"); place = (at 2 8); content = NoContent } ∷
        record { name = (codes "a"); place = (at 2 11); content = NoContent } ∷ record { name = (codes "b"); place = (at 2 14); content = NoContent } ∷
        record { name = (codes "c"); place = (at 2 17); content = NoContent } ∷ [])) ∷
        (RegItem (at 2 20) false (Some (record { place = (at 2 24); high = (Number (at 2 25) Plain (bits_of 32 3)); low = (Number (at 2 27) Plain (bits_of 32 0)) }))
        (record { name = (codes "v"); place = (at 2 30); content = NoContent } ∷ record { name = (codes "w"); place = (at 2 33); content = NoContent } ∷ [])) ∷
        (RegItem (at 2 36) false (Some (record { place = (at 2 40); high = (Number (at 2 41) Plain (bits_of 32 7)); low = (Number (at 2 43) Plain (bits_of 32 0)) }))
        (record {
          name = (codes "m");
          place = (at 2 46);
          content = (MemoryBounds (record {
            place = (at 2 48);
            high = (Number (at 2 49) Plain (bits_of 32 0));
            low = (Number (at 2 51) Plain (bits_of 32 3));
          }));
        } ∷ [])) ∷
        (WireItem (at 2 55) false None (record { name = (codes "n"); place = (at 2 60); value = None } ∷ [])) ∷
        (InitialItem (at 3 1) (BlockingStatement (at 3 9) (OneSelect (record { place = (at 3 9); name = (codes "v"); index = (IndexAt (Selected (at 3 11) (codes "zz") NoIndex)) })) None
        (Number (at 3 17) Plain (bits_of 32 1)))) ∷
        []);
  } ∷ []);
}

abbrev pub Found6 : Type 0
Found6 = flat source6 (codes "top") Usual ≡ Err (faulty 3 11 UnknownName)

found6 : Found6
found6 = refl

-- module top;
-- reg q, r, a, b, c; reg [3:0] v, w; reg [7:0] m [0:3]; wire n;
-- initial @(zz) q = 1;
-- endmodule
abbrev source7 : SourceUnit
source7 = record {
  modules = (record {
    name = (codes "top");
    place = (at 1 8);
    parameters = ([]);
    heads = (PlainHeads ([]));
    items =
        ((RegItem (at 2 1) false None (record { name = (codes "q"); place = (at 2 5); content = NoContent } ∷ record { name = (codes "r"); place = (at 2 8); content = NoContent } ∷
        record { name = (codes "a"); place = (at 2 11); content = NoContent } ∷ record { name = (codes "b"); place = (at 2 14); content = NoContent } ∷
        record { name = (codes "c"); place = (at 2 17); content = NoContent } ∷ [])) ∷
        (RegItem (at 2 20) false (Some (record { place = (at 2 24); high = (Number (at 2 25) Plain (bits_of 32 3)); low = (Number (at 2 27) Plain (bits_of 32 0)) }))
        (record { name = (codes "v"); place = (at 2 30); content = NoContent } ∷ record { name = (codes "w"); place = (at 2 33); content = NoContent } ∷ [])) ∷
        (RegItem (at 2 36) false (Some (record { place = (at 2 40); high = (Number (at 2 41) Plain (bits_of 32 7)); low = (Number (at 2 43) Plain (bits_of 32 0)) }))
        (record {
          name = (codes "m");
          place = (at 2 46);
          content = (MemoryBounds (record {
            place = (at 2 48);
            high = (Number (at 2 49) Plain (bits_of 32 0));
            low = (Number (at 2 51) Plain (bits_of 32 3));
          }));
        } ∷ [])) ∷
        (WireItem (at 2 55) false None (record { name = (codes "n"); place = (at 2 60); value = None } ∷ [])) ∷
        (InitialItem (at 3 1) (EventStatement (at 3 9) (OnEntries (record { edge = Any; select = record { place = (at 3 11); name = (codes "zz"); index = NoIndex } } ∷ []))
        (BlockingStatement (at 3 15) (OneSelect (record { place = (at 3 15); name = (codes "q"); index = NoIndex })) None (Number (at 3 19) Plain (bits_of 32 1))))) ∷
        []);
  } ∷ []);
}

abbrev pub Found7 : Type 0
Found7 = flat source7 (codes "top") Usual ≡ Err (faulty 3 11 UnknownName)

found7 : Found7
found7 = refl

-- module top;
-- reg q, r, a, b, c; reg [3:0] v, w; reg [7:0] m [0:3]; wire n;
-- initial #zz q = 1;
-- endmodule
abbrev source8 : SourceUnit
source8 = record {
  modules = (record {
    name = (codes "top");
    place = (at 1 8);
    parameters = ([]);
    heads = (PlainHeads ([]));
    items =
        ((RegItem (at 2 1) false None (record { name = (codes "q"); place = (at 2 5); content = NoContent } ∷ record { name = (codes "r"); place = (at 2 8); content = NoContent } ∷
        record { name = (codes "a"); place = (at 2 11); content = NoContent } ∷ record { name = (codes "b"); place = (at 2 14); content = NoContent } ∷
        record { name = (codes "c"); place = (at 2 17); content = NoContent } ∷ [])) ∷
        (RegItem (at 2 20) false (Some (record { place = (at 2 24); high = (Number (at 2 25) Plain (bits_of 32 3)); low = (Number (at 2 27) Plain (bits_of 32 0)) }))
        (record { name = (codes "v"); place = (at 2 30); content = NoContent } ∷ record { name = (codes "w"); place = (at 2 33); content = NoContent } ∷ [])) ∷
        (RegItem (at 2 36) false (Some (record { place = (at 2 40); high = (Number (at 2 41) Plain (bits_of 32 7)); low = (Number (at 2 43) Plain (bits_of 32 0)) }))
        (record {
          name = (codes "m");
          place = (at 2 46);
          content = (MemoryBounds (record {
            place = (at 2 48);
            high = (Number (at 2 49) Plain (bits_of 32 0));
            low = (Number (at 2 51) Plain (bits_of 32 3));
          }));
        } ∷ [])) ∷
        (WireItem (at 2 55) false None (record { name = (codes "n"); place = (at 2 60); value = None } ∷ [])) ∷
        (InitialItem (at 3 1) (DelayStatement (at 3 9) (Selected (at 3 10) (codes "zz") NoIndex)
        (BlockingStatement (at 3 13) (OneSelect (record { place = (at 3 13); name = (codes "q"); index = NoIndex })) None (Number (at 3 17) Plain (bits_of 32 1))))) ∷
        []);
  } ∷ []);
}

abbrev pub Found8 : Type 0
Found8 = flat source8 (codes "top") Usual ≡ Err (faulty 3 10 UnknownName)

found8 : Found8
found8 = refl

-- module top;
-- assign zz = 1;
-- endmodule
abbrev source9 : SourceUnit
source9 = record {
  modules = (record {
    name = (codes "top");
    place = (at 1 8);
    parameters = ([]);
    heads = (PlainHeads ([]));
    items =
        ((AssignItem (at 2 1) (record { target = (OneSelect (record { place = (at 2 8); name = (codes "zz"); index = NoIndex })); value = (Number (at 2 13) Plain (bits_of 32 1)) } ∷ [])) ∷
        []);
  } ∷ []);
}

abbrev pub Found9 : Type 0
Found9 = flat source9 (codes "top") Usual ≡ Err (faulty 2 8 UnknownName)

found9 : Found9
found9 = refl

-- what the definitions give of the texts above
abbrev pub Holds : Type 0
Holds = Found0 × Found1 × Found2 × Found3 × Found4 × Found5 × Found6 × Found7 × Found8 × Found9

pub holds : Holds
holds = (found0, found1, found2, found3, found4, found5, found6, found7, found8, found9)
