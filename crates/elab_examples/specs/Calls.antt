-- Small answers of the definitions that stand below the flat design.
use Rattle.std.specs.Prelude.{◌≡◌, refl, ℕ, ◌+◌, true, false, List, [], ◌∷◌, codes, Some, None, Ok, Err}
use Rattle.four_value.specs.Values.{bits_of}
use Rattle.four_value.specs.declared.logic.Bit.TheVariants.{Zero, X}
use Rattle.four_value.specs.declared.operator.BinaryOperator.TheVariants.{Add, Less, ShiftLeft}
use Rattle.v_tree.specs.declared.token.NumberForm.TheVariants.{Plain, Sized}
use Rattle.v_tree.specs.Trees.{SourceExpression, Number, Selected, Infixed, Concatenated, Prefixed, NoIndex, IndexAt, PlainHeads, ParameterItem, RegItem, NoContent, EventStatement, OnEntries}
use Rattle.v_tree.specs.Trees.{OneSelect, NullStatement, AlwaysItem, SourceStatement, BlockStatement, IfStatement, BlockingStatement}
use Rattle.four_value.specs.declared.operator.UnaryOperator.TheVariants.{Minus}
use Rattle.four_value.specs.declared.logic.Edge.TheVariants.{Any}
use Rattle.v_names.specs.Faults.{NoConstant, BadWidth, BadConnection}
use Rattle.v_names.specs.Scopes.{Scope, NetEntry, RegEntry}
use Rattle.v_names.specs.SizedTrees.{SizedBinary, SizedName}
use Rattle.v_width.specs.Sizes.{sized_expression}
use Rattle.v_ports.specs.Pieces.{cut_pieces}
use Rattle.v_ports.specs.JoinedObjects.{joined_objects}
use Rattle.v_comb.specs.CombinationalForm.{block_form, NetForm, ProcessForm, Star, NamesWaited}
use Rattle.v_elab.specs.declared.Mode.TheVariants.{Usual}
use Rattle.v_elab.specs.Parts.{Part, ProcessPart, nodes_of_part, processes_of_part}
use Rattle.v_elab.specs.Flat.{flat}
use Rattle.elab_examples.specs.Build.{at, parts, steps, faulty}

-- object 2 is joined into 1, and 1 into 0
abbrev pub Joins : Type 0
Joins = joined_objects 4 (record { formal = 2; actual = Some 1; place = at 1 1 } ∷ record { formal = 3; actual = None; place = at 1 2 } ∷ record { formal = 1; actual = Some 0; place = at 1 3 } ∷ [])
    ≡ Ok (0 ∷ 0 ∷ 0 ∷ 3 ∷ [])

joins : Joins
joins = refl

-- one port is connected twice
abbrev pub JoinsTwice : Type 0
JoinsTwice = joined_objects 2 (record { formal = 1; actual = Some 0; place = at 1 1 } ∷ record { formal = 1; actual = None; place = at 1 2 } ∷ []) ≡ Err
    (record { place = at 1 2; wrong = BadConnection })

joins_twice : JoinsTwice
joins_twice = refl

-- eight bits with drivers of [3:2] and [5]
abbrev pub Cut : Type 0
Cut = cut_pieces 8 (record { low = 5; width = 1; place = at 1 1 } ∷ record { low = 2; width = 2; place = at 1 2 } ∷ [])
    ≡ Ok (record { low = 0; width = 2; driver = None } ∷ record { low = 2; width = 2; driver = Some 1 } ∷ record { low = 4; width = 1; driver = None } ∷
    record { low = 5; width = 1; driver = Some 0 } ∷ record { low = 6; width = 2; driver = None } ∷ [])

cut : Cut
cut = refl

abbrev pub CutTwice : Type 0
CutTwice = cut_pieces 8 (record { low = 3; width = 2; place = at 1 1 } ∷ record { low = 0; width = 8; place = at 1 2 } ∷ []) ≡ Err (record { place = at 1 2; bit = 3 })

cut_twice : CutTwice
cut_twice = refl

-- a four bit net and a signed variable of two bits
abbrev pub scope : Scope
scope = record { name = codes "a"; entry = NetEntry (record { ranged = true; high = 3; low = 0 }) false } ∷
    record { name = codes "s"; entry = RegEntry (record { ranged = true; high = 1; low = 0 }) true } ∷ []

abbrev pub name : ℕ → List ℕ → SourceExpression
name column n = Selected (at 1 column) n NoIndex

-- a + s in a context of six bits: unsigned, and each part of six bits
abbrev pub SizedSum : Type 0
SizedSum = sized_expression scope (Infixed (at 1 1) Add (name 1 (codes "a")) (name 3 (codes "s"))) 6 true
    ≡ Ok (SizedBinary 6 false Add (SizedName 6 false (codes "a")) (SizedName 6 false (codes "s")))

sized_sum : SizedSum
sized_sum = refl

-- s < s compares two bits as signed and gives one unsigned bit
abbrev pub Compared : Type 0
Compared = sized_expression scope (Infixed (at 1 1) Less (name 1 (codes "s")) (name 3 (codes "s"))) 4 true
    ≡ Ok (SizedBinary 4 false Less (SizedName 2 true (codes "s")) (SizedName 2 true (codes "s")))

compared : Compared
compared = refl

-- an unsized number is no part of a concatenation
abbrev pub UnsizedPart : Type 0
UnsizedPart = sized_expression scope (Concatenated (at 1 1) (parts (name 2 (codes "a") ∷ Number (at 1 4) Plain (bits_of 32 1) ∷ []))) 1 true ≡ Err (record { place = at 1 4; wrong = BadWidth })

unsized_part : UnsizedPart
unsized_part = refl

-- begin y = a; if (b) y = c; end
abbrev pub body : SourceStatement
body = BlockStatement (at 1 1) (steps (
    BlockingStatement (at 1 2) (OneSelect (record { place = at 1 2; name = codes "y"; index = NoIndex })) None (name 3 (codes "a")) ∷
    IfStatement (at 1 4) (name 5 (codes "b")) (BlockingStatement (at 1 6) (OneSelect (record { place = at 1 6; name = codes "y"; index = NoIndex })) None (name 7 (codes "c"))) ∷ []))

abbrev pub FormOfStar : Type 0
FormOfStar = block_form body Star ≡ NetForm (codes "y" ∷ []) (codes "a" ∷ codes "b" ∷ codes "c" ∷ [])

form_of_star : FormOfStar
form_of_star = refl

abbrev pub FormOfList : Type 0
FormOfList = block_form body (NamesWaited (codes "a" ∷ codes "b" ∷ [])) ≡ ProcessForm

form_of_list : FormOfList
form_of_list = refl

-- a negative index of an entry is no constant of its place
abbrev pub NegativeIndex : Type 0
NegativeIndex = flat (record {
  modules = record {
    name = codes "top";
    place = at 1 8;
    parameters = [];
    heads = PlainHeads [];
    items =
        RegItem (at 2 1) false (Some (record { place = at 2 5; high = Number (at 2 6) Plain (bits_of 32 3); low = Number (at 2 8) Plain (bits_of 32 0) }))
        (record { name = codes "v"; place = at 2 11; content = NoContent } ∷ []) ∷
        AlwaysItem (at 3 1) (EventStatement (at 3 8) (OnEntries (record {
          edge = Any;
          select =
              record { place = at 3 10; name = codes "v"; index = IndexAt (Prefixed (at 3 12) Minus (Number (at 3 13) Plain (bits_of 32 1))) };
        } ∷ [])) (NullStatement (at 3 16))) ∷ [];
  } ∷ [];
})
    (codes "top") Usual ≡ Err (faulty 3 12 NoConstant)

negative_index : NegativeIndex
negative_index = refl

-- parameter [7:0] P = 4'bx000 << 1; its value has an x in the eight bits of its context
abbrev pub UnknownParameter : Type 0
UnknownParameter = flat (record {
  modules = record {
    name = codes "top";
    place = at 1 8;
    parameters = [];
    heads = PlainHeads [];
    items =
        ParameterItem (record {
          place = at 1 13;
          is_local = false;
          signed = false;
          range = Some (record { place = at 1 23; high = Number (at 1 24) Plain (bits_of 32 7); low = Number (at 1 26) Plain (bits_of 32 0) });
          parameters = record {
            name = codes "P";
            place = at 1 29;
            value = Infixed (at 1 33) ShiftLeft (Number (at 1 33) Sized (Zero ∷ Zero ∷ Zero ∷ X ∷ []))
                (Number (at 1 43) Plain (bits_of 32 1));
          } ∷ [];
        }) ∷ [];
  } ∷ [];
})
    (codes "top") Usual ≡ Err (faulty 1 33 NoConstant)

unknown_parameter : UnknownParameter
unknown_parameter = refl

-- in the walk a block that by itself is of combinational form counts neither as a node nor as a process
abbrev pub UncountedBlock : Type 0
UncountedBlock = nodes_of_part block + processes_of_part block ≡ 0
  where
    block : Part
    block = ProcessPart (record { always = true; place = at 1 1; path = []; scope = []; body = body; targets = Some (codes "y" ∷ []) })

uncounted_block : UncountedBlock
uncounted_block = refl

-- what the definitions give of the texts above
abbrev pub Holds : Type 0
Holds = Joins × JoinsTwice × Cut × CutTwice × SizedSum × Compared × UnsizedPart × FormOfStar × FormOfList × NegativeIndex × UnknownParameter × UncountedBlock

pub holds : Holds
holds = (joins, joins_twice, cut, cut_twice, sized_sum, compared, unsized_part, form_of_star, form_of_list, negative_index, unknown_parameter, uncounted_block)
