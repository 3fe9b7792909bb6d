-- Sizes and signs of expressions, and constant values (IEEE 1364-2001, clause 4.4 and clause 4.5; selects by clause 4.2; constant expressions by clause 4).
use Rattle.std.specs.Prelude.{ℕ, ◌+◌, ◌*◌, max, Bool, true, false, not, ◌&&◌, ◌||◌, List, [], ◌∷◌, ◌++◌, length, filter, Option, Some, None, nat_eq, nat_lt, nat_le, if◌then◌else◌}
use Rattle.std.specs.List.{list_all, list_any}
use Rattle.vf_base.specs.Base.{SourcePlace}
use Rattle.four_value.specs.Bits.{is_one}
use Rattle.four_value.specs.Values.{LogicValue, top_bit, natural_number}
use Rattle.four_value.specs.declared.logic.Bit.TheVariants.{Zero}
use Rattle.v_design.specs.Expressions.{value_of, no_values}
use Rattle.v_design.specs.Sized.{span, most_bits, UnarySizing, OperandWithWhole, OperandAlone, unary_sizing, BinarySizing, BothWithWhole, LeftWithWhole, BothTogether, EachAlone, binary_sizing}
use Rattle.four_value.specs.declared.operator.UnaryOperator.{UnaryOperator}
use Rattle.four_value.specs.declared.operator.BinaryOperator.{BinaryOperator}
use Rattle.v_tree.specs.declared.token.NumberForm.{NumberForm}
use Rattle.v_tree.specs.declared.token.NumberForm.TheVariants.{Plain, Unsized, Sized, UnsizedSigned, SizedSigned}
use Rattle.v_tree.specs.Trees.{Identifier, SourceExpression, Number, Selected, Parenthesised, Prefixed, Infixed, Chosen, Concatenated, Replicated, SourceIndex, NoIndex, IndexAt, IndexRange}
use Rattle.v_tree.specs.Trees.{SourceExpressions, no_parts, more_parts, place_of_expression, names_in}
use Rattle.v_names.specs.Faults.{Wrong, BadWidth, WrongKind, Fault, fault_at}
use Rattle.v_names.specs.Scopes.{SignedValue, DeclaredRange, ScopeEntry, ParameterEntry, RefusedParameter, WaitingParameter, NetEntry, RegEntry, MemoryEntry, GateEntry, InstanceEntry, Scope}
use Rattle.v_names.specs.Scopes.{looked_up, range_width, is_known}
use Rattle.v_names.specs.SizedTrees.{SizedExpression, SizedConstant, SizedName, SizedBit, SizedPart, SizedWord, SizedUnary, SizedBinary, SizedChoice, SizedConcatenation, SizedReplication}
use Rattle.v_names.specs.SizedTrees.{SizedExpressions, no_sized, more_sized, Holders, over_objects}

-- the size that an expression has by itself, and whether it is signed
pub record Size : Type 0 where
  pub width : ℕ
  pub signed : Bool

-- what an expression is, read in a scope
pub record Reading : Type 0 where
  -- none where it is refused
  pub size : Option Size
  -- what is wrong with its size; it stands together with what the expression is sized with
  pub here : List Fault
  -- what is wrong with the parts that are sized apart from it
  pub inside : List Fault
  -- whether it has a size, and all its parts have
  pub complete : Bool
  -- the expression at a width and a sign
  pub tree : ℕ → Bool → SizedExpression

-- Groups of expressions that are sized together

abbrev pub is_wrong_kind : Fault → Bool
is_wrong_kind fault = wrong_kind fault.wrong
  where
    wrong_kind : Wrong → Bool
    wrong_kind WrongKind = true
    wrong_kind _ = false

abbrev pub is_bad_width : Fault → Bool
is_bad_width fault = bad_width fault.wrong
  where
    bad_width : Wrong → Bool
    bad_width BadWidth = true
    bad_width _ = false

-- the faults of a group: no width is bad where a name of it is of the wrong kind
abbrev pub group_faults : List Fault → List Fault → List Fault
group_faults here inside = kept (list_any is_wrong_kind (here ++ inside)) ++ inside
  where
    kept : Bool → List Fault
    kept true = filter (λ fault. not (is_bad_width fault)) here
    kept false = here

-- the faults of an expression that is sized alone
abbrev pub alone_faults : Reading → List Fault
alone_faults reading = group_faults reading.here reading.inside

-- the faults of two expressions that are sized together
abbrev pub together_faults : Reading → Reading → List Fault
together_faults one other = group_faults (one.here ++ other.here) (one.inside ++ other.inside)

-- the size of two expressions that are sized together: the larger width, and signed if both are
abbrev pub larger_size : Option Size → Option Size → Option Size
larger_size None other = None
larger_size (Some one) None = None
larger_size (Some one) (Some other) = Some (record { width = max one.width other.width; signed = one.signed && other.signed })

-- a size, one unsigned bit where there is none
abbrev pub size_or_bit : Option Size → Size
size_or_bit None = record { width = 1; signed = false }
size_or_bit (Some size) = size

abbrev pub one_bit : Option Size
one_bit = Some (record { width = 1; signed = false })

-- an expression's tree at the size of a group
abbrev pub tree_at : Reading → Option Size → SizedExpression
tree_at reading size = reading.tree (size_or_bit size).width (size_or_bit size).signed

-- its tree where it is sized alone
abbrev pub tree_alone : Reading → SizedExpression
tree_alone reading = tree_at reading reading.size

-- its tree in a context of a width: the larger of both, with its own sign
abbrev pub tree_in : ℕ → Reading → SizedExpression
tree_in width reading = reading.tree (max width (size_or_bit reading.size).width) (size_or_bit reading.size).signed

-- Constants

-- nothing holds a name
abbrev pub no_holders : Holders
no_holders = record { vector = λ name. record { high = 0; low = 0; pieces = [] }; memory = λ name. record { first = 0; last = 0; width = 0; words = [] } }

-- the value of an expression without names
abbrev pub constant_value : SizedExpression → LogicValue
constant_value tree = value_of no_values (over_objects no_holders tree)

abbrev pub is_empty : {A : Type 0} → List A → Bool
is_empty [] = true
is_empty (x ∷ xs) = false

abbrev pub value_if : Bool → Option Size → Bool → SizedExpression → Option SignedValue
value_if true (Some size) signed tree = Some (record { value = constant_value tree; signed = signed })
value_if true None signed tree = None
value_if false size signed tree = None

-- whether each name in an expression is a parameter with a value
abbrev pub all_known : Scope → SourceExpression → Bool
all_known scope e = list_all (λ name. is_known (looked_up scope name)) (names_in e)

-- the value of a constant in a context of a width, none where sizes or kinds refuse it or a part of it
abbrev pub constant_reading : Scope → ℕ → SourceExpression → Reading → Option SignedValue
constant_reading scope width e reading = value_if (all_known scope e && is_empty (alone_faults reading) && reading.complete) reading.size (size_or_bit reading.size).signed (tree_in width reading)

abbrev pub number_or : ℕ → Option ℕ → ℕ
number_or default None = default
number_or default (Some n) = n

-- the number that a constant gives, none where there is none
abbrev pub natural_constant : Option SignedValue → Option ℕ
natural_constant None = None
natural_constant (Some c) = natural_number c.signed c.value

-- Numbers and names

-- a plain decimal is signed where its top bit is 0, a based number where it has an `s`
abbrev pub is_signed_number : NumberForm → LogicValue → Bool
is_signed_number Plain value = not (is_one (top_bit value))
is_signed_number Unsized value = false
is_signed_number Sized value = false
is_signed_number UnsizedSigned value = true
is_signed_number SizedSigned value = true

-- what is refused has no size, and a bit 0 for a tree
abbrev pub refused_tree : ℕ → Bool → SizedExpression
refused_tree width signed = SizedConstant width signed (Zero ∷ [])

abbrev pub refused_reading : List Fault → List Fault → Reading
refused_reading here inside = record { size = None; here = here; inside = inside; complete = false; tree = refused_tree }

-- a name that is used as what it isn't
abbrev pub wrong_reading : SourcePlace → List Fault → Reading
wrong_reading place inside = refused_reading (fault_at place WrongKind ∷ []) inside

abbrev pub sized_if : Bool → SourcePlace → Size → Bool → List Fault → (ℕ → Bool → SizedExpression) → Reading
sized_if true place size complete inside tree = record { size = Some size; here = []; inside = inside; complete = complete; tree = tree }
sized_if false place size complete inside tree = refused_reading (fault_at place BadWidth ∷ []) inside

-- a size that is over the most, or 0, is refused; it is complete where its parts are
abbrev pub sized_reading : SourcePlace → ℕ → Bool → Bool → List Fault → (ℕ → Bool → SizedExpression) → Reading
sized_reading place width signed complete inside tree =
    sized_if (nat_le 1 width && nat_le width most_bits) place (record { width = width; signed = signed }) complete inside tree

abbrev pub number_reading : SourcePlace → NumberForm → LogicValue → Reading
number_reading place form value = sized_reading place (length value) (is_signed_number form value) true [] (λ width signed. SizedConstant width signed value)

-- one unsigned bit 0, as which a parameter without a value counts
abbrev pub bit_zero_reading : Reading
bit_zero_reading = record { size = one_bit; here = []; inside = []; complete = true; tree = refused_tree }

-- a whole name
abbrev pub name_reading : Option ScopeEntry → SourcePlace → Identifier → Reading
name_reading None place name = refused_reading [] []
name_reading (Some (ParameterEntry value signed)) place name = sized_reading place (length value) signed true [] (λ width whole. SizedConstant width whole value)
name_reading (Some RefusedParameter) place name = bit_zero_reading
name_reading (Some WaitingParameter) place name = bit_zero_reading
name_reading (Some (NetEntry range signed)) place name = sized_reading place (range_width range) signed true [] (λ width whole. SizedName width whole name)
name_reading (Some (RegEntry range signed)) place name = sized_reading place (range_width range) signed true [] (λ width whole. SizedName width whole name)
name_reading (Some (MemoryEntry range first last signed)) place name = wrong_reading place []
name_reading (Some GateEntry) place name = wrong_reading place []
name_reading (Some InstanceEntry) place name = wrong_reading place []

-- a bit of a vector: a scalar has none
abbrev pub bit_reading : Bool → SourcePlace → Identifier → Reading → Reading
bit_reading true place name index = record { size = one_bit; here = []; inside = alone_faults index; complete = index.complete; tree = λ width whole. SizedBit width whole name (tree_alone index) }
bit_reading false place name index = wrong_reading place (alone_faults index)

-- a name with an index: a bit of a vector or a word of a memory
abbrev pub indexed_reading : Option ScopeEntry → SourcePlace → Identifier → Reading → Reading
indexed_reading None place name index = refused_reading [] (alone_faults index)
indexed_reading (Some (NetEntry range signed)) place name index = bit_reading range.ranged place name index
indexed_reading (Some (RegEntry range signed)) place name index = bit_reading range.ranged place name index
indexed_reading (Some (MemoryEntry range first last signed)) place name index = sized_reading place (range_width range) signed index.complete (alone_faults index)
    (λ width whole. SizedWord width whole name (tree_alone index))
indexed_reading _ place name index = wrong_reading place (alone_faults index)

-- whether a part's bounds run as its declaration's do; equal bounds of a part fit either way
abbrev pub runs_alike : DeclaredRange → ℕ → ℕ → Bool
runs_alike range from to = nat_eq from to || (if nat_lt range.high range.low then nat_lt from to else nat_lt to from)

abbrev pub part_if : Bool → SourcePlace → Identifier → List Fault → ℕ → ℕ → Reading
part_if true place name inside from to = sized_reading place (span from to) false true inside (λ width whole. SizedPart width whole name from to)
part_if false place name inside from to = wrong_reading place inside

-- a part of a vector between two bounds: it runs as the declaration does, and a scalar has none
abbrev pub part_between : DeclaredRange → SourcePlace → Identifier → List Fault → Option ℕ → Option ℕ → Reading
part_between range place name inside None to = refused_reading [] inside
part_between range place name inside (Some from) None = refused_reading [] inside
part_between range place name inside (Some from) (Some to) = part_if (runs_alike range from to) place name inside from to

abbrev pub part_reading : Bool → DeclaredRange → SourcePlace → Identifier → List Fault → Option ℕ → Option ℕ → Reading
part_reading true range place name inside from to = part_between range place name inside from to
part_reading false range place name inside from to = wrong_reading place inside

abbrev pub ranged_reading : Option ScopeEntry → SourcePlace → Identifier → List Fault → Option ℕ → Option ℕ → Reading
ranged_reading None place name inside from to = refused_reading [] inside
ranged_reading (Some (NetEntry range signed)) place name inside from to = part_reading range.ranged range place name inside from to
ranged_reading (Some (RegEntry range signed)) place name inside from to = part_reading range.ranged range place name inside from to
ranged_reading _ place name inside from to = wrong_reading place inside

-- Operators

abbrev pub unary_reading : UnarySizing → UnaryOperator → Reading → Reading
unary_reading OperandWithWhole operator a = record {
  size = a.size;
  here = a.here;
  inside = a.inside;
  complete = a.complete;
  tree = λ width whole. SizedUnary width whole operator (a.tree width whole);
}
unary_reading OperandAlone operator a = record { size = one_bit; here = []; inside = alone_faults a; complete = a.complete; tree = λ width whole. SizedUnary width whole operator (tree_alone a) }

abbrev pub binary_reading : BinarySizing → BinaryOperator → Reading → Reading → Reading
binary_reading BothWithWhole operator a b = record {
  size = larger_size a.size b.size;
  here = a.here ++ b.here;
  inside = a.inside ++ b.inside;
  complete = a.complete && b.complete;
  tree = λ width whole. SizedBinary width whole operator (a.tree width whole) (b.tree width whole);
}
binary_reading LeftWithWhole operator a b = record {
  size = a.size;
  here = a.here;
  inside = a.inside ++ alone_faults b;
  complete = a.complete && b.complete;
  tree = λ width whole. SizedBinary width whole operator (a.tree width whole) (tree_alone b);
}
binary_reading BothTogether operator a b = record {
  size = one_bit;
  here = [];
  inside = together_faults a b;
  complete = a.complete && b.complete;
  tree = λ width whole. SizedBinary width whole operator (tree_at a (larger_size a.size b.size)) (tree_at b (larger_size a.size b.size));
}
binary_reading EachAlone operator a b = record {
  size = one_bit;
  here = [];
  inside = alone_faults a ++ alone_faults b;
  complete = a.complete && b.complete;
  tree = λ width whole. SizedBinary width whole operator (tree_alone a) (tree_alone b);
}

abbrev pub choice_reading : Reading → Reading → Reading → Reading
choice_reading c a b = record {
  size = larger_size a.size b.size;
  here = a.here ++ b.here;
  inside = alone_faults c ++ (a.inside ++ b.inside);
  complete = c.complete && (a.complete && b.complete);
  tree = λ width whole. SizedChoice width whole (tree_alone c) (a.tree width whole) (b.tree width whole);
}

-- Concatenations

-- the parts of a concatenation: their width together, none where one is refused
pub record PartsReading : Type 0 where
  pub width : Option ℕ
  pub inside : List Fault
  pub complete : Bool
  pub trees : SizedExpressions

-- a number that doesn't say its size
abbrev pub is_unsized_number : SourceExpression → Bool
is_unsized_number (Number place Plain value) = true
is_unsized_number (Number place Unsized value) = true
is_unsized_number (Number place UnsizedSigned value) = true
is_unsized_number _ = false

abbrev pub width_with : Option Size → Option ℕ → Option ℕ
width_with None rest = None
width_with (Some size) None = None
width_with (Some size) (Some rest) = Some (size.width + rest)

-- a part is sized alone; a number that doesn't say its size is none
abbrev pub part_before : Bool → SourcePlace → Reading → PartsReading → PartsReading
part_before true place reading rest = record { width = None; inside = fault_at place BadWidth ∷ rest.inside; complete = false; trees = more_sized (tree_alone reading) rest.trees }
part_before false place reading rest = record {
  width = width_with reading.size rest.width;
  inside = alone_faults reading ++ rest.inside;
  complete = reading.complete && rest.complete;
  trees = more_sized (tree_alone reading) rest.trees;
}

abbrev pub concatenation_reading : SourcePlace → Option ℕ → Bool → List Fault → SizedExpressions → Reading
concatenation_reading place None complete inside trees = refused_reading [] inside
concatenation_reading place (Some total) complete inside trees = sized_reading place total false complete inside (λ width whole. SizedConcatenation width whole trees)

abbrev pub replication_reading : SourcePlace → Option ℕ → Option ℕ → Bool → List Fault → SizedExpressions → Reading
replication_reading place None total complete inside trees = refused_reading [] inside
replication_reading place (Some count) None complete inside trees = refused_reading [] inside
replication_reading place (Some count) (Some total) complete inside trees = sized_reading place (count * total) false complete inside (λ width whole. SizedReplication width whole count trees)

abbrev mutual
  -- what an expression is in a scope
  pub reading_of : Scope → SourceExpression → Reading
  reading_of scope (Number place form value) = number_reading place form value
  reading_of scope (Selected place name index) = select_reading scope place name index
  reading_of scope (Parenthesised place inner) = reading_of scope inner
  reading_of scope (Prefixed place operator operand) = unary_reading (unary_sizing operator) operator (reading_of scope operand)
  reading_of scope (Infixed place operator left right) = binary_reading (binary_sizing operator) operator (reading_of scope left) (reading_of scope right)
  reading_of scope (Chosen place condition first second) = choice_reading (reading_of scope condition) (reading_of scope first) (reading_of scope second)
  reading_of scope (Concatenated place parts) = let read = parts_reading scope parts in concatenation_reading place read.width read.complete read.inside read.trees
  reading_of scope (Replicated place count parts) =
      let read = parts_reading scope parts in
      let times = reading_of scope count in
      replication_reading place (natural_constant (constant_reading scope 0 count times)) read.width read.complete (read.inside ++ alone_faults times) read.trees

  -- what a name is with what stands in brackets behind it
  pub select_reading : Scope → SourcePlace → Identifier → SourceIndex → Reading
  select_reading scope place name NoIndex = name_reading (looked_up scope name) place name
  select_reading scope place name (IndexAt index) = indexed_reading (looked_up scope name) place name (reading_of scope index)
  select_reading scope place name (IndexRange from to) =
      let first = reading_of scope from in
      let second = reading_of scope to in
      ranged_reading (looked_up scope name) place name (alone_faults first ++ alone_faults second)
      (natural_constant (constant_reading scope 0 from first)) (natural_constant (constant_reading scope 0 to second))

  pub parts_reading : Scope → SourceExpressions → PartsReading
  parts_reading scope no_parts = record { width = Some 0; inside = []; complete = true; trees = no_sized }
  parts_reading scope (more_parts first rest) = part_before (is_unsized_number first) (place_of_expression first) (reading_of scope first) (parts_reading scope rest)

-- the value of a constant in a context of a width
abbrev pub constant_of : Scope → ℕ → SourceExpression → Option SignedValue
constant_of scope width e = constant_reading scope width e (reading_of scope e)

-- the number of a constant that is sized alone
abbrev pub number_of_constant : Scope → SourceExpression → Option ℕ
number_of_constant scope e = natural_constant (constant_of scope 0 e)
