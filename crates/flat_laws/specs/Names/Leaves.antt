-- The tree of an expression has no other names than the expression (IEEE 1364-2001, clause 4.2).
use Rattle.std.proofs.Common.{◌≡◌, ℕ, ◌*◌, Bool, true, false, ◌&&◌, List, [], ◌++◌, length, Option, Some, None, nat_le, refl}
use Rattle.std.specs.List.{list_all}
use Rattle.vf_base.specs.Base.{SourcePlace}
use Rattle.vf_base.specs.Lists.{AllHold}
use Rattle.v_design.specs.Trees.{Piece}
use Rattle.v_design.specs.Sized.{span, most_bits, UnarySizing, OperandWithWhole, OperandAlone, unary_sizing, BinarySizing, BothWithWhole, LeftWithWhole, BothTogether, EachAlone, binary_sizing}
use Rattle.v_design.specs.Expressions.{memory_pieces}
use Rattle.v_design.specs.Reads.{named_in, named_in_parts}
use Rattle.four_value.specs.declared.operator.UnaryOperator.{UnaryOperator}
use Rattle.four_value.specs.declared.operator.BinaryOperator.{BinaryOperator}
use Rattle.v_tree.specs.Trees.{Identifier, NamedPlace, SourceExpression, Number, Selected, Parenthesised, Prefixed, Infixed, Chosen, Concatenated, Replicated, SourceIndex, NoIndex, IndexAt}
use Rattle.v_tree.specs.Trees.{IndexRange, SourceExpressions, no_parts, more_parts, place_of_expression, named_in_index}
use Rattle.v_tree.specs.Trees.{named_in as names_of, named_in_parts as names_of_parts}
use Rattle.v_names.specs.Faults.{Fault}
use Rattle.v_names.specs.Scopes.{DeclaredRange, ScopeEntry, ParameterEntry, RefusedParameter, WaitingParameter, NetEntry, RegEntry, MemoryEntry, GateEntry, InstanceEntry, Scope, looked_up}
use Rattle.v_names.specs.Scopes.{range_width}
use Rattle.v_names.specs.SizedTrees.{SizedExpression, SizedConstant, SizedName, SizedBit, SizedPart, SizedWord, SizedUnary, SizedBinary, SizedChoice, SizedConcatenation, SizedReplication}
use Rattle.v_names.specs.SizedTrees.{SizedExpressions, no_sized, more_sized, Holders, over_objects, all_over_objects}
use Rattle.v_names.specs.Readings.{Size, size_or_bit, Reading, tree_alone, is_signed_number, number_of_constant, larger_size, sized_if, name_reading, bit_reading, indexed_reading, runs_alike}
use Rattle.v_names.specs.Readings.{part_if, part_reading, ranged_reading, unary_reading, binary_reading, PartsReading, is_unsized_number, part_before, concatenation_reading, replication_reading}
use Rattle.v_names.specs.Readings.{reading_of, select_reading, parts_reading, natural_constant, constant_reading, alone_faults}
use Rattle.flat_laws.specs.Blocks.Fitting.{AllHold-parts}
use Rattle.flat_laws.specs.Sizes.Objects.{all-append}

abbrev mutual
  -- a fact of each net and variable that a tree names
  pub NamesHold : (Identifier → Type 0) → SizedExpression → Type 0
  NamesHold P (SizedConstant width signed value) = Unit {0}
  NamesHold P (SizedName width signed name) = P name
  NamesHold P (SizedBit width signed name index) = P name × NamesHold P index
  NamesHold P (SizedPart width signed name from to) = P name
  NamesHold P (SizedWord width signed name index) = NamesHold P index
  NamesHold P (SizedUnary width signed operator operand) = NamesHold P operand
  NamesHold P (SizedBinary width signed operator left right) = NamesHold P left × NamesHold P right
  NamesHold P (SizedChoice width signed condition first second) = NamesHold P condition × NamesHold P first × NamesHold P second
  NamesHold P (SizedConcatenation width signed parts) = AllNamesHold P parts
  NamesHold P (SizedReplication width signed count parts) = AllNamesHold P parts

  pub AllNamesHold : (Identifier → Type 0) → SizedExpressions → Type 0
  AllNamesHold P no_sized = Unit {0}
  AllNamesHold P (more_sized first rest) = NamesHold P first × AllNamesHold P rest

module _ (P : Identifier → Type 0) where
  abbrev Of : NamedPlace → Type 0
  Of n = P n.name

  -- a fact of the names of a reading's trees
  abbrev Read : Reading → Type 0
  Read reading = (width : ℕ) (signed : Bool) → NamesHold P (reading.tree width signed)

  sized-read : (test : Bool) (place : SourcePlace) (size : Size) (complete : Bool) (inside : List Fault) (tree : ℕ → Bool → SizedExpression) →
      ((width : ℕ) (signed : Bool) → NamesHold P (tree width signed)) →
      Read (sized_if test place size complete inside tree)
  sized-read true place size complete inside tree h = h
  sized-read false place size complete inside tree h = λ width signed. tt

  name-read : (place : SourcePlace) (name : Identifier) (entry : Option ScopeEntry) → P name → Read (name_reading entry place name)
  name-read place name None h = λ width signed. tt
  name-read place name (Some (ParameterEntry value signed)) h = sized-read (nat_le 1 (length value) && nat_le (length value) most_bits) place
      (record { width = length value; signed = signed }) true [] (λ width whole. SizedConstant width whole value) (λ width whole. tt)
  name-read place name (Some RefusedParameter) h = λ width signed. tt
  name-read place name (Some WaitingParameter) h = λ width signed. tt
  name-read place name (Some (NetEntry range signed)) h = sized-read (nat_le 1 (range_width range) && nat_le (range_width range) most_bits) place
      (record { width = range_width range; signed = signed }) true [] (λ width whole. SizedName width whole name) (λ width whole. h)
  name-read place name (Some (RegEntry range signed)) h = sized-read (nat_le 1 (range_width range) && nat_le (range_width range) most_bits) place
      (record { width = range_width range; signed = signed }) true [] (λ width whole. SizedName width whole name) (λ width whole. h)
  name-read place name (Some (MemoryEntry range first last signed)) h = λ width signed. tt
  name-read place name (Some GateEntry) h = λ width signed. tt
  name-read place name (Some InstanceEntry) h = λ width signed. tt

  bit-read : (place : SourcePlace) (name : Identifier) (index : Reading) (ranged : Bool) → P name → Read index → Read (bit_reading ranged place name index)
  bit-read place name index true h k = λ width signed. (h, k (size_or_bit index.size).width (size_or_bit index.size).signed)
  bit-read place name index false h k = λ width signed. tt

  indexed-read : (place : SourcePlace) (name : Identifier) (index : Reading) (entry : Option ScopeEntry) → P name → Read index → Read (indexed_reading entry place name index)
  indexed-read place name index None h k = λ width signed. tt
  indexed-read place name index (Some (NetEntry range signed)) h k = bit-read place name index range.ranged h k
  indexed-read place name index (Some (RegEntry range signed)) h k = bit-read place name index range.ranged h k
  indexed-read place name index (Some (MemoryEntry range first last signed)) h k =
      sized-read (nat_le 1 (range_width range) && nat_le (range_width range) most_bits) place (record { width = range_width range; signed = signed }) index.complete (alone_faults index)
      (λ width whole. SizedWord width whole name (tree_alone index))
      (λ width whole. k (size_or_bit index.size).width (size_or_bit index.size).signed)
  indexed-read place name index (Some (ParameterEntry value signed)) h k = λ width signed. tt
  indexed-read place name index (Some RefusedParameter) h k = λ width signed. tt
  indexed-read place name index (Some WaitingParameter) h k = λ width signed. tt
  indexed-read place name index (Some GateEntry) h k = λ width signed. tt
  indexed-read place name index (Some InstanceEntry) h k = λ width signed. tt

  alike-read : (place : SourcePlace) (name : Identifier) (inside : List Fault) (from to : ℕ) (alike : Bool) → P name → Read (part_if alike place name inside from to)
  alike-read place name inside from to true h = sized-read (nat_le 1 (span from to) && nat_le (span from to) most_bits) place (record { width = span from to; signed = false }) true inside
      (λ width whole. SizedPart width whole name from to) (λ width whole. h)
  alike-read place name inside from to false h = λ width signed. tt

  part-read : (place : SourcePlace) (name : Identifier) (range : DeclaredRange) (inside : List Fault) (ranged : Bool) (from to : Option ℕ) → P name →
      Read (part_reading ranged range place name inside from to)
  part-read place name range inside false from to h = λ width signed. tt
  part-read place name range inside true None to h = λ width signed. tt
  part-read place name range inside true (Some from) None h = λ width signed. tt
  part-read place name range inside true (Some from) (Some to) h = alike-read place name inside from to (runs_alike range from to) h

  ranged-read : (place : SourcePlace) (name : Identifier) (inside : List Fault) (from to : Option ℕ) (entry : Option ScopeEntry) → P name → Read (ranged_reading entry place name inside from to)
  ranged-read place name inside from to (Some (NetEntry range signed)) h = part-read place name range inside range.ranged from to h
  ranged-read place name inside from to (Some (RegEntry range signed)) h = part-read place name range inside range.ranged from to h
  ranged-read place name inside from to None h = λ width signed. tt
  ranged-read place name inside from to (Some (MemoryEntry range first last signed)) h = λ width signed. tt
  ranged-read place name inside from to (Some (ParameterEntry value signed)) h = λ width signed. tt
  ranged-read place name inside from to (Some RefusedParameter) h = λ width signed. tt
  ranged-read place name inside from to (Some WaitingParameter) h = λ width signed. tt
  ranged-read place name inside from to (Some GateEntry) h = λ width signed. tt
  ranged-read place name inside from to (Some InstanceEntry) h = λ width signed. tt

  unary-read : (sizing : UnarySizing) (operator : UnaryOperator) (a : Reading) → Read a → Read (unary_reading sizing operator a)
  unary-read OperandWithWhole operator a h = h
  unary-read OperandAlone operator a h = λ width signed. h (size_or_bit a.size).width (size_or_bit a.size).signed

  binary-read : (sizing : BinarySizing) (operator : BinaryOperator) (a b : Reading) → Read a → Read b → Read (binary_reading sizing operator a b)
  binary-read BothWithWhole operator a b h k = λ width signed. (h width signed, k width signed)
  binary-read LeftWithWhole operator a b h k = λ width signed. (h width signed, k (size_or_bit b.size).width (size_or_bit b.size).signed)
  binary-read BothTogether operator a b h k = λ width signed. (
    h (size_or_bit (larger_size a.size b.size)).width (size_or_bit (larger_size a.size b.size)).signed,
    k (size_or_bit (larger_size a.size b.size)).width (size_or_bit (larger_size a.size b.size)).signed,
  )
  binary-read EachAlone operator a b h k = λ width signed. (h (size_or_bit a.size).width (size_or_bit a.size).signed, k (size_or_bit b.size).width (size_or_bit b.size).signed)

  joined-read : (place : SourcePlace) (total : Option ℕ) (complete : Bool) (inside : List Fault) (trees : SizedExpressions) → AllNamesHold P trees →
      Read (concatenation_reading place total complete inside trees)
  joined-read place None complete inside trees h = λ width signed. tt
  joined-read place (Some total) complete inside trees h = sized-read (nat_le 1 (total) && nat_le (total) most_bits) place (record { width = total; signed = false }) complete inside
      (λ width whole. SizedConcatenation width whole trees) (λ width whole. h)

  repeated-read : (place : SourcePlace) (count total : Option ℕ) (complete : Bool) (inside : List Fault) (trees : SizedExpressions) → AllNamesHold P trees →
      Read (replication_reading place count total complete inside trees)
  repeated-read place None total complete inside trees h = λ width signed. tt
  repeated-read place (Some count) None complete inside trees h = λ width signed. tt
  repeated-read place (Some count) (Some total) complete inside trees h =
      sized-read (nat_le 1 (count * total) && nat_le (count * total) most_bits) place (record { width = count * total; signed = false }) complete inside
      (λ width whole. SizedReplication width whole count trees) (λ width whole. h)

  before-read : (unsized : Bool) (place : SourcePlace) (reading : Reading) (rest : PartsReading) → Read reading → AllNamesHold P rest.trees →
      AllNamesHold P (part_before unsized place reading rest).trees
  before-read true place reading rest h k = (h (size_or_bit reading.size).width (size_or_bit reading.size).signed, k)
  before-read false place reading rest h k = (h (size_or_bit reading.size).width (size_or_bit reading.size).signed, k)

  mutual
    -- what holds of the names of an expression holds of those of its tree
    pub expression-read : (scope : Scope) (e : SourceExpression) → AllHold (λ (n : NamedPlace). P n.name) (names_of e) → (width : ℕ) (signed : Bool) →
        NamesHold P ((reading_of scope e).tree width signed)
    expression-read scope (Number place form value) h =
        sized-read (nat_le 1 (length value) && nat_le (length value) most_bits) place (record { width = length value; signed = is_signed_number form value }) true []
        (λ width whole. SizedConstant width whole value) (λ width whole. tt)
    expression-read scope (Selected place name index) h = select-read scope place name index h.0 h.1
    expression-read scope (Parenthesised place inner) h = expression-read scope inner h
    expression-read scope (Prefixed place operator operand) h = unary-read (unary_sizing operator) operator (reading_of scope operand) (expression-read scope operand h)
    expression-read scope (Infixed place operator left right) h =
        let split = AllHold-parts Of (names_of left) (names_of right) h in
        binary-read (binary_sizing operator) operator (reading_of scope left) (reading_of scope right) (expression-read scope left split.0) (expression-read scope right split.1)
    expression-read scope (Chosen place condition first second) h =
        let split = AllHold-parts Of (names_of condition) (names_of first ++ names_of second) h in
        let rest = AllHold-parts Of (names_of first) (names_of second) split.1 in
        let c = expression-read scope condition split.0 in
        let a = expression-read scope first rest.0 in
        let b = expression-read scope second rest.1 in
        let test = reading_of scope condition in
        λ width signed. (c (size_or_bit test.size).width (size_or_bit test.size).signed, a width signed, b width signed)
    expression-read scope (Concatenated place parts) h =
        let read = parts_reading scope parts in joined-read place read.width read.complete read.inside read.trees (parts-read scope parts h)
    expression-read scope (Replicated place count parts) h =
        let split = AllHold-parts Of (names_of count) (names_of_parts parts) h in
        let read = parts_reading scope parts in
        let times = reading_of scope count in
        repeated-read place (natural_constant (constant_reading scope 0 count times)) read.width read.complete (read.inside ++ alone_faults times) read.trees (parts-read scope parts split.1)

    select-read : (scope : Scope) (place : SourcePlace) (name : Identifier) (index : SourceIndex) → P name → AllHold (λ (n : NamedPlace). P n.name) (named_in_index index) →
        (width : ℕ) (signed : Bool) →
        NamesHold P ((select_reading scope place name index).tree width signed)
    select-read scope place name NoIndex h k = name-read place name (looked_up scope name) h
    select-read scope place name (IndexAt index) h k = indexed-read place name (reading_of scope index) (looked_up scope name) h (expression-read scope index k)
    select-read scope place name (IndexRange from to) h k =
        ranged-read place name (alone_faults (reading_of scope from) ++ alone_faults (reading_of scope to)) (number_of_constant scope from) (number_of_constant scope to) (looked_up scope name) h

    parts-read : (scope : Scope) (parts : SourceExpressions) → AllHold (λ (n : NamedPlace). P n.name) (names_of_parts parts) → AllNamesHold P (parts_reading scope parts).trees
    parts-read scope no_parts h = tt
    parts-read scope (more_parts first rest) h =
        let split = AllHold-parts Of (names_of first) (names_of_parts rest) h in
        before-read (is_unsized_number first) (place_of_expression first) (reading_of scope first) (parts_reading scope rest) (expression-read scope first split.0) (parts-read scope rest split.1)

-- Over objects

mutual
  -- a test that the pieces of each name pass, and those of words, is passed by all that a tree names
  pub names-pass : (test : Piece → Bool) (holders : Holders) → ((name : Identifier) → list_all test (memory_pieces (holders.memory name)) ≡ true) → (tree : SizedExpression) →
      NamesHold (λ name. list_all test (holders.vector name).pieces ≡ true) tree → list_all test (named_in (over_objects holders tree)) ≡ true
  names-pass test holders words (SizedConstant width signed value) h = refl
  names-pass test holders words (SizedName width signed name) h = h
  names-pass test holders words (SizedBit width signed name index) h = all-append test (holders.vector name).pieces (named_in (over_objects holders index)) h.0
      (names-pass test holders words index h.1)
  names-pass test holders words (SizedPart width signed name from to) h = h
  names-pass test holders words (SizedWord width signed name index) h = all-append test (named_in (over_objects holders index)) (memory_pieces (holders.memory name))
      (names-pass test holders words index h) (words name)
  names-pass test holders words (SizedUnary width signed operator operand) h = names-pass test holders words operand h
  names-pass test holders words (SizedBinary width signed operator left right) h =
      all-append test (named_in (over_objects holders left)) (named_in (over_objects holders right)) (names-pass test holders words left h.0) (names-pass test holders words right h.1)
  names-pass test holders words (SizedChoice width signed condition first second) h =
      all-append test (named_in (over_objects holders condition)) (named_in (over_objects holders first) ++ named_in (over_objects holders second)) (names-pass test holders words condition h.0)
      (all-append test (named_in (over_objects holders first)) (named_in (over_objects holders second)) (names-pass test holders words first h.1) (names-pass test holders words second h.2))
  names-pass test holders words (SizedConcatenation width signed parts) h = all-pass test holders words parts h
  names-pass test holders words (SizedReplication width signed count parts) h = all-pass test holders words parts h

  all-pass : (test : Piece → Bool) (holders : Holders) → ((name : Identifier) → list_all test (memory_pieces (holders.memory name)) ≡ true) → (trees : SizedExpressions) →
      AllNamesHold (λ name. list_all test (holders.vector name).pieces ≡ true) trees → list_all test (named_in_parts (all_over_objects holders trees)) ≡ true
  all-pass test holders words no_sized h = refl
  all-pass test holders words (more_sized first rest) h =
      all-append test (named_in (over_objects holders first)) (named_in_parts (all_over_objects holders rest)) (names-pass test holders words first h.0) (all-pass test holders words rest h.1)
