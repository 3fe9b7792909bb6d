-- The size of an expression from those of its parts, where all of them have one (IEEE 1364-2001, clause 4.4).
use Rattle.std.proofs.Common.{◌≡◌, ℕ, ◌*◌, max, cond, Bool, true, false, ◌&&◌, List, [], ◌++◌, length, Option, Some, None, nat_le, refl, sym, ap, ap₂, ◌∙◌}
use Rattle.vf_base.specs.Base.{SourcePlace}
use Rattle.four_value.specs.declared.operator.UnaryOperator.{UnaryOperator}
use Rattle.four_value.specs.declared.operator.BinaryOperator.{BinaryOperator}
use Rattle.v_design.specs.Sized.{span, most_bits, UnarySizing, OperandWithWhole, OperandAlone, unary_sizing, BinarySizing, BothWithWhole, LeftWithWhole, BothTogether, EachAlone, binary_sizing}
use Rattle.v_tree.specs.Trees.{Identifier, SourceExpression, Number, Selected, Parenthesised, Prefixed, Infixed, Chosen, Concatenated, Replicated, SourceIndex, NoIndex, IndexAt, IndexRange}
use Rattle.v_tree.specs.Trees.{SourceExpressions, no_parts, more_parts, place_of_expression}
use Rattle.v_names.specs.Faults.{Fault}
use Rattle.v_names.specs.Scopes.{DeclaredRange, ScopeEntry, ParameterEntry, RefusedParameter, WaitingParameter, NetEntry, RegEntry, MemoryEntry, GateEntry, InstanceEntry, Scope, looked_up}
use Rattle.v_names.specs.Scopes.{range_width}
use Rattle.v_names.specs.SizedLaws.{and-left, and-right}
use Rattle.v_names.specs.SizedTrees.{SizedExpression, SizedConstant, SizedExpressions}
use Rattle.v_names.specs.Readings.{Size, Reading, one_bit, larger_size, sized_if, sized_reading, is_signed_number, alone_faults, name_reading, bit_reading, indexed_reading, runs_alike, part_if}
use Rattle.v_names.specs.Readings.{part_reading, ranged_reading, unary_reading, binary_reading, choice_reading, PartsReading, width_with, is_unsized_number, part_before, concatenation_reading}
use Rattle.v_names.specs.Readings.{replication_reading, reading_of, select_reading, parts_reading, number_of_constant}

-- Sizes from sizes

-- a size, where it is at least 1 and at most the most
abbrev pub size_within : ℕ → Bool → Option Size
size_within width signed = cond (nat_le 1 width && nat_le width most_bits) (Some (record { width = width; signed = signed })) None

-- a size, where another part has one
abbrev pub size_after : Option Size → Option Size → Option Size
size_after None size = None
size_after (Some part) size = size

abbrev pub entry_size : Option ScopeEntry → Option Size
entry_size None = None
entry_size (Some (ParameterEntry value signed)) = size_within (length value) signed
entry_size (Some RefusedParameter) = one_bit
entry_size (Some WaitingParameter) = one_bit
entry_size (Some (NetEntry range signed)) = size_within (range_width range) signed
entry_size (Some (RegEntry range signed)) = size_within (range_width range) signed
entry_size (Some (MemoryEntry range first last signed)) = None
entry_size (Some GateEntry) = None
entry_size (Some InstanceEntry) = None

-- a name with an index of a size
abbrev pub indexed_size : Option ScopeEntry → Option Size → Option Size
indexed_size None index = None
indexed_size (Some (NetEntry range signed)) index = cond range.ranged (size_after index one_bit) None
indexed_size (Some (RegEntry range signed)) index = cond range.ranged (size_after index one_bit) None
indexed_size (Some (MemoryEntry range first last signed)) index = size_after index (size_within (range_width range) signed)
indexed_size (Some (ParameterEntry value signed)) index = None
indexed_size (Some RefusedParameter) index = None
indexed_size (Some WaitingParameter) index = None
indexed_size (Some GateEntry) index = None
indexed_size (Some InstanceEntry) index = None

abbrev pub span_size : Bool → DeclaredRange → Option ℕ → Option ℕ → Option Size
span_size ranged range None to = None
span_size ranged range (Some from) None = None
span_size ranged range (Some from) (Some to) = cond (ranged && runs_alike range from to) (size_within (span from to) false) None

-- a name with two bounds
abbrev pub part_size : Option ScopeEntry → Option ℕ → Option ℕ → Option Size
part_size None from to = None
part_size (Some (NetEntry range signed)) from to = span_size range.ranged range from to
part_size (Some (RegEntry range signed)) from to = span_size range.ranged range from to
part_size (Some (MemoryEntry range first last signed)) from to = None
part_size (Some (ParameterEntry value signed)) from to = None
part_size (Some RefusedParameter) from to = None
part_size (Some WaitingParameter) from to = None
part_size (Some GateEntry) from to = None
part_size (Some InstanceEntry) from to = None

abbrev pub unary_size : UnarySizing → Option Size → Option Size
unary_size OperandWithWhole a = a
unary_size OperandAlone a = size_after a one_bit

abbrev pub binary_size : BinarySizing → Option Size → Option Size → Option Size
binary_size BothWithWhole a b = larger_size a b
binary_size LeftWithWhole a b = size_after b a
binary_size BothTogether a b = size_after a (size_after b one_bit)
binary_size EachAlone a b = size_after a (size_after b one_bit)

-- the width of a part and of those behind it; a number that doesn't say its size has none
abbrev pub part_and_rest : Bool → Option Size → Option ℕ → Option ℕ
part_and_rest true size rest = None
part_and_rest false size rest = width_with size rest

abbrev pub total_size : Option ℕ → Option Size
total_size None = None
total_size (Some total) = size_within total false

abbrev pub repeated_size : Option ℕ → Option ℕ → Option Size
repeated_size None total = None
repeated_size (Some count) None = None
repeated_size (Some count) (Some total) = size_within (count * total) false

abbrev mutual
  -- the size of an expression, where it and all its parts have one
  pub own_size : Scope → SourceExpression → Option Size
  own_size scope (Number place form value) = size_within (length value) (is_signed_number form value)
  own_size scope (Selected place name index) = select_size scope name index
  own_size scope (Parenthesised place inner) = own_size scope inner
  own_size scope (Prefixed place operator operand) = unary_size (unary_sizing operator) (own_size scope operand)
  own_size scope (Infixed place operator left right) = binary_size (binary_sizing operator) (own_size scope left) (own_size scope right)
  own_size scope (Chosen place condition first second) = size_after (own_size scope condition) (larger_size (own_size scope first) (own_size scope second))
  own_size scope (Concatenated place parts) = total_size (parts_width scope parts)
  own_size scope (Replicated place count parts) = repeated_size (number_of_constant scope count) (parts_width scope parts)

  pub select_size : Scope → Identifier → SourceIndex → Option Size
  select_size scope name NoIndex = entry_size (looked_up scope name)
  select_size scope name (IndexAt index) = indexed_size (looked_up scope name) (own_size scope index)
  select_size scope name (IndexRange from to) = part_size (looked_up scope name) (number_of_constant scope from) (number_of_constant scope to)

  pub parts_width : Scope → SourceExpressions → Option ℕ
  parts_width scope no_parts = Some 0
  parts_width scope (more_parts first rest) = part_and_rest (is_unsized_number first) (own_size scope first) (parts_width scope rest)

-- That this is the size

-- the size of a reading that is complete
abbrev pub whole_size : Reading → Option Size
whole_size reading = cond reading.complete reading.size None

-- a reading has this size, where it is complete
pub record HasOwnSize (reading : Reading) (size : Option Size) : Type 0 where
  pub size_is : whole_size reading ≡ size
  -- what is complete has a size
  pub some_size : reading.complete ≡ true → (z : Size) × (reading.size ≡ Some z)

refused : {A : Type 0} → false ≡ true → A
refused e = absurd (let x : ⊥ = cc in x)

recast : (reading : Reading) (one other : Option Size) → one ≡ other → HasOwnSize reading one → HasOwnSize reading other
recast reading one other e h = record { size_is = h.size_is ∙ e; some_size = h.some_size }

-- what is complete exactly where another reading is, which has a size then
after-by : (complete : Bool) (part size : Option Size) → (complete ≡ true → (z : Size) × (part ≡ Some z)) → cond complete size None ≡ size_after (cond complete part None) size
after-by true part size h = let z = h refl in ap (λ p. size_after p size) (sym z.1)
after-by false part size h = refl

sized-by : (test complete : Bool) (place : SourcePlace) (size : Size) (inside : List Fault) (tree : ℕ → Bool → SizedExpression) →
    HasOwnSize (sized_if test place size complete inside tree) (cond complete (cond test (Some size) None) None)
sized-by true complete place size inside tree = record { size_is = refl; some_size = λ c. (size, refl) }
sized-by false true place size inside tree = record { size_is = refl; some_size = λ c. refused c }
sized-by false false place size inside tree = record { size_is = refl; some_size = λ c. refused c }

sized-own : (place : SourcePlace) (width : ℕ) (signed complete : Bool) (inside : List Fault) (tree : ℕ → Bool → SizedExpression)
    → HasOwnSize (sized_reading place width signed complete inside tree) (cond complete (size_within width signed) None)
sized-own place width signed complete inside tree = sized-by (nat_le 1 width && nat_le width most_bits) complete place (record { width = width; signed = signed }) inside tree

-- Names

name-own : (entry : Option ScopeEntry) (place : SourcePlace) (name : Identifier) → HasOwnSize (name_reading entry place name) (entry_size entry)
name-own None place name = record { size_is = refl; some_size = λ c. refused c }
name-own (Some (ParameterEntry value signed)) place name = sized-own place (length value) signed true [] (λ width whole. SizedConstant width whole value)
name-own (Some RefusedParameter) place name = record { size_is = refl; some_size = λ c. (record { width = 1; signed = false }, refl) }
name-own (Some WaitingParameter) place name = record { size_is = refl; some_size = λ c. (record { width = 1; signed = false }, refl) }
name-own (Some (NetEntry range signed)) place name = sized-own place (range_width range) signed true [] _
name-own (Some (RegEntry range signed)) place name = sized-own place (range_width range) signed true [] _
name-own (Some (MemoryEntry range first last signed)) place name = record { size_is = refl; some_size = λ c. refused c }
name-own (Some GateEntry) place name = record { size_is = refl; some_size = λ c. refused c }
name-own (Some InstanceEntry) place name = record { size_is = refl; some_size = λ c. refused c }

bit-own : (ranged : Bool) (place : SourcePlace) (name : Identifier) (index : Reading) (size : Option Size) → HasOwnSize index size →
    HasOwnSize (bit_reading ranged place name index) (cond ranged (size_after size one_bit) None)
bit-own true place name index size h =
    record { size_is = after-by index.complete index.size one_bit h.some_size ∙ ap (λ s. size_after s one_bit) h.size_is; some_size = λ c. (record { width = 1; signed = false }, refl) }
bit-own false place name index size h = record { size_is = refl; some_size = λ c. refused c }

indexed-own : (entry : Option ScopeEntry) (place : SourcePlace) (name : Identifier) (index : Reading) (size : Option Size) → HasOwnSize index size →
    HasOwnSize (indexed_reading entry place name index) (indexed_size entry size)
indexed-own None place name index size h = record { size_is = refl; some_size = λ c. refused c }
indexed-own (Some (NetEntry range signed)) place name index size h = bit-own range.ranged place name index size h
indexed-own (Some (RegEntry range signed)) place name index size h = bit-own range.ranged place name index size h
indexed-own (Some (MemoryEntry range first last signed)) place name index size h =
    recast _ (cond index.complete (size_within (range_width range) signed) None) (size_after size (size_within (range_width range) signed))
    (after-by index.complete index.size (size_within (range_width range) signed) h.some_size ∙ ap (λ s. size_after s (size_within (range_width range) signed)) h.size_is)
    (sized-own place (range_width range) signed index.complete (alone_faults index) _)
indexed-own (Some (ParameterEntry value signed)) place name index size h = record { size_is = refl; some_size = λ c. refused c }
indexed-own (Some RefusedParameter) place name index size h = record { size_is = refl; some_size = λ c. refused c }
indexed-own (Some WaitingParameter) place name index size h = record { size_is = refl; some_size = λ c. refused c }
indexed-own (Some GateEntry) place name index size h = record { size_is = refl; some_size = λ c. refused c }
indexed-own (Some InstanceEntry) place name index size h = record { size_is = refl; some_size = λ c. refused c }

part-if-own : (alike : Bool) (place : SourcePlace) (name : Identifier) (inside : List Fault) (from to : ℕ) →
    HasOwnSize (part_if alike place name inside from to) (cond alike (size_within (span from to) false) None)
part-if-own true place name inside from to = sized-own place (span from to) false true inside _
part-if-own false place name inside from to = record { size_is = refl; some_size = λ c. refused c }

part-own : (ranged : Bool) (range : DeclaredRange) (place : SourcePlace) (name : Identifier) (inside : List Fault) (from to : Option ℕ)
    → HasOwnSize (part_reading ranged range place name inside from to) (span_size ranged range from to)
part-own true range place name inside None to = record { size_is = refl; some_size = λ c. refused c }
part-own true range place name inside (Some from) None = record { size_is = refl; some_size = λ c. refused c }
part-own true range place name inside (Some from) (Some to) = part-if-own (runs_alike range from to) place name inside from to
part-own false range place name inside None to = record { size_is = refl; some_size = λ c. refused c }
part-own false range place name inside (Some from) None = record { size_is = refl; some_size = λ c. refused c }
part-own false range place name inside (Some from) (Some to) = record { size_is = refl; some_size = λ c. refused c }

ranged-own : (entry : Option ScopeEntry) (place : SourcePlace) (name : Identifier) (inside : List Fault) (from to : Option ℕ) →
    HasOwnSize (ranged_reading entry place name inside from to) (part_size entry from to)
ranged-own None place name inside from to = record { size_is = refl; some_size = λ c. refused c }
ranged-own (Some (NetEntry range signed)) place name inside from to = part-own range.ranged range place name inside from to
ranged-own (Some (RegEntry range signed)) place name inside from to = part-own range.ranged range place name inside from to
ranged-own (Some (MemoryEntry range first last signed)) place name inside from to = record { size_is = refl; some_size = λ c. refused c }
ranged-own (Some (ParameterEntry value signed)) place name inside from to = record { size_is = refl; some_size = λ c. refused c }
ranged-own (Some RefusedParameter) place name inside from to = record { size_is = refl; some_size = λ c. refused c }
ranged-own (Some WaitingParameter) place name inside from to = record { size_is = refl; some_size = λ c. refused c }
ranged-own (Some GateEntry) place name inside from to = record { size_is = refl; some_size = λ c. refused c }
ranged-own (Some InstanceEntry) place name inside from to = record { size_is = refl; some_size = λ c. refused c }

-- Operators

unary-own : (sizing : UnarySizing) (operator : UnaryOperator) (a : Reading) (size : Option Size) → HasOwnSize a size → HasOwnSize (unary_reading sizing operator a) (unary_size sizing size)
unary-own OperandWithWhole operator a size h = record { size_is = h.size_is; some_size = h.some_size }
unary-own OperandAlone operator a size h =
    record { size_is = after-by a.complete a.size one_bit h.some_size ∙ ap (λ s. size_after s one_bit) h.size_is; some_size = λ c. (record { width = 1; signed = false }, refl) }

larger-by : (ca cb : Bool) (a b : Option Size) → cond (ca && cb) (larger_size a b) None ≡ larger_size (cond ca a None) (cond cb b None)
larger-by true true a b = refl
larger-by true false None b = refl
larger-by true false (Some a) b = refl
larger-by false cb a b = refl

after-both : (ca cb : Bool) (a b size : Option Size) → (ca ≡ true → (z : Size) × (a ≡ Some z)) → (cb ≡ true → (z : Size) × (b ≡ Some z))
    → cond (ca && cb) size None ≡ size_after (cond ca a None) (size_after (cond cb b None) size)
after-both true cb a b size h k = let z = h refl in after-by cb b size k ∙ ap (λ p. size_after p (size_after (cond cb b None) size)) (sym z.1)
after-both false cb a b size h k = refl

left-by : (ca cb : Bool) (a b : Option Size) → (cb ≡ true → (z : Size) × (b ≡ Some z)) → cond (ca && cb) a None ≡ size_after (cond cb b None) (cond ca a None)
left-by true true a b k = let z = k refl in ap (λ p. size_after p a) (sym z.1)
left-by true false a b k = refl
left-by false true a b k = let z = k refl in ap (λ p. size_after p None) (sym z.1)
left-by false false a b k = refl

some-larger : (a b : Reading) → (a.complete ≡ true → (z : Size) × (a.size ≡ Some z)) → (b.complete ≡ true → (z : Size) × (b.size ≡ Some z)) → (a.complete && b.complete) ≡ true →
    (z : Size) × (larger_size a.size b.size ≡ Some z)
some-larger a b h k c =
    let s = h (and-left a.complete b.complete c) in
    let t = k (and-right a.complete b.complete c) in
    (record { width = max s.0.width t.0.width; signed = s.0.signed && t.0.signed }, ap₂ larger_size s.1 t.1)

binary-own : (sizing : BinarySizing) (operator : BinaryOperator) (a b : Reading) (s t : Option Size) → HasOwnSize a s → HasOwnSize b t →
    HasOwnSize (binary_reading sizing operator a b) (binary_size sizing s t)
binary-own BothWithWhole operator a b s t h k = record {
  size_is = larger-by a.complete b.complete a.size b.size ∙ ap₂ larger_size h.size_is k.size_is;
  some_size = some-larger a b h.some_size k.some_size;
}
binary-own LeftWithWhole operator a b s t h k = record {
  size_is = left-by a.complete b.complete a.size b.size k.some_size ∙ ap₂ size_after k.size_is h.size_is;
  some_size = λ c. h.some_size (and-left a.complete b.complete c);
}
binary-own BothTogether operator a b s t h k = record {
  size_is = after-both a.complete b.complete a.size b.size one_bit h.some_size k.some_size ∙ ap₂ (λ x y. size_after x (size_after y one_bit)) h.size_is k.size_is;
  some_size = λ c. (record { width = 1; signed = false }, refl);
}
binary-own EachAlone operator a b s t h k = record {
  size_is = after-both a.complete b.complete a.size b.size one_bit h.some_size k.some_size ∙ ap₂ (λ x y. size_after x (size_after y one_bit)) h.size_is k.size_is;
  some_size = λ c. (record { width = 1; signed = false }, refl);
}

choice-by : (cc ca cb : Bool) (c a b : Option Size) → (cc ≡ true → (z : Size) × (c ≡ Some z)) →
    cond (cc && (ca && cb)) (larger_size a b) None ≡ size_after (cond cc c None) (larger_size (cond ca a None) (cond cb b None))
choice-by true ca cb c a b h = let z = h refl in larger-by ca cb a b ∙ ap (λ p. size_after p (larger_size (cond ca a None) (cond cb b None))) (sym z.1)
choice-by false ca cb c a b h = refl

choice-own : (c a b : Reading) (r s t : Option Size) → HasOwnSize c r → HasOwnSize a s → HasOwnSize b t → HasOwnSize (choice_reading c a b) (size_after r (larger_size s t))
choice-own c a b r s t g h k = record {
  size_is = choice-by c.complete a.complete b.complete c.size a.size b.size g.some_size ∙ ap₂ size_after g.size_is (ap₂ larger_size h.size_is k.size_is);
  some_size = λ all. some-larger a b h.some_size k.some_size (and-right c.complete (a.complete && b.complete) all);
}

-- Concatenations

-- the parts have this width together, where all are complete
record HaveWidth (read : PartsReading) (width : Option ℕ) : Type 0 where
  pub width_is : cond read.complete read.width None ≡ width

with-by : (ca cb : Bool) (a : Option Size) (b : Option ℕ) → cond (ca && cb) (width_with a b) None ≡ width_with (cond ca a None) (cond cb b None)
with-by true true a b = refl
with-by true false None b = refl
with-by true false (Some a) b = refl
with-by false cb a b = refl

before-own : (unsized : Bool) (place : SourcePlace) (reading : Reading) (rest : PartsReading) (size : Option Size) (width : Option ℕ) → HasOwnSize reading size → HaveWidth rest width
    → HaveWidth (part_before unsized place reading rest) (part_and_rest unsized size width)
before-own true place reading rest size width h k = record { width_is = refl }
before-own false place reading rest size width h k = record { width_is = with-by reading.complete rest.complete reading.size rest.width ∙ ap₂ width_with h.size_is k.width_is }

concatenation-own : (place : SourcePlace) (width : Option ℕ) (complete : Bool) (inside : List Fault) (trees : SizedExpressions) →
    HasOwnSize (concatenation_reading place width complete inside trees) (total_size (cond complete width None))
concatenation-own place None true inside trees = record { size_is = refl; some_size = λ c. refused c }
concatenation-own place None false inside trees = record { size_is = refl; some_size = λ c. refused c }
concatenation-own place (Some total) true inside trees = sized-own place total false true inside _
concatenation-own place (Some total) false inside trees = sized-own place total false false inside _

replication-own : (place : SourcePlace) (count width : Option ℕ) (complete : Bool) (inside : List Fault) (trees : SizedExpressions)
    → HasOwnSize (replication_reading place count width complete inside trees) (repeated_size count (cond complete width None))
replication-own place None width complete inside trees = record { size_is = refl; some_size = λ c. refused c }
replication-own place (Some count) None true inside trees = record { size_is = refl; some_size = λ c. refused c }
replication-own place (Some count) None false inside trees = record { size_is = refl; some_size = λ c. refused c }
replication-own place (Some count) (Some total) true inside trees = sized-own place (count * total) false true inside _
replication-own place (Some count) (Some total) false inside trees = sized-own place (count * total) false false inside _

-- Expressions

mutual
  -- the size by recursion is that of the reading, where it is complete
  pub own-size-is : (scope : Scope) (e : SourceExpression) → HasOwnSize (reading_of scope e) (own_size scope e)
  own-size-is scope (Number place form value) = sized-own place (length value) (is_signed_number form value) true [] (λ width whole. SizedConstant width whole value)
  own-size-is scope (Selected place name index) = select-own scope place name index
  own-size-is scope (Parenthesised place inner) = own-size-is scope inner
  own-size-is scope (Prefixed place operator operand) = unary-own (unary_sizing operator) operator (reading_of scope operand) (own_size scope operand) (own-size-is scope operand)
  own-size-is scope (Infixed place operator left right) =
      binary-own (binary_sizing operator) operator (reading_of scope left) (reading_of scope right) (own_size scope left) (own_size scope right) (own-size-is scope left) (own-size-is scope right)
  own-size-is scope (Chosen place condition first second) =
      choice-own (reading_of scope condition) (reading_of scope first) (reading_of scope second) (own_size scope condition) (own_size scope first) (own_size scope second)
      (own-size-is scope condition) (own-size-is scope first) (own-size-is scope second)
  own-size-is scope (Concatenated place parts) =
      let read = parts_reading scope parts in
      recast _ (total_size (cond read.complete read.width None)) (total_size (parts_width scope parts)) (ap total_size (parts-own scope parts).width_is)
      (concatenation-own place read.width read.complete read.inside read.trees)
  own-size-is scope (Replicated place count parts) =
      let read = parts_reading scope parts in
      let times = reading_of scope count in
      recast _ (repeated_size (number_of_constant scope count) (cond read.complete read.width None)) (repeated_size (number_of_constant scope count) (parts_width scope parts))
      (ap (repeated_size (number_of_constant scope count)) (parts-own scope parts).width_is)
      (replication-own place (number_of_constant scope count) read.width read.complete (read.inside ++ alone_faults times) read.trees)

  select-own : (scope : Scope) (place : SourcePlace) (name : Identifier) (index : SourceIndex) → HasOwnSize (select_reading scope place name index) (select_size scope name index)
  select-own scope place name NoIndex = name-own (looked_up scope name) place name
  select-own scope place name (IndexAt index) = indexed-own (looked_up scope name) place name (reading_of scope index) (own_size scope index) (own-size-is scope index)
  select-own scope place name (IndexRange from to) =
      ranged-own (looked_up scope name) place name (alone_faults (reading_of scope from) ++ alone_faults (reading_of scope to)) (number_of_constant scope from) (number_of_constant scope to)

  parts-own : (scope : Scope) (parts : SourceExpressions) → HaveWidth (parts_reading scope parts) (parts_width scope parts)
  parts-own scope no_parts = record { width_is = refl }
  parts-own scope (more_parts first rest) =
      before-own (is_unsized_number first) (place_of_expression first) (reading_of scope first) (parts_reading scope rest) (own_size scope first) (parts_width scope rest) (own-size-is scope first)
      (parts-own scope rest)
