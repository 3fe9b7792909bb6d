-- Where an expression and all its parts have sizes, nothing is wrong with its sizes.
use Rattle.std.proofs.Common.{◌≡◌, ℕ, ◌*◌, Bool, true, false, ◌&&◌, List, [], ◌∷◌, ◌++◌, length, Option, Some, None, nat_le, refl, ap₂}
use Rattle.vf_base.specs.Base.{SourcePlace}
use Rattle.four_value.specs.declared.operator.UnaryOperator.{UnaryOperator}
use Rattle.four_value.specs.declared.operator.BinaryOperator.{BinaryOperator}
use Rattle.v_design.specs.Sized.{span, most_bits, UnarySizing, OperandWithWhole, OperandAlone, unary_sizing, BinarySizing, BothWithWhole, LeftWithWhole, BothTogether, EachAlone, binary_sizing}
use Rattle.v_tree.specs.Trees.{Identifier, SourceExpression, Number, Selected, Parenthesised, Prefixed, Infixed, Chosen, Concatenated, Replicated, SourceIndex, NoIndex, IndexAt, IndexRange}
use Rattle.v_tree.specs.Trees.{SourceExpressions, no_parts, more_parts, place_of_expression}
use Rattle.v_names.specs.Faults.{Fault}
use Rattle.v_names.specs.Scopes.{DeclaredRange, ScopeEntry, ParameterEntry, RefusedParameter, WaitingParameter, NetEntry, RegEntry, MemoryEntry, GateEntry, InstanceEntry, Scope, looked_up}
use Rattle.v_names.specs.Scopes.{range_width}
use Rattle.v_names.specs.SizedTrees.{SizedExpression, SizedConstant, SizedExpressions}
use Rattle.v_names.specs.Readings.{Size, Reading, size_or_bit, group_faults, alone_faults, sized_if, sized_reading, is_signed_number, is_empty, value_if, all_known, tree_in, name_reading}
use Rattle.v_names.specs.Readings.{bit_reading, indexed_reading, runs_alike, part_if, part_between, part_reading, ranged_reading, unary_reading, binary_reading, choice_reading, PartsReading}
use Rattle.v_names.specs.Readings.{is_unsized_number, part_before, concatenation_reading, replication_reading, reading_of, select_reading, parts_reading, constant_reading, natural_constant}
use Rattle.v_names.specs.SizedLaws.{and-left, and-right}

pub record HasNoFaults (reading : Reading) : Type 0 where
  pub here_is : reading.here ≡ []
  pub inside_is : reading.inside ≡ []

-- nothing is wrong with a reading that is complete
abbrev pub IsClean : Reading → Type 0
IsClean reading = reading.complete ≡ true → HasNoFaults reading

refused : {A : Type 0} → false ≡ true → A
refused e = absurd (let x : ⊥ = cc in x)

none-together : (xs ys : List Fault) → xs ≡ [] → ys ≡ [] → xs ++ ys ≡ []
none-together xs ys e f = ap₂ (λ (a b : List Fault). a ++ b) e f

none-in-group : (here inside : List Fault) → here ≡ [] → inside ≡ [] → group_faults here inside ≡ []
none-in-group here inside e f = ap₂ group_faults e f

pub none-alone : (reading : Reading) → HasNoFaults reading → alone_faults reading ≡ []
none-alone reading h = none-in-group reading.here reading.inside h.here_is h.inside_is

sized-by : (test : Bool) (place : SourcePlace) (size : Size) (complete : Bool) (inside : List Fault) (tree : ℕ → Bool → SizedExpression) → (complete ≡ true → inside ≡ []) →
    IsClean (sized_if test place size complete inside tree)
sized-by true place size complete inside tree h = λ c. record { here_is = refl; inside_is = h c }
sized-by false place size complete inside tree h = λ e. refused e

sized-clean : (place : SourcePlace) (width : ℕ) (signed complete : Bool) (inside : List Fault) (tree : ℕ → Bool → SizedExpression) → (complete ≡ true → inside ≡ []) →
    IsClean (sized_reading place width signed complete inside tree)
sized-clean place width signed complete inside tree h = sized-by (nat_le 1 width && nat_le width most_bits) place (record { width = width; signed = signed }) complete inside tree h

-- Names

name-clean : (entry : Option ScopeEntry) (place : SourcePlace) (name : Identifier) → IsClean (name_reading entry place name)
name-clean None place name = λ e. refused e
name-clean (Some (ParameterEntry value signed)) place name = sized-clean place (length value) signed true [] (λ width whole. SizedConstant width whole value) (λ c. refl)
name-clean (Some RefusedParameter) place name = λ c. record { here_is = refl; inside_is = refl }
name-clean (Some WaitingParameter) place name = λ c. record { here_is = refl; inside_is = refl }
name-clean (Some (NetEntry range signed)) place name = sized-clean place (range_width range) signed true [] _ (λ c. refl)
name-clean (Some (RegEntry range signed)) place name = sized-clean place (range_width range) signed true [] _ (λ c. refl)
name-clean (Some (MemoryEntry range first last signed)) place name = λ e. refused e
name-clean (Some GateEntry) place name = λ e. refused e
name-clean (Some InstanceEntry) place name = λ e. refused e

bit-clean : (ranged : Bool) (place : SourcePlace) (name : Identifier) (index : Reading) → IsClean index → IsClean (bit_reading ranged place name index)
bit-clean true place name index h = λ c. record { here_is = refl; inside_is = none-alone index (h c) }
bit-clean false place name index h = λ e. refused e

indexed-clean : (entry : Option ScopeEntry) (place : SourcePlace) (name : Identifier) (index : Reading) → IsClean index → IsClean (indexed_reading entry place name index)
indexed-clean None place name index h = λ e. refused e
indexed-clean (Some (NetEntry range signed)) place name index h = bit-clean range.ranged place name index h
indexed-clean (Some (RegEntry range signed)) place name index h = bit-clean range.ranged place name index h
indexed-clean (Some (MemoryEntry range first last signed)) place name index h = sized-clean place (range_width range) signed index.complete (alone_faults index) _ (λ c. none-alone index (h c))
indexed-clean (Some (ParameterEntry value signed)) place name index h = λ e. refused e
indexed-clean (Some RefusedParameter) place name index h = λ e. refused e
indexed-clean (Some WaitingParameter) place name index h = λ e. refused e
indexed-clean (Some GateEntry) place name index h = λ e. refused e
indexed-clean (Some InstanceEntry) place name index h = λ e. refused e

-- Constants in expressions

valued-by : (test : Bool) (size : Option Size) (signed : Bool) (tree : SizedExpression) (n : ℕ) → natural_constant (value_if test size signed tree) ≡ Some n → test ≡ true
valued-by true size signed tree n e = refl
valued-by false size signed tree n e = cc

no-element : (faults : List Fault) → is_empty faults ≡ true → faults ≡ []
no-element [] e = refl
no-element (fault ∷ faults) e = refused e

-- nothing is wrong with a constant that has a number
pub numbered-clean : (scope : Scope) (width : ℕ) (e : SourceExpression) (reading : Reading) (n : ℕ) → natural_constant (constant_reading scope width e reading) ≡ Some n → alone_faults reading ≡ []
numbered-clean scope width e reading n h =
    let test = (all_known scope e && is_empty (alone_faults reading)) && reading.complete in
    let holds : test ≡ true = valued-by test reading.size (size_or_bit reading.size).signed (tree_in width reading) n h in
    no-element (alone_faults reading) (and-right (all_known scope e) (is_empty (alone_faults reading)) (and-left (all_known scope e && is_empty (alone_faults reading)) reading.complete holds))

-- Parts of vectors

-- where both bounds have numbers nothing is wrong with them
abbrev BoundsClean : Option ℕ → Option ℕ → List Fault → Type 0
BoundsClean from to inside = (n m : ℕ) → from ≡ Some n → to ≡ Some m → inside ≡ []

part-if-clean : (alike : Bool) (place : SourcePlace) (name : Identifier) (inside : List Fault) (from to : ℕ) → inside ≡ [] → IsClean (part_if alike place name inside from to)
part-if-clean true place name inside from to h = sized-clean place (span from to) false true inside _ (λ c. h)
part-if-clean false place name inside from to h = λ e. refused e

part-between-clean : (range : DeclaredRange) (place : SourcePlace) (name : Identifier) (inside : List Fault) (from to : Option ℕ) → BoundsClean from to inside →
    IsClean (part_between range place name inside from to)
part-between-clean range place name inside None to h = λ e. refused e
part-between-clean range place name inside (Some from) None h = λ e. refused e
part-between-clean range place name inside (Some from) (Some to) h = part-if-clean (runs_alike range from to) place name inside from to (h from to refl refl)

part-clean : (ranged : Bool) (range : DeclaredRange) (place : SourcePlace) (name : Identifier) (inside : List Fault) (from to : Option ℕ) → BoundsClean from to inside →
    IsClean (part_reading ranged range place name inside from to)
part-clean true range place name inside from to h = part-between-clean range place name inside from to h
part-clean false range place name inside from to h = λ e. refused e

ranged-clean : (entry : Option ScopeEntry) (place : SourcePlace) (name : Identifier) (inside : List Fault) (from to : Option ℕ) → BoundsClean from to inside →
    IsClean (ranged_reading entry place name inside from to)
ranged-clean None place name inside from to h = λ e. refused e
ranged-clean (Some (NetEntry range signed)) place name inside from to h = part-clean range.ranged range place name inside from to h
ranged-clean (Some (RegEntry range signed)) place name inside from to h = part-clean range.ranged range place name inside from to h
ranged-clean (Some (MemoryEntry range first last signed)) place name inside from to h = λ e. refused e
ranged-clean (Some (ParameterEntry value signed)) place name inside from to h = λ e. refused e
ranged-clean (Some RefusedParameter) place name inside from to h = λ e. refused e
ranged-clean (Some WaitingParameter) place name inside from to h = λ e. refused e
ranged-clean (Some GateEntry) place name inside from to h = λ e. refused e
ranged-clean (Some InstanceEntry) place name inside from to h = λ e. refused e

-- Operators

unary-clean : (sizing : UnarySizing) (operator : UnaryOperator) (a : Reading) → IsClean a → IsClean (unary_reading sizing operator a)
unary-clean OperandWithWhole operator a h = λ c. let s = h c in record { here_is = s.here_is; inside_is = s.inside_is }
unary-clean OperandAlone operator a h = λ c. record { here_is = refl; inside_is = none-alone a (h c) }

binary-with : (sizing : BinarySizing) (operator : BinaryOperator) (a b : Reading) → HasNoFaults a → HasNoFaults b → HasNoFaults (binary_reading sizing operator a b)
binary-with BothWithWhole operator a b s t = record { here_is = none-together a.here b.here s.here_is t.here_is; inside_is = none-together a.inside b.inside s.inside_is t.inside_is }
binary-with LeftWithWhole operator a b s t = record { here_is = s.here_is; inside_is = none-together a.inside (alone_faults b) s.inside_is (none-alone b t) }
binary-with BothTogether operator a b s t = record {
  here_is = refl;
  inside_is = none-in-group (a.here ++ b.here) (a.inside ++ b.inside) (none-together a.here b.here s.here_is t.here_is) (none-together a.inside b.inside s.inside_is t.inside_is);
}
binary-with EachAlone operator a b s t = record { here_is = refl; inside_is = none-together (alone_faults a) (alone_faults b) (none-alone a s) (none-alone b t) }

pub both-complete : (sizing : BinarySizing) (operator : BinaryOperator) (a b : Reading) → (binary_reading sizing operator a b).complete ≡ true → (a.complete && b.complete) ≡ true
both-complete BothWithWhole operator a b c = c
both-complete LeftWithWhole operator a b c = c
both-complete BothTogether operator a b c = c
both-complete EachAlone operator a b c = c

binary-clean : (sizing : BinarySizing) (operator : BinaryOperator) (a b : Reading) → IsClean a → IsClean b → IsClean (binary_reading sizing operator a b)
binary-clean sizing operator a b h k = λ c.
    let all = both-complete sizing operator a b c in binary-with sizing operator a b (h (and-left a.complete b.complete all)) (k (and-right a.complete b.complete all))

choice-clean : (c a b : Reading) → IsClean c → IsClean a → IsClean b → IsClean (choice_reading c a b)
choice-clean c a b g h k = λ all.
    let rest = and-right c.complete (a.complete && b.complete) all in
    let r = g (and-left c.complete (a.complete && b.complete) all) in
    let s = h (and-left a.complete b.complete rest) in
    let t = k (and-right a.complete b.complete rest) in
    record {
      here_is = none-together a.here b.here s.here_is t.here_is;
      inside_is = none-together (alone_faults c) (a.inside ++ b.inside) (none-alone c r) (none-together a.inside b.inside s.inside_is t.inside_is);
    }

-- Concatenations

abbrev PartsClean : PartsReading → Type 0
PartsClean read = read.complete ≡ true → read.inside ≡ []

part-clean-before : (unsized : Bool) (place : SourcePlace) (reading : Reading) (rest : PartsReading) → IsClean reading → PartsClean rest → PartsClean (part_before unsized place reading rest)
part-clean-before true place reading rest h k = λ e. refused e
part-clean-before false place reading rest h k = λ c.
    none-together (alone_faults reading) rest.inside (none-alone reading (h (and-left reading.complete rest.complete c))) (k (and-right reading.complete rest.complete c))

concatenation-clean : (place : SourcePlace) (width : Option ℕ) (complete : Bool) (inside : List Fault) (trees : SizedExpressions) → (complete ≡ true → inside ≡ []) →
    IsClean (concatenation_reading place width complete inside trees)
concatenation-clean place None complete inside trees h = λ e. refused e
concatenation-clean place (Some total) complete inside trees h = sized-clean place total false complete inside _ h

replication-clean : (place : SourcePlace) (count width : Option ℕ) (complete : Bool) (inside : List Fault) (trees : SizedExpressions) → ((n : ℕ) → count ≡ Some n → complete ≡ true → inside ≡ [])
    → IsClean (replication_reading place count width complete inside trees)
replication-clean place None width complete inside trees h = λ e. refused e
replication-clean place (Some count) None complete inside trees h = λ e. refused e
replication-clean place (Some count) (Some total) complete inside trees h = sized-clean place (count * total) false complete inside _ (h count refl)

-- Expressions

mutual
  -- where an expression and all its parts have sizes, nothing is wrong with its sizes
  pub reading-clean : (scope : Scope) (e : SourceExpression) → IsClean (reading_of scope e)
  reading-clean scope (Number place form value) = sized-clean place (length value) (is_signed_number form value) true [] (λ width whole. SizedConstant width whole value) (λ c. refl)
  reading-clean scope (Selected place name index) = select-clean scope place name index
  reading-clean scope (Parenthesised place inner) = reading-clean scope inner
  reading-clean scope (Prefixed place operator operand) = unary-clean (unary_sizing operator) operator (reading_of scope operand) (reading-clean scope operand)
  reading-clean scope (Infixed place operator left right) =
      binary-clean (binary_sizing operator) operator (reading_of scope left) (reading_of scope right) (reading-clean scope left) (reading-clean scope right)
  reading-clean scope (Chosen place condition first second) =
      choice-clean (reading_of scope condition) (reading_of scope first) (reading_of scope second) (reading-clean scope condition) (reading-clean scope first) (reading-clean scope second)
  reading-clean scope (Concatenated place parts) =
      let read = parts_reading scope parts in concatenation-clean place read.width read.complete read.inside read.trees (parts-clean scope parts)
  reading-clean scope (Replicated place count parts) =
      let read = parts_reading scope parts in
      let times = reading_of scope count in
      replication-clean place (natural_constant (constant_reading scope 0 count times)) read.width read.complete (read.inside ++ alone_faults times) read.trees
      (λ n h c. none-together read.inside (alone_faults times) (parts-clean scope parts c) (numbered-clean scope 0 count times n h))

  select-clean : (scope : Scope) (place : SourcePlace) (name : Identifier) (index : SourceIndex) → IsClean (select_reading scope place name index)
  select-clean scope place name NoIndex = name-clean (looked_up scope name) place name
  select-clean scope place name (IndexAt index) = indexed-clean (looked_up scope name) place name (reading_of scope index) (reading-clean scope index)
  select-clean scope place name (IndexRange from to) =
      let first = reading_of scope from in
      let second = reading_of scope to in
      ranged-clean (looked_up scope name) place name (alone_faults first ++ alone_faults second) (natural_constant (constant_reading scope 0 from first))
      (natural_constant (constant_reading scope 0 to second))
      (λ n m h k. none-together (alone_faults first) (alone_faults second) (numbered-clean scope 0 from first n h) (numbered-clean scope 0 to second m k))

  parts-clean : (scope : Scope) (parts : SourceExpressions) → PartsClean (parts_reading scope parts)
  parts-clean scope no_parts = λ c. refl
  parts-clean scope (more_parts first rest) =
      part-clean-before (is_unsized_number first) (place_of_expression first) (reading_of scope first) (parts_reading scope rest) (reading-clean scope first) (parts-clean scope rest)
