-- An expression with whose names nothing is wrong keeps its bounds and counts in 32 bits (IEEE 1364-2001, clause 4.2.1 for parts, clause 4.1.14 for replications).
use Rattle.std.proofs.Common.{◌≡◌, ℕ, zero, suc, ◌+◌, ◌*◌, ◌^◌, ◌<◌, ◌≤◌, Bool, true, false, ◌&&◌, List, [], ◌∷◌, ◌++◌, length, Option, Some, None, nat_le, refl, sym, ap, ◌∙◌, inl, inr, arith}
use Rattle.std.specs.Prelude.{◌||◌, flat_map, nat_lt}
use Rattle.std.specs.List.{list_all}
use Rattle.std.proofs.Math.Nat.{le-mul_of_pos_right}
use Rattle.std.proofs.lemmas.Bool.{cases_Bool, leb-true, ltb-false}
use Rattle.vf_base.specs.Base.{SourcePlace}
use Rattle.vf_base.specs.Lists.{AllHold}
use Rattle.v_design.specs.Sized.{most_bits, UnarySizing, OperandWithWhole, OperandAlone, BinarySizing, BothWithWhole, LeftWithWhole, BothTogether, EachAlone, unary_sizing, binary_sizing, span}
use Rattle.four_value.specs.declared.operator.UnaryOperator.{UnaryOperator}
use Rattle.four_value.specs.declared.operator.BinaryOperator.{BinaryOperator}
use Rattle.v_tree.specs.Trees.{Identifier, SourceExpression, Number, Selected, Parenthesised, Prefixed, Infixed, Chosen, Concatenated, Replicated, SourceIndex, NoIndex, IndexAt, IndexRange}
use Rattle.v_tree.specs.Trees.{SourceExpressions, no_parts, more_parts, SourceSelect, place_of_expression, names_in}
use Rattle.v_names.specs.Faults.{Fault, NoConstant, fault_if}
use Rattle.v_names.specs.Scopes.{DeclaredRange, SignedValue, ScopeEntry, ParameterEntry, RefusedParameter, WaitingParameter, NetEntry, RegEntry, MemoryEntry, GateEntry, InstanceEntry, Scope}
use Rattle.v_names.specs.Scopes.{looked_up}
use Rattle.v_names.specs.Scopes.{range_width, is_parameter, is_known}
use Rattle.v_names.specs.SizedTrees.{SizedExpression, SizedConstant, SizedName, SizedPart, SizedWord, SizedConcatenation, SizedReplication, SizedExpressions}
use Rattle.v_names.specs.SizedLaws.{and-left, and-right}
use Rattle.v_names.specs.Readings.{Size, Reading, PartsReading, alone_faults, size_or_bit, tree_alone, tree_at, larger_size, is_signed_number, sized_if, sized_reading, name_reading, bit_reading}
use Rattle.v_names.specs.Readings.{indexed_reading, runs_alike, part_if}
use Rattle.v_names.specs.Readings.{part_reading, ranged_reading, unary_reading, binary_reading, choice_reading, is_unsized_number, part_before, concatenation_reading, replication_reading}
use Rattle.v_names.specs.Readings.{reading_of, select_reading, parts_reading, constant_reading, constant_of, number_of_constant, natural_constant, all_known, value_if, is_empty, tree_in}
use Rattle.v_names.specs.Constants.{IndexOrCount, BoundUpTo, most_bound, exceeds, is_unfit_if_some, all_parameters, some_waiting, value_faults, constant_name_faults, constant_faults, known_faults}
use Rattle.v_names.specs.Constants.{name_faults, index_faults, part_faults, select_faults}
use Rattle.flat_laws.specs.Sizes.Complete.{append-none, fault_if-none}
use Rattle.object_expr.specs.Narrow.{IsNarrowTree, AreNarrowTrees, IsNarrow, IsNarrowBound, IsNarrowIndex, IsNarrowSelect}

-- Bounds

known-parameter : (e : Option ScopeEntry) → is_known e ≡ true → is_parameter e ≡ true
known-parameter (Some (ParameterEntry value signed)) h = refl
known-parameter (Some RefusedParameter) h = refl
known-parameter (Some WaitingParameter) h = refl
known-parameter (Some (NetEntry range signed)) h = absurd (cc)
known-parameter (Some (RegEntry range signed)) h = absurd (cc)
known-parameter (Some (MemoryEntry range first last signed)) h = absurd (cc)
known-parameter (Some GateEntry) h = absurd (cc)
known-parameter (Some InstanceEntry) h = absurd (cc)
known-parameter None h = absurd (cc)

both-hold : (a b : Bool) → a ≡ true → b ≡ true → (a && b) ≡ true
both-hold true true h k = refl
both-hold true false h k = k
both-hold false b h k = h

all-parameters : (scope : Scope) (names : List Identifier) → list_all (λ name. is_known (looked_up scope name)) names ≡ true → list_all (λ name. is_parameter (looked_up scope name)) names ≡ true
all-parameters scope [] h = refl
all-parameters scope (name ∷ names) h =
    both-hold (is_parameter (looked_up scope name)) (list_all (λ n. is_parameter (looked_up scope n)) names)
    (known-parameter (looked_up scope name) (and-left (is_known (looked_up scope name)) (list_all (λ n. is_known (looked_up scope n)) names) h))
    (all-parameters scope names (and-right (is_known (looked_up scope name)) (list_all (λ n. is_known (looked_up scope n)) names) h))

-- a constant that has a value names parameters alone
value-passes : (test : Bool) (size : Option Size) (signed : Bool) (tree : SizedExpression) (c : SignedValue) → value_if test size signed tree ≡ Some c → test ≡ true
value-passes true size signed tree c e = refl
value-passes false size signed tree c e = absurd (cc)

constant-parameters : (scope : Scope) (e : SourceExpression) (c : SignedValue) → constant_of scope 0 e ≡ Some c → all_parameters scope e ≡ true
constant-parameters scope e c is =
    let reading = reading_of scope e in
    let test = value-passes (all_known scope e && is_empty (alone_faults reading) && reading.complete) reading.size (size_or_bit reading.size).signed (tree_in 0 reading) c is in
    let known = and-left (all_known scope e) (is_empty (alone_faults reading)) (and-left (all_known scope e && is_empty (alone_faults reading)) reading.complete test) in
    all-parameters scope (names_in e) known

unfit-false : (parameters waiting unfit : Bool) → parameters ≡ true → (parameters && (waiting || unfit)) ≡ false → unfit ≡ false
unfit-false true true unfit p e = absurd (cc)
unfit-false true false unfit p e = e
unfit-false false waiting unfit p e = absurd (cc)

bound-by : (scope : Scope) (e : SourceExpression) (n : ℕ) (c : Option SignedValue) → constant_of scope 0 e ≡ c → natural_constant c ≡ Some n →
    (all_parameters scope e && (some_waiting scope e || is_unfit_if_some (BoundUpTo most_bound) c)) ≡ false → n ≤ most_bound
bound-by scope e n None is number test = absurd (cc)
bound-by scope e n (Some c) is number test =
    let unfit = unfit-false (all_parameters scope e) (some_waiting scope e) (is_unfit_if_some (BoundUpTo most_bound) (Some c)) (constant-parameters scope e c is) test in
    let over : nat_lt most_bound n ≡ false = ap (exceeds most_bound) (sym number) ∙ unfit in
    ltb-false most_bound n over

-- a bound of which nothing is wrong
pub bound-narrow : (scope : Scope) (e : SourceExpression) → constant_faults scope (BoundUpTo most_bound) e ≡ [] → IsNarrowBound scope e
bound-narrow scope e faults n is =
    let split = append-none (constant_name_faults scope e) (value_faults scope (BoundUpTo most_bound) e) faults in
    let test = fault_if-none (all_parameters scope e && (some_waiting scope e || is_unfit_if_some (BoundUpTo most_bound) (constant_of scope 0 e))) (place_of_expression e) NoConstant split.1 in
    let few = bound-by scope e n (constant_of scope 0 e) refl is test in
    omega (arith, few)

-- Readings

abbrev NarrowReading : Reading → Type 0
NarrowReading reading = (width : ℕ) (signed : Bool) → IsNarrowTree (reading.tree width signed)

abbrev NarrowBound : Option ℕ → Type 0
NarrowBound bound = (n : ℕ) → bound ≡ Some n → n < 2 ^ 32

if-narrow : (test : Bool) (place : SourcePlace) (size : Size) (complete : Bool) (inside : List Fault) (tree : ℕ → Bool → SizedExpression) →
    (test ≡ true → (width : ℕ) (signed : Bool) → IsNarrowTree (tree width signed)) → NarrowReading (sized_if test place size complete inside tree)
if-narrow true place size complete inside tree h width signed = h refl width signed
if-narrow false place size complete inside tree h width signed = tt

sized-narrow : (place : SourcePlace) (own : ℕ) (sign complete : Bool) (inside : List Fault) (tree : ℕ → Bool → SizedExpression) →
    ((nat_le 1 own && nat_le own most_bits) ≡ true → (width : ℕ) (signed : Bool) → IsNarrowTree (tree width signed)) → NarrowReading (sized_reading place own sign complete inside tree)
sized-narrow place own sign complete inside tree h width signed =
    if-narrow (nat_le 1 own && nat_le own most_bits) place (record { width = own; signed = sign }) complete inside tree h width signed

name-narrow : (entry : Option ScopeEntry) (place : SourcePlace) (name : Identifier) → NarrowReading (name_reading entry place name)
name-narrow None place name = λ width signed. tt
name-narrow (Some (ParameterEntry value own)) place name = sized-narrow place (length value) own true [] (λ w s. SizedConstant w s value) (λ e w s. tt)
name-narrow (Some RefusedParameter) place name = λ width signed. tt
name-narrow (Some WaitingParameter) place name = λ width signed. tt
name-narrow (Some (NetEntry range own)) place name = sized-narrow place (range_width range) own true [] (λ w s. SizedName w s name) (λ e w s. tt)
name-narrow (Some (RegEntry range own)) place name = sized-narrow place (range_width range) own true [] (λ w s. SizedName w s name) (λ e w s. tt)
name-narrow (Some (MemoryEntry range first last own)) place name = λ width signed. tt
name-narrow (Some GateEntry) place name = λ width signed. tt
name-narrow (Some InstanceEntry) place name = λ width signed. tt

alone-narrow : (reading : Reading) → NarrowReading reading → IsNarrowTree (tree_alone reading)
alone-narrow reading h = h (size_or_bit reading.size).width (size_or_bit reading.size).signed

bit-narrow : (ranged : Bool) (place : SourcePlace) (name : Identifier) (index : Reading) → NarrowReading index → NarrowReading (bit_reading ranged place name index)
bit-narrow true place name index h width signed = alone-narrow index h
bit-narrow false place name index h width signed = tt

indexed-narrow : (entry : Option ScopeEntry) (place : SourcePlace) (name : Identifier) (index : Reading) → NarrowReading index → NarrowReading (indexed_reading entry place name index)
indexed-narrow None place name index h width signed = tt
indexed-narrow (Some (NetEntry range own)) place name index h width signed = bit-narrow range.ranged place name index h width signed
indexed-narrow (Some (RegEntry range own)) place name index h width signed = bit-narrow range.ranged place name index h width signed
indexed-narrow (Some (MemoryEntry range first last own)) place name index h width signed =
    sized-narrow place (range_width range) own index.complete (alone_faults index) (λ w s. SizedWord w s name (tree_alone index)) (λ e w s. alone-narrow index h) width signed
indexed-narrow (Some (ParameterEntry value own)) place name index h width signed = tt
indexed-narrow (Some RefusedParameter) place name index h width signed = tt
indexed-narrow (Some WaitingParameter) place name index h width signed = tt
indexed-narrow (Some GateEntry) place name index h width signed = tt
indexed-narrow (Some InstanceEntry) place name index h width signed = tt

part-narrow : (alike : Bool) (place : SourcePlace) (name : Identifier) (inside : List Fault) (from to : ℕ) → from < 2 ^ 32 → to < 2 ^ 32 → NarrowReading (part_if alike place name inside from to)
part-narrow true place name inside from to f t width signed = sized-narrow place (span from to) false true inside (λ w s. SizedPart w s name from to) (λ e w s. (f, t)) width signed
part-narrow false place name inside from to f t width signed = tt

between-narrow : (ranged : Bool) (range : DeclaredRange) (place : SourcePlace) (name : Identifier) (inside : List Fault) (from to : Option ℕ) → NarrowBound from → NarrowBound to →
    NarrowReading (part_reading ranged range place name inside from to)
between-narrow true range place name inside None to f t width signed = tt
between-narrow true range place name inside (Some from) None f t width signed = tt
between-narrow true range place name inside (Some from) (Some to) f t width signed = part-narrow (runs_alike range from to) place name inside from to (f from refl) (t to refl) width signed
between-narrow false range place name inside from to f t width signed = tt

ranged-narrow : (entry : Option ScopeEntry) (place : SourcePlace) (name : Identifier) (inside : List Fault) (from to : Option ℕ) → NarrowBound from → NarrowBound to →
    NarrowReading (ranged_reading entry place name inside from to)
ranged-narrow None place name inside from to f t width signed = tt
ranged-narrow (Some (NetEntry range own)) place name inside from to f t width signed = between-narrow range.ranged range place name inside from to f t width signed
ranged-narrow (Some (RegEntry range own)) place name inside from to f t width signed = between-narrow range.ranged range place name inside from to f t width signed
ranged-narrow (Some (MemoryEntry range first last own)) place name inside from to f t width signed = tt
ranged-narrow (Some (ParameterEntry value own)) place name inside from to f t width signed = tt
ranged-narrow (Some RefusedParameter) place name inside from to f t width signed = tt
ranged-narrow (Some WaitingParameter) place name inside from to f t width signed = tt
ranged-narrow (Some GateEntry) place name inside from to f t width signed = tt
ranged-narrow (Some InstanceEntry) place name inside from to f t width signed = tt

unary-narrow : (sizing : UnarySizing) (operator : UnaryOperator) (a : Reading) → NarrowReading a → NarrowReading (unary_reading sizing operator a)
unary-narrow OperandWithWhole operator a h width signed = h width signed
unary-narrow OperandAlone operator a h width signed = alone-narrow a h

at-narrow : (reading : Reading) (size : Option Size) → NarrowReading reading → IsNarrowTree (tree_at reading size)
at-narrow reading size h = h (size_or_bit size).width (size_or_bit size).signed

binary-narrow : (sizing : BinarySizing) (operator : BinaryOperator) (a b : Reading) → NarrowReading a → NarrowReading b → NarrowReading (binary_reading sizing operator a b)
binary-narrow BothWithWhole operator a b h k width signed = (h width signed, k width signed)
binary-narrow LeftWithWhole operator a b h k width signed = (h width signed, alone-narrow b k)
binary-narrow BothTogether operator a b h k width signed = (at-narrow a (larger_size a.size b.size) h, at-narrow b (larger_size a.size b.size) k)
binary-narrow EachAlone operator a b h k width signed = (alone-narrow a h, alone-narrow b k)

choice-narrow : (c a b : Reading) → NarrowReading c → NarrowReading a → NarrowReading b → NarrowReading (choice_reading c a b)
choice-narrow c a b h k l width signed = (alone-narrow c h, k width signed, l width signed)

part-before-narrow : (unsized : Bool) (place : SourcePlace) (reading : Reading) (rest : PartsReading) → NarrowReading reading → AreNarrowTrees rest.trees →
    AreNarrowTrees (part_before unsized place reading rest).trees
part-before-narrow true place reading rest h k = (alone-narrow reading h, k)
part-before-narrow false place reading rest h k = (alone-narrow reading h, k)

concatenation-narrow : (place : SourcePlace) (total : Option ℕ) (complete : Bool) (inside : List Fault) (trees : SizedExpressions) → AreNarrowTrees trees →
    NarrowReading (concatenation_reading place total complete inside trees)
concatenation-narrow place None complete inside trees h width signed = tt
concatenation-narrow place (Some total) complete inside trees h width signed = sized-narrow place total false complete inside (λ w s. SizedConcatenation w s trees) (λ e w s. h) width signed

-- a count of parts that have bits is at most as many as the bits together
count-few : (count total : ℕ) → (nat_le 1 (count * total) && nat_le (count * total) most_bits) ≡ true → count < 2 ^ 32
count-few count zero e =
    let some = leb-true 1 (count * 0) (and-left (nat_le 1 (count * 0)) (nat_le (count * 0) most_bits) e) in absurd (omega (arith, some))
count-few count (suc total) e =
    let few = leb-true (count * suc total) most_bits (and-right (nat_le 1 (count * suc total)) (nat_le (count * suc total) most_bits) e) in
    let least = le-mul_of_pos_right {m = suc total} count (omega arith) in
    omega (arith, few, least)

replication-narrow : (place : SourcePlace) (count total : Option ℕ) (complete : Bool) (inside : List Fault) (trees : SizedExpressions) → AreNarrowTrees trees →
    NarrowReading (replication_reading place count total complete inside trees)
replication-narrow place None total complete inside trees h width signed = tt
replication-narrow place (Some count) None complete inside trees h width signed = tt
replication-narrow place (Some count) (Some total) complete inside trees h width signed =
    sized-narrow place (count * total) false complete inside (λ w s. SizedReplication w s count trees) (λ e w s. (count-few count total e, h)) width signed

-- Expressions

mutual
  -- an expression with whose names nothing is wrong
  pub expression-narrow : (scope : Scope) (e : SourceExpression) → name_faults scope e ≡ [] → IsNarrow scope e
  expression-narrow scope (Number place form value) e = sized-narrow place (length value) (is_signed_number form value) true [] (λ w s. SizedConstant w s value) (λ t w s. tt)
  expression-narrow scope (Selected place name index) e = select-narrow scope place name index (append-none (known_faults (looked_up scope name) place) (index_faults scope index) e).1
  expression-narrow scope (Parenthesised place inner) e = expression-narrow scope inner e
  expression-narrow scope (Prefixed place operator operand) e = unary-narrow (unary_sizing operator) operator (reading_of scope operand) (expression-narrow scope operand e)
  expression-narrow scope (Infixed place operator left right) e =
      let none = append-none (name_faults scope left) (name_faults scope right) e in
      binary-narrow (binary_sizing operator) operator (reading_of scope left) (reading_of scope right) (expression-narrow scope left none.0) (expression-narrow scope right none.1)
  expression-narrow scope (Chosen place condition first second) e =
      let none = append-none (name_faults scope condition) (name_faults scope first ++ name_faults scope second) e in
      let rest = append-none (name_faults scope first) (name_faults scope second) none.1 in
      choice-narrow (reading_of scope condition) (reading_of scope first) (reading_of scope second) (expression-narrow scope condition none.0) (expression-narrow scope first rest.0)
      (expression-narrow scope second rest.1)
  expression-narrow scope (Concatenated place parts) e =
      let read = parts_reading scope parts in concatenation-narrow place read.width read.complete read.inside read.trees (parts-narrow scope parts e)
  expression-narrow scope (Replicated place count parts) e =
      let none = append-none (constant_faults scope IndexOrCount count) (part_faults scope parts) e in
      let read = parts_reading scope parts in
      let times = reading_of scope count in
      replication-narrow place (natural_constant (constant_reading scope 0 count times)) read.width read.complete (read.inside ++ alone_faults times) read.trees (parts-narrow scope parts none.1)

  pub select-narrow : (scope : Scope) (place : SourcePlace) (name : Identifier) (index : SourceIndex) → index_faults scope index ≡ [] →
      (width : ℕ) (signed : Bool) → IsNarrowTree ((select_reading scope place name index).tree width signed)
  select-narrow scope place name NoIndex e = name-narrow (looked_up scope name) place name
  select-narrow scope place name (IndexAt index) e = indexed-narrow (looked_up scope name) place name (reading_of scope index) (expression-narrow scope index e)
  select-narrow scope place name (IndexRange from to) e =
      let none = append-none (constant_faults scope (BoundUpTo most_bound) from) (constant_faults scope (BoundUpTo most_bound) to) e in
      ranged-narrow (looked_up scope name) place name (alone_faults (reading_of scope from) ++ alone_faults (reading_of scope to)) (number_of_constant scope from) (number_of_constant scope to)
      (bound-narrow scope from none.0) (bound-narrow scope to none.1)

  pub parts-narrow : (scope : Scope) (parts : SourceExpressions) → part_faults scope parts ≡ [] → AreNarrowTrees (parts_reading scope parts).trees
  parts-narrow scope no_parts e = tt
  parts-narrow scope (more_parts first rest) e =
      let none = append-none (name_faults scope first) (part_faults scope rest) e in
      part-before-narrow (is_unsized_number first) (place_of_expression first) (reading_of scope first) (parts_reading scope rest) (expression-narrow scope first none.0)
      (parts-narrow scope rest none.1)

-- the index of a target
pub index-narrow : (scope : Scope) (index : SourceIndex) → index_faults scope index ≡ [] → IsNarrowIndex scope index
index-narrow scope NoIndex e = tt
index-narrow scope (IndexAt index) e = expression-narrow scope index e
index-narrow scope (IndexRange from to) e =
    let none = append-none (constant_faults scope (BoundUpTo most_bound) from) (constant_faults scope (BoundUpTo most_bound) to) e in
    (bound-narrow scope from none.0, bound-narrow scope to none.1)

-- the selects of a target
pub selects-narrow : (scope : Scope) (selects : List SourceSelect) → flat_map (select_faults scope) selects ≡ [] → AllHold (IsNarrowSelect scope) selects
selects-narrow scope [] e = tt
selects-narrow scope (select ∷ rest) e =
    let none = append-none (select_faults scope select) (flat_map (select_faults scope) rest) e in
    (index-narrow scope select.index (append-none (known_faults (looked_up scope select.name) select.place) (index_faults scope select.index) none.0).1, selects-narrow scope rest none.1)
