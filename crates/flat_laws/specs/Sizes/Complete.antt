-- An expression of which nothing is wrong has a size, and so have all its parts (IEEE 1364-2001, clause 4.4 and clause 4.5; that sizes are refused is own).
use Rattle.std.proofs.Common.{◌≡◌, ℕ, ◌+◌, ◌*◌, Bool, true, false, ◌&&◌, List, [], ◌∷◌, ◌++◌, length, map, Option, Some, None, nat_le, refl, sym, ap, ◌∙◌, inl, inr}
use Rattle.std.specs.Prelude.{◌||◌, not, filter}
use Rattle.std.specs.List.{list_all, list_any}
use Rattle.std.proofs.lemmas.Bool.{cases_Bool, cond-true, cond-false}
use Rattle.std.proofs.lemmas.List.{map-append, append-nil}
use Rattle.vf_base.specs.Base.{SourcePlace}
use Rattle.four_value.specs.Values.{natural_number}
use Rattle.four_value.specs.declared.operator.UnaryOperator.{UnaryOperator}
use Rattle.four_value.specs.declared.operator.BinaryOperator.{BinaryOperator}
use Rattle.v_design.specs.Sized.{span, most_bits, UnarySizing, OperandWithWhole, OperandAlone, unary_sizing, BinarySizing, BothWithWhole, LeftWithWhole, BothTogether, EachAlone, binary_sizing}
use Rattle.v_tree.specs.Trees.{Identifier, SourceExpression, Number, Selected, Parenthesised, Prefixed, Infixed, Chosen, Concatenated, Replicated, SourceIndex, NoIndex, IndexAt, IndexRange}
use Rattle.v_tree.specs.Trees.{SourceExpressions, no_parts, more_parts, NamedPlace, place_of_expression, named_in, named_in_index, named_in_parts}
use Rattle.v_names.specs.Faults.{Wrong, UnknownName, DeclaredTwice, NoConstant, BadWidth, BadConnection, WrongKind, TooDeep, Fault, fault_at, fault_if}
use Rattle.v_names.specs.Scopes.{SignedValue, DeclaredRange, ScopeEntry, ParameterEntry, RefusedParameter, WaitingParameter, NetEntry, RegEntry, MemoryEntry, GateEntry, InstanceEntry, Scope}
use Rattle.v_names.specs.Scopes.{looked_up, range_width, is_parameter, is_known}
use Rattle.v_names.specs.SizedTrees.{SizedExpression, SizedConstant, SizedExpressions}
use Rattle.v_names.specs.Readings.{Size, Reading, is_wrong_kind, is_bad_width, group_faults, alone_faults, size_or_bit, sized_if, sized_reading, is_signed_number, is_empty, value_if, all_known}
use Rattle.v_names.specs.Readings.{tree_in, natural_constant, name_reading, bit_reading, indexed_reading, runs_alike, part_if, part_between, part_reading, ranged_reading, unary_reading}
use Rattle.v_names.specs.Readings.{binary_reading, choice_reading, PartsReading, width_with, is_unsized_number, part_before, concatenation_reading, replication_reading, reading_of, select_reading}
use Rattle.v_names.specs.Readings.{parts_reading, constant_reading, constant_of, number_of_constant, constant_value}
use Rattle.v_names.specs.Constants.{ConstantPlace, IndexOrCount, BoundUpTo, most_bound, exceeds, is_missing, is_unfit, is_unfit_if_some, all_parameters, some_waiting, value_faults, parameter_faults}
use Rattle.v_names.specs.Constants.{known_faults, constant_name_faults, constant_index_faults, constant_part_faults, constant_faults, name_faults, index_faults, part_faults}
use Rattle.v_names.specs.OwnSizes.{own-size-is}
use Rattle.v_names.specs.SizedLaws.{and-left, and-right}
use Rattle.flat_laws.specs.Hierarchy.Given.{both-true}
use Rattle.flat_laws.specs.Sizes.Objects.{all-append}

-- Faults

pub append-none : {A : Type 0} (xs ys : List A) → xs ++ ys ≡ [] → (xs ≡ []) × (ys ≡ [])
append-none [] ys e = (refl, e)
append-none (x ∷ xs) ys e = absurd (cc)

pub fault_if-none : (test : Bool) (place : SourcePlace) (wrong : Wrong) → fault_if test place wrong ≡ [] → test ≡ false
fault_if-none true place wrong e = absurd (cc)
fault_if-none false place wrong e = refl

-- a fault of kind is none of width
kind-kept : (place : SourcePlace) (wrong : Wrong) → is_wrong_kind (fault_at place wrong) ≡ true → not (is_bad_width (fault_at place wrong)) ≡ true
kind-kept place WrongKind e = refl
kind-kept place UnknownName e = absurd (cc)
kind-kept place DeclaredTwice e = absurd (cc)
kind-kept place NoConstant e = absurd (cc)
kind-kept place BadWidth e = absurd (cc)
kind-kept place BadConnection e = absurd (cc)
kind-kept place TooDeep e = absurd (cc)

no-kind : (here : List Fault) → filter (λ fault. not (is_bad_width fault)) here ≡ [] → list_any is_wrong_kind here ≡ false
no-kind [] e = refl
no-kind (fault ∷ here) e =
    let rest = filter (λ other. not (is_bad_width other)) here in
    elim (cases_Bool (not (is_bad_width fault))) [
      | inl kept ↦ let is : fault ∷ rest ≡ [] = sym (cond-true (not (is_bad_width fault)) (fault ∷ rest) rest kept) ∙ e in absurd (cc)
      | inr lost ↦
          let later : list_any is_wrong_kind here ≡ false = no-kind here (sym (cond-false (not (is_bad_width fault)) (fault ∷ rest) rest lost) ∙ e) in
          elim (cases_Bool (is_wrong_kind fault)) [
            | inl kind ↦ let both : true ≡ false = sym (kind-kept fault.place fault.wrong kind) ∙ lost in absurd (cc)
            | inr other ↦ ap (λ b. b || list_any is_wrong_kind here) other ∙ later
          ]
    ]

kept-true : (here inside : List Fault) → list_any is_wrong_kind (here ++ inside) ≡ true → group_faults here inside ≡ filter (λ fault. not (is_bad_width fault)) here ++ inside
kept-true here inside e = rw e

kept-false : (here inside : List Fault) → list_any is_wrong_kind (here ++ inside) ≡ false → group_faults here inside ≡ here ++ inside
kept-false here inside e = rw e

-- a group without faults has none here and none inside
pub group-none : (here inside : List Fault) → group_faults here inside ≡ [] → (here ≡ []) × (inside ≡ [])
group-none here inside e =
    elim (cases_Bool (list_any is_wrong_kind (here ++ inside))) [
      | inl kind ↦
          let none = append-none (filter (λ fault. not (is_bad_width fault)) here) inside (sym (kept-true here inside kind) ∙ e) in
          let alone : list_any is_wrong_kind here ≡ true = ap (list_any is_wrong_kind) (sym (append-nil here)) ∙ ap (λ l. list_any is_wrong_kind (here ++ l)) (sym none.1) ∙ kind in
          let both : true ≡ false = sym alone ∙ no-kind here none.0 in
          absurd (cc)
      | inr other ↦ append-none here inside (sym (kept-false here inside other) ∙ e)
    ]

-- Readings

-- a reading of which nothing is wrong is complete
abbrev pub IsFull : Reading → Type 0
IsFull reading = reading.here ≡ [] → reading.inside ≡ [] → reading.complete ≡ true

pub full-alone : (reading : Reading) → IsFull reading → alone_faults reading ≡ [] → reading.complete ≡ true
full-alone reading full e = let none = group-none reading.here reading.inside e in full none.0 none.1

sized_if-full : (test : Bool) (place : SourcePlace) (size : Size) (complete : Bool) (inside : List Fault) (tree : ℕ → Bool → SizedExpression) → (inside ≡ [] → complete ≡ true) →
    IsFull (sized_if test place size complete inside tree)
sized_if-full true place size complete inside tree f h i = f i
sized_if-full false place size complete inside tree f h i = absurd (cc)

sized-full : (place : SourcePlace) (width : ℕ) (signed complete : Bool) (inside : List Fault) (tree : ℕ → Bool → SizedExpression) → (inside ≡ [] → complete ≡ true) →
    IsFull (sized_reading place width signed complete inside tree)
sized-full place width signed complete inside tree f = sized_if-full (nat_le 1 width && nat_le width most_bits) place (record { width = width; signed = signed }) complete inside tree f

name-full : (entry : Option ScopeEntry) (place : SourcePlace) (name : Identifier) → known_faults entry place ≡ [] → IsFull (name_reading entry place name)
name-full None place name e = λ h i. absurd (cc)
name-full (Some (ParameterEntry value signed)) place name e = sized-full place (length value) signed true [] (λ width whole. SizedConstant width whole value) (λ j. refl)
name-full (Some RefusedParameter) place name e = λ h i. refl
name-full (Some WaitingParameter) place name e = λ h i. refl
name-full (Some (NetEntry range signed)) place name e = sized-full place (range_width range) signed true [] _ (λ j. refl)
name-full (Some (RegEntry range signed)) place name e = sized-full place (range_width range) signed true [] _ (λ j. refl)
name-full (Some (MemoryEntry range first last signed)) place name e = λ h i. absurd (cc)
name-full (Some GateEntry) place name e = λ h i. absurd (cc)
name-full (Some InstanceEntry) place name e = λ h i. absurd (cc)

bit-full : (ranged : Bool) (place : SourcePlace) (name : Identifier) (index : Reading) → IsFull index → IsFull (bit_reading ranged place name index)
bit-full true place name index f h i = full-alone index f i
bit-full false place name index f h i = absurd (cc)

indexed-full : (entry : Option ScopeEntry) (place : SourcePlace) (name : Identifier) (index : Reading) → known_faults entry place ≡ [] → IsFull index → IsFull (indexed_reading entry place name index)
indexed-full None place name index e f = λ h i. absurd (cc)
indexed-full (Some (NetEntry range signed)) place name index e f = bit-full range.ranged place name index f
indexed-full (Some (RegEntry range signed)) place name index e f = bit-full range.ranged place name index f
indexed-full (Some (MemoryEntry range first last signed)) place name index e f = sized-full place (range_width range) signed index.complete (alone_faults index) _ (λ i. full-alone index f i)
indexed-full (Some (ParameterEntry value signed)) place name index e f = λ h i. absurd (cc)
indexed-full (Some RefusedParameter) place name index e f = λ h i. absurd (cc)
indexed-full (Some WaitingParameter) place name index e f = λ h i. absurd (cc)
indexed-full (Some GateEntry) place name index e f = λ h i. absurd (cc)
indexed-full (Some InstanceEntry) place name index e f = λ h i. absurd (cc)

-- both bounds have numbers, where nothing is wrong with them
abbrev BoundsThere : Option ℕ → Option ℕ → List Fault → Type 0
BoundsThere from to inside = inside ≡ [] → ((n : ℕ) × (from ≡ Some n)) × ((n : ℕ) × (to ≡ Some n))

part_if-full : (alike : Bool) (place : SourcePlace) (name : Identifier) (inside : List Fault) (from to : ℕ) → IsFull (part_if alike place name inside from to)
part_if-full true place name inside from to = sized-full place (span from to) false true inside _ (λ i. refl)
part_if-full false place name inside from to = λ h i. absurd (cc)

part_between-full : (range : DeclaredRange) (place : SourcePlace) (name : Identifier) (inside : List Fault) (from to : Option ℕ) → BoundsThere from to inside →
    IsFull (part_between range place name inside from to)
part_between-full range place name inside None to f = λ h i. let there = (f i).0.1 in absurd (cc)
part_between-full range place name inside (Some from) None f = λ h i. let there = (f i).1.1 in absurd (cc)
part_between-full range place name inside (Some from) (Some to) f = part_if-full (runs_alike range from to) place name inside from to

part-full : (ranged : Bool) (range : DeclaredRange) (place : SourcePlace) (name : Identifier) (inside : List Fault) (from to : Option ℕ) → BoundsThere from to inside →
    IsFull (part_reading ranged range place name inside from to)
part-full true range place name inside from to f = part_between-full range place name inside from to f
part-full false range place name inside from to f = λ h i. absurd (cc)

ranged-full : (entry : Option ScopeEntry) (place : SourcePlace) (name : Identifier) (inside : List Fault) (from to : Option ℕ) → known_faults entry place ≡ [] → BoundsThere from to inside →
    IsFull (ranged_reading entry place name inside from to)
ranged-full None place name inside from to e f = λ h i. absurd (cc)
ranged-full (Some (NetEntry range signed)) place name inside from to e f = part-full range.ranged range place name inside from to f
ranged-full (Some (RegEntry range signed)) place name inside from to e f = part-full range.ranged range place name inside from to f
ranged-full (Some (MemoryEntry range first last signed)) place name inside from to e f = λ h i. absurd (cc)
ranged-full (Some (ParameterEntry value signed)) place name inside from to e f = λ h i. absurd (cc)
ranged-full (Some RefusedParameter) place name inside from to e f = λ h i. absurd (cc)
ranged-full (Some WaitingParameter) place name inside from to e f = λ h i. absurd (cc)
ranged-full (Some GateEntry) place name inside from to e f = λ h i. absurd (cc)
ranged-full (Some InstanceEntry) place name inside from to e f = λ h i. absurd (cc)

unary-full : (sizing : UnarySizing) (operator : UnaryOperator) (a : Reading) → IsFull a → IsFull (unary_reading sizing operator a)
unary-full OperandWithWhole operator a f h i = f h i
unary-full OperandAlone operator a f h i = full-alone a f i

binary-full : (sizing : BinarySizing) (operator : BinaryOperator) (a b : Reading) → IsFull a → IsFull b → IsFull (binary_reading sizing operator a b)
binary-full BothWithWhole operator a b f g h i =
    let here = append-none a.here b.here h in let inside = append-none a.inside b.inside i in both-true a.complete b.complete (f here.0 inside.0) (g here.1 inside.1)
binary-full LeftWithWhole operator a b f g h i = let inside = append-none a.inside (alone_faults b) i in both-true a.complete b.complete (f h inside.0) (full-alone b g inside.1)
binary-full BothTogether operator a b f g h i =
    let group = group-none (a.here ++ b.here) (a.inside ++ b.inside) i in
    let here = append-none a.here b.here group.0 in
    let inside = append-none a.inside b.inside group.1 in
    both-true a.complete b.complete (f here.0 inside.0) (g here.1 inside.1)
binary-full EachAlone operator a b f g h i = let inside = append-none (alone_faults a) (alone_faults b) i in both-true a.complete b.complete (full-alone a f inside.0) (full-alone b g inside.1)

choice-full : (c a b : Reading) → IsFull c → IsFull a → IsFull b → IsFull (choice_reading c a b)
choice-full c a b k f g h i =
    let here = append-none a.here b.here h in
    let first = append-none (alone_faults c) (a.inside ++ b.inside) i in
    let inside = append-none a.inside b.inside first.1 in
    both-true c.complete (a.complete && b.complete) (full-alone c k first.0) (both-true a.complete b.complete (f here.0 inside.0) (g here.1 inside.1))

-- Concatenations

abbrev pub PartsFull : PartsReading → Type 0
PartsFull read = read.inside ≡ [] → read.complete ≡ true

parts-full-before : (unsized : Bool) (place : SourcePlace) (reading : Reading) (rest : PartsReading) → IsFull reading → PartsFull rest → PartsFull (part_before unsized place reading rest)
parts-full-before true place reading rest f g i = absurd (cc)
parts-full-before false place reading rest f g i = let inside = append-none (alone_faults reading) rest.inside i in
    both-true reading.complete rest.complete (full-alone reading f inside.0) (g inside.1)

-- parts that are complete have a width together
widths-before : (unsized : Bool) (place : SourcePlace) (reading : Reading) (rest : PartsReading) → (reading.complete ≡ true → (z : Size) × (reading.size ≡ Some z)) →
    (rest.complete ≡ true → (n : ℕ) × (rest.width ≡ Some n)) →
    (part_before unsized place reading rest).complete ≡ true → (n : ℕ) × ((part_before unsized place reading rest).width ≡ Some n)
widths-before true place reading rest f g c = absurd (cc)
widths-before false place reading rest f g c =
    let size = f (and-left reading.complete rest.complete c) in
    let width = g (and-right reading.complete rest.complete c) in
    (size.0.width + width.0, ap (λ z. width_with z rest.width) size.1 ∙ ap (width_with (Some size.0)) width.1)

parts-width : (scope : Scope) (parts : SourceExpressions) → (parts_reading scope parts).complete ≡ true → (n : ℕ) × ((parts_reading scope parts).width ≡ Some n)
parts-width scope no_parts c = (0, refl)
parts-width scope (more_parts first rest) c =
    widths-before (is_unsized_number first) (place_of_expression first) (reading_of scope first) (parts_reading scope rest) (own-size-is scope first).some_size (parts-width scope rest) c

concatenation-full : (place : SourcePlace) (width : Option ℕ) (complete : Bool) (inside : List Fault) (trees : SizedExpressions) → (inside ≡ [] → complete ≡ true) →
    (complete ≡ true → (n : ℕ) × (width ≡ Some n)) →
    IsFull (concatenation_reading place width complete inside trees)
concatenation-full place None complete inside trees f g = λ h i. let there = (g (f i)).1 in absurd (cc)
concatenation-full place (Some total) complete inside trees f g = sized-full place total false complete inside _ f

replication-full : (place : SourcePlace) (count width : Option ℕ) (complete : Bool) (inside : List Fault) (trees : SizedExpressions) → (inside ≡ [] → complete ≡ true) →
    (complete ≡ true → (n : ℕ) × (width ≡ Some n)) →
    (inside ≡ [] → (n : ℕ) × (count ≡ Some n)) → IsFull (replication_reading place count width complete inside trees)
replication-full place None width complete inside trees f g k = λ h i. let there = (k i).1 in absurd (cc)
replication-full place (Some count) None complete inside trees f g k = λ h i. let there = (g (f i)).1 in absurd (cc)
replication-full place (Some count) (Some total) complete inside trees f g k = sized-full place (count * total) false complete inside _ f

-- Constants

-- a parameter has a value
abbrev pub IsSettledEntry : Option ScopeEntry → Type 0
IsSettledEntry (Some RefusedParameter) = ⊥
IsSettledEntry (Some WaitingParameter) = ⊥
IsSettledEntry _ = Unit {0}

-- each parameter of a scope has a value
abbrev pub IsSettled : Scope → Type 0
IsSettled scope = (name : Identifier) → IsSettledEntry (looked_up scope name)

parameter-known : (entry : Option ScopeEntry) (place : SourcePlace) → IsSettledEntry entry → parameter_faults entry place ≡ [] → is_known entry ≡ true
parameter-known None place s e = absurd (cc)
parameter-known (Some (ParameterEntry value signed)) place s e = refl
parameter-known (Some RefusedParameter) place s e = absurd s
parameter-known (Some WaitingParameter) place s e = absurd s
parameter-known (Some (NetEntry range signed)) place s e = absurd (cc)
parameter-known (Some (RegEntry range signed)) place s e = absurd (cc)
parameter-known (Some (MemoryEntry range first last signed)) place s e = absurd (cc)
parameter-known (Some GateEntry) place s e = absurd (cc)
parameter-known (Some InstanceEntry) place s e = absurd (cc)

known-parameter : (entry : Option ScopeEntry) → is_known entry ≡ true → is_parameter entry ≡ true
known-parameter None e = absurd (cc)
known-parameter (Some (ParameterEntry value signed)) e = refl
known-parameter (Some RefusedParameter) e = absurd (cc)
known-parameter (Some WaitingParameter) e = absurd (cc)
known-parameter (Some (NetEntry range signed)) e = absurd (cc)
known-parameter (Some (RegEntry range signed)) e = absurd (cc)
known-parameter (Some (MemoryEntry range first last signed)) e = absurd (cc)
known-parameter (Some GateEntry) e = absurd (cc)
known-parameter (Some InstanceEntry) e = absurd (cc)

parameter-there : (entry : Option ScopeEntry) (place : SourcePlace) → parameter_faults entry place ≡ [] → known_faults entry place ≡ []
parameter-there None place e = e
parameter-there (Some entry) place e = refl

all-each : {A : Type 0} (test other : A → Bool) (xs : List A) → ((x : A) → test x ≡ true → other x ≡ true) → list_all test xs ≡ true → list_all other xs ≡ true
all-each test other [] each h = refl
all-each test other (x ∷ xs) each h = both-true (other x) (list_all other xs) (each x (and-left (test x) (list_all test xs) h)) (all-each test other xs each (and-right (test x) (list_all test xs) h))

-- whether each of some names is known
abbrev AreKnown : Scope → List NamedPlace → Type 0
AreKnown scope named = list_all (λ name. is_known (looked_up scope name)) (map (λ (n : NamedPlace). n.name) named) ≡ true

known-both : (scope : Scope) (xs ys : List NamedPlace) → AreKnown scope xs → AreKnown scope ys → AreKnown scope (xs ++ ys)
known-both scope xs ys h k =
    ap (list_all (λ name. is_known (looked_up scope name))) (map-append (λ (n : NamedPlace). n.name) xs ys)
    ∙ all-append (λ name. is_known (looked_up scope name)) (map (λ (n : NamedPlace). n.name) xs) (map (λ (n : NamedPlace). n.name) ys) h k

mutual
  -- the names of a constant of which nothing is wrong are parameters with values
  names-known : (scope : Scope) → IsSettled scope → (e : SourceExpression) → constant_name_faults scope e ≡ [] → AreKnown scope (named_in e)
  names-known scope settled (Number place form value) h = refl
  names-known scope settled (Selected place name index) h =
      let none = append-none (parameter_faults (looked_up scope name) place) (constant_index_faults scope index) h in
      both-true (is_known (looked_up scope name)) (list_all (λ other. is_known (looked_up scope other)) (map (λ (n : NamedPlace). n.name) (named_in_index index)))
      (parameter-known (looked_up scope name) place (settled name) none.0)
      (index-known scope settled index none.1)
  names-known scope settled (Parenthesised place inner) h = names-known scope settled inner h
  names-known scope settled (Prefixed place operator operand) h = names-known scope settled operand h
  names-known scope settled (Infixed place operator left right) h =
      let none = append-none (constant_name_faults scope left) (constant_name_faults scope right) h in
      known-both scope (named_in left) (named_in right) (names-known scope settled left none.0) (names-known scope settled right none.1)
  names-known scope settled (Chosen place condition first second) h =
      let none = append-none (constant_name_faults scope condition) (constant_name_faults scope first ++ constant_name_faults scope second) h in
      let rest = append-none (constant_name_faults scope first) (constant_name_faults scope second) none.1 in
      known-both scope (named_in condition) (named_in first ++ named_in second) (names-known scope settled condition none.0)
      (known-both scope (named_in first) (named_in second) (names-known scope settled first rest.0) (names-known scope settled second rest.1))
  names-known scope settled (Concatenated place parts) h = parts-known scope settled parts h
  names-known scope settled (Replicated place count parts) h =
      let none = append-none (constant_name_faults scope count) (value_faults scope IndexOrCount count ++ constant_part_faults scope parts) h in
      let rest = append-none (value_faults scope IndexOrCount count) (constant_part_faults scope parts) none.1 in
      known-both scope (named_in count) (named_in_parts parts) (names-known scope settled count none.0) (parts-known scope settled parts rest.1)

  index-known : (scope : Scope) → IsSettled scope → (index : SourceIndex) → constant_index_faults scope index ≡ [] → AreKnown scope (named_in_index index)
  index-known scope settled NoIndex h = refl
  index-known scope settled (IndexAt index) h = names-known scope settled index h
  index-known scope settled (IndexRange from to) h =
      let none = append-none (constant_name_faults scope from) (value_faults scope (BoundUpTo most_bound) from ++ (constant_name_faults scope to ++ value_faults scope (BoundUpTo most_bound) to)) h in
      let rest = append-none (value_faults scope (BoundUpTo most_bound) from) (constant_name_faults scope to ++ value_faults scope (BoundUpTo most_bound) to) none.1 in
      let last = append-none (constant_name_faults scope to) (value_faults scope (BoundUpTo most_bound) to) rest.1 in
      known-both scope (named_in from) (named_in to) (names-known scope settled from none.0) (names-known scope settled to last.0)

  parts-known : (scope : Scope) → IsSettled scope → (parts : SourceExpressions) → constant_part_faults scope parts ≡ [] → AreKnown scope (named_in_parts parts)
  parts-known scope settled no_parts h = refl
  parts-known scope settled (more_parts first rest) h =
      let none = append-none (constant_name_faults scope first) (constant_part_faults scope rest) h in
      known-both scope (named_in first) (named_in_parts rest) (names-known scope settled first none.0) (parts-known scope settled rest none.1)

both-none : {A : Type 0} (xs ys : List A) → xs ≡ [] → ys ≡ [] → xs ++ ys ≡ []
both-none xs ys h k = ap (λ l. l ++ ys) h ∙ k

mutual
  -- and they are declared
  pub constant-names : (scope : Scope) (e : SourceExpression) → constant_name_faults scope e ≡ [] → name_faults scope e ≡ []
  constant-names scope (Number place form value) h = refl
  constant-names scope (Selected place name index) h =
      let none = append-none (parameter_faults (looked_up scope name) place) (constant_index_faults scope index) h in
      both-none (known_faults (looked_up scope name) place) (index_faults scope index) (parameter-there (looked_up scope name) place none.0) (constant-index scope index none.1)
  constant-names scope (Parenthesised place inner) h = constant-names scope inner h
  constant-names scope (Prefixed place operator operand) h = constant-names scope operand h
  constant-names scope (Infixed place operator left right) h =
      let none = append-none (constant_name_faults scope left) (constant_name_faults scope right) h in
      both-none (name_faults scope left) (name_faults scope right) (constant-names scope left none.0) (constant-names scope right none.1)
  constant-names scope (Chosen place condition first second) h =
      let none = append-none (constant_name_faults scope condition) (constant_name_faults scope first ++ constant_name_faults scope second) h in
      let rest = append-none (constant_name_faults scope first) (constant_name_faults scope second) none.1 in
      both-none (name_faults scope condition) (name_faults scope first ++ name_faults scope second) (constant-names scope condition none.0)
      (both-none (name_faults scope first) (name_faults scope second) (constant-names scope first rest.0) (constant-names scope second rest.1))
  constant-names scope (Concatenated place parts) h = constant-parts scope parts h
  constant-names scope (Replicated place count parts) h =
      let none = append-none (constant_name_faults scope count) (value_faults scope IndexOrCount count ++ constant_part_faults scope parts) h in
      let rest = append-none (value_faults scope IndexOrCount count) (constant_part_faults scope parts) none.1 in
      both-none (constant_faults scope IndexOrCount count) (part_faults scope parts) (both-none (constant_name_faults scope count) (value_faults scope IndexOrCount count) none.0 rest.0)
      (constant-parts scope parts rest.1)

  constant-index : (scope : Scope) (index : SourceIndex) → constant_index_faults scope index ≡ [] → index_faults scope index ≡ []
  constant-index scope NoIndex h = refl
  constant-index scope (IndexAt index) h = constant-names scope index h
  constant-index scope (IndexRange from to) h =
      let none = append-none (constant_name_faults scope from) (value_faults scope (BoundUpTo most_bound) from ++ (constant_name_faults scope to ++ value_faults scope (BoundUpTo most_bound) to)) h in
      let rest = append-none (value_faults scope (BoundUpTo most_bound) from) (constant_name_faults scope to ++ value_faults scope (BoundUpTo most_bound) to) none.1 in
      both-none (constant_faults scope (BoundUpTo most_bound) from) (constant_faults scope (BoundUpTo most_bound) to)
      (both-none (constant_name_faults scope from) (value_faults scope (BoundUpTo most_bound) from) none.0 rest.0) rest.1

  constant-parts : (scope : Scope) (parts : SourceExpressions) → constant_part_faults scope parts ≡ [] → part_faults scope parts ≡ []
  constant-parts scope no_parts h = refl
  constant-parts scope (more_parts first rest) h =
      let none = append-none (constant_name_faults scope first) (constant_part_faults scope rest) h in
      both-none (name_faults scope first) (part_faults scope rest) (constant-names scope first none.0) (constant-parts scope rest none.1)

-- the names of such a constant are parameters
pub all-parameters : (scope : Scope) → IsSettled scope → (e : SourceExpression) → constant_name_faults scope e ≡ [] → all_parameters scope e ≡ true
all-parameters scope settled e h =
    all-each (λ name. is_known (looked_up scope name)) (λ name. is_parameter (looked_up scope name)) (map (λ (n : NamedPlace). n.name) (named_in e))
    (λ name k. known-parameter (looked_up scope name) k)
    (names-known scope settled e h)

pub or-none : (a b : Bool) → (a || b) ≡ false → b ≡ false
or-none true b e = absurd (cc)
or-none false b e = e

pub and-none : (a b : Bool) → a ≡ true → (a && b) ≡ false → b ≡ false
and-none true b h e = e
and-none false b h e = absurd (cc)

-- a place whose constants are numbers
pub data IsNumberPlace : ConstantPlace → Type 0 where
  index_or_count : IsNumberPlace IndexOrCount
  bound_up_to : (limit : ℕ) → IsNumberPlace (BoundUpTo limit)

missing-none : (number : Option ℕ) → is_missing number ≡ false → (n : ℕ) × (number ≡ Some n)
missing-none None e = absurd (cc)
missing-none (Some n) e = (n, refl)

exceeds-none : (limit : ℕ) (number : Option ℕ) → exceeds limit number ≡ false → (n : ℕ) × (number ≡ Some n)
exceeds-none limit None e = absurd (cc)
exceeds-none limit (Some n) e = (n, refl)

fit-number : (kind : ConstantPlace) (c : SignedValue) → IsNumberPlace kind → is_unfit kind c ≡ false → (n : ℕ) × (natural_constant (Some c) ≡ Some n)
fit-number kind c index_or_count e = missing-none (natural_number c.signed c.value) e
fit-number kind c (bound_up_to limit) e = exceeds-none limit (natural_number c.signed c.value) e

empty-is : (faults : List Fault) → faults ≡ [] → is_empty faults ≡ true
empty-is faults e = ap is_empty e

-- a constant that is complete has a value
valued : (scope : Scope) (e : SourceExpression) → all_known scope e ≡ true → alone_faults (reading_of scope e) ≡ [] → (reading_of scope e).complete ≡ true →
    (c : SignedValue) × (constant_of scope 0 e ≡ Some c)
valued scope e known none complete =
    let reading = reading_of scope e in
    let size = (own-size-is scope e).some_size complete in
    let test : (all_known scope e && is_empty (alone_faults reading) && reading.complete) ≡ true =
    both-true (all_known scope e && is_empty (alone_faults reading)) reading.complete (both-true (all_known scope e) (is_empty (alone_faults reading)) known (empty-is (alone_faults reading) none))
    complete in
    let value : SignedValue = record { value = constant_value (tree_in 0 reading); signed = (size_or_bit reading.size).signed } in
    (value, ap (λ b. value_if b reading.size (size_or_bit reading.size).signed (tree_in 0 reading)) test ∙ ap (λ z. value_if true z (size_or_bit reading.size).signed (tree_in 0 reading)) size.1)

-- and so it has a number, where one must stand
pub constant-number : (scope : Scope) → IsSettled scope → (kind : ConstantPlace) → IsNumberPlace kind → (e : SourceExpression) → constant_faults scope kind e ≡ [] →
    alone_faults (reading_of scope e) ≡ [] → (reading_of scope e).complete ≡ true →
    (n : ℕ) × (number_of_constant scope e ≡ Some n)
constant-number scope settled kind number e faults none complete =
    let split = append-none (constant_name_faults scope e) (value_faults scope kind e) faults in
    let known : all_known scope e ≡ true = names-known scope settled e split.0 in
    let parameters = all-parameters scope settled e split.0 in
    let c = valued scope e known none complete in
    let test = fault_if-none (all_parameters scope e && (some_waiting scope e || is_unfit_if_some kind (constant_of scope 0 e))) (place_of_expression e) NoConstant split.1 in
    let unfit : is_unfit_if_some kind (constant_of scope 0 e) ≡ false =
    or-none (some_waiting scope e) (is_unfit_if_some kind (constant_of scope 0 e)) (and-none (all_parameters scope e)
    (some_waiting scope e || is_unfit_if_some kind (constant_of scope 0 e)) parameters test) in
    let fit : is_unfit kind c.0 ≡ false = ap (is_unfit_if_some kind) (sym c.1) ∙ unfit in
    let n = fit-number kind c.0 number fit in
    (n.0, ap natural_constant c.1 ∙ n.1)

-- Expressions

mutual
  -- an expression of which nothing is wrong is complete
  pub expression-full : (scope : Scope) → IsSettled scope → (e : SourceExpression) → name_faults scope e ≡ [] → IsFull (reading_of scope e)
  expression-full scope settled (Number place form value) e = sized-full place (length value) (is_signed_number form value) true [] (λ width signed. SizedConstant width signed value) (λ i. refl)
  expression-full scope settled (Selected place name index) e = select-full scope settled place name index e
  expression-full scope settled (Parenthesised place inner) e = expression-full scope settled inner e
  expression-full scope settled (Prefixed place operator operand) e = unary-full (unary_sizing operator) operator (reading_of scope operand) (expression-full scope settled operand e)
  expression-full scope settled (Infixed place operator left right) e =
      let none = append-none (name_faults scope left) (name_faults scope right) e in
      binary-full (binary_sizing operator) operator (reading_of scope left) (reading_of scope right) (expression-full scope settled left none.0) (expression-full scope settled right none.1)
  expression-full scope settled (Chosen place condition first second) e =
      let none = append-none (name_faults scope condition) (name_faults scope first ++ name_faults scope second) e in
      let rest = append-none (name_faults scope first) (name_faults scope second) none.1 in
      choice-full (reading_of scope condition) (reading_of scope first) (reading_of scope second) (expression-full scope settled condition none.0) (expression-full scope settled first rest.0)
      (expression-full scope settled second rest.1)
  expression-full scope settled (Concatenated place parts) e =
      let read = parts_reading scope parts in
      concatenation-full place read.width read.complete read.inside read.trees (parts-full scope settled parts e) (parts-width scope parts)
  expression-full scope settled (Replicated place count parts) e =
      let read = parts_reading scope parts in
      let times = reading_of scope count in
      let none = append-none (constant_faults scope IndexOrCount count) (part_faults scope parts) e in
      let names = append-none (constant_name_faults scope count) (value_faults scope IndexOrCount count) none.0 in
      let full = expression-full scope settled count (constant-names scope count names.0) in
      replication-full place (natural_constant (constant_reading scope 0 count times)) read.width read.complete (read.inside ++ alone_faults times) read.trees
      (λ i. parts-full scope settled parts none.1 (append-none read.inside (alone_faults times) i).0) (parts-width scope parts)
      (λ i.
      let alone = (append-none read.inside (alone_faults times) i).1 in
      constant-number scope settled IndexOrCount index_or_count count none.0 alone (full-alone times full alone))

  pub select-full : (scope : Scope) → IsSettled scope → (place : SourcePlace) (name : Identifier) (index : SourceIndex) → known_faults (looked_up scope name) place ++ index_faults scope index ≡ [] →
      IsFull (select_reading scope place name index)
  select-full scope settled place name NoIndex e = name-full (looked_up scope name) place name (append-none (known_faults (looked_up scope name) place) [] e).0
  select-full scope settled place name (IndexAt index) e =
      let none = append-none (known_faults (looked_up scope name) place) (name_faults scope index) e in
      indexed-full (looked_up scope name) place name (reading_of scope index) none.0 (expression-full scope settled index none.1)
  select-full scope settled place name (IndexRange from to) e =
      let first = reading_of scope from in
      let second = reading_of scope to in
      let none = append-none (known_faults (looked_up scope name) place) (constant_faults scope (BoundUpTo most_bound) from ++ constant_faults scope (BoundUpTo most_bound) to) e in
      let bounds = append-none (constant_faults scope (BoundUpTo most_bound) from) (constant_faults scope (BoundUpTo most_bound) to) none.1 in
      let low = append-none (constant_name_faults scope from) (value_faults scope (BoundUpTo most_bound) from) bounds.0 in
      let high = append-none (constant_name_faults scope to) (value_faults scope (BoundUpTo most_bound) to) bounds.1 in
      let one = expression-full scope settled from (constant-names scope from low.0) in
      let other = expression-full scope settled to (constant-names scope to high.0) in
      ranged-full (looked_up scope name) place name (alone_faults first ++ alone_faults second) (natural_constant (constant_reading scope 0 from first))
      (natural_constant (constant_reading scope 0 to second)) none.0
      (λ i.
      let alone = append-none (alone_faults first) (alone_faults second) i in (
        constant-number scope settled (BoundUpTo most_bound) (bound_up_to most_bound) from bounds.0 alone.0 (full-alone first one alone.0),
        constant-number scope settled (BoundUpTo most_bound) (bound_up_to most_bound) to bounds.1 alone.1 (full-alone second other alone.1),
      ))

  pub parts-full : (scope : Scope) → IsSettled scope → (parts : SourceExpressions) → part_faults scope parts ≡ [] → PartsFull (parts_reading scope parts)
  parts-full scope settled no_parts e = λ i. refl
  parts-full scope settled (more_parts first rest) e =
      let none = append-none (name_faults scope first) (part_faults scope rest) e in
      parts-full-before (is_unsized_number first) (place_of_expression first) (reading_of scope first) (parts_reading scope rest) (expression-full scope settled first none.0)
      (parts-full scope settled rest none.1)

-- an expression without faults is complete
pub expression-complete : (scope : Scope) → IsSettled scope → (e : SourceExpression) → name_faults scope e ≡ [] → alone_faults (reading_of scope e) ≡ [] → (reading_of scope e).complete ≡ true
expression-complete scope settled e names alone = full-alone (reading_of scope e) (expression-full scope settled e names) alone
