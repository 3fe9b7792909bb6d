-- A constant of which nothing is wrong, and whose names are parameters with values, has a value, whatever the other parameters of its scope are (IEEE 1364-2001, clause 4 for constants).
use Rattle.std.proofs.Common.{◌≡◌, ℕ, Bool, true, false, ◌&&◌, ◌||◌, List, [], ◌∷◌, ◌++◌, map, Option, Some, None, option_map, refl, sym, ap, ap₂, ◌∙◌, subst}
use Rattle.std.specs.List.{list_all, list_any}
use Rattle.v_tree.specs.Trees.{Identifier, SourceExpression, Number, Selected, Parenthesised, Prefixed, Infixed, Chosen, Concatenated, Replicated, SourceIndex, NoIndex, IndexAt, IndexRange}
use Rattle.v_tree.specs.Trees.{SourceExpressions, no_parts, more_parts, NamedPlace, place_of_expression, named_in, named_in_index, named_in_parts, same_name}
use Rattle.vf_base.specs.Base.{SourcePlace}
use Rattle.v_names.specs.Faults.{NoConstant, fault_if}
use Rattle.v_names.specs.Scopes.{SignedValue, ScopeEntry, ParameterEntry, RefusedParameter, WaitingParameter, NetEntry, RegEntry, MemoryEntry, GateEntry, InstanceEntry, ScopeName, Scope, entry_if}
use Rattle.v_names.specs.Scopes.{looked_up, is_parameter, is_known, is_waiting}
use Rattle.v_names.specs.Readings.{Reading, size_or_bit, tree_in, is_empty, alone_faults, value_if, all_known, constant_value, constant_of, reading_of}
use Rattle.v_names.specs.Constants.{ConstantPlace, IndexOrCount, BoundUpTo, most_bound, is_unfit_if_some, all_parameters, some_waiting, value_faults_within, value_faults, parameter_faults}
use Rattle.v_names.specs.Constants.{constant_name_faults, constant_index_faults, constant_part_faults}
use Rattle.v_names.specs.OwnSizes.{own-size-is}
use Rattle.v_names.specs.SizedLaws.{and-left, and-right}
use Rattle.v_names.specs.ConstantLaws.{are_known}
use Rattle.flat_laws.specs.Hierarchy.Given.{both-true}
use Rattle.flat_laws.specs.Sizes.Complete.{append-none, fault_if-none, and-none, IsSettledEntry, IsSettled, constant-names, expression-complete}
use Rattle.v_names.specs.Agreement.{Same, same-left, same-right, same-reading}
use Rattle.v_names.specs.Meanings.{or-false-left}

-- Names of constants

abbrev are_parameters : Scope → List NamedPlace → Bool
are_parameters scope named = list_all (λ name. is_parameter (looked_up scope name)) (map (λ (n : NamedPlace). n.name) named)

parameters-both : (scope : Scope) (xs ys : List NamedPlace) → are_parameters scope xs ≡ true → are_parameters scope ys ≡ true → are_parameters scope (xs ++ ys) ≡ true
parameters-both scope [] ys h k = k
parameters-both scope (x ∷ xs) ys h k =
    let here = is_parameter (looked_up scope x.name) in
    both-true here (are_parameters scope (xs ++ ys)) (and-left here (are_parameters scope xs) h) (parameters-both scope xs ys (and-right here (are_parameters scope xs) h) k)

is-parameter : (entry : Option ScopeEntry) (place : SourcePlace) → parameter_faults entry place ≡ [] → is_parameter entry ≡ true
is-parameter None place e = absurd (cc)
is-parameter (Some (ParameterEntry value signed)) place e = refl
is-parameter (Some RefusedParameter) place e = refl
is-parameter (Some WaitingParameter) place e = refl
is-parameter (Some (NetEntry range signed)) place e = absurd (cc)
is-parameter (Some (RegEntry range signed)) place e = absurd (cc)
is-parameter (Some (MemoryEntry range first last signed)) place e = absurd (cc)
is-parameter (Some GateEntry) place e = absurd (cc)
is-parameter (Some InstanceEntry) place e = absurd (cc)

mutual
  -- the names of a constant of which nothing is wrong are parameters
  pub names-parameters : (scope : Scope) (e : SourceExpression) → constant_name_faults scope e ≡ [] → are_parameters scope (named_in e) ≡ true
  names-parameters scope (Number place form value) h = refl
  names-parameters scope (Selected place name index) h =
      let none = append-none (parameter_faults (looked_up scope name) place) (constant_index_faults scope index) h in
      both-true (is_parameter (looked_up scope name)) (are_parameters scope (named_in_index index)) (is-parameter (looked_up scope name) place none.0) (index-parameters scope index none.1)
  names-parameters scope (Parenthesised place inner) h = names-parameters scope inner h
  names-parameters scope (Prefixed place operator operand) h = names-parameters scope operand h
  names-parameters scope (Infixed place operator left right) h =
      let none = append-none (constant_name_faults scope left) (constant_name_faults scope right) h in
      parameters-both scope (named_in left) (named_in right) (names-parameters scope left none.0) (names-parameters scope right none.1)
  names-parameters scope (Chosen place condition first second) h =
      let none = append-none (constant_name_faults scope condition) (constant_name_faults scope first ++ constant_name_faults scope second) h in
      let rest = append-none (constant_name_faults scope first) (constant_name_faults scope second) none.1 in
      parameters-both scope (named_in condition) (named_in first ++ named_in second) (names-parameters scope condition none.0)
      (parameters-both scope (named_in first) (named_in second) (names-parameters scope first rest.0) (names-parameters scope second rest.1))
  names-parameters scope (Concatenated place parts) h = parts-parameters scope parts h
  names-parameters scope (Replicated place count parts) h =
      let none = append-none (constant_name_faults scope count) (value_faults scope IndexOrCount count ++ constant_part_faults scope parts) h in
      let rest = append-none (value_faults scope IndexOrCount count) (constant_part_faults scope parts) none.1 in
      parameters-both scope (named_in count) (named_in_parts parts) (names-parameters scope count none.0) (parts-parameters scope parts rest.1)

  index-parameters : (scope : Scope) (index : SourceIndex) → constant_index_faults scope index ≡ [] → are_parameters scope (named_in_index index) ≡ true
  index-parameters scope NoIndex h = refl
  index-parameters scope (IndexAt index) h = names-parameters scope index h
  index-parameters scope (IndexRange from to) h =
      let none = append-none (constant_name_faults scope from) (value_faults scope (BoundUpTo most_bound) from ++ (constant_name_faults scope to ++ value_faults scope (BoundUpTo most_bound) to)) h in
      let rest = append-none (value_faults scope (BoundUpTo most_bound) from) (constant_name_faults scope to ++ value_faults scope (BoundUpTo most_bound) to) none.1 in
      let last = append-none (constant_name_faults scope to) (value_faults scope (BoundUpTo most_bound) to) rest.1 in
      parameters-both scope (named_in from) (named_in to) (names-parameters scope from none.0) (names-parameters scope to last.0)

  parts-parameters : (scope : Scope) (parts : SourceExpressions) → constant_part_faults scope parts ≡ [] → are_parameters scope (named_in_parts parts) ≡ true
  parts-parameters scope no_parts h = refl
  parts-parameters scope (more_parts first rest) h =
      let none = append-none (constant_name_faults scope first) (constant_part_faults scope rest) h in
      parameters-both scope (named_in first) (named_in_parts rest) (names-parameters scope first none.0) (parts-parameters scope rest none.1)

-- no name of a constant of which nothing is wrong waits
pub constant-ready : (width : ℕ) (scope : Scope) (kind : ConstantPlace) (e : SourceExpression) → constant_name_faults scope e ≡ [] → value_faults_within width scope kind e ≡ [] →
    some_waiting scope e ≡ false
constant-ready width scope kind e names values =
    let unfit = is_unfit_if_some kind (constant_of scope width e) in
    let test = fault_if-none (all_parameters scope e && (some_waiting scope e || unfit)) (place_of_expression e) NoConstant values in
    or-false-left (some_waiting scope e) unfit (and-none (all_parameters scope e) (some_waiting scope e || unfit) (names-parameters scope e names) test)

-- Faults in scopes that give names the same meaning

named-alike : (test : Option ScopeEntry → Bool) (s t : Scope) (names : List NamedPlace) → Same s t names →
    list_all (λ name. test (looked_up s name)) (map (λ (n : NamedPlace). n.name) names) ≡ list_all (λ name. test (looked_up t name)) (map (λ (n : NamedPlace). n.name) names)
named-alike test s t [] h = refl
named-alike test s t (n ∷ ns) h = ap₂ (λ a b. a && b) (ap test h.0) (named-alike test s t ns h.1)

some-alike : (test : Option ScopeEntry → Bool) (s t : Scope) (names : List NamedPlace) → Same s t names →
    list_any (λ name. test (looked_up s name)) (map (λ (n : NamedPlace). n.name) names) ≡ list_any (λ name. test (looked_up t name)) (map (λ (n : NamedPlace). n.name) names)
some-alike test s t [] h = refl
some-alike test s t (n ∷ ns) h = ap₂ (λ a b. a || b) (ap test h.0) (some-alike test s t ns h.1)

constant-alike : (s t : Scope) (width : ℕ) (e : SourceExpression) → Same s t (named_in e) → constant_of s width e ≡ constant_of t width e
constant-alike s t width e h =
    ap₂ (λ (known : Bool) (reading : Reading). value_if (known && is_empty (alone_faults reading) && reading.complete) reading.size (size_or_bit reading.size).signed (tree_in width reading))
    (named-alike is_known s t (named_in e) h)
    (same-reading s t e h)

values-alike : (s t : Scope) (kind : ConstantPlace) (e : SourceExpression) → Same s t (named_in e) → value_faults s kind e ≡ value_faults t kind e
values-alike s t kind e h =
    ap₂ (λ (a b : Bool). fault_if (a && b) (place_of_expression e) NoConstant) (named-alike is_parameter s t (named_in e) h)
    (ap₂ (λ (w : Bool) (c : Option SignedValue). w || is_unfit_if_some kind c) (some-alike is_waiting s t (named_in e) h) (constant-alike s t 0 e h))

mutual
  pub faults-alike : (s t : Scope) (e : SourceExpression) → Same s t (named_in e) → constant_name_faults s e ≡ constant_name_faults t e
  faults-alike s t (Number place form value) h = refl
  faults-alike s t (Selected place name index) h = ap₂ (λ xs ys. xs ++ ys) (ap (λ entry. parameter_faults entry place) h.0) (index-alike s t index h.1)
  faults-alike s t (Parenthesised place inner) h = faults-alike s t inner h
  faults-alike s t (Prefixed place operator operand) h = faults-alike s t operand h
  faults-alike s t (Infixed place operator left right) h =
      ap₂ (λ xs ys. xs ++ ys) (faults-alike s t left (same-left s t (named_in left) (named_in right) h)) (faults-alike s t right (same-right s t (named_in left) (named_in right) h))
  faults-alike s t (Chosen place condition first second) h =
      let rest = same-right s t (named_in condition) (named_in first ++ named_in second) h in
      ap₂ (λ xs ys. xs ++ ys) (faults-alike s t condition (same-left s t (named_in condition) (named_in first ++ named_in second) h))
      (ap₂ (λ xs ys. xs ++ ys) (faults-alike s t first (same-left s t (named_in first) (named_in second) rest)) (faults-alike s t second (same-right s t (named_in first) (named_in second) rest)))
  faults-alike s t (Concatenated place parts) h = parts-alike s t parts h
  faults-alike s t (Replicated place count parts) h =
      let counted = same-left s t (named_in count) (named_in_parts parts) h in
      ap₂ (λ xs ys. xs ++ ys) (faults-alike s t count counted)
      (ap₂ (λ xs ys. xs ++ ys) (values-alike s t IndexOrCount count counted) (parts-alike s t parts (same-right s t (named_in count) (named_in_parts parts) h)))

  index-alike : (s t : Scope) (index : SourceIndex) → Same s t (named_in_index index) → constant_index_faults s index ≡ constant_index_faults t index
  index-alike s t NoIndex h = refl
  index-alike s t (IndexAt index) h = faults-alike s t index h
  index-alike s t (IndexRange from to) h =
      let one = same-left s t (named_in from) (named_in to) h in
      let other = same-right s t (named_in from) (named_in to) h in
      ap₂ (λ xs ys. xs ++ ys) (faults-alike s t from one)
      (ap₂ (λ xs ys. xs ++ ys) (values-alike s t (BoundUpTo most_bound) from one) (ap₂ (λ xs ys. xs ++ ys) (faults-alike s t to other) (values-alike s t (BoundUpTo most_bound) to other)))

  parts-alike : (s t : Scope) (parts : SourceExpressions) → Same s t (named_in_parts parts) → constant_part_faults s parts ≡ constant_part_faults t parts
  parts-alike s t no_parts h = refl
  parts-alike s t (more_parts first rest) h =
      ap₂ (λ xs ys. xs ++ ys) (faults-alike s t first (same-left s t (named_in first) (named_in_parts rest) h)) (parts-alike s t rest (same-right s t (named_in first) (named_in_parts rest) h))

-- The parameters that have values alone

-- a parameter without a value counts as no parameter
abbrev settled_entry : ScopeEntry → ScopeEntry
settled_entry (ParameterEntry value signed) = ParameterEntry value signed
settled_entry RefusedParameter = GateEntry
settled_entry WaitingParameter = GateEntry
settled_entry (NetEntry range signed) = NetEntry range signed
settled_entry (RegEntry range signed) = RegEntry range signed
settled_entry (MemoryEntry range first last signed) = MemoryEntry range first last signed
settled_entry GateEntry = GateEntry
settled_entry InstanceEntry = InstanceEntry

abbrev settled_scope : Scope → Scope
settled_scope scope = map (λ (n : ScopeName). let new : ScopeName = record { name = n.name; entry = settled_entry n.entry } in new) scope

looked-settled : (scope : Scope) (name : Identifier) → looked_up (settled_scope scope) name ≡ option_map settled_entry (looked_up scope name)
looked-settled [] name = refl
looked-settled (first ∷ scope) name = by (same_name first.name name) (looked_up (settled_scope scope) name) (looked_up scope name) (looked-settled scope name)
  where
    by : (b : Bool) (one other : Option ScopeEntry) → one ≡ option_map settled_entry other → entry_if b (settled_entry first.entry) one ≡ option_map settled_entry (entry_if b first.entry other)
    by true one other e = refl
    by false one other e = e

entry-settled : (entry : Option ScopeEntry) → IsSettledEntry (option_map settled_entry entry)
entry-settled None = tt
entry-settled (Some (ParameterEntry value signed)) = tt
entry-settled (Some RefusedParameter) = tt
entry-settled (Some WaitingParameter) = tt
entry-settled (Some (NetEntry range signed)) = tt
entry-settled (Some (RegEntry range signed)) = tt
entry-settled (Some (MemoryEntry range first last signed)) = tt
entry-settled (Some GateEntry) = tt
entry-settled (Some InstanceEntry) = tt

scope-settled : (scope : Scope) → IsSettled (settled_scope scope)
scope-settled scope name = subst IsSettledEntry (sym (looked-settled scope name)) (entry-settled (looked_up scope name))

known-kept : (entry : Option ScopeEntry) → is_known entry ≡ true → entry ≡ option_map settled_entry entry
known-kept None e = absurd (cc)
known-kept (Some (ParameterEntry value signed)) e = refl
known-kept (Some RefusedParameter) e = absurd (cc)
known-kept (Some WaitingParameter) e = absurd (cc)
known-kept (Some (NetEntry range signed)) e = absurd (cc)
known-kept (Some (RegEntry range signed)) e = absurd (cc)
known-kept (Some (MemoryEntry range first last signed)) e = absurd (cc)
known-kept (Some GateEntry) e = absurd (cc)
known-kept (Some InstanceEntry) e = absurd (cc)

known-same : (scope : Scope) (names : List NamedPlace) → are_known scope names ≡ true → Same scope (settled_scope scope) names
known-same scope [] h = tt
known-same scope (n ∷ ns) h =
    let here = is_known (looked_up scope n.name) in
    (known-kept (looked_up scope n.name) (and-left here (are_known scope ns) h) ∙ sym (looked-settled scope n.name), known-same scope ns (and-right here (are_known scope ns) h))

-- Values

constant-complete : (scope : Scope) (e : SourceExpression) → are_known scope (named_in e) ≡ true → constant_name_faults scope e ≡ [] → alone_faults (reading_of scope e) ≡ [] →
    (reading_of scope e).complete ≡ true
constant-complete scope e known names sizes =
    let other = settled_scope scope in
    let same = known-same scope (named_in e) known in
    let reading = same-reading scope other e same in
    let none : constant_name_faults other e ≡ [] = sym (faults-alike scope other e same) ∙ names in
    let alone : alone_faults (reading_of other e) ≡ [] = ap alone_faults (sym reading) ∙ sizes in
    ap (λ (r : Reading). r.complete) reading ∙ expression-complete other (scope-settled scope) e (constant-names other e none) alone

-- a constant of which nothing is wrong has a value, if the parameters that it names have values
pub constant-valued : (scope : Scope) (width : ℕ) (e : SourceExpression) → are_known scope (named_in e) ≡ true → constant_name_faults scope e ≡ [] → alone_faults (reading_of scope e) ≡ [] →
    (c : SignedValue) × (constant_of scope width e ≡ Some c)
constant-valued scope width e known names sizes =
    let reading = reading_of scope e in
    let complete = constant-complete scope e known names sizes in
    let size = (own-size-is scope e).some_size complete in
    let test : (all_known scope e && is_empty (alone_faults reading) && reading.complete) ≡ true =
    both-true (all_known scope e && is_empty (alone_faults reading)) reading.complete (both-true (all_known scope e) (is_empty (alone_faults reading)) known (ap is_empty sizes)) complete in
    let value : SignedValue = record { value = constant_value (tree_in width reading); signed = (size_or_bit reading.size).signed } in (
      value,
      ap (λ b. value_if b reading.size (size_or_bit reading.size).signed (tree_in width reading)) test
          ∙ ap (λ z. value_if true z (size_or_bit reading.size).signed (tree_in width reading)) size.1,
    )
