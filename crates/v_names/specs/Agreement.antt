-- Scopes that agree on the parameters that a constant names give it one value (IEEE 1364-2001, clause 4 for constants, clause 12.2 for parameters).
use Rattle.std.proofs.Common.{◌≡◌, ℕ, Bool, true, false, ◌&&◌, ◌||◌, List, [], ◌∷◌, ◌++◌, map, Option, Some, None, refl, sym, ap, ap₂, ◌∙◌}
use Rattle.std.specs.List.{list_any}
use Rattle.v_tree.specs.Trees.{Identifier, SourceExpression, Number, Selected, Parenthesised, Prefixed, Infixed, Chosen, Concatenated, Replicated, SourceIndex, NoIndex, IndexAt, IndexRange}
use Rattle.v_tree.specs.Trees.{SourceExpressions, no_parts, more_parts, NamedPlace, named_in, named_in_index, named_in_parts, place_of_expression}
use Rattle.vf_base.specs.Base.{SourcePlace}
use Rattle.v_design.specs.Sized.{unary_sizing, binary_sizing}
use Rattle.v_names.specs.Scopes.{SignedValue, ScopeEntry, ParameterEntry, RefusedParameter, WaitingParameter, NetEntry, RegEntry, MemoryEntry, GateEntry, InstanceEntry, Scope, looked_up, is_known}
use Rattle.v_names.specs.Scopes.{is_waiting}
use Rattle.v_names.specs.SizedLaws.{and-left, and-right}
use Rattle.v_names.specs.ConstantLaws.{are_known}
use Rattle.v_names.specs.Readings.{Reading, PartsReading, size_or_bit, tree_in, value_if, is_empty, alone_faults, constant_reading, all_known, natural_constant, constant_of, number_of_constant}
use Rattle.v_names.specs.Readings.{unary_reading, binary_reading, choice_reading, name_reading, indexed_reading, ranged_reading, concatenation_reading, replication_reading, part_before}
use Rattle.v_names.specs.Readings.{is_unsized_number, reading_of, select_reading, parts_reading}

-- what a constant sees of an entry
abbrev pub constant_part : Option ScopeEntry → ScopeEntry
constant_part None = RefusedParameter
constant_part (Some (ParameterEntry value signed)) = ParameterEntry value signed
constant_part (Some RefusedParameter) = RefusedParameter
constant_part (Some WaitingParameter) = WaitingParameter
constant_part (Some (NetEntry range signed)) = RefusedParameter
constant_part (Some (RegEntry range signed)) = RefusedParameter
constant_part (Some (MemoryEntry range first last signed)) = RefusedParameter
constant_part (Some GateEntry) = RefusedParameter
constant_part (Some InstanceEntry) = RefusedParameter

pub part-known : (e : Option ScopeEntry) → is_known e ≡ is_known (Some (constant_part e))
part-known None = refl
part-known (Some (ParameterEntry value signed)) = refl
part-known (Some RefusedParameter) = refl
part-known (Some WaitingParameter) = refl
part-known (Some (NetEntry range signed)) = refl
part-known (Some (RegEntry range signed)) = refl
part-known (Some (MemoryEntry range first last signed)) = refl
part-known (Some GateEntry) = refl
part-known (Some InstanceEntry) = refl

pub part-waiting : (e : Option ScopeEntry) → is_waiting e ≡ is_waiting (Some (constant_part e))
part-waiting None = refl
part-waiting (Some (ParameterEntry value signed)) = refl
part-waiting (Some RefusedParameter) = refl
part-waiting (Some WaitingParameter) = refl
part-waiting (Some (NetEntry range signed)) = refl
part-waiting (Some (RegEntry range signed)) = refl
part-waiting (Some (MemoryEntry range first last signed)) = refl
part-waiting (Some GateEntry) = refl
part-waiting (Some InstanceEntry) = refl

known-whole : (e : Option ScopeEntry) → is_known e ≡ true → e ≡ Some (constant_part e)
known-whole None k = cc
known-whole (Some (ParameterEntry value signed)) k = refl
known-whole (Some RefusedParameter) k = cc
known-whole (Some WaitingParameter) k = cc
known-whole (Some (NetEntry range signed)) k = cc
known-whole (Some (RegEntry range signed)) k = cc
known-whole (Some (MemoryEntry range first last signed)) k = cc
known-whole (Some GateEntry) k = cc
known-whole (Some InstanceEntry) k = cc

-- two scopes give names the same to a constant
abbrev pub Agree : Scope → Scope → List NamedPlace → Type 0
Agree s t [] = Unit {0}
Agree s t (n ∷ ns) = (constant_part (looked_up s n.name) ≡ constant_part (looked_up t n.name)) × Agree s t ns

-- they give names the same meaning
abbrev pub Same : Scope → Scope → List NamedPlace → Type 0
Same s t [] = Unit {0}
Same s t (n ∷ ns) = (looked_up s n.name ≡ looked_up t n.name) × Same s t ns

pub same-left : (s t : Scope) (xs ys : List NamedPlace) → Same s t (xs ++ ys) → Same s t xs
same-left s t [] ys h = tt
same-left s t (x ∷ xs) ys h = (h.0, same-left s t xs ys h.1)

pub same-right : (s t : Scope) (xs ys : List NamedPlace) → Same s t (xs ++ ys) → Same s t ys
same-right s t [] ys h = h
same-right s t (x ∷ xs) ys h = same-right s t xs ys h.1

abbrev pub some_wait : Scope → List NamedPlace → Bool
some_wait s names = list_any (λ name. is_waiting (looked_up s name)) (map (λ (n : NamedPlace). n.name) names)

pub agree-known : (s t : Scope) (names : List NamedPlace) → Agree s t names → are_known s names ≡ are_known t names
agree-known s t [] h = refl
agree-known s t (n ∷ ns) h =
    ap₂ (λ a b. a && b) (part-known (looked_up s n.name) ∙ ap (λ e. is_known (Some e)) h.0 ∙ sym (part-known (looked_up t n.name))) (agree-known s t ns h.1)

pub agree-waiting : (s t : Scope) (names : List NamedPlace) → Agree s t names → some_wait s names ≡ some_wait t names
agree-waiting s t [] h = refl
agree-waiting s t (n ∷ ns) h =
    ap₂ (λ a b. a || b) (part-waiting (looked_up s n.name) ∙ ap (λ e. is_waiting (Some e)) h.0 ∙ sym (part-waiting (looked_up t n.name))) (agree-waiting s t ns h.1)

same-known : (s t : Scope) (names : List NamedPlace) → Same s t names → are_known s names ≡ are_known t names
same-known s t [] h = refl
same-known s t (n ∷ ns) h = ap₂ (λ a b. a && b) (ap is_known h.0) (same-known s t ns h.1)

known-same : (s t : Scope) (names : List NamedPlace) → Agree s t names → are_known s names ≡ true → Same s t names
known-same s t [] h k = tt
known-same s t (n ∷ ns) h k =
    let here : is_known (looked_up s n.name) ≡ true = and-left (is_known (looked_up s n.name)) (are_known s ns) k in
    let there : is_known (looked_up t n.name) ≡ true = part-known (looked_up t n.name) ∙ ap (λ e. is_known (Some e)) (sym h.0) ∙ sym (part-known (looked_up s n.name)) ∙ here in (
      known-whole (looked_up s n.name) here ∙ ap (λ e. Some e) h.0 ∙ sym (known-whole (looked_up t n.name) there),
      known-same s t ns h.1 (and-right (is_known (looked_up s n.name)) (are_known s ns) k),
    )

-- Readings in scopes that give names the same meaning

abbrev valued : ℕ → Bool → Reading → Option SignedValue
valued width known reading = value_if (known && is_empty (alone_faults reading) && reading.complete) reading.size (size_or_bit reading.size).signed (tree_in width reading)

same-value : (s t : Scope) (width : ℕ) (e : SourceExpression) (one other : Reading) → Same s t (named_in e) → one ≡ other → constant_reading s width e one ≡ constant_reading t width e other
same-value s t width e one other h r = ap₂ (valued width) (same-known s t (named_in e) h) r

mutual
  pub same-reading : (s t : Scope) (e : SourceExpression) → Same s t (named_in e) → reading_of s e ≡ reading_of t e
  same-reading s t (Number place form value) h = refl
  same-reading s t (Selected place name index) h = same-select s t place name index h.0 h.1
  same-reading s t (Parenthesised place inner) h = same-reading s t inner h
  same-reading s t (Prefixed place operator operand) h = ap (unary_reading (unary_sizing operator) operator) (same-reading s t operand h)
  same-reading s t (Infixed place operator left right) h =
      ap₂ (binary_reading (binary_sizing operator) operator) (same-reading s t left (same-left s t (named_in left) (named_in right) h))
      (same-reading s t right (same-right s t (named_in left) (named_in right) h))
  same-reading s t (Chosen place condition first second) h =
      let rest = same-right s t (named_in condition) (named_in first ++ named_in second) h in
      ap₂ (λ c a. choice_reading c a (reading_of s second)) (same-reading s t condition (same-left s t (named_in condition) (named_in first ++ named_in second) h))
      (same-reading s t first (same-left s t (named_in first) (named_in second) rest))
      ∙ ap (choice_reading (reading_of t condition) (reading_of t first)) (same-reading s t second (same-right s t (named_in first) (named_in second) rest))
  same-reading s t (Concatenated place parts) h =
      ap (λ (read : PartsReading). concatenation_reading place read.width read.complete read.inside read.trees) (same-parts s t parts h)
  same-reading s t (Replicated place count parts) h =
      let counted = same-left s t (named_in count) (named_in_parts parts) h in
      let times = same-reading s t count counted in
      let read = same-parts s t parts (same-right s t (named_in count) (named_in_parts parts) h) in
      ap₂ (λ (r : PartsReading) (c : Option SignedValue). replication_reading place (natural_constant c) r.width r.complete (r.inside ++ alone_faults (reading_of s count)) r.trees) read
      (same-value s t 0 count (reading_of s count) (reading_of t count) counted times)
      ∙ ap (λ (r : Reading). replication_reading place (natural_constant (constant_reading t 0 count (reading_of t count))) (parts_reading t parts).width (parts_reading t parts).complete
      ((parts_reading t parts).inside ++ alone_faults r) (parts_reading t parts).trees) times

  same-select : (s t : Scope) (place : SourcePlace) (name : Identifier) (index : SourceIndex) → looked_up s name ≡ looked_up t name → Same s t (named_in_index index) →
      select_reading s place name index ≡ select_reading t place name index
  same-select s t place name NoIndex e h = ap (λ (entry : Option ScopeEntry). name_reading entry place name) e
  same-select s t place name (IndexAt index) e h = ap₂ (λ (entry : Option ScopeEntry) (r : Reading). indexed_reading entry place name r) e (same-reading s t index h)
  same-select s t place name (IndexRange from to) e h =
      let one = same-left s t (named_in from) (named_in to) h in
      let other = same-right s t (named_in from) (named_in to) h in
      let first = same-reading s t from one in
      let second = same-reading s t to other in
      ap₂ (λ (entry : Option ScopeEntry) (r : Reading). ranged_reading entry place name (alone_faults r ++ alone_faults (reading_of s to))
      (natural_constant (constant_reading s 0 from (reading_of s from))) (natural_constant (constant_reading s 0 to (reading_of s to)))) e first
      ∙ ap₂ (λ (r : Reading) (c : Option SignedValue). ranged_reading (looked_up t name) place name (alone_faults (reading_of t from) ++ alone_faults r) (natural_constant c)
      (natural_constant (constant_reading s 0 to (reading_of s to)))) second (same-value s t 0 from (reading_of s from) (reading_of t from) one first)
      ∙ ap (λ (c : Option SignedValue). ranged_reading (looked_up t name) place name (alone_faults (reading_of t from) ++ alone_faults (reading_of t to))
      (natural_constant (constant_reading t 0 from (reading_of t from))) (natural_constant c)) (same-value s t 0 to (reading_of s to) (reading_of t to) other second)

  same-parts : (s t : Scope) (parts : SourceExpressions) → Same s t (named_in_parts parts) → parts_reading s parts ≡ parts_reading t parts
  same-parts s t no_parts h = refl
  same-parts s t (more_parts first rest) h =
      ap₂ (part_before (is_unsized_number first) (place_of_expression first)) (same-reading s t first (same-left s t (named_in first) (named_in_parts rest) h))
      (same-parts s t rest (same-right s t (named_in first) (named_in_parts rest) h))

-- a constant has one value in scopes that agree on its names
constant-by : (s t : Scope) (width : ℕ) (e : SourceExpression) (known : Bool) → all_known s e ≡ known → Agree s t (named_in e) → constant_of s width e ≡ constant_of t width e
constant-by s t width e true k h =
    let same = known-same s t (named_in e) h k in
    same-value s t width e (reading_of s e) (reading_of t e) same (same-reading s t e same)
constant-by s t width e false k h =
    ap (λ b. valued width b (reading_of s e)) k ∙ sym (ap (λ b. valued width b (reading_of t e)) (sym (agree-known s t (named_in e) h) ∙ k))

pub agree-constant : (s t : Scope) (width : ℕ) (e : SourceExpression) → Agree s t (named_in e) → constant_of s width e ≡ constant_of t width e
agree-constant s t width e h = constant-by s t width e (all_known s e) refl h

pub agree-number : (s t : Scope) (e : SourceExpression) → Agree s t (named_in e) → number_of_constant s e ≡ number_of_constant t e
agree-number s t e h = ap natural_constant (agree-constant s t 0 e h)
