-- The value of a constant from those of its parts (IEEE 1364-2001, clause 4.1; sizes by clause 4.4, signs by clause 4.5).
use Rattle.std.proofs.Common.{◌≡◌, ℕ, ◌*◌, cond, Bool, true, false, ◌&&◌, List, [], ◌∷◌, ◌++◌, length, nat_le, Option, Some, None, refl, sym, ap, ap₂, ◌∙◌}
use Rattle.vf_base.specs.Base.{SourcePlace}
use Rattle.four_value.specs.Values.{LogicValue, resized, chosen_value, truth_of}
use Rattle.four_value.specs.Operators.{unary_value, binary_value}
use Rattle.four_value.specs.declared.operator.UnaryOperator.{UnaryOperator}
use Rattle.four_value.specs.declared.operator.BinaryOperator.{BinaryOperator}
use Rattle.four_value.specs.declared.logic.Bit.TheVariants.{Zero}
use Rattle.v_design.specs.Expressions.{value_of, parts_value, repeated, no_values, sign_of}
use Rattle.v_design.specs.Sized.{most_bits, UnarySizing, OperandWithWhole, OperandAlone, unary_sizing, BinarySizing, BothWithWhole, LeftWithWhole, BothTogether, EachAlone, binary_sizing}
use Rattle.v_tree.specs.Trees.{Identifier, SourceExpression, Number, Selected, Parenthesised, Prefixed, Infixed, Chosen, Concatenated, Replicated, SourceIndex, NoIndex, IndexAt, IndexRange}
use Rattle.v_tree.specs.Trees.{SourceExpressions, no_parts, more_parts, place_of_expression, named_in, named_in_parts}
use Rattle.v_names.specs.Faults.{Fault}
use Rattle.v_names.specs.Scopes.{ScopeEntry, ParameterEntry, RefusedParameter, WaitingParameter, NetEntry, RegEntry, MemoryEntry, GateEntry, InstanceEntry, Scope, looked_up, is_known}
use Rattle.v_names.specs.SizedLaws.{and-left, and-right}
use Rattle.v_names.specs.CleanLaws.{both-complete}
use Rattle.v_names.specs.ConstantLaws.{are_known, known-left, known-right}
use Rattle.v_names.specs.SizedTrees.{SizedExpression, SizedConstant, SizedExpressions, over_objects, all_over_objects}
use Rattle.v_names.specs.Readings.{Size, Reading, size_or_bit, larger_size, tree_at, no_holders, number_of_constant, number_or, is_signed_number, is_unsized_number, alone_faults, sized_if}
use Rattle.v_names.specs.Readings.{sized_reading, name_reading, indexed_reading, ranged_reading, unary_reading, binary_reading, choice_reading, PartsReading, part_before, concatenation_reading}
use Rattle.v_names.specs.Readings.{replication_reading, reading_of, parts_reading}
use Rattle.v_names.specs.OwnSizes.{own_size, own-size-is}

-- The sizes of operands

-- the size of an operator's operand, by that of the whole and its own
abbrev pub operand_size : UnarySizing → Size → Option Size → Size
operand_size OperandWithWhole whole own = whole
operand_size OperandAlone whole own = size_or_bit own

abbrev pub left_size : BinarySizing → Size → Option Size → Option Size → Size
left_size BothWithWhole whole left right = whole
left_size LeftWithWhole whole left right = whole
left_size BothTogether whole left right = size_or_bit (larger_size left right)
left_size EachAlone whole left right = size_or_bit left

abbrev pub right_size : BinarySizing → Size → Option Size → Option Size → Size
right_size BothWithWhole whole left right = whole
right_size LeftWithWhole whole left right = size_or_bit right
right_size BothTogether whole left right = size_or_bit (larger_size left right)
right_size EachAlone whole left right = size_or_bit right

-- the value of a name: that of a parameter, and a bit 0 for all else
abbrev pub entry_value : Option ScopeEntry → SourceIndex → LogicValue
entry_value (Some (ParameterEntry value signed)) NoIndex = value
entry_value _ _ = Zero ∷ []

abbrev mutual
  -- the value of a constant at a width and a sign
  pub value_at : Scope → SourceExpression → ℕ → Bool → LogicValue
  value_at scope (Number place form value) width signed = resized signed width value
  value_at scope (Selected place name index) width signed = resized signed width (entry_value (looked_up scope name) index)
  value_at scope (Parenthesised place inner) width signed = value_at scope inner width signed
  value_at scope (Prefixed place operator operand) width signed =
      let z = operand_size (unary_sizing operator) (record { width = width; signed = signed }) (own_size scope operand) in
      resized signed width (unary_value operator (value_at scope operand z.width z.signed))
  value_at scope (Infixed place operator left right) width signed =
      let x = left_size (binary_sizing operator) (record { width = width; signed = signed }) (own_size scope left) (own_size scope right) in
      let y = right_size (binary_sizing operator) (record { width = width; signed = signed }) (own_size scope left) (own_size scope right) in
      resized signed width (binary_value operator x.signed (value_at scope left x.width x.signed) (value_at scope right y.width y.signed))
  value_at scope (Chosen place condition first second) width signed =
      let z = size_or_bit (own_size scope condition) in
      resized signed width (chosen_value (truth_of (value_at scope condition z.width z.signed)) (value_at scope first width signed) (value_at scope second width signed))
  value_at scope (Concatenated place parts) width signed = resized signed width (joined_value scope parts)
  value_at scope (Replicated place count parts) width signed = resized signed width (repeated (number_or 0 (number_of_constant scope count)) (joined_value scope parts))

  -- the leftmost part is the most significant
  pub joined_value : Scope → SourceExpressions → LogicValue
  joined_value scope no_parts = []
  joined_value scope (more_parts first rest) = let z = size_or_bit (own_size scope first) in joined_value scope rest ++ value_at scope first z.width z.signed

-- That this is the value

abbrev value_of_tree : SizedExpression → LogicValue
value_of_tree tree = value_of no_values (over_objects no_holders tree)

-- a reading has this value at each width and sign
pub record HasValue (reading : Reading) (value : ℕ → Bool → LogicValue) : Type 0 where
  pub value_is : (width : ℕ) (whole : Bool) → value_of_tree (reading.tree width whole) ≡ value width whole
  pub sign_is : (width : ℕ) (whole : Bool) → sign_of (over_objects no_holders (reading.tree width whole)) ≡ whole

abbrev IsValued : Reading → (ℕ → Bool → LogicValue) → Type 0
IsValued reading value = reading.complete ≡ true → HasValue reading value

-- the size of a reading that is complete
abbrev IsOfSize : Reading → Option Size → Type 0
IsOfSize reading size = reading.complete ≡ true → reading.size ≡ size

refused : {A : Type 0} → false ≡ true → A
refused e = absurd (let x : ⊥ = cc in x)

own-of : (scope : Scope) (e : SourceExpression) → IsOfSize (reading_of scope e) (own_size scope e)
own-of scope e c = let reading = reading_of scope e in ap (λ b. cond b reading.size None) (sym c) ∙ (own-size-is scope e).size_is

-- Sizes that are looked at

valued-by : (test : Bool) (place : SourcePlace) (size : Size) (complete : Bool) (inside : List Fault) (tree : ℕ → Bool → SizedExpression) (value : ℕ → Bool → LogicValue)
    → (complete ≡ true → (width : ℕ) (whole : Bool) → value_of_tree (tree width whole) ≡ value width whole) →
    ((width : ℕ) (whole : Bool) → sign_of (over_objects no_holders (tree width whole)) ≡ whole)
    → IsValued (sized_if test place size complete inside tree) value
valued-by true place size complete inside tree value h k = λ c. record { value_is = h c; sign_is = k }
valued-by false place size complete inside tree value h k = λ e. refused e

sized-valued : (place : SourcePlace) (width : ℕ) (signed complete : Bool) (inside : List Fault) (tree : ℕ → Bool → SizedExpression) (value : ℕ → Bool → LogicValue)
    → (complete ≡ true → (width : ℕ) (whole : Bool) → value_of_tree (tree width whole) ≡ value width whole) →
    ((width : ℕ) (whole : Bool) → sign_of (over_objects no_holders (tree width whole)) ≡ whole)
    → IsValued (sized_reading place width signed complete inside tree) value
sized-valued place width signed complete inside tree value h k = valued-by (nat_le 1 width && nat_le width most_bits) place (record { width = width; signed = signed }) complete inside tree value h k

-- Parameters

name-valued : (entry : Option ScopeEntry) (place : SourcePlace) (name : Identifier) → is_known entry ≡ true →
    IsValued (name_reading entry place name) (λ width whole. resized whole width (entry_value entry NoIndex))
name-valued None place name k = refused k
name-valued (Some (ParameterEntry value signed)) place name k =
    sized-valued place (length value) signed true [] (λ width whole. SizedConstant width whole value) (λ width whole. resized whole width value) (λ c width whole. refl) (λ width whole. refl)
name-valued (Some RefusedParameter) place name k = refused k
name-valued (Some WaitingParameter) place name k = refused k
name-valued (Some (NetEntry range signed)) place name k = refused k
name-valued (Some (RegEntry range signed)) place name k = refused k
name-valued (Some (MemoryEntry range first last signed)) place name k = refused k
name-valued (Some GateEntry) place name k = refused k
name-valued (Some InstanceEntry) place name k = refused k

indexed-valued : (entry : Option ScopeEntry) (place : SourcePlace) (name : Identifier) (index : Reading) (value : ℕ → Bool → LogicValue) → is_known entry ≡ true →
    IsValued (indexed_reading entry place name index) value
indexed-valued None place name index value k = refused k
indexed-valued (Some (ParameterEntry v signed)) place name index value k = λ e. refused e
indexed-valued (Some RefusedParameter) place name index value k = refused k
indexed-valued (Some WaitingParameter) place name index value k = refused k
indexed-valued (Some (NetEntry range signed)) place name index value k = refused k
indexed-valued (Some (RegEntry range signed)) place name index value k = refused k
indexed-valued (Some (MemoryEntry range first last signed)) place name index value k = refused k
indexed-valued (Some GateEntry) place name index value k = refused k
indexed-valued (Some InstanceEntry) place name index value k = refused k

ranged-valued : (entry : Option ScopeEntry) (place : SourcePlace) (name : Identifier) (inside : List Fault) (from to : Option ℕ) (value : ℕ → Bool → LogicValue) → is_known entry ≡ true
    → IsValued (ranged_reading entry place name inside from to) value
ranged-valued None place name inside from to value k = refused k
ranged-valued (Some (ParameterEntry v signed)) place name inside from to value k = λ e. refused e
ranged-valued (Some RefusedParameter) place name inside from to value k = refused k
ranged-valued (Some WaitingParameter) place name inside from to value k = refused k
ranged-valued (Some (NetEntry range signed)) place name inside from to value k = refused k
ranged-valued (Some (RegEntry range signed)) place name inside from to value k = refused k
ranged-valued (Some (MemoryEntry range first last signed)) place name inside from to value k = refused k
ranged-valued (Some GateEntry) place name inside from to value k = refused k
ranged-valued (Some InstanceEntry) place name inside from to value k = refused k

-- Operators

-- the value of a reading that is sized alone, or in a group of a size
at-size : (reading : Reading) (value : ℕ → Bool → LogicValue) (one other : Option Size) → HasValue reading value → one ≡ other →
    value_of_tree (tree_at reading one) ≡ value (size_or_bit other).width (size_or_bit other).signed
at-size reading value one other h e = h.value_is (size_or_bit one).width (size_or_bit one).signed ∙ ap (λ z. value (size_or_bit z).width (size_or_bit z).signed) e

sign-at : (reading : Reading) (value : ℕ → Bool → LogicValue) (one other : Option Size) → HasValue reading value → one ≡ other →
    sign_of (over_objects no_holders (tree_at reading one)) ≡ (size_or_bit other).signed
sign-at reading value one other h e = h.sign_is (size_or_bit one).width (size_or_bit one).signed ∙ ap (λ z. (size_or_bit z).signed) e

unary-valued : (sizing : UnarySizing) (operator : UnaryOperator) (a : Reading) (size : Option Size) (value : ℕ → Bool → LogicValue) → IsOfSize a size → IsValued a value
    → IsValued (unary_reading sizing operator a)
    (λ width whole. let z = operand_size sizing (record { width = width; signed = whole }) size in resized whole width (unary_value operator (value z.width z.signed)))
unary-valued OperandWithWhole operator a size value k h = λ c.
    record { value_is = λ width whole. ap (λ v. resized whole width (unary_value operator v)) ((h c).value_is width whole); sign_is = λ width whole. refl }
unary-valued OperandAlone operator a size value k h = λ c.
    record { value_is = λ width whole. ap (λ v. resized whole width (unary_value operator v)) (at-size a value a.size size (h c) (k c)); sign_is = λ width whole. refl }

abbrev pub binary_at : BinarySizing → BinaryOperator → Option Size → Option Size → (ℕ → Bool → LogicValue) → (ℕ → Bool → LogicValue) → ℕ → Bool → LogicValue
binary_at sizing operator s t value other width whole =
    let x = left_size sizing (record { width = width; signed = whole }) s t in
    let y = right_size sizing (record { width = width; signed = whole }) s t in
    resized whole width (binary_value operator x.signed (value x.width x.signed) (other y.width y.signed))

three-alike : (operator : BinaryOperator) (width : ℕ) (whole : Bool) (g h : Bool) (v w x y : LogicValue) → g ≡ h → v ≡ w → x ≡ y →
    resized whole width (binary_value operator g v x) ≡ resized whole width (binary_value operator h w y)
three-alike operator width whole g h v w x y e f k = ap₂ (λ s a. resized whole width (binary_value operator s a x)) e f ∙ ap (λ b. resized whole width (binary_value operator h w b)) k

binary-with : (sizing : BinarySizing) (operator : BinaryOperator) (a b : Reading) (s t : Option Size) (value other : ℕ → Bool → LogicValue) → a.size ≡ s → b.size ≡ t → HasValue a value →
    HasValue b other
    → HasValue (binary_reading sizing operator a b) (binary_at sizing operator s t value other)
binary-with BothWithWhole operator a b s t value other e f h k = record {
  value_is = λ width whole. three-alike operator width whole _ _ _ _ _ _ (h.sign_is width whole) (h.value_is width whole) (k.value_is width whole);
  sign_is = λ width whole. refl;
}
binary-with LeftWithWhole operator a b s t value other e f h k = record {
  value_is = λ width whole. three-alike operator width whole _ _ _ _ _ _ (h.sign_is width whole) (h.value_is width whole) (at-size b other b.size t k f);
  sign_is = λ width whole. refl;
}
binary-with BothTogether operator a b s t value other e f h k =
    let g : larger_size a.size b.size ≡ larger_size s t = ap₂ larger_size e f in
    record {
      value_is = λ width whole.
          three-alike operator width whole _ _ _ _ _ _ (sign-at a value (larger_size a.size b.size) (larger_size s t) h g) (at-size a value (larger_size a.size b.size) (larger_size s t) h g)
          (at-size b other (larger_size a.size b.size) (larger_size s t) k g);
      sign_is = λ width whole. refl;
    }
binary-with EachAlone operator a b s t value other e f h k = record {
  value_is = λ width whole. three-alike operator width whole _ _ _ _ _ _ (sign-at a value a.size s h e) (at-size a value a.size s h e) (at-size b other b.size t k f);
  sign_is = λ width whole. refl;
}

binary-valued : (sizing : BinarySizing) (operator : BinaryOperator) (a b : Reading) (s t : Option Size) (value other : ℕ → Bool → LogicValue) → IsOfSize a s → IsOfSize b t → IsValued a value →
    IsValued b other
    → IsValued (binary_reading sizing operator a b) (binary_at sizing operator s t value other)
binary-valued sizing operator a b s t value other e f h k = λ c.
    let all = both-complete sizing operator a b c in
    let x = and-left a.complete b.complete all in
    let y = and-right a.complete b.complete all in
    binary-with sizing operator a b s t value other (e x) (f y) (h x) (k y)

choice-valued : (c a b : Reading) (size : Option Size) (condition first second : ℕ → Bool → LogicValue) → IsOfSize c size → IsValued c condition → IsValued a first → IsValued b second
    → IsValued (choice_reading c a b)
    (λ width whole. let z = size_or_bit size in resized whole width (chosen_value (truth_of (condition z.width z.signed)) (first width whole) (second width whole)))
choice-valued c a b size condition first second e g h k = λ all.
    let x = and-left c.complete (a.complete && b.complete) all in
    let rest = and-right c.complete (a.complete && b.complete) all in
    let y = h (and-left a.complete b.complete rest) in
    let w = k (and-right a.complete b.complete rest) in
    let v = at-size c condition c.size size (g x) (e x) in
    record {
      value_is = λ width whole.
          ap (λ n. resized whole width (chosen_value (truth_of n) (value_of_tree (a.tree width whole)) (value_of_tree (b.tree width whole)))) v
          ∙ ap₂ (λ m n. resized whole width (chosen_value (truth_of (condition (size_or_bit size).width (size_or_bit size).signed)) m n)) (y.value_is width whole) (w.value_is width whole);
      sign_is = λ width whole. refl;
    }

-- Concatenations

abbrev PartsValued : PartsReading → LogicValue → Type 0
PartsValued read value = read.complete ≡ true → parts_value no_values (all_over_objects no_holders read.trees) ≡ value

before-valued : (unsized : Bool) (place : SourcePlace) (reading : Reading) (rest : PartsReading) (size : Option Size) (value : ℕ → Bool → LogicValue) (behind : LogicValue) → IsOfSize reading size →
    IsValued reading value → PartsValued rest behind
    → PartsValued (part_before unsized place reading rest) (let z = size_or_bit size in behind ++ value z.width z.signed)
before-valued true place reading rest size value behind e h k = λ c. refused c
before-valued false place reading rest size value behind e h k = λ c.
    let x = and-left reading.complete rest.complete c in
    ap₂ (λ (m n : LogicValue). m ++ n) (k (and-right reading.complete rest.complete c)) (at-size reading value reading.size size (h x) (e x))

concatenation-valued : (place : SourcePlace) (width : Option ℕ) (complete : Bool) (inside : List Fault) (trees : SizedExpressions) (value : LogicValue) →
    (complete ≡ true → parts_value no_values (all_over_objects no_holders trees) ≡ value)
    → IsValued (concatenation_reading place width complete inside trees) (λ width whole. resized whole width value)
concatenation-valued place None complete inside trees value h = λ e. refused e
concatenation-valued place (Some total) complete inside trees value h =
    sized-valued place total false complete inside _ (λ width whole. resized whole width value) (λ c width whole. ap (resized whole width) (h c)) (λ width whole. refl)

replication-valued : (place : SourcePlace) (count width : Option ℕ) (complete : Bool) (inside : List Fault) (trees : SizedExpressions) (value : LogicValue)
    → (complete ≡ true → parts_value no_values (all_over_objects no_holders trees) ≡ value)
    → IsValued (replication_reading place count width complete inside trees) (λ width whole. resized whole width (repeated (number_or 0 count) value))
replication-valued place None width complete inside trees value h = λ e. refused e
replication-valued place (Some count) None complete inside trees value h = λ e. refused e
replication-valued place (Some count) (Some total) complete inside trees value h =
    sized-valued place (count * total) false complete inside _ (λ width whole. resized whole width (repeated count value)) (λ c width whole. ap (λ v. resized whole width (repeated count v)) (h c))
    (λ width whole. refl)

-- Expressions

mutual
  -- the value of a constant whose parts all have sizes is that of its parts
  pub value-is : (scope : Scope) (e : SourceExpression) → are_known scope (named_in e) ≡ true → IsValued (reading_of scope e) (value_at scope e)
  value-is scope (Number place form value) k =
      sized-valued place (length value) (is_signed_number form value) true [] (λ width whole. SizedConstant width whole value) (λ width whole. resized whole width value) (λ c width whole. refl)
      (λ width whole. refl)
  value-is scope (Selected place name NoIndex) k = name-valued (looked_up scope name) place name (and-left (is_known (looked_up scope name)) true k)
  value-is scope (Selected place name (IndexAt index)) k =
      indexed-valued (looked_up scope name) place name (reading_of scope index) (value_at scope (Selected place name (IndexAt index)))
      (and-left (is_known (looked_up scope name)) (are_known scope (named_in index)) k)
  value-is scope (Selected place name (IndexRange from to)) k =
      ranged-valued (looked_up scope name) place name (alone_faults (reading_of scope from) ++ alone_faults (reading_of scope to)) (number_of_constant scope from) (number_of_constant scope to)
      (value_at scope (Selected place name (IndexRange from to))) (and-left (is_known (looked_up scope name)) (are_known scope (named_in from ++ named_in to)) k)
  value-is scope (Parenthesised place inner) k = value-is scope inner k
  value-is scope (Prefixed place operator operand) k =
      unary-valued (unary_sizing operator) operator (reading_of scope operand) (own_size scope operand) (value_at scope operand) (own-of scope operand) (value-is scope operand k)
  value-is scope (Infixed place operator left right) k =
      binary-valued (binary_sizing operator) operator (reading_of scope left) (reading_of scope right) (own_size scope left) (own_size scope right) (value_at scope left) (value_at scope right)
      (own-of scope left) (own-of scope right) (value-is scope left (known-left scope (named_in left) (named_in right) k)) (value-is scope right (known-right scope (named_in left) (named_in right) k))
  value-is scope (Chosen place condition first second) k =
      let rest = known-right scope (named_in condition) (named_in first ++ named_in second) k in
      choice-valued (reading_of scope condition) (reading_of scope first) (reading_of scope second) (own_size scope condition) (value_at scope condition) (value_at scope first) (value_at scope second)
      (own-of scope condition) (value-is scope condition (known-left scope (named_in condition) (named_in first ++ named_in second) k))
      (value-is scope first (known-left scope (named_in first) (named_in second) rest))
      (value-is scope second (known-right scope (named_in first) (named_in second) rest))
  value-is scope (Concatenated place parts) k =
      let read = parts_reading scope parts in
      concatenation-valued place read.width read.complete read.inside read.trees (joined_value scope parts) (parts-valued scope parts k)
  value-is scope (Replicated place count parts) k =
      let read = parts_reading scope parts in
      let times = reading_of scope count in
      replication-valued place (number_of_constant scope count) read.width read.complete (read.inside ++ alone_faults times) read.trees (joined_value scope parts)
      (parts-valued scope parts (known-right scope (named_in count) (named_in_parts parts) k))

  parts-valued : (scope : Scope) (parts : SourceExpressions) → are_known scope (named_in_parts parts) ≡ true → PartsValued (parts_reading scope parts) (joined_value scope parts)
  parts-valued scope no_parts k = λ c. refl
  parts-valued scope (more_parts first rest) k =
      before-valued (is_unsized_number first) (place_of_expression first) (reading_of scope first) (parts_reading scope rest) (own_size scope first) (value_at scope first) (joined_value scope rest)
      (own-of scope first) (value-is scope first (known-left scope (named_in first) (named_in_parts rest) k)) (parts-valued scope rest (known-right scope (named_in first) (named_in_parts rest) k))
