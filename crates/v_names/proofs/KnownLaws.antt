-- What is known of a constant from what is known of its parts.
use Rattle.std.proofs.Common.{◌≡◌, ℕ, zero, suc, ◌+◌, ◌-◌, ◌*◌, ◌<◌, ◌≤◌, cond, Bool, true, false, ◌&&◌, ◌⊎◌, inl, inr, List, [], ◌∷◌, ◌++◌, length, nat_le, Option, Some, None, refl, sym, ap, ap₂}
use Rattle.std.proofs.Common.{subst, ◌∙◌, arith, Global}
use Rattle.std.proofs.lemmas.Bool.{le-leb, leb-false, lt-leb}
use Rattle.std.specs.declared.vec.Vec.{Vec}
use Rattle.std.specs.declared.boxed.Box.{Box}
use Rattle.vf_base.specs.Base.{SourcePlace, source_place}
use Rattle.vf_base.specs.declared.ids.Place.{Place}
use Rattle.four_value.specs.Values.{LogicValue, IsWidth, resized, natural_number, chosen_value, truth_of, bit_at, top_bit}
use Rattle.four_value.specs.Operators.{unary_value, binary_value}
use Rattle.four_value.specs.ValueLaws.{length-resized}
use Rattle.four_value.specs.declared.operator.UnaryOperator.{UnaryOperator}
use Rattle.four_value.specs.declared.operator.BinaryOperator.{BinaryOperator}
use Rattle.v_design.specs.Expressions.{repeated}
use Rattle.v_design.specs.Sized.{most_bits, UnarySizing, OperandWithWhole, OperandAlone, unary_sizing, BinarySizing, BothWithWhole, LeftWithWhole, BothTogether, EachAlone, binary_sizing}
use Rattle.v_tree.specs.Trees.{Identifier, NamedPlace, SourceExpression, Number, Selected, Prefixed, Infixed, Chosen, Concatenated, Replicated, NoIndex, IndexAt, IndexRange, SourceExpressions}
use Rattle.v_tree.specs.Trees.{named_in, named_in_parts}
use Rattle.v_tree.specs.Views.{expression_of, expressions_of}
use Rattle.v_tree.specs.ViewLaws.{expressions-hidden}
use Rattle.v_tree.specs.declared.expression.Expr.{Expr}
use Rattle.v_tree.specs.declared.expression.Expr.TheVariants as code
use Rattle.v_tree.specs.declared.token.NumberForm.{NumberForm}
use Rattle.v_names.specs.declared.term.Term.{Term}
use Rattle.v_names.specs.declared.term.Term.TheVariants.{Alone, Unary', Binary', Shift', Choice'}
use Rattle.v_names.specs.declared.term.Known.{Known}
use Rattle.v_names.specs.Scopes.{ScopeEntry, ParameterEntry, RefusedParameter, WaitingParameter, NetEntry, RegEntry, MemoryEntry, GateEntry, InstanceEntry, Scope, looked_up, is_known}
use Rattle.v_names.specs.Readings.{Size, all_known, number_or, number_of_constant, is_signed_number, larger_size, size_or_bit}
use Rattle.v_names.specs.SizeViews.{size_of}
use Rattle.v_names.specs.OwnSizes.{own_size, parts_width, size_within, size_after, entry_size, indexed_size, part_size, unary_size, binary_size, total_size, repeated_size}
use Rattle.v_names.specs.ConstantLaws.{are_known}
use Rattle.v_names.specs.ConstantValues.{value_at, entry_value, operand_size, left_size, right_size, binary_at}
use Rattle.v_names.specs.ConstantNumbers.{number_by, number-is}
use Rattle.v_names.specs.Terms.{shift_value, term_value, value_alone, known_size, IsKnown, IsRead, fitting, known_width, AreJoined, IsKnownName, IsReplication}
use Rattle.v_names.specs.Operands.{IsUnary, IsBinary, IsChoice}

-- Sizes

pub own-of : (known : Bool) (size : Option Size) (z : Size) → cond known size None ≡ Some z → size ≡ Some z
own-of true size z e = e
own-of false size z e = cc

pub own-known : (scope : Scope) (e : SourceExpression) (z : Size) → known_size scope e ≡ Some z → own_size scope e ≡ Some z
own-known scope e z h = own-of (all_known scope e) (own_size scope e) z h

-- a width that fits is a size
pub within-is : (width : ℕ) (signed : Bool) → IsWidth width → size_within width signed ≡ Some (record { width = width; signed = signed })
within-is width signed h =
    ap₂ (λ a b. cond (a && b) (Some (record { width = width; signed = signed })) None) (le-leb 1 width h.0) (le-leb width most_bits h.1)

fit-by : (test : Bool) (width : ℕ) (z : Size) → cond test (Some width) None ≡ None → cond test (Some z) None ≡ None
fit-by true width z e = cc
fit-by false width z e = refl

pub total-none : (width : Option ℕ) → fitting width ≡ None → total_size width ≡ None
total-none None e = refl
total-none (Some width) e = fit-by (nat_le 1 width && nat_le width most_bits) width (record { width = width; signed = false }) e

-- a width that doesn't fit is 0, or over the most
pub narrow-or-wide : (width : ℕ) → fitting (Some width) ≡ None → (width ≡ 0) ⊎ (most_bits < width)
narrow-or-wide zero e = inl refl
narrow-or-wide (suc n) e = by (nat_le (suc n) most_bits) refl
  where
    by : (test : Bool) → nat_le (suc n) most_bits ≡ test → (suc n ≡ 0) ⊎ (most_bits < suc n)
    by true t =
        let f : fitting (Some (suc n)) ≡ Some (suc n) = ap₂ (λ a b. cond (a && b) (Some (suc n)) None) (le-leb 1 (suc n) (omega arith)) t in
        let x : Some (suc n) ≡ None = sym f ∙ e in
        cc
    by false t = inr (leb-false (suc n) most_bits t)

none-if : {A : Type 0} (test : Bool) (x : A) → cond (test && false) (Some x) None ≡ None
none-if true x = refl
none-if false x = refl

-- and is no size
pub outside : (width : ℕ) (signed : Bool) → (width ≡ 0) ⊎ (most_bits < width) → size_within width signed ≡ None
outside width signed (inl e) = ap (λ n. size_within n signed) e
outside width signed (inr h) =
    ap (λ b. cond (nat_le 1 width && b) (Some (record { width = width; signed = signed })) None) (lt-leb width most_bits h) ∙ none-if (nat_le 1 width) (record { width = width; signed = signed })

pub wide-none : (width : ℕ) → most_bits < width → fitting (Some width) ≡ None
wide-none width h = ap (λ b. cond (nat_le 1 width && b) (Some width) None) (lt-leb width most_bits h) ∙ none-if (nat_le 1 width) width

pub more-than : (count width : ℕ) → (width ≡ 0) ⊎ (most_bits < width) → (count * width ≡ 0) ⊎ (most_bits < count * width)
more-than zero width h = inl (omega arith)
more-than (suc count) width (inl e) = inl (ap (λ n. suc count * n) e ∙ (let z : suc count * 0 ≡ 0 = omega arith in z))
more-than (suc count) width (inr h) = let e : suc count * width ≡ width + count * width = omega arith in inr (omega (arith, h, e))

pub repeated-none : (count width : Option ℕ) → fitting width ≡ None → repeated_size count width ≡ None
repeated-none None width e = refl
repeated-none (Some count) None e = refl
repeated-none (Some count) (Some width) e = outside (count * width) false (more-than count width (narrow-or-wide width e))

-- a number of times that is over the most
pub many-times : (count width : ℕ) → most_bits < count → (count * width ≡ 0) ⊎ (most_bits < count * width)
many-times count zero h = inl (let e : count * 0 ≡ 0 = omega arith in e)
many-times count (suc width) h = let e : count * suc width ≡ count + count * width = omega arith in inr (omega (arith, h, e))

pub repeated-without : (width : Option ℕ) (count : Option ℕ) → count ≡ None → repeated_size count width ≡ None
repeated-without width count e = ap (λ n. repeated_size n width) e

pub size-unary : (sizing : UnarySizing) (k : Bool) (o : Option Size) → cond k (unary_size sizing o) None ≡ unary_size sizing (cond k o None)
size-unary OperandWithWhole true o = refl
size-unary OperandWithWhole false o = refl
size-unary OperandAlone true o = refl
size-unary OperandAlone false o = refl

none-larger : (o : Option Size) → larger_size o None ≡ None
none-larger None = refl
none-larger (Some z) = refl

none-after : (o : Option Size) → size_after o None ≡ None
none-after None = refl
none-after (Some z) = refl

pub size-binary : (sizing : BinarySizing) (k l : Bool) (o p : Option Size) → cond (k && l) (binary_size sizing o p) None ≡ binary_size sizing (cond k o None) (cond l p None)
size-binary BothWithWhole true true o p = refl
size-binary BothWithWhole true false o p = sym (none-larger o)
size-binary BothWithWhole false l o p = refl
size-binary LeftWithWhole true true o p = refl
size-binary LeftWithWhole true false o p = refl
size-binary LeftWithWhole false l o p = sym (none-after (cond l p None))
size-binary BothTogether true true o p = refl
size-binary BothTogether true false o p = sym (none-after o)
size-binary BothTogether false l o p = refl
size-binary EachAlone true true o p = refl
size-binary EachAlone true false o p = sym (none-after o)
size-binary EachAlone false l o p = refl

size-choice : (c k l : Bool) (r o p : Option Size) → cond (c && (k && l)) (size_after r (larger_size o p)) None ≡ size_after (cond c r None) (larger_size (cond k o None) (cond l p None))
size-choice true true true r o p = refl
size-choice true true false r o p = sym (ap (size_after r) (none-larger o) ∙ none-after r)
size-choice true false l r o p = sym (none-after r)
size-choice false k l r o p = refl

size-repeated : (k l : Bool) (n p : Option ℕ) → (k ≡ false → n ≡ None) → cond (k && l) (repeated_size n p) None ≡ repeated_size n (cond l p None)
size-repeated true true n p h = refl
size-repeated true false None p h = refl
size-repeated true false (Some n) p h = refl
size-repeated false l n p h = sym (repeated-without (cond l p None) n (h refl))

unary-none : (sizing : UnarySizing) → unary_size sizing None ≡ None
unary-none OperandWithWhole = refl
unary-none OperandAlone = refl

left-none : (sizing : BinarySizing) (p : Option Size) → binary_size sizing None p ≡ None
left-none BothWithWhole p = refl
left-none LeftWithWhole p = none-after p
left-none BothTogether p = refl
left-none EachAlone p = refl

right-none : (sizing : BinarySizing) (o : Option Size) → binary_size sizing o None ≡ None
right-none BothWithWhole o = none-larger o
right-none LeftWithWhole o = refl
right-none BothTogether o = none-after o
right-none EachAlone o = none-after o

-- Names

and-groups : (a b c : Bool) → (a && (b && c)) ≡ ((a && b) && c)
and-groups true b c = refl
and-groups false b c = refl

pub known-append : (scope : Scope) (xs ys : List NamedPlace) → are_known scope (xs ++ ys) ≡ (are_known scope xs && are_known scope ys)
known-append scope [] ys = refl
known-append scope (x ∷ xs) ys =
    ap (λ b. is_known (looked_up scope x.name) && b) (known-append scope xs ys) ∙ and-groups (is_known (looked_up scope x.name)) (are_known scope xs) (are_known scope ys)

name-by : (scope : Scope) (place : SourcePlace) (name : Identifier) (entry : Option ScopeEntry) (known : Option Known) → looked_up scope name ≡ entry → IsKnownName entry known →
    IsRead scope (Selected place name NoIndex) known
name-by scope place name None None e h = ap (λ x. cond (is_known x && true) (entry_size x) None) e
name-by scope place name (Some RefusedParameter) None e h = ap (λ x. cond (is_known x && true) (entry_size x) None) e
name-by scope place name (Some WaitingParameter) None e h = ap (λ x. cond (is_known x && true) (entry_size x) None) e
name-by scope place name (Some (NetEntry range signed)) None e h = ap (λ x. cond (is_known x && true) (entry_size x) None) e
name-by scope place name (Some (RegEntry range signed)) None e h = ap (λ x. cond (is_known x && true) (entry_size x) None) e
name-by scope place name (Some (MemoryEntry range first last signed)) None e h = ap (λ x. cond (is_known x && true) (entry_size x) None) e
name-by scope place name (Some GateEntry) None e h = ap (λ x. cond (is_known x && true) (entry_size x) None) e
name-by scope place name (Some InstanceEntry) None e h = ap (λ x. cond (is_known x && true) (entry_size x) None) e
name-by scope place name (Some (ParameterEntry value signed)) None e h = absurd h
name-by scope place name None (Some known) e h = absurd h
name-by scope place name (Some RefusedParameter) (Some known) e h = absurd h
name-by scope place name (Some WaitingParameter) (Some known) e h = absurd h
name-by scope place name (Some (NetEntry range signed)) (Some known) e h = absurd h
name-by scope place name (Some (RegEntry range signed)) (Some known) e h = absurd h
name-by scope place name (Some (MemoryEntry range first last signed)) (Some known) e h = absurd h
name-by scope place name (Some GateEntry) (Some known) e h = absurd h
name-by scope place name (Some InstanceEntry) (Some known) e h = absurd h
name-by scope place name (Some (ParameterEntry value signed)) (Some known) e h = record {
  size_is = ap (λ x. cond (is_known x && true) (entry_size x) None) e ∙ within-is (length value) signed h.2 ∙ ap (λ (z : Size). Some z) (sym h.0);
  value_is = λ width whole. ap (λ t. term_value t width whole) h.1 ∙ ap (λ x. resized whole width (entry_value x NoIndex)) (sym e);
  wide = let w : known.size.width ≡ length value = ap (λ (z : Size). z.width) h.0 in let m = h.2 in (omega (arith, w, m.0), omega (arith, w, m.1));
}

pub name-read : (scope : Scope) (place : SourcePlace) (name : Identifier) (entry : Option ScopeEntry) (known : Option Known) → entry ≡ looked_up scope name → IsKnownName entry known
    → IsRead scope (Selected place name NoIndex) known
name-read scope place name entry known e h = name-by scope place name entry known (sym e) h

index-none : (entry : Option ScopeEntry) (k : Bool) (o : Option Size) → cond (is_known entry && k) (indexed_size entry o) None ≡ None
index-none None k o = refl
index-none (Some (ParameterEntry value signed)) true o = refl
index-none (Some (ParameterEntry value signed)) false o = refl
index-none (Some RefusedParameter) k o = refl
index-none (Some WaitingParameter) k o = refl
index-none (Some (NetEntry range signed)) k o = refl
index-none (Some (RegEntry range signed)) k o = refl
index-none (Some (MemoryEntry range first last signed)) k o = refl
index-none (Some GateEntry) k o = refl
index-none (Some InstanceEntry) k o = refl

range-none : (entry : Option ScopeEntry) (k : Bool) (from to : Option ℕ) → cond (is_known entry && k) (part_size entry from to) None ≡ None
range-none None k from to = refl
range-none (Some (ParameterEntry value signed)) true from to = refl
range-none (Some (ParameterEntry value signed)) false from to = refl
range-none (Some RefusedParameter) k from to = refl
range-none (Some WaitingParameter) k from to = refl
range-none (Some (NetEntry range signed)) k from to = refl
range-none (Some (RegEntry range signed)) k from to = refl
range-none (Some (MemoryEntry range first last signed)) k from to = refl
range-none (Some GateEntry) k from to = refl
range-none (Some InstanceEntry) k from to = refl

-- a select is no constant
pub index-read : (scope : Scope) (place : SourcePlace) (name : Identifier) (index : SourceExpression) → known_size scope (Selected place name (IndexAt index)) ≡ None
index-read scope place name index = index-none (looked_up scope name) (are_known scope (named_in index)) (own_size scope index)

pub range-read : (scope : Scope) (place : SourcePlace) (name : Identifier) (from to : SourceExpression) → known_size scope (Selected place name (IndexRange from to)) ≡ None
range-read scope place name from to = range-none (looked_up scope name) (are_known scope (named_in from ++ named_in to)) (number_of_constant scope from) (number_of_constant scope to)

-- Operators

pub number-read : (scope : Scope) (place : SourcePlace) (form : NumberForm) (value : LogicValue) (signed : Bool) (known : Known) → signed ≡ is_signed_number form value
    → known ≡ record { size = record { width = length value; signed = signed }; term = Alone value } → IsWidth (length value) → IsKnown scope (Number place form value) known
number-read scope place form value signed known s k w = record {
  size_is = within-is (length value) (is_signed_number form value) w ∙ ap (λ b. Some (record { width = length value; signed = b })) (sym s) ∙ ap (λ (n : Known). Some (size_of n.size)) (sym k);
  value_is = λ width whole. ap (λ (n : Known). term_value n.term width whole) k;
  wide = let e : known.size.width ≡ length value = ap (λ (n : Known). n.size.width) k in (omega (arith, e, w.0), omega (arith, e, w.1));
}

pub unary-read : (scope : Scope) (place : SourcePlace) (operator : UnaryOperator) (a : SourceExpression) (sizing : UnarySizing) (operand whole : Known) → sizing ≡ unary_sizing operator →
    IsKnown scope a operand
    → IsUnary sizing operator operand whole → IsKnown scope (Prefixed place operator a) whole
unary-read scope place operator a sizing operand whole s h u = record {
  size_is =
      size-unary (unary_sizing operator) (all_known scope a) (own_size scope a) ∙ ap₂ unary_size (sym s) h.size_is ∙ u.size_is;
  value_is = λ width signed.
      let z = operand_size sizing (record { width = width; signed = signed }) (Some (size_of operand.size)) in
      u.value_is width signed ∙ ap (λ v. resized signed width (unary_value operator v)) (h.value_is z.width z.signed)
      ∙ ap₂ (λ x o. let y = operand_size x (record { width = width; signed = signed }) o in resized signed width (unary_value operator (value_at scope a y.width y.signed))) s
      (sym (own-known scope a (size_of operand.size) h.size_is));
  wide = u.wide;
}

pub unary-unread : (scope : Scope) (place : SourcePlace) (operator : UnaryOperator) (a : SourceExpression) → known_size scope a ≡ None → known_size scope (Prefixed place operator a) ≡ None
unary-unread scope place operator a h = size-unary (unary_sizing operator) (all_known scope a) (own_size scope a) ∙ ap (unary_size (unary_sizing operator)) h ∙ unary-none (unary_sizing operator)

size-infixed : (scope : Scope) (place : SourcePlace) (operator : BinaryOperator) (a b : SourceExpression)
    → known_size scope (Infixed place operator a b) ≡ binary_size (binary_sizing operator) (known_size scope a) (known_size scope b)
size-infixed scope place operator a b =
    ap (λ k. cond k (binary_size (binary_sizing operator) (own_size scope a) (own_size scope b)) None) (known-append scope (named_in a) (named_in b))
    ∙ size-binary (binary_sizing operator) (all_known scope a) (all_known scope b) (own_size scope a) (own_size scope b)

pub binary-read : (scope : Scope) (place : SourcePlace) (operator : BinaryOperator) (a b : SourceExpression) (sizing : BinarySizing) (left right whole : Known) → sizing ≡ binary_sizing operator
    → IsKnown scope a left → IsKnown scope b right → IsBinary sizing operator left right whole → IsKnown scope (Infixed place operator a b) whole
binary-read scope place operator a b sizing left right whole s h k u =
    let m = own-known scope a (size_of left.size) h.size_is in
    let n = own-known scope b (size_of right.size) k.size_is in
    record {
      size_is = size-infixed scope place operator a b ∙ ap₂ (binary_size (binary_sizing operator)) h.size_is k.size_is
          ∙ ap (λ x. binary_size x (Some (size_of left.size)) (Some (size_of right.size))) (sym s) ∙ u.size_is;
      value_is = λ width signed.
          let x = left_size sizing (record { width = width; signed = signed }) (Some (size_of left.size)) (Some (size_of right.size)) in
          let y = right_size sizing (record { width = width; signed = signed }) (Some (size_of left.size)) (Some (size_of right.size)) in
          u.value_is width signed ∙ ap₂ (λ v w. resized signed width (binary_value operator x.signed v w)) (h.value_is x.width x.signed) (k.value_is y.width y.signed)
          ∙ ap₂ (λ o p. binary_at sizing operator o p (value_at scope a) (value_at scope b) width signed) (sym m) (sym n)
          ∙ ap (λ t. binary_at t operator (own_size scope a) (own_size scope b) (value_at scope a) (value_at scope b) width signed) s;
      wide = u.wide;
    }

pub left-unread : (scope : Scope) (place : SourcePlace) (operator : BinaryOperator) (a b : SourceExpression) → known_size scope a ≡ None → known_size scope (Infixed place operator a b) ≡ None
left-unread scope place operator a b h =
    size-infixed scope place operator a b ∙ ap (λ o. binary_size (binary_sizing operator) o (known_size scope b)) h ∙ left-none (binary_sizing operator) (known_size scope b)

pub right-unread : (scope : Scope) (place : SourcePlace) (operator : BinaryOperator) (a b : SourceExpression) → known_size scope b ≡ None → known_size scope (Infixed place operator a b) ≡ None
right-unread scope place operator a b h =
    size-infixed scope place operator a b ∙ ap (λ o. binary_size (binary_sizing operator) (known_size scope a) o) h ∙ right-none (binary_sizing operator) (known_size scope a)

size-chosen : (scope : Scope) (place : SourcePlace) (c a b : SourceExpression)
    → known_size scope (Chosen place c a b) ≡ size_after (known_size scope c) (larger_size (known_size scope a) (known_size scope b))
size-chosen scope place c a b =
    ap (λ k. cond k (size_after (own_size scope c) (larger_size (own_size scope a) (own_size scope b))) None)
    (known-append scope (named_in c) (named_in a ++ named_in b) ∙ ap (λ k. all_known scope c && k) (known-append scope (named_in a) (named_in b)))
    ∙ size-choice (all_known scope c) (all_known scope a) (all_known scope b) (own_size scope c) (own_size scope a) (own_size scope b)

pub choice-read : (scope : Scope) (place : SourcePlace) (c a b : SourceExpression) (condition first second whole : Known) → IsKnown scope c condition → IsKnown scope a first → IsKnown scope b second
    → IsChoice condition first second whole → IsKnown scope (Chosen place c a b) whole
choice-read scope place c a b condition first second whole g h k u = record {
  size_is = size-chosen scope place c a b ∙ ap₂ size_after g.size_is (ap₂ larger_size h.size_is k.size_is) ∙ u.size_is;
  value_is = λ width signed.
      let z = size_of condition.size in
      u.value_is width signed
      ∙ ap (λ n. resized signed width (chosen_value (truth_of n) (term_value first.term width signed) (term_value second.term width signed))) (g.value_is z.width z.signed)
      ∙ ap₂ (λ m n. resized signed width (chosen_value (truth_of (value_at scope c z.width z.signed)) m n)) (h.value_is width signed) (k.value_is width signed)
      ∙ ap (λ o. let y = size_or_bit o in resized signed width (chosen_value (truth_of (value_at scope c y.width y.signed)) (value_at scope a width signed) (value_at scope b width signed)))
      (sym (own-known scope c z g.size_is));
  wide = u.wide;
}

pub condition-unread : (scope : Scope) (place : SourcePlace) (c a b : SourceExpression) → known_size scope c ≡ None → known_size scope (Chosen place c a b) ≡ None
condition-unread scope place c a b h = size-chosen scope place c a b ∙ ap (λ o. size_after o (larger_size (known_size scope a) (known_size scope b))) h

pub first-unread : (scope : Scope) (place : SourcePlace) (c a b : SourceExpression) → known_size scope a ≡ None → known_size scope (Chosen place c a b) ≡ None
first-unread scope place c a b h = size-chosen scope place c a b ∙ ap (λ o. size_after (known_size scope c) (larger_size o (known_size scope b))) h ∙ none-after (known_size scope c)

pub second-unread : (scope : Scope) (place : SourcePlace) (c a b : SourceExpression) → known_size scope b ≡ None → known_size scope (Chosen place c a b) ≡ None
second-unread scope place c a b h =
    size-chosen scope place c a b ∙ ap (λ o. size_after (known_size scope c) (larger_size (known_size scope a) o)) h ∙ ap (size_after (known_size scope c)) (none-larger (known_size scope a))
    ∙ none-after (known_size scope c)

-- Concatenations

size-concatenated : (k : Bool) (width : Option ℕ) → cond k (total_size width) None ≡ total_size (cond k width None)
size-concatenated true width = refl
size-concatenated false width = refl

pub concatenation-read : (scope : Scope) (place : SourcePlace) (parts : SourceExpressions) (bits : LogicValue) (known : Known) → AreJoined scope parts (Some bits)
    → known ≡ record { size = record { width = length bits; signed = false }; term = Alone bits } → IsWidth (length bits) → IsKnown scope (Concatenated place parts) known
concatenation-read scope place parts bits known h k w = record {
  size_is =
      size-concatenated (are_known scope (named_in_parts parts)) (parts_width scope parts) ∙ ap total_size h.0 ∙ within-is (length bits) false w ∙ ap (λ (n : Known). Some (size_of n.size)) (sym k);
  value_is = λ width whole. ap (λ (n : Known). term_value n.term width whole) k ∙ ap (resized whole width) (sym h.1);
  wide = let e : known.size.width ≡ length bits = ap (λ (n : Known). n.size.width) k in (omega (arith, e, w.0), omega (arith, e, w.1));
}

pub concatenation-unread : (scope : Scope) (place : SourcePlace) (parts : SourceExpressions) → AreJoined scope parts None → known_size scope (Concatenated place parts) ≡ None
concatenation-unread scope place parts h = size-concatenated (are_known scope (named_in_parts parts)) (parts_width scope parts) ∙ total-none (known_width scope parts) h

-- the number of what has a size
abbrev pub number_at : Option Size → (ℕ → Bool → LogicValue) → Option ℕ
number_at None value = None
number_at (Some z) value = natural_number z.signed (value z.width z.signed)

number-at-by : (k : Bool) (o : Option Size) (value : ℕ → Bool → LogicValue) → number_by k o value ≡ number_at (cond k o None) value
number-at-by true None value = refl
number-at-by true (Some z) value = refl
number-at-by false o value = refl

pub number-at : (scope : Scope) (e : SourceExpression) → number_of_constant scope e ≡ number_at (known_size scope e) (value_at scope e)
number-at scope e = number-is scope e ∙ number-at-by (all_known scope e) (own_size scope e) (value_at scope e)

pub number-known : (scope : Scope) (e : SourceExpression) (known : Known) → IsKnown scope e known → number_of_constant scope e ≡ natural_number known.size.signed (value_alone known)
number-known scope e known h =
    number-at scope e ∙ ap (λ z. number_at z (value_at scope e)) h.size_is ∙ ap (natural_number known.size.signed) (sym (h.value_is known.size.width known.size.signed))

pub number-unknown : (scope : Scope) (e : SourceExpression) → known_size scope e ≡ None → number_of_constant scope e ≡ None
number-unknown scope e h = number-at scope e ∙ ap (λ z. number_at z (value_at scope e)) h

size-replicated : (scope : Scope) (place : SourcePlace) (count : SourceExpression) (parts : SourceExpressions)
    → known_size scope (Replicated place count parts) ≡ repeated_size (number_of_constant scope count) (known_width scope parts)
size-replicated scope place count parts =
    ap (λ k. cond k (repeated_size (number_of_constant scope count) (parts_width scope parts)) None) (known-append scope (named_in count) (named_in_parts parts))
    ∙ size-repeated (all_known scope count) (are_known scope (named_in_parts parts)) (number_of_constant scope count) (parts_width scope parts)
    (λ e. number-is scope count ∙ ap (λ k. number_by k (own_size scope count) (value_at scope count)) e)

pub parts-unread : (scope : Scope) (place : SourcePlace) (count : SourceExpression) (parts : SourceExpressions) → AreJoined scope parts None → known_size scope (Replicated place count parts) ≡ None
parts-unread scope place count parts h = size-replicated scope place count parts ∙ repeated-none (number_of_constant scope count) (known_width scope parts) h

pub count-unread : (scope : Scope) (place : SourcePlace) (count : SourceExpression) (parts : SourceExpressions) → known_size scope count ≡ None → known_size scope (Replicated place count parts) ≡ None
count-unread scope place count parts h = size-replicated scope place count parts ∙ repeated-without (known_width scope parts) (number_of_constant scope count) (number-unknown scope count h)

pub replication-read : (scope : Scope) (place : SourcePlace) (count : SourceExpression) (parts : SourceExpressions) (counted : Known) (number : Option ℕ) (bits : LogicValue) (result : Option Known)
    → IsKnown scope count counted → AreJoined scope parts (Some bits) → number ≡ natural_number counted.size.signed (value_alone counted) → IsReplication number bits result
    → IsRead scope (Replicated place count parts) result
replication-read scope place count parts counted number bits None h k e r =
    size-replicated scope place count parts ∙ ap₂ repeated_size (number-known scope count counted h ∙ sym e) k.0 ∙ r
replication-read scope place count parts counted number bits (Some whole) h k e r =
    let n : number_of_constant scope count ≡ number = number-known scope count counted h ∙ sym e in
    record {
      size_is = size-replicated scope place count parts ∙ ap₂ repeated_size n k.0 ∙ r.0;
      value_is = λ width signed.
          ap (λ t. term_value t width signed) r.1 ∙ ap₂ (λ m v. resized signed width (repeated (number_or 0 m) v)) (sym n) (sym k.1);
      wide = r.2;
    }

-- What has been read of what is the same

pub read-at : (scope : Scope) (e f : Expr) (x y : Option Known) → e ≡ f → x ≡ y → IsRead scope (expression_of e) x → IsRead scope (expression_of f) y
read-at scope e f x y p q h = subst (λ (g : Expr). IsRead scope (expression_of g) y) p (subst (IsRead scope (expression_of e)) q h)

pub joined-at : (scope : Scope) (l m : List Expr) (x y : Option LogicValue) → l ≡ m → x ≡ y → AreJoined scope (expressions_of l) x → AreJoined scope (expressions_of m) y
joined-at scope l m x y p q h = subst (λ (n : List Expr). AreJoined scope (expressions_of n) y) p (subst (AreJoined scope (expressions_of l)) q h)

-- Trees that are built of lists

pub view-Repeat : (place : Place) (count : Box Expr Global) (parts : Vec Expr Global)
    → expression_of (code.Repeat place count parts) ≡ Replicated (source_place place) (expression_of count.value) (expressions_of parts.items)
view-Repeat place count parts = ap (Replicated (source_place place) (expression_of count.value)) (expressions-hidden parts)

-- Bits

pub bit_at-top : (bits : LogicValue) → 1 ≤ length bits → bit_at bits (length bits - 1) ≡ top_bit bits
bit_at-top [] h = absurd (omega (arith, h))
bit_at-top (b ∷ []) h = refl
bit_at-top (b ∷ c ∷ bits) h =
    let e : length (b ∷ c ∷ bits) - 1 ≡ suc (length (c ∷ bits) - 1) = omega arith in
    ap (bit_at (b ∷ c ∷ bits)) e ∙ bit_at-top (c ∷ bits) (omega arith)

-- Terms

pub length-term : (term : Term) (width : ℕ) (signed : Bool) → length (term_value term width signed) ≡ width
length-term (Alone value) width signed = length-resized signed width value
length-term (Unary' operator p operand) width signed = length-resized signed width (unary_value operator (term_value operand width signed))
length-term (Binary' operator p left q right) width signed = length-resized signed width (binary_value operator signed (term_value left width signed) (term_value right width signed))
length-term (Shift' operator p left amount) width signed = length-resized signed width (shift_value operator signed (term_value left width signed) amount)
length-term (Choice' condition p first q second) width signed = length-resized signed width (chosen_value (truth_of condition) (term_value first width signed) (term_value second width signed))
