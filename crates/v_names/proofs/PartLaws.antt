-- Turns over the parts of a concatenation, from the left.
use Rattle.std.proofs.Common.{◌≡◌, ℕ, ◌+◌, ◌<◌, ◌≤◌, cond, Bool, true, false, ◌&&◌, ◌⊎◌, inl, inr, List, [], ◌∷◌, ◌++◌, length, drop, get_or, Option, Some, None, refl, sym, ap, ap₂, ◌∙◌, arith}
use Rattle.std.proofs.Common.{append_assoc, length-append}
use Rattle.std.proofs.lemmas.List.{drop_more, drop_all, append-nil}
use Rattle.expr_eval.specs.Operands.{bits_so_far}
use Rattle.four_value.specs.Values.{LogicValue}
use Rattle.v_design.specs.Sized.{most_bits}
use Rattle.v_tree.specs.declared.expression.Expr.{Expr}
use Rattle.v_tree.specs.Views.{expression_of, expressions_of}
use Rattle.v_tree.specs.Trees.{SourceExpression, SourceExpressions, more_parts, named_in, named_in_parts}
use Rattle.v_names.specs.declared.term.Known.{Known}
use Rattle.v_names.specs.Scopes.{Scope}
use Rattle.v_names.specs.Readings.{Size, size_or_bit, all_known, width_with, is_unsized_number}
use Rattle.v_names.specs.SizeViews.{size_of}
use Rattle.v_names.specs.OwnSizes.{own_size, parts_width, part_and_rest}
use Rattle.v_names.specs.ConstantLaws.{are_known}
use Rattle.v_names.specs.ConstantValues.{value_at, joined_value}
use Rattle.v_names.specs.Terms.{value_alone, known_size, IsKnown, fitting, known_width, AreJoined}
use Rattle.v_names.proofs.KnownLaws.{own-known, known-append, wide-none, length-term}

-- a width with that of what stands behind it
abbrev pub plus_width : ℕ → Option ℕ → Option ℕ
plus_width n None = None
plus_width n (Some m) = Some (n + m)

pub plus-start : (width : Option ℕ) → width ≡ plus_width 0 width
plus-start None = refl
plus-start (Some m) = ap (λ n. Some n) (let e : m ≡ 0 + m = omega arith in e)

pub plus-step : (n : ℕ) (z : Size) (width : Option ℕ) → plus_width n (part_and_rest false (Some z) width) ≡ plus_width (n + z.width) width
plus-step n z None = refl
plus-step n z (Some m) = ap (λ k. Some k) (let e : n + (z.width + m) ≡ (n + z.width) + m = omega arith in e)

pub plus-end : (n : ℕ) → plus_width n (Some 0) ≡ Some n
plus-end n = ap (λ k. Some k) (let e : n + 0 ≡ n = omega arith in e)

-- whatever stands behind, what is too wide doesn't fit
pub plus-wide : (n : ℕ) (width : Option ℕ) → most_bits < n → fitting (plus_width n width) ≡ None
plus-wide n None h = refl
plus-wide n (Some m) h = wide-none (n + m) (omega (arith, h))

pub drop-step : {A : Type 0} (xs : List A) (i : ℕ) (x : A) → i < length xs → x ≡ get_or xs i x → drop i xs ≡ x ∷ drop (i + 1) xs
drop-step xs i x below at = drop_more xs i x below ∙ ap (λ y. y ∷ drop (i + 1) xs) (sym at)

part-none : (u : Bool) (o : Option Size) (rest : Option ℕ) → (u ≡ true) ⊎ (o ≡ None) → part_and_rest u o rest ≡ None
part-none true o rest h = refl
part-none false o rest (inl e) = cc
part-none false o rest (inr e) = ap (λ x. width_with x rest) e

-- Constants

-- the bits of the parts so far, and the width of all
pub record JoinedSo (scope : Scope) (parts : List Expr) (i : ℕ) (bits : LogicValue) : Type 0 where
  pub width_is : known_width scope (expressions_of parts) ≡ plus_width (length bits) (known_width scope (expressions_of (drop i parts)))
  pub value_is : joined_value scope (expressions_of parts) ≡ joined_value scope (expressions_of (drop i parts)) ++ bits

pub joined-start : (scope : Scope) (parts : List Expr) → JoinedSo scope parts 0 []
joined-start scope parts = record { width_is = plus-start (known_width scope (expressions_of parts)); value_is = sym (append-nil (joined_value scope (expressions_of parts))) }

size-part : (u k l : Bool) (o : Option Size) (p : Option ℕ) → cond (k && l) (part_and_rest u o p) None ≡ part_and_rest u (cond k o None) (cond l p None)
size-part true true true o p = refl
size-part true true false o p = refl
size-part true false l o p = refl
size-part false true true o p = refl
size-part false true false None p = refl
size-part false true false (Some z) p = refl
size-part false false l o p = refl

width-of-more : (scope : Scope) (first : SourceExpression) (rest : SourceExpressions) → known_width scope (more_parts first rest) ≡ part_and_rest (is_unsized_number first) (known_size scope first)
    (known_width scope rest)
width-of-more scope first rest =
    ap (λ k. cond k (part_and_rest (is_unsized_number first) (own_size scope first) (parts_width scope rest)) None) (known-append scope (named_in first) (named_in_parts rest))
    ∙ size-part (is_unsized_number first) (all_known scope first) (are_known scope (named_in_parts rest)) (own_size scope first) (parts_width scope rest)

known-left : (scope : Scope) (parts : List Expr) (i : ℕ) (part : Expr) (bits : LogicValue) → i < length parts → part ≡ get_or parts i part → JoinedSo scope parts i bits
    → known_width scope (expressions_of parts)
    ≡ plus_width (length bits) (part_and_rest (is_unsized_number (expression_of part)) (known_size scope (expression_of part)) (known_width scope (expressions_of (drop (i + 1) parts))))
known-left scope parts i part bits below at h =
    h.width_is ∙ ap (λ l. plus_width (length bits) (known_width scope (expressions_of l))) (drop-step parts i part below at)
    ∙ ap (plus_width (length bits)) (width-of-more scope (expression_of part) (expressions_of (drop (i + 1) parts)))

-- a part that is no constant, or doesn't say its size
pub joined-none : (scope : Scope) (parts : List Expr) (i : ℕ) (part : Expr) (bits : LogicValue) → i < length parts → part ≡ get_or parts i part → JoinedSo scope parts i bits
    → (is_unsized_number (expression_of part) ≡ true) ⊎ (known_size scope (expression_of part) ≡ None) → AreJoined scope (expressions_of parts) None
joined-none scope parts i part bits below at h e =
    ap fitting (known-left scope parts i part bits below at h
    ∙ ap (plus_width (length bits)) (part-none (is_unsized_number (expression_of part)) (known_size scope (expression_of part)) (known_width scope (expressions_of (drop (i + 1) parts))) e))

known-more : (scope : Scope) (parts : List Expr) (i : ℕ) (part : Expr) (bits : LogicValue) (known : Known) → i < length parts → part ≡ get_or parts i part → JoinedSo scope parts i bits
    → is_unsized_number (expression_of part) ≡ false → IsKnown scope (expression_of part) known
    → known_width scope (expressions_of parts) ≡ plus_width (length bits + known.size.width) (known_width scope (expressions_of (drop (i + 1) parts)))
known-more scope parts i part bits known below at h u k =
    known-left scope parts i part bits below at h
    ∙ ap₂ (λ b x. plus_width (length bits) (part_and_rest b x (known_width scope (expressions_of (drop (i + 1) parts))))) u k.size_is
    ∙ plus-step (length bits) (size_of known.size) (known_width scope (expressions_of (drop (i + 1) parts)))

long-alone : (known : Known) (value : LogicValue) → value ≡ value_alone known → length value ≡ known.size.width
long-alone known value e = ap length e ∙ length-term known.term known.size.width known.size.signed

-- a part with a value
pub joined-more : (scope : Scope) (parts : List Expr) (i : ℕ) (part : Expr) (bits value longer : LogicValue) (known : Known) → i < length parts → part ≡ get_or parts i part →
    JoinedSo scope parts i bits
    → is_unsized_number (expression_of part) ≡ false → IsKnown scope (expression_of part) known → value ≡ value_alone known → longer ≡ value ++ bits → JoinedSo scope parts (i + 1) longer
joined-more scope parts i part bits value longer known below at h u k v e =
    let rest = expressions_of (drop (i + 1) parts) in
    let long : length bits + known.size.width ≡ length longer = omega (arith, ap length e, length-append value bits, long-alone known value v) in
    let own : size_of known.size ≡ size_or_bit (own_size scope (expression_of part)) = sym (ap size_or_bit (own-known scope (expression_of part) (size_of known.size) k.size_is)) in
    let is : value ≡ value_at scope (expression_of part) known.size.width known.size.signed = v ∙ k.value_is known.size.width known.size.signed in
    record {
      width_is = known-more scope parts i part bits known below at h u k ∙ ap (λ n. plus_width n (known_width scope rest)) long;
      value_is =
          h.value_is ∙ ap (λ l. joined_value scope (expressions_of l) ++ bits) (drop-step parts i part below at)
          ∙ ap (λ (z : Size). (joined_value scope rest ++ value_at scope (expression_of part) z.width z.signed) ++ bits) (sym own)
          ∙ append_assoc (joined_value scope rest) (value_at scope (expression_of part) known.size.width known.size.signed) bits
          ∙ ap (λ w. joined_value scope rest ++ (w ++ bits)) (sym is) ∙ ap (λ w. joined_value scope rest ++ w) (sym e);
    }

pub joined-wide : (scope : Scope) (parts : List Expr) (i : ℕ) (part : Expr) (bits value : LogicValue) (known : Known) → i < length parts → part ≡ get_or parts i part → JoinedSo scope parts i bits
    → is_unsized_number (expression_of part) ≡ false → IsKnown scope (expression_of part) known → value ≡ value_alone known → most_bits < length bits + length value →
    AreJoined scope (expressions_of parts) None
joined-wide scope parts i part bits value known below at h u k v w =
    let long = long-alone known value v in
    ap fitting (known-more scope parts i part bits known below at h u k)
    ∙ plus-wide (length bits + known.size.width) (known_width scope (expressions_of (drop (i + 1) parts))) (omega (arith, w, long))

pub joined-end : (scope : Scope) (parts : List Expr) (i : ℕ) (bits : Option LogicValue) (so_far : LogicValue) → length parts ≤ i → JoinedSo scope parts i so_far → so_far ≡ bits_so_far bits
    → AreJoined scope (expressions_of parts) bits
joined-end scope parts i None so_far past h e =
    ap fitting (h.width_is ∙ ap (λ l. plus_width (length so_far) (known_width scope (expressions_of l))) (drop_all i parts past) ∙ plus-end (length so_far) ∙ ap (λ l. Some (length l)) e)
joined-end scope parts i (Some bits) so_far past h e = (
  h.width_is ∙ ap (λ l. plus_width (length so_far) (known_width scope (expressions_of l))) (drop_all i parts past) ∙ plus-end (length so_far) ∙ ap (λ l. Some (length l)) e,
  h.value_is ∙ ap (λ l. joined_value scope (expressions_of l) ++ so_far) (drop_all i parts past) ∙ e,
)
