-- The value of a constant from what is known of it.
use Rattle.std.proofs.Common.{◌≡◌, ℕ, max, cond, Bool, true, false, ◌&&◌, Option, Some, None, refl, sym, ap, ap₂, ◌∙◌}
use Rattle.four_value.specs.Values.{LogicValue}
use Rattle.v_tree.specs.Trees.{SourceExpression}
use Rattle.v_names.specs.declared.term.Known.{Known}
use Rattle.v_names.specs.Scopes.{SignedValue, Scope}
use Rattle.v_names.specs.SizedTrees.{SizedExpression}
use Rattle.v_names.specs.Readings.{Size, Reading, size_or_bit, constant_value, alone_faults, is_empty, value_if, all_known, tree_in, constant_of, reading_of}
use Rattle.v_names.specs.CleanLaws.{none-alone, reading-clean}
use Rattle.v_names.specs.OwnSizes.{own_size, own-size-is}
use Rattle.v_names.specs.ConstantValues.{value_at, value-is}
use Rattle.v_names.specs.Terms.{term_value, known_size, IsKnown}

-- the value of what has a size, in a context of a width
abbrev pub constant_at : ℕ → Option Size → (ℕ → Bool → LogicValue) → Option SignedValue
constant_at width None value = None
constant_at width (Some z) value = Some (record { value = value (max width z.width) z.signed; signed = z.signed })

unvalued : (known empty : Bool) (size : Option Size) (signed : Bool) (tree : SizedExpression) → value_if ((known && empty) && false) size signed tree ≡ None
unvalued true true size signed tree = refl
unvalued true false size signed tree = refl
unvalued false empty size signed tree = refl

valued : (width : ℕ) (reading : Reading) (value : ℕ → Bool → LogicValue) (z : Size) → reading.size ≡ Some z → ((w : ℕ) (whole : Bool) → constant_value (reading.tree w whole) ≡ value w whole)
    → value_if true reading.size (size_or_bit reading.size).signed (tree_in width reading) ≡ constant_at width (Some z) value
valued width reading value z e h =
    ap (λ s. value_if true s (size_or_bit s).signed (reading.tree (max width (size_or_bit s).width) (size_or_bit s).signed)) e
    ∙ ap (λ (v : LogicValue). Some (record { value = v; signed = z.signed })) (h (max width z.width) z.signed)

by-complete : (scope : Scope) (width : ℕ) (e : SourceExpression) (complete : Bool) → all_known scope e ≡ true → (reading_of scope e).complete ≡ complete
    → constant_of scope width e ≡ constant_at width (own_size scope e) (value_at scope e)
by-complete scope width e false known c =
    let reading = reading_of scope e in
    let none : None ≡ own_size scope e = sym (ap (λ b. cond b reading.size None) c) ∙ (own-size-is scope e).size_is in
    ap (λ b. value_if ((all_known scope e && is_empty (alone_faults reading)) && b) reading.size (size_or_bit reading.size).signed (tree_in width reading)) c
    ∙ unvalued (all_known scope e) (is_empty (alone_faults reading)) reading.size (size_or_bit reading.size).signed (tree_in width reading)
    ∙ ap (λ s. constant_at width s (value_at scope e)) none
by-complete scope width e true known c =
    let reading = reading_of scope e in
    let sized = (own-size-is scope e).some_size c in
    let own : Some sized.0 ≡ own_size scope e = sym sized.1 ∙ ap (λ b. cond b reading.size None) (sym c) ∙ (own-size-is scope e).size_is in
    let clean : is_empty (alone_faults reading) ≡ true = ap is_empty (none-alone reading (reading-clean scope e c)) in
    let test : ((all_known scope e && is_empty (alone_faults reading)) && reading.complete) ≡ true = ap₂ (λ a b. a && b) (ap₂ (λ a b. a && b) known clean) c in
    ap (λ b. value_if b reading.size (size_or_bit reading.size).signed (tree_in width reading)) test
    ∙ valued width reading (value_at scope e) sized.0 sized.1 (value-is scope e known c).value_is
    ∙ ap (λ s. constant_at width s (value_at scope e)) own

by-known : (scope : Scope) (width : ℕ) (e : SourceExpression) (known : Bool) → all_known scope e ≡ known → constant_of scope width e ≡ constant_at width (known_size scope e) (value_at scope e)
by-known scope width e false k =
    let reading = reading_of scope e in
    ap (λ b. value_if ((b && is_empty (alone_faults reading)) && reading.complete) reading.size (size_or_bit reading.size).signed (tree_in width reading)) k
    ∙ ap (λ b. constant_at width (cond b (own_size scope e) None) (value_at scope e)) (sym k)
by-known scope width e true k =
    by-complete scope width e (reading_of scope e).complete k refl ∙ ap (λ b. constant_at width (cond b (own_size scope e) None) (value_at scope e)) (sym k)

-- the value of a constant is that at its size, where it has one and its names are parameters with values
pub constant-is : (scope : Scope) (width : ℕ) (e : SourceExpression) → constant_of scope width e ≡ constant_at width (known_size scope e) (value_at scope e)
constant-is scope width e = by-known scope width e (all_known scope e) refl

pub constant-none : (scope : Scope) (width : ℕ) (e : SourceExpression) → known_size scope e ≡ None → None ≡ constant_of scope width e
constant-none scope width e h = sym (constant-is scope width e ∙ ap (λ z. constant_at width z (value_at scope e)) h)

pub constant-known : (scope : Scope) (width : ℕ) (e : SourceExpression) (known : Known) (value : LogicValue) → IsKnown scope e known →
    value ≡ term_value known.term (max width known.size.width) known.size.signed
    → Some (record { value = value; signed = known.size.signed }) ≡ constant_of scope width e
constant-known scope width e known value h v =
    ap (λ (x : LogicValue). Some (record { value = x; signed = known.size.signed })) (v ∙ h.value_is (max width known.size.width) known.size.signed)
    ∙ sym (constant-is scope width e ∙ ap (λ z. constant_at width z (value_at scope e)) h.size_is)
