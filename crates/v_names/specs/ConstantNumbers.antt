-- The number of a constant, from its size and its value.
use Rattle.std.proofs.Common.{◌≡◌, ℕ, max, cond, Bool, true, false, ◌&&◌, Option, Some, None, refl, sym, ap, ap₂, ◌∙◌, arith}
use Rattle.four_value.specs.Values.{LogicValue, natural_number}
use Rattle.v_tree.specs.Trees.{SourceExpression}
use Rattle.v_names.specs.Scopes.{Scope}
use Rattle.v_names.specs.SizedTrees.{SizedExpression}
use Rattle.v_names.specs.Readings.{Size, Reading, size_or_bit, constant_value, alone_faults, is_empty, value_if, all_known, tree_in, natural_constant, number_of_constant, reading_of}
use Rattle.v_names.specs.CleanLaws.{none-alone, reading-clean}
use Rattle.v_names.specs.OwnSizes.{own_size, own-size-is}
use Rattle.v_names.specs.ConstantValues.{value_at, value-is}

-- the number of what has a size, where each of its names is a parameter with a value
abbrev pub number_by : Bool → Option Size → (ℕ → Bool → LogicValue) → Option ℕ
number_by false size value = None
number_by true None value = None
number_by true (Some z) value = natural_number z.signed (value z.width z.signed)

unvalued : (known empty : Bool) (size : Option Size) (signed : Bool) (tree : SizedExpression) → natural_constant (value_if ((known && empty) && false) size signed tree) ≡ None
unvalued true true size signed tree = refl
unvalued true false size signed tree = refl
unvalued false empty size signed tree = refl

-- the number of a reading that is complete and has a size
valued : (reading : Reading) (value : ℕ → Bool → LogicValue) (z : Size) → reading.size ≡ Some z → ((width : ℕ) (whole : Bool) → constant_value (reading.tree width whole) ≡ value width whole)
    → natural_constant (value_if true reading.size (size_or_bit reading.size).signed (tree_in 0 reading)) ≡ natural_number z.signed (value z.width z.signed)
valued reading value z e h =
    let wide : max 0 z.width ≡ z.width = omega arith in
    ap (λ s. natural_constant (value_if true s (size_or_bit s).signed (reading.tree (max 0 (size_or_bit s).width) (size_or_bit s).signed))) e
    ∙ ap (natural_number z.signed) (h (max 0 z.width) z.signed ∙ ap (λ w. value w z.signed) wide)

by-complete : (scope : Scope) (e : SourceExpression) (complete : Bool) → all_known scope e ≡ true → (reading_of scope e).complete ≡ complete
    → number_of_constant scope e ≡ number_by true (own_size scope e) (value_at scope e)
by-complete scope e false known c =
    let reading = reading_of scope e in
    let none : None ≡ own_size scope e = sym (ap (λ b. cond b reading.size None) c) ∙ (own-size-is scope e).size_is in
    ap (λ b. natural_constant (value_if ((all_known scope e && is_empty (alone_faults reading)) && b) reading.size (size_or_bit reading.size).signed (tree_in 0 reading))) c
    ∙ unvalued (all_known scope e) (is_empty (alone_faults reading)) reading.size (size_or_bit reading.size).signed (tree_in 0 reading)
    ∙ ap (λ s. number_by true s (value_at scope e)) none
by-complete scope e true known c =
    let reading = reading_of scope e in
    let sized = (own-size-is scope e).some_size c in
    let own : Some sized.0 ≡ own_size scope e = sym sized.1 ∙ ap (λ b. cond b reading.size None) (sym c) ∙ (own-size-is scope e).size_is in
    let clean : is_empty (alone_faults reading) ≡ true = ap is_empty (none-alone reading (reading-clean scope e c)) in
    let test : ((all_known scope e && is_empty (alone_faults reading)) && reading.complete) ≡ true = ap₂ (λ a b. a && b) (ap₂ (λ a b. a && b) known clean) c in
    ap (λ b. natural_constant (value_if b reading.size (size_or_bit reading.size).signed (tree_in 0 reading))) test
    ∙ valued reading (value_at scope e) sized.0 sized.1 (value-is scope e known c).value_is
    ∙ ap (λ s. number_by true s (value_at scope e)) own

by-known : (scope : Scope) (e : SourceExpression) (known : Bool) → all_known scope e ≡ known → number_of_constant scope e ≡ number_by known (own_size scope e) (value_at scope e)
by-known scope e false k =
    let reading = reading_of scope e in
    ap (λ b. natural_constant (value_if ((b && is_empty (alone_faults reading)) && reading.complete) reading.size (size_or_bit reading.size).signed (tree_in 0 reading))) k
by-known scope e true k = by-complete scope e (reading_of scope e).complete k refl

-- the number of a constant is that of its value at its own size
pub number-is : (scope : Scope) (e : SourceExpression) → number_of_constant scope e ≡ number_by (all_known scope e) (own_size scope e) (value_at scope e)
number-is scope e = by-known scope e (all_known scope e) refl
