-- Values of a design's objects, each of its object's width (IEEE 1364-2001, clause 3.3).
use Rattle.std.proofs.Common.{◌≡◌, ℕ, zero, suc, ◌+◌, ◌-◌, ◌<◌, ◌≤◌, max, min, true, false, List, [], ◌∷◌, length, get_or, map, refl, ap, sym, ◌∙◌, subst, arith}
use Rattle.std.specs.Prelude.{Option, Some, None, slice_get, nat_eq, IsTrue, ◌&&◌}
use Rattle.std.specs.List.{list_all}
use Rattle.std.proofs.lemmas.Bool.{and_parts, eqb-true}
use Rattle.std.proofs.lemmas.List.{get_or-map, length-map}
use Rattle.std.proofs.lemmas.Option.{slice_get_within, get_or_from_slice_get}
use Rattle.four_value.specs.Values.{LogicValue, IsWidth}
use Rattle.vf_base.specs.Lists.{AllHold}
use Rattle.v_design.specs.declared.plan.Object.{Object}
use Rattle.v_design.specs.Plain.{object_of}
use Rattle.v_design.specs.Trees.{Piece}
use Rattle.v_design.specs.Designs.{FlatDesign, FlatObject, width_in}
use Rattle.v_design.specs.Assignments.{value_at}
use Rattle.v_design.specs.Sized.{span}
use Rattle.v_design.specs.WellFormed.{width_is, has_width, have_widths, IsSizedObject, KeepsRules}
use Rattle.expr_eval.specs.Operands.{IsThere, AreThere}

-- one value for each object of a design, of the object's width
pub record AreValuesOf (design : FlatDesign) (values : List LogicValue) : Type 0 where
  pub count : length values ≡ length design.objects
  pub widths : (object : ℕ) → object < length values → length (value_at values object) ≡ width_in design object

one_width : (design : FlatDesign) (values : List LogicValue) (piece : Piece) (found : Option FlatObject) → AreValuesOf design values → slice_get design.objects piece.object ≡ found →
    width_is piece.width found ≡ true → IsThere values piece
one_width design values piece None are at e = absurd (cc)
one_width design values piece (Some object) are at e =
    let low : piece.object < length design.objects = slice_get_within design.objects piece.object object at in
    let inside : piece.object < length values = omega (arith, are.count) in
    let is : width_in design piece.object ≡ object.width =
    get_or-map (λ (o : FlatObject). o.width) design.objects piece.object object 0 low ∙ ap (λ (o : FlatObject). o.width) (get_or_from_slice_get design.objects piece.object object object at) in
    (inside, are.widths piece.object inside ∙ is ∙ eqb-true object.width piece.width e)

-- what is named with its width has a value of the width
pub named_there : (design : FlatDesign) (values : List LogicValue) (pieces : List Piece) → AreValuesOf design values → have_widths design pieces ≡ true → AreThere values pieces
named_there design values [] are e = tt
named_there design values (piece ∷ pieces) are e =
    let parts = and_parts (has_width design piece) (have_widths design pieces) e in
    (one_width design values piece (slice_get design.objects piece.object) are refl parts.0, named_there design values pieces are parts.1)

widths_of-IsWidth : (objects : List FlatObject) (i : ℕ) → AllHold IsSizedObject objects → i < length objects → IsWidth (get_or (map (λ (o : FlatObject). o.width) objects) i 0)
widths_of-IsWidth [] i sized low = absurd (omega arith)
widths_of-IsWidth (object ∷ objects) zero sized low =
    let spans : object.width ≡ span object.high object.low = sized.0.1 in
    let few : object.width ≤ 128 = sized.0.2 in
    (omega arith, few)
widths_of-IsWidth (object ∷ objects) (suc i) sized low = widths_of-IsWidth objects i sized.1 (omega arith)

-- the widths of objects are widths of values
pub width_in-IsWidth : (design : FlatDesign) (object : ℕ) → KeepsRules design → object < length design.objects → IsWidth (width_in design object)
width_in-IsWidth design object rules low = widths_of-IsWidth design.objects object rules.objects low

-- the width of an object of the code's list
pub width_in-read : (objects list : List Object) (k : ℕ) (d : Object) → list ≡ objects → k < length list →
    (get_or list k d).width ≡ get_or (map (λ (o : FlatObject). o.width) (map object_of objects)) k 0
width_in-read objects list k d same low =
    subst (λ l. (get_or list k d).width ≡ get_or (map (λ (o : FlatObject). o.width) (map object_of l)) k 0) same
    (sym (get_or-map (λ (o : FlatObject). o.width) (map object_of list) k (object_of d) 0 (omega (arith, length-map list object_of))
    ∙ ap (λ (o : FlatObject). o.width) (get_or-map object_of list k d (object_of d) low)))
