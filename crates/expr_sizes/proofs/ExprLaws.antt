-- What an expression is, from what is read of its parts.
use Rattle.std.proofs.Common.{◌≡◌, ℕ, ◌+◌, ◌<◌, Bool, List, ◌++◌, length, drop, get_or, Option, sym, ap, ap₂, subst, ◌∙◌, Global}
use Rattle.std.specs.declared.vec.Vec.{Vec}
use Rattle.std.specs.declared.boxed.Box.{Box}
use Rattle.vf_base.specs.Base.{SourcePlace, source_place}
use Rattle.vf_base.specs.declared.ids.Place.{Place}
use Rattle.v_tree.specs.declared.expression.Expr.{Expr}
use Rattle.v_tree.specs.declared.expression.Expr.TheVariants as code
use Rattle.v_tree.specs.Views.{expression_of, expressions_of}
use Rattle.v_tree.specs.ViewLaws.{expressions-hidden}
use Rattle.v_tree.specs.Trees.{Identifier, SourceExpression, Replicated, NoIndex, IndexAt, IndexRange, SourceExpressions, place_of_expression}
use Rattle.v_names.specs.Scopes.{ScopeEntry, Scope, looked_up}
use Rattle.v_names.specs.Readings.{PartsReading, alone_faults, name_reading, indexed_reading, ranged_reading, is_unsized_number, part_before, replication_reading, reading_of, select_reading}
use Rattle.v_names.specs.Readings.{parts_reading, number_of_constant}
use Rattle.expr_sizes.specs.declared.parts.ReadParts.{ReadParts}
use Rattle.expr_sizes.specs.declared.reading.ExprReading.{ExprReading}
use Rattle.expr_sizes.specs.ExprReadings.{IsReading}
use Rattle.expr_sizes.specs.PartReadings.{AreReadSo, ArePartsRead}
use Rattle.expr_sizes.proofs.PartLaws.{parts-from}

-- the same of an equal expression
pub read-of : (scope : Scope) (one other : Expr) (read : ExprReading) → one ≡ other → IsReading (reading_of scope (expression_of one)) read → IsReading (reading_of scope (expression_of other)) read
read-of scope one other read e h = let P : Expr → Type 0 = λ x. IsReading (reading_of scope (expression_of x)) read in subst P e h

pub parts-of : (scope : Scope) (one other : List Expr) (read : ReadParts) → one ≡ other → ArePartsRead (parts_reading scope (expressions_of one)) read →
    ArePartsRead (parts_reading scope (expressions_of other)) read
parts-of scope one other read e h = let P : List Expr → Type 0 = λ x. ArePartsRead (parts_reading scope (expressions_of x)) read in subst P e h

pub name-read : (scope : Scope) (place : SourcePlace) (name : Identifier) (entry : Option ScopeEntry) (read : ExprReading) → entry ≡ looked_up scope name →
    IsReading (name_reading entry place name) read
    → IsReading (select_reading scope place name NoIndex) read
name-read scope place name entry read e h = let P : Option ScopeEntry → Type 0 = λ x. IsReading (name_reading x place name) read in subst P e h

pub bit-read : (scope : Scope) (place : SourcePlace) (name : Identifier) (index : SourceExpression) (entry : Option ScopeEntry) (read : ExprReading) → entry ≡ looked_up scope name
    → IsReading (indexed_reading entry place name (reading_of scope index)) read → IsReading (select_reading scope place name (IndexAt index)) read
bit-read scope place name index entry read e h = let P : Option ScopeEntry → Type 0 = λ x. IsReading (indexed_reading x place name (reading_of scope index)) read in subst P e h

pub part-read : (scope : Scope) (place : SourcePlace) (name : Identifier) (from to : SourceExpression) (entry : Option ScopeEntry) (n m : Option ℕ) (read : ExprReading) → entry ≡ looked_up scope name
    → n ≡ number_of_constant scope from → m ≡ number_of_constant scope to
    → IsReading (ranged_reading entry place name (alone_faults (reading_of scope from) ++ alone_faults (reading_of scope to)) n m) read →
    IsReading (select_reading scope place name (IndexRange from to)) read
part-read scope place name from to entry n m read e p q h =
    let faults = alone_faults (reading_of scope from) ++ alone_faults (reading_of scope to) in
    let P : Option ScopeEntry → Type 0 = λ x. IsReading (ranged_reading x place name faults (number_of_constant scope from) (number_of_constant scope to)) read in
    let Q : Option ℕ → Type 0 = λ x. IsReading (ranged_reading entry place name faults x (number_of_constant scope to)) read in
    let R : Option ℕ → Type 0 = λ x. IsReading (ranged_reading entry place name faults n x) read in
    subst P e (subst Q p (subst R q h))

-- Concatenations

pub view-Repeat : (place : Place) (count : Box Expr Global) (parts : Vec Expr Global)
    → expression_of (code.Repeat place count parts) ≡ Replicated (source_place place) (expression_of count.value) (expressions_of parts.items)
view-Repeat place count parts = ap (Replicated (source_place place) (expression_of count.value)) (expressions-hidden parts)

pub repeat-read : (scope : Scope) (place : SourcePlace) (count : SourceExpression) (parts : SourceExpressions) (n : Option ℕ) (read : ExprReading) → n ≡ number_of_constant scope count
    → IsReading (replication_reading place n (parts_reading scope parts).width (parts_reading scope parts).complete ((parts_reading scope parts).inside ++ alone_faults (reading_of scope count))
    (parts_reading scope parts).trees) read
    → IsReading (reading_of scope (Replicated place count parts)) read
repeat-read scope place count parts n read e h =
    let all = parts_reading scope parts in
    let P : Option ℕ → Type 0 = λ x. IsReading (replication_reading place x all.width all.complete (all.inside ++ alone_faults (reading_of scope count)) all.trees) read in subst P e h

-- a turn over a part
pub turn-before : (scope : Scope) (whole : PartsReading) (parts : List Expr) (i : ℕ) (part : Expr) (unsized_number : Bool) (place : SourcePlace) (read : ReadParts) → i < length parts →
    part ≡ get_or parts i part
    → unsized_number ≡ is_unsized_number (expression_of part) → place ≡ place_of_expression (expression_of part) → AreReadSo whole (parts_reading scope (expressions_of (drop i parts))) read
    → AreReadSo whole (part_before unsized_number place (reading_of scope (expression_of part)) (parts_reading scope (expressions_of (drop (i + 1) parts)))) read
turn-before scope whole parts i part unsized_number place read below at u p h =
    let rest = parts_reading scope (expressions_of (drop (i + 1) parts)) in
    let P : PartsReading → Type 0 = λ x. AreReadSo whole x read in
    subst P (parts-from scope parts i part below at ∙ ap₂ (λ b x. part_before b x (reading_of scope (expression_of part)) rest) (sym u) (sym p)) h
