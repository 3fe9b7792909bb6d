-- Turns over the parts of a concatenation, from the left.
use Rattle.std.proofs.Common.{◌≡◌, ℕ, ◌+◌, ◌*◌, ◌<◌, ◌≤◌, Bool, true, false, List, [], ◌∷◌, ◌++◌, length, drop, get_or, Option, Some, None, option_map, refl, sym, ap, subst, ◌∙◌, append_assoc}
use Rattle.std.proofs.lemmas.List.{drop_more, drop_all, append-nil}
use Rattle.vf_base.specs.Base.{SourcePlace}
use Rattle.v_tree.specs.declared.expression.Expr.{Expr}
use Rattle.v_tree.specs.Views.{expression_of, expressions_of}
use Rattle.v_tree.specs.Trees.{place_of_expression}
use Rattle.v_names.specs.declared.size.Size.{Size as CodeSize}
use Rattle.v_names.specs.Faults.{Fault}
use Rattle.v_names.specs.Scopes.{Scope}
use Rattle.v_names.specs.OwnSizes.{size_within}
use Rattle.v_names.specs.Readings.{Size, Reading, PartsReading, tree_alone, width_with, is_unsized_number, part_before, reading_of, parts_reading, concatenation_reading, replication_reading}
use Rattle.v_names.specs.Readings.{sized_reading, refused_reading}
use Rattle.v_names.specs.SizedTrees.{SizedConcatenation, SizedReplication, more_sized}
use Rattle.v_names.specs.SizeViews.{size_of}
use Rattle.v_width.specs.Summaries.{AreFaults}
use Rattle.v_width.specs.declared.expression.SizedExpr.{SizedExpr}
use Rattle.v_width.specs.SizedViews.{sized_of, all_sized_of}
use Rattle.v_width.specs.ViewLaws.{sized_append, sized-one-more, sized-end}
use Rattle.expr_sizes.specs.declared.parts.ReadParts.{ReadParts}
use Rattle.expr_sizes.specs.declared.reading.ExprReading.{ExprReading}
use Rattle.expr_sizes.specs.ExprReadings.{IsReading}
use Rattle.expr_sizes.specs.WidthLaws.{total-start, total-step, total-end, no-width, some-width, capped-within, times-within}
use Rattle.expr_sizes.specs.PartReadings.{capped, total_with, total_before, size_of_part, faults_of_part, AreReadSo, ArePartsRead}

drop-step : {A : Type 0} (xs : List A) (i : ℕ) (x : A) → i < length xs → x ≡ get_or xs i x → drop i xs ≡ x ∷ drop (i + 1) xs
drop-step xs i x below at = drop_more xs i x below ∙ ap (λ y. y ∷ drop (i + 1) xs) (sym at)

-- One part

width-before : (u : Bool) (place : SourcePlace) (reading : Reading) (rest : PartsReading) → (part_before u place reading rest).width ≡ width_with (size_of_part u reading.size) rest.width
width-before true place reading rest = refl
width-before false place reading rest = refl

inside-before : (u : Bool) (place : SourcePlace) (reading : Reading) (rest : PartsReading) → (part_before u place reading rest).inside ≡ faults_of_part u place reading ++ rest.inside
inside-before true place reading rest = refl
inside-before false place reading rest = refl

trees-before : (u : Bool) (place : SourcePlace) (reading : Reading) (rest : PartsReading) → (part_before u place reading rest).trees ≡ more_sized (tree_alone reading) rest.trees
trees-before true place reading rest = refl
trees-before false place reading rest = refl

-- one part more
pub read-more : (whole rest : PartsReading) (reading : Reading) (u : Bool) (place : SourcePlace) (parts after : ReadParts) (size : Option Size) (tree : SizedExpr) → size ≡ size_of_part u reading.size
    → ((inside : List Fault) → AreFaults [] inside parts.faults → AreFaults [] (inside ++ faults_of_part u place reading) after.faults) → after.total ≡ total_with parts.total size
    → sized_of tree ≡ tree_alone reading → after.trees.items ≡ parts.trees.items ++ tree ∷ [] → AreReadSo whole (part_before u place reading rest) parts → AreReadSo whole rest after
read-more whole rest reading u place parts after size tree z f t k q h = record {
  inside = h.inside ++ faults_of_part u place reading;
  faults_are = f h.inside h.faults_are;
  inside_is = h.inside_is ∙ ap (λ l. h.inside ++ l) (inside-before u place reading rest) ∙ sym (append_assoc h.inside (faults_of_part u place reading) rest.inside);
  total_is =
      h.total_is ∙ ap (total_before parts.total) (width-before u place reading rest ∙ ap (λ x. width_with x rest.width) (sym z)) ∙ total-step parts.total size rest.width
      ∙ ap (λ x. total_before x rest.width) (sym t);
  trees_are =
      h.trees_are ∙ ap (sized_append (all_sized_of parts.trees.items)) (trees-before u place reading rest ∙ ap (λ x. more_sized x rest.trees) (sym k))
      ∙ sym (ap (λ l. sized_append (all_sized_of l) rest.trees) q ∙ sized-one-more parts.trees.items tree rest.trees);
}

-- All parts

pub read-start : (whole : PartsReading) (read : ReadParts) → AreFaults [] [] read.faults → read.total ≡ Some 0 → read.trees.items ≡ [] → AreReadSo whole whole read
read-start whole read f t q = record {
  inside = [];
  faults_are = f;
  inside_is = refl;
  total_is = total-start whole.width ∙ ap (λ x. total_before x whole.width) (sym t);
  trees_are = ap (λ l. sized_append (all_sized_of l) whole.trees) (sym q);
}

-- the parts from an index on, where one stands at it
pub parts-from : (scope : Scope) (parts : List Expr) (i : ℕ) (part : Expr) → i < length parts → part ≡ get_or parts i part
    → parts_reading scope (expressions_of (drop i parts))
    ≡ part_before (is_unsized_number (expression_of part)) (place_of_expression (expression_of part)) (reading_of scope (expression_of part))
    (parts_reading scope (expressions_of (drop (i + 1) parts)))
parts-from scope parts i part below at = ap (λ l. parts_reading scope (expressions_of l)) (drop-step parts i part below at)

pub read-end : (scope : Scope) (parts : List Expr) (i : ℕ) (read : ReadParts) → length parts ≤ i
    → AreReadSo (parts_reading scope (expressions_of parts)) (parts_reading scope (expressions_of (drop i parts))) read → ArePartsRead (parts_reading scope (expressions_of parts)) read
read-end scope parts i read past h =
    let e = drop_all i parts past in
    let whole = parts_reading scope (expressions_of parts) in
    let inside : whole.inside ≡ h.inside = h.inside_is ∙ ap (λ l. h.inside ++ (parts_reading scope (expressions_of l)).inside) e ∙ append-nil h.inside in
    let P : List Fault → Type 0 = λ l. AreFaults [] l read.faults in
    record {
      faults_are = subst P (sym inside) h.faults_are;
      total_is = h.total_is ∙ ap (λ l. total_before read.total (parts_reading scope (expressions_of l)).width) e ∙ total-end read.total;
      trees_are =
          h.trees_are ∙ ap (λ l. sized_append (all_sized_of read.trees.items) (parts_reading scope (expressions_of l)).trees) e ∙ sized-end (all_sized_of read.trees.items);
    }

-- Concatenations and replications

pub concatenation-none : (place : SourcePlace) (parts : PartsReading) (read : ExprReading) (total : Option ℕ) → option_map capped parts.width ≡ option_map capped total → total ≡ None
    → IsReading (refused_reading [] parts.inside) read → IsReading (concatenation_reading place parts.width parts.complete parts.inside parts.trees) read
concatenation-none place parts read total e t h =
    let P : Option ℕ → Type 0 = λ w. IsReading (concatenation_reading place w parts.complete parts.inside parts.trees) read in
    subst P (sym (no-width parts.width (e ∙ ap (option_map capped) t))) h

pub concatenation-some : (place : SourcePlace) (parts : PartsReading) (read : ExprReading) (all : Option ℕ) (total : ℕ) (size : Option CodeSize) →
    option_map capped parts.width ≡ option_map capped all → all ≡ Some total
    → option_map size_of size ≡ size_within total false
    → ((width : ℕ) → option_map size_of size ≡ size_within width false → IsReading (sized_reading place width false parts.complete parts.inside (λ w s. SizedConcatenation w s parts.trees)) read)
    → IsReading (concatenation_reading place parts.width parts.complete parts.inside parts.trees) read
concatenation-some place parts read all total size e t z h =
    let w = some-width parts.width total (e ∙ ap (option_map capped) t) in
    let P : Option ℕ → Type 0 = λ x. IsReading (concatenation_reading place x parts.complete parts.inside parts.trees) read in
    subst P (sym w.1.0) (h w.0 (z ∙ sym (capped-within w.0 total false w.1.1)))

pub replication-none : (place : SourcePlace) (count : ℕ) (parts : PartsReading) (inside : List Fault) (read : ExprReading) (total : Option ℕ) →
    option_map capped parts.width ≡ option_map capped total → total ≡ None
    → IsReading (refused_reading [] inside) read → IsReading (replication_reading place (Some count) parts.width parts.complete inside parts.trees) read
replication-none place count parts inside read total e t h =
    let P : Option ℕ → Type 0 = λ w. IsReading (replication_reading place (Some count) w parts.complete inside parts.trees) read in
    subst P (sym (no-width parts.width (e ∙ ap (option_map capped) t))) h

pub replication-some : (place : SourcePlace) (count : ℕ) (parts : PartsReading) (inside : List Fault) (read : ExprReading) (all : Option ℕ) (total : ℕ) (size : Option CodeSize)
    → option_map capped parts.width ≡ option_map capped all → all ≡ Some total → option_map size_of size ≡ size_within (count * total) false
    → ((width : ℕ) → option_map size_of size ≡ size_within (count * width) false → IsReading
    (sized_reading place (count * width) false parts.complete inside (λ w s. SizedReplication w s count parts.trees)) read)
    → IsReading (replication_reading place (Some count) parts.width parts.complete inside parts.trees) read
replication-some place count parts inside read all total size e t z h =
    let w = some-width parts.width total (e ∙ ap (option_map capped) t) in
    let P : Option ℕ → Type 0 = λ x. IsReading (replication_reading place (Some count) x parts.complete inside parts.trees) read in
    subst P (sym w.1.0) (h w.0 (z ∙ sym (times-within count w.0 total false w.1.1)))
