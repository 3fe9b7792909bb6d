-- Each statement reads what it names, and no more operands than there is room for (IEEE 1364-2001, clause 4).
use Rattle.std.proofs.Common.{◌≡◌, ℕ, zero, suc, ◌+◌, ◌-◌, ◌<◌, ◌≤◌, min, Bool, true, false, List, [], ◌∷◌, ◌++◌, length, map, Option, Some, None, refl, ap, subst, arith}
use Rattle.std.specs.Prelude.{if◌then◌else◌, slice_get, nat_le}
use Rattle.four_value.specs.Values.{LogicValue, natural_number}
use Rattle.four_value.specs.declared.operator.CaseKind.{CaseKind}
use Rattle.vf_base.specs.Lists.{AllHold}
use Rattle.v_design.specs.Trees.{Piece, Vector, Memory, Expression, Constant, Name, BitSelect, PartSelect, WordSelect, Unary, Binary, Conditional, Concatenation, Replication, Expressions}
use Rattle.v_design.specs.Trees.{no_expressions, more_expressions, Target, WholeTarget, BitTarget, PartTarget, WordTarget, Statement, CaseItems, no_items, more_items}
use Rattle.v_design.specs.Reads.{named_in, named_in_parts, named_in_target, named_in_targets, named_by_items, named_by}
use Rattle.v_design.specs.Assignments.{read_index, read_indexes, read_assignment}
use Rattle.v_design.specs.Processes.{read_case, read_items}
use Rattle.v_design.specs.Expressions.{Slice, sign_of, is_constant, index_number, no_values, place_of_number, part_places, some_place_within, word_at, memory_pieces, whole_slices, slices_at}
use Rattle.v_design.specs.Expressions.{bit_slices, Progress, Needs, Has, then_with, read_slice, read_slices, read_expression, read_parts, read_each}
use Rattle.expr_eval.specs.WidthLaws.{AllHold-left, AllHold-right}
use Rattle.process_operands.specs.Bounds.{reads_most, reads_most_each, reads_most_items, reads_most_index, reads_most_targets, Bounds}

-- Readings one after the other

pub bounds-then : {A B : Type 0} (n m limit : ℕ) (operands : List LogicValue) (p : Progress A) (k : A → List LogicValue → Progress B) → Bounds n limit operands p →
    ((a : A) (left : List LogicValue) → Bounds m limit left (k a left)) → Bounds (n + m) limit operands (then_with p k)
bounds-then n m limit operands (Needs object) k h more = (h.0, omega (arith, h.1))
bounds-then n m limit operands (Has a left) k h more = both n m limit operands left (k a left) h (more a left)
  where
    both : {B : Type 0} (n m limit : ℕ) (operands left : List LogicValue) (q : Progress B) → length operands ≤ n + length left → Bounds m limit left q → Bounds (n + m) limit operands q
    both n m limit operands left (Needs object) h k = (k.0, omega (arith, h, k.1))
    both n m limit operands left (Has b rest) h k = omega (arith, h, k)

pub bounds-last : {A B : Type 0} (n limit : ℕ) (operands : List LogicValue) (p : Progress A) (f : A → B) → Bounds n limit operands p → Bounds n limit operands (then_with p (λ a left. Has (f a) left))
bounds-last n limit operands (Needs object) f h = h
bounds-last n limit operands (Has a left) f h = h

pub bounds-some : {A : Type 0} (n limit : ℕ) (operands left : List LogicValue) (a : A) → length operands ≤ n + length left → Bounds n limit operands (Has a left)
bounds-some n limit operands left a h = h

-- Slices

-- what a slice reads has a number below a limit
abbrev IsBelow : ℕ → Option ℕ → Type 0
IsBelow limit None = Unit {0}
IsBelow limit (Some object) = object < limit

-- what a list of pieces holds has numbers below a limit
abbrev pub AreBelow : ℕ → List Piece → Type 0
AreBelow limit pieces = AllHold (λ (piece : Piece). piece.object < limit) pieces

bounds-slice : (limit : ℕ) (object : Option ℕ) (width : ℕ) (operands : List LogicValue) → IsBelow limit object → Bounds 1 limit operands (read_slice object width operands)
bounds-slice limit None width operands h = omega arith
bounds-slice limit (Some object) width [] h = (h, omega arith)
bounds-slice limit (Some object) width (value ∷ operands) h = omega arith

bounds-slices : (limit : ℕ) (slices : List Slice) (operands : List LogicValue) → AllHold (λ (slice : Slice). IsBelow limit slice.object) slices →
    Bounds (length slices) limit operands (read_slices slices operands)
bounds-slices limit [] operands h = omega arith
bounds-slices limit (slice ∷ slices) operands h =
    let n : 1 + length slices ≡ suc (length slices) = omega arith in
    subst (λ k. Bounds k limit operands (read_slices (slice ∷ slices) operands)) n
    (bounds-then 1 (length slices) limit operands (read_slice slice.object slice.width operands) _ (bounds-slice limit slice.object slice.width operands h.0)
    (λ bits rest. bounds-last (length slices) limit rest (read_slices slices rest) (λ more. bits ++ more) (bounds-slices limit slices rest h.1)))

whole-below : (limit : ℕ) (pieces : List Piece) → AreBelow limit pieces → AllHold (λ (slice : Slice). IsBelow limit slice.object) (whole_slices pieces)
whole-below limit [] h = tt
whole-below limit (piece ∷ pieces) h = (h.0, whole-below limit pieces h.1)

if-below : (limit object : ℕ) (here : Bool) → object < limit → IsBelow limit (if here then Some object else None)
if-below limit object true h = h
if-below limit object false h = tt

some-below : (limit : ℕ) (places : List (Option ℕ)) (low : ℕ) (pieces : List Piece) → AreBelow limit pieces → AllHold (λ (slice : Slice). IsBelow limit slice.object) (slices_at places low pieces)
some-below limit places low [] h = tt
some-below limit places low (piece ∷ pieces) h = (if-below limit piece.object (some_place_within low (low + piece.width) places) h.0, some-below limit places (low + piece.width) pieces h.1)

length-whole : (pieces : List Piece) → length (whole_slices pieces) ≡ length pieces
length-whole [] = refl
length-whole (piece ∷ pieces) = ap suc (length-whole pieces)

length-some : (places : List (Option ℕ)) (low : ℕ) (pieces : List Piece) → length (slices_at places low pieces) ≡ length pieces
length-some places low [] = refl
length-some places low (piece ∷ pieces) = ap suc (length-some places (low + piece.width) pieces)

bounds-whole : (limit : ℕ) (pieces : List Piece) (operands : List LogicValue) → AreBelow limit pieces → Bounds (length pieces) limit operands (read_slices (whole_slices pieces) operands)
bounds-whole limit pieces operands h =
    subst (λ n. Bounds n limit operands (read_slices (whole_slices pieces) operands)) (length-whole pieces) (bounds-slices limit (whole_slices pieces) operands (whole-below limit pieces h))

bounds-part : (limit : ℕ) (places : List (Option ℕ)) (pieces : List Piece) (operands : List LogicValue) → AreBelow limit pieces →
    Bounds (length pieces) limit operands (read_slices (slices_at places 0 pieces) operands)
bounds-part limit places pieces operands h =
    subst (λ n. Bounds n limit operands (read_slices (slices_at places 0 pieces) operands)) (length-some places 0 pieces)
    (bounds-slices limit (slices_at places 0 pieces) operands (some-below limit places 0 pieces h))

bounds-bit : (limit : ℕ) (constant : Bool) (v : Vector) (number : Option ℕ) (operands : List LogicValue) → AreBelow limit v.pieces →
    Bounds (length v.pieces) limit operands (read_slices (bit_slices constant v number) operands)
bounds-bit limit true v number operands h = bounds-part limit (place_of_number v.high v.low number ∷ []) v.pieces operands h
bounds-bit limit false v number operands h = bounds-whole limit v.pieces operands h

-- Words

word-below : (limit width : ℕ) (words : List ℕ) (k : ℕ) → AreBelow limit (map (λ (word : ℕ). record { object = word; width = width }) words) → IsBelow limit (slice_get words k)
word-below limit width [] k h = tt
word-below limit width (word ∷ words) zero h = h.0
word-below limit width (word ∷ words) (suc k) h = word-below limit width words k h.1

word_at-below : (limit : ℕ) (m : Memory) (number : Option ℕ) → AreBelow limit (memory_pieces m) → IsBelow limit (word_at m number)
word_at-below limit m None h = tt
word_at-below limit m (Some address) h =
    elim (nat_le (min m.first m.last) address) as (λ b. IsBelow limit (if b then slice_get m.words (address - min m.first m.last) else None)) [
      | true ↦ word-below limit m.width m.words (address - min m.first m.last) h
      | false ↦ tt
    ]

-- Expressions

mutual
  pub bounds-expression : (limit : ℕ) (e : Expression) (operands : List LogicValue) → AreBelow limit (named_in e) → Bounds (reads_most e) limit operands (read_expression e operands)
  bounds-expression limit (Constant width signed value) operands h = omega arith
  bounds-expression limit (Name width signed v) operands h = bounds-last (length v.pieces) limit operands (read_slices (whole_slices v.pieces) operands) _ (bounds-whole limit v.pieces operands h)
  bounds-expression limit (BitSelect width signed v index) operands h =
      bounds-then (length v.pieces) (reads_most index) limit operands (read_slices (bit_slices (is_constant index) v (index_number no_values index)) operands) _
      (bounds-bit limit (is_constant index) v (index_number no_values index) operands (AllHold-left _ v.pieces (named_in index) h))
      (λ bits rest. bounds-last (reads_most index) limit rest (read_expression index rest) _ (bounds-expression limit index rest (AllHold-right _ v.pieces (named_in index) h)))
  bounds-expression limit (PartSelect width signed v from to) operands h =
      bounds-last (length v.pieces) limit operands (read_slices (slices_at (part_places v.high v.low from to) 0 v.pieces) operands) _
      (bounds-part limit (part_places v.high v.low from to) v.pieces operands h)
  bounds-expression limit (WordSelect width signed m index) operands h =
      bounds-then (reads_most index) 1 limit operands (read_expression index operands) _ (bounds-expression limit index operands (AllHold-left _ (named_in index) (memory_pieces m) h))
      (λ number rest. bounds-last 1 limit rest (read_slice (word_at m (natural_number (sign_of index) number)) m.width rest) _
      (bounds-slice limit (word_at m (natural_number (sign_of index) number)) m.width rest
      (word_at-below limit m (natural_number (sign_of index) number) (AllHold-right _ (named_in index) (memory_pieces m) h))))
  bounds-expression limit (Unary width signed operator a) operands h = bounds-last (reads_most a) limit operands (read_expression a operands) _ (bounds-expression limit a operands h)
  bounds-expression limit (Binary width signed operator a b) operands h =
      bounds-then (reads_most a) (reads_most b) limit operands (read_expression a operands) _ (bounds-expression limit a operands (AllHold-left _ (named_in a) (named_in b) h))
      (λ x rest. bounds-last (reads_most b) limit rest (read_expression b rest) _ (bounds-expression limit b rest (AllHold-right _ (named_in a) (named_in b) h)))
  bounds-expression limit (Conditional width signed c a b) operands h =
      let k = AllHold-right _ (named_in c) (named_in a ++ named_in b) h in
      bounds-then (reads_most c) (reads_most a + reads_most b) limit operands (read_expression c operands) _
      (bounds-expression limit c operands (AllHold-left _ (named_in c) (named_in a ++ named_in b) h))
      (λ t others. bounds-then (reads_most a) (reads_most b) limit others (read_expression a others) _ (bounds-expression limit a others (AllHold-left _ (named_in a) (named_in b) k))
      (λ x rest. bounds-last (reads_most b) limit rest (read_expression b rest) _ (bounds-expression limit b rest (AllHold-right _ (named_in a) (named_in b) k))))
  bounds-expression limit (Concatenation width signed parts) operands h = bounds-last (reads_most_each parts) limit operands (read_parts parts operands) _ (bounds-parts limit parts operands h)
  bounds-expression limit (Replication width signed count parts) operands h = bounds-last (reads_most_each parts) limit operands (read_parts parts operands) _ (bounds-parts limit parts operands h)

  pub bounds-parts : (limit : ℕ) (parts : Expressions) (operands : List LogicValue) → AreBelow limit (named_in_parts parts) → Bounds (reads_most_each parts) limit operands (read_parts parts operands)
  bounds-parts limit no_expressions operands h = omega arith
  bounds-parts limit (more_expressions part rest) operands h =
      bounds-then (reads_most part) (reads_most_each rest) limit operands (read_expression part operands) _
      (bounds-expression limit part operands (AllHold-left _ (named_in part) (named_in_parts rest) h))
      (λ bits others. bounds-last (reads_most_each rest) limit others (read_parts rest others) _ (bounds-parts limit rest others (AllHold-right _ (named_in part) (named_in_parts rest) h)))

-- Labels

bounds-each : (limit : ℕ) (labels : Expressions) (operands : List LogicValue) → AreBelow limit (named_in_parts labels) → Bounds (reads_most_each labels) limit operands (read_each labels operands)
bounds-each limit no_expressions operands h = omega arith
bounds-each limit (more_expressions first rest) operands h =
    bounds-then (reads_most first) (reads_most_each rest) limit operands (read_expression first operands) _
    (bounds-expression limit first operands (AllHold-left _ (named_in first) (named_in_parts rest) h))
    (λ value others. bounds-last (reads_most_each rest) limit others (read_each rest others) _ (bounds-each limit rest others (AllHold-right _ (named_in first) (named_in_parts rest) h)))

bounds-items : (limit : ℕ) (kind : CaseKind) (value : LogicValue) (items : CaseItems) (default : Statement) (operands : List LogicValue) → AreBelow limit (named_by_items items) →
    Bounds (reads_most_items items) limit operands (read_items kind value items default operands)
bounds-items limit kind value no_items default operands h = omega arith
bounds-items limit kind value (more_items labels statement rest) default operands h =
    bounds-then (reads_most_each labels) (reads_most_items rest) limit operands (read_each labels operands) _
    (bounds-each limit labels operands (AllHold-left _ (named_in_parts labels) (named_by statement ++ named_by_items rest) h))
    (λ read others. bounds-last (reads_most_items rest) limit others (read_items kind value rest default others) _
    (bounds-items limit kind value rest default others (AllHold-right _ (named_by statement) (named_by_items rest)
    (AllHold-right _ (named_in_parts labels) (named_by statement ++ named_by_items rest) h))))

-- a case reads what its expression and its labels name
pub bounds-case : (limit : ℕ) (kind : CaseKind) (value : Expression) (items : CaseItems) (default : Statement) (operands : List LogicValue) → AreBelow limit (named_in value) →
    AreBelow limit (named_by_items items) →
    Bounds (reads_most value + reads_most_items items) limit operands (read_case kind value items default operands)
bounds-case limit kind value items default operands h k =
    bounds-then (reads_most value) (reads_most_items items) limit operands (read_expression value operands) _ (bounds-expression limit value operands h)
    (λ bits others. bounds-items limit kind bits items default others k)

-- Targets

bounds-index : (limit : ℕ) (target : Target) (operands : List LogicValue) → AreBelow limit (named_in_target target) → Bounds (reads_most_index target) limit operands (read_index target operands)
bounds-index limit (WholeTarget variable) operands h = omega arith
bounds-index limit (BitTarget variable index) operands h = bounds-last (reads_most index) limit operands (read_expression index operands) _ (bounds-expression limit index operands h.1)
bounds-index limit (PartTarget variable from to) operands h = omega arith
bounds-index limit (WordTarget memory index) operands h =
    bounds-last (reads_most index) limit operands (read_expression index operands) _ (bounds-expression limit index operands (AllHold-right _ (memory_pieces memory) (named_in index) h))

bounds-indexes : (limit : ℕ) (targets : List Target) (operands : List LogicValue) → AreBelow limit (named_in_targets targets) →
    Bounds (reads_most_targets targets) limit operands (read_indexes targets operands)
bounds-indexes limit [] operands h = omega arith
bounds-indexes limit (target ∷ targets) operands h =
    bounds-then (reads_most_index target) (reads_most_targets targets) limit operands (read_index target operands) _
    (bounds-index limit target operands (AllHold-left _ (named_in_target target) (named_in_targets targets) h))
    (λ index rest. bounds-last (reads_most_targets targets) limit rest (read_indexes targets rest) _
    (bounds-indexes limit targets rest (AllHold-right _ (named_in_target target) (named_in_targets targets) h)))

-- an assignment reads what its value and its indexes name
pub bounds-assignment : (limit line : ℕ) (targets : List Target) (value : Expression) (operands : List LogicValue) → AreBelow limit (named_in_targets targets) → AreBelow limit (named_in value) →
    Bounds (reads_most value + reads_most_targets targets) limit operands (read_assignment line targets value operands)
bounds-assignment limit line targets value operands h k =
    bounds-then (reads_most value) (reads_most_targets targets) limit operands (read_expression value operands) _ (bounds-expression limit value operands k)
    (λ bits rest. bounds-last (reads_most_targets targets) limit rest (read_indexes targets rest) _ (bounds-indexes limit targets rest h))
