-- What a node names is there with its width, and its inputs are what it reads (IEEE 1364-2001, clause 6.1 and clause 7).
use Rattle.std.proofs.Common.{◌≡◌, ℕ, zero, suc, ◌+◌, ◌<◌, ◌≤◌, Bool, true, false, ◌&&◌, List, [], ◌∷◌, ◌++◌, length, map, Option, Some, None, refl, ap, sym, ◌∙◌, subst, inl, inr, arith}
use Rattle.std.specs.Prelude.{◌||◌, IsTrue, nat_eq, slice_get, flat_map, filter, if◌then◌else◌}
use Rattle.std.specs.List.{list_all}
use Rattle.std.proofs.lemmas.Bool.{or_cases, or_left, or_right, eq-eqb, eqb-true, cond-true, cond-false}
use Rattle.std.proofs.lemmas.Option.{slice_get_within}
use Rattle.vf_base.specs.Lists.{has, map_numbered, joined}
use Rattle.v_design.specs.Trees.{Piece, Vector, Expression, Constant, Name, BitSelect, PartSelect, WordSelect, Unary, Binary, Conditional, Concatenation, Replication, Expressions, no_expressions}
use Rattle.v_design.specs.Trees.{more_expressions}
use Rattle.v_design.specs.Expressions.{is_constant, up_from, whole_slices, some_place_within, slices_at, slice_piece, slice_pieces, no_values, bit_slices, index_number, part_places, place_of_number}
use Rattle.v_design.specs.Expressions.{memory_pieces, pieces_read, parts_read, piece_objects}
use Rattle.v_design.specs.Designs.{FlatObject, FlatNodeKind, AssignNode, GateNode, BlockNode, FlatDesign}
use Rattle.v_design.specs.Reads.{node_reads, named_in, named_in_parts, named_by_node}
use Rattle.v_design.specs.WellFormed.{width_is, has_width, have_widths}
use Rattle.v_tree.specs.Trees.{Identifier, same_name}
use Rattle.v_names.specs.Scopes.{range_width}
use Rattle.v_names.specs.SizedTrees.{SizedExpression, SizedConstant, SizedName, SizedBit, SizedPart, SizedWord, SizedUnary, SizedBinary, SizedChoice, SizedConcatenation, SizedReplication}
use Rattle.v_names.specs.SizedTrees.{SizedExpressions, no_sized, more_sized, Holders, over_objects, all_over_objects}
use Rattle.v_names.specs.SizedLaws.{and-left, and-right}
use Rattle.v_elab.specs.Parts.{Signal, WalkedMemory, Part, SignalPart, MemoryPart, AssignPart, GatePart, ProcessPart, InstancePart}
use Rattle.v_elab.specs.Drivers.{signals_of, outermost, is_unjoined, WalkedNode}
use Rattle.v_elab.specs.Objects.{HeldObject, word_object, word_objects, signal_objects, part_objects, objects_of_parts, piece_if, memories_of, memory_vector, memory_if, memory_of_name, holders_at}
use Rattle.v_elab.specs.Flat.{inputs_of}
use Rattle.graph_order.specs.ListLaws.{AllHold-slice_get}
use Rattle.flat_laws.specs.Lists.{same_some, at-append}
use Rattle.flat_laws.specs.Numbered.{AllHold-map, AllHold-all}
use Rattle.flat_laws.specs.Hierarchy.Given.{equal-name, both-true, part_name, IsHierarchy}
use Rattle.flat_laws.specs.Drivers.Held.{signal-holder, memory-part}
use Rattle.flat_laws.specs.Sizes.Objects.{all-append, object-at, pieces-there}

-- The words of a memory

pub at-flat_map : {A B : Type 0} (g : A → List B) (xs : List A) (i : ℕ) (y : B) → slice_get (flat_map g xs) i ≡ Some y →
    (j : ℕ) × (x : A) × (m : ℕ) × (slice_get xs j ≡ Some x) × (slice_get (g x) m ≡ Some y)
at-flat_map g [] i y at = absurd (cc)
at-flat_map g (x ∷ xs) i y at =
    elim (at-append (g x) (flat_map g xs) i y at) [
      | inl first ↦ (0, x, i, refl, first.1)
      | inr second ↦ let r = at-flat_map g xs second.0 y second.2 in (suc r.0, r.1, r.2, r.3, r.4)
    ]

-- an object of a part that has a name holds that name
pub part-holds : (signals : List Signal) (nodes : List WalkedNode) (part : Part) (m : ℕ) (held : HeldObject) → slice_get (part_objects signals nodes part) m ≡ Some held →
    part_name part ≡ Some held.holder
part-holds signals nodes (SignalPart signal) m held at =
    ap Some (sym (AllHold-slice_get (λ (h : HeldObject). h.holder ≡ signal.name) (signal_objects signals nodes (is_unjoined signal) signal) m held
    (signal-holder signals nodes (is_unjoined signal) signal) at))
part-holds signals nodes (MemoryPart memory) m held at =
    ap Some (sym (AllHold-slice_get (λ (h : HeldObject). h.holder ≡ memory.name) (word_objects memory) m held
    (AllHold-map (λ (h : HeldObject). h.holder ≡ memory.name) (word_object memory) _ (AllHold-all (λ address. (word_object memory address).holder ≡ memory.name) _ (λ address. refl))) at))
part-holds signals nodes (AssignPart drives value) m held at = absurd (cc)
part-holds signals nodes (GatePart name kind drives path terminals) m held at = absurd (cc)
part-holds signals nodes (ProcessPart process) m held at = absurd (cc)
part-holds signals nodes InstancePart m held at = absurd (cc)

-- an object that holds a memory's name has the width of its words
word-width : (parts : List Part) (nodes : List WalkedNode) → IsHierarchy parts → (k : ℕ) (memory : WalkedMemory) → slice_get parts k ≡ Some (MemoryPart memory) → (i : ℕ) (held : HeldObject) →
    slice_get (objects_of_parts parts nodes) i ≡ Some held →
    held.holder ≡ memory.name → held.object.width ≡ range_width memory.range
word-width parts nodes hierarchy k memory at i held there name =
    let r = at-flat_map (part_objects (signals_of parts) nodes) parts i held there in
    let same : r.0 ≡ k = hierarchy.once r.0 k r.1 (MemoryPart memory) memory.name r.3 at (part-holds (signals_of parts) nodes r.1 r.2 held r.4 ∙ ap Some name) refl in
    let part : r.1 ≡ MemoryPart memory = same_some r.1 (MemoryPart memory) (sym r.3 ∙ ap (slice_get parts) same ∙ at) in
    let word : slice_get (word_objects memory) r.2 ≡ Some held = ap (λ p. slice_get (part_objects (signals_of parts) nodes p) r.2) (sym part) ∙ r.4 in
    AllHold-slice_get (λ (h : HeldObject). h.object.width ≡ range_width memory.range) (word_objects memory) r.2 held
    (AllHold-map (λ (h : HeldObject). h.object.width ≡ range_width memory.range) (word_object memory) _
    (AllHold-all (λ address. (word_object memory address).object.width ≡ range_width memory.range) _ (λ address. refl))) word

word-there : (design : FlatDesign) (width number : ℕ) (holder : Identifier) (held : HeldObject) (test : Bool) → same_name held.holder holder ≡ test →
    slice_get design.objects number ≡ Some held.object → (held.holder ≡ holder → held.object.width ≡ width) →
    list_all (has_width design) (map (λ word. record { object = word; width = width }) (map (λ (p : Piece). p.object) (piece_if test number held))) ≡ true
word-there design width number holder held true is at same =
    both-true (width_is width (slice_get design.objects number)) true (ap (width_is width) at ∙ eq-eqb held.object.width width (same (equal-name held.holder holder is))) refl
word-there design width number holder held false is at same = refl

words-there : (design : FlatDesign) (width : ℕ) (holder : Identifier) (start : ℕ) (objects : List HeldObject) →
    ((i : ℕ) (held : HeldObject) → slice_get objects i ≡ Some held → (slice_get design.objects (start + i) ≡ Some held.object) × (held.holder ≡ holder → held.object.width ≡ width)) →
    list_all (has_width design)
    (map (λ word. record { object = word; width = width }) (map (λ (p : Piece). p.object) (joined
    (map_numbered (λ number (held : HeldObject). piece_if (same_name held.holder holder) number held) start objects)))) ≡ true
words-there design width holder start [] there = refl
words-there design width holder start (held ∷ objects) there =
    let first = piece_if (same_name held.holder holder) start held in
    let rest = joined (map_numbered (λ number (h : HeldObject). piece_if (same_name h.holder holder) number h) (start + 1) objects) in
    let same : start + 0 ≡ start = omega arith in
    let here = there 0 held refl in
    let one = word-there design width start holder held (same_name held.holder holder) refl (ap (slice_get design.objects) (sym same) ∙ here.0) here.1 in
    let later = words-there design width holder (start + 1) objects
    (λ i other at. let moved : (start + 1) + i ≡ start + suc i = omega arith in let next = there (suc i) other at in (ap (slice_get design.objects) moved ∙ next.0, next.1)) in
    ap (list_all (has_width design)) (split (λ word. record { object = word; width = width }) first rest)
    ∙ all-append (has_width design) (map (λ word. record { object = word; width = width }) (map (λ (p : Piece). p.object) first))
    (map (λ word. record { object = word; width = width }) (map (λ (p : Piece). p.object) rest)) one later
  where
    split : (f : ℕ → Piece) (xs ys : List Piece) → map f (map (λ (p : Piece). p.object) (xs ++ ys)) ≡ map f (map (λ (p : Piece). p.object) xs) ++ map f (map (λ (p : Piece). p.object) ys)
    split f [] ys = refl
    split f (x ∷ xs) ys = ap (λ l. f x.object ∷ l) (split f xs ys)

-- the words of a name are objects of the design with the width of a word
memory-there : (design : FlatDesign) (parts : List Part) (nodes : List WalkedNode) → IsHierarchy parts → map (λ (held : HeldObject). held.object) (objects_of_parts parts nodes) ≡ design.objects →
    (memories : List WalkedMemory) →
    ((i : ℕ) (memory : WalkedMemory) → slice_get memories i ≡ Some memory → (k : ℕ) × (slice_get parts k ≡ Some (MemoryPart memory))) → (name : Identifier) →
    list_all (has_width design) (memory_pieces (memory_of_name (objects_of_parts parts nodes) memories name)) ≡ true
memory-there design parts nodes hierarchy is [] each name = refl
memory-there design parts nodes hierarchy is (memory ∷ memories) each name =
    by_test (same_name memory.name name) (memory-there design parts nodes hierarchy is memories (λ i other at. each (suc i) other at) name)
  where
    objects : List HeldObject
    objects = objects_of_parts parts nodes

    by_test : (test : Bool) → list_all (has_width design) (memory_pieces (memory_of_name objects memories name)) ≡ true →
        list_all (has_width design) (memory_pieces (memory_if test (memory_vector objects memory) (memory_of_name objects memories name))) ≡ true
    by_test true rest =
        let part = each 0 memory refl in
        words-there design (range_width memory.range) memory.name 0 objects
        (λ i held at.
        let same : 0 + i ≡ i = omega arith in
        (ap (slice_get design.objects) same ∙ ap (λ all. slice_get all i) (sym is) ∙ object-at objects i held at, word-width parts nodes hierarchy part.0 memory part.1 i held at))
    by_test false rest = rest

-- What an expression names

-- the objects that hold names are there with their widths
abbrev pub AreThere : FlatDesign → Holders → Type 0
AreThere design holders =
    (name : Identifier) → (list_all (has_width design) (holders.vector name).pieces ≡ true) × (list_all (has_width design) (memory_pieces (holders.memory name)) ≡ true)

pub holders-there : (design : FlatDesign) (parts : List Part) (nodes : List WalkedNode) → IsHierarchy parts →
    map (λ (held : HeldObject). held.object) (objects_of_parts parts nodes) ≡ design.objects → (path : Identifier) →
    AreThere design (holders_at parts (objects_of_parts parts nodes) path)
holders-there design parts nodes hierarchy is path name = (
  pieces-there design (objects_of_parts parts nodes) is (outermost (signals_of parts) (path ++ name)),
  memory-there design parts nodes hierarchy is (memories_of parts) (memory-part parts) (path ++ name),
)

mutual
  -- an expression over objects names objects with their widths
  pub tree-there : (design : FlatDesign) (holders : Holders) → AreThere design holders → (tree : SizedExpression) → list_all (has_width design) (named_in (over_objects holders tree)) ≡ true
  tree-there design holders there (SizedConstant width signed value) = refl
  tree-there design holders there (SizedName width signed name) = (there name).0
  tree-there design holders there (SizedBit width signed name index) = all-append (has_width design) (holders.vector name).pieces (named_in (over_objects holders index)) (there name).0
      (tree-there design holders there index)
  tree-there design holders there (SizedPart width signed name from to) = (there name).0
  tree-there design holders there (SizedWord width signed name index) =
      all-append (has_width design) (named_in (over_objects holders index)) (memory_pieces (holders.memory name)) (tree-there design holders there index) (there name).1
  tree-there design holders there (SizedUnary width signed operator operand) = tree-there design holders there operand
  tree-there design holders there (SizedBinary width signed operator left right) =
      all-append (has_width design) (named_in (over_objects holders left)) (named_in (over_objects holders right)) (tree-there design holders there left) (tree-there design holders there right)
  tree-there design holders there (SizedChoice width signed condition first second) =
      all-append (has_width design) (named_in (over_objects holders condition)) (named_in (over_objects holders first) ++ named_in (over_objects holders second))
      (tree-there design holders there condition)
      (all-append (has_width design) (named_in (over_objects holders first)) (named_in (over_objects holders second)) (tree-there design holders there first) (tree-there design holders there second))
  tree-there design holders there (SizedConcatenation width signed parts) = trees-there design holders there parts
  tree-there design holders there (SizedReplication width signed count parts) = trees-there design holders there parts

  pub trees-there : (design : FlatDesign) (holders : Holders) → AreThere design holders → (trees : SizedExpressions) →
      list_all (has_width design) (named_in_parts (all_over_objects holders trees)) ≡ true
  trees-there design holders there no_sized = refl
  trees-there design holders there (more_sized first rest) =
      all-append (has_width design) (named_in (over_objects holders first)) (named_in_parts (all_over_objects holders rest)) (tree-there design holders there first)
      (trees-there design holders there rest)

-- What an expression reads

pub all-front : {A : Type 0} (test : A → Bool) (xs ys : List A) → list_all test (xs ++ ys) ≡ true → list_all test xs ≡ true
all-front test [] ys h = refl
all-front test (x ∷ xs) ys h = both-true (test x) (list_all test xs) (and-left (test x) (list_all test (xs ++ ys)) h) (all-front test xs ys (and-right (test x) (list_all test (xs ++ ys)) h))

pub all-back : {A : Type 0} (test : A → Bool) (xs ys : List A) → list_all test (xs ++ ys) ≡ true → list_all test ys ≡ true
all-back test [] ys h = h
all-back test (x ∷ xs) ys h = all-back test xs ys (and-right (test x) (list_all test (xs ++ ys)) h)

whole-pieces : (pieces : List Piece) → slice_pieces (whole_slices pieces) ≡ pieces
whole-pieces [] = refl
whole-pieces (piece ∷ pieces) = ap (λ l. piece ∷ l) (whole-pieces pieces)

some-slice : (test : Piece → Bool) (kept : Bool) (piece : Piece) (rest : List Piece) → test piece ≡ true → list_all test rest ≡ true →
    list_all test (slice_piece (if kept then Some piece.object else None) piece.width ++ rest) ≡ true
some-slice test true piece rest h k = both-true (test piece) (list_all test rest) h k
some-slice test false piece rest h k = k

pub slices-there : (test : Piece → Bool) (places : List (Option ℕ)) (offset : ℕ) (pieces : List Piece) → list_all test pieces ≡ true →
    list_all test (slice_pieces (slices_at places offset pieces)) ≡ true
slices-there test places offset [] h = refl
slices-there test places offset (piece ∷ pieces) h =
    some-slice test (some_place_within offset (offset + piece.width) places) piece (slice_pieces (slices_at places (offset + piece.width) pieces)) (and-left (test piece) (list_all test pieces) h)
    (slices-there test places (offset + piece.width) pieces (and-right (test piece) (list_all test pieces) h))

pub bit-there : (test : Piece → Bool) (fixed : Bool) (v : Vector) (index : Option ℕ) → list_all test v.pieces ≡ true → list_all test (slice_pieces (bit_slices fixed v index)) ≡ true
bit-there test true v index h = slices-there test (place_of_number v.high v.low index ∷ []) 0 v.pieces h
bit-there test false v index h = ap (list_all test) (whole-pieces v.pieces) ∙ h

mutual
  -- what is read is named
  pub read-there : (test : Piece → Bool) (e : Expression) → list_all test (named_in e) ≡ true → list_all test (pieces_read e) ≡ true
  read-there test (Constant width signed value) h = refl
  read-there test (Name width signed v) h = h
  read-there test (BitSelect width signed v index) h =
      all-append test (slice_pieces (bit_slices (is_constant index) v (index_number no_values index))) (pieces_read index)
      (bit-there test (is_constant index) v (index_number no_values index) (all-front test v.pieces (named_in index) h)) (read-there test index (all-back test v.pieces (named_in index) h))
  read-there test (PartSelect width signed v from to) h = slices-there test (part_places v.high v.low from to) 0 v.pieces h
  read-there test (WordSelect width signed m index) h =
      all-append test (pieces_read index) (memory_pieces m) (read-there test index (all-front test (named_in index) (memory_pieces m) h)) (all-back test (named_in index) (memory_pieces m) h)
  read-there test (Unary width signed operator a) h = read-there test a h
  read-there test (Binary width signed operator a b) h =
      all-append test (pieces_read a) (pieces_read b) (read-there test a (all-front test (named_in a) (named_in b) h)) (read-there test b (all-back test (named_in a) (named_in b) h))
  read-there test (Conditional width signed c a b) h =
      let rest = all-back test (named_in c) (named_in a ++ named_in b) h in
      all-append test (pieces_read c) (pieces_read a ++ pieces_read b) (read-there test c (all-front test (named_in c) (named_in a ++ named_in b) h))
      (all-append test (pieces_read a) (pieces_read b) (read-there test a (all-front test (named_in a) (named_in b) rest)) (read-there test b (all-back test (named_in a) (named_in b) rest)))
  read-there test (Concatenation width signed parts) h = reads-there test parts h
  read-there test (Replication width signed count parts) h = reads-there test parts h

  pub reads-there : (test : Piece → Bool) (parts : Expressions) → list_all test (named_in_parts parts) ≡ true → list_all test (parts_read parts) ≡ true
  reads-there test no_expressions h = refl
  reads-there test (more_expressions part rest) h =
      all-append test (pieces_read part) (parts_read rest) (read-there test part (all-front test (named_in part) (named_in_parts rest) h))
      (reads-there test rest (all-back test (named_in part) (named_in_parts rest) h))

-- an object that some pieces name is one of the design
pub width-within : (objects : List FlatObject) (width number : ℕ) → width_is width (slice_get objects number) ≡ true → number < length objects
width-within objects width number h = by_object (slice_get objects number) refl h
  where
    by_object : (found : Option FlatObject) → slice_get objects number ≡ found → width_is width found ≡ true → number < length objects
    by_object None is e = absurd (cc)
    by_object (Some object) is e = slice_get_within objects number object is

object-within : (design : FlatDesign) (pieces : List Piece) (o : ℕ) → list_all (has_width design) pieces ≡ true → has (piece_objects pieces) o ≡ true → o < length design.objects
object-within design [] o h e = absurd (cc)
object-within design (piece ∷ pieces) o h e =
    elim (or_cases (nat_eq piece.object o) (has (piece_objects pieces) o) e) [
      | inl same ↦ subst (λ n. n < length design.objects) (eqb-true piece.object o same) (width-within design.objects piece.width piece.object
          (and-left (has_width design piece) (list_all (has_width design) pieces) h))
      | inr later ↦ object-within design pieces o (and-right (has_width design piece) (list_all (has_width design) pieces) h) later
    ]

-- Inputs

pub has-filter : (test : ℕ → Bool) (xs : List ℕ) (o : ℕ) → has (filter test xs) o ≡ (test o && has xs o)
has-filter test [] o = sym (none (test o))
  where
    none : (b : Bool) → (b && false) ≡ false
    none true = refl
    none false = refl
has-filter test (x ∷ xs) o = by_test (test x) refl (nat_eq x o) refl (has-filter test xs o)
  where
    by_test : (passes : Bool) → test x ≡ passes → (same : Bool) → nat_eq x o ≡ same → has (filter test xs) o ≡ (test o && has xs o) →
        has (filter test (x ∷ xs)) o ≡ (test o && (nat_eq x o || has xs o))
    by_test true p true s rest =
        let is : test o ≡ true = ap test (sym (eqb-true x o s)) ∙ p in
        ap (λ l. has l o) (cond-true (test x) (x ∷ filter test xs) (filter test xs) p) ∙ or_left (nat_eq x o) (has (filter test xs) o) s
        ∙ sym (both-true (test o) (nat_eq x o || has xs o) is (or_left (nat_eq x o) (has xs o) s))
    by_test true p false s rest =
        ap (λ l. has l o) (cond-true (test x) (x ∷ filter test xs) (filter test xs) p) ∙ ap (λ b. b || has (filter test xs) o) s ∙ rest ∙ ap (λ b. test o && (b || has xs o)) (sym s)
    by_test false p true s rest =
        let is : test o ≡ false = ap test (sym (eqb-true x o s)) ∙ p in
        ap (λ l. has l o) (cond-false (test x) (x ∷ filter test xs) (filter test xs) p) ∙ rest ∙ ap (λ b. b && has xs o) is ∙ ap (λ b. b && (nat_eq x o || has xs o)) (sym is)
    by_test false p false s rest = ap (λ l. has l o) (cond-false (test x) (x ∷ filter test xs) (filter test xs) p) ∙ rest ∙ ap (λ b. test o && (b || has xs o)) (sym s)

pub has-all : (start count o : ℕ) → start ≤ o → o < start + count → has (up_from start count) o ≡ true
has-all start zero o low high = absurd (omega (arith, low, high))
has-all start (suc count) o low high = by_first (nat_eq start o) refl (λ l h. has-all (start + 1) count o l h)
  where
    by_first : (same : Bool) → nat_eq start o ≡ same → (start + 1 ≤ o → o < (start + 1) + count → has (up_from (start + 1) count) o ≡ true) →
        (nat_eq start o || has (up_from (start + 1) count) o) ≡ true
    by_first true s rest = or_left (nat_eq start o) (has (up_from (start + 1) count) o) s
    by_first false s rest =
        or_right (nat_eq start o) (has (up_from (start + 1) count) o)
        (rest (let apart : start ≡ o → ⊥ = λ e. let both : true ≡ false = sym (eq-eqb start o e) ∙ s in absurd (cc) in omega (arith, low, apart)) (omega (arith, high)))

-- the inputs of a node are what it reads, where that is there
pub inputs-are : (objects : List HeldObject) (kind : FlatNodeKind) (outputs : List ℕ) → ((o : ℕ) → has (node_reads kind outputs) o ≡ true → o < length objects) →
    (o : ℕ) → has (inputs_of objects kind outputs) o ≡ has (node_reads kind outputs) o
inputs-are objects kind outputs within o =
    has-filter (has (node_reads kind outputs)) (up_from 0 (length objects)) o ∙ by_read (has (node_reads kind outputs) o) refl
  where
    by_read : (reads : Bool) → has (node_reads kind outputs) o ≡ reads → (has (node_reads kind outputs) o && has (up_from 0 (length objects)) o) ≡ has (node_reads kind outputs) o
    by_read true e =
        let low = within o e in
        both-true (has (node_reads kind outputs) o) (has (up_from 0 (length objects)) o) e (has-all 0 (length objects) o (omega arith) (omega (arith, low))) ∙ sym e
    by_read false e = ap (λ b. b && has (up_from 0 (length objects)) o) e ∙ sym e

abbrev pub IsAssignOrGate : FlatNodeKind → Type 0
IsAssignOrGate (AssignNode value places) = Unit {0}
IsAssignOrGate (GateNode kind terminals) = Unit {0}
IsAssignOrGate (BlockNode statement) = ⊥

-- an assignment or a gate reads objects of the design
pub reads-within : (design : FlatDesign) (kind : FlatNodeKind) (outputs : List ℕ) → IsTrue (have_widths design (named_by_node kind)) → (o : ℕ) → has (node_reads kind outputs) o ≡ true →
    IsAssignOrGate kind → o < length design.objects
reads-within design (AssignNode value places) outputs named o e which = object-within design (pieces_read value) o (read-there (has_width design) value named) e
reads-within design (GateNode kind terminals) outputs named o e which = object-within design (parts_read terminals) o (reads-there (has_width design) terminals named) e
reads-within design (BlockNode statement) outputs named o e which = absurd which
