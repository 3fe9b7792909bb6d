-- What a process waits for stands on bits of objects of the design (IEEE 1364-2001, clause 9.7.2 for events; clause 9.7.5 for `@*`).
use Rattle.std.proofs.Common.{◌≡◌, ℕ, ◌<◌, Bool, true, false, List, [], ◌∷◌, ◌++◌, length, map, refl, sym, ap, ◌∙◌, inl, inr, arith}
use Rattle.std.specs.Prelude.{◌||◌, nat_eq, get_or, flat_map}
use Rattle.std.specs.List.{list_all}
use Rattle.std.proofs.lemmas.Bool.{cases_Bool, eq-eqb}
use Rattle.std.proofs.lemmas.Option.{slice_get_cases}
use Rattle.vf_base.specs.Base.{SourcePlace}
use Rattle.vf_base.specs.Lists.{has, without_repeats, fresh_only, AllHold}
use Rattle.v_design.specs.Trees.{Piece, Expression, Constant, Name, BitSelect, PartSelect, WordSelect, Unary, Binary, Conditional, Concatenation, Replication, Expressions, no_expressions}
use Rattle.v_design.specs.Trees.{more_expressions}
use Rattle.v_design.specs.Expressions.{is_constant, no_values, bit_slices, index_number, slices_at, slice_pieces, part_places, memory_pieces, piece_objects}
use Rattle.v_design.specs.Reads.{named_in, named_in_parts}
use Rattle.v_design.specs.Designs.{FlatObject, FlatDesign, width_in}
use Rattle.v_design.specs.WellFormed.{width_is, has_width, IsSizedObject}
use Rattle.v_tree.specs.Trees.{Identifier, SourceExpression, SourceIndex, NoIndex, IndexAt, IndexRange, SourceExpressions, no_parts, more_parts, SourceSelect, SourceTarget, selects_of, SourceEntry}
use Rattle.v_tree.specs.Trees.{SourceWaits, OnAnyRead, OnEntries, SourceStatement, NullStatement, BlockStatement, IfStatement, IfElseStatement, CaseStatement, ForStatement, WhileStatement}
use Rattle.v_tree.specs.Trees.{RepeatStatement, ForeverStatement, WaitStatement, EventStatement, DelayStatement, BlockingStatement, NonblockingStatement, IgnoredTask, FinishTask, SourceStatements}
use Rattle.v_tree.specs.Trees.{no_source_statements, more_source_statements, SourceCaseItems, no_source_items, labelled, otherwise}
use Rattle.v_names.specs.Faults.{WrongKind, fault_at}
use Rattle.v_names.specs.Scopes.{Scope, looked_up, is_parameter, is_memory}
use Rattle.v_names.specs.Readings.{alone_faults, select_reading, reading_of, tree_alone}
use Rattle.v_names.specs.Constants.{IndexOrCount, known_faults, constant_name_faults, value_faults, index_faults, fixed_index_faults, fixed_select_faults}
use Rattle.v_names.specs.Names.{entry_faults}
use Rattle.v_names.specs.SizedLaws.{and-left, and-right}
use Rattle.v_width.specs.Targets.{places_of_select}
use Rattle.v_elab.specs.ItemFaults.{entry_select_faults, waits_faults}
use Rattle.v_elab.specs.Statements.{Meaning, alone_expression, indexed_target, target_by_index, targets_over, places_by_edge, entries_of_select, whole_entry, objects_in_text, part_objects_in_text}
use Rattle.v_elab.specs.Statements.{index_objects_in_text, expression_in_text, labels_in_text, assignment_in_text, read_in_text, all_read_in_text, items_read_in_text, wait_entries}
use Rattle.flat_laws.specs.Numbered.{AllHold-each, AllHold-append, AllHold-map}
use Rattle.flat_laws.specs.Sizes.Complete.{append-none, group-none, IsSettled, select-full, constant-names}
use Rattle.flat_laws.specs.Blocks.Named.{AreThere, tree-there, all-front, all-back, bit-there, slices-there, width-within}
use Rattle.flat_laws.specs.Sizes.Entries.{Ascend, one-ascends, whole-ascends, between-ascends, edge-ascends, IsEntryThere, entries-there, piece-width}

-- Entries

kind-none : (scope : Scope) (select : SourceSelect) → (is_parameter (looked_up scope select.name) || is_memory (looked_up scope select.name)) ≡ true →
    entry_select_faults scope select ≡ fault_at select.place WrongKind ∷ []
kind-none scope select e = rw e

kind-other : (scope : Scope) (select : SourceSelect) → (is_parameter (looked_up scope select.name) || is_memory (looked_up scope select.name)) ≡ false →
    entry_select_faults scope select ≡ alone_faults (select_reading scope select.place select.name select.index)
kind-other scope select e = rw e

-- nothing is wrong with the select of an entry
select-none : (scope : Scope) (select : SourceSelect) → entry_select_faults scope select ≡ [] → alone_faults (select_reading scope select.place select.name select.index) ≡ []
select-none scope select e =
    elim (cases_Bool (is_parameter (looked_up scope select.name) || is_memory (looked_up scope select.name))) [
      | inl kind ↦ let wrong : fault_at select.place WrongKind ∷ [] ≡ [] = sym (kind-none scope select kind) ∙ e in absurd (cc)
      | inr other ↦ sym (kind-other scope select other) ∙ e
    ]

fixed-names : (scope : Scope) (index : SourceIndex) → fixed_index_faults scope index ≡ [] → index_faults scope index ≡ []
fixed-names scope NoIndex e = refl
fixed-names scope (IndexAt index) e = constant-names scope index (append-none (constant_name_faults scope index) (value_faults scope IndexOrCount index) e).0
fixed-names scope (IndexRange from to) e = e

-- the places of such a select ascend
select-ascends : (scope : Scope) → IsSettled scope → (place : SourcePlace) (name : Identifier) (index : SourceIndex) → known_faults (looked_up scope name) place ++ index_faults scope index ≡ [] →
    alone_faults (select_reading scope place name index) ≡ [] →
    Ascend 0 (places_of_select scope (record { place = place; name = name; index = index }))
select-ascends scope settled place name NoIndex names alone = whole-ascends _
select-ascends scope settled place name (IndexAt index) names alone = one-ascends _
select-ascends scope settled place name (IndexRange from to) names alone =
    let none = group-none (select_reading scope place name (IndexRange from to)).here (select_reading scope place name (IndexRange from to)).inside alone in
    between-ascends (looked_up scope name) place name (alone_faults (reading_of scope from) ++ alone_faults (reading_of scope to)) _ _ none.0
    (select-full scope settled place name (IndexRange from to) names none.0 none.1)

both-none : {A : Type 0} (xs ys : List A) → xs ≡ [] → ys ≡ [] → xs ++ ys ≡ []
both-none xs ys h k = ap (λ l. l ++ ys) h ∙ k

-- the entries of a select are there
select-entries : (design : FlatDesign) (meaning : Meaning) → AllHold IsSizedObject design.objects → AreThere design meaning.holders → IsSettled meaning.scope → (entry : SourceEntry) →
    fixed_select_faults meaning.scope entry.select ≡ [] →
    entry_select_faults meaning.scope entry.select ≡ [] → AllHold (IsEntryThere design) (entries_of_select meaning entry)
select-entries design meaning sized there settled entry names wrong =
    let scope = meaning.scope in
    let select = entry.select in
    let split = append-none (known_faults (looked_up scope select.name) select.place) (fixed_index_faults scope select.index) names in
    let known = both-none (known_faults (looked_up scope select.name) select.place) (index_faults scope select.index) split.0 (fixed-names scope select.index split.1) in
    let up = select-ascends scope settled select.place select.name select.index known (select-none scope select wrong) in
    entries-there design sized entry.edge (places_by_edge entry.edge (places_of_select scope select)) (edge-ascends entry.edge (places_of_select scope select) up) 0
    (meaning.holders.vector select.name).pieces (there select.name).0

all-entries : (design : FlatDesign) (meaning : Meaning) → AllHold IsSizedObject design.objects → AreThere design meaning.holders → IsSettled meaning.scope → (entries : List SourceEntry) →
    flat_map (λ (e : SourceEntry). fixed_select_faults meaning.scope e.select) entries ≡ [] → flat_map (λ (e : SourceEntry). entry_select_faults meaning.scope e.select) entries ≡ [] →
    AllHold (IsEntryThere design) (flat_map (entries_of_select meaning) entries)
all-entries design meaning sized there settled [] names wrong = tt
all-entries design meaning sized there settled (entry ∷ rest) names wrong =
    let n = append-none (fixed_select_faults meaning.scope entry.select) (flat_map (λ (e : SourceEntry). fixed_select_faults meaning.scope e.select) rest) names in
    let w = append-none (entry_select_faults meaning.scope entry.select) (flat_map (λ (e : SourceEntry). entry_select_faults meaning.scope e.select) rest) wrong in
    AllHold-append (IsEntryThere design) (entries_of_select meaning entry) (flat_map (entries_of_select meaning) rest) (select-entries design meaning sized there settled entry n.0 w.0)
    (all-entries design meaning sized there settled rest n.1 w.1)

-- What is read in a text

-- an object of the design
abbrev IsThere : FlatDesign → ℕ → Type 0
IsThere design o = o < length design.objects

pieces-in : (design : FlatDesign) (pieces : List Piece) → list_all (has_width design) pieces ≡ true → AllHold (IsThere design) (piece_objects pieces)
pieces-in design [] h = tt
pieces-in design (piece ∷ pieces) h = (
  width-within design.objects piece.width piece.object (and-left (has_width design piece) (list_all (has_width design) pieces) h),
  pieces-in design pieces (and-right (has_width design piece) (list_all (has_width design) pieces) h),
)

words-in : (design : FlatDesign) (width : ℕ) (words : List ℕ) → list_all (has_width design) (map (λ word. record { object = word; width = width }) words) ≡ true → AllHold (IsThere design) words
words-in design width [] h = tt
words-in design width (word ∷ words) h =
    let piece : Piece = record { object = word; width = width } in
    let rest = map (λ other. record { object = other; width = width }) words in (
      width-within design.objects width word (and-left (has_width design piece) (list_all (has_width design) rest) h),
      words-in design width words (and-right (has_width design piece) (list_all (has_width design) rest) h),
    )

mutual
  text-there : (design : FlatDesign) (e : Expression) → list_all (has_width design) (named_in e) ≡ true → AllHold (IsThere design) (objects_in_text e)
  text-there design (Constant width signed value) h = tt
  text-there design (Name width signed v) h = pieces-in design v.pieces h
  text-there design (BitSelect width signed v index) h =
      AllHold-append (IsThere design) (piece_objects (slice_pieces (bit_slices (is_constant index) v (index_number no_values index)))) (objects_in_text index)
      (pieces-in design (slice_pieces (bit_slices (is_constant index) v (index_number no_values index)))
      (bit-there (has_width design) (is_constant index) v (index_number no_values index) (all-front (has_width design) v.pieces (named_in index) h)))
      (text-there design index (all-back (has_width design) v.pieces (named_in index) h))
  text-there design (PartSelect width signed v from to) h = pieces-in design (slice_pieces (slices_at (part_places v.high v.low from to) 0 v.pieces))
      (slices-there (has_width design) (part_places v.high v.low from to) 0 v.pieces h)
  text-there design (WordSelect width signed m index) h =
      AllHold-append (IsThere design) m.words (objects_in_text index) (words-in design m.width m.words (all-back (has_width design) (named_in index) (memory_pieces m) h))
      (text-there design index (all-front (has_width design) (named_in index) (memory_pieces m) h))
  text-there design (Unary width signed operator a) h = text-there design a h
  text-there design (Binary width signed operator a b) h =
      AllHold-append (IsThere design) (objects_in_text a) (objects_in_text b) (text-there design a (all-front (has_width design) (named_in a) (named_in b) h))
      (text-there design b (all-back (has_width design) (named_in a) (named_in b) h))
  text-there design (Conditional width signed c a b) h =
      let rest = all-back (has_width design) (named_in c) (named_in a ++ named_in b) h in
      AllHold-append (IsThere design) (objects_in_text c) (objects_in_text a ++ objects_in_text b) (text-there design c (all-front (has_width design) (named_in c) (named_in a ++ named_in b) h))
      (AllHold-append (IsThere design) (objects_in_text a) (objects_in_text b) (text-there design a (all-front (has_width design) (named_in a) (named_in b) rest))
      (text-there design b (all-back (has_width design) (named_in a) (named_in b) rest)))
  text-there design (Concatenation width signed parts) h = texts-there design parts h
  text-there design (Replication width signed count parts) h = texts-there design parts h

  texts-there : (design : FlatDesign) (parts : Expressions) → list_all (has_width design) (named_in_parts parts) ≡ true → AllHold (IsThere design) (part_objects_in_text parts)
  texts-there design no_expressions h = tt
  texts-there design (more_expressions first rest) h =
      AllHold-append (IsThere design) (objects_in_text first) (part_objects_in_text rest) (text-there design first (all-front (has_width design) (named_in first) (named_in_parts rest) h))
      (texts-there design rest (all-back (has_width design) (named_in first) (named_in_parts rest) h))

alone-there : (design : FlatDesign) (meaning : Meaning) → AreThere design meaning.holders → (e : SourceExpression) → AllHold (IsThere design) (expression_in_text meaning e)
alone-there design meaning there e = text-there design (alone_expression meaning e) (tree-there design meaning.holders there (tree_alone (reading_of meaning.scope e)))

indexed-there : (design : FlatDesign) (meaning : Meaning) → AreThere design meaning.holders → (test : Bool) (name : Identifier) (index : SourceExpression) →
    AllHold (IsThere design) (index_objects_in_text (indexed_target test meaning name index))
indexed-there design meaning there true name index = alone-there design meaning there index
indexed-there design meaning there false name index = alone-there design meaning there index

target-there : (design : FlatDesign) (meaning : Meaning) → AreThere design meaning.holders → (name : Identifier) (index : SourceIndex) →
    AllHold (IsThere design) (index_objects_in_text (target_by_index meaning name index))
target-there design meaning there name NoIndex = tt
target-there design meaning there name (IndexAt index) = indexed-there design meaning there (is_memory (looked_up meaning.scope name)) name index
target-there design meaning there name (IndexRange from to) = tt

selects-there : (design : FlatDesign) (meaning : Meaning) → AreThere design meaning.holders → (selects : List SourceSelect) →
    AllHold (IsThere design) (flat_map index_objects_in_text (map (λ (s : SourceSelect). target_by_index meaning s.name s.index) selects))
selects-there design meaning there [] = tt
selects-there design meaning there (s ∷ rest) =
    AllHold-append (IsThere design) (index_objects_in_text (target_by_index meaning s.name s.index))
    (flat_map index_objects_in_text (map (λ (t : SourceSelect). target_by_index meaning t.name t.index) rest))
    (target-there design meaning there s.name s.index) (selects-there design meaning there rest)

assignment-there : (design : FlatDesign) (meaning : Meaning) → AreThere design meaning.holders → (target : SourceTarget) (value : SourceExpression) →
    AllHold (IsThere design) (assignment_in_text meaning target value)
assignment-there design meaning there target value =
    AllHold-append (IsThere design) (flat_map index_objects_in_text (targets_over meaning target)) (expression_in_text meaning value) (selects-there design meaning there (selects_of target))
    (alone-there design meaning there value)

labels-there : (design : FlatDesign) (meaning : Meaning) → AreThere design meaning.holders → (labels : SourceExpressions) → AllHold (IsThere design) (labels_in_text meaning labels)
labels-there design meaning there no_parts = tt
labels-there design meaning there (more_parts label rest) =
    AllHold-append (IsThere design) (expression_in_text meaning label) (labels_in_text meaning rest) (alone-there design meaning there label) (labels-there design meaning there rest)

mutual
  -- what a statement reads is there
  statement-there : (design : FlatDesign) (meaning : Meaning) → AreThere design meaning.holders → (s : SourceStatement) → AllHold (IsThere design) (read_in_text meaning s)
  statement-there design meaning there (NullStatement place) = tt
  statement-there design meaning there (BlockStatement place statements) = statements-there design meaning there statements
  statement-there design meaning there (IfStatement place condition first) =
      AllHold-append (IsThere design) (expression_in_text meaning condition) (read_in_text meaning first) (alone-there design meaning there condition) (statement-there design meaning there first)
  statement-there design meaning there (IfElseStatement place condition first second) =
      AllHold-append (IsThere design) (expression_in_text meaning condition) (read_in_text meaning first ++ read_in_text meaning second) (alone-there design meaning there condition)
      (AllHold-append (IsThere design) (read_in_text meaning first) (read_in_text meaning second) (statement-there design meaning there first) (statement-there design meaning there second))
  statement-there design meaning there (CaseStatement place kind value items) =
      AllHold-append (IsThere design) (expression_in_text meaning value) (items_read_in_text meaning items) (alone-there design meaning there value) (items-there design meaning there items)
  statement-there design meaning there (ForStatement place first_target first condition next_target next body) =
      AllHold-append (IsThere design) (assignment_in_text meaning first_target first) (expression_in_text meaning condition
      ++ (assignment_in_text meaning next_target next ++ read_in_text meaning body)) (assignment-there design meaning there first_target first)
      (AllHold-append (IsThere design) (expression_in_text meaning condition) (assignment_in_text meaning next_target next ++ read_in_text meaning body) (alone-there design meaning there condition)
      (AllHold-append (IsThere design) (assignment_in_text meaning next_target next) (read_in_text meaning body) (assignment-there design meaning there next_target next)
      (statement-there design meaning there body)))
  statement-there design meaning there (WhileStatement place condition body) =
      AllHold-append (IsThere design) (expression_in_text meaning condition) (read_in_text meaning body) (alone-there design meaning there condition) (statement-there design meaning there body)
  statement-there design meaning there (RepeatStatement place count body) =
      AllHold-append (IsThere design) (expression_in_text meaning count) (read_in_text meaning body) (alone-there design meaning there count) (statement-there design meaning there body)
  statement-there design meaning there (ForeverStatement place body) = statement-there design meaning there body
  statement-there design meaning there (WaitStatement place condition body) = statement-there design meaning there body
  statement-there design meaning there (EventStatement place waits body) = statement-there design meaning there body
  statement-there design meaning there (DelayStatement place delay body) = statement-there design meaning there body
  statement-there design meaning there (BlockingStatement place target delay value) = assignment-there design meaning there target value
  statement-there design meaning there (NonblockingStatement place target delay value) = assignment-there design meaning there target value
  statement-there design meaning there (IgnoredTask place) = tt
  statement-there design meaning there (FinishTask place) = tt

  statements-there : (design : FlatDesign) (meaning : Meaning) → AreThere design meaning.holders → (statements : SourceStatements) → AllHold (IsThere design) (all_read_in_text meaning statements)
  statements-there design meaning there no_source_statements = tt
  statements-there design meaning there (more_source_statements first rest) =
      AllHold-append (IsThere design) (read_in_text meaning first) (all_read_in_text meaning rest) (statement-there design meaning there first) (statements-there design meaning there rest)

  items-there : (design : FlatDesign) (meaning : Meaning) → AreThere design meaning.holders → (items : SourceCaseItems) → AllHold (IsThere design) (items_read_in_text meaning items)
  items-there design meaning there no_source_items = tt
  items-there design meaning there (labelled labels statement rest) =
      AllHold-append (IsThere design) (labels_in_text meaning labels) (read_in_text meaning statement ++ items_read_in_text meaning rest) (labels-there design meaning there labels)
      (AllHold-append (IsThere design) (read_in_text meaning statement) (items_read_in_text meaning rest) (statement-there design meaning there statement) (items-there design meaning there rest))
  items-there design meaning there (otherwise statement rest) =
      AllHold-append (IsThere design) (read_in_text meaning statement) (items_read_in_text meaning rest) (statement-there design meaning there statement) (items-there design meaning there rest)

-- `@*`

kept-fresh : (P : ℕ → Type 0) (test : Bool) (x : ℕ) (xs : List ℕ) → P x → AllHold P xs → AllHold P (fresh_only test x xs)
kept-fresh P true x xs h rest = rest
kept-fresh P false x xs h rest = (h, rest)

once-there : (P : ℕ → Type 0) (seen xs : List ℕ) → AllHold P xs → AllHold P (without_repeats seen xs)
once-there P seen [] h = tt
once-there P seen (x ∷ xs) h = kept-fresh P (has seen x) x (without_repeats (x ∷ seen) xs) h.0 (once-there P (x ∷ seen) xs h.1)

-- an entry on a whole object is on its bits
whole-there : (design : FlatDesign) → AllHold IsSizedObject design.objects → (widths : List ℕ) → map (λ (o : FlatObject). o.width) design.objects ≡ widths → (o : ℕ) → IsThere design o →
    IsEntryThere design (whole_entry widths o)
whole-there design sized widths is o low =
    elim (slice_get_cases design.objects o).1 [
      | inl found ↦
          let piece : Piece = record { object = o; width = found.0.width } in
          let has : has_width design piece ≡ true = ap (width_is found.0.width) found.2 ∙ same found.0.width in
          let w = piece-width design piece sized has in
          let own : get_or widths o 0 ≡ width_in design o = ap (λ all. get_or all o 0) (sym is) in
          let width = w.width in
          let few = w.few in
          let some = w.some in
          record { sized = (omega arith, omega (arith, own, width, some), omega (arith, own, width, few)); there = omega (arith, own) }
      | inr past ↦ absurd (let more = past.0 in omega (arith, more, low))
    ]
  where
    same : (n : ℕ) → nat_eq n n ≡ true
    same n = eq-eqb n n refl

-- what a wait waits for is there
pub waits-there : (design : FlatDesign) (meaning : Meaning) → AllHold IsSizedObject design.objects → AreThere design meaning.holders → IsSettled meaning.scope →
    map (λ (o : FlatObject). o.width) design.objects ≡ meaning.widths →
    (waits : SourceWaits) (body : SourceStatement) → entry_faults meaning.scope waits ≡ [] → waits_faults meaning.scope waits ≡ [] → AllHold (IsEntryThere design) (wait_entries meaning waits body)
waits-there design meaning sized there settled widths OnAnyRead body names wrong =
    AllHold-map (IsEntryThere design) (whole_entry meaning.widths) (without_repeats [] (read_in_text meaning body))
    (AllHold-each (IsThere design) (λ o. IsEntryThere design (whole_entry meaning.widths o)) (without_repeats [] (read_in_text meaning body)) (whole-there design sized meaning.widths widths)
    (once-there (IsThere design) [] (read_in_text meaning body) (statement-there design meaning there body)))
waits-there design meaning sized there settled widths (OnEntries entries) body names wrong = all-entries design meaning sized there settled entries names wrong
