-- A block of combinational form over names is of combinational form over objects (IEEE 1364-2001, clause 9.2.1 and clause 9.7.5).
use Rattle.std.proofs.Common.{◌≡◌, ℕ, Bool, true, false, ◌&&◌, List, [], ◌∷◌, ◌++◌, map, Option, Some, None, refl, sym, ap, ap₂, ◌∙◌, subst, inl, inr}
use Rattle.std.specs.Prelude.{◌||◌, not, nat_eq, filter, flat_map, is_none, option_map, option_and_then}
use Rattle.std.specs.List.{list_all}
use Rattle.std.proofs.lemmas.Bool.{cases_Bool, or_cases, or_left, or_right, eq-eqb, cond-true, cond-false}
use Rattle.std.proofs.lemmas.List.{map-append, append_assoc}
use Rattle.vf_base.specs.Base.{SourcePlace}
use Rattle.vf_base.specs.Lists.{has, AllHold}
use Rattle.v_design.specs.Trees.{Piece, Target, WholeTarget, BitTarget, PartTarget, WordTarget}
use Rattle.v_design.specs.Expressions.{memory_pieces, pieces_read, parts_read, piece_objects, objects_of, parts_objects}
use Rattle.v_design.specs.Reads.{targets_objects, index_objects, indexes_objects, written_objects, all_written, items_written, labels_read, named_in, named_in_parts}
use Rattle.v_design.specs.CombinationalForm.{whole_targets, part_targets_after, assigned_if, assigned_on_both, then_assigned, assigned_by, all_assigned_by, items_assigned_by}
use Rattle.v_design.specs.CombinationalForm.{reads_assigned as objects_assigned}
use Rattle.v_tree.specs.Trees.{Identifier, NamedPlace, same_name, has_name, SourceExpression, SourceIndex, NoIndex, IndexAt, IndexRange, SourceExpressions, no_parts, more_parts, SourceSelect}
use Rattle.v_tree.specs.Trees.{SourceTarget, selects_of, names_in, names_in_index, names_in_parts, SourceStatement, NullStatement, BlockStatement, IfStatement, IfElseStatement, CaseStatement}
use Rattle.v_tree.specs.Trees.{ForStatement, WhileStatement, RepeatStatement, ForeverStatement, WaitStatement, EventStatement, DelayStatement, BlockingStatement, NonblockingStatement, IgnoredTask}
use Rattle.v_tree.specs.Trees.{FinishTask, SourceStatements, no_source_statements, more_source_statements, SourceCaseItems, no_source_items, labelled, otherwise}
use Rattle.v_tree.specs.Trees.{named_in as names_of, named_in_parts as names_of_parts}
use Rattle.v_names.specs.Scopes.{looked_up, is_memory}
use Rattle.v_names.specs.Readings.{Size, size_or_bit, reading_of, tree_at}
use Rattle.v_names.specs.SizedTrees.{over_objects}
use Rattle.v_names.specs.SizedLaws.{and-left, and-right}
use Rattle.v_comb.specs.CombinationalForm.{target_names, target_index_names, assigned_names, all_assigned_names, items_assigned_names, labels_names, names_read, all_names_read, items_names_read}
use Rattle.v_comb.specs.CombinationalForm.{reads_assigned, is_whole_select, whole_names, part_names, names_needed, assigned_where, on_both_paths, unmatched_path, path_with, paths_or, assigned_after}
use Rattle.v_comb.specs.CombinationalForm.{all_assigned_after, items_assigned_after}
use Rattle.v_elab.specs.Statements.{Meaning, alone_expression, assigned_expression, first_object, indexed_target, target_by_index, targets_over, delay_number, items_size, label_expressions}
use Rattle.v_elab.specs.Statements.{statement_over, statements_over, items_over, default_over}
use Rattle.graph_order.specs.ListLaws.{has-append}
use Rattle.flat_laws.specs.Lists.{same_some}
use Rattle.flat_laws.specs.Hierarchy.Given.{equal-name, both-true}
use Rattle.flat_laws.specs.Blocks.Named.{all-front, all-back, has-filter, read-there, reads-there}
use Rattle.flat_laws.specs.Blocks.Fitting.{AllHold-parts}
use Rattle.flat_laws.specs.Hierarchy.Behaviours.{named-append}
use Rattle.flat_laws.specs.Names.Leaves.{expression-read, names-pass}

-- Lists

named-filter : (other one : List Identifier) (name : Identifier) → has_name (filter (has_name other) one) name ≡ true → (has_name one name ≡ true) × (has_name other name ≡ true)
named-filter other [] name e = absurd (cc)
named-filter other (first ∷ one) name e =
    elim (cases_Bool (has_name other first)) [
      | inl kept ↦
          let there = ap (λ l. has_name l name) (sym (cond-true (has_name other first) (first ∷ filter (has_name other) one) (filter (has_name other) one) kept)) ∙ e in
          elim (or_cases (same_name first name) (has_name (filter (has_name other) one) name) there) [
            | inl here ↦ (or_left (same_name first name) (has_name one name) here, ap (has_name other) (sym (equal-name first name here)) ∙ kept)
            | inr later ↦ let r = named-filter other one name later in (or_right (same_name first name) (has_name one name) r.0, r.1)
          ]
      | inr lost ↦
          let there = ap (λ l. has_name l name) (sym (cond-false (has_name other first) (first ∷ filter (has_name other) one) (filter (has_name other) one) lost)) ∙ e in
          let r = named-filter other one name there in
          (or_right (same_name first name) (has_name one name) r.0, r.1)
    ]

unmapped : (P : Identifier → Type 0) (names : List NamedPlace) → AllHold P (map (λ (n : NamedPlace). n.name) names) → AllHold (λ (n : NamedPlace). P n.name) names
unmapped P [] h = tt
unmapped P (n ∷ names) h = (h.0, unmapped P names h.1)

lift-left : (b : Bool) (xs ys : List ℕ) (o : ℕ) → (b || has xs o) ≡ true → (b || has (xs ++ ys) o) ≡ true
lift-left true xs ys o e = refl
lift-left false xs ys o e = has-append xs ys o ∙ or_left (has xs o) (has ys o) e

lift-right : (b : Bool) (xs ys : List ℕ) (o : ℕ) → (b || has ys o) ≡ true → (b || has (xs ++ ys) o) ≡ true
lift-right true xs ys o e = refl
lift-right false xs ys o e = has-append xs ys o ∙ or_right (has xs o) (has ys o) e

where-some : (test : Bool) (found : Option (List Identifier)) (after : List Identifier) → assigned_where test found ≡ Some after → (test ≡ true) × (found ≡ Some after)
where-some true found after e = (refl, e)
where-some false found after e = absurd (cc)

-- both of two paths
record AreBoth (one other : Option (List Identifier)) (after : List Identifier) : Type 0 where
  a : List Identifier
  b : List Identifier
  one_is : one ≡ Some a
  other_is : other ≡ Some b
  within : (name : Identifier) → has_name after name ≡ true → (has_name a name ≡ true) × (has_name b name ≡ true)

both-some : (one other : Option (List Identifier)) (after : List Identifier) → on_both_paths one other ≡ Some after → AreBoth one other after
both-some None other after e = absurd (cc)
both-some (Some a) None after e = absurd (cc)
both-some (Some a) (Some b) after e = record {
  a = a;
  b = b;
  one_is = refl;
  other_is = refl;
  within = λ name there. named-filter b a name (ap (λ l. has_name l name) (same_some (filter (has_name b) a) after e) ∙ there);
}

then-some : {A B : Type 0} (f : A → Option B) (x : Option A) (y : B) → option_and_then f x ≡ Some y → (a : A) × (x ≡ Some a) × (f a ≡ Some y)
then-some f None y e = absurd (cc)
then-some f (Some a) y e = (a, refl, e)

three-true : (a b c : Bool) (all : List ℕ) → a ≡ true → b ≡ true → c ≡ true → assigned_if (a && b && c) all ≡ Some all
three-true true true true all e d f = refl
three-true true true false all e d f = absurd (cc)
three-true true false c all e d f = absurd (cc)
three-true false b c all e d f = absurd (cc)

some-names : (one other : List Identifier) → Some one ≡ Some other → one ≡ other
some-names one other e = cc

-- Reads

module _ (meaning : Meaning) (targets : List Identifier) (outputs : List ℕ) where
  -- the object of a variable
  abbrev pub object : Identifier → ℕ
  object name = first_object (meaning.holders.vector name).pieces

  -- the outputs among the objects of a name are the object of a target
  abbrev pub IsRead : Identifier → Type 0
  IsRead name = (o : ℕ) → has (piece_objects (meaning.holders.vector name).pieces) o ≡ true → has outputs o ≡ true → (has_name targets name ≡ true) × (o ≡ object name)

  -- an object that is an output is assigned
  abbrev pub free : List ℕ → Piece → Bool
  free assigned piece = not (has outputs piece.object) || has assigned piece.object

  -- words are no outputs
  abbrev pub AreApart : Type 0
  AreApart = (assigned : List ℕ) (name : Identifier) → list_all (free assigned) (memory_pieces (meaning.holders.memory name)) ≡ true

  -- the objects of names that are assigned are
  abbrev pub Follows : List Identifier → List ℕ → Type 0
  Follows names assigned = (name : Identifier) → has_name names name ≡ true → has assigned (object name) ≡ true

  -- a target is no memory
  abbrev pub IsPlain : NamedPlace → Type 0
  IsPlain n = (has_name targets n.name ≡ true) × (is_memory (looked_up meaning.scope n.name) ≡ false)

  abbrev Free : List ℕ → Identifier → Type 0
  Free assigned name = list_all (free assigned) (meaning.holders.vector name).pieces ≡ true

  pieces-free : (assigned : List ℕ) (pieces : List Piece) → ((o : ℕ) → has (piece_objects pieces) o ≡ true → has outputs o ≡ true → has assigned o ≡ true) → list_all (free assigned) pieces ≡ true
  pieces-free assigned [] each = refl
  pieces-free assigned (piece ∷ pieces) each =
      both-true (free assigned piece) (list_all (free assigned) pieces)
      (elim (cases_Bool (has outputs piece.object)) [
        | inl output ↦ or_right (not (has outputs piece.object)) (has assigned piece.object)
            (each piece.object (or_left (nat_eq piece.object piece.object) (has (piece_objects pieces) piece.object) (eq-eqb piece.object piece.object refl)) output)
        | inr none ↦ or_left (not (has outputs piece.object)) (has assigned piece.object) (ap not none)
      ])
      (pieces-free assigned pieces (λ o there. each o (or_right (nat_eq piece.object o) (has (piece_objects pieces) o) there)))

  name-free : (names : List Identifier) (assigned : List ℕ) (name : Identifier) → Follows names assigned → IsRead name → (not (has_name targets name) || has_name names name) ≡ true →
      Free assigned name
  name-free names assigned name follows reads ok =
      pieces-free assigned (meaning.holders.vector name).pieces
      (λ o there output.
      let r = reads o there output in
      let now : has_name names name ≡ true = ap (λ b. not b || has_name names name) (sym r.0) ∙ ok in
      ap (has assigned) r.1 ∙ follows name now)

  names-free : (names : List Identifier) (assigned : List ℕ) (all : List Identifier) → Follows names assigned → AllHold IsRead all → reads_assigned targets names all ≡ true →
      AllHold (Free assigned) all
  names-free names assigned [] follows reads ok = tt
  names-free names assigned (name ∷ all) follows reads ok = (
    name-free names assigned name follows reads.0 (and-left (not (has_name targets name) || has_name names name) (reads_assigned targets names all) ok),
    names-free names assigned all follows reads.1 (and-right (not (has_name targets name) || has_name names name) (reads_assigned targets names all) ok),
  )

  free-assigned : (assigned : List ℕ) (pieces : List Piece) → list_all (free assigned) pieces ≡ true → objects_assigned outputs assigned (piece_objects pieces) ≡ true
  free-assigned assigned [] h = refl
  free-assigned assigned (piece ∷ pieces) h =
      both-true (free assigned piece) (objects_assigned outputs assigned (piece_objects pieces)) (and-left (free assigned piece) (list_all (free assigned) pieces) h)
      (free-assigned assigned pieces (and-right (free assigned piece) (list_all (free assigned) pieces) h))

  objects-append : (assigned xs ys : List ℕ) → objects_assigned outputs assigned xs ≡ true → objects_assigned outputs assigned ys ≡ true → objects_assigned outputs assigned (xs ++ ys) ≡ true
  objects-append assigned [] ys h k = k
  objects-append assigned (x ∷ xs) ys h k =
      both-true (not (has outputs x) || has assigned x) (objects_assigned outputs assigned (xs ++ ys)) (and-left (not (has outputs x) || has assigned x) (objects_assigned outputs assigned xs) h)
      (objects-append assigned xs ys (and-right (not (has outputs x) || has assigned x) (objects_assigned outputs assigned xs) h) k)

  -- an expression over objects reads outputs that are assigned, where its names are
  tree-free : AreApart → (names : List Identifier) (assigned : List ℕ) (e : SourceExpression) → Follows names assigned → AllHold IsRead (names_in e) →
      reads_assigned targets names (names_in e) ≡ true → (width : ℕ) (signed : Bool) →
      list_all (free assigned) (named_in (over_objects meaning.holders ((reading_of meaning.scope e).tree width signed))) ≡ true
  tree-free apart names assigned e follows reads ok width signed =
      names-pass (free assigned) meaning.holders (apart assigned) ((reading_of meaning.scope e).tree width signed)
      (expression-read (Free assigned) meaning.scope e (unmapped (Free assigned) (names_of e) (names-free names assigned (names_in e) follows reads ok)) width signed)

  value-free : AreApart → (names : List Identifier) (assigned : List ℕ) (e : SourceExpression) → Follows names assigned → AllHold IsRead (names_in e) →
      reads_assigned targets names (names_in e) ≡ true → (width : ℕ) (signed : Bool) →
      objects_assigned outputs assigned (objects_of (over_objects meaning.holders ((reading_of meaning.scope e).tree width signed))) ≡ true
  value-free apart names assigned e follows reads ok width signed =
      let over = over_objects meaning.holders ((reading_of meaning.scope e).tree width signed) in
      free-assigned assigned (pieces_read over) (read-there (free assigned) over (tree-free apart names assigned e follows reads ok width signed))

  alone-free : AreApart → (names : List Identifier) (assigned : List ℕ) (e : SourceExpression) → Follows names assigned → AllHold IsRead (names_in e) →
      reads_assigned targets names (names_in e) ≡ true →
      objects_assigned outputs assigned (objects_of (alone_expression meaning e)) ≡ true
  alone-free apart names assigned e follows reads ok = let size = size_or_bit (reading_of meaning.scope e).size in value-free apart names assigned e follows reads ok size.width size.signed

  labels-free : AreApart → (names : List Identifier) (assigned : List ℕ) (size : Option Size) (labels : SourceExpressions) → Follows names assigned → AllHold IsRead (names_in_parts labels) →
      reads_assigned targets names (names_in_parts labels) ≡ true →
      list_all (free assigned) (named_in_parts (label_expressions meaning size labels)) ≡ true
  labels-free apart names assigned size no_parts follows reads ok = refl
  labels-free apart names assigned size (more_parts label rest) follows reads ok =
      let split : names_in_parts (more_parts label rest) ≡ names_in label ++ names_in_parts rest = map-append (λ (n : NamedPlace). n.name) (names_of label) (names_of_parts rest) in
      let parts = AllHold-parts IsRead (names_in label) (names_in_parts rest) (subst (AllHold IsRead) split reads) in
      let test : Identifier → Bool = λ name. not (has_name targets name) || has_name names name in
      let all : list_all test (names_in label ++ names_in_parts rest) ≡ true = ap (list_all test) (sym split) ∙ ok in
      let z = size_or_bit size in
      append (named_in (over_objects meaning.holders (tree_at (reading_of meaning.scope label) size))) (named_in_parts (label_expressions meaning size rest))
      (tree-free apart names assigned label follows parts.0 (all-front test (names_in label) (names_in_parts rest) all) z.width z.signed)
      (labels-free apart names assigned size rest follows parts.1 (all-back test (names_in label) (names_in_parts rest) all))
    where
      append : (xs ys : List Piece) → list_all (free assigned) xs ≡ true → list_all (free assigned) ys ≡ true → list_all (free assigned) (xs ++ ys) ≡ true
      append [] ys h k = k
      append (x ∷ xs) ys h k = both-true (free assigned x) (list_all (free assigned) (xs ++ ys)) (and-left (free assigned x) (list_all (free assigned) xs) h)
          (append xs ys (and-right (free assigned x) (list_all (free assigned) xs) h) k)

  items-free : AreApart → (names : List Identifier) (assigned : List ℕ) (size : Option Size) (items : SourceCaseItems) → Follows names assigned → AllHold IsRead (items_names_read items) →
      reads_assigned targets names (labels_names items) ≡ true →
      objects_assigned outputs assigned (labels_read (items_over meaning size items)) ≡ true
  items-free apart names assigned size no_source_items follows reads ok = refl
  items-free apart names assigned size (labelled labels statement rest) follows reads ok =
      let test : Identifier → Bool = λ name. not (has_name targets name) || has_name names name in
      let own = AllHold-parts IsRead (names_in_parts labels) (names_read statement ++ items_names_read rest) reads in
      let later = AllHold-parts IsRead (names_read statement) (items_names_read rest) own.1 in
      let over = label_expressions meaning size labels in
      objects-append assigned (parts_objects over) (labels_read (items_over meaning size rest))
      (free-assigned assigned (parts_read over) (reads-there (free assigned) over (labels-free apart names assigned size labels follows own.0
      (all-front test (names_in_parts labels) (labels_names rest) ok))))
      (items-free apart names assigned size rest follows later.1 (all-back test (names_in_parts labels) (labels_names rest) ok))
  items-free apart names assigned size (otherwise statement rest) follows reads ok =
      let later = AllHold-parts IsRead (names_read statement) (items_names_read rest) reads in items-free apart names assigned size rest follows later.1 ok

  -- Targets

  -- a select of a target: its index, whether it is assigned in part, and what it assigns whole
  index-free : AreApart → (names : List Identifier) (assigned : List ℕ) (name : Identifier) (index : SourceIndex) → Follows names assigned → is_memory (looked_up meaning.scope name) ≡ false →
      AllHold IsRead (names_in_index index) →
      reads_assigned targets names (names_in_index index) ≡ true → objects_assigned outputs assigned (index_objects (target_by_index meaning name index)) ≡ true
  index-free apart names assigned name NoIndex follows plain reads ok = refl
  index-free apart names assigned name (IndexRange from to) follows plain reads ok = refl
  index-free apart names assigned name (IndexAt index) follows plain reads ok =
      ap (λ b. objects_assigned outputs assigned (index_objects (indexed_target b meaning name index))) plain ∙ alone-free apart names assigned index follows reads ok

  indexes-free : AreApart → (names : List Identifier) (assigned : List ℕ) (selects : List SourceSelect) → Follows names assigned →
      AllHold (λ (s : SourceSelect). is_memory (looked_up meaning.scope s.name) ≡ false) selects →
      AllHold IsRead (flat_map (λ (s : SourceSelect). names_in_index s.index) selects) → reads_assigned targets names (flat_map (λ (s : SourceSelect). names_in_index s.index) selects) ≡ true →
      objects_assigned outputs assigned (indexes_objects (map (λ (s : SourceSelect). target_by_index meaning s.name s.index) selects)) ≡ true
  indexes-free apart names assigned [] follows plain reads ok = refl
  indexes-free apart names assigned (s ∷ selects) follows plain reads ok =
      let test : Identifier → Bool = λ name. not (has_name targets name) || has_name names name in
      let more = flat_map (λ (s : SourceSelect). names_in_index s.index) selects in
      let split = AllHold-parts IsRead (names_in_index s.index) more reads in
      objects-append assigned (index_objects (target_by_index meaning s.name s.index)) (indexes_objects (map (λ (s : SourceSelect). target_by_index meaning s.name s.index) selects))
      (index-free apart names assigned s.name s.index follows plain.0 split.0 (all-front test (names_in_index s.index) more ok))
      (indexes-free apart names assigned selects follows plain.1 split.1 (all-back test (names_in_index s.index) more ok))

  -- what is assigned in part was assigned whole
  parts-after : (names : List Identifier) (assigned : List ℕ) (selects : List SourceSelect) → Follows names assigned →
      AllHold (λ (s : SourceSelect). (has_name targets s.name ≡ true) × (is_memory (looked_up meaning.scope s.name) ≡ false)) selects →
      reads_assigned targets names (map (λ (s : SourceSelect). s.name) (filter (λ s. not (is_whole_select s)) selects)) ≡ true →
      part_targets_after assigned (map (λ (s : SourceSelect). target_by_index meaning s.name s.index) selects) ≡ true
  parts-after names assigned [] follows plain ok = refl
  parts-after names assigned (s ∷ selects) follows plain ok = by_index s.place s.name s.index plain.0 ok (λ later. parts-after names assigned selects follows plain.1 later)
    where
      others : List Target
      others = map (λ (s : SourceSelect). target_by_index meaning s.name s.index) selects

      more : List Identifier
      more = map (λ (s : SourceSelect). s.name) (filter (λ s. not (is_whole_select s)) selects)

      own : (name : Identifier) → has_name targets name ≡ true → (not (has_name targets name) || has_name names name) ≡ true → has assigned (object name) ≡ true
      own name there k = follows name (ap (λ b. not b || has_name names name) (sym there) ∙ k)

      by_index : (place : SourcePlace) (name : Identifier) (index : SourceIndex) → (has_name targets name ≡ true) × (is_memory (looked_up meaning.scope name) ≡ false) →
          reads_assigned targets names (map (λ (s : SourceSelect). s.name) (filter (λ s. not (is_whole_select s)) (record { place = place; name = name; index = index } ∷ selects))) ≡ true →
          (reads_assigned targets names more ≡ true → part_targets_after assigned others ≡ true) → part_targets_after assigned (target_by_index meaning name index ∷ others) ≡ true
      by_index place name NoIndex p k rest = rest k
      by_index place name (IndexAt index) p k rest =
          ap (λ b. part_targets_after assigned (indexed_target b meaning name index ∷ others)) p.1
          ∙ both-true (has assigned (object name)) (part_targets_after assigned others) (own name p.0
          (and-left (not (has_name targets name) || has_name names name) (reads_assigned targets names more) k))
          (rest (and-right (not (has_name targets name) || has_name names name) (reads_assigned targets names more) k))
      by_index place name (IndexRange from to) p k rest =
          both-true (has assigned (object name)) (part_targets_after assigned others) (own name p.0
          (and-left (not (has_name targets name) || has_name names name) (reads_assigned targets names more) k))
          (rest (and-right (not (has_name targets name) || has_name names name) (reads_assigned targets names more) k))

  -- what is assigned whole over names is over objects
  whole-follows : (selects : List SourceSelect) (name : Identifier) → AllHold (λ (s : SourceSelect). is_memory (looked_up meaning.scope s.name) ≡ false) selects →
      has_name (map (λ (s : SourceSelect). s.name) (filter is_whole_select selects)) name ≡ true →
      has (whole_targets (map (λ (s : SourceSelect). target_by_index meaning s.name s.index) selects)) (object name) ≡ true
  whole-follows [] name plain e = absurd (cc)
  whole-follows (s ∷ selects) name plain e = by_index s.place s.name s.index plain.0 e (λ later. whole-follows selects name plain.1 later)
    where
      others : List Target
      others = map (λ (s : SourceSelect). target_by_index meaning s.name s.index) selects

      more : List Identifier
      more = map (λ (s : SourceSelect). s.name) (filter is_whole_select selects)

      by_index : (place : SourcePlace) (first : Identifier) (index : SourceIndex) → is_memory (looked_up meaning.scope first) ≡ false →
          has_name (map (λ (s : SourceSelect). s.name) (filter is_whole_select (record { place = place; name = first; index = index } ∷ selects))) name ≡ true →
          (has_name more name ≡ true → has (whole_targets others) (object name) ≡ true) →
          has (whole_targets (target_by_index meaning first index ∷ others)) (object name) ≡ true
      by_index place first NoIndex p k rest =
          elim (or_cases (same_name first name) (has_name more name) k) [
            | inl here ↦ or_left (nat_eq (object first) (object name)) (has (whole_targets others) (object name))
                (eq-eqb (object first) (object name) (ap (λ n. object n) (equal-name first name here)))
            | inr later ↦ or_right (nat_eq (object first) (object name)) (has (whole_targets others) (object name)) (rest later)
          ]
      by_index place first (IndexAt index) p k rest = ap (λ b. has (whole_targets (indexed_target b meaning first index ∷ others)) (object name)) p ∙ rest k
      by_index place first (IndexRange from to) p k rest = rest k

  whole-written : (all : List Target) (o : ℕ) → has (whole_targets all) o ≡ true → has (targets_objects all) o ≡ true
  whole-written [] o e = absurd (cc)
  whole-written (WholeTarget variable ∷ all) o e =
      elim (or_cases (nat_eq variable.object o) (has (whole_targets all) o) e) [
        | inl here ↦ or_left (nat_eq variable.object o) (has (targets_objects all) o) here
        | inr later ↦ or_right (nat_eq variable.object o) (has (targets_objects all) o) (whole-written all o later)
      ]
  whole-written (BitTarget variable index ∷ all) o e = or_right (nat_eq variable.object o) (has (targets_objects all) o) (whole-written all o e)
  whole-written (PartTarget variable from to ∷ all) o e = or_right (nat_eq variable.object o) (has (targets_objects all) o) (whole-written all o e)
  whole-written (WordTarget memory index ∷ all) o e = has-append memory.words (targets_objects all) o ∙ or_right (has memory.words o) (has (targets_objects all) o) (whole-written all o e)

  -- Statements

  -- what a statement assigns over objects, where over names it assigns some
  pub record Moves (after : List Identifier) (assigned : List ℕ) (result : Option (List ℕ)) (written : List ℕ) : Type 0 where
    pub found : List ℕ
    pub is : result ≡ Some found
    pub follows : Follows after found
    pub writes : (o : ℕ) → has found o ≡ true → (has assigned o || has written o) ≡ true

  still : (names after : List Identifier) (assigned written : List ℕ) → Follows names assigned → Some names ≡ Some after → Moves after assigned (Some assigned) written
  still names after assigned written follows e =
      let same = some-names names after e in
      record { found = assigned; is = refl; follows = λ name there. follows name (ap (λ l. has_name l name) same ∙ there); writes = λ o there. or_left (has assigned o) (has written o) there }

  -- both of two paths
  both-move : (a b after : List Identifier) (assigned : List ℕ) (one other : Option (List ℕ)) (written more : List ℕ) →
      ((name : Identifier) → has_name after name ≡ true → (has_name a name ≡ true) × (has_name b name ≡ true)) →
      Moves a assigned one written → Moves b assigned other more → Moves after assigned (assigned_on_both one other) (written ++ more)
  both-move a b after assigned one other written more within r q = record {
    found = filter (has q.found) r.found;
    is = ap₂ assigned_on_both r.is q.is;
    follows = λ name there. let both = within name there in has-filter (has q.found) r.found (object name)
        ∙ both-true (has q.found (object name)) (has r.found (object name)) (q.follows name both.1) (r.follows name both.0);
    writes = λ o there. lift-left (has assigned o) written more o (r.writes o (and-right (has q.found o) (has r.found o) (sym (has-filter (has q.found) r.found o) ∙ there)));
  }

  plain-selects : (selects : List SourceSelect) → AllHold IsPlain (map (λ (s : SourceSelect). record { name = s.name; place = s.place }) selects) →
      AllHold (λ (s : SourceSelect). (has_name targets s.name ≡ true) × (is_memory (looked_up meaning.scope s.name) ≡ false)) selects
  plain-selects [] h = tt
  plain-selects (s ∷ selects) h = (h.0, plain-selects selects h.1)

  no-memories : (selects : List SourceSelect) → AllHold (λ (s : SourceSelect). (has_name targets s.name ≡ true) × (is_memory (looked_up meaning.scope s.name) ≡ false)) selects →
      AllHold (λ (s : SourceSelect). is_memory (looked_up meaning.scope s.name) ≡ false) selects
  no-memories [] h = tt
  no-memories (s ∷ selects) h = (h.0.1, no-memories selects h.1)

  no-delay : (delay : Option SourceExpression) → is_none delay ≡ true → is_none (option_map (delay_number meaning) delay) ≡ true
  no-delay None e = refl
  no-delay (Some d) e = absurd (cc)

  assignment-moves : AreApart → (names after : List Identifier) (assigned : List ℕ) (place : SourcePlace) (target : SourceTarget) (delay : Option SourceExpression) (value : SourceExpression) →
      Follows names assigned →
      AllHold IsRead (target_index_names target ++ names_in value) → AllHold IsPlain (target_names target) → assigned_after targets names (BlockingStatement place target delay value) ≡ Some after →
      Moves after assigned (assigned_by outputs assigned (statement_over meaning (BlockingStatement place target delay value))) (targets_objects (targets_over meaning target))
  assignment-moves apart names after assigned place target delay value follows reads plain e =
      let test : Identifier → Bool = λ name. not (has_name targets name) || has_name names name in
      let r = where-some (is_none delay && reads_assigned targets names (names_needed target value)) (Some (whole_names target ++ names)) after e in
      let none = and-left (is_none delay) (reads_assigned targets names (names_needed target value)) r.0 in
      let needed = and-right (is_none delay) (reads_assigned targets names (names_needed target value)) r.0 in
      let indexes = all-front test (target_index_names target) (names_in value ++ part_names target) needed in
      let rest = all-back test (target_index_names target) (names_in value ++ part_names target) needed in
      let values = all-front test (names_in value) (part_names target) rest in
      let parts = all-back test (names_in value) (part_names target) rest in
      let split = AllHold-parts IsRead (target_index_names target) (names_in value) reads in
      let selects = plain-selects (selects_of target) plain in
      let vectors = no-memories (selects_of target) selects in
      let over = targets_over meaning target in
      let whole = whole_targets over ++ assigned in
      let size = size_or_bit (reading_of meaning.scope value).size in
      let read = objects-append assigned (objects_of (assigned_expression meaning target value)) (indexes_objects over) (value-free apart names assigned value follows split.1 values _ _)
      (indexes-free apart names assigned (selects_of target) follows vectors split.0 indexes) in
      let same = some-names (whole_names target ++ names) after r.1 in
      record {
        found = whole;
        is = three-true (is_none (option_map (delay_number meaning) delay)) (objects_assigned outputs assigned (objects_of (assigned_expression meaning target value) ++ indexes_objects over))
            (part_targets_after assigned over) whole
            (no-delay delay none) read (parts-after names assigned (selects_of target) follows selects parts);
        follows = λ name there.
            has-append (whole_targets over) assigned (object name)
            ∙ elim (or_cases (has_name (whole_names target) name) (has_name names name) (sym (named-append (whole_names target) names name) ∙ ap (λ l. has_name l name) same ∙ there)) [
              | inl here ↦ or_left (has (whole_targets over) (object name)) (has assigned (object name)) (whole-follows (selects_of target) name vectors here)
              | inr earlier ↦ or_right (has (whole_targets over) (object name)) (has assigned (object name)) (follows name earlier)
            ];
        writes = λ o there.
            elim (or_cases (has (whole_targets over) o) (has assigned o) (sym (has-append (whole_targets over) assigned o) ∙ there)) [
              | inl here ↦ or_right (has assigned o) (has (targets_objects over) o) (whole-written over o here)
              | inr earlier ↦ or_left (has assigned o) (has (targets_objects over) o) earlier
            ];
      }

  test-moves : (test : Bool) (after : List Identifier) (assigned : List ℕ) (result : Option (List ℕ)) (written : List ℕ) → test ≡ true → Moves after assigned result written →
      Moves after assigned (then_assigned test result) written
  test-moves true after assigned result written e m = m
  test-moves false after assigned result written e m = absurd (cc)

  -- Cases

  -- a statement assigns some names on each path
  record IsPath (names q : List Identifier) (s : SourceStatement) : Type 0 where
    a : List Identifier
    is : assigned_after targets names s ≡ Some a
    within : (name : Identifier) → has_name q name ≡ true → has_name a name ≡ true

  abbrev EachPath : List Identifier → List Identifier → SourceCaseItems → Type 0
  EachPath names q no_source_items = Unit {0}
  EachPath names q (labelled labels statement rest) = IsPath names q statement × EachPath names q rest
  EachPath names q (otherwise statement rest) = IsPath names q statement × EachPath names q rest

  -- where there is no default, they were assigned before
  abbrev IsUnmatched : List Identifier → List Identifier → SourceCaseItems → Type 0
  IsUnmatched names q no_source_items = (name : Identifier) → has_name q name ≡ true → has_name names name ≡ true
  IsUnmatched names q (labelled labels statement rest) = IsUnmatched names q rest
  IsUnmatched names q (otherwise statement rest) = Unit {0}

  never-none : (path : Option (List Identifier)) (paths : Option (Option (List Identifier))) → path_with path paths ≡ None → ⊥
  never-none path None e = absurd (cc)
  never-none path (Some other) e = absurd (cc)

  none-each : (names q : List Identifier) (items : SourceCaseItems) → items_assigned_after targets names items ≡ None → EachPath names q items
  none-each names q no_source_items e = tt
  none-each names q (labelled labels statement rest) e = absurd (never-none (assigned_after targets names statement) (items_assigned_after targets names rest) e)
  none-each names q (otherwise statement rest) e = absurd (never-none (assigned_after targets names statement) (items_assigned_after targets names rest) e)

  step-path : (names q p : List Identifier) (statement : SourceStatement) (rest : SourceCaseItems) → ((name : Identifier) → has_name q name ≡ true → has_name p name ≡ true) →
      (paths : Option (Option (List Identifier))) →
      items_assigned_after targets names rest ≡ paths → path_with (assigned_after targets names statement) paths ≡ Some (Some p) →
      ((b : List Identifier) → items_assigned_after targets names rest ≡ Some (Some b) → ((name : Identifier) → has_name q name ≡ true → has_name b name ≡ true) → EachPath names q rest) →
      IsPath names q statement × EachPath names q rest
  step-path names q p statement rest within None is e onward =
      (record { a = p; is = same_some (assigned_after targets names statement) (Some p) e; within = within }, none-each names q rest is)
  step-path names q p statement rest within (Some other) is e onward =
      let b = both-some (assigned_after targets names statement) other p (same_some (on_both_paths (assigned_after targets names statement) other) (Some p) e) in (
        record { a = b.a; is = b.one_is; within = λ name there. (b.within name (within name there)).0 },
        onward b.b (is ∙ ap Some b.other_is) (λ name there. (b.within name (within name there)).1),
      )

  each-path : (names q p : List Identifier) (items : SourceCaseItems) → items_assigned_after targets names items ≡ Some (Some p) →
      ((name : Identifier) → has_name q name ≡ true → has_name p name ≡ true) → EachPath names q items
  each-path names q p no_source_items e within = tt
  each-path names q p (labelled labels statement rest) e within =
      step-path names q p statement rest within (items_assigned_after targets names rest) refl e (λ b is more. each-path names q b rest is more)
  each-path names q p (otherwise statement rest) e within =
      step-path names q p statement rest within (items_assigned_after targets names rest) refl e (λ b is more. each-path names q b rest is more)

  paths-each : (names q p : List Identifier) (items : SourceCaseItems) (paths : Option (Option (List Identifier))) → items_assigned_after targets names items ≡ paths → paths_or names paths ≡ Some p →
      ((name : Identifier) → has_name q name ≡ true → has_name p name ≡ true) → EachPath names q items
  paths-each names q p items None is e within = none-each names q items is
  paths-each names q p items (Some path) is e within = each-path names q p items (is ∙ ap Some e) within

  unmatched : (names after : List Identifier) (items : SourceCaseItems) (paths : Option (List Identifier)) → unmatched_path names items paths ≡ Some after →
      (p : List Identifier) × (paths ≡ Some p) × ((name : Identifier) → has_name after name ≡ true → has_name p name ≡ true) × IsUnmatched names after items
  unmatched names after no_source_items paths e =
      let b = both-some (Some names) paths after e in
      let same = some-names names b.a b.one_is in
      (b.b, b.other_is, (λ name there. (b.within name there).1), (λ name there. ap (λ l. has_name l name) same ∙ (b.within name there).0))
  unmatched names after (labelled labels statement rest) paths e = unmatched names after rest paths e
  unmatched names after (otherwise statement rest) paths e = (after, e, (λ name there. there), tt)

  mutual
    -- a statement of combinational form over names is so over objects
    pub statement-moves : (s : SourceStatement) → AreApart → (names after : List Identifier) (assigned : List ℕ) → Follows names assigned → AllHold IsRead (names_read s) →
        AllHold IsPlain (assigned_names s) → assigned_after targets names s ≡ Some after →
        Moves after assigned (assigned_by outputs assigned (statement_over meaning s)) (written_objects (statement_over meaning s))
    statement-moves (NullStatement place) apart names after assigned follows reads plain e = still names after assigned [] follows e
    statement-moves (IgnoredTask place) apart names after assigned follows reads plain e = still names after assigned [] follows e
    statement-moves (BlockStatement place statements) apart names after assigned follows reads plain e = statements-move statements apart names after assigned follows reads plain e
    statement-moves (IfStatement place condition first) apart names after assigned follows reads plain e =
        let r = where-some (reads_assigned targets names (names_in condition)) (on_both_paths (Some names) (assigned_after targets names first)) after e in
        let b = both-some (Some names) (assigned_after targets names first) after r.1 in
        let split = AllHold-parts IsRead (names_in condition) (names_read first) reads in
        let over = statement_over meaning first in
        let m = statement-moves first apart names b.b assigned follows split.1 plain b.other_is in
        let n = still names b.a assigned [] follows b.one_is in
        test-moves (objects_assigned outputs assigned (objects_of (alone_expression meaning condition))) after assigned (assigned_on_both (assigned_by outputs assigned over) (Some assigned))
        (written_objects over ++ [])
        (alone-free apart names assigned condition follows split.0 r.0)
        (both-move b.b b.a after assigned (assigned_by outputs assigned over) (Some assigned) (written_objects over) [] (λ name there. let w = b.within name there in (w.1, w.0)) m n)
    statement-moves (IfElseStatement place condition first second) apart names after assigned follows reads plain e =
        let r = where-some (reads_assigned targets names (names_in condition)) (on_both_paths (assigned_after targets names first) (assigned_after targets names second)) after e in
        let b = both-some (assigned_after targets names first) (assigned_after targets names second) after r.1 in
        let split = AllHold-parts IsRead (names_in condition) (names_read first ++ names_read second) reads in
        let rest = AllHold-parts IsRead (names_read first) (names_read second) split.1 in
        let both = AllHold-parts IsPlain (assigned_names first) (assigned_names second) plain in
        let one = statement_over meaning first in
        let two = statement_over meaning second in
        let m = statement-moves first apart names b.a assigned follows rest.0 both.0 b.one_is in
        let n = statement-moves second apart names b.b assigned follows rest.1 both.1 b.other_is in
        test-moves (objects_assigned outputs assigned (objects_of (alone_expression meaning condition))) after assigned
        (assigned_on_both (assigned_by outputs assigned one) (assigned_by outputs assigned two)) (written_objects one ++ written_objects two)
        (alone-free apart names assigned condition follows split.0 r.0) (both-move b.a b.b after assigned (assigned_by outputs assigned one) (assigned_by outputs assigned two) (written_objects one)
        (written_objects two) b.within m n)
    statement-moves (CaseStatement place kind value items) apart names after assigned follows reads plain e =
        let test : Identifier → Bool = λ name. not (has_name targets name) || has_name names name in
        let r = where-some (reads_assigned targets names (names_in value ++ labels_names items)) (unmatched_path names items (paths_or names (items_assigned_after targets names items))) after e in
        let u = unmatched names after items (paths_or names (items_assigned_after targets names items)) r.1 in
        let each = paths-each names after u.0 items (items_assigned_after targets names items) refl u.1 u.2 in
        let split = AllHold-parts IsRead (names_in value) (items_names_read items) reads in
        let size = items_size meaning.scope items (reading_of meaning.scope value).size in
        let z = size_or_bit size in
        let over = over_objects meaning.holders (tree_at (reading_of meaning.scope value) size) in
        let labels = items_over meaning size items in
        let default = default_over meaning items in
        let read = objects-append assigned (objects_of over) (labels_read labels) (value-free apart names assigned value follows split.0
        (all-front test (names_in value) (labels_names items) r.0) z.width z.signed)
        (items-free apart names assigned size items follows split.1 (all-back test (names_in value) (labels_names items) r.0)) in
        let d = default-moves items apart names after assigned follows split.1 plain each u.3 in
        test-moves (objects_assigned outputs assigned (objects_of over ++ labels_read labels)) after assigned (items_assigned_by outputs assigned labels (assigned_by outputs assigned default))
        (items_written labels ++ written_objects default) read
        (items-move size items apart names after assigned (assigned_by outputs assigned default) (written_objects default) follows split.1 plain each d)
    statement-moves (BlockingStatement place target delay value) apart names after assigned follows reads plain e =
        assignment-moves apart names after assigned place target delay value follows reads plain e
    statement-moves (ForStatement place first_target first condition next_target next body) apart names after assigned follows reads plain e = absurd (cc)
    statement-moves (WhileStatement place condition body) apart names after assigned follows reads plain e = absurd (cc)
    statement-moves (RepeatStatement place count body) apart names after assigned follows reads plain e = absurd (cc)
    statement-moves (ForeverStatement place body) apart names after assigned follows reads plain e = absurd (cc)
    statement-moves (WaitStatement place condition body) apart names after assigned follows reads plain e = absurd (cc)
    statement-moves (EventStatement place waits body) apart names after assigned follows reads plain e = absurd (cc)
    statement-moves (DelayStatement place delay body) apart names after assigned follows reads plain e = absurd (cc)
    statement-moves (NonblockingStatement place target delay value) apart names after assigned follows reads plain e = absurd (cc)
    statement-moves (FinishTask place) apart names after assigned follows reads plain e = absurd (cc)

    statements-move : (statements : SourceStatements) → AreApart → (names after : List Identifier) (assigned : List ℕ) → Follows names assigned → AllHold IsRead (all_names_read statements) →
        AllHold IsPlain (all_assigned_names statements) →
        all_assigned_after targets names statements ≡ Some after → Moves after assigned (all_assigned_by outputs assigned (statements_over meaning statements))
        (all_written (statements_over meaning statements))
    statements-move no_source_statements apart names after assigned follows reads plain e = still names after assigned [] follows e
    statements-move (more_source_statements first rest) apart names after assigned follows reads plain e =
        let now = then-some (λ all. all_assigned_after targets all rest) (assigned_after targets names first) after e in
        let split = AllHold-parts IsRead (names_read first) (all_names_read rest) reads in
        let both = AllHold-parts IsPlain (assigned_names first) (all_assigned_names rest) plain in
        let one = statement_over meaning first in
        let others = statements_over meaning rest in
        let m = statement-moves first apart names now.0 assigned follows split.0 both.0 now.1 in
        let q = statements-move rest apart now.0 after m.found m.follows split.1 both.1 now.2 in
        record {
          found = q.found;
          is = ap (option_and_then (λ all. all_assigned_by outputs all others)) m.is ∙ q.is;
          follows = q.follows;
          writes = λ o there.
              elim (or_cases (has m.found o) (has (all_written others) o) (q.writes o there)) [
                | inl earlier ↦ lift-left (has assigned o) (written_objects one) (all_written others) o (m.writes o earlier)
                | inr here ↦ lift-right (has assigned o) (written_objects one) (all_written others) o (or_right (has assigned o) (has (all_written others) o) here)
              ];
        }

    items-move : (size : Option Size) (items : SourceCaseItems) → AreApart → (names after : List Identifier) (assigned : List ℕ) (result : Option (List ℕ)) (written : List ℕ) →
        Follows names assigned → AllHold IsRead (items_names_read items) →
        AllHold IsPlain (items_assigned_names items) → EachPath names after items → Moves after assigned result written →
        Moves after assigned (items_assigned_by outputs assigned (items_over meaning size items) result) (items_written (items_over meaning size items) ++ written)
    items-move size no_source_items apart names after assigned result written follows reads plain each d = d
    items-move size (labelled labels statement rest) apart names after assigned result written follows reads plain each d =
        let own = AllHold-parts IsRead (names_in_parts labels) (names_read statement ++ items_names_read rest) reads in
        let later = AllHold-parts IsRead (names_read statement) (items_names_read rest) own.1 in
        let both = AllHold-parts IsPlain (assigned_names statement) (items_assigned_names rest) plain in
        let one = statement_over meaning statement in
        let others = items_over meaning size rest in
        let path = each.0 in
        let m = statement-moves statement apart names path.a assigned follows later.0 both.0 path.is in
        let q = items-move size rest apart names after assigned result written follows later.1 both.1 each.1 d in
        subst (Moves after assigned (assigned_on_both (assigned_by outputs assigned one) (items_assigned_by outputs assigned others result)))
        (sym (append_assoc (written_objects one) (items_written others) written))
        (both-move path.a after after assigned (assigned_by outputs assigned one) (items_assigned_by outputs assigned others result) (written_objects one) (items_written others ++ written)
        (λ name there. (path.within name there, there)) m q)
    items-move size (otherwise statement rest) apart names after assigned result written follows reads plain each d =
        let later = AllHold-parts IsRead (names_read statement) (items_names_read rest) reads in
        let both = AllHold-parts IsPlain (assigned_names statement) (items_assigned_names rest) plain in
        items-move size rest apart names after assigned result written follows later.1 both.1 each.1 d

    default-moves : (items : SourceCaseItems) → AreApart → (names after : List Identifier) (assigned : List ℕ) → Follows names assigned → AllHold IsRead (items_names_read items) →
        AllHold IsPlain (items_assigned_names items) → EachPath names after items →
        IsUnmatched names after items → Moves after assigned (assigned_by outputs assigned (default_over meaning items)) (written_objects (default_over meaning items))
    default-moves no_source_items apart names after assigned follows reads plain each un =
        record { found = assigned; is = refl; follows = λ name there. follows name (un name there); writes = λ o there. or_left (has assigned o) false there }
    default-moves (labelled labels statement rest) apart names after assigned follows reads plain each un =
        let own = AllHold-parts IsRead (names_in_parts labels) (names_read statement ++ items_names_read rest) reads in
        let later = AllHold-parts IsRead (names_read statement) (items_names_read rest) own.1 in
        let both = AllHold-parts IsPlain (assigned_names statement) (items_assigned_names rest) plain in
        default-moves rest apart names after assigned follows later.1 both.1 each.1 un
    default-moves (otherwise statement rest) apart names after assigned follows reads plain each un =
        let later = AllHold-parts IsRead (names_read statement) (items_names_read rest) reads in
        let both = AllHold-parts IsPlain (assigned_names statement) (items_assigned_names rest) plain in
        let path = each.0 in
        let m = statement-moves statement apart names path.a assigned follows later.0 both.0 path.is in
        record { found = m.found; is = m.is; follows = λ name there. m.follows name (path.within name there); writes = m.writes }
