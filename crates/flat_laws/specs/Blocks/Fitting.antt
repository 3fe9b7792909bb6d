-- A statement of which nothing is wrong assigns variables and words of memories, and what it names is there where the variables that it assigns are (IEEE 1364-2001, clause 9.2).
use Rattle.std.proofs.Common.{◌≡◌, ℕ, Bool, true, false, List, [], ◌∷◌, ◌++◌, map, Option, Some, None, nat_le, refl, sym, ap, ◌∙◌, subst, inl, inr, ◌⊎◌}
use Rattle.std.specs.Prelude.{flat_map}
use Rattle.std.specs.List.{list_all}
use Rattle.vf_base.specs.Base.{SourcePlace}
use Rattle.vf_base.specs.Lists.{AllHold}
use Rattle.v_design.specs.Trees.{Variable, Target, Statement}
use Rattle.v_design.specs.Designs.{FlatDesign}
use Rattle.v_design.specs.Expressions.{memory_pieces}
use Rattle.v_design.specs.Reads.{variable_piece, target_objects, targets_objects, written_objects, all_written, items_written, named_in, named_in_parts, named_in_target, named_in_targets, named_by}
use Rattle.v_design.specs.Reads.{named_by_all, named_by_items}
use Rattle.v_design.specs.WellFormed.{has_width}
use Rattle.v_tree.specs.Trees.{Identifier, SourceExpression, SourceIndex, NoIndex, IndexAt, IndexRange, SourceExpressions, no_parts, more_parts, SourceSelect, SourceTarget, OneSelect, JoinedSelects}
use Rattle.v_tree.specs.Trees.{selects_of, NamedPlace, SourceStatement, NullStatement, BlockStatement, IfStatement, IfElseStatement, CaseStatement, ForStatement, WhileStatement, RepeatStatement}
use Rattle.v_tree.specs.Trees.{ForeverStatement, WaitStatement, EventStatement, DelayStatement, BlockingStatement, NonblockingStatement, IgnoredTask, FinishTask, SourceStatements}
use Rattle.v_tree.specs.Trees.{no_source_statements, more_source_statements, SourceCaseItems, no_source_items, labelled, otherwise}
use Rattle.v_names.specs.Faults.{Fault, BadWidth, fault_at}
use Rattle.v_names.specs.Scopes.{ScopeEntry, ParameterEntry, RefusedParameter, WaitingParameter, NetEntry, RegEntry, MemoryEntry, GateEntry, InstanceEntry, looked_up, is_memory, is_reg}
use Rattle.v_names.specs.Readings.{Size, alone_faults, name_reading, ranged_reading, reading_of, select_reading, number_of_constant, tree_at, tree_alone, tree_in}
use Rattle.v_names.specs.SizedTrees.{over_objects}
use Rattle.v_names.specs.Constants.{known_faults, name_faults, part_faults, index_faults, select_faults, constant_faults, optional_faults, DelayValue}
use Rattle.v_names.specs.Names.{entry_faults, target_faults, statement_name_faults, statements_name_faults, case_name_faults}
use Rattle.v_width.specs.Targets.{ByProcess, may_write, written_reading, target_select_reading, TargetReading, selects_reading, within_most, target_reading, target_width_in}
use Rattle.v_design.specs.Sized.{most_bits}
use Rattle.v_comb.specs.CombinationalForm.{target_names, assigned_names, all_assigned_names, items_assigned_names}
use Rattle.v_elab.specs.ItemFaults.{size_faults, assigned_faults, wait_faults, waits_faults, case_faults, statement_faults, statements_faults, items_faults}
use Rattle.v_elab.specs.Statements.{Meaning, alone_expression, assigned_expression, variable_of, indexed_target, target_by_index, targets_over, items_size, label_expressions, statement_over}
use Rattle.v_elab.specs.Statements.{statements_over, items_over, default_over}
use Rattle.flat_laws.specs.Sizes.Complete.{append-none, group-none}
use Rattle.flat_laws.specs.Hierarchy.Given.{both-true}
use Rattle.flat_laws.specs.Numbered.{AllHold-append}
use Rattle.flat_laws.specs.Sizes.Objects.{all-append}
use Rattle.flat_laws.specs.Blocks.Named.{AreThere, tree-there}

-- Lists

pub AllHold-parts : {A : Type 0} (P : A → Type 0) (xs ys : List A) → AllHold P (xs ++ ys) → AllHold P xs × AllHold P ys
AllHold-parts P [] ys h = (tt, h)
AllHold-parts P (x ∷ xs) ys h = let r = AllHold-parts P xs ys h.1 in ((h.0, r.0), r.1)

-- What may be written

-- a select that is written is of a variable, or a word of a memory
abbrev pub IsWrittenEntry : Option ScopeEntry → SourceIndex → Type 0
IsWrittenEntry entry index = ((is_reg entry ≡ true) × (is_memory entry ≡ false)) ⊎ ((i : SourceExpression) × (index ≡ IndexAt i) × (is_memory entry ≡ true))

whole-written : (name : Identifier) (place : SourcePlace) (entry : Option ScopeEntry) → may_write ByProcess entry ≡ true → known_faults entry place ≡ [] → (name_reading entry place name).here ≡ [] →
    IsWrittenEntry entry NoIndex
whole-written name place (Some (RegEntry range signed)) writes known h = inl (refl, refl)
whole-written name place (Some (MemoryEntry range first last signed)) writes known h = absurd (cc)
whole-written name place None writes known h = absurd (cc)
whole-written name place (Some (NetEntry range signed)) writes known h = absurd (cc)
whole-written name place (Some (ParameterEntry value signed)) writes known h = absurd (cc)
whole-written name place (Some RefusedParameter) writes known h = absurd (cc)
whole-written name place (Some WaitingParameter) writes known h = absurd (cc)
whole-written name place (Some GateEntry) writes known h = absurd (cc)
whole-written name place (Some InstanceEntry) writes known h = absurd (cc)

index-written : (index : SourceExpression) (place : SourcePlace) (entry : Option ScopeEntry) → may_write ByProcess entry ≡ true → known_faults entry place ≡ [] → IsWrittenEntry entry (IndexAt index)
index-written index place (Some (RegEntry range signed)) writes known = inl (refl, refl)
index-written index place (Some (MemoryEntry range first last signed)) writes known = inr (index, refl, refl)
index-written index place None writes known = absurd (cc)
index-written index place (Some (NetEntry range signed)) writes known = absurd (cc)
index-written index place (Some (ParameterEntry value signed)) writes known = absurd (cc)
index-written index place (Some RefusedParameter) writes known = absurd (cc)
index-written index place (Some WaitingParameter) writes known = absurd (cc)
index-written index place (Some GateEntry) writes known = absurd (cc)
index-written index place (Some InstanceEntry) writes known = absurd (cc)

range-written : (name : Identifier) (place : SourcePlace) (from to : SourceExpression) (inside : List Fault) (first second : Option ℕ) (entry : Option ScopeEntry) →
    may_write ByProcess entry ≡ true → known_faults entry place ≡ [] →
    (ranged_reading entry place name inside first second).here ≡ [] → IsWrittenEntry entry (IndexRange from to)
range-written name place from to inside first second (Some (RegEntry range signed)) writes known h = inl (refl, refl)
range-written name place from to inside first second (Some (MemoryEntry range low high signed)) writes known h = absurd (cc)
range-written name place from to inside first second None writes known h = absurd (cc)
range-written name place from to inside first second (Some (NetEntry range signed)) writes known h = absurd (cc)
range-written name place from to inside first second (Some (ParameterEntry value signed)) writes known h = absurd (cc)
range-written name place from to inside first second (Some RefusedParameter) writes known h = absurd (cc)
range-written name place from to inside first second (Some WaitingParameter) writes known h = absurd (cc)
range-written name place from to inside first second (Some GateEntry) writes known h = absurd (cc)
range-written name place from to inside first second (Some InstanceEntry) writes known h = absurd (cc)

select-written : (meaning : Meaning) (place : SourcePlace) (name : Identifier) (index : SourceIndex) → may_write ByProcess (looked_up meaning.scope name) ≡ true →
    known_faults (looked_up meaning.scope name) place ++ index_faults meaning.scope index ≡ [] →
    (select_reading meaning.scope place name index).here ≡ [] → IsWrittenEntry (looked_up meaning.scope name) index
select-written meaning place name NoIndex writes names h = whole-written name place (looked_up meaning.scope name) writes (append-none (known_faults (looked_up meaning.scope name) place) [] names).0 h
select-written meaning place name (IndexAt index) writes names h = index-written index place (looked_up meaning.scope name) writes
    (append-none (known_faults (looked_up meaning.scope name) place) (name_faults meaning.scope index) names).0
select-written meaning place name (IndexRange from to) writes names h =
    range-written name place from to (alone_faults (reading_of meaning.scope from) ++ alone_faults (reading_of meaning.scope to)) (number_of_constant meaning.scope from)
    (number_of_constant meaning.scope to) (looked_up meaning.scope name) writes
    (append-none (known_faults (looked_up meaning.scope name) place) (index_faults meaning.scope (IndexRange from to)) names).0 h

written-by : (meaning : Meaning) (select : SourceSelect) (writes : Bool) → may_write ByProcess (looked_up meaning.scope select.name) ≡ writes → select_faults meaning.scope select ≡ [] →
    (written_reading writes select.place (select_reading meaning.scope select.place select.name select.index)).here ≡ [] → IsWrittenEntry (looked_up meaning.scope select.name) select.index
written-by meaning select true e names h = select-written meaning select.place select.name select.index e names h
written-by meaning select false e names h = absurd (cc)

-- each select of a target that isn't refused is written
selects-written : (meaning : Meaning) (selects : List SourceSelect) → flat_map (select_faults meaning.scope) selects ≡ [] → (selects_reading ByProcess meaning.scope selects).here ≡ [] →
    AllHold (λ (s : SourceSelect). IsWrittenEntry (looked_up meaning.scope s.name) s.index) selects
selects-written meaning [] names h = tt
selects-written meaning (select ∷ selects) names h =
    let none = append-none (select_faults meaning.scope select) (flat_map (select_faults meaning.scope) selects) names in
    let here = append-none (target_select_reading ByProcess meaning.scope select).here (selects_reading ByProcess meaning.scope selects).here h in
    (written-by meaning select (may_write ByProcess (looked_up meaning.scope select.name)) refl none.0 here.0, selects-written meaning selects none.1 here.1)

-- nothing is wrong inside braces where nothing is wrong with them
within-here : (place : SourcePlace) (reading : TargetReading) → (within_most place reading).here ≡ [] → reading.here ≡ []
within-here place reading e = by_width reading.width refl
  where
    by_width : (width : Option ℕ) → reading.width ≡ width → reading.here ≡ []
    by_width None is =
        let all : within_most place reading ≡ record reading { width = None } = ap (λ w. within_most place (record reading { width = w })) is in sym (ap (λ (r : TargetReading). r.here) all) ∙ e
    by_width (Some total) is = by_test (nat_le total most_bits) refl
      where
        moved : within_most place reading ≡ within_most place (record reading { width = Some total })
        moved = ap (λ w. within_most place (record reading { width = w })) is

        by_test : (test : Bool) → nat_le total most_bits ≡ test → reading.here ≡ []
        by_test true d =
            let fits : within_most place (record reading { width = Some total }) ≡ record reading { width = Some total } = rw d refl in
            sym (ap (λ (r : TargetReading). r.here) (moved ∙ fits)) ∙ e
        by_test false d =
            let wide : (within_most place (record reading { width = Some total })).here ≡ fault_at place BadWidth ∷ reading.here = rw d refl in
            let none : fault_at place BadWidth ∷ reading.here ≡ [] = sym wide ∙ sym (ap (λ (r : TargetReading). r.here) moved) ∙ e in
            absurd (cc)

target-written : (meaning : Meaning) (target : SourceTarget) → target_faults meaning.scope target ≡ [] → (target_reading ByProcess meaning.scope target).here ≡ [] →
    AllHold (λ (s : SourceSelect). IsWrittenEntry (looked_up meaning.scope s.name) s.index) (selects_of target)
target-written meaning (OneSelect select) names h = selects-written meaning (select ∷ []) names h
target-written meaning (JoinedSelects place selects) names h = selects-written meaning selects names (within-here place (selects_reading ByProcess meaning.scope selects) h)

-- the selects of an assignment of which nothing is wrong
pub assigned-written : (meaning : Meaning) (target : SourceTarget) (value : SourceExpression) → target_faults meaning.scope target ≡ [] → assigned_faults ByProcess meaning.scope target value ≡ [] →
    AllHold (λ (s : SourceSelect). IsWrittenEntry (looked_up meaning.scope s.name) s.index) (selects_of target)
assigned-written meaning target value names faults =
    let t = target_reading ByProcess meaning.scope target in
    let reading = reading_of meaning.scope value in
    let none = group-none (t.here ++ reading.here) (t.inside ++ reading.inside) faults in
    target-written meaning target names (append-none t.here reading.here none.0).0

-- What a statement names and writes

-- a variable is there with its width, and its object has a property
abbrev pub FitsVariable : FlatDesign → (ℕ → Type 0) → Variable → Type 0
FitsVariable design Q v = (has_width design (variable_piece v) ≡ true) × Q v.object

module _ (design : FlatDesign) (Q : ℕ → Type 0) (meaning : Meaning) where
  -- a variable's name is that of one that fits, and the words of a memory's have the property
  pub record FitsName (name : Identifier) : Type 0 where
    pub variable : is_reg (looked_up meaning.scope name) ≡ true → FitsVariable design Q (variable_of (meaning.holders.vector name))
    pub words : is_memory (looked_up meaning.scope name) ≡ true → AllHold Q (meaning.holders.memory name).words

  abbrev pub FitsTarget : Target → Type 0
  FitsTarget target = (list_all (has_width design) (named_in_target target) ≡ true) × AllHold Q (target_objects target)

  abbrev pub FitsTargets : List Target → Type 0
  FitsTargets targets = (list_all (has_width design) (named_in_targets targets) ≡ true) × AllHold Q (targets_objects targets)

  abbrev pub FitsStatement : Statement → Type 0
  FitsStatement s = (list_all (has_width design) (named_by s) ≡ true) × AllHold Q (written_objects s)

  alone-there : AreThere design meaning.holders → (e : SourceExpression) → list_all (has_width design) (named_in (alone_expression meaning e)) ≡ true
  alone-there fits e = tree-there design meaning.holders fits (tree_alone (reading_of meaning.scope e))

  value-there : AreThere design meaning.holders → (target : SourceTarget) (e : SourceExpression) → list_all (has_width design) (named_in (assigned_expression meaning target e)) ≡ true
  value-there fits target e = tree-there design meaning.holders fits (tree_in (target_width_in ByProcess meaning.scope target) (reading_of meaning.scope e))

  labels-there : AreThere design meaning.holders → (size : Option Size) (labels : SourceExpressions) → list_all (has_width design) (named_in_parts (label_expressions meaning size labels)) ≡ true
  labels-there fits size no_parts = refl
  labels-there fits size (more_parts label rest) =
      all-append (has_width design) (named_in (over_objects meaning.holders (tree_at (reading_of meaning.scope label) size))) (named_in_parts (label_expressions meaning size rest))
      (tree-there design meaning.holders fits (tree_at (reading_of meaning.scope label) size)) (labels-there fits size rest)

  variable-fits : (name : Identifier) (index : SourceIndex) → AreThere design meaning.holders → FitsVariable design Q (variable_of (meaning.holders.vector name)) →
      is_memory (looked_up meaning.scope name) ≡ false → FitsTarget (target_by_index meaning name index)
  variable-fits name NoIndex fits v none = (both-true (has_width design (variable_piece (variable_of (meaning.holders.vector name)))) true v.0 refl, (v.1, tt))
  variable-fits name (IndexRange from to) fits v none = (both-true (has_width design (variable_piece (variable_of (meaning.holders.vector name)))) true v.0 refl, (v.1, tt))
  variable-fits name (IndexAt index) fits v none =
      subst (λ b. FitsTarget (indexed_target b meaning name index)) (sym none) (
        both-true (has_width design (variable_piece (variable_of (meaning.holders.vector name)))) (list_all (has_width design) (named_in (alone_expression meaning index))) v.0
            (alone-there fits index),
        (v.1, tt),
      )

  word-fits : (name : Identifier) (index : SourceExpression) → AreThere design meaning.holders → AllHold Q (meaning.holders.memory name).words → is_memory (looked_up meaning.scope name) ≡ true →
      FitsTarget (target_by_index meaning name (IndexAt index))
  word-fits name index fits words memory =
      subst (λ b. FitsTarget (indexed_target b meaning name index)) (sym memory) (
        all-append (has_width design) (memory_pieces (meaning.holders.memory name)) (named_in (alone_expression meaning index)) (fits name).1 (alone-there fits index),
        words,
      )

  select-fits : (s : SourceSelect) → AreThere design meaning.holders → FitsName s.name → IsWrittenEntry (looked_up meaning.scope s.name) s.index → FitsTarget (target_by_index meaning s.name s.index)
  select-fits s fits name written =
      elim written [
        | inl variable ↦ variable-fits s.name s.index fits (name.variable variable.0) variable.1
        | inr word ↦ subst (λ index. FitsTarget (target_by_index meaning s.name index)) (sym word.1) (word-fits s.name word.0 fits (name.words word.2) word.2)
      ]

  selects-fit : (selects : List SourceSelect) → AreThere design meaning.holders → AllHold (λ (n : NamedPlace). FitsName n.name)
      (map (λ (s : SourceSelect). record { name = s.name; place = s.place }) selects) →
      AllHold (λ (s : SourceSelect). IsWrittenEntry (looked_up meaning.scope s.name) s.index) selects → FitsTargets (map (λ (s : SourceSelect). target_by_index meaning s.name s.index) selects)
  selects-fit [] fits names written = (refl, tt)
  selects-fit (s ∷ selects) fits names written =
      let first = select-fits s fits names.0 written.0 in
      let rest = selects-fit selects fits names.1 written.1 in
      let target = target_by_index meaning s.name s.index in
      let others = map (λ (s : SourceSelect). target_by_index meaning s.name s.index) selects in
      (all-append (has_width design) (named_in_target target) (named_in_targets others) first.0 rest.0, AllHold-append Q (target_objects target) (targets_objects others) first.1 rest.1)

  assignment-fits : (target : SourceTarget) (value : SourceExpression) → AreThere design meaning.holders → AllHold (λ (n : NamedPlace). FitsName n.name) (target_names target) →
      target_faults meaning.scope target ≡ [] →
      assigned_faults ByProcess meaning.scope target value ≡ [] → FitsTargets (targets_over meaning target)
  assignment-fits target value fits names none faults = selects-fit (selects_of target) fits names (assigned-written meaning target value none faults)

  mutual
    -- a statement of which nothing is wrong names what is there, and writes objects that have the property
    pub statement-fits : (s : SourceStatement) → AreThere design meaning.holders → AllHold (λ (n : NamedPlace). FitsName n.name) (assigned_names s) → statement_name_faults meaning.scope s ≡ [] →
        statement_faults meaning.scope s ≡ [] →
        FitsStatement (statement_over meaning s)
    statement-fits (NullStatement place) fits all names sizes = (refl, tt)
    statement-fits (BlockStatement place statements) fits all names sizes = statements-fit statements fits all names sizes
    statement-fits (IfStatement place condition first) fits all names sizes =
        let n = append-none (name_faults meaning.scope condition) (statement_name_faults meaning.scope first) names in
        let s = append-none (size_faults meaning.scope condition) (statement_faults meaning.scope first) sizes in
        let r = statement-fits first fits all n.1 s.1 in (
          all-append (has_width design) (named_in (alone_expression meaning condition)) (named_by (statement_over meaning first) ++ []) (alone-there fits condition)
              (all-append (has_width design) (named_by (statement_over meaning first)) [] r.0 refl),
          AllHold-append Q (written_objects (statement_over meaning first)) [] r.1 tt,
        )
    statement-fits (IfElseStatement place condition first second) fits all names sizes =
        let n = append-none (name_faults meaning.scope condition) (statement_name_faults meaning.scope first ++ statement_name_faults meaning.scope second) names in
        let s = append-none (size_faults meaning.scope condition) (statement_faults meaning.scope first ++ statement_faults meaning.scope second) sizes in
        let m = append-none (statement_name_faults meaning.scope first) (statement_name_faults meaning.scope second) n.1 in
        let t = append-none (statement_faults meaning.scope first) (statement_faults meaning.scope second) s.1 in
        let split = AllHold-parts (λ (n : NamedPlace). FitsName n.name) (assigned_names first) (assigned_names second) all in
        let r = statement-fits first fits split.0 m.0 t.0 in
        let q = statement-fits second fits split.1 m.1 t.1 in (
          all-append (has_width design) (named_in (alone_expression meaning condition)) (named_by (statement_over meaning first) ++ named_by (statement_over meaning second))
              (alone-there fits condition)
              (all-append (has_width design) (named_by (statement_over meaning first)) (named_by (statement_over meaning second)) r.0 q.0),
          AllHold-append Q (written_objects (statement_over meaning first)) (written_objects (statement_over meaning second)) r.1 q.1,
        )
    statement-fits (CaseStatement place kind value items) fits all names sizes =
        let n = append-none (name_faults meaning.scope value) (case_name_faults meaning.scope items) names in
        let s = append-none (case_faults meaning.scope value items) (items_faults meaning.scope items) sizes in
        let size = items_size meaning.scope items (reading_of meaning.scope value).size in
        let r = items-fit size items fits all n.1 s.1 in
        let q = default-fits items fits all n.1 s.1 in (
          all-append (has_width design) (named_in (over_objects meaning.holders (tree_at (reading_of meaning.scope value) size)))
              (named_by_items (items_over meaning size items) ++ named_by (default_over meaning items))
              (tree-there design meaning.holders fits (tree_at (reading_of meaning.scope value) size))
              (all-append (has_width design) (named_by_items (items_over meaning size items)) (named_by (default_over meaning items)) r.0 q.0),
          AllHold-append Q (items_written (items_over meaning size items)) (written_objects (default_over meaning items)) r.1 q.1,
        )
    statement-fits (ForStatement place first_target first condition next_target next body) fits all names sizes =
        let scope = meaning.scope in
        let n1 = append-none (target_faults scope first_target) (name_faults scope first ++
        (name_faults scope condition ++ (target_faults scope next_target ++ (name_faults scope next ++ statement_name_faults scope body)))) names in
        let n2 = append-none (name_faults scope first) (name_faults scope condition ++ (target_faults scope next_target ++ (name_faults scope next ++ statement_name_faults scope body))) n1.1 in
        let n3 = append-none (name_faults scope condition) (target_faults scope next_target ++ (name_faults scope next ++ statement_name_faults scope body)) n2.1 in
        let n4 = append-none (target_faults scope next_target) (name_faults scope next ++ statement_name_faults scope body) n3.1 in
        let n5 = append-none (name_faults scope next) (statement_name_faults scope body) n4.1 in
        let s1 = append-none (assigned_faults ByProcess scope first_target first) (size_faults scope condition ++ (assigned_faults ByProcess scope next_target next ++ statement_faults scope body))
        sizes in
        let s2 = append-none (size_faults scope condition) (assigned_faults ByProcess scope next_target next ++ statement_faults scope body) s1.1 in
        let s3 = append-none (assigned_faults ByProcess scope next_target next) (statement_faults scope body) s2.1 in
        let a1 = AllHold-parts (λ (n : NamedPlace). FitsName n.name) (target_names first_target) (target_names next_target ++ assigned_names body) all in
        let a2 = AllHold-parts (λ (n : NamedPlace). FitsName n.name) (target_names next_target) (assigned_names body) a1.1 in
        let f = assignment-fits first_target first fits a1.0 n1.0 s1.0 in
        let g = assignment-fits next_target next fits a2.0 n4.0 s3.0 in
        let r = statement-fits body fits a2.1 n5.1 s3.1 in
        let named = has_width design in
        let over = statement_over meaning body in
        let firsts = targets_over meaning first_target in
        let nexts = targets_over meaning next_target in
        let one = assigned_expression meaning first_target first in
        let test = alone_expression meaning condition in
        let two = assigned_expression meaning next_target next in (
          all-append named (named_in_targets firsts) (named_in one ++ (named_in test ++ (named_in_targets nexts ++ (named_in two ++ named_by over)))) f.0
              (all-append named (named_in one) (named_in test ++ (named_in_targets nexts ++ (named_in two ++ named_by over))) (value-there fits first_target first)
              (all-append named (named_in test) (named_in_targets nexts ++ (named_in two ++ named_by over)) (alone-there fits condition)
              (all-append named (named_in_targets nexts) (named_in two ++ named_by over) g.0 (all-append named (named_in two) (named_by over) (value-there fits next_target next) r.0)))),
          AllHold-append Q (targets_objects firsts) (targets_objects nexts ++ written_objects over) f.1 (AllHold-append Q (targets_objects nexts) (written_objects over) g.1 r.1),
        )
    statement-fits (WhileStatement place condition body) fits all names sizes =
        let n = append-none (name_faults meaning.scope condition) (statement_name_faults meaning.scope body) names in
        let s = append-none (size_faults meaning.scope condition) (statement_faults meaning.scope body) sizes in
        let r = statement-fits body fits all n.1 s.1 in
        (all-append (has_width design) (named_in (alone_expression meaning condition)) (named_by (statement_over meaning body)) (alone-there fits condition) r.0, r.1)
    statement-fits (RepeatStatement place count body) fits all names sizes =
        let n = append-none (name_faults meaning.scope count) (statement_name_faults meaning.scope body) names in
        let s = append-none (size_faults meaning.scope count) (statement_faults meaning.scope body) sizes in
        let r = statement-fits body fits all n.1 s.1 in
        (all-append (has_width design) (named_in (alone_expression meaning count)) (named_by (statement_over meaning body)) (alone-there fits count) r.0, r.1)
    statement-fits (ForeverStatement place body) fits all names sizes = statement-fits body fits all names sizes
    statement-fits (WaitStatement place condition body) fits all names sizes =
        let n = append-none (name_faults meaning.scope condition) (statement_name_faults meaning.scope body) names in
        let s = append-none (wait_faults meaning.scope condition) (statement_faults meaning.scope body) sizes in
        let r = statement-fits body fits all n.1 s.1 in
        (all-append (has_width design) (named_in (alone_expression meaning condition)) (named_by (statement_over meaning body)) (alone-there fits condition) r.0, r.1)
    statement-fits (EventStatement place waits body) fits all names sizes =
        statement-fits body fits all (append-none (entry_faults meaning.scope waits) (statement_name_faults meaning.scope body) names).1
        (append-none (waits_faults meaning.scope waits) (statement_faults meaning.scope body) sizes).1
    statement-fits (DelayStatement place delay body) fits all names sizes =
        statement-fits body fits all (append-none (constant_faults meaning.scope DelayValue delay) (statement_name_faults meaning.scope body) names).1
        (append-none (size_faults meaning.scope delay) (statement_faults meaning.scope body) sizes).1
    statement-fits (BlockingStatement place target delay value) fits all names sizes =
        let n = append-none (target_faults meaning.scope target) (optional_faults (constant_faults meaning.scope DelayValue) delay ++ name_faults meaning.scope value) names in
        let s = append-none (assigned_faults ByProcess meaning.scope target value) (optional_faults (size_faults meaning.scope) delay) sizes in
        let f = assignment-fits target value fits all n.0 s.0 in
        (all-append (has_width design) (named_in_targets (targets_over meaning target)) (named_in (assigned_expression meaning target value)) f.0 (value-there fits target value), f.1)
    statement-fits (NonblockingStatement place target delay value) fits all names sizes =
        let n = append-none (target_faults meaning.scope target) (optional_faults (constant_faults meaning.scope DelayValue) delay ++ name_faults meaning.scope value) names in
        let s = append-none (assigned_faults ByProcess meaning.scope target value) (optional_faults (size_faults meaning.scope) delay) sizes in
        let f = assignment-fits target value fits all n.0 s.0 in
        (all-append (has_width design) (named_in_targets (targets_over meaning target)) (named_in (assigned_expression meaning target value)) f.0 (value-there fits target value), f.1)
    statement-fits (IgnoredTask place) fits all names sizes = (refl, tt)
    statement-fits (FinishTask place) fits all names sizes = (refl, tt)

    statements-fit : (statements : SourceStatements) → AreThere design meaning.holders → AllHold (λ (n : NamedPlace). FitsName n.name) (all_assigned_names statements) →
        statements_name_faults meaning.scope statements ≡ [] →
        statements_faults meaning.scope statements ≡ [] → (list_all (has_width design) (named_by_all (statements_over meaning statements)) ≡ true)
        × AllHold Q (all_written (statements_over meaning statements))
    statements-fit no_source_statements fits all names sizes = (refl, tt)
    statements-fit (more_source_statements first rest) fits all names sizes =
        let n = append-none (statement_name_faults meaning.scope first) (statements_name_faults meaning.scope rest) names in
        let s = append-none (statement_faults meaning.scope first) (statements_faults meaning.scope rest) sizes in
        let split = AllHold-parts (λ (n : NamedPlace). FitsName n.name) (assigned_names first) (all_assigned_names rest) all in
        let r = statement-fits first fits split.0 n.0 s.0 in
        let q = statements-fit rest fits split.1 n.1 s.1 in (
          all-append (has_width design) (named_by (statement_over meaning first)) (named_by_all (statements_over meaning rest)) r.0 q.0,
          AllHold-append Q (written_objects (statement_over meaning first)) (all_written (statements_over meaning rest)) r.1 q.1,
        )

    items-fit : (size : Option Size) (items : SourceCaseItems) → AreThere design meaning.holders → AllHold (λ (n : NamedPlace). FitsName n.name) (items_assigned_names items) →
        case_name_faults meaning.scope items ≡ [] →
        items_faults meaning.scope items ≡ [] → (list_all (has_width design) (named_by_items (items_over meaning size items)) ≡ true) × AllHold Q (items_written (items_over meaning size items))
    items-fit size no_source_items fits all names sizes = (refl, tt)
    items-fit size (labelled labels statement rest) fits all names sizes =
        let n = append-none (part_faults meaning.scope labels) (statement_name_faults meaning.scope statement ++ case_name_faults meaning.scope rest) names in
        let m = append-none (statement_name_faults meaning.scope statement) (case_name_faults meaning.scope rest) n.1 in
        let s = append-none (statement_faults meaning.scope statement) (items_faults meaning.scope rest) sizes in
        let split = AllHold-parts (λ (n : NamedPlace). FitsName n.name) (assigned_names statement) (items_assigned_names rest) all in
        let r = statement-fits statement fits split.0 m.0 s.0 in
        let q = items-fit size rest fits split.1 m.1 s.1 in (
          all-append (has_width design) (named_in_parts (label_expressions meaning size labels)) (named_by (statement_over meaning statement) ++ named_by_items (items_over meaning size rest))
              (labels-there fits size labels)
              (all-append (has_width design) (named_by (statement_over meaning statement)) (named_by_items (items_over meaning size rest)) r.0 q.0),
          AllHold-append Q (written_objects (statement_over meaning statement)) (items_written (items_over meaning size rest)) r.1 q.1,
        )
    items-fit size (otherwise statement rest) fits all names sizes =
        let m = append-none (statement_name_faults meaning.scope statement) (case_name_faults meaning.scope rest) names in
        let s = append-none (statement_faults meaning.scope statement) (items_faults meaning.scope rest) sizes in
        let split = AllHold-parts (λ (n : NamedPlace). FitsName n.name) (assigned_names statement) (items_assigned_names rest) all in
        items-fit size rest fits split.1 m.1 s.1

    default-fits : (items : SourceCaseItems) → AreThere design meaning.holders → AllHold (λ (n : NamedPlace). FitsName n.name) (items_assigned_names items) →
        case_name_faults meaning.scope items ≡ [] → items_faults meaning.scope items ≡ [] →
        FitsStatement (default_over meaning items)
    default-fits no_source_items fits all names sizes = (refl, tt)
    default-fits (labelled labels statement rest) fits all names sizes =
        let n = append-none (part_faults meaning.scope labels) (statement_name_faults meaning.scope statement ++ case_name_faults meaning.scope rest) names in
        let m = append-none (statement_name_faults meaning.scope statement) (case_name_faults meaning.scope rest) n.1 in
        let s = append-none (statement_faults meaning.scope statement) (items_faults meaning.scope rest) sizes in
        let split = AllHold-parts (λ (n : NamedPlace). FitsName n.name) (assigned_names statement) (items_assigned_names rest) all in
        default-fits rest fits split.1 m.1 s.1
    default-fits (otherwise statement rest) fits all names sizes =
        let m = append-none (statement_name_faults meaning.scope statement) (case_name_faults meaning.scope rest) names in
        let s = append-none (statement_faults meaning.scope statement) (items_faults meaning.scope rest) sizes in
        let split = AllHold-parts (λ (n : NamedPlace). FitsName n.name) (assigned_names statement) (items_assigned_names rest) all in
        statement-fits statement fits split.0 m.0 s.0
