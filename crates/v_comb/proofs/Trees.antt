-- The names of trees that are built of lists.
use Rattle.std.proofs.Common.{◌≡◌, Bool, true, false, Option, Some, None, List, ◌++◌, flat_map, map, filter, not, refl, sym, ap, ap₂, ◌∙◌, Global}
use Rattle.std.specs.declared.vec.Vec.{Vec}
use Rattle.std.specs.declared.boxed.Box.{Box}
use Rattle.vf_base.specs.declared.ids.Place.{Place}
use Rattle.four_value.specs.declared.operator.CaseKind.{CaseKind}
use Rattle.std.proofs.lemmas.List.{map-append}
use Rattle.v_tree.specs.Trees.{Identifier, NamedPlace, named_in, named_in_parts, names_in, names_in_parts}
use Rattle.v_tree.specs.Trees.{SourceSelect, selects_of, names_in_index}
use Rattle.v_tree.specs.Views.{expression_of, expressions_of_row, statement_of, statements_of, case_items_of, select_of, target_of}
use Rattle.v_tree.specs.declared.expression.Select.{Select}
use Rattle.v_tree.specs.declared.expression.Target.{Target}
use Rattle.v_tree.specs.declared.expression.Expr.TheBlock.{hidden-the_row-Expr-0}
use Rattle.v_tree.specs.ViewLaws.{expressions-hidden, statement_of-Block, statement_of-Case}
use Rattle.v_tree.specs.declared.expression.Expr.{Expr}
use Rattle.v_tree.specs.declared.expression.Expr.TheVariants as code
use Rattle.v_tree.specs.declared.statement.Stmt.{Stmt}
use Rattle.v_tree.specs.declared.statement.Stmt.TheVariants as statements
use Rattle.v_tree.specs.declared.statement.CaseItem.{CaseItem}
use Rattle.v_comb.specs.CombinationalForm.{assigned_names, names_read, names_needed, whole_names, is_whole_select}
use Rattle.v_comb.specs.Flags.{all_flagged, flags_where, has_default, unmatched_flags, flags_after, all_flags_after, items_flags_after}
use Rattle.v_comb.specs.Occurrences.{names_of_expr, only_names, assigned_names_of, assigned_names_of_item, names_read_of, names_read_of_item, flags_after_case, index_names_of_select, part_names_of}
use Rattle.v_comb.specs.Occurrences.{whole_names_of, label_names_of_item}
use Rattle.v_comb.proofs.Lists.{part-names-listed, all-assigned-listed, items-assigned-listed, all-read-listed, items-read-listed, labels-listed, index-names-listed, part-select-names-listed}
use Rattle.v_comb.proofs.Lists.{whole-names-listed}

pub concat-names : (place : Place) (parts : Vec Expr Global) → names_of_expr (code.Concat place parts) ≡ flat_map names_of_expr parts.items
concat-names place parts = ap names_in_parts (expressions-hidden parts) ∙ part-names-listed parts.items

pub repeat-names : (place : Place) (count : Box Expr Global) (parts : Vec Expr Global) → names_of_expr (code.Repeat place count parts) ≡ names_of_expr count.value ++ flat_map names_of_expr parts.items
repeat-names place count parts =
    map-append (λ (n : NamedPlace). n.name) (named_in (expression_of count.value)) (named_in_parts (expressions_of_row (hidden-the_row-Expr-0 parts)))
    ∙ ap (λ names. names_of_expr count.value ++ names) (ap names_in_parts (expressions-hidden parts) ∙ part-names-listed parts.items)

pub block-assigned : (place : Place) (body : Vec Stmt Global) → assigned_names_of (statements.Block place body) ≡ flat_map assigned_names_of body.items
block-assigned place body = ap (λ s. only_names (assigned_names s)) (statement_of-Block place body) ∙ all-assigned-listed body.items

pub case-assigned : (place : Place) (kind : CaseKind) (value : Expr) (items : Vec CaseItem Global) →
    assigned_names_of (statements.Case place kind value items) ≡ flat_map assigned_names_of_item items.items
case-assigned place kind value items = ap (λ s. only_names (assigned_names s)) (statement_of-Case place kind value items) ∙ items-assigned-listed items.items

pub block-read : (place : Place) (body : Vec Stmt Global) → names_read_of (statements.Block place body) ≡ flat_map names_read_of body.items
block-read place body = ap names_read (statement_of-Block place body) ∙ all-read-listed body.items

pub case-read : (place : Place) (kind : CaseKind) (value : Expr) (items : Vec CaseItem Global) →
    names_read_of (statements.Case place kind value items) ≡ names_of_expr value ++ flat_map names_read_of_item items.items
case-read place kind value items = ap names_read (statement_of-Case place kind value items) ∙ ap (λ names. names_of_expr value ++ names) (items-read-listed items.items)

pub if-read-none : (place : Place) (condition : Expr) (first : Box Stmt Global) (second : Option (Box Stmt Global)) → second ≡ None →
    names_read_of (statements.If place condition first second) ≡ names_of_expr condition ++ names_read_of first.value
if-read-none place condition first second e = ap (λ (other : Option (Box Stmt Global)). names_read_of (statements.If place condition first other)) e

pub if-read-some : (place : Place) (condition : Expr) (first other : Box Stmt Global) (second : Option (Box Stmt Global)) → second ≡ Some other
    → names_read_of (statements.If place condition first second) ≡ names_of_expr condition ++ (names_read_of first.value ++ names_read_of other.value)
if-read-some place condition first other second e = ap (λ (o : Option (Box Stmt Global)). names_read_of (statements.If place condition first o)) e

pub if-assigned-some : (place : Place) (condition : Expr) (first other : Box Stmt Global) (second : Option (Box Stmt Global)) → second ≡ Some other
    → assigned_names_of (statements.If place condition first second) ≡ assigned_names_of first.value ++ assigned_names_of other.value
if-assigned-some place condition first other second e =
    ap (λ (o : Option (Box Stmt Global)). assigned_names_of (statements.If place condition first o)) e
    ∙ map-append (λ (n : NamedPlace). n.name) (assigned_names (statement_of first.value)) (assigned_names (statement_of other.value))

pub block-flags : (targets : List Identifier) (flags : List Bool) (place : Place) (body : Vec Stmt Global) →
    flags_after targets flags (statement_of (statements.Block place body)) ≡ all_flags_after targets flags (statements_of body.items)
block-flags targets flags place body = ap (flags_after targets flags) (statement_of-Block place body)

pub case-flags : (targets : List Identifier) (flags : List Bool) (place : Place) (kind : CaseKind) (value : Expr) (items : Vec CaseItem Global)
    → flags_after targets flags (statement_of (statements.Case place kind value items)) ≡ flags_after_case targets flags value items.items
case-flags targets flags place kind value items =
    ap (flags_after targets flags) (statement_of-Case place kind value items)
    ∙ ap (λ names. flags_where (all_flagged targets flags (names_of_expr value ++ names)) (items_flags_after targets flags (unmatched_flags (has_default (case_items_of items.items)) flags)
    (case_items_of items.items))) (labels-listed items.items)

-- the names that an assignment needs, by the selects of its target
pub needed-listed : (target : Target) (value : Expr) (selects : List Select) → map select_of selects ≡ selects_of (target_of target)
    → names_needed (target_of target) (expression_of value) ≡ flat_map index_names_of_select selects ++ (names_of_expr value ++ flat_map part_names_of selects)
needed-listed target value selects e =
    ap₂ (λ indexes parts. indexes ++ (names_of_expr value ++ parts))
    (sym (ap (flat_map (λ (s : SourceSelect). names_in_index s.index)) e) ∙ index-names-listed selects)
    (sym (ap (λ (ss : List SourceSelect). map (λ (s : SourceSelect). s.name) (filter (λ s. not (is_whole_select s)) ss)) e) ∙ part-select-names-listed selects)

pub whole-listed : (target : Target) (selects : List Select) → map select_of selects ≡ selects_of (target_of target) → flat_map whole_names_of selects ≡ whole_names (target_of target)
whole-listed target selects e = sym (whole-names-listed selects) ∙ ap (λ (ss : List SourceSelect). map (λ (s : SourceSelect). s.name) (filter is_whole_select ss)) e

pub where-true : (test : Bool) (flags : Option (List Bool)) → test ≡ true → flags_where test flags ≡ flags
where-true true flags e = refl
where-true false flags e = cc

pub where-false : (test : Bool) (flags : Option (List Bool)) → test ≡ false → flags_where test flags ≡ None
where-false true flags e = cc
where-false false flags e = refl

-- a case on whose paths a target is read before it is assigned
pub case-refused : (targets : List Identifier) (flags : List Bool) (place : Place) (kind : CaseKind) (value : Expr) (items : Vec CaseItem Global) (test : Bool) (flags' : List Bool)
    (items' : List CaseItem)
    → test ≡ all_flagged targets flags' (names_of_expr value ++ flat_map label_names_of_item items') → flags' ≡ flags → items' ≡ items.items → test ≡ false
    → None ≡ flags_after targets flags (statement_of (statements.Case place kind value items))
case-refused targets flags place kind value items test flags' items' e f i fails =
    sym (case-flags targets flags place kind value items
    ∙ where-false (all_flagged targets flags (names_of_expr value ++ flat_map label_names_of_item items.items))
    (items_flags_after targets flags (unmatched_flags (has_default (case_items_of items.items)) flags) (case_items_of items.items))
    (sym (e ∙ ap₂ (λ fs is. all_flagged targets fs (names_of_expr value ++ flat_map label_names_of_item is)) f i) ∙ fails))

pub case-followed : (targets : List Identifier) (flags : List Bool) (place : Place) (kind : CaseKind) (value : Expr) (items : Vec CaseItem Global) (test : Bool) (flags' : List Bool)
    (items' : List CaseItem) (met : List Bool) (after : Option (List Bool))
    → test ≡ all_flagged targets flags' (names_of_expr value ++ flat_map label_names_of_item items') → flags' ≡ flags → items' ≡ items.items → test ≡ true
    → met ≡ unmatched_flags (has_default (case_items_of items.items)) flags → after ≡ items_flags_after targets flags met (case_items_of items.items)
    → after ≡ flags_after targets flags (statement_of (statements.Case place kind value items))
case-followed targets flags place kind value items test flags' items' met after e f i holds m n =
    n ∙ ap (λ now. items_flags_after targets flags now (case_items_of items.items)) m
    ∙ sym (case-flags targets flags place kind value items
    ∙ where-true (all_flagged targets flags (names_of_expr value ++ flat_map label_names_of_item items.items))
    (items_flags_after targets flags (unmatched_flags (has_default (case_items_of items.items)) flags) (case_items_of items.items))
    (sym (e ∙ ap₂ (λ fs is. all_flagged targets fs (names_of_expr value ++ flat_map label_names_of_item is)) f i) ∙ holds))
