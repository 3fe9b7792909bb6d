-- The names of the trees of the code, as lists that are joined (nothing of the language).
use Rattle.std.specs.Prelude.{ℕ, Bool, true, false, not, Option, List, [], ◌∷◌, ◌++◌, map, flat_map}
use Rattle.std.specs.Borrow.{Bor}
use Rattle.v_tree.specs.Trees.{Identifier, NamedPlace, names_in, names_in_index}
use Rattle.v_tree.specs.Views.{case_items_of, expression_of, index_of, select_of, target_of, statement_of}
use Rattle.v_tree.specs.declared.expression.Expr.{Expr}
use Rattle.v_tree.specs.declared.expression.Select.{Select}
use Rattle.v_tree.specs.declared.expression.Target.{Target}
use Rattle.v_tree.specs.declared.statement.Stmt.{Stmt}
use Rattle.v_tree.specs.declared.statement.CaseItem.{CaseItem}
use Rattle.v_tree.specs.declared.statement.CaseItem.TheVariants.{Labelled, Default}
use Rattle.v_comb.specs.CombinationalForm.{target_names, assigned_names, names_read, is_whole_select}
use Rattle.v_comb.specs.Flags.{all_flagged, flags_where, has_default, unmatched_flags, flags_after, items_flags_after}

-- the names that a list refers to
abbrev pub listed : List (Bor (List ℕ)) → List Identifier
listed names = map (λ (n : Bor (List ℕ)). n.now) names

abbrev pub names_of_expr : Expr → List Identifier
names_of_expr e = names_in (expression_of e)

abbrev pub index_names_of_select : Select → List Identifier
index_names_of_select s = names_in_index (index_of s.index)

abbrev pub select_name : Select → List Identifier
select_name s = s.name ∷ []

abbrev pub name_where : Bool → Identifier → List Identifier
name_where true name = name ∷ []
name_where false name = []

-- the name of a select, where it is assigned whole
abbrev pub whole_names_of : Select → List Identifier
whole_names_of s = name_where (is_whole_select (select_of s)) s.name

-- the name of a select, where it is assigned in part
abbrev pub part_names_of : Select → List Identifier
part_names_of s = name_where (not (is_whole_select (select_of s))) s.name

-- the names that stand at some places
abbrev pub only_names : List NamedPlace → List Identifier
only_names named = map (λ (n : NamedPlace). n.name) named

abbrev pub target_names_of : Target → List Identifier
target_names_of t = only_names (target_names (target_of t))

abbrev pub assigned_names_of : Stmt → List Identifier
assigned_names_of s = only_names (assigned_names (statement_of s))

abbrev pub assigned_names_of_item : CaseItem → List Identifier
assigned_names_of_item (Labelled labels statement) = assigned_names_of statement
assigned_names_of_item (Default statement) = assigned_names_of statement

abbrev pub names_read_of : Stmt → List Identifier
names_read_of s = names_read (statement_of s)

abbrev pub label_names_of_item : CaseItem → List Identifier
label_names_of_item (Labelled labels statement) = flat_map names_of_expr labels
label_names_of_item (Default statement) = []

abbrev pub names_read_of_item : CaseItem → List Identifier
names_read_of_item (Labelled labels statement) = flat_map names_of_expr labels ++ names_read_of statement
names_read_of_item (Default statement) = names_read_of statement

abbrev pub flags_after_item : List Identifier → List Bool → CaseItem → Option (List Bool)
flags_after_item targets flags (Labelled labels statement) = flags_after targets flags (statement_of statement)
flags_after_item targets flags (Default statement) = flags_after targets flags (statement_of statement)

abbrev pub flags_after_case : List Identifier → List Bool → Expr → List CaseItem → Option (List Bool)
flags_after_case targets flags value items =
    flags_where (all_flagged targets flags (names_of_expr value ++ flat_map label_names_of_item items))
    (items_flags_after targets flags (unmatched_flags (has_default (case_items_of items)) flags) (case_items_of items))
