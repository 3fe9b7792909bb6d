-- Lists of names of lists of trees.
use Rattle.std.proofs.Common.{◌≡◌, ℕ, Bool, true, false, ◌||◌, not, List, [], ◌∷◌, ◌++◌, map, filter, flat_map, refl, sym, ap, ap₂, ◌∙◌, append_assoc, Global}
use Rattle.std.proofs.lemmas.List.{map-append}
use Rattle.std.specs.declared.vec.Vec.{Vec}
use Rattle.v_tree.specs.Trees.{Identifier, SourceSelect, has_name, named_in, named_in_parts, names_in_parts, names_in_index, NamedPlace}
use Rattle.v_tree.specs.Views.{expression_of, expressions_of, select_of, statement_of, statements_of, case_items_of, target_of}
use Rattle.v_tree.specs.declared.expression.Expr.{Expr}
use Rattle.v_tree.specs.declared.expression.Select.{Select}
use Rattle.v_tree.specs.declared.statement.Stmt.{Stmt}
use Rattle.v_tree.specs.declared.statement.CaseItem.{CaseItem}
use Rattle.v_tree.specs.declared.statement.CaseItem.TheVariants.{Labelled, Default}
use Rattle.v_tree.specs.Trees.{selects_of}
use Rattle.v_tree.specs.declared.expression.Target.{Target}
use Rattle.v_comb.specs.CombinationalForm.{target_names, target_index_names, whole_names, part_names, is_whole_select, assigned_names, all_assigned_names, items_assigned_names, names_read}
use Rattle.v_comb.specs.CombinationalForm.{all_names_read, items_names_read, labels_names, each_once, fresh_name}
use Rattle.v_comb.specs.Flags.{has_default, items_flags_after}
use Rattle.v_comb.specs.Occurrences.{names_of_expr, index_names_of_select, select_name, only_names, name_where, whole_names_of, part_names_of, assigned_names_of, assigned_names_of_item}
use Rattle.v_comb.specs.Occurrences.{names_read_of, names_read_of_item, label_names_of_item}

-- the names in some expressions
pub part-names-listed : (parts : List Expr) → names_in_parts (expressions_of parts) ≡ flat_map names_of_expr parts
part-names-listed [] = refl
part-names-listed (part ∷ parts) =
    map-append (λ (n : NamedPlace). n.name) (named_in (expression_of part)) (named_in_parts (expressions_of parts)) ∙ ap (λ rest. names_of_expr part ++ rest) (part-names-listed parts)

-- the names that some selects are of
pub select-names-listed : (selects : List Select) → map (λ (n : NamedPlace). n.name) (map (λ (s : SourceSelect). record { name = s.name; place = s.place }) (map select_of selects)) ≡ flat_map
    select_name selects
select-names-listed [] = refl
select-names-listed (select ∷ selects) = ap (λ rest. select.name ∷ rest) (select-names-listed selects)

-- the names in the brackets of some selects
pub index-names-listed : (selects : List Select) → flat_map (λ (s : SourceSelect). names_in_index s.index) (map select_of selects) ≡ flat_map index_names_of_select selects
index-names-listed [] = refl
index-names-listed (select ∷ selects) = ap (λ rest. index_names_of_select select ++ rest) (index-names-listed selects)

-- the names that a target assigns whole, and those that it assigns in part
whole-by : (b : Bool) (select : SourceSelect) (names : List Identifier) (selects : List SourceSelect)
    → map (λ (s : SourceSelect). s.name) (filter is_whole_select selects) ≡ names → is_whole_select select ≡ b
    → map (λ (s : SourceSelect). s.name) (filter is_whole_select (select ∷ selects)) ≡ name_where b select.name ++ names
whole-by true select names selects e w = rw w (ap (λ rest. select.name ∷ rest) e)
whole-by false select names selects e w = rw w e

pub whole-names-listed : (selects : List Select) → map (λ (s : SourceSelect). s.name) (filter is_whole_select (map select_of selects)) ≡ flat_map whole_names_of selects
whole-names-listed [] = refl
whole-names-listed (select ∷ selects) =
    whole-by (is_whole_select (select_of select)) (select_of select) (flat_map whole_names_of selects) (map select_of selects) (whole-names-listed selects) refl

part-by : (b : Bool) (select : SourceSelect) (names : List Identifier) (selects : List SourceSelect)
    → map (λ (s : SourceSelect). s.name) (filter (λ s. not (is_whole_select s)) selects) ≡ names → is_whole_select select ≡ b
    → map (λ (s : SourceSelect). s.name) (filter (λ s. not (is_whole_select s)) (select ∷ selects)) ≡ name_where (not b) select.name ++ names
part-by true select names selects e w = rw w e
part-by false select names selects e w = rw w (ap (λ rest. select.name ∷ rest) e)

pub part-select-names-listed : (selects : List Select) → map (λ (s : SourceSelect). s.name) (filter (λ s. not (is_whole_select s)) (map select_of selects)) ≡ flat_map part_names_of selects
part-select-names-listed [] = refl
part-select-names-listed (select ∷ selects) =
    part-by (is_whole_select (select_of select)) (select_of select) (flat_map part_names_of selects) (map select_of selects) (part-select-names-listed selects) refl

-- the names that some statements assign
pub all-assigned-listed : (statements : List Stmt) → only_names (all_assigned_names (statements_of statements)) ≡ flat_map assigned_names_of statements
all-assigned-listed [] = refl
all-assigned-listed (stmt ∷ statements) =
    map-append (λ (n : NamedPlace). n.name) (assigned_names (statement_of stmt)) (all_assigned_names (statements_of statements))
    ∙ ap (λ rest. assigned_names_of stmt ++ rest) (all-assigned-listed statements)

pub items-assigned-listed : (items : List CaseItem) → only_names (items_assigned_names (case_items_of items)) ≡ flat_map assigned_names_of_item items
items-assigned-listed [] = refl
items-assigned-listed (Labelled labels stmt ∷ items) =
    map-append (λ (n : NamedPlace). n.name) (assigned_names (statement_of stmt)) (items_assigned_names (case_items_of items))
    ∙ ap (λ rest. assigned_names_of stmt ++ rest) (items-assigned-listed items)
items-assigned-listed (Default stmt ∷ items) =
    map-append (λ (n : NamedPlace). n.name) (assigned_names (statement_of stmt)) (items_assigned_names (case_items_of items))
    ∙ ap (λ rest. assigned_names_of stmt ++ rest) (items-assigned-listed items)

-- the names that some statements read
pub all-read-listed : (statements : List Stmt) → all_names_read (statements_of statements) ≡ flat_map names_read_of statements
all-read-listed [] = refl
all-read-listed (stmt ∷ statements) = ap (λ rest. names_read_of stmt ++ rest) (all-read-listed statements)

pub items-read-listed : (items : List CaseItem) → items_names_read (case_items_of items) ≡ flat_map names_read_of_item items
items-read-listed [] = refl
items-read-listed (Labelled labels stmt ∷ items) =
    ap₂ (λ label_names rest. label_names ++ (names_read_of stmt ++ rest)) (part-names-listed labels) (items-read-listed items)
    ∙ sym (append_assoc (flat_map names_of_expr labels) (names_read_of stmt) (flat_map names_read_of_item items))
items-read-listed (Default stmt ∷ items) = ap (λ rest. names_read_of stmt ++ rest) (items-read-listed items)

pub labels-listed : (items : List CaseItem) → labels_names (case_items_of items) ≡ flat_map label_names_of_item items
labels-listed [] = refl
labels-listed (Labelled labels stmt ∷ items) = ap₂ (λ label_names rest. label_names ++ rest) (part-names-listed labels) (labels-listed items)
labels-listed (Default stmt ∷ items) = labels-listed items
