-- The names that trees assign, with their places, and where a name is first assigned.
use Rattle.std.proofs.Common.{◌≡◌, ℕ, Bool, true, false, cond, List, [], ◌∷◌, ◌++◌, map, filter, flat_map, Option, Some, None, refl, sym, ap, ap₂, ◌∙◌, Global}
use Rattle.std.proofs.lemmas.List.{map_push}
use Rattle.std.specs.declared.vec.Vec.{Vec}
use Rattle.vf_base.specs.Base.{SourcePlace, source_place}
use Rattle.vf_base.specs.declared.ids.Place.{Place}
use Rattle.four_value.specs.declared.operator.CaseKind.{CaseKind}
use Rattle.key_index.specs.Groups.{keyed_of, item_if, items_under, first_of, first_under}
use Rattle.key_index.specs.declared.grouped.Keyed.{Keyed}
use Rattle.v_tree.specs.Trees.{Identifier, NamedPlace, SourceSelect, same_name}
use Rattle.v_tree.specs.Views.{select_of, statement_of, statements_of, case_items_of}
use Rattle.v_tree.specs.ViewLaws.{statement_of-Block, statement_of-Case}
use Rattle.v_tree.specs.declared.expression.Expr.{Expr}
use Rattle.v_tree.specs.declared.expression.Select.{Select}
use Rattle.v_tree.specs.declared.statement.Stmt.{Stmt}
use Rattle.v_tree.specs.declared.statement.Stmt.TheVariants as statements
use Rattle.v_tree.specs.declared.statement.CaseItem.{CaseItem}
use Rattle.v_tree.specs.declared.statement.CaseItem.TheVariants.{Labelled, Default}
use Rattle.v_comb.specs.CombinationalForm.{assigned_names, all_assigned_names, items_assigned_names}
use Rattle.v_elab.specs.Parts as plain
use Rattle.v_elab.specs.Drivers.{place_of_first, assigned_place}
use Rattle.elab_wires.specs.Keyed.{key-name}
use Rattle.elab_behaviours.specs.Assignments.{assignment_of, assignments_listed, select_assigned, statement_assigned, item_assigned}

-- Trees that are built of lists

pub selects-assigned : (selects : List Select) → map (λ (s : SourceSelect). record { name = s.name; place = s.place }) (map select_of selects) ≡ map select_assigned selects
selects-assigned [] = refl
selects-assigned (select ∷ selects) = ap (λ rest. select_assigned select ∷ rest) (selects-assigned selects)

all-assigned : (body : List Stmt) → all_assigned_names (statements_of body) ≡ flat_map statement_assigned body
all-assigned [] = refl
all-assigned (stmt ∷ body) = ap (λ rest. statement_assigned stmt ++ rest) (all-assigned body)

items-assigned : (items : List CaseItem) → items_assigned_names (case_items_of items) ≡ flat_map item_assigned items
items-assigned [] = refl
items-assigned (Labelled labels statement ∷ items) = ap (λ rest. statement_assigned statement ++ rest) (items-assigned items)
items-assigned (Default statement ∷ items) = ap (λ rest. statement_assigned statement ++ rest) (items-assigned items)

pub block-assigned : (place : Place) (body : Vec Stmt Global) → statement_assigned (statements.Block place body) ≡ flat_map statement_assigned body.items
block-assigned place body = ap assigned_names (statement_of-Block place body) ∙ all-assigned body.items

pub case-assigned : (place : Place) (kind : CaseKind) (value : Expr) (items : Vec CaseItem Global) → statement_assigned (statements.Case place kind value items) ≡ flat_map item_assigned items.items
case-assigned place kind value items = ap assigned_names (statement_of-Case place kind value items) ∙ items-assigned items.items

-- one name more
pub assigned-push : (old new : List (Keyed Place)) (k : Keyed Place) (n : NamedPlace) → new ≡ old ++ k ∷ [] → k.key.now ≡ n.name → source_place k.item ≡ n.place →
    assignments_listed new ≡ assignments_listed old ++ n ∷ []
assigned-push old new k n pushed name place =
    ap (map assignment_of) (ap (map keyed_of) pushed ∙ map_push keyed_of old k) ∙ map_push assignment_of (map keyed_of old) (keyed_of k)
    ∙ ap₂ (λ (a : Identifier) (p : SourcePlace). assignments_listed old ++ record { name = a; place = p } ∷ []) name place

-- First places

abbrev pub place_or : SourcePlace → Option Place → SourcePlace
place_or default None = default
place_or default (Some place) = source_place place

first-assigned : (places : List (List ℕ × Place)) (default : SourcePlace) (name : Identifier) →
    place_or default (first_under places name) ≡ place_of_first default (filter (λ (n : NamedPlace). same_name n.name name) (map assignment_of places))
first-assigned [] default name = refl
first-assigned (p ∷ places) default name =
    ap (λ t. place_or default (first_of (item_if t p.1 (items_under places name)))) (key-name name p.0) ∙ by_test (same_name p.0 name) (first-assigned places default name)
  where
    by_test : (test : Bool) → place_or default (first_under places name) ≡ place_of_first default (filter (λ (n : NamedPlace). same_name n.name name) (map assignment_of places)) →
        place_or default (first_of (item_if test p.1 (items_under places name)))
        ≡ place_of_first default (cond test (assignment_of p ∷ filter (λ (n : NamedPlace). same_name n.name name) (map assignment_of places))
        (filter (λ (n : NamedPlace). same_name n.name name) (map assignment_of places)))
    by_test true e = refl
    by_test false e = e

pub place-found : (places : List (List ℕ × Place)) (process : plain.WalkedProcess) (name : Identifier) (found : Option Place) → map assignment_of places ≡ assigned_names process.body →
    found ≡ first_under places name →
    place_or process.place found ≡ assigned_place process name
place-found places process name found all e =
    ap (place_or process.place) e ∙ (first-assigned places process.place name ∙ ap (λ ns. place_of_first process.place (filter (λ (n : NamedPlace). same_name n.name name) ns)) all)
