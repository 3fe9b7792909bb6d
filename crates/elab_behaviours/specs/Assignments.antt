-- The names that statements of the code assign, with their places (nothing of the language).
use Rattle.std.specs.Prelude.{ℕ, List, map}
use Rattle.vf_base.specs.Base.{source_place}
use Rattle.vf_base.specs.declared.ids.Place.{Place}
use Rattle.key_index.specs.Groups.{keyed_of}
use Rattle.key_index.specs.declared.grouped.Keyed.{Keyed}
use Rattle.v_tree.specs.Trees.{NamedPlace}
use Rattle.v_tree.specs.Views.{target_of, statement_of}
use Rattle.v_tree.specs.declared.expression.Select.{Select}
use Rattle.v_tree.specs.declared.expression.Target.{Target}
use Rattle.v_tree.specs.declared.statement.Stmt.{Stmt}
use Rattle.v_tree.specs.declared.statement.CaseItem.{CaseItem}
use Rattle.v_tree.specs.declared.statement.CaseItem.TheVariants.{Labelled, Default}
use Rattle.v_comb.specs.CombinationalForm.{target_names, assigned_names}

-- a name with the place where it is assigned
abbrev pub assignment_of : List ℕ × Place → NamedPlace
assignment_of p = record { name = p.0; place = source_place p.1 }

abbrev pub assignments_listed : List (Keyed Place) → List NamedPlace
assignments_listed names = map assignment_of (map keyed_of names)

abbrev pub select_assigned : Select → NamedPlace
select_assigned s = record { name = s.name; place = source_place s.place }

abbrev pub target_assigned : Target → List NamedPlace
target_assigned t = target_names (target_of t)

abbrev pub statement_assigned : Stmt → List NamedPlace
statement_assigned s = assigned_names (statement_of s)

abbrev pub item_assigned : CaseItem → List NamedPlace
item_assigned (Labelled labels statement) = statement_assigned statement
item_assigned (Default statement) = statement_assigned statement
