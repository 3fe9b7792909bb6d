-- What is wrong with a part of the code's tree that has no name of its own in the plain tree.
use Rattle.std.specs.Prelude.{List, ◌++◌}
use Rattle.v_tree.specs.Views.{expressions_of, statement_of}
use Rattle.v_tree.specs.declared.statement.CaseItem.{CaseItem}
use Rattle.v_tree.specs.declared.statement.CaseItem.TheVariants.{Labelled, Default}
use Rattle.v_names.specs.Faults.{Fault}
use Rattle.v_names.specs.Scopes.{Scope}
use Rattle.v_names.specs.Constants.{part_faults}
use Rattle.v_names.specs.Names.{statement_name_faults}

-- what is wrong with the names of an item of a case
abbrev pub case_item_faults : Scope → CaseItem → List Fault
case_item_faults scope (Labelled labels statement) = part_faults scope (expressions_of labels) ++ statement_name_faults scope (statement_of statement)
case_item_faults scope (Default statement) = statement_name_faults scope (statement_of statement)
