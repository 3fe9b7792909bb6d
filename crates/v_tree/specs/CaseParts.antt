-- An item of a case by itself.
use Rattle.std.specs.Prelude.{List, map, Option, Some, None}
use Rattle.v_tree.specs.Trees.{SourceExpression, SourceStatement}
use Rattle.v_tree.specs.Views.{expression_of, statement_of}
use Rattle.v_tree.specs.declared.statement.CaseItem.{CaseItem}
use Rattle.v_tree.specs.declared.statement.CaseItem.TheVariants.{Labelled, Default}

-- the labels, if it isn't the default, and the statement
abbrev pub case_part_of : CaseItem → Option (List SourceExpression) × SourceStatement
case_part_of (Labelled labels statement) = (Some (map expression_of labels), statement_of statement)
case_part_of (Default statement) = (None, statement_of statement)
