-- An item of a `case` by itself (IEEE 1364-2001, clause 9.5).
use Rattle.std.specs.Prelude.{ℕ, List, ◌++◌, Option}
use Rattle.v_names.specs.Readings.{Size}
use Rattle.v_names.specs.Scopes.{Scope}
use Rattle.v_tree.specs.Views.{expressions_of, statement_of}
use Rattle.v_tree.specs.declared.statement.CaseItem.{CaseItem}
use Rattle.v_tree.specs.declared.statement.CaseItem.TheVariants.{Labelled, Default}
use Rattle.v_design.specs.Trees.{CaseItems, no_items, more_items}
use Rattle.v_elab.specs.Statements.{Meaning, labels_in_text, read_in_text, labels_size, label_expressions, statement_over}

-- the objects that an item reads
abbrev pub item_read_in_text : Meaning → CaseItem → List ℕ
item_read_in_text meaning (Labelled labels statement) = labels_in_text meaning (expressions_of labels) ++ read_in_text meaning (statement_of statement)
item_read_in_text meaning (Default statement) = read_in_text meaning (statement_of statement)

-- the size of an item's labels together with another size
abbrev pub item_size : Scope → CaseItem → Option Size → Option Size
item_size scope (Labelled labels statement) size = labels_size scope (expressions_of labels) size
item_size scope (Default statement) size = size

-- an item with labels over objects before other items
abbrev pub item_over : Meaning → Option Size → CaseItem → CaseItems → CaseItems
item_over meaning size (Labelled labels statement) rest = more_items (label_expressions meaning size (expressions_of labels)) (statement_over meaning (statement_of statement)) rest
item_over meaning size (Default statement) rest = rest

-- items behind others
abbrev pub then_items : CaseItems → CaseItems → CaseItems
then_items no_items rest = rest
then_items (more_items labels statement items) rest = more_items labels statement (then_items items rest)
