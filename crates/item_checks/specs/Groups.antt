-- Groups of expressions that are sized together, as they grow.
use Rattle.std.specs.Prelude.{List, [], ◌++◌}
use Rattle.v_tree.specs.Trees.{SourceExpressions}
use Rattle.v_tree.specs.Views.{expressions_of, case_items_of}
use Rattle.v_tree.specs.declared.statement.CaseItem.{CaseItem}
use Rattle.v_tree.specs.declared.statement.CaseItem.TheVariants.{Labelled, Default}
use Rattle.v_names.specs.Faults.{Fault}
use Rattle.v_names.specs.Scopes.{Scope}
use Rattle.v_names.specs.Readings.{Reading}
use Rattle.v_width.specs.Summaries.{AreFaults}
use Rattle.v_width.specs.declared.faults.Faults.{Faults}
use Rattle.v_elab.specs.ItemFaults.{GroupFaults, labels_faults}

abbrev pub no_group : GroupFaults
no_group = record { here = []; inside = [] }

-- a group and another behind it
abbrev pub joined_groups : GroupFaults → GroupFaults → GroupFaults
joined_groups one other = record { here = one.here ++ other.here; inside = one.inside ++ other.inside }

-- an expression alone
abbrev pub group_of : Reading → GroupFaults
group_of reading = record { here = reading.here; inside = reading.inside }

-- some labels alone
abbrev pub labels_group : Scope → SourceExpressions → GroupFaults
labels_group scope labels = labels_faults scope labels no_group

-- the labels of an item of a case
abbrev pub item_group : Scope → CaseItem → GroupFaults
item_group scope (Labelled labels statement) = labels_group scope (expressions_of labels)
item_group scope (Default statement) = no_group

-- what is kept of a group after more is put behind it
pub record Grows (more : GroupFaults) (old new : Faults) : Type 0 where
  pub grows : (here inside : List Fault) → AreFaults here inside old → AreFaults (here ++ more.here) (inside ++ more.inside) new
