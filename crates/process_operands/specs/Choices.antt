-- The statement that a case goes on with, by the number of its item (IEEE 1364-2001, clause 9.5).
use Rattle.std.specs.Prelude.{ℕ, zero, suc, Bool, true, false, Option, Some, None}
use Rattle.v_design.specs.Trees.{Statement, CaseItems, no_items, more_items}

-- the statement of an item, else the default
abbrev pub chosen_by : CaseItems → Statement → Option ℕ → Statement
chosen_by items default None = default
chosen_by no_items default (Some number) = default
chosen_by (more_items labels statement rest) default (Some zero) = statement
chosen_by (more_items labels statement rest) default (Some (suc number)) = chosen_by rest default (Some number)

-- the statement of the item that is chosen already, else that which is chosen later
abbrev pub chosen_or : CaseItems → Statement → Option ℕ → Statement → Statement
chosen_or items default None otherwise = otherwise
chosen_or items default (Some number) otherwise = chosen_by items default (Some number)

-- what is chosen after one item more
abbrev pub choice_after : Option ℕ → Bool → ℕ → Option ℕ
choice_after (Some earlier) matches number = Some earlier
choice_after None true number = Some number
choice_after None false number = None
