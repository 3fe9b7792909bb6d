-- The own values of a copy as they are held (nothing of the language).
use Rattle.std.specs.Prelude.{ℕ, List}
use Rattle.four_value.specs.Values.{LogicValue}
use Rattle.copy_state.specs.declared.by_object.HeldValues.{HeldValues}
use Rattle.copy_state.specs.declared.by_object.HeldValues.TheVariants.{Few, Many}

-- the entries of a list or of a table
abbrev pub entries_held : HeldValues → List (ℕ × LogicValue)
entries_held (Few few) = few
entries_held (Many table) = table
