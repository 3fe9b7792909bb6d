-- The writes of some events, numbered through, and what an object holds by them (events and their accesses by IEEE 1364-2001, clause 5).
use Rattle.std.specs.Prelude.{ℕ, ◌+◌, ◌&&◌, List, [], ◌∷◌, ◌++◌, nat_eq, nat_lt, if◌then◌else◌}
use Rattle.vf_base.specs.Base.{object_number}
use Rattle.four_value.specs.Values.{LogicValue}
use Rattle.v_design.specs.Accesses.{AccessAct, Reading, Writing, Awaiting, Ending, Holding, Settling, ObjectAccess}
use Rattle.trace_window.specs.declared.change.Change.{Change}

-- a value that an object got by the event of a moment
pub record Written : Type 0 where
  pub moment : ℕ
  pub object : ℕ
  pub value : LogicValue

-- what the code's type says
abbrev pub written_of : Change → Written
written_of change = record { moment = change.moment; object = object_number change.object; value = change.value }

-- what an access writes, before other writes
abbrev pub write_before : ℕ → ℕ → AccessAct → List Written → List Written
write_before moment object Reading rest = rest
write_before moment object (Writing old new) rest = record { moment = moment; object = object; value = new } ∷ rest
write_before moment object (Awaiting entry) rest = rest
write_before moment object (Ending entry) rest = rest
write_before moment object (Holding entry) rest = rest
write_before moment object Settling rest = rest

-- the writes among the accesses of an event
abbrev pub writes_in : ℕ → List ObjectAccess → List Written
writes_in moment [] = []
writes_in moment (access ∷ rest) = write_before moment access.object access.act (writes_in moment rest)

-- the writes among the accesses of some events, the first of which has a number
abbrev pub writes_from : ℕ → List (List ObjectAccess) → List Written
writes_from number [] = []
writes_from number (accesses ∷ rest) = writes_in number accesses ++ writes_from (number + 1) rest

-- a value, and in its place that of a write where it is of the object and comes before a moment
abbrev pub value_or : LogicValue → ℕ → ℕ → Written → LogicValue
value_or value object moment write = if nat_eq write.object object && nat_lt write.moment moment then write.value else value

-- what an object holds before the event of a moment by some writes, where it begins with a value
abbrev pub latest : LogicValue → ℕ → ℕ → List Written → LogicValue
latest value object moment [] = value
latest value object moment (write ∷ rest) = latest (value_or value object moment write) object moment rest
