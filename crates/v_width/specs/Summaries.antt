-- What is wrong with expressions that are sized together, as far as the first fault of them can be told later. (Own: IEEE 1364-2001 names no order of errors.)
use Rattle.std.specs.Prelude.{◌≡◌, Bool, true, false, not, List, [], ◌∷◌, ◌++◌, filter, Option, option_map}
use Rattle.std.specs.List.{list_any}
use Rattle.v_names.specs.Faults.{Fault, first_fault}
use Rattle.v_names.specs.FaultViews.{fault_of}
use Rattle.v_names.specs.FaultLaws.{first_of}
use Rattle.v_names.specs.Readings.{is_wrong_kind, is_bad_width}
use Rattle.v_names.specs.declared.found.Found.{Found}
use Rattle.v_width.specs.declared.faults.Faults.{Faults}

abbrev pub found_fault : Option Found → Option Fault
found_fault found = option_map fault_of found

-- the faults that are no bad width
abbrev pub others : List Fault → List Fault
others faults = filter (λ fault. not (is_bad_width fault)) faults

-- the first of the faults of a group's own sizes, the first of them that is no bad width, the first of those of the parts that are sized apart, and whether a name is of the wrong kind
pub record AreFaults (here inside : List Fault) (faults : Faults) : Type 0 where
  pub all_is : found_fault faults.all ≡ first_fault here
  pub other_is : found_fault faults.other ≡ first_fault (others here)
  pub inside_is : found_fault faults.inside ≡ first_fault inside
  pub wrong_is : faults.wrong_kind ≡ list_any is_wrong_kind (here ++ inside)

-- the first fault of a group from those: no width is bad where a name is of the wrong kind
abbrev pub first_of_group : Bool → Option Fault → Option Fault → Option Fault → Option Fault
first_of_group true all other inside = first_of other inside
first_of_group false all other inside = first_of all inside
