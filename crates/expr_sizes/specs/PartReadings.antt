-- The parts of a concatenation as they are read, from the left (IEEE 1364-2001, clause 4.1.14).
use Rattle.std.specs.Prelude.{◌≡◌, ℕ, ◌+◌, min, Bool, true, false, List, [], ◌∷◌, ◌++◌, Option, Some, None, option_map}
use Rattle.vf_base.specs.Base.{SourcePlace}
use Rattle.v_names.specs.Faults.{BadWidth, Fault, fault_at}
use Rattle.v_names.specs.Readings.{Size, Reading, PartsReading, alone_faults}
use Rattle.v_width.specs.Summaries.{AreFaults}
use Rattle.v_width.specs.SizedViews.{all_sized_of}
use Rattle.v_width.specs.ViewLaws.{sized_append}
use Rattle.expr_sizes.specs.declared.parts.ReadParts.{ReadParts}

-- a width, where 129 stands for any that is larger: both are over the most
abbrev pub capped : ℕ → ℕ
capped width = min width 129

-- the width of some parts with one behind them
abbrev pub total_with : Option ℕ → Option Size → Option ℕ
total_with None size = None
total_with (Some total) None = None
total_with (Some total) (Some size) = Some (capped (total + size.width))

-- the width of some parts with the rest behind them
abbrev pub total_before : Option ℕ → Option ℕ → Option ℕ
total_before None rest = None
total_before (Some total) None = None
total_before (Some total) (Some rest) = Some (capped (total + rest))

-- the size of a part; a number that doesn't say its size has none
abbrev pub size_of_part : Bool → Option Size → Option Size
size_of_part true size = None
size_of_part false size = size

-- what is wrong with a part
abbrev pub faults_of_part : Bool → SourcePlace → Reading → List Fault
faults_of_part true place reading = fault_at place BadWidth ∷ []
faults_of_part false place reading = alone_faults reading

-- the parts of all that stand before the rest
pub record AreReadSo (whole rest : PartsReading) (read : ReadParts) : Type 0 where
  pub inside : List Fault
  pub faults_are : AreFaults [] inside read.faults
  pub inside_is : whole.inside ≡ inside ++ rest.inside
  pub total_is : option_map capped whole.width ≡ total_before read.total rest.width
  pub trees_are : whole.trees ≡ sized_append (all_sized_of read.trees.items) rest.trees

-- all parts
pub record ArePartsRead (parts : PartsReading) (read : ReadParts) : Type 0 where
  pub faults_are : AreFaults [] parts.inside read.faults
  pub total_is : option_map capped parts.width ≡ option_map capped read.total
  pub trees_are : parts.trees ≡ all_sized_of read.trees.items
