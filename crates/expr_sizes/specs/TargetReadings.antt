-- What the code keeps of a target that it has read (IEEE 1364-2001, clause 6.1 for nets, clause 9.2 for variables).
use Rattle.std.specs.Prelude.{◌≡◌, List, ◌++◌, option_map}
use Rattle.v_names.specs.Faults.{Fault}
use Rattle.v_names.specs.SizeViews.{size_of}
use Rattle.v_width.specs.Summaries.{AreFaults}
use Rattle.v_width.specs.Targets as plain
use Rattle.expr_sizes.specs.PartReadings.{capped, total_before}
use Rattle.expr_sizes.specs.declared.answer.OwnReading.{OwnReading}
use Rattle.expr_sizes.specs.declared.target.Writer.{Writer}
use Rattle.expr_sizes.specs.declared.target.Writer.TheVariants.{Node, Process}
use Rattle.expr_sizes.specs.declared.target.TargetReading.{TargetReading}

abbrev pub writer_of : Writer → plain.Writer
writer_of Node = plain.ByNode
writer_of Process = plain.ByProcess

-- the width of a target, and what is wrong with it
pub record IsTargetReading (reading : plain.TargetReading) (read : TargetReading) : Type 0 where
  pub width_is : read.width ≡ reading.width
  pub faults_are : AreFaults reading.here reading.inside read.faults

-- the width and the faults of one select
pub record IsOneSelect (own : OwnReading) (read : TargetReading) : Type 0 where
  pub width_is : read.width ≡ plain.width_of_size (option_map size_of own.size)
  pub faults_are : read.faults ≡ own.faults

-- the selects of all that stand before the rest
pub record AreSelectsSo (whole rest : plain.TargetReading) (read : TargetReading) : Type 0 where
  pub here : List Fault
  pub inside : List Fault
  pub faults_are : AreFaults here inside read.faults
  pub here_is : whole.here ≡ here ++ rest.here
  pub inside_is : whole.inside ≡ inside ++ rest.inside
  pub total_is : option_map capped whole.width ≡ total_before read.width rest.width

-- all selects
pub record AreSelectsRead (whole : plain.TargetReading) (read : TargetReading) : Type 0 where
  pub faults_are : AreFaults whole.here whole.inside read.faults
  pub total_is : option_map capped whole.width ≡ option_map capped read.width
