-- What the calls answer of an expression's sizes (IEEE 1364-2001, clauses 4.4 and 4.5).
use Rattle.std.specs.Prelude.{◌≡◌, Result, Ok, Err, option_map}
use Rattle.v_names.specs.Faults.{Fault}
use Rattle.v_names.specs.FaultViews.{fault_of}
use Rattle.v_names.specs.Readings.{Reading}
use Rattle.v_names.specs.SizedTrees.{SizedExpression}
use Rattle.v_names.specs.SizeViews.{size_of}
use Rattle.v_width.specs.Summaries.{AreFaults}
use Rattle.v_width.specs.declared.expression.SizedExpr.{SizedExpr}
use Rattle.v_width.specs.SizedViews.{sized_of}
use Rattle.expr_sizes.specs.declared.answer.OwnReading.{OwnReading}
use Rattle.expr_sizes.specs.declared.answer.WidthFault.{WidthFault}
use Rattle.expr_sizes.specs.declared.answer.WidthFault.TheVariants.{Wrong, NoMemory}

-- the size of a reading, and what is wrong with it
pub record IsOwnReading (reading : Reading) (own : OwnReading) : Type 0 where
  pub size_is : option_map size_of own.size ≡ reading.size
  pub faults_are : AreFaults reading.here reading.inside own.faults

-- the tree or the fault that is wanted; for want of memory there is none
abbrev pub IsAnswer : Result SizedExpression Fault → Result SizedExpr WidthFault → Type 0
IsAnswer wanted (Ok tree) = wanted ≡ Ok (sized_of tree)
IsAnswer wanted (Err (Wrong found)) = wanted ≡ Err (fault_of found)
IsAnswer wanted (Err NoMemory) = Unit {0}
