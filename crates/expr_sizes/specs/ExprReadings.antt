-- What the code keeps of an expression that it has read (IEEE 1364-2001, clauses 4.4 and 4.5).
use Rattle.std.specs.Prelude.{◌≡◌, ℕ, Bool, false, Option, option_map}
use Rattle.four_value.specs.declared.operator.BinaryOperator.{BinaryOperator}
use Rattle.v_names.specs.declared.size.Size.{Size}
use Rattle.v_names.specs.Readings.{Reading}
use Rattle.v_names.specs.SizedTrees.{SizedExpression, SizedBinary}
use Rattle.v_names.specs.SizeViews.{size_of}
use Rattle.v_width.specs.Summaries.{AreFaults}
use Rattle.v_width.specs.declared.faults.Faults.{Faults}
use Rattle.v_width.specs.declared.expression.SizedExpr.{SizedExpr}
use Rattle.v_width.specs.Resized.{with_size}
use Rattle.v_width.specs.SizedViews.{sized_of}
use Rattle.expr_sizes.specs.declared.reading.ExprReading.{ExprReading}

-- at each size the tree is what is wanted at that size
abbrev pub IsTree : (ℕ → Bool → SizedExpression) → SizedExpr → Type 0
IsTree at tree = (width : ℕ) (signed : Bool) → with_size (sized_of tree) width signed ≡ at width signed

-- the size of a reading, what is wrong with it, and its tree
pub record IsReading (reading : Reading) (read : ExprReading) : Type 0 where
  pub size_is : option_map size_of read.size ≡ reading.size
  pub faults_are : AreFaults reading.here reading.inside read.faults
  pub tree_is : IsTree reading.tree read.tree

-- an operator's answer over two trees
pub record IsInfixed (operator : BinaryOperator) (size : Option Size) (faults : Faults) (left right : SizedExpr) (read : ExprReading) : Type 0 where
  pub size_is : read.size ≡ size
  pub faults_are : read.faults ≡ faults
  pub tree_is : sized_of read.tree ≡ SizedBinary 1 false operator (sized_of left) (sized_of right)
