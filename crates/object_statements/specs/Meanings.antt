-- What the names of a process mean, in the code and as plain data (nothing of the language).
use Rattle.std.specs.Prelude.{◌≡◌}
use Rattle.v_elab.specs.Statements as plain
use Rattle.object_names.specs.Instances.{HoldNames}
use Rattle.object_expr.specs.Meanings as expressions
use Rattle.object_statements.specs.declared.meaning.Meaning.{Meaning}

-- the plain scope, holders and widths that the code's stand for
pub record IsMeaning (plain : plain.Meaning) (code : Meaning) : Type 0 where
  pub scope_is : plain.scope ≡ code.scope.now
  pub names_are : HoldNames plain.holders code.names
  pub widths_are : plain.widths ≡ code.widths.now

-- what expressions need of it
pub names_meant : (plain : plain.Meaning) (code : Meaning) → IsMeaning plain code → expressions.IsMeaning plain code.scope.now code.names
names_meant plain code are = record { scope_is = are.scope_is; names_are = are.names_are }
