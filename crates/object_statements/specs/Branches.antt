-- The branches of an `if` by themselves (IEEE 1364-2001, clause 9.4).
use Rattle.std.specs.Prelude.{Option, Some, None}
use Rattle.std.specs.declared.alloc.Global.{Global}
use Rattle.std.specs.declared.boxed.Box.{Box}
use Rattle.v_tree.specs.Views.{statement_of}
use Rattle.v_tree.specs.declared.statement.Stmt.{Stmt}
use Rattle.v_design.specs.Trees.{Statement, Null}
use Rattle.v_elab.specs.Statements.{Meaning, statement_over}

-- the other branch of an `if` over objects, nothing where it has none
abbrev pub second_over : Meaning → Option (Box Stmt Global) → Statement
second_over meaning None = Null
second_over meaning (Some second) = statement_over meaning (statement_of second.value)
