-- The statements with a condition and a body.
use Rattle.v_tree.specs.Trees.{WhileStatement, RepeatStatement, WaitStatement}
use Rattle.v_stmt.specs.declared.pieces.LoopKind.{LoopKind}
use Rattle.v_stmt.specs.declared.pieces.LoopKind.TheVariants.{While, Repeat, Wait}
use Rattle.v_stmt.specs.Statements.{Looping}

abbrev pub looping_of : LoopKind → Looping
looping_of While = WhileStatement
looping_of Repeat = RepeatStatement
looping_of Wait = WaitStatement
