use Rattle.std.proofs.Common.{◌≡◌, ◌*◌, ◌+◌, drop}
use Rattle.v_design.specs.Plain.{statement_of}
use Rattle.v_design.specs.PlainLemmas.{statements_of}
use Rattle.v_design.specs.Trees.{Block}
use Rattle.v_design.specs.Sized.{levels_of_statement, levels_of_statements}
use Rattle.v_design.specs.Assignments.{run_statements}
use Rattle.node_eval.specs.Overlaid.{overlaid}
use Rattle.node_eval.specs.Running.{MayRun}
use Rattle.node_eval.proofs.run.+run.Given as goal

abbrev pub invariant-run_all-statements : goal.invariant-run_all-statements
invariant-run_all-statements g l =
    record {
      may : MayRun (overlaid l.frame.outputs.now l.held (g.V.Values.values l.frame.values.now)) l.frame.outputs.now (Block (statements_of l.statements));
      ran : run_statements (statements_of (drop l.statement-index l.statements)) (overlaid l.frame.outputs.now l.held (g.V.Values.values l.frame.values.now))
          ≡ run_statements (statements_of l.statements) (overlaid l.frame.outputs.now l.fn.held (g.V.Values.values l.frame.values.now));
    }

abbrev pub decreases-run : goal.decreases-run
decreases-run g l = 2 * levels_of_statement (statement_of l.statement.now)

abbrev pub decreases-run_all : goal.decreases-run_all
decreases-run_all g l = 2 * levels_of_statements (statements_of l.statements.now) + 1
