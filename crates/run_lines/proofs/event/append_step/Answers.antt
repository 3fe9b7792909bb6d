-- A step goes on with the open line, or stands behind it.
use Rattle.std.proofs.Common.{subst}
use Rattle.cert_text.specs.Views.{run_line_said}
use Rattle.run_lines.specs.Open.{IsAfter}
use Rattle.cert_laws.specs.Replays.{StepsOf}
use Rattle.run_lines.proofs.Opened.{step-goes}
use Rattle.run_lines.proofs.event.append_step.Goals as goal

pub returns-clause-lines : goal.returns-clause-lines
returns-clause-lines c =
    step-goes c.args.out.now.items c.line_after.new.out.items (run_line_said c.args.last) (run_line_said c.in_ok-line.line) c.args.process
    (subst (λ longer. IsAfter c.args.out.now.items (run_line_said c.args.last) longer (StepsOf c.args.process 1) c.line_after.new.out.items (run_line_said c.in_ok-line.line))
    c.more_steps-longer.ensures c.in_ok-line.ensures)
