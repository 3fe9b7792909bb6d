use Rattle.std.proofs.Common.{length, ap, sym, ◌∙◌, arith}
use Rattle.vf_base.specs.Base.{process_number}
use Rattle.window_runs.specs.RunsByProcess.{only_at}
use Rattle.window_runs.proofs.Finding.{run-found}
use Rattle.window_runs.proofs.index.RunIndex.run.Goals as goal

pub returns : goal.returns
returns c =
    c.only_in.ensures ∙ ap (only_at c.args.phase) c.run_at-found.ensures
    ∙ sym (run-found c.args.runs.now c.args.self.now (length c.args.self.now.phases) (process_number c.args.process) c.args.phase c.count_before-before.result c.args.number c.requires.index
    c.requires.process
    c.count_before-before.ensures.before c.count_before-before.ensures.behind)

pub overflow_add-before : goal.overflow_add-before
overflow_add-before c = omega (arith, c.count_before-before.ensures.few, c.ranges.number.fits)
