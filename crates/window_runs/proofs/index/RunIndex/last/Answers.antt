use Rattle.std.proofs.Common.{◌-◌, length, ap, ◌∙◌}
use Rattle.std.specs.Prelude.{slice_get}
use Rattle.vf_base.specs.Base.{process_number}
use Rattle.window_runs.specs.RunsByProcess.{runs_of_process}
use Rattle.window_runs.proofs.Finding.{own-long}
use Rattle.window_runs.proofs.index.RunIndex.last.Goals as goal

pub returns : goal.returns
returns c =
    let own = runs_of_process (process_number c.args.process) c.args.runs.now in
    let long = own-long c.args.runs.now c.args.self.now (length c.args.self.now.phases) (process_number c.args.process) c.moments-count.result.now c.requires.index c.requires.process
    c.moments-count.ensures.moments in
    c.run_at.ensures ∙ ap (λ n. slice_get own n) (c.saturating_sub.ensures ∙ ap (λ n. n - 1) long)
