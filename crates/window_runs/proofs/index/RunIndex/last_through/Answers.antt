use Rattle.std.proofs.Common.{length, arith, ◌∙◌}
use Rattle.vf_base.specs.Base.{process_number}
use Rattle.window_runs.specs.RunsByProcess.{runs_of_process}
use Rattle.window_runs.specs.Through.{runs_through}
use Rattle.window_runs.proofs.Fronts.{own-front, own-within, last-front, no-front}
use Rattle.window_runs.proofs.index.RunIndex.last_through.Goals as goal

pub returns-then-count-eq0 : goal.returns-then-count-eq0
returns-then-count-eq0 c =
    let process = process_number c.args.process in
    let e = c.count_through-count.ensures in
    no-front (runs_of_process process c.args.runs.now) (runs_of_process process (runs_through c.args.phase c.args.runs.now)) c.count_through-count.result
    (own-front c.args.runs.now c.args.self.now (length c.args.self.now.phases) process c.args.phase c.count_through-count.result c.requires.index c.requires.process e.within e.before e.behind)
    c.if-count-eq0.true

pub returns : goal.returns
returns c =
    let process = process_number c.args.process in
    let e = c.count_through-count.ensures in
    c.run_at.ensures
    ∙ last-front (runs_of_process process c.args.runs.now) (runs_of_process process (runs_through c.args.phase c.args.runs.now)) c.count_through-count.result
    (own-front c.args.runs.now c.args.self.now (length c.args.self.now.phases) process c.args.phase c.count_through-count.result c.requires.index c.requires.process e.within e.before e.behind)
    (omega (arith, c.if-count-eq0.false))
    (own-within c.args.runs.now c.args.self.now (length c.args.self.now.phases) process c.count_through-count.result c.requires.index c.requires.process e.within)
