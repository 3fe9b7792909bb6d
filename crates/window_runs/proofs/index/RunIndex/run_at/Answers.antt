use Rattle.std.proofs.Common.{length, arith}
use Rattle.vf_base.specs.Base.{process_number}
use Rattle.window_runs.specs.RunsByProcess.{runs_of_process}
use Rattle.window_runs.proofs.Finding.{place-low, found-at, own-long, none-at}
use Rattle.window_runs.proofs.index.RunIndex.run_at.Goals as goal

pub bounds-runs-places : goal.bounds-runs-places
bounds-runs-places c =
    place-low c.args.runs.now c.args.self.now (length c.args.self.now.phases) (process_number c.args.process) c.args.place c.moments-places.result.now c.requires.index c.requires.process
    c.moments-places.ensures.moments c.if-place-places.true

pub returns-then-place-places : goal.returns-then-place-places
returns-then-place-places c =
    found-at c.args.runs.now c.args.self.now (length c.args.self.now.phases) (process_number c.args.process) c.args.place c.moments-places.result.now c.index-runs-places.result c.requires.index
    c.requires.process
    c.moments-places.ensures.moments c.if-place-places.true c.index-runs-places.is

pub returns-else-place-places : goal.returns-else-place-places
returns-else-place-places c =
    let long = own-long c.args.runs.now c.args.self.now (length c.args.self.now.phases) (process_number c.args.process) c.moments-places.result.now c.requires.index c.requires.process
    c.moments-places.ensures.moments in
    none-at (runs_of_process (process_number c.args.process) c.args.runs.now) c.args.place (omega (arith, long, c.if-place-places.false))
