-- One run more is listed.
use Rattle.std.proofs.Common.{List, [], map, take, sym, subst}
use Rattle.window_runs.specs.RunsByProcess.{run_process}
use Rattle.lockstep_block.specs.Runs.{NotesEnded}
use Rattle.lockstep_block.proofs.Noted.{all-taken, good-noted, more-taken}
use Rattle.lockstep_block.proofs.ended.list_good.Goals as goal

pub runs-preserved : goal.runs-preserved
runs-preserved c =
    let end = c.end-item.result in
    subst (NotesEnded c.args.apart.now.items c.list_run.new.apart.items []) (sym (more-taken run_process c.args.good.now c.runs.end-index end c.runs-test.true c.end-item.is))
    (good-noted c.args.apart.now.items c.runs.apart.items c.list_run.new.apart.items end.process [] (map run_process (take c.runs.end-index c.args.good.now)) c.runs.invariant c.in_ok-list_run.ensures)

pub returns : goal.returns
returns c =
    subst (NotesEnded c.args.apart.now.items c.runs.apart.items []) (all-taken run_process c.args.good.now c.runs.end-index c.runs-test.false) c.runs.invariant
