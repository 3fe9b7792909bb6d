-- The runs of both machines are noted.
use Rattle.std.proofs.Common.{map, refl}
use Rattle.vf_base.specs.Base.{process_number}
use Rattle.window_runs.specs.RunsByProcess.{run_process}
use Rattle.lockstep_block.proofs.Noted.{alike-noted, both-noted}
use Rattle.lockstep_block.proofs.ended.note_ended.Goals as goal

pub returns-then-ended_alike : goal.returns-then-ended_alike
returns-then-ended_alike c =
    alike-noted c.args.apart.now.items (map process_number c.args.own.now) (map run_process c.args.good.now) (c.if-ended_alike.ensures refl)

pub returns : goal.returns
returns c =
    both-noted c.args.apart.now.items c.list_own.new.apart.items c.list_good.new.apart.items (map process_number c.args.own.now) (map run_process c.args.good.now) c.in_ok-list_own.ensures
    c.in_ok-list_good.ensures
