-- The time of the process is the run's.
use Rattle.std.proofs.Common.{◌≡◌, ◌≤◌, get_or, sym, ap, subst, ◌∙◌, arith}
use Rattle.std.proofs.lemmas.List.{get_or-set_same, get_or_default}
use Rattle.vf_base.specs.Base.{process_number}
use Rattle.window_runs.proofs.Dues.{DueBy, set-rises}
use Rattle.window_runs.proofs.latest.take_run.Goals as goal

pub returns-clause-rise : goal.returns-clause-rise
returns-clause-rise c process =
    let same = c.in_ok-make_room.ensures.same process in
    let at = process_number c.args.run.now.process in
    let held : get_or c.make_room.new.highest.items at 0 ≡ c.index.result.now =
    get_or_default c.make_room.new.highest.items at 0 c.index.result.now c.in_ok-make_room.ensures.there ∙ sym c.index.ensures in
    let up = set-rises c.make_room.new.highest.items at c.latest_due-time.result process (omega (arith, held, c.latest_due-time.ensures.since)) in
    omega (arith, same, up)

pub returns-clause-time : goal.returns-clause-time
returns-clause-time c = get_or-set_same c.make_room.new.highest.items _ c.latest_due-time.result 0 c.in_ok-make_room.ensures.there

pub returns-clause-all : goal.returns-clause-all
returns-clause-all c = subst (DueBy c.latest_due-time.result) c.as_slice.ensures c.latest_due-time.ensures.all
