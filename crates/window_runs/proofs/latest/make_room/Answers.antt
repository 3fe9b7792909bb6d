-- Zeros behind the list.
use Rattle.std.proofs.Common.{◌-◌, ◌+◌, arith}
use Rattle.std.specs.Prelude.{vec_len}
use Rattle.window_runs.proofs.Dues.{get-longer}
use Rattle.window_runs.proofs.latest.make_room.Goals as goal

pub returns-clause-same : goal.returns-clause-same
returns-clause-same c place =
    get-longer c.args.highest.now.items c.resize.new.self.items (c.args.number + 1) (c.args.number + 1 - vec_len c.args.highest.now) place
    (let size = c.args.highest.now.ok.0 in omega (arith, size, c.len.ensures, c.if-number-len.false)) c.in_ok-resize.ensures.items
